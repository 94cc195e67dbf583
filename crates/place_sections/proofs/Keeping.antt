-- What a placement that is kept tells of a layout.
use Rattle.place_sections.proofs.Common.{AreBoundariesOf, EarlierScript, Input, Keeps, Layout, Leads, List, Naming}
use Rattle.place_sections.proofs.Common.{OutputSectionAt, PlacedOutput, Places, Same, ScriptAlongside, Statement, ap}
use Rattle.place_sections.proofs.Common.{arith, counts_of, data_of, flat_map, length, length-map, map, nothing_placed}
use Rattle.place_sections.proofs.Common.{output_sections, placed_of, placement, provided_names, refl, rows_of, run}
use Rattle.place_sections.proofs.Common.{starts_of, statement_step, subst, sym, symbol_of, true, ℕ, ◌<◌, ◌∙◌, ◌≡◌}
use Rattle.ldscript.specs.statements.Numbering.{all_directives}
use Rattle.ldmodel.specs.Rows.{Piece}
use Rattle.ldmodel.specs.declared.script_symbol.DirectiveIndex.{DirectiveIndex}
use Rattle.ldmodel_laws.specs.Alike.{AreAlike, names_given}
use Rattle.place_terms.specs.LayoutSymbols.{AreFound, Rises}
use Rattle.place_sections.proofs.Beginning.{begins_same}
use Rattle.place_sections.proofs.Outputs.{outputs_are}
use Rattle.place_sections.specs.Boundaries.{data_in}
use Rattle.place_sections.specs.Resumable.{IsResumable}

whole_run : (rows : List (List Piece)) (provided : List (List ℕ)) (script : List Statement)
    → run (statement_step rows provided) nothing_placed script ≡ placement script rows provided
unfolding placement
whole_run rows provided script = refl

-- with a placement that is kept there is a previous layout, with the PROVIDEs that were in force
module _ (n : Naming) (i : Input) (script : List Statement) (p : Places) (first : ℕ) (numbers : List DirectiveIndex)
    (k : IsResumable script (rows_of n i) p first) (a : Keeps p first numbers i.kept) where
  same_rows : Same i.kept.first k.earlier (rows_of n i)
  same_rows j h = k.same j (subst (λ m. j < m) a.first_is h)

  leads : (provided : List (List ℕ)) → k.earlier_provided ≡ provided
      → Leads script i.kept (run (statement_step k.earlier provided) nothing_placed script)
  leads provided e = record {
    layout = k.placed.layout;
    comes = whole_run k.earlier provided script ∙ (ap (placement script k.earlier) (sym e) ∙ k.placed.placed);
    sections = begins_same (map placed_of k.placed.layout.sections) i.kept.previous.sections.now
        (a.sections ∙ k.placed.places.sections);
    counts = begins_same (counts_of k.placed.layout.sections) i.kept.previous.counts.now
        (a.counts ∙ k.placed.places.counts);
    starts = begins_same (flat_map starts_of k.placed.layout.sections) i.kept.previous.starts.now
        (a.starts ∙ k.placed.places.starts);
    data_commands = begins_same (data_in k.placed.layout.sections) (map data_of i.kept.previous.data_commands.now)
        (ap (map data_of) a.data_commands ∙ k.placed.places.data_commands);
    dots = begins_same k.placed.layout.dots i.kept.dots.now (a.dots ∙ k.placed.places.dots);
    symbols = begins_same k.placed.layout.symbols (map (symbol_of script) i.kept.symbols.now)
        (ap (map (symbol_of script)) a.symbols ∙ k.placed.places.symbols);
    found = subst (AreFound script) (sym a.symbols) k.placed.places.found;
    rises = subst Rises (sym a.symbols) k.placed.places.rises;
    ends = a.ends;
  }

  -- there is one boundary more than output sections
  one_more : length (output_sections script) < length i.kept.boundaries.now
  one_more =
      let names = ap length
      (outputs_are script k.earlier k.earlier_provided k.placed.layout k.placed.placed) in
      let m = length-map k.placed.layout.sections (λ (q : PlacedOutput). q.name) in
      let o = length-map (output_sections script) (λ (x : OutputSectionAt). x.section.name) in
      let b = ap length a.boundaries in
      let many = k.placed.many in
      omega (arith, names, m, o, b, many)

  module _ (script' statements : List Statement) (s : Layout) (same : script' ≡ script) (all : statements ≡ script)
      (none : s ≡ nothing_placed) where
    -- where the same PROVIDEs are in force now
    pub kept_earlier : i.provided.now ≡ provided_names script numbers → i.kept.same_provided ≡ true
        → EarlierScript n i script' s statements
    kept_earlier now equal =
        subst (λ z. EarlierScript n i z s statements) (sym same)
        (subst (λ z. EarlierScript n i script s z) (sym all)
        (subst (λ z. EarlierScript n i script z script) (sym none) (record {
          rows = k.earlier;
          same = same_rows;
          leads = leads i.provided.now were;
          boundaries = subst (AreBoundariesOf k.earlier i.provided.now nothing_placed script) (sym a.boundaries)
              (subst (λ z. AreBoundariesOf k.earlier z nothing_placed script p.boundaries) were k.placed.boundaries);
          many = one_more;
        })))
      where
        were : k.earlier_provided ≡ i.provided.now
        were = sym k.placed.in_force ∙ (ap (provided_names script) (a.provided_is equal) ∙ sym now)

    -- whichever are
    pub kept_alongside : AreAlike (names_given (all_directives script)) nothing_placed nothing_placed
        → ScriptAlongside n i script' s statements
    kept_alongside begun =
        subst (λ z. ScriptAlongside n i z s statements) (sym same)
        (subst (λ z. ScriptAlongside n i script s z) (sym all)
        (subst (λ z. ScriptAlongside n i script z script) (sym none) (record {
          rows = k.earlier;
          same = same_rows;
          provided = k.earlier_provided;
          state = nothing_placed;
          alike = begun;
          leads = leads k.earlier_provided refl;
        })))
