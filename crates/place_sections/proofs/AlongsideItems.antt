-- The statements of SECTIONS, and those of a script, go on alongside a previous layout.
use Rattle.place_sections.proofs.Common.{Bool, Command, HasStarts, Input, Item, ItemCommand, ItemsAlongside}
use Rattle.place_sections.proofs.Common.{KeyedSection, Layout, Leads, List, Naming, Ok, OutputSection, ScriptAlongside}
use Rattle.place_sections.proofs.Common.{SectionAlongside, Statement, [], after_sections, and_then, ap, arith}
use Rattle.place_sections.proofs.Common.{before_sections, earlier_of, false, get_or, if_sections, item_command_step}
use Rattle.place_sections.proofs.Common.{item_step, items_within, length, length-map, map, names_of_both, names_on}
use Rattle.place_sections.proofs.Common.{next_row, noted, refl, row_named, rows_of, run, section_of, section_step}
use Rattle.place_sections.proofs.Common.{starts_in, statement_step, subst, sym, true, ℕ, ◌++◌, ◌<◌, ◌∙◌, ◌∷◌, ◌≡◌, ◌≤◌}
use Rattle.std.proofs.Math.ListN.{get_or-map}
use Rattle.ldscript.specs.statements.Numbering.{all_directives, item_directives, items_directives}
use Rattle.ldscript.specs.statements.declared.statement.Command.TheVariants as top
use Rattle.ldscript.specs.statements.declared.statement.ItemCommand.TheVariants as item
use Rattle.ldmodel.specs.declared.rows.Piece as rows
use Rattle.ldmodel_laws.specs.Alike.{AreAlike, ItemsStayAlike, StatementsStayAlike, names_given}
use Rattle.place_sections.proofs.Ending.{Chained, chained}
use Rattle.place_sections.proofs.InParts.{in_parts, whole}
use Rattle.place_sections.proofs.Onward.{items_on, leads_before, statements_on}
use Rattle.place_sections.proofs.Taking.{count_is, grown, has_starts, starts_are}
use Rattle.place_sections.specs.Alongside.{HasKept, IfSection, IsAlongside}

module _ (n : Naming) (i : Input) (script : List Statement) (s : Layout) (x : Item) (xs : List Item)
    (a : ItemsAlongside n i script s (x ∷ xs)) where
  first : Chained (item_step a.rows a.provided a.state x) (λ d. run (item_step a.rows a.provided) d xs) a.leads.layout
  unfolding run
  first =
      chained (item_step a.rows a.provided a.state x) (λ d. run (item_step a.rows a.provided) d xs) a.leads.layout
      a.leads.comes

  alike : AreAlike (names_given (item_directives x.line x.command) ++ (names_given (items_directives xs)
      ++ a.names)) a.state
      s
  alike =
      subst (λ z. AreAlike z a.state s) (names_on (item_directives x.line x.command) (items_directives xs) a.names)
      a.alike

  -- the layouts stay alongside
  pub items_go_on : ItemsStayAlike → (provided : List (List ℕ)) (t : Layout)
      → item_step (rows_of n i) provided s x ≡ Ok t → length t.sections ≤ i.kept.first
      → ItemsAlongside n i script t xs
  items_go_on law provided t e l = record {
    rows = a.rows;
    same = a.same;
    provided = a.provided;
    names = a.names;
    state = first.value;
    alike = law i.kept.first a.rows (rows_of n i) a.provided provided (names_given (items_directives xs) ++ a.names) x
        a.state s first.value t a.same alike first.first e l;
    leads = record {
      layout = a.leads.layout;
      comes = first.second;
      sections = a.leads.sections;
      counts = a.leads.counts;
      starts = a.leads.starts;
      data_commands = a.leads.data_commands;
      dots = a.leads.dots;
      symbols = a.leads.symbols;
      found = a.leads.found;
      rises = a.leads.rises;
      ends = a.leads.ends;
    };
  }

  section_is : (o : OutputSection) → x.command ≡ item.Section o
      → section_step a.provided (next_row a.rows a.state) (noted a.state) x.line o ≡ Ok first.value
  unfolding item_command_step
  section_is o e = sym (ap (item_command_step a.rows a.provided x.line (noted a.state)) e) ∙ first.first

  same_sections : (sections : List KeyedSection) → s.sections ≡ map (section_of n) sections
      → a.state.sections ≡ map (section_of n) sections
  same_sections sections is = ap (λ (z : Layout). z.sections) (sym alike.same) ∙ is

  -- the previous layout goes on with an output section, whose row is as it was
  section_leads : (sections : List KeyedSection) → s.sections ≡ map (section_of n) sections → (o : OutputSection)
      → x.command ≡ item.Section o → length sections < i.kept.first
      → Leads script i.kept (section_step a.provided
      (row_named n (get_or (map (λ v. v.items) i.rows.now) (length sections) [])) (noted a.state) x.line o)
  section_leads sections is o e below =
      let k : ℕ = length sections in
      let row : List rows.Piece = get_or (map (λ v. v.items) i.rows.now) k [] in
      let row_is : next_row a.rows a.state ≡ row_named n row =
      ap (λ j. get_or a.rows j []) (ap length (same_sections sections is) ∙ length-map sections (section_of n))
      ∙ (a.same k below ∙ get_or-map (row_named n) (map (λ v. v.items) i.rows.now) k []) in
      let step : section_step a.provided (row_named n row) (noted a.state) x.line o ≡ Ok first.value =
      ap (λ z. section_step a.provided z (noted a.state) x.line o) (sym row_is) ∙ section_is o e in
      leads_before script i.kept first.value a.leads.layout
      (section_step a.provided (row_named n row) (noted a.state) x.line o)
      (run (item_step a.rows a.provided) a.state (x ∷ xs))
      (items_on a.rows a.provided xs first.value a.leads.layout first.second) step a.leads refl

  -- it has where the input sections of that start
  pub starts_there : (sections : List KeyedSection) → s.sections ≡ map (section_of n) sections → (o : OutputSection)
      → x.command ≡ item.Section o → length sections < i.kept.first
      → HasStarts (earlier_of i.kept.previous) (length sections) (length (starts_in sections))
  starts_there sections is o e below =
      has_starts n script i.kept a.provided (get_or (map (λ v. v.items) i.rows.now) (length sections) [])
      (noted a.state) x.line o sections (same_sections sections is) (section_leads sections is o e below)

  -- an output section goes on alongside
  pub section_alongside : (sections : List KeyedSection) → s.sections ≡ map (section_of n) sections
      → IsAlongside n i (noted s) sections x.line x.command
  section_alongside sections is = by_command x.command refl
    where
      by_command : (c : ItemCommand) → x.command ≡ c → IsAlongside n i (noted s) sections x.line c
      by_command (item.Dot c) e = tt
      by_command (item.Directive c) e = tt
      by_command (item.Discard inputs) e = tt
      by_command (item.Section o) e = λ starts other below at.
          let k : ℕ = length sections in
          let row : List rows.Piece = get_or (map (λ v. v.items) i.rows.now) k [] in
          let own : a.state.sections ≡ map (section_of n) sections = same_sections sections is in
          let l = section_leads sections is o e below in
          let g = grown n script i.kept a.provided row (noted a.state) x.line o sections own l in
          let count = count_is n script i.kept a.provided row (noted a.state) x.line o sections own l (length starts)
          at.counted in
          let are = starts_are n script i.kept a.provided row (noted a.state) x.line o sections own l (length starts)
          count in
          subst (λ z. SectionAlongside z (noted s) x.line o starts)
          (sym (get_or-map (row_named n) (map (λ v. v.items) i.rows.now) k [])) (record {
            provided = a.provided;
            names = names_given (items_directives xs) ++ a.names;
            state = noted a.state;
            alike = record {
              same = ap noted alike.same;
              symbols = (subst (λ z. AreAlike (names_given (item_directives x.line z)
                  ++ (names_given (items_directives xs) ++ a.names)) a.state s) e alike).symbols;
            };
            after = l.layout;
            comes = l.comes;
            section = g.section;
            added = g.added;
            starts_are = sym are ∙ sym at.are;
          })

-- the commands before SECTIONS, in it and after it
directives_first : (line : ℕ) (c : Command) (xs : List Statement)
    → all_directives xs ≡ all_directives (before_sections xs)
    ++ (items_directives (items_within xs) ++ all_directives (after_sections xs))
    → all_directives (record { line = line; command = c } ∷ xs)
    ≡ all_directives (if_sections c (λ items. []) (record { line = line; command = c } ∷ before_sections xs))
    ++ (items_directives (if_sections c (λ items. items) (items_within xs))
    ++ all_directives (if_sections c (λ items. xs) (after_sections xs)))
directives_first line (top.Sections items) xs later = refl
directives_first line (top.Entry name) xs later = later
directives_first line (top.Memory regions) xs later = later
directives_first line (top.Directive c) xs later = ap (λ l. record { line = line; command = c } ∷ l) later

directives_in_parts : (script : List Statement) → all_directives script
    ≡ all_directives (before_sections script)
    ++ (items_directives (items_within script) ++ all_directives (after_sections script))
directives_in_parts [] = refl
directives_in_parts (x ∷ xs) = directives_first x.line x.command xs (directives_in_parts xs)

-- what goes on alongside a script goes on alongside its SECTIONS
pub items_alongside : (n : Naming) (i : Input) (script script' : List Statement) (s t : Layout)
    (statements : List Statement) (items : List Item) → StatementsStayAlike → script' ≡ script
    → items ≡ items_within statements
    → run (statement_step (rows_of n i) i.provided.now) s (before_sections statements) ≡ Ok t
    → length t.sections ≤ i.kept.first
    → ScriptAlongside n i script s statements → ItemsAlongside n i script' t items
items_alongside n i script script' s t statements items law same_script same_items comes few a =
    let before : List Statement = before_sections statements in
    let within : List Item = items_within statements in
    let after : List Statement = after_sections statements in
    let left : List (List ℕ) = names_given (all_directives after) in
    let goes : whole a.rows a.provided a.state before within after ≡ Ok a.leads.layout =
    sym (in_parts a.rows a.provided statements a.state) ∙ a.leads.comes in
    let h = chained (run (statement_step a.rows a.provided) a.state before) (λ u.
    and_then (run (item_step a.rows a.provided) u within) (λ v. run (statement_step a.rows a.provided) v after))
    a.leads.layout goes in
    let k = chained (run (item_step a.rows a.provided) h.value within) (λ v.
    run (statement_step a.rows a.provided) v after) a.leads.layout h.second in
    let names : names_given (all_directives statements)
    ≡ names_given (all_directives before) ++ (names_given (items_directives within) ++ left) =
    ap names_given (directives_in_parts statements)
    ∙ (names_of_both (all_directives before) (items_directives within ++ all_directives after)
    ∙ ap (λ l. names_given (all_directives before) ++ l)
    (names_of_both (items_directives within) (all_directives after))) in
    subst (λ z. ItemsAlongside n i z t items) (sym same_script)
    (subst (ItemsAlongside n i script t) (sym same_items) (record {
      rows = a.rows;
      same = a.same;
      provided = a.provided;
      names = left;
      state = h.value;
      alike = law i.kept.first a.rows (rows_of n i) a.provided i.provided.now
          (names_given (items_directives within) ++ left)
          before a.state s h.value t a.same (subst (λ z. AreAlike z a.state s) names a.alike) h.first comes few;
      leads = leads_before script i.kept k.value a.leads.layout (run (item_step a.rows a.provided) h.value within)
          (run (statement_step a.rows a.provided) a.state statements)
          (statements_on a.rows a.provided after k.value a.leads.layout k.second) k.first a.leads refl;
    }))

-- where the next statement is an output section, a previous layout goes on with it
pub next_alongside : (n : Naming) (i : Input) (script : List Statement) (s : Layout) (x : Item) (xs : List Item)
    (sections : List KeyedSection) → s.sections ≡ map (section_of n) sections
    → (i.kept.same_provided ≡ false → 0 < i.kept.first → length sections ≤ i.kept.first
    → ItemsAlongside n i script s (x ∷ xs)) → IsAlongside n i (noted s) sections x.line x.command
next_alongside n i script s x xs sections is given = by_command x.command refl
  where
    by_command : (c : ItemCommand) → x.command ≡ c → IsAlongside n i (noted s) sections x.line c
    by_command (item.Dot c) e = tt
    by_command (item.Directive c) e = tt
    by_command (item.Discard inputs) e = tt
    by_command (item.Section o) e =
        λ starts other below at.
        let a = given other (omega (arith, below)) (omega (arith, below)) in
        subst (IsAlongside n i (noted s) sections x.line) e (section_alongside n i script s x xs a sections is) starts
        other below at

-- where the row of the next output section is as it was, it was not taken over, and the previous layout has it
pub kept_there : (n : Naming) (i : Input) (script : List Statement) (s : Layout) (x : Item) (xs : List Item)
    (sections : List KeyedSection) → s.sections ≡ map (section_of n) sections
    → (i.kept.same_provided ≡ true → length sections < i.kept.first → (o : OutputSection)
    → x.command ≡ item.Section o → ⊥)
    → (i.kept.same_provided ≡ false → 0 < i.kept.first → length sections ≤ i.kept.first
    → ItemsAlongside n i script s (x ∷ xs)) → IfSection x.command (HasKept i sections)
kept_there n i script s x xs sections is taken given = by_command x.command refl
  where
    by_provided : (o : OutputSection) → x.command ≡ item.Section o → length sections < i.kept.first → (b : Bool)
        → i.kept.same_provided ≡ b
        → (i.kept.same_provided ≡ false)
        × HasStarts (earlier_of i.kept.previous) (length sections) (length (starts_in sections))
    by_provided o e below true same = absurd (taken same below o e)
    by_provided o e below false other = (
      other,
      starts_there n i script s x xs (given other (omega (arith, below)) (omega (arith, below))) sections is o e below,
    )

    by_command : (c : ItemCommand) → x.command ≡ c → IfSection c (HasKept i sections)
    by_command (item.Dot c) e = tt
    by_command (item.Directive c) e = tt
    by_command (item.Discard inputs) e = tt
    by_command (item.Section o) e = λ below. by_provided o e below i.kept.same_provided refl
