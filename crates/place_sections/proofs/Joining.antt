-- The layout of a script from those of its parts, and what a previous layout of the script tells of its SECTIONS.
use Rattle.place_sections.proofs.Common.{AreBoundaries, EarlierScript, Err, Fault, Gives, Input, Item, Layout}
use Rattle.place_sections.proofs.Common.{LayoutStop, List, Naming, Ok, PreviousPlacement, Result, Statement}
use Rattle.place_sections.proofs.Common.{after_sections, and_then, ap, arith, before_sections, inl, inr, item_step}
use Rattle.place_sections.proofs.Common.{items_within, length, length-append, refl, rows_of, run, sections_in}
use Rattle.place_sections.proofs.Common.{statement_step, subst, sym, ℕ, ◌∙◌, ◌≡◌, ◌⊎◌}
use Rattle.ldmodel.specs.Rows.{Piece}
use Rattle.place_sections.proofs.Ending.{chained}
use Rattle.place_sections.proofs.Following.{are_first}
use Rattle.place_sections.proofs.Grows.{given_is}
use Rattle.place_sections.proofs.InParts.{before_same, in_parts}
use Rattle.place_sections.proofs.Onward.{leads_before, statements_on}
use Rattle.place_sections.specs.State.{fault_of}
use Rattle.place_sections.specs.declared.stop.LayoutStop.TheVariants.{NoMemory}
use Rattle.growth.specs.Memory.{no_memory}

module _ (rows : List (List Piece)) (provided : List (List ℕ)) (script : List Statement) (s : Layout) where
  -- where the statements before SECTIONS come to
  first_part_gives : (r : Result Layout Fault) → run (statement_step rows provided) s (before_sections script) ≡ r
      → run (statement_step rows provided) s script
      ≡ and_then r (λ t. and_then (run (item_step rows provided) t (items_within script)) (λ u.
      run (statement_step rows provided) u (after_sections script)))
  first_part_gives r e =
      in_parts rows provided script s
      ∙ ap (λ z. and_then z (λ t. and_then (run (item_step rows provided) t (items_within script)) (λ u.
      run (statement_step rows provided) u (after_sections script)))) e

  pub before_stops : (f : Fault) → run (statement_step rows provided) s (before_sections script) ≡ Err f
      → run (statement_step rows provided) s script ≡ Err f
  before_stops f e = first_part_gives (Err f) e

  pub items_stop : (t : Layout) (f : Fault) → run (statement_step rows provided) s (before_sections script) ≡ Ok t
      → run (item_step rows provided) t (items_within script) ≡ Err f
      → run (statement_step rows provided) s script ≡ Err f
  items_stop t f e stops =
      first_part_gives (Ok t) e
      ∙ ap (λ z. and_then z (λ u. run (statement_step rows provided) u (after_sections script))) stops

  pub after_goes : (t u : Layout) → run (statement_step rows provided) s (before_sections script) ≡ Ok t
      → run (item_step rows provided) t (items_within script) ≡ Ok u
      → run (statement_step rows provided) s script ≡ run (statement_step rows provided) u (after_sections script)
  after_goes t u e f =
      first_part_gives (Ok t) e
      ∙ ap (λ z. and_then z (λ v. run (statement_step rows provided) v (after_sections script))) f

-- what is told of the script tells of its SECTIONS
pub earlier_items : (n : Naming) (i : Input) (script script' : List Statement) (s t : Layout)
    (statements : List Statement) (items : List Item) → script' ≡ script → items ≡ items_within statements
    → run (statement_step (rows_of n i) i.provided.now) s (before_sections statements) ≡ Ok t
    → EarlierScript n i script s statements → PreviousPlacement n i script' t items
earlier_items n i script script' s t statements items same_script same_items comes e =
    let provided : List (List ℕ) = i.provided.now in
    let first : run (statement_step e.rows provided) s (before_sections statements) ≡ Ok t =
    before_same e.rows (rows_of n i) provided statements s ∙ comes in
    let start : e.boundaries.start ≡ t = given_is e.boundaries.start t (sym e.boundaries.comes ∙ first) in
    let goes = sym (first_part_gives e.rows provided statements s (Ok t) first) ∙ e.leads.comes in
    let h = chained (run (item_step e.rows provided) t (items_within statements))
    (λ u. run (statement_step e.rows provided) u (after_sections statements)) e.leads.layout goes in
    subst (λ z. PreviousPlacement n i z t items) (sym same_script)
    (subst (λ z. PreviousPlacement n i script t z) (sym same_items) (record {
      rows = e.rows;
      same = e.same;
      leads = leads_before script i.kept h.value e.leads.layout
          (run (item_step e.rows provided) t (items_within statements))
          (run (statement_step e.rows provided) s statements)
          (statements_on e.rows provided (after_sections statements) h.value e.leads.layout h.second) h.first e.leads
          refl;
      boundaries = subst (λ z. AreBoundaries e.rows provided z (items_within statements) i.kept.boundaries.now) start
          e.boundaries.all;
      many =
          let f = are_first statements in
          let l = ap length f.all ∙ length-append (sections_in (items_within statements)) f.later in
          let m = e.many in
          omega (arith, l, m);
    }))

-- where a part stops, or memory runs out, so does the whole
pub stops_so : {T : Type 0} (wanted whole : Result Layout Fault) (t : Layout) (r : Result T LayoutStop) (f : LayoutStop)
    → (wanted ≡ Err (fault_of f)) ⊎ (f ≡ NoMemory no_memory) → (wanted ≡ Err (fault_of f) → whole ≡ Err (fault_of f))
    → r ≡ Err f
    → Gives whole t r
stops_so wanted whole t r f (inl e) so is = subst (Gives whole t) (sym is) (inl (so e))
stops_so wanted whole t r f (inr m) so is = subst (Gives whole t) (sym is) (inr m)
