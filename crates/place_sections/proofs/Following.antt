-- The output section at a place is the next one of the script.
use Rattle.place_sections.proofs.Common.{Command, Item, ItemCommand, Layout, List, Ok, OutputSectionAt, PlacedOutput}
use Rattle.place_sections.proofs.Common.{Some, Statement, [], ap, append_assoc, arith, drop, if_sections, item_sections}
use Rattle.place_sections.proofs.Common.{item_step, items_within, length, length-append, length-map, map, noted}
use Rattle.place_sections.proofs.Common.{output_sections, refl, run, sections_append, sections_in, slice_get, suc, sym}
use Rattle.place_sections.proofs.Common.{take, take-append-drop, ℕ, ◌++◌, ◌+◌, ◌∙◌, ◌∷◌, ◌≡◌, ◌≤◌}
use Rattle.ldscript.specs.statements.Numbering.{items, items_of}
use Rattle.ldscript.specs.statements.declared.statement.Command.TheVariants as top
use Rattle.ldscript.specs.statements.declared.statement.ItemCommand.TheVariants as item
use Rattle.ldmodel.specs.Rows.{Piece}
use Rattle.place_sections.proofs.Outputs.{item_names, items_names}
use Rattle.place_sections.proofs.Runs.{drop_at}
use Rattle.place_sections.proofs.Taking.{after_first}
use Rattle.place_sections.specs.Next.{AreFirst, IsNext, IsNextAt}

-- the statements of SECTIONS have the first output sections
first_of : (c : Command) (ss : List Statement) (within : List Item) → (later : List OutputSectionAt)
    → output_sections ss ≡ sections_in within ++ later
    → (more : List OutputSectionAt) × (sections_in (items_of c ++ items ss)
    ≡ sections_in (if_sections c (λ is. is) within) ++ more)
first_of (top.Sections is) ss within later e = (output_sections ss, sections_append is (items ss))
first_of (top.Entry name) ss within later e = (later, e)
first_of (top.Memory regions) ss within later e = (later, e)
first_of (top.Directive c) ss within later e = (later, e)

pub are_first : (script : List Statement) → AreFirst script (items_within script)
are_first [] = record { later = []; all = refl }
are_first (s ∷ ss) =
    let f = are_first ss in
    let m = first_of s.command ss (items_within ss) f.later f.all in
    record { later = m.0; all = m.1 }

is_next : (script : List Statement) (k line : ℕ) (c : ItemCommand) (before more : List OutputSectionAt)
    → output_sections script ≡ before ++ (item_sections line c ++ more) → k ≡ length before → IsNext script k c
is_next script k line (item.Section o) before more e l = record {
  line = line;
  is = ap (slice_get (output_sections script)) l
      ∙ (ap (λ z. slice_get z (length before)) e
      ∙ after_first before (record { line = line; section = o }) more);
}
is_next script k line (item.Dot c) before more e l = tt
is_next script k line (item.Directive c) before more e l = tt
is_next script k line (item.Discard inputs) before more e l = tt

-- as many output sections are placed by a statement as it is
pub grown_by : (rows : List (List Piece)) (provided : List (List ℕ)) (s t : Layout) (x : Item)
    → item_step rows provided s x ≡ Ok t
    → length t.sections ≡ length (s.sections) + length (item_sections x.line x.command)
grown_by rows provided s t x e =
    let names = ap length (item_names rows provided x.line (noted s) x.command t e) in
    let a = length-map t.sections (λ (q : PlacedOutput). q.name) in
    let b = length-map s.sections (λ (q : PlacedOutput). q.name) in
    let c = length-append (map (λ (q : PlacedOutput). q.name) s.sections)
    (map (λ (y : OutputSectionAt). y.section.name) (item_sections x.line x.command)) in
    let d = length-map (item_sections x.line x.command) (λ (y : OutputSectionAt). y.section.name) in
    omega (arith, names, a, b, c, d)

module _ (rows : List (List Piece)) (provided : List (List ℕ)) (script : List Statement) (items : List Item)
    (start : Layout) (none : start.sections ≡ []) (first : AreFirst script items) (k : ℕ) (s : Layout)
    (comes : run (item_step rows provided) start (take k items) ≡ Ok s) where
  many : length s.sections ≡ length (sections_in (take k items))
  many =
      let names = ap length (items_names rows provided (take k items) start s comes) in
      let a = length-map s.sections (λ (q : PlacedOutput). q.name) in
      let b = length-map start.sections (λ (q : PlacedOutput). q.name) in
      let c = length-append (map (λ (q : PlacedOutput). q.name) start.sections)
      (map (λ (y : OutputSectionAt). y.section.name) (sections_in (take k items))) in
      let d = length-map (sections_in (take k items)) (λ (y : OutputSectionAt). y.section.name) in
      let n = ap length none in
      omega (arith, names, a, b, c, d, n)

  -- those up to the next statement and in it are among all
  pub more_to_come : (x : Item) → slice_get items k ≡ Some x
      → length s.sections + length (item_sections x.line x.command) ≤ length (sections_in items)
  more_to_come x there =
      let parted : items ≡ take k items ++ x ∷ drop (suc k) items =
      sym (take-append-drop k items) ∙ ap (λ l. take k items ++ l) (drop_at items k x there) in
      let all = ap (λ l. length (sections_in l)) parted
      ∙ (ap length (sections_append (take k items) (x ∷ drop (suc k) items))
      ∙ length-append (sections_in (take k items))
      (item_sections x.line x.command ++ sections_in (drop (suc k) items))) in
      let own = length-append (item_sections x.line x.command) (sections_in (drop (suc k) items)) in
      let m = many in
      omega (arith, all, own, m)

  pub next_at : IsNextAt script (length s.sections) items k
  next_at x there =
      let after : List OutputSectionAt = sections_in (drop (suc k) items) in
      let parted : items ≡ take k items ++ x ∷ drop (suc k) items =
      sym (take-append-drop k items) ∙ ap (λ l. take k items ++ l) (drop_at items k x there) in
      is_next script (length s.sections) x.line x.command (sections_in (take k items)) (after ++ first.later)
      (first.all
      ∙ (ap (λ l. sections_in l ++ first.later) parted
      ∙ (ap (λ l. l ++ first.later) (sections_append (take k items) (x ∷ drop (suc k) items))
      ∙ (append_assoc (sections_in (take k items)) (item_sections x.line x.command ++ after) first.later
      ∙ ap (λ l. sections_in (take k items) ++ l) (append_assoc (item_sections x.line x.command) after first.later)))))
      many
