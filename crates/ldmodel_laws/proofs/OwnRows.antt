-- The rows of a project are, output section by output section, what its input statements have.
use Rattle.ldmodel_laws.proofs.Common.{Bool, Each, InSection, InputStatementAt, Item, ItemCommand, Layout, List, Ok}
use Rattle.ldmodel_laws.proofs.Common.{Piece, Project, [], ap, append-nil, arith, below, entries_in, eq-eqb, eqb-true}
use Rattle.ldmodel_laws.proofs.Common.{false, inputs_from, inputs_in, item_inputs, item_sections, items, length, map}
use Rattle.ldmodel_laws.proofs.Common.{piece_of, range_with_len, refl, rows, sections_in, sorted_pieces, suc, sym}
use Rattle.ldmodel_laws.proofs.Common.{taken, true, zero, ℕ, ◌++◌, ◌+◌, ◌==◌, ◌∙◌, ◌∷◌, ◌≡◌, ◌≤◌}
use Rattle.ldscript.specs.statements.declared.statement.ItemCommand.TheVariants as item
use Rattle.ldmodel.specs.Placement.{placement}
use Rattle.ldmodel_laws.proofs.RowParts.{IsOf, in_rows, of_all, in_none, in_all, in_append, StandsIn, stands_in}
use Rattle.ldmodel_laws.proofs.RowParts.{stands_discarded, stands_later}
use Rattle.ldmodel_laws.proofs.RowsPlaced.{coming, all_placed}
use Rattle.ldmodel_laws.proofs.EachOf.{each_sorted}

same_from : {X : Type 0} (f g : ℕ → X) (k : ℕ) → ((j : ℕ) → k ≤ j → f j ≡ g j) → (n : ℕ) → map f (range_with_len k n)
    ≡ map g (range_with_len k n)
same_from f g k h zero = refl
same_from f g k h (suc n) =
    ap (λ x. x ∷ map f (range_with_len (k + 1) n)) (h k (omega arith))
    ∙ ap (λ xs. g k ∷ xs) (same_from f g (k + 1) (λ j l. h j (omega (arith, l))) n)

module _ (of : ℕ → InputStatementAt → List Piece) (mark : (n : ℕ) (i : InputStatementAt) → Each (IsOf n) (of n i)) where
  abbrev rows_of : ℕ → List InputStatementAt → ℕ → List Piece
  rows_of n is j = in_rows of mark j n is

  abbrev all_rows : ℕ → ℕ → List Item → List (List Piece)
  all_rows k n is = map (rows_of n (inputs_from k is)) (range_with_len k (length (sections_in is)))

  -- statements that stand in no output section from number k on
  past : (k n : ℕ) (here more : List InputStatementAt) → ((j : ℕ) → k ≤ j → Each (StandsIn of mark j false) here)
      → (j : ℕ) → k ≤ j → rows_of (n + length here) more j ≡ rows_of n (here ++ more) j
  past k n here more h j l =
      ap (λ xs. xs ++ rows_of (n + length here) more j) (sym (in_none of mark j n here (h j l)))
      ∙ sym (in_append of mark j n here more)

  no_section : (k n line : ℕ) (c : ItemCommand) (is : List Item) → item_sections line c ≡ []
      → ((j : ℕ) → k ≤ j → Each (StandsIn of mark j false) (item_inputs k c))
      → coming of mark (k + length (item_sections line c)) (n + length (item_inputs k c)) is
      ≡ all_rows (k + length (item_sections line c)) (n + length (item_inputs k c)) is
      → coming of mark (k + length (item_sections line c)) (n + length (item_inputs k c)) is
      ≡ map (rows_of n (item_inputs k c ++ inputs_from (k + length (item_sections line c)) is))
      (range_with_len k (length (item_sections line c ++ sections_in is)))
  no_section k n line c is e h i =
      let here : k + length (item_sections line c) ≡ k =
      (let f : length (item_sections line c) ≡ 0 = ap length e in omega (arith, f)) in
      let more : List InputStatementAt = inputs_from (k + length (item_sections line c)) is in
      i
      ∙ ap (λ m. map (rows_of (n + length (item_inputs k c)) more) (range_with_len m (length (sections_in is)))) here
      ∙ same_from (rows_of (n + length (item_inputs k c)) more) (rows_of n (item_inputs k c ++ more)) k
      (past k n (item_inputs k c) more h) (length (sections_in is))
      ∙ ap (λ xs. map (rows_of n (item_inputs k c ++ more)) (range_with_len k (length (xs ++ sections_in is)))) (sym e)

  differs : (k j : ℕ) → k + 1 ≤ j → (k == j) ≡ false
  differs k j l = go (k == j) refl
    where
      go : (t : Bool) → (k == j) ≡ t → t ≡ false
      go true e = absurd (omega (arith, l, eqb-true k j e))
      go false e = refl

  by_command : (k n line : ℕ) (c : ItemCommand) (is : List Item)
      → coming of mark (k + length (item_sections line c)) (n + length (item_inputs k c)) is
      ≡ all_rows (k + length (item_sections line c)) (n + length (item_inputs k c)) is
      → coming of mark k n (record { line = line; command = c } ∷ is)
      ≡ all_rows k n (record { line = line; command = c } ∷ is)
  by_command k n line (item.Dot c) is h = no_section k n line (item.Dot c) is refl (λ j l. tt) h
  by_command k n line (item.Directive c) is h = no_section k n line (item.Directive c) is refl (λ j l. tt) h
  by_command k n line (item.Discard ds) is h =
      no_section k n line (item.Discard ds) is refl (λ j l. stands_discarded of mark j ds) h
  by_command k n line (item.Section o) is h =
      let here : List InputStatementAt = inputs_in (InSection k) o.body in
      let more : List InputStatementAt = inputs_from (k + 1) is in
      let own : of_all of mark n here ≡ rows_of n (here ++ more) k =
      sym (append-nil (of_all of mark n here))
      ∙ ap (λ xs. of_all of mark n here
      ++ xs) (sym (in_none of mark k (n + length here) more (stands_later of mark (k + 1) k (omega arith) is)))
      ∙ ap (λ xs. xs ++ rows_of (n + length here) more k)
      (sym (in_all of mark k n here (stands_in of mark k k true (eq-eqb k k refl) o.body)))
      ∙ sym (in_append of mark k n here more) in
      ap (λ x. x ∷ coming of mark (k + 1) (n + length here) is) own
      ∙ ap (λ xs. rows_of n (here ++ more) k ∷ xs) (h
      ∙ same_from (rows_of (n + length here) more) (rows_of n (here ++ more)) (k + 1)
      (past (k + 1) n here more (λ j l. stands_in of mark k j false (differs k j l) o.body)) (length (sections_in is)))

  pub all_coming : (k n : ℕ) (is : List Item) → coming of mark k n is ≡ all_rows k n is
  all_coming k n [] = refl
  all_coming k n (i ∷ is) =
      by_command k n i.line i.command is
      (all_coming (k + length (item_sections i.line i.command)) (n + length (item_inputs k i.command)) is)

-- ---- those of a project

each_map : {X Y : Type 0} (P : Y → Type 0) (f : X → Y) → ((x : X) → P (f x)) → (xs : List X) → Each P (map f xs)
each_map P f h [] = tt
each_map P f h (x ∷ xs) = (h x, each_map P f h xs)

module _ (p : Project) where
  marked : (n : ℕ) (i : InputStatementAt) → Each (IsOf n) (sorted_pieces p n i)
  marked n i = each_sorted (IsOf n) (below i.input.sort) (taken p n)
      (each_map (IsOf n) (piece_of n) (λ s. eq-eqb n n refl) _)

  own_rows : coming (sorted_pieces p) marked 0 0 (items p.script) ≡ rows p
  unfolding rows
  own_rows = all_coming (sorted_pieces p) marked 0 0 (items p.script)

pub placed_are_rows : (p : Project) (provided : List (List ℕ)) (s : Layout) → placement p.script (rows p) provided
    ≡ Ok s → map entries_in s.sections ≡ rows p
placed_are_rows p provided s e = all_placed (sorted_pieces p) (marked p) (rows p) provided p.script s e (own_rows p)
