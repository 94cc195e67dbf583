-- How rows grow, and that they are those of the project in the end.
use Rattle.gather.proofs.Common.{Bool, Global, InputSection, InputStatementAt, List, None, Option, Orders, Project}
use Rattle.gather.proofs.Common.{Some, Sort, Vec, [], ap, append-nil, append_assoc, arith, cases_eq, cond, cons_option}
use Rattle.gather.proofs.Common.{enumerate_from, eq-eqb, eqb, eqb-true, false, filter, filter_map, first_match}
use Rattle.gather.proofs.Common.{flat_map, flat_map-cons, get_or, get_or-set_other, get_or-set_same, get_or_default}
use Rattle.gather.proofs.Common.{input_statements, length, length-set, live, map, map-append, ne_eqb, of_statement}
use Rattle.gather.proofs.Common.{option_map, option_map_or, output_sections, piece_in, range_with_len, refl, rows_in}
use Rattle.gather.proofs.Common.{set, shown_row, subst, suc, sym, taken_piece, true, ℕ, ⊎_elim, ◌++◌, ◌+◌, ◌<◌, ◌∙◌}
use Rattle.gather.proofs.Common.{◌∷◌, ◌≡◌}
use Rattle.ldscript.specs.statements.declared.place.InputPlace.TheVariants.{InSection}
use Rattle.ldmodel.specs.Rows.{Piece, piece_of, below, is_in_section, is_taken_by, pieces_in, row, rows}
use Rattle.ldmodel.specs.Sorting.{sort_by}
use Rattle.ldmodel.specs.declared.rows.Piece as code
use Rattle.gather.specs.RowPieces.{AddsTo, pieces_at}
use Rattle.gather.proofs.Sorts.{filter_of_map}

-- the ordered pieces of a statement come to the end of its row
pub adds_here : (p : Project) (sort : Option Sort) (number : ℕ) (xs ys : List code.Piece)
    (old : List (Vec code.Piece Global)) (was now : Vec code.Piece Global)
    → number < length old → was ≡ get_or old number was → Orders p sort xs ys → now.items ≡ was.items ++ ys
    → AddsTo p (InSection number) sort xs old (set old number now)
adds_here p sort number xs ys old was now within is ordered pushed = record {
  long = length-set old number now;
  row = λ k d h. ⊎_elim
      (λ same. subst (λ j. shown_row p (get_or (set old number now) j d) ≡ shown_row p (get_or old j d)
      ++ cond (eqb number j) added []) (sym same)
      (ap (shown_row p) (get_or-set_same old number now d within) ∙ grown
      ∙ ap (λ v. shown_row p v ++ added) (is ∙ get_or_default old number was d within)
      ∙ ap (λ b. shown_row p (get_or old number d) ++ cond b added []) (sym (eq-eqb number number refl))))
      (λ ne. ap (shown_row p) (get_or-set_other old number k now d ne)
      ∙ sym (append-nil (shown_row p (get_or old k d)))
      ∙ ap (λ b. shown_row p (get_or old k d) ++ cond b added []) (sym (ne_eqb number k (λ e. ne (sym e)))))
      (cases_eq k number);
}
  where
    added : List Piece
    added = sort_by (below sort) (map (piece_in p) xs)

    grown : shown_row p now ≡ shown_row p was ++ added
    grown =
        ap (map (piece_in p)) pushed ∙ map-append (piece_in p) was.items ys ∙ ap (λ l. shown_row p was ++ l) ordered

-- the rows, one statement later
pub rows_step : (p : Project) (xs bucket : List code.Piece) (k i : ℕ) (statements rest : List InputStatementAt)
    (st : InputStatementAt) (old new : List Piece) (all : List Piece)
    → bucket ≡ of_statement xs i
    → new ≡ old ++ cond (is_in_section k st.place) (sort_by (below st.input.sort) (map (piece_in p) bucket)) []
    → statements ≡ st ∷ rest
    → old ++ flat_map (pieces_at p xs k) (enumerate_from i statements) ≡ all
    → new ++ flat_map (pieces_at p xs k) (enumerate_from (i + 1) rest) ≡ all
rows_step p xs bucket k i statements rest st old new all is added cut before =
    let here : map (piece_in p) bucket ≡ filter (λ (y : Piece). eqb y.statement i) (map (piece_in p) xs) =
    ap (map (piece_in p)) is ∙ sym (filter_of_map (piece_in p) (λ (y : Piece). eqb y.statement i) xs) in
    let one : new ≡ old ++ pieces_at p xs k (i, st) = added
    ∙ ap (λ l. old ++ cond (is_in_section k st.place) (sort_by (below st.input.sort) l) []) here in
    ap (λ l. l ++ flat_map (pieces_at p xs k) (enumerate_from (i + 1) rest)) one
    ∙ append_assoc old (pieces_at p xs k (i, st)) (flat_map (pieces_at p xs k) (enumerate_from (i + 1) rest))
    ∙ ap (λ l. old ++ l) (sym (flat_map-cons (pieces_at p xs k) (i, st) (enumerate_from (i + 1) rest))
    ∙ ap (λ l. flat_map (pieces_at p xs k) (enumerate_from i l)) (sym cut))
    ∙ before

-- those that a statement takes, out of all that are taken
taken_of : (p : Project) (m : ℕ) (ss : List InputSection) → map (piece_of m) (filter (is_taken_by p m) ss)
    ≡ filter (λ (y : Piece). eqb y.statement m) (filter_map (taken_piece p) ss)
taken_of p m [] = refl
taken_of p m (s ∷ ss) =
    go (first_match p.script s.object s.name) (filter (is_taken_by p m) ss) (filter_map (taken_piece p) ss)
    (taken_of p m ss)
  where
    with_number : (k : ℕ) (b : Bool) (now : List InputSection) (later : List Piece) → eqb k m ≡ b
        → map (piece_of m) now ≡ later → map (piece_of m) (cond b (s ∷ now) now) ≡ cond b (piece_of k s ∷ later) later
    with_number k true now later e rest = ap (λ l. piece_of m s ∷ l) rest
        ∙ ap (λ j. piece_of j s ∷ later) (sym (eqb-true k m e))
    with_number k false now later e rest = rest

    go : (o : Option ℕ) (now : List InputSection) (later : List Piece) → map (piece_of m) now
        ≡ filter (λ (y : Piece). eqb y.statement m) later
        → map (piece_of m) (cond (option_map_or (λ k. eqb k m) o false) (s ∷ now) now)
        ≡ filter (λ (y : Piece). eqb y.statement m) (cons_option (option_map (λ n. piece_of n s) o) later)
    go None now later rest = rest
    go (Some k) now later rest = with_number k (eqb k m) now (filter (λ (y : Piece). eqb y.statement m) later) refl rest

flat_map_agree : {X Y : Type 0} (f g : X → List Y) (xs : List X) → ((x : X) → f x ≡ g x) → flat_map f xs ≡ flat_map g xs
flat_map_agree f g [] h = refl
flat_map_agree f g (x ∷ xs) h = flat_map-cons f x xs ∙ ap (λ l. l ++ flat_map f xs) (h x)
    ∙ ap (λ l. g x ++ l) (flat_map_agree f g xs h) ∙ sym (flat_map-cons g x xs)

map_by_number : {X Y : Type 0} (g : X → Y) (f : ℕ → Y) (a : ℕ) (xs : List X)
    → ((k : ℕ) (d : X) → k < length xs → g (get_or xs k d) ≡ f (a + k)) → map g xs
    ≡ map f (range_with_len a (length xs))
map_by_number g f a [] h = refl
map_by_number g f a (x ∷ xs) h =
    let first : a + 0 ≡ a = omega arith in
    ap (λ y. y ∷ map g xs) (h 0 x (omega arith) ∙ ap f first)
    ∙ ap (λ l. f a ∷ l) (map_by_number g f (a + 1) xs (λ k d l. let e : a + suc k ≡ a + 1 + k = omega arith in
    h (suc k) d (omega (arith, l)) ∙ ap f e))

pieces_in_are : (p : Project) (xs : List code.Piece) (k : ℕ)
    → map (piece_in p) xs ≡ filter_map (taken_piece p) (live p) → (i : ℕ × InputStatementAt)
    → pieces_at p xs k i ≡ pieces_in p k i
pieces_in_are p xs k are i = ap (λ l. cond (is_in_section k i.1.place) (sort_by (below i.1.input.sort) l) [])
    (ap (filter (λ (y : Piece). eqb y.statement i.0)) are ∙ sym (taken_of p i.0 (live p)))

shown_rows : (p : Project) (found : List (Vec code.Piece Global)) → rows_in p found ≡ map (shown_row p) found
shown_rows p [] = refl
shown_rows p (r ∷ rs) = ap (λ l. shown_row p r ∷ l) (shown_rows p rs)

pub rows_are : (p : Project) (xs : List code.Piece) (found : List (Vec code.Piece Global))
    → map (piece_in p) xs ≡ filter_map (taken_piece p) (live p) → length found ≡ length (output_sections p.script)
    → ((k : ℕ) (d : Vec code.Piece Global) → k < length found → shown_row p (get_or found k d)
    ≡ flat_map (pieces_at p xs k) (enumerate_from 0 (input_statements p.script)))
    → rows_in p found ≡ rows p
unfolding rows
rows_are p xs found taken long each =
    shown_rows p found
    ∙ map_by_number (shown_row p) (row p) 0 found (λ k d l.
    let e : 0 + k ≡ k = omega arith in
    each k d l ∙ flat_map_agree (pieces_at p xs k) (pieces_in p k) (enumerate_from 0 (input_statements p.script))
    (pieces_in_are p xs k taken) ∙ ap (row p) (sym e))
    ∙ ap (λ m. map (row p) (range_with_len 0 m)) long

-- no statement is left
pub rows_end : (p : Project) (xs : List code.Piece) (k i : ℕ) (rest : List InputStatementAt) (found all : List Piece)
    → rest ≡ [] → found ++ flat_map (pieces_at p xs k) (enumerate_from i rest) ≡ all → found ≡ all
rows_end p xs k i rest found all none h = sym (append-nil found)
    ∙ ap (λ l. found ++ flat_map (pieces_at p xs k) (enumerate_from i l)) (sym none) ∙ h
