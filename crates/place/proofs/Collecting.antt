-- Entries that are collected one by one and row by row.
use Rattle.place.proofs.Common.{Global, IndexedSection, List, Vec, [], all_entries, ap, append_assoc, arith, cases_lt}
use Rattle.place.proofs.Common.{drop, drop_min, entry_of, get_or, inl, inr, length, map, min, refl, row_entries, suc}
use Rattle.place.proofs.Common.{sym, zip, ℕ, ◌++◌, ◌+◌, ◌<◌, ◌∙◌, ◌∷◌, ◌≡◌, ◌≤◌, ◌⊎◌}
use Rattle.std.proofs.Math.ListN.{drop_of_length-le}
use Rattle.std.proofs.Math.Seq.{drop-cons}
use Rattle.ldmodel.specs.declared.rows.Piece.{Piece}

-- one more of a row
pub row_more : (n k : ℕ) (row : List Piece) (starts : List ℕ) (xs all : List IndexedSection) (x : Piece) (t : ℕ)
    → k < length row → k < length starts → x ≡ get_or row k x → t ≡ get_or starts k t
    → xs ++ row_entries n (drop k row) (drop k starts) ≡ all
    → (xs ++ entry_of n (x, t) ∷ []) ++ row_entries n (drop (k + 1) row) (drop (k + 1) starts) ≡ all
row_more n k row starts xs all x t h l e f before =
    append_assoc xs (entry_of n (x, t) ∷ []) (row_entries n (drop (k + 1) row) (drop (k + 1) starts))
    ∙ ap (λ l. xs ++ l) (sym split) ∙ before
  where
    next : (k + 1) ≡ suc k
    next = omega arith

    first : drop k row ≡ x ∷ drop (k + 1) row
    first = drop-cons row k x h ∙ ap (λ y. y ∷ drop (suc k) row) (sym e) ∙ ap (λ j. x ∷ drop j row) (sym next)

    second : drop k starts ≡ t ∷ drop (k + 1) starts
    second = drop-cons starts k t l ∙ ap (λ y. y ∷ drop (suc k) starts) (sym f) ∙ ap (λ j. t ∷ drop j starts) (sym next)

    split : row_entries n (drop k row) (drop k starts)
        ≡ entry_of n (x, t) ∷ row_entries n (drop (k + 1) row) (drop (k + 1) starts)
    split = ap (λ r. row_entries n r (drop k starts)) first ∙ ap (row_entries n (x ∷ drop (k + 1) row)) second

zip_none : (row : List Piece) → zip {X = ℕ} row [] ≡ []
zip_none [] = refl
zip_none (x ∷ row) = refl

-- all of a row
pub row_whole : (n k : ℕ) (row : List Piece) (starts : List ℕ) (xs all : List IndexedSection)
    → k ≡ min (length row) (length starts) → xs ++ row_entries n (drop k row) (drop k starts) ≡ all → xs ≡ all
row_whole n k row starts xs all end before =
    sym (append_nil xs) ∙ ap (λ l. xs ++ l) (sym (none (cases_lt k (length row)))) ∙ before
  where
    append_nil : (xs : List IndexedSection) → xs ++ [] ≡ xs
    append_nil [] = refl
    append_nil (x ∷ xs) = ap (λ l. x ∷ l) (append_nil xs)

    none : (k < length row) ⊎ (length row ≤ k) → row_entries n (drop k row) (drop k starts) ≡ []
    none (inr h) = ap (λ r. row_entries n r (drop k starts)) (drop_of_length-le row h)
    none (inl l) =
        let h : length starts ≤ k = omega arith in
        ap (row_entries n (drop k row)) (drop_of_length-le starts h) ∙ ap (map (entry_of n)) (zip_none (drop k row))

-- one more row
pub rows_more : (i : ℕ) (rows : List (Vec Piece Global)) (left : List ℕ) (xs all : List IndexedSection)
    (row : Vec Piece Global) → i < length rows → row ≡ get_or rows i row
    → xs ++ all_entries i (drop i rows) left ≡ all
    → (xs ++ row_entries i row.items left)
    ++ all_entries (i + 1) (drop (i + 1) rows) (drop (min (length row.items) (length left)) left) ≡ all
rows_more i rows left xs all row h e before =
    append_assoc xs (row_entries i row.items left)
    (all_entries (i + 1) (drop (i + 1) rows) (drop (min (length row.items) (length left)) left))
    ∙ ap (λ l. xs ++ (row_entries i row.items left ++ all_entries (i + 1) (drop (i + 1) rows) l))
    (drop_min (length row.items) left)
    ∙ ap (λ r. xs ++ all_entries i r left) (sym first) ∙ before
  where
    next : (i + 1) ≡ suc i
    next = omega arith

    first : drop i rows ≡ row ∷ drop (i + 1) rows
    first = drop-cons rows i row h ∙ ap (λ y. y ∷ drop (suc i) rows) (sym e) ∙ ap (λ j. row ∷ drop j rows) (sym next)
