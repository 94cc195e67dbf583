-- The first row that differs: up to it the rows are the same.
use Rattle.relink.proofs.Common.{Bool, List, [], ap, arith, bytes_eq, bytes_eq-Decides, cond, eqb-true, false, flat_map}
use Rattle.relink.proofs.Common.{length-append, refl, suc, sym, take, true, zero, ℕ, ◌&&◌, ◌==◌, ◌∙◌, ◌∷◌, ◌≡◌, ◌≤◌}
use Rattle.elfobj.specs.declared.section.SectionKind.{SectionKind}
use Rattle.elfobj.specs.declared.section.SectionKind.TheVariants.{Progbits, Nobits, Note, InitArray, FiniArray}
use Rattle.elfobj.specs.declared.section.SectionKind.TheVariants.{PreinitArray, Unwind}
use Rattle.ldmodel.specs.Rows.{Piece}
use Rattle.ldmodel.specs.Sections.{is_same_part}
use Rattle.ldmodel.specs.SessionWork.{entries_from, first_changed, kind_place, same_entry, same_row}
use Rattle.ldmodel.specs.declared.sections.Part.{Part}
use Rattle.ldmodel.specs.declared.sections.Part.TheVariants.{InCommon, InTable}

both_of : (a b : Bool) → (a && b) ≡ true → (a ≡ true) × (b ≡ true)
both_of true b h = (refl, h)
both_of false b h = absurd (let none : ⊥ = cc in none)

same_part : (a b : Part) → is_same_part a b ≡ true → a ≡ b
same_part (InTable k) (InTable n) e = ap (λ m. InTable (record { 0 = m })) (eqb-true k.0 n.0 e)
same_part (InTable k) (InCommon n) e = absurd (let none : ⊥ = cc in none)
same_part (InCommon k) (InTable n) e = absurd (let none : ⊥ = cc in none)
same_part (InCommon k) (InCommon n) e = ap (λ m. InCommon (record { 0 = m })) (eqb-true k.0 n.0 e)

kind_at : ℕ → SectionKind
kind_at n =
    cond (n == 0) Progbits (cond (n == 1) Nobits (cond (n == 2) Note (cond (n == 3) InitArray
    (cond (n == 4) FiniArray (cond (n == 5) PreinitArray Unwind)))))

at_kind : (k : SectionKind) → kind_at (kind_place k) ≡ k
unfolding kind_at
at_kind Progbits = refl
at_kind Nobits = refl
at_kind Note = refl
at_kind InitArray = refl
at_kind FiniArray = refl
at_kind PreinitArray = refl
at_kind Unwind = refl

same_kind : (a b : SectionKind) → (kind_place a == kind_place b) ≡ true → a ≡ b
same_kind a b e = sym (at_kind a) ∙ ap kind_at (eqb-true (kind_place a) (kind_place b) e) ∙ at_kind b

abbrev entry : ℕ → List ℕ → Part → List ℕ → SectionKind → ℕ → ℕ → ℕ → Piece
entry statement object part name kind flags size alignment = record {
  statement = statement;
  object = object;
  part = part;
  name = name;
  kind = kind;
  flags = flags;
  size = size;
  alignment = alignment;
}

entries_are_same : (x y : Piece) → same_entry x y ≡ true → x ≡ y
entries_are_same x y e =
    let a = both_of _ (x.alignment == y.alignment) e in
    let b = both_of _ (x.size == y.size) a.0 in
    let c = both_of _ (x.flags == y.flags) b.0 in
    let d = both_of _ (kind_place x.kind == kind_place y.kind) c.0 in
    let f = both_of _ (bytes_eq x.name y.name) d.0 in
    let g = both_of _ (is_same_part x.part y.part) f.0 in
    let h = both_of (x.statement == y.statement) (bytes_eq x.object y.object) g.0 in
    ap (λ n. entry n x.object x.part x.name x.kind x.flags x.size x.alignment) (eqb-true x.statement y.statement h.0)
    ∙ ap (λ n. entry y.statement n x.part x.name x.kind x.flags x.size x.alignment)
    ((bytes_eq-Decides x.object y.object).0 h.1)
    ∙ ap (λ n. entry y.statement y.object n x.name x.kind x.flags x.size x.alignment) (same_part x.part y.part g.1)
    ∙ ap (λ n. entry y.statement y.object y.part n x.kind x.flags x.size x.alignment)
    ((bytes_eq-Decides x.name y.name).0 f.1)
    ∙ ap (λ n. entry y.statement y.object y.part y.name n x.flags x.size x.alignment) (same_kind x.kind y.kind d.1)
    ∙ ap (λ n. entry y.statement y.object y.part y.name y.kind n x.size x.alignment) (eqb-true x.flags y.flags c.1)
    ∙ ap (λ n. entry y.statement y.object y.part y.name y.kind y.flags n x.alignment) (eqb-true x.size y.size b.1)
    ∙ ap (λ n. entry y.statement y.object y.part y.name y.kind y.flags y.size n)
    (eqb-true x.alignment y.alignment a.1)

rows_are_same : (xs ys : List Piece) → same_row xs ys ≡ true → xs ≡ ys
rows_are_same [] [] e = refl
rows_are_same [] (y ∷ ys) e = absurd (let none : ⊥ = cc in none)
rows_are_same (x ∷ xs) [] e = absurd (let none : ⊥ = cc in none)
rows_are_same (x ∷ xs) (y ∷ ys) e =
    let both = both_of (same_entry x y) (same_row xs ys) e in
    ap (λ z. z ∷ xs) (entries_are_same x y both.0) ∙ ap (λ zs. y ∷ zs) (rows_are_same xs ys both.1)

-- up to the first row that differs none does
pub same_before : (xs ys : List (List Piece)) → take (first_changed xs ys) xs ≡ take (first_changed xs ys) ys
same_before [] ys = refl
same_before (x ∷ xs) [] = refl
same_before (x ∷ xs) (y ∷ ys) = go (same_row x y) refl (same_before xs ys)
  where
    go : (b : Bool) → same_row x y ≡ b → take (first_changed xs ys) xs ≡ take (first_changed xs ys) ys
        → take (cond b (suc (first_changed xs ys)) 0) (x ∷ xs) ≡ take (cond b (suc (first_changed xs ys)) 0) (y ∷ ys)
    go true e rest = ap (λ z. z ∷ take (first_changed xs ys) xs) (rows_are_same x y e) ∙ ap (λ zs. y ∷ zs) rest
    go false e rest = refl

-- there are no more entries from a row on than from the first
pub fewer : (rows : List (List Piece)) (k : ℕ) → entries_from k rows ≤ entries_from 0 rows
fewer [] zero = omega arith
fewer [] (suc k) = omega arith
fewer (r ∷ rs) zero = omega arith
fewer (r ∷ rs) (suc k) =
    let more = length-append r (flat_map (λ (row : List Piece). row) rs) in
    omega (arith, more, fewer rs k)
