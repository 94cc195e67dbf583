-- Input sections that a link places beside a previous one.
use Rattle.relink_driver.proofs.Common.{ArePlaced, AreSameBefore, Counts, GoodLink, IfSome, IsFirstChanged, IsNext}
use Rattle.relink_driver.proofs.Common.{IsNone, IsPreviousOf, IsSome, Layout, List, None, Option, Pieces, PlacedOutput}
use Rattle.relink_driver.proofs.Common.{PlacedPiece, PreviousState, Project, Some, [], ap, arith, entries_from}
use Rattle.relink_driver.proofs.Common.{entries_in, false, flat_map, length, length-append, length-map, map, new_link}
use Rattle.relink_driver.proofs.Common.{nothing_placed, raised, refl, rows, suc, sum_by-cons, zero, ℕ, ◌∙◌, ◌∷◌, ◌≡◌}
use Rattle.ldmodel.specs.Rows.{Piece}
use Rattle.place.specs.sections.Counted.{first_of, placed_from}
use Rattle.place.specs.sections.declared.resume_point.ResumePoint.{ResumePoint}
use Rattle.relink_driver.specs.Phases.{HasPreviousLink}

-- some link that the previous one may be
pub any_last : (p : Project) (previous : Option PreviousState) → IfSome previous (HasPreviousLink p)
    → (old : GoodLink) × IfSome previous (IsPreviousOf old p)
any_last p None h = (new_link p nothing_placed, tt)
any_last p (Some x) h = (h.old, h.is)

abbrev count_of : PlacedOutput → ℕ
count_of q = length q.pieces

-- output sections have as many entries as they have input sections
as_many : (k : ℕ) (qs : List PlacedOutput) → placed_from k (map count_of qs) ≡ entries_from k (map entries_in qs)
as_many zero [] = refl
as_many (suc k) [] = refl
as_many zero (q ∷ qs) =
    let rest : List Piece = flat_map (λ (row : List Piece). row) (map entries_in qs) in
    omega (
      arith,
      sum_by-cons (λ (n : ℕ). n) (length q.pieces) (map count_of qs),
      length-append (entries_in q) rest,
      length-map q.pieces (λ (x : PlacedPiece). x.piece),
      as_many zero qs,
    )
as_many (suc k) (q ∷ qs) = as_many k qs

module _ (p : Project) (s : Layout) (counts : List ℕ) (are : counts ≡ map count_of s.sections)
    (placed : map entries_in s.sections ≡ rows p) (before after : Counts) where
  -- what is placed are the entries of the rows
  entries_placed : (k : ℕ) → placed_from k counts ≡ entries_from k (rows p)
  entries_placed k =
      ap (λ (ns : List ℕ). placed_from k ns) are ∙ as_many k s.sections
      ∙ ap (λ (rs : List (List Piece)). entries_from k rs) placed

  pub are_placed : (previous : Option PreviousState) (kept : Option ResumePoint)
      → after ≡ raised before Pieces (placed_from (first_of kept) counts)
      → ((old : GoodLink) (x : PreviousState) → previous ≡ Some x → IsPreviousOf old p x
      → IfSome kept (λ k. AreSameBefore old.project p k.first_row))
      → ((old : GoodLink) (x : PreviousState) → previous ≡ Some x → IsPreviousOf old p x → IsNext old.project p x
      → IsSome kept)
      → ((x : PreviousState) → previous ≡ Some x → x.same_script ≡ false → IsNone kept)
      → ((old : GoodLink) (x : PreviousState) → previous ≡ Some x → IsPreviousOf old p x → IsNext old.project p x
      → IfSome kept (λ k. IsFirstChanged old.project p k.first_row))
      → ArePlaced p previous before after
  are_placed previous kept exact same some none first = record {
    first = first_of kept;
    counted = exact ∙ ap (raised before Pieces) (entries_placed (first_of kept));
    same = λ old x e is. same_at kept old (same old x e is);
    changed = λ old x e is next. first_at kept old (some old x e is next) (first old x e is next);
    anew = λ x e other. none_at kept (none x e other);
  }
    where
      same_at : (k : Option ResumePoint) (old : GoodLink) → IfSome k (λ z. AreSameBefore old.project p z.first_row)
          → AreSameBefore old.project p (first_of k)
      same_at None old h n below = absurd (omega (arith, below))
      same_at (Some z) old h n below = h n below

      first_at : (k : Option ResumePoint) (old : GoodLink) → IsSome k
          → IfSome k (λ z. IsFirstChanged old.project p z.first_row)
          → IsFirstChanged old.project p (first_of k)
      first_at None old one h n e = absurd (let no : ⊥ = cc in no)
      first_at (Some z) old one h n e = h n e

      none_at : (k : Option ResumePoint) → IsNone k → first_of k ≡ 0
      none_at None h = refl
      none_at (Some z) h = absurd (let no : ⊥ = cc in no)
