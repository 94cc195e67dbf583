-- A part put by its first and its last bytes.
use Rattle.emit_image.proofs.Common.{List, [], ap, append_assoc, arith, drop, length, length-append, length-take-le}
use Rattle.emit_image.proofs.Common.{suc, sym, take, ℕ, ◌++◌, ◌+◌, ◌-◌, ◌∙◌, ◌∷◌, ◌≡◌, ◌≤◌}
use Rattle.std.proofs.lemmas.List.{length-drop, take-append-drop, take-take}
use Rattle.std.proofs.lemmas.Slice.{take-put_mid}
use borrow.Rule.Slice.PartMut.{put_mid, post_of}

take_past : (xs ys : List ℕ) (m : ℕ) → take (length xs + m) (xs ++ ys) ≡ xs ++ take m ys
take_past [] ys m = ap (λ k. take k ys) (omega arith)
take_past (x ∷ xs) ys m =
    let e : length (x ∷ xs) + m ≡ suc (length xs + m) = omega arith in
    ap (λ k. take k (x ∷ xs ++ ys)) e
    ∙ ap (λ t. x ∷ t) (take_past xs ys m)

-- what is put at a place, as far as it goes
front_put : (bytes first : List ℕ) (used l m : ℕ) → used ≤ length bytes → m ≤ length first
    → take (used + m) (put_mid used l bytes first) ≡ take used bytes ++ take m first
front_put bytes first used l m h a =
    let whole = put_mid used l bytes first in
    let front = take used bytes in
    sym (take-take (used + m) (used + length first) whole (omega (arith, a)))
    ∙ ap (take (used + m)) (take-put_mid used l bytes first (used + length first) (omega arith) h)
    ∙ ap (λ k. take (k + m) (front ++ first)) (sym (length-take-le used bytes h))
    ∙ take_past front first m

length_put : (bytes first : List ℕ) (used l : ℕ) → used ≤ length bytes
    → used + length first ≤ length (put_mid used l bytes first)
length_put bytes first used l h =
    omega (
      arith,
      length-append (take used bytes) (first ++ post_of used l bytes),
      length-append first (post_of used l bytes),
      length-take-le used bytes h,
    )

-- both ends of a part, put one after the other, are the part
pub ends_put : (bytes part first last : List ℕ) (used n k l : ℕ) → used + length part ≤ length bytes
    → n ≤ length part → length part ≤ n + n → first ≡ take n part → last ≡ drop (length part - n) part
    → take (used + length part) (put_mid (used + length part - n) k (put_mid used l bytes first) last)
    ≡ take used bytes ++ part
ends_put bytes part first last used n k l h a b f g =
    let m = length part - n in
    let inner = put_mid used l bytes first in
    let fits : used ≤ length bytes = omega (arith, h) in
    let first_length : length first ≡ n = ap length f ∙ length-take-le n part a in
    let last_length : length last ≡ n = ap length g ∙ omega (arith, length-drop m part, a) in
    take-put_mid (used + length part - n) k inner last (used + length part) (omega (arith, last_length, a))
    (omega (arith, length_put bytes first used l fits, first_length, a, b))
    ∙ ap (λ t. take t inner ++ last) (omega (arith, a))
    ∙ ap (λ t. t ++ last) (front_put bytes first used l m fits (omega (arith, first_length, a, b)))
    ∙ ap (λ t. (take used bytes ++ take m t) ++ last) f
    ∙ ap (λ t. (take used bytes ++ t) ++ last) (take-take m n part (omega (arith, a, b)))
    ∙ ap (λ t. (take used bytes ++ take m part) ++ t) g
    ∙ append_assoc (take used bytes) (take m part) (drop m part)
    ∙ ap (λ t. take used bytes ++ t) (take-append-drop m part)
