use Rattle.ldi_stream.proofs.Common.{HasNo, List, [], ap, arith, common_steps, drop, length, length-drop, length-take}
use Rattle.ldi_stream.proofs.Common.{take, take-append-add, take_all, ℕ, ◌++◌, ◌+◌, ◌-◌, ◌<◌, ◌∙◌, ◌∷◌, ◌≡◌, ◌≢◌, ◌≤◌}
use Rattle.std.proofs.Common.{take-add, set}
use Rattle.std.proofs.lemmas.List.{take-append-le}
use borrow.Rule.Slice.PartMut.{put_mid, post_of}

pub NoFeed-more : (xs : List ℕ) (b : ℕ) → HasNo 10 xs → b ≢ 10 → HasNo 10 (xs ++ b ∷ [])
NoFeed-more [] b h n = (n, tt)
NoFeed-more (x ∷ xs) b h n = (h.0, NoFeed-more xs b h.1 n)

pub take_set : (xs : List ℕ) (i b : ℕ) → i < length xs → take (i + 1) (set xs i b) ≡ take i xs ++ b ∷ []
take_set xs i b h = grind (arith, common_steps)

pub take_two : (xs : List ℕ) (i n : ℕ) → i ≤ length xs → n ≤ length (take (length xs - i) (drop i xs))
    → take (i + n) xs ≡ take i xs ++ take n (take (length xs - i) (drop i xs))
take_two xs i n h k =
    let all : take (length xs - i) (drop i xs) ≡ drop i xs = take_all _ _ (simp length-drop (omega arith)) in
    rw all (take-add i n xs)

-- a read into `buf[i..]`
pub put_front : (xs ys : List ℕ) (i n : ℕ) → i ≤ length xs → n ≤ length ys
    → take (i + n) (put_mid i (length xs - i) xs ys) ≡ take i xs ++ take n ys
put_front xs ys i n h k =
    let rest = ys ++ post_of i (length xs - i) xs in
    let long : length (take i xs) ≡ i = simp length-take (omega arith) in
    let step = take-append-add (take i xs) rest n in
    let cut = rw long at step in
    cut ∙ ap (λ l. take i xs ++ l) (take-append-le n ys (post_of i (length xs - i) xs) k)
