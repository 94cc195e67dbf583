-- Names one after the other in memory.
use Rattle.symres_decisions.proofs.Common.{All, All-append, All-cons, All-head, All-nil, All-tail, All-weaker, Bool}
use Rattle.symres_decisions.proofs.Common.{IsInside, List, WrittenName, [], ap, arith, cond, drop, drop-append-le}
use Rattle.symres_decisions.proofs.Common.{drop-append_seam, drop-map, false, filter, insert, length, length-append}
use Rattle.symres_decisions.proofs.Common.{length-drop, map, map-append, refl, slice_range, sym, take, take-append-le}
use Rattle.symres_decisions.proofs.Common.{take-map, take_all, true, written, ℕ, ◌++◌, ◌-◌, ◌∙◌, ◌∷◌, ◌≡◌, ◌≤◌}
use Rattle.std.proofs.lemmas.List.Sorted.{All-permutation, IsPermutation-insert}
use Rattle.symres_decisions.specs.NameText.{IsWritten}

-- a part of a list, where more comes after the list
range_more : (bytes more : List ℕ) (start end : ℕ) → start ≤ end → end ≤ length bytes
    → slice_range (bytes ++ more) start end ≡ slice_range bytes start end
range_more bytes more start end order within =
    ap (take (end - start)) (drop-append-le start bytes more (omega (arith, order, within)))
    ∙ take-append-le (end - start) (drop start bytes) more (omega (arith, within, length-drop start bytes))

-- what comes after a list
range_last : (bytes more : List ℕ) → slice_range (bytes ++ more) (length bytes) (length (bytes ++ more)) ≡ more
range_last bytes more =
    ap (take (length (bytes ++ more) - length bytes)) (drop-append_seam bytes more)
    ∙ take_all (length (bytes ++ more) - length bytes) more (omega (arith, length-append bytes more))

inside_more : (bytes more : List ℕ) (w : WrittenName) → IsInside bytes w → IsInside (bytes ++ more) w
inside_more bytes more w h = record {
  order = h.order;
  end = omega (arith, h.end, length-append bytes more);
}

-- names that lie in the bytes, where more bytes come after these
pub all_inside : (bytes more : List ℕ) (ws : List WrittenName) → All (IsInside bytes) ws
    → All (IsInside (bytes ++ more)) ws
all_inside bytes more ws h = All-weaker (IsInside bytes) (IsInside (bytes ++ more)) (inside_more bytes more) ws h

pub all_written : (bytes more : List ℕ) (ws : List WrittenName) → All (IsInside bytes) ws
    → map (written (bytes ++ more)) ws ≡ map (written bytes) ws
all_written bytes more [] h = refl
all_written bytes more (w ∷ ws) h =
    let first : IsInside bytes w = All-head (IsInside bytes) w ws h in
    ap (λ (name : List ℕ). (name, w.number) ∷ map (written (bytes ++ more)) ws)
    (range_more bytes more w.start w.end first.order first.end)
    ∙ ap (λ (names : List (List ℕ × ℕ)). written bytes w ∷ names)
    (all_written bytes more ws (All-tail (IsInside bytes) w ws h))

-- the name that comes last in the bytes
last_written : (bytes name : List ℕ) (key : ℕ) (w : WrittenName) → IsWritten bytes name key w
    → written (bytes ++ name) w ≡ (name, key)
last_written bytes name key w is =
    ap (λ (n : ℕ). (slice_range (bytes ++ name) n w.end, w.number)) is.start
    ∙ ap (λ (n : ℕ). (slice_range (bytes ++ name) (length bytes) n, w.number)) is.end
    ∙ ap (λ (xs : List ℕ). (xs, w.number)) (range_last bytes name)
    ∙ ap (λ (n : ℕ). (name, n)) is.number

last_inside : (bytes name : List ℕ) (key : ℕ) (w : WrittenName) → IsWritten bytes name key w
    → IsInside (bytes ++ name) w
last_inside bytes name key w is =
    record { order = omega (arith, is.start, is.end, length-append bytes name); end = omega (arith, is.end) }

-- a name is written after the others
pub one_written : (bytes name : List ℕ) (key : ℕ) (ws : List WrittenName) (w : WrittenName)
    → IsWritten bytes name key w → All (IsInside bytes) ws
    → map (written (bytes ++ name)) (ws ++ w ∷ []) ≡ map (written bytes) ws ++ (name, key) ∷ []
one_written bytes name key ws w is h =
    map-append (written (bytes ++ name)) ws (w ∷ [])
    ∙ ap (λ (names : List (List ℕ × ℕ)). names ++ written (bytes ++ name) w ∷ []) (all_written bytes name ws h)
    ∙ ap (λ (one : List ℕ × ℕ). map (written bytes) ws ++ one ∷ []) (last_written bytes name key w is)

pub one_inside : (bytes name : List ℕ) (key : ℕ) (ws : List WrittenName) (w : WrittenName)
    → IsWritten bytes name key w → All (IsInside bytes) ws → All (IsInside (bytes ++ name)) (ws ++ w ∷ [])
one_inside bytes name key ws w is h =
    All-append (IsInside (bytes ++ name)) ws (w ∷ []) (all_inside bytes name ws h)
    (All-cons (IsInside (bytes ++ name)) w [] (last_inside bytes name key w is)
    (All-nil (IsInside (bytes ++ name))))

-- ---- a name is put among the others

map_put : {X Y : Type 0} (f : X → Y) (xs : List X) (i : ℕ) (x : X) → map f (insert xs i x) ≡ insert (map f xs) i (f x)
map_put f xs i x =
    map-append f (take i xs) (x ∷ drop i xs)
    ∙ ap (λ ys. ys ++ f x ∷ map f (drop i xs)) (sym (take-map f i xs))
    ∙ ap (λ ys. take i (map f xs) ++ f x ∷ ys) (sym (drop-map f i xs))

pub put_written : (bytes name : List ℕ) (key : ℕ) (ws : List WrittenName) (place : ℕ) (w : WrittenName)
    → IsWritten bytes name key w → All (IsInside bytes) ws
    → map (written (bytes ++ name)) (insert ws place w) ≡ insert (map (written bytes) ws) place (name, key)
put_written bytes name key ws place w is h =
    map_put (written (bytes ++ name)) ws place w
    ∙ ap (λ (names : List (List ℕ × ℕ)). insert names place (written (bytes ++ name) w)) (all_written bytes name ws h)
    ∙ ap (insert (map (written bytes) ws) place) (last_written bytes name key w is)

pub put_inside : (bytes name : List ℕ) (key : ℕ) (ws : List WrittenName) (place : ℕ) (w : WrittenName)
    → IsWritten bytes name key w → All (IsInside bytes) ws → All (IsInside (bytes ++ name)) (insert ws place w)
put_inside bytes name key ws place w is h =
    All-permutation (IsInside (bytes ++ name)) (w ∷ ws) (insert ws place w) (IsPermutation-insert ws place w)
    (All-cons (IsInside (bytes ++ name)) w ws (last_inside bytes name key w is) (all_inside bytes name ws h))

-- ---- names are taken out

pub kept_written : (p : List ℕ × ℕ → Bool) (bytes : List ℕ) (ws : List WrittenName)
    → map (written bytes) (filter (λ (w : WrittenName). p (written bytes w)) ws) ≡ filter p (map (written bytes) ws)
kept_written p bytes [] = refl
kept_written p bytes (w ∷ ws) =
    go (p (written bytes w))
    ∙ ap (λ (names : List (List ℕ × ℕ)). cond (p (written bytes w)) (written bytes w ∷ names) names)
    (kept_written p bytes ws)
  where
    rest : List WrittenName
    rest = filter (λ (v : WrittenName). p (written bytes v)) ws

    go : (b : Bool) → map (written bytes) (cond b (w ∷ rest) rest)
        ≡ cond b (written bytes w ∷ map (written bytes) rest) (map (written bytes) rest)
    go true = refl
    go false = refl
