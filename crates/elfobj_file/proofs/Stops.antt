-- A name that a reader looks through: it ends at the first byte that may not stand in one.
use Rattle.std.proofs.Common.{◌≡◌, ℕ, suc, ◌+◌, ◌<◌, ◌≤◌, List, [], ◌∷◌, Bool, true, false, cond, get_or, length, subst}
use Rattle.std.proofs.Common.{take, drop, refl, ap, sym, ◌∙◌, arith, Some, None, eqb, ◌==◌}
use Rattle.std.specs.List.{list_all, position, position_or_len}
use Rattle.std.specs.Option.{option_map, option_map_or}
use Rattle.std.proofs.lemmas.Bool.{and_from, and_parts, eqb-true, false_from_ne_true, le-leb, leb-true, lt-ltb}
use Rattle.std.proofs.lemmas.List.{get_or-take, length-drop, length-take-le, take_all}
use Rattle.std.proofs.lemmas.List.Sums.{position_or_len_is}
use Rattle.elfobj_file.specs.Names.{is_graphic, is_name, string_at}

graphic_not_zero : (b : ℕ) → is_graphic b ≡ true → eqb b 0 ≡ false
graphic_not_zero b h =
    let l = leb-true 33 b (and_parts _ _ h).0 in
    false_from_ne_true _ (λ e. let z = eqb-true b 0 e in absurd (omega arith))

-- the first k bytes may stand in a name
abbrev pub AreGraphic : List ℕ → ℕ → Type 0
AreGraphic xs n = (k : ℕ) → k < n → is_graphic (get_or xs k 0) ≡ true

all_by : (p : ℕ → Bool) (xs : List ℕ) → ((k : ℕ) → k < length xs → p (get_or xs k 0) ≡ true) → list_all p xs ≡ true
all_by p [] h = refl
all_by p (x ∷ xs) h = and_from _ _ (h 0 (omega arith)) (all_by p xs (λ k l. h (suc k) (omega arith)))

graphic_front : (xs : List ℕ) (n : ℕ) → n ≤ length xs → AreGraphic xs n → list_all is_graphic (take n xs) ≡ true
graphic_front xs n l h =
    let long = length-take-le n xs l in
    all_by is_graphic (take n xs) (λ k m. let below : k < n = omega arith in
    ap is_graphic (get_or-take n xs k 0 below) ∙ h k below)

zero_at : (xs : List ℕ) (n : ℕ) → n < length xs → AreGraphic xs n → get_or xs n 0 ≡ 0
    → position (λ b. b == 0) xs ≡ Some n
zero_at xs n l h z =
    let e : position_or_len (λ b. b == 0) xs ≡ n = position_or_len_is (λ b. b == 0) xs n 0 (omega arith)
    (λ k m. graphic_not_zero (get_or xs k 0) (h k m)) (λ m. ap (λ b. b == 0) z) in
    rw e (ap (λ b. cond b (Some n) None) (lt-ltb n (length xs) l))

name_by : (name : List ℕ) (n : ℕ) → length name ≡ n → 0 < n → n ≤ 65535 → list_all is_graphic name ≡ true
    → is_name name ≡ true
unfolding is_name
name_by name n e a b h = and_from _ _
    (and_from _ _ (le-leb 1 (length name) (omega arith)) (le-leb (length name) 65535 (omega arith))) h

-- what a look says of the name at a place, where the byte that ends it is zero
stop_string_by : (table : List ℕ) (at n : ℕ) → n < length (drop at table) → AreGraphic (drop at table) n
    → get_or (drop at table) n 0 ≡ 0 → string_at table at ≡ Some (take n (drop at table))
unfolding string_at
stop_string_by table at n l h z = ap (option_map (λ n. take n (drop at table))) (zero_at (drop at table) n l h z)

stop_name_by : (table : List ℕ) (at n : ℕ) → n < length (drop at table) → AreGraphic (drop at table) n
    → get_or (drop at table) n 0 ≡ 0 → 0 < n → n ≤ 65535 → option_map_or is_name (string_at table at) false ≡ true
stop_name_by table at n l h z a b =
    ap (λ o. option_map_or is_name o false) (stop_string_by table at n l h z)
    ∙ name_by (take n (drop at table)) n (length-take-le n (drop at table) (omega arith)) a b
    (graphic_front (drop at table) n (omega arith) h)

rest_is : (table : List ℕ) (at k : ℕ) → length table ≤ at + k → take k (drop at table) ≡ drop at table
rest_is table at k l = take_all k (drop at table) (let n = length-drop at table in omega arith)

pub stop_string : (table : List ℕ) (at k n : ℕ) → length table ≤ at + k → n < length (take k (drop at table))
    → AreGraphic (take k (drop at table)) n → get_or (take k (drop at table)) n 0 ≡ 0
    → string_at table at ≡ Some (take n (drop at table))
stop_string table at k n l =
    subst (λ xs. n < length xs → AreGraphic xs n → get_or xs n 0 ≡ 0
    → string_at table at ≡ Some (take n (drop at table))) (sym (rest_is table at k l)) (stop_string_by table at n)

pub stop_name : (table : List ℕ) (at k n : ℕ) → length table ≤ at + k → n < length (take k (drop at table))
    → AreGraphic (take k (drop at table)) n → get_or (take k (drop at table)) n 0 ≡ 0 → 0 < n → n ≤ 65535
    → option_map_or is_name (string_at table at) false ≡ true
stop_name table at k n l =
    subst (λ xs. n < length xs → AreGraphic xs n → get_or xs n 0 ≡ 0 → 0 < n → n ≤ 65535
    → option_map_or is_name (string_at table at) false ≡ true) (sym (rest_is table at k l))
    (stop_name_by table at n)
