-- A pass from the last byte of a string table to the first finds the length of the name at each offset.
use Rattle.std.proofs.Common.{◌≡◌, ℕ, zero, suc, ◌+◌, ◌<◌, ◌≤◌, List, [], ◌∷◌, Bool, true, false, cond, not, ◌&&◌, ◌||◌}
use Rattle.std.proofs.Common.{get_or, set, length, take, drop, refl, ap, sym, ◌∙◌, arith, ⊎_elim, Option, Some, None}
use Rattle.std.proofs.Common.{nat_lt, nat_le, eqb, ◌==◌}
use Rattle.std.specs.List.{list_all, prefix_len}
use Rattle.std.specs.Option.{option_map, option_map_or}
use Rattle.std.proofs.lemmas.Bool.{cases_Bool, cases_lt, lt-ltb, le-ltb, ltb-true, and_from, and_parts, and_right}
use Rattle.std.proofs.lemmas.Bool.{leb-true, eqb-true, false_from_ne_true}
use Rattle.std.proofs.lemmas.Bool.Decides.{nat_tests}
use Rattle.std.proofs.lemmas.List.{length-take-le, drop-set, drop_all, length-drop, length-set}
use Rattle.std.proofs.Math.Seq.{drop-cons}
use Rattle.elfobj_file.specs.Names.{string_at, is_name, is_graphic}
use Rattle.elfobj_file.specs.NameLengths.{length_before, length_of_name, first_length, name_lengths}

some_long : (name : List ℕ) → is_name name ≡ true → 1 ≤ length name
unfolding is_name
some_long name h = leb-true 1 (length name) (and_parts _ _ (and_parts _ _ h).0).0

-- how many bytes stand before the first zero byte
zeros : List ℕ → ℕ
zeros xs = prefix_len (λ b. not (b == 0)) xs

-- the length of a name of m bytes in a table of n, whose bytes are graphic or not
length_by : ℕ → ℕ → Bool → ℕ
length_by m n g = cond (nat_lt m n) (cond (nat_le 1 m && nat_le m 65535 && g) m 0) 0

name_by : (xs : List ℕ) (m n : ℕ) → length (take m xs) ≡ m → m < n
    → length_of_name (cond (nat_lt m n) (Some (take m xs)) None) ≡ length_by m n (list_all is_graphic (take m xs))
unfolding is_name length_by
name_by xs m n e l = rw (lt-ltb m n l, e) refl

none_by : (xs : List ℕ) (m n : ℕ) → n ≤ m
    → length_of_name (cond (nat_lt m n) (Some (take m xs)) None) ≡ length_by m n (list_all is_graphic (take m xs))
unfolding length_by
none_by xs m n l = rw (le-ltb m n l) refl

string_cond : (xs : List ℕ) (b : Bool) (m : ℕ)
    → option_map (λ n. take n xs) (cond b (Some m) None) ≡ cond b (Some (take m xs)) None
string_cond xs true m = refl
string_cond xs false m = refl

first_by : (xs : List ℕ) → first_length xs ≡ length_by (zeros xs) (length xs) (list_all is_graphic (take (zeros xs) xs))
unfolding first_length string_at zeros
first_by xs =
    ap length_of_name (string_cond xs (nat_lt (prefix_len (λ b. not (b == 0)) xs) (length xs))
    (prefix_len (λ b. not (b == 0)) xs))
    ∙ ⊎_elim
    (λ l. name_by xs (prefix_len (λ b. not (b == 0)) xs) (length xs)
    (length-take-le (prefix_len (λ b. not (b == 0)) xs) xs (omega arith)) l)
    (λ l. none_by xs (prefix_len (λ b. not (b == 0)) xs) (length xs) l)
    (cases_lt (prefix_len (λ b. not (b == 0)) xs) (length xs))

-- whether a table begins with a zero byte
abbrev pub begins_zero : List ℕ → Bool
begins_zero [] = false
begins_zero (b ∷ xs) = b == 0

not_suc : (m : ℕ) → eqb (1 + m) 0 ≡ false
not_suc m = false_from_ne_true _ (λ e. let k = eqb-true (1 + m) 0 e in absurd (omega arith))

begins_case : (c : Bool) (n m : ℕ) → 0 < n → c ≡ (nat_lt 0 n && eqb (cond (not c) (1 + m) 0) 0)
begins_case true n m l = sym (and_from _ _ (lt-ltb 0 n l) refl)
begins_case false n m l = sym (and_right _ _ (not_suc m))

begins_by : (xs : List ℕ) → begins_zero xs ≡ (nat_lt 0 (length xs) && eqb (zeros xs) 0)
unfolding zeros
begins_by [] = refl
begins_by (b ∷ xs) = begins_case (b == 0) (length (b ∷ xs)) (prefix_len (λ c. not (c == 0)) xs) (omega arith)

step_by : (m n : ℕ) (h g : Bool) → (m ≡ 0 → g ≡ true)
    → length_by (1 + m) (1 + n) (h && g) ≡ cond h
    (cond (nat_lt 0 n && eqb m 0) 1
    (cond (eqb (length_by m n g) 0 || eqb (length_by m n g) 65535) 0 (length_by m n g + 1))) 0
unfolding length_by
step_by m n true true e = grind (arith, nat_tests)
step_by m n true false e = grind (arith, nat_tests)
step_by m n false true e = grind (arith, nat_tests)
step_by m n false false e = grind (arith, nat_tests)

none_of_zero : (n : ℕ) (g : Bool) → length_by 0 n g ≡ 0
unfolding length_by
none_of_zero n g = grind (arith, nat_tests)

zero_first : (b : ℕ) (ends : Bool) (k : ℕ) → b ≡ 0 → length_before b ends k ≡ 0
zero_first b ends k e = ap (λ x. length_before x ends k) e

take_one_more : (b m : ℕ) (xs : List ℕ) → take (1 + m) (b ∷ xs) ≡ b ∷ take m xs
take_one_more b m xs = let e : 1 + m ≡ suc m = omega arith in ap (λ k. take k (b ∷ xs)) e

none_taken : (m : ℕ) (xs : List ℕ) → m ≡ 0 → list_all is_graphic (take m xs) ≡ true
none_taken m xs e = ap (λ k. list_all is_graphic (take k xs)) e

length_more : (b : ℕ) (xs : List ℕ) → length (b ∷ xs) ≡ 1 + length xs
length_more b xs = omega arith

zeros_none : (b : ℕ) (xs : List ℕ) → (b == 0) ≡ true → zeros (b ∷ xs) ≡ 0
unfolding zeros
zeros_none b xs h = ap (λ c. cond (not c) (1 + prefix_len (λ c. not (c == 0)) xs) 0) h

zeros_more : (b : ℕ) (xs : List ℕ) → (b == 0) ≡ false → zeros (b ∷ xs) ≡ 1 + zeros xs
unfolding zeros
zeros_more b xs h = ap (λ c. cond (not c) (1 + prefix_len (λ c. not (c == 0)) xs) 0) h

told_by : (b : ℕ) (xs : List ℕ)
    → length_by (1 + zeros xs) (1 + length xs)
    (is_graphic b && list_all is_graphic (take (zeros xs) xs)) ≡ length_before b (begins_zero xs) (first_length xs)
told_by b xs =
    step_by (zeros xs) (length xs) (is_graphic b) (list_all is_graphic (take (zeros xs) xs)) (none_taken (zeros xs) xs)
    ∙ ap (λ c. cond (is_graphic b)
    (cond c 1 (cond (eqb (length_by (zeros xs) (length xs) (list_all is_graphic (take (zeros xs) xs))) 0
    || eqb (length_by (zeros xs) (length xs) (list_all is_graphic (take (zeros xs) xs))) 65535) 0
    (length_by (zeros xs) (length xs) (list_all is_graphic (take (zeros xs) xs)) + 1))) 0) (sym (begins_by xs))
    ∙ ap (λ k. length_before b (begins_zero xs) k) (sym (first_by xs))

-- one more byte before a table
pub first_step : (b : ℕ) (xs : List ℕ) → first_length (b ∷ xs) ≡ length_before b (begins_zero xs) (first_length xs)
first_step b xs = first_by (b ∷ xs) ∙ ⊎_elim
    (λ a. ap (λ m. length_by m (length (b ∷ xs)) (list_all is_graphic (take (zeros (b ∷ xs)) (b ∷ xs))))
    (zeros_none b xs a) ∙ none_of_zero (length (b ∷ xs)) (list_all is_graphic (take (zeros (b ∷ xs)) (b ∷ xs)))
    ∙ sym (zero_first b (begins_zero xs) (first_length xs) (eqb-true b 0 a)))
    (λ a. ap (λ m. length_by m (length (b ∷ xs)) (list_all is_graphic (take m (b ∷ xs)))) (zeros_more b xs a)
    ∙ ap (λ n. length_by (1 + zeros xs) n (list_all is_graphic (take (1 + zeros xs) (b ∷ xs)))) (length_more b xs)
    ∙ ap (λ ys. length_by (1 + zeros xs) (1 + length xs) (list_all is_graphic ys)) (take_one_more b (zeros xs) xs)
    ∙ told_by b xs)
    (cases_Bool (b == 0))

-- the lengths from a place on
pub drop_lengths : (at : ℕ) (xs : List ℕ) → drop at (name_lengths xs) ≡ name_lengths (drop at xs)
unfolding name_lengths
drop_lengths zero xs = refl
drop_lengths (suc at) [] = refl
drop_lengths (suc at) (x ∷ xs) = drop_lengths at xs

first_of_none : first_length [] ≡ 0
unfolding first_length string_at
first_of_none = refl

pub length_at : (xs : List ℕ) (at : ℕ) → get_or (name_lengths xs) at 0 ≡ first_length (drop at xs)
unfolding name_lengths
length_at [] zero = sym first_of_none
length_at [] (suc at) = sym first_of_none
length_at (x ∷ xs) zero = refl
length_at (x ∷ xs) (suc at) = length_at xs at

-- the lengths from a place on, as a loop from the last byte to the first has found them
pub record AreLengthsFrom (table ls : List ℕ) (at n : ℕ) (e : Bool) : Type 0 where
  pub count : length ls ≡ length table
  pub done : drop at ls ≡ name_lengths (drop at table)
  pub here : n ≡ first_length (drop at table)
  pub ends : e ≡ begins_zero (drop at table)

pub lengths_start : (table ls : List ℕ) → length ls ≡ length table → AreLengthsFrom table ls (length table) 0 false
unfolding name_lengths
lengths_start table ls h =
    let none : drop (length table) table ≡ [] = drop_all (length table) table (omega arith) in
    record {
      count = h;
      done = drop_all (length table) ls (omega arith) ∙ sym (ap name_lengths none);
      here = sym (ap first_length none ∙ first_of_none);
      ends = sym (ap begins_zero none);
    }

more_done : (b n : ℕ) (ls xs zs : List ℕ) → zs ≡ b ∷ xs → ls ≡ name_lengths xs → n ≡ first_length (b ∷ xs)
    → n ∷ ls ≡ name_lengths zs
unfolding name_lengths
more_done b n ls xs zs e f g = ap (λ ys. n ∷ ys) f ∙ ap (λ k. k ∷ name_lengths xs) g ∙ ap name_lengths (sym e)

pub lengths_step : (table ls : List ℕ) (at b n n' : ℕ) (e e' : Bool) → at < length table → b ≡ get_or table at 0
    → n' ≡ length_before b e n → e' ≡ (b == 0) → AreLengthsFrom table ls (at + 1) n e
    → AreLengthsFrom table (set ls at n') at n' e'
lengths_step table ls at b n n' e e' l f g h a =
    let one : at + 1 ≡ suc at = omega arith in
    let cut : drop at table ≡ b ∷ drop (at + 1) table = drop-cons table at 0 l
    ∙ ap (λ x. x ∷ drop (suc at) table) (sym f) ∙ ap (λ k. b ∷ drop k table) (sym one) in
    let first : n' ≡ first_length (b ∷ drop (at + 1) table) = g ∙ ap (λ k. length_before b e k) a.here
    ∙ ap (λ k. length_before b k (first_length (drop (at + 1) table))) a.ends
    ∙ sym (first_step b (drop (at + 1) table)) in
    record {
      count = length-set ls at n' ∙ a.count;
      done = drop-set ls at n' (omega (arith, a.count))
          ∙ more_done b n' (drop (at + 1) ls) (drop (at + 1) table) (drop at table) cut a.done first;
      here = first ∙ ap first_length (sym cut);
      ends = h ∙ ap begins_zero (sym cut);
    }

pub lengths_end : (table ls : List ℕ) (n : ℕ) (e : Bool) → AreLengthsFrom table ls 0 n e → ls ≡ name_lengths table
lengths_end table ls n e a = a.done

-- what a length says of the name
none_named : (o : Option (List ℕ)) → length_of_name o ≡ 0 → option_map_or is_name o false ≡ false
none_named None e = refl
none_named (Some name) e = ⊎_elim
    (λ a. let f : length name ≡ 0 = sym (ap (λ c. cond c (length name) 0) a) ∙ e in
    absurd (omega (arith, some_long name a)))
    (λ a. a)
    (cases_Bool (is_name name))

one_named : (o : Option (List ℕ)) → 0 < length_of_name o → option_map_or is_name o false ≡ true
one_named None h = absurd (omega arith)
one_named (Some name) h = ⊎_elim
    (λ a. a)
    (λ a. let f : length_of_name (Some name) ≡ 0 = ap (λ c. cond c (length name) 0) a in absurd (omega arith))
    (cases_Bool (is_name name))

string_cases : (xs : List ℕ) (b : Bool) (m n : ℕ) → (b ≡ true → m < length xs)
    → length_of_name (cond b (Some (take m xs)) None) ≡ n → 0 < n
    → (cond b (Some (take m xs)) None ≡ Some (take n xs)) × (n ≤ length xs)
string_cases xs false m n l e h = absurd (omega arith)
string_cases xs true m n l e h =
    let k = l refl in
    let t = length-take-le m xs (omega arith) in
    ⊎_elim
    (λ a. let f : length (take m xs) ≡ n = sym (ap (λ c. cond c (length (take m xs)) 0) a) ∙ e in
    let g : m ≡ n = omega arith in (ap (λ i. Some (take i xs)) g, omega arith))
    (λ a. let f : 0 ≡ n = sym (ap (λ c. cond c (length (take m xs)) 0) a) ∙ e in absurd (omega arith))
    (cases_Bool (is_name (take m xs)))

string_told : (table : List ℕ) (at n : ℕ) → first_length (drop at table) ≡ n → 0 < n
    → (string_at table at ≡ Some (take n (drop at table))) × (n ≤ length (drop at table))
unfolding first_length string_at
string_told table at n e h =
    let r = string_cases (drop at table)
    (nat_lt (prefix_len (λ b. not (b == 0)) (drop at table)) (length (drop at table)))
    (prefix_len (λ b. not (b == 0)) (drop at table)) n
    (ltb-true (prefix_len (λ b. not (b == 0)) (drop at table)) (length (drop at table)))
    (ap length_of_name
    (sym (string_cond (drop at table)
    (nat_lt (prefix_len (λ b. not (b == 0)) (drop at table)) (length (drop at table)))
    (prefix_len (λ b. not (b == 0)) (drop at table)))) ∙ e) h in (
      string_cond (drop at table) (nat_lt (prefix_len (λ b. not (b == 0)) (drop at table)) (length (drop at table)))
          (prefix_len (λ b. not (b == 0)) (drop at table)) ∙ r.0,
      r.1,
    )

-- what a look-up tells: at this place stands a length, or none
pub told_none : (table : List ℕ) (at : ℕ) → first_length (drop at table) ≡ 0
    → option_map_or is_name (string_at table at) false ≡ false
unfolding first_length string_at
told_none table at e = none_named (string_at table at) e

pub told_some : (table : List ℕ) (at : ℕ) → 0 < first_length (drop at table)
    → option_map_or is_name (string_at table at) false ≡ true
unfolding first_length string_at
told_some table at h = one_named (string_at table at) h

pub told_string : (table : List ℕ) (at n : ℕ) → first_length (drop at table) ≡ n → 0 < n
    → string_at table at ≡ Some (take n (drop at table))
told_string table at n e h = (string_told table at n e h).0

pub told_within : (table : List ℕ) (at n : ℕ) → first_length (drop at table) ≡ n → 0 < n → at + n ≤ length table
told_within table at n e h = let r = (string_told table at n e h).1 in let l = length-drop at table in omega arith

pub length_told : (ls table : List ℕ) (at : ℕ) → ls ≡ name_lengths table → get_or ls at 0 ≡ first_length (drop at table)
length_told ls table at e = ap (λ xs. get_or xs at 0) e ∙ length_at table at
