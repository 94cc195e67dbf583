-- The front of a word is the part that its first bytes spell, and no other part is spelled there.
use Rattle.ldscript_terms.proofs.Common.{AnyByte, AnyRun, Bool, Byte, List, None, OneOf, Option, Part, Some, SpellsPart}
use Rattle.ldscript_terms.proofs.Common.{[], ap, append_assoc, arith, cond, eq-eqb, eqb, eqb-true, false, false≢true}
use Rattle.ldscript_terms.proofs.Common.{get_or, inl, inr, is_plain, length, length-append, ltb, ranges_of, refl, subst}
use Rattle.ldscript_terms.proofs.Common.{suc, sym, take, true, zero, ℕ, ◌++◌, ◌+◌, ◌-◌, ◌<◌, ◌∙◌, ◌∷◌, ◌≡◌, ◌≢◌, ◌⊎◌}
use Rattle.std.specs.List.{take_while, list_all, slice_range, prefix_len}
use Rattle.std.proofs.Math.Seq.{take-append_seam, get_or-append_seam}
use Rattle.std.proofs.lemmas.Bool.{lt-ltb, ltb-true, and_parts, and_from, cond-true, cond-false}
use Rattle.std.proofs.lemmas.List.{take_more, length-take-le}
use Rattle.std.proofs.lemmas.List.Sums.{take_while-cons, prefix_len-le-length}
use Rattle.ldscript_terms.specs.Spelling.{is_set_byte, IsSetBody}
use Rattle.ldscript_tokens.specs.Bytes.{is_escapable}
use Rattle.ldscript_terms.specs.Front.{Front, front_part, front, escape_front, set_front, set_length}

-- runs that pass a test
pub run_of : (p : ℕ → Bool) (k : ℕ) (body rest : List ℕ) → p k ≡ false → list_all p body ≡ true
    → take_while p (body ++ k ∷ rest) ≡ body
run_of p k [] rest n h = take_while-cons p k rest ∙ cond-false (p k) (k ∷ take_while p rest) [] n
run_of p k (b ∷ body) rest n h =
    let a = and_parts (p b) (list_all p body) h in
    take_while-cons p b (body ++ k ∷ rest) ∙ cond-true (p b) (b ∷ take_while p (body ++ k ∷ rest)) [] a.0
    ∙ ap (λ v. b ∷ v) (run_of p k body rest n a.1)

pub run_passes : (p : ℕ → Bool) (xs : List ℕ) → list_all p (take_while p xs) ≡ true
run_passes p [] = refl
run_passes p (x ∷ xs) = elim (p x) as (λ v. p x ≡ v → list_all p (take_while p (x ∷ xs)) ≡ true) [
  | true ↦ λ e. ap (list_all p) (take_while-cons p x xs ∙ cond-true (p x) (x ∷ take_while p xs) [] e)
      ∙ and_from (p x) (list_all p (take_while p xs)) e (run_passes p xs)
  | false ↦ λ e. ap (list_all p) (take_while-cons p x xs ∙ cond-false (p x) (x ∷ take_while p xs) [] e)
] refl

pub run_is_front : (p : ℕ → Bool) (xs : List ℕ) → take (length (take_while p xs)) xs ≡ take_while p xs
run_is_front p xs = ap (λ k. take k xs) (length-take-le (prefix_len p xs) xs (prefix_len-le-length p xs))

pub some_length : (xs : List ℕ) → xs ≢ [] → 0 < length xs
some_length [] h = absurd (h refl)
some_length (x ∷ xs) h = omega arith

pub length_some : (xs : List ℕ) → 0 < length xs → xs ≢ []
length_some xs h e = omega (arith, ap length e)

below_true : (n : ℕ) → 0 < n → ltb 0 n ≡ true
below_true n h = lt-ltb 0 n h

true_below : (n : ℕ) → ltb 0 n ≡ true → 0 < n
true_below n h = ltb-true 0 n h

-- a byte that spells itself is no sign
pub no_sign : (b k : ℕ) → is_plain k ≡ false → is_plain b ≡ true → eqb b k ≡ false
no_sign b k n p = elim (eqb b k) as (λ v. eqb b k ≡ v → eqb b k ≡ false) [
  | true ↦ λ e. absurd (false≢true (sym n ∙ ap is_plain (sym (eqb-true b k e)) ∙ p))
  | false ↦ λ e. e
] refl

-- a part and a count, where a front has one
part_in : Option Front → Part
part_in None = AnyRun
part_in (Some f) = f.part

count_in : Option Front → ℕ
count_in None = 0
count_in (Some f) = f.count

pub front_same : (p q : Part) (n m : ℕ) → front_part p n ≡ front_part q m → (q ≡ p) × (m ≡ n)
unfolding part_in count_in
front_same p q n m e = (sym (ap part_in e), sym (ap count_in e))

set_front_some : (word : List ℕ) → ltb 0 (set_length word) ≡ true → eqb (get_or word (1 + set_length word) 0) 93 ≡ true
    → set_front word ≡ front_part (OneOf (ranges_of (slice_range word 1 (1 + set_length word)))) (2 + set_length word)
unfolding set_front
set_front_some word a b = cond-true _ _ _ (and_from _ _ a b)

abbrev in_brackets : List ℕ → List ℕ → List ℕ
in_brackets body rest = 91 ∷ (body ++ 93 ∷ rest)

body_length : (body rest : List ℕ) → IsSetBody body → set_length (in_brackets body rest) ≡ length body
body_length body rest h = ap length (run_of is_set_byte 93 body rest refl h.1)

close_at : (body rest : List ℕ) → get_or (in_brackets body rest) (1 + length body) 0 ≡ 93
close_at body rest =
    let e : 1 + length body ≡ length (91 ∷ body) = omega arith in
    ap (λ k. get_or (in_brackets body rest) k 0) e ∙ get_or-append_seam (91 ∷ body) 93 rest 0

body_in : (body rest : List ℕ) → slice_range (in_brackets body rest) 1 (1 + length body) ≡ body
body_in body rest =
    let e : (1 + length body) - 1 ≡ length body = omega arith in
    ap (λ k. take k (body ++ 93 ∷ rest)) e ∙ take-append_seam body (93 ∷ rest)

front_of_set : (body rest : List ℕ) → IsSetBody body
    → set_front (in_brackets body rest) ≡ front_part (OneOf (ranges_of body)) (2 + length body)
front_of_set body rest h =
    let word = in_brackets body rest in
    let l = body_length body rest h in
    let t : ltb 0 (set_length word) ≡ true = below_true (set_length word) (omega (arith, l, some_length body h.0)) in
    let u : eqb (get_or word (1 + set_length word) 0) 93 ≡ true = eq-eqb _ _
    (ap (λ k. get_or word (1 + k) 0) l ∙ close_at body rest) in
    set_front_some word t u
    ∙ ap (λ k. front_part (OneOf (ranges_of (slice_range word 1 (1 + k)))) (2 + k)) l
    ∙ ap (λ v. front_part (OneOf (ranges_of v)) (2 + length body)) (body_in body rest)

opened : (body rest : List ℕ) → (91 ∷ (body ++ 93 ∷ [])) ++ rest ≡ in_brackets body rest
opened body rest = ap (λ v. 91 ∷ v) (append_assoc body (93 ∷ []) rest)

brackets_length : (body : List ℕ) → 2 + length body ≡ length (91 ∷ (body ++ 93 ∷ []))
brackets_length body = omega (arith, length-append body (93 ∷ []))

front_of_brackets : (word : List ℕ) → front (91 ∷ word) ≡ set_front (91 ∷ word)
unfolding front
front_of_brackets word = refl

pub front_of_plain : (b : ℕ) (rest : List ℕ) → is_plain b ≡ true → front (b ∷ rest) ≡ front_part (Byte b) 1
unfolding front
front_of_plain b rest g =
    cond-false (eqb b 42) _ _ (no_sign b 42 refl g) ∙ cond-false (eqb b 63) _ _ (no_sign b 63 refl g)
    ∙ cond-false (eqb b 92) _ _ (no_sign b 92 refl g) ∙ cond-false (eqb b 91) _ _ (no_sign b 91 refl g)
    ∙ cond-true (is_plain b) _ _ g

front_of_escape : (b : ℕ) (rest : List ℕ) → is_escapable b ≡ true → front (92 ∷ b ∷ rest) ≡ front_part (Byte b) 2
unfolding front escape_front
front_of_escape b rest g = cond-true (is_escapable b) _ _ g

front_of_signs : (rest : List ℕ)
    → (front (42 ∷ rest) ≡ front_part AnyRun 1) × (front (63 ∷ rest) ≡ front_part AnyByte 1)
unfolding front
front_of_signs rest = (refl, refl)

pub front_of_spelled : (p : Part) (bytes rest : List ℕ) → SpellsPart p bytes
    → front (bytes ++ rest) ≡ front_part p (length bytes)
front_of_spelled AnyRun bytes rest e =
    subst (λ v. front (v ++ rest) ≡ front_part AnyRun (length v)) (sym e) (front_of_signs rest).0
front_of_spelled AnyByte bytes rest e =
    subst (λ v. front (v ++ rest) ≡ front_part AnyByte (length v)) (sym e) (front_of_signs rest).1
front_of_spelled (Byte b) bytes rest (inl (g, e)) =
    subst (λ v. front (v ++ rest) ≡ front_part (Byte b) (length v)) (sym e) (front_of_plain b rest g)
front_of_spelled (Byte b) bytes rest (inr (g, e)) =
    subst (λ v. front (v ++ rest) ≡ front_part (Byte b) (length v)) (sym e) (front_of_escape b rest g)
front_of_spelled (OneOf ranges) bytes rest (body, some, r, e) =
    subst (λ v. front (v ++ rest) ≡ front_part (OneOf ranges) (length v)) (sym e)
    (ap front (opened body rest) ∙ front_of_brackets (body ++ 93 ∷ rest) ∙ front_of_set body rest some
    ∙ ap (λ v. front_part (OneOf v) (2 + length body)) (sym r)
    ∙ ap (λ k. front_part (OneOf ranges) k) (brackets_length body))

-- and back: what the front is, is spelled there
split_cond : {X : Type 0} (t : Bool) (x y z : X) → cond t x y ≡ z → ((t ≡ true) × (x ≡ z)) ⊎ ((t ≡ false) × (y ≡ z))
split_cond true x y z e = inl (refl, e)
split_cond false x y z e = inr (refl, e)

spell_as : (p q : Part) (n m : ℕ) (word : List ℕ) → front_part p n ≡ front_part q m → SpellsPart p (take n word)
    → SpellsPart q (take m word)
spell_as p q n m word e s =
    let h = front_same p q n m e in
    subst (λ v. SpellsPart v (take m word)) (sym h.0) (subst (λ k. SpellsPart p (take k word)) (sym h.1) s)

no_front : (q : Part) (m : ℕ) → None ≡ front_part q m → ⊥
no_front q m e = cc

within_value : (xs : List ℕ) (n : ℕ) → get_or xs n 0 ≡ 93 → n < length xs
within_value [] n e = omega arith
within_value (x ∷ xs) zero e = omega arith
within_value (x ∷ xs) (suc n) e = omega (arith, within_value xs n e)

abbrev at_plain : ℕ → Option Front
at_plain b = cond (is_plain b) (front_part (Byte b) 1) None

abbrev at_open : ℕ → List ℕ → Option Front
at_open b word = cond (eqb b 91) (set_front word) (at_plain b)

abbrev at_escape : ℕ → List ℕ → Option Front
at_escape b word = cond (eqb b 92) (escape_front word) (at_open b word)

abbrev at_byte : ℕ → List ℕ → Option Front
at_byte b word = cond (eqb b 63) (front_part AnyByte 1) (at_escape b word)

front_is : (b : ℕ) (rest : List ℕ) → front (b ∷ rest) ≡ cond (eqb b 42) (front_part AnyRun 1) (at_byte b (b ∷ rest))
unfolding front
front_is b rest = refl

escape_spelled : (b : ℕ) (rest : List ℕ) (q : Part) (m : ℕ) → b ≡ 92 → escape_front (b ∷ rest) ≡ front_part q m
    → SpellsPart q (take m (b ∷ rest))
unfolding escape_front
escape_spelled b [] q m s e = absurd (no_front q m e)
escape_spelled b (x ∷ rest) q m s e = elim (split_cond (is_escapable x) (front_part (Byte x) 2) None
    (front_part q m) e) [
      | inl (g, h) ↦ spell_as (Byte x) q 2 m (b ∷ x ∷ rest) h (inr (g, ap (λ v. v ∷ x ∷ []) s))
      | inr (g, h) ↦ absurd (no_front q m h)
    ]

set_spelled_at : (b : ℕ) (rest : List ℕ) → b ≡ 91 → 0 < set_length (b ∷ rest)
    → get_or (b ∷ rest) (1 + set_length (b ∷ rest)) 0 ≡ 93
    → SpellsPart (OneOf (ranges_of (slice_range (b ∷ rest) 1 (1 + set_length (b ∷ rest)))))
    (take (2 + set_length (b ∷ rest)) (b ∷ rest))
set_spelled_at b rest s some close =
    let n = set_length (b ∷ rest) in
    let run = take_while is_set_byte rest in
    let k : (1 + n) - 1 ≡ n = omega arith in
    let body : slice_range (b ∷ rest) 1 (1 + n) ≡ run = ap (λ i. take i rest) k ∙ run_is_front is_set_byte rest in
    let one : 1 + n ≡ suc n = omega arith in
    let two : 2 + n ≡ suc (n + 1) = omega arith in
    let c : get_or rest n 0 ≡ 93 = sym (ap (λ i. get_or (b ∷ rest) i 0) one) ∙ close in
    let cut : take (n + 1) rest ≡ run ++ 93 ∷ [] =
    take_more rest n 0 (within_value rest n c) ∙ ap (λ v. v ++ get_or rest n 0 ∷ []) (run_is_front is_set_byte rest)
    ∙ ap (λ v. run ++ v ∷ []) c in
    let whole : take (2 + n) (b ∷ rest) ≡ 91 ∷ (run ++ 93 ∷ []) = ap (λ i. take i (b ∷ rest)) two
    ∙ ap (λ v. v ∷ take (n + 1) rest) s ∙ ap (λ v. 91 ∷ v) cut in
    (run, (length_some run some, run_passes is_set_byte rest), ap ranges_of body, whole)

set_spelled : (b : ℕ) (rest : List ℕ) (q : Part) (m : ℕ) → b ≡ 91 → set_front (b ∷ rest) ≡ front_part q m
    → SpellsPart q (take m (b ∷ rest))
unfolding set_front
set_spelled b rest q m s e =
    let n = set_length (b ∷ rest) in
    let p = OneOf (ranges_of (slice_range (b ∷ rest) 1 (1 + n))) in
    elim (split_cond _ (front_part p (2 + n)) None (front_part q m) e) [
      | inl (t, h) ↦
          let a = and_parts (ltb 0 n) (eqb (get_or (b ∷ rest) (1 + n) 0) 93) t in
          spell_as p q (2 + n) m (b ∷ rest) h (set_spelled_at b rest s (true_below n a.0) (eqb-true _ _ a.1))
      | inr (t, h) ↦ absurd (no_front q m h)
    ]

pub empty_front : front [] ≡ None
unfolding front
empty_front = refl

pub spelled_at_front : (word : List ℕ) (q : Part) (m : ℕ) → front word ≡ front_part q m → SpellsPart q (take m word)
spelled_at_front [] q m e = absurd (no_front q m (sym empty_front ∙ e))
spelled_at_front (b ∷ rest) q m e =
    let word = b ∷ rest in
    elim (split_cond (eqb b 42) (front_part AnyRun 1) (at_byte b word) (front_part q m) (sym (front_is b rest) ∙ e)) [
      | inl (t, h) ↦ spell_as AnyRun q 1 m word h (ap (λ v. v ∷ []) (eqb-true b 42 t))
      | inr (t, h) ↦ elim (split_cond (eqb b 63) (front_part AnyByte 1) (at_escape b word) (front_part q m) h) [
        | inl (t, h) ↦ spell_as AnyByte q 1 m word h (ap (λ v. v ∷ []) (eqb-true b 63 t))
        | inr (t, h) ↦ elim (split_cond (eqb b 92) (escape_front word) (at_open b word) (front_part q m) h) [
          | inl (t, h) ↦ escape_spelled b rest q m (eqb-true b 92 t) h
          | inr (t, h) ↦ elim (split_cond (eqb b 91) (set_front word) (at_plain b) (front_part q m) h) [
            | inl (t, h) ↦ set_spelled b rest q m (eqb-true b 91 t) h
            | inr (t, h) ↦ elim (split_cond (is_plain b) (front_part (Byte b) 1) None (front_part q m) h) [
              | inl (t, h) ↦ spell_as (Byte b) q 1 m word h (inl (t, refl))
              | inr (t, h) ↦ absurd (no_front q m h)
            ]
          ]
        ]
      ]
    ]

pub nothing_in_front : (bytes more : List ℕ) (p : Part) → SpellsPart p bytes → [] ≡ bytes ++ more → ⊥
nothing_in_front bytes more p s e =
    no_front p (length bytes) (sym empty_front ∙ ap front e ∙ front_of_spelled p bytes more s)
