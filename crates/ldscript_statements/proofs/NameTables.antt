-- Tables of names: what a look-up finds after an entry is put in.
use Rattle.ldscript_statements.proofs.Common.{Bool, List, None, Ordering, Some, [], ap, arith, bytes_eq}
use Rattle.ldscript_statements.proofs.Common.{bytes_eq-Decides, cond, false, false≢true, is_eq, lookup, match_ordering}
use Rattle.ldscript_statements.proofs.Common.{nat_cmp, refl, slice_cmp, sym, true, ℕ, ◌∙◌, ◌∷◌, ◌≡◌}
use Rattle.std.specs.declared.cmp.Ordering.TheVariants.{Less, Equal, Greater}
use Rattle.std.specs.BTreeMap.{is_at, insert_entry}
use Rattle.std.proofs.lemmas.Map.Text.{is_eq-slice_cmp}

pub same_bytes : (a b : List ℕ) → bytes_eq a b ≡ true → a ≡ b
same_bytes a b h = grind (arith, bytes_eq-Decides)

bytes_same : (a : List ℕ) → bytes_eq a a ≡ true
bytes_same a = grind (arith, bytes_eq-Decides)

one_of_two : {X : Type 0} (t b : Bool) (x y l : X) → (t ≡ true → b ≡ true → true ≡ false)
    → cond t x (cond b y l) ≡ cond b y (cond t x l)
one_of_two true true x y l apart = absurd (false≢true (sym (apart refl refl)))
one_of_two true false x y l apart = refl
one_of_two false true x y l apart = refl
one_of_two false false x y l apart = refl

in_place : {X : Type 0} (t b : Bool) (x y l : X) → t ≡ b → cond t y l ≡ cond b y (cond t x l)
in_place true b x y l e = ap (λ c. cond c y x) e
in_place false b x y l e = ap (λ c. cond c y l) e

module _ {K : Type 0} (f : K → List ℕ) (q : List ℕ) where
  abbrev finds : K → Bool
  finds = is_at (λ x. slice_cmp nat_cmp q (f x))

  -- by where the key stands to the first entry
  at_first : (k : K) (v : ℕ) (e : K × ℕ) (es ins : List (K × ℕ)) (o : Ordering) → slice_cmp nat_cmp (f k) (f e.0) ≡ o
      → lookup finds ins ≡ cond (bytes_eq q (f k)) (Some v) (lookup finds es)
      → lookup finds (match_ordering o ((k, v) ∷ e ∷ es) ((e.0, v) ∷ es) (e ∷ ins)) ≡ cond (bytes_eq q (f k)) (Some v)
      (lookup finds (e ∷ es))
  at_first k v e es ins Less is later = ap (λ b. cond b (Some v) (lookup finds (e ∷ es))) (is_eq-slice_cmp q (f k))
  at_first k v e es ins Equal is later =
      let same : f k ≡ f e.0 = same_bytes (f k) (f e.0) (sym (is_eq-slice_cmp (f k) (f e.0)) ∙ ap is_eq is) in
      in_place (finds e.0) (bytes_eq q (f k)) (Some e.1) (Some v) (lookup finds es)
      (is_eq-slice_cmp q (f e.0) ∙ ap (bytes_eq q) (sym same))
  at_first k v e es ins Greater is later =
      let apart : finds e.0 ≡ true → bytes_eq q (f k) ≡ true → true ≡ false = λ t b.
      (let there : q ≡ f e.0 = same_bytes q (f e.0) (sym (is_eq-slice_cmp q (f e.0)) ∙ t) in
      let here : q ≡ f k = same_bytes q (f k) b in
      sym (bytes_same (f k)) ∙ ap (bytes_eq (f k)) (sym here ∙ there) ∙ sym (is_eq-slice_cmp (f k) (f e.0))
      ∙ ap is_eq is) in
      ap (λ r. cond (finds e.0) (Some e.1) r) later
      ∙ one_of_two (finds e.0) (bytes_eq q (f k)) (Some e.1) (Some v) (lookup finds es) apart

  -- a look-up after an entry is put in
  pub lookup_put : (k : K) (v : ℕ) (es : List (K × ℕ))
      → lookup finds (insert_entry (λ x y. slice_cmp nat_cmp (f x) (f y)) es k v) ≡ cond (bytes_eq q (f k)) (Some v)
      (lookup finds es)
  lookup_put k v [] = ap (λ b. cond b (Some v) None) (is_eq-slice_cmp q (f k))
  lookup_put k v (e ∷ es) =
      at_first k v e es (insert_entry (λ x y. slice_cmp nat_cmp (f x) (f y)) es k v)
      (slice_cmp nat_cmp (f k) (f e.0)) refl (lookup_put k v es)
