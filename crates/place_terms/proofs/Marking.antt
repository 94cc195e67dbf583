-- The table of the PROVIDEs that are in force.
use Rattle.place_terms.proofs.Common.{Bool, List, Marks, None, Some, Statement, [], ap, arith, bytes_eq, false, get_or}
use Rattle.place_terms.proofs.Common.{get_or-set_at, get_or-set_other, length, length-set, list_any, other_name, refl}
use Rattle.place_terms.proofs.Common.{set, sym, symbol_number, true, ℕ, ◌++◌, ◌<◌, ◌||◌, ◌∙◌, ◌∷◌, ◌≡◌, ◌≢◌, ◌≤◌}
use Rattle.place_terms.proofs.Lists.{is_same_name, same_name}
use Rattle.place_terms.proofs.Numbers.{symbols_told}

any_more : (name m : List ℕ) (names : List (List ℕ)) → list_any (bytes_eq name) (names ++ m ∷ [])
    ≡ (list_any (bytes_eq name) names || bytes_eq name m)
any_more name m [] = go (bytes_eq name m)
  where
    go : (b : Bool) → (b || false) ≡ b
    go true = refl
    go false = refl
any_more name m (n ∷ names) = go (bytes_eq name n) (any_more name m names)
  where
    go : (b : Bool) → list_any (bytes_eq name) (names ++ m ∷ []) ≡ (list_any (bytes_eq name) names || bytes_eq name m)
        → (b || list_any (bytes_eq name) (names ++ m ∷ [])) ≡ ((b || list_any (bytes_eq name) names) || bytes_eq name m)
    go true h = refl
    go false h = h

or_true : (b : Bool) → (b || true) ≡ true
or_true true = refl
or_true false = refl

or_false : (b : Bool) → (b || false) ≡ b
or_false true = refl
or_false false = refl

module _ (script : List Statement) (table : List Bool) (name : List ℕ) where
  pub marks_there : (k : ℕ) → symbol_number script name ≡ Some k → k < length table
      → Marks script table (set table k true) name
  marks_there k known l names t =
      record { says = λ m j e h. go m j e (omega (arith, h, length-set table k true)) (bytes_eq m name) refl }
    where
      go : (m : List ℕ) (j : ℕ) → symbol_number script m ≡ Some j → j < length table → (b : Bool) → bytes_eq m name ≡ b
          → get_or (set table k true) j false ≡ list_any (bytes_eq m) (names ++ name ∷ [])
      go m j e h true same =
          let f = ap (symbol_number script) (same_name m name same) in
          let j_is : j ≡ k = cc in
          get_or-set_at table k j true false j_is l
          ∙ sym (any_more m name names ∙ rw same (or_true (list_any (bytes_eq m) names)))
      go m j e h false other =
          let ne : j ≢ k = (λ s. let n =
          is_same_name m name ((symbols_told script).apart m name k (e ∙ ap Some s) known) in let no : ⊥ = cc in
          no) in
          get_or-set_other table k j true false ne
          ∙ (t.says m j e h ∙ sym (any_more m name names ∙ rw other (or_false (list_any (bytes_eq m) names))))

  marks_nothing : ((m : List ℕ) (j : ℕ) → symbol_number script m ≡ Some j → j < length table → bytes_eq m name ≡ false)
      → Marks script table table name
  marks_nothing none names t =
      record {
        says = λ m j e h. let other = none m j e h in t.says m j e h
            ∙ sym (any_more m name names ∙ rw other (or_false (list_any (bytes_eq m) names)));
      }

  pub marks_past : (k : ℕ) → symbol_number script name ≡ Some k → length table ≤ k → Marks script table table name
  marks_past k known l =
      marks_nothing (λ m j e h.
      other_name m name (λ s. let f = ap (symbol_number script) s in let j_is : j ≡ k = cc in omega arith))

  pub marks_unknown : symbol_number script name ≡ None → Marks script table table name
  marks_unknown none = marks_nothing (λ m j e h.
      other_name m name (λ s. let f = ap (symbol_number script) s in let no : ⊥ = cc in no))
