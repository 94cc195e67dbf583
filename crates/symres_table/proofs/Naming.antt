-- Whether a symbol has the name of a number.
use Rattle.symres_table.proofs.Common.{Bool, HasRow, List, Numbered, Undefined, [], ap, append-nil, arith, cond, eq-eqb}
use Rattle.symres_table.proofs.Common.{eqb, false, filter-append, is_local, is_named, named, ne_eqb, not, refl, true, ℕ}
use Rattle.symres_table.proofs.Common.{◌&&◌, ◌++◌, ◌∙◌, ◌∷◌, ◌≡◌, ◌≢◌, ◌≤◌}
use Rattle.elfobj.specs.declared.symbol.Binding.TheVariants.{Local}
use Rattle.elfobj.specs.declared.symbol.SymbolKind.TheVariants.{NoType}

-- a symbol to stand past the end of a list
abbrev pub nothing : Numbered
nothing = record {
  name = 0;
  number = 0;
  symbol =
      record { binding = Local; kind = NoType; place = Undefined; value = 0; size = 0 };
}

pub and_false : (b : Bool) → (b && false) ≡ false
and_false true = refl
and_false false = refl

pub visible_is : (b : Bool) → true ≡ not b → b ≡ false
visible_is true e = absurd (cc)
visible_is false e = refl

pub named_yes : (k : ℕ) (s : Numbered) → is_local s.symbol.binding ≡ false → s.name ≡ k → is_named k s ≡ true
named_yes k s v e = ap (λ b. not b && eqb s.name k) v ∙ eq-eqb s.name k e

pub named_no : (k : ℕ) (s : Numbered) → s.name ≢ k → is_named k s ≡ false
named_no k s n = ap (λ b. not (is_local s.symbol.binding) && b) (ne_eqb s.name k n)
    ∙ and_false (not (is_local s.symbol.binding))

pub named_local : (k : ℕ) (s : Numbered) → is_local s.symbol.binding ≡ true → is_named k s ≡ false
named_local k s v = ap (λ b. not b && eqb s.name k) v

-- a name past those that the symbol may have
pub named_past : (n k : ℕ) (s : Numbered) → n ≤ k → HasRow n s → is_named k s ≡ false
named_past n k s w h = go (is_local s.symbol.binding) refl
  where
    go : (b : Bool) → is_local s.symbol.binding ≡ b → is_named k s ≡ false
    go true e = named_local k s e
    go false e = let lt = h e in named_no k s (λ same. absurd (omega (arith, lt, w, same)))

pub named_push : (k : ℕ) (ss : List Numbered) (s : Numbered) (b : Bool) → is_named k s ≡ b → named k (ss ++ s ∷ [])
    ≡ cond b (named k ss ++ s ∷ []) (named k ss)
named_push k ss s true e = filter-append (is_named k) ss (s ∷ []) ∙ ap (λ b. named k ss ++ cond b (s ∷ []) []) e
named_push k ss s false e = filter-append (is_named k) ss (s ∷ []) ∙ ap (λ b. named k ss ++ cond b (s ∷ []) []) e
    ∙ append-nil _
