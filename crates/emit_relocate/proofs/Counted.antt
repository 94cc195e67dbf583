-- How much the symbols of the output have in the symbol table.
use Rattle.emit_relocate.proofs.Common.{AddsSymbols, Layout, List, OutputSymbol, Project, [], ap, arith}
use Rattle.emit_relocate.proofs.Common.{defined_symbols, drop, drop-map, get_or, length, length-map, plus_symbols, refl}
use Rattle.emit_relocate.proofs.Common.{shown, shown_symbol, suc, sym, zero, ℕ, ◌++◌, ◌+◌, ◌<◌, ◌∙◌, ◌∷◌, ◌≡◌, ◌≤◌}
use Rattle.ldmodel.specs.OutputSymbols as model
use Rattle.emit_relocate.specs.Sizes.{plus_symbol, plus_value}
use Rattle.emit_relocate.specs.declared.sizes.SymbolSizes.{SymbolSizes}

-- the same of symbols of the definition
abbrev plus_all : SymbolSizes → List model.OutputSymbol → SymbolSizes
plus_all t [] = t
plus_all t (x ∷ xs) = plus_all (plus_value t x.name x.value) xs

shown_same : (p : Project) (t : SymbolSizes) (xs : List OutputSymbol) → plus_symbols t xs ≡ plus_all t (shown p xs)
shown_same p t [] = refl
shown_same p t (x ∷ xs) = shown_same p (plus_symbol t x) xs

plus_append : (t : SymbolSizes) (xs ys : List model.OutputSymbol) → plus_all t (xs ++ ys)
    ≡ plus_all (plus_all t xs) ys
plus_append t [] ys = refl
plus_append t (x ∷ xs) ys = plus_append (plus_value t x.name x.value) xs ys

drop_first : {X : Type 0} (xs ys : List X) → drop (length xs) (xs ++ ys) ≡ ys
drop_first [] ys = refl
drop_first (x ∷ xs) ys = drop_first xs ys

-- what was added is counted
pub counts_more : (p : Project) (s : Layout) (names : List _) (old new : List OutputSymbol) (n : ℕ)
    (zero_sizes before after : SymbolSizes) → AddsSymbols p s names old new → n ≡ length old
    → before ≡ plus_symbols zero_sizes old → after ≡ plus_symbols before (drop n new)
    → after ≡ plus_symbols zero_sizes new
counts_more p s names old new n t before after added long was is =
    let more : List model.OutputSymbol = defined_symbols p s names in
    let front : n ≡ length (shown p old) = long ∙ sym (length-map old (shown_symbol p)) in
    let rest : shown p (drop n new) ≡ more =
    sym (drop-map (shown_symbol p) n new) ∙ ap (drop n) added
    ∙ ap (λ k. drop k (shown p old ++ more)) front ∙ drop_first (shown p old) more in
    is ∙ shown_same p before (drop n new) ∙ ap (plus_all before) rest
    ∙ ap (λ u. plus_all u more) (was ∙ shown_same p t old)
    ∙ sym (plus_append t (shown p old) more) ∙ ap (plus_all t) (sym added) ∙ sym (shown_same p t new)

-- the last symbol, and none past it
pub last_is : (t : SymbolSizes) (xs : List OutputSymbol) (n : ℕ) (x : OutputSymbol) → n < length xs
    → length xs ≤ n + 1 → x ≡ get_or xs n x → plus_symbols t (drop n xs) ≡ plus_symbol t x
last_is t [] n x l m e = absurd (omega (arith, l))
last_is t (y ∷ []) zero x l m e = ap (plus_symbol t) (sym e)
last_is t (y ∷ z ∷ ys) zero x l m e = absurd (omega (arith, m))
last_is t (y ∷ ys) (suc n) x l m e = last_is t ys n x (omega (arith, l)) (omega (arith, m)) e

pub none_past : (t : SymbolSizes) (xs : List OutputSymbol) (n : ℕ) → length xs ≤ n → plus_symbols t (drop n xs) ≡ t
none_past t [] zero l = refl
none_past t [] (suc n) l = refl
none_past t (x ∷ xs) zero l = absurd (omega (arith, l))
none_past t (x ∷ xs) (suc n) l = none_past t xs n (omega (arith, l))
