-- The names of a map's symbols, and what holds of each symbol.
use Rattle.emit_text.proofs.Common.{All, AllPairs, Each, List, MapSymbol, [], arith, get_or, inl, inr, is_before}
use Rattle.emit_text.proofs.Common.{length, subst, suc, sym, true, ℕ, ◌<◌, ◌∷◌, ◌≡◌}
use Rattle.emit_text.specs.MapOf.{symbol_names}
use Rattle.emit_text.proofs.ByteOrder.{Name, lt_from_before, Below, Asc, In}

abbrev n : MapSymbol → Name
n x = x.name.now

pub each_of : (P : MapSymbol → Type 0) (xs : List MapSymbol) → All P xs → Each P xs
each_of P [] h = tt
each_of P (x ∷ xs) h = (h 0 x (omega arith), each_of P xs (λ k d l. h (suc k) d (omega (arith, l))))

pub each_name : (P : MapSymbol → Type 0) (Q : Name → Type 0) → ((x : MapSymbol) → P x → Q (n x))
    → (xs : List MapSymbol) (z : Name) → Each P xs → In z (symbol_names xs) → Q z
each_name P Q f [] z h i = absurd i
each_name P Q f (x ∷ xs) z h (inl e) = subst Q (sym e) (f x h.0)
each_name P Q f (x ∷ xs) z h (inr i) = each_name P Q f xs z h.1 i

abbrev Ordered : List MapSymbol → Type 0
Ordered xs = AllPairs (λ (x y : MapSymbol). is_before x.name.now y.name.now ≡ true) xs

below_from : (x : MapSymbol) (xs : List MapSymbol)
    → ((k : ℕ) (d : MapSymbol) → k < length xs → is_before (n x) (n (get_or xs k d)) ≡ true)
    → Below (n x) (symbol_names xs)
below_from x [] h = tt
below_from x (y ∷ ys) h =
    (lt_from_before (n x) (n y) (h 0 y (omega arith)), below_from x ys (λ k d l. h (suc k) d (omega (arith, l))))

pub asc_from : (xs : List MapSymbol) → Ordered xs → Asc (symbol_names xs)
asc_from [] h = tt
asc_from (x ∷ xs) h = (
  below_from x xs (λ k d l. h 0 (suc k) d (omega arith) (omega (arith, l))),
  asc_from xs (λ i j d a b. h (suc i) (suc j) d (omega (arith, a)) (omega (arith, b))),
)
