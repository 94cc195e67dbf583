-- Symbols that are added name after name, where the names are in byte order, stand in byte order.
use Rattle.emit_relocate.proofs.Common.{AddsAtMost, AddsSome, IsSortedBy, List, OutputSymbol, Picks, [], ap, append-nil}
use Rattle.emit_relocate.proofs.Common.{append_assoc, arith, get_or, get_or-map, inl, inr, is_before, length-map}
use Rattle.emit_relocate.proofs.Common.{names_in, refl, subst, sym, ⊎_elim, ◌++◌, ◌+◌, ◌<◌, ◌∙◌, ◌∷◌, ◌≡◌, ◌⊎◌}
use Rattle.emit_text.proofs.ByteOrder.{Asc, In, Name, below_all, below_in}
use Rattle.emit_relocate.specs.AssertedSymbols.{AreInOrder}
use Rattle.emit_relocate.proofs.NamesAscending.{asc_sorted}

picks_join : (ms ns xs ys : List Name) → Picks ms xs → Picks ns ys → Picks (ms ++ ns) (xs ++ ys)
picks_join [] ns xs ys p q = subst (λ (l : List Name). Picks ns (l ++ ys)) (sym p) q
picks_join (m ∷ ms) ns xs ys (inl p) q = inl (picks_join ms ns xs ys p q)
picks_join (m ∷ ms) ns xs ys (inr p) q =
    inr (p.0 ++ ys, ap (λ (l : List Name). l ++ ys) p.1, picks_join ms ns p.0 ys p.2 q)

picks_in : (ns xs : List Name) (z : Name) → Picks ns xs → In z xs → In z ns
picks_in [] xs z p i = subst (In z) p i
picks_in (n ∷ ns) xs z (inl p) i = inr (picks_in ns xs z p i)
picks_in (n ∷ ns) xs z (inr p) i =
    let j : (z ≡ n) ⊎ In z p.0 = subst (In z) p.1 i in
    ⊎_elim (λ e. inl e) (λ k. inr (picks_in ns p.0 z p.2 k)) j

picks_asc : (ns xs : List Name) → Picks ns xs → Asc ns → Asc xs
picks_asc [] xs p a = subst Asc (sym p) tt
picks_asc (n ∷ ns) xs (inl p) a = picks_asc ns xs p a.1
picks_asc (n ∷ ns) xs (inr p) a =
    let up : Asc (n ∷ p.0) =
    (below_all n p.0 (λ z i. below_in n z ns a.0 (picks_in ns p.0 z p.2 i)), picks_asc ns p.0 p.2 a.1) in
    subst Asc (sym p.1) up

pub adds_none : (xs : List OutputSymbol) → AddsSome [] xs xs
adds_none xs = ([], refl, sym (append-nil (names_in xs)))

pub adds_join : (ms ns : List Name) (xs ys zs : List OutputSymbol) → AddsSome ms xs ys → AddsSome ns ys zs
    → AddsSome (ms ++ ns) xs zs
adds_join ms ns xs ys zs p q = (
  p.0 ++ q.0,
  picks_join ms ns p.0 q.0 p.1 q.1,
  q.2 ∙ ap (λ (l : List Name). l ++ q.0) p.2 ∙ append_assoc (names_in xs) p.0 q.0,
)

pub adds_at_most : (name : Name) (old new : List OutputSymbol) → AddsAtMost name old new
    → AddsSome (name ∷ []) old new
adds_at_most name old new (inl is) = ([], inl refl, is ∙ sym (append-nil (names_in old)))
adds_at_most name old new (inr is) = (name ∷ [], inr ([], refl, refl), is)

-- symbols are in the order of their names
in_order : (symbols : List OutputSymbol) → IsSortedBy is_before (names_in symbols) → AreInOrder symbols
in_order symbols h k d low high =
    let f : OutputSymbol → Name = λ (x : OutputSymbol). x.name.now in
    let later : get_or (names_in symbols) (k + 1) [] ≡ f (get_or symbols (k + 1) d) =
    get_or-map f symbols (k + 1) d [] high in
    let here : get_or (names_in symbols) k [] ≡ f (get_or symbols k d) =
    get_or-map f symbols k d [] (omega (arith, high)) in
    ap (λ y. is_before y (f (get_or symbols k d))) (sym later)
    ∙ ap (is_before (get_or (names_in symbols) (k + 1) [])) (sym here)
    ∙ h k [] low (subst (λ m. k + 1 < m) (sym (length-map symbols f)) high)

-- all that were added are in byte order
pub added_in_order : (names : List Name) (old new : List OutputSymbol) → Asc names → old ≡ []
    → AddsSome names old new → AreInOrder new
added_in_order names old new up none added =
    let is : names_in new ≡ added.0 = added.2 ∙ ap (λ (xs : List OutputSymbol). names_in xs ++ added.0) none in
    in_order new (asc_sorted (names_in new) (subst Asc (sym is) (picks_asc names added.0 added.1 up)))
