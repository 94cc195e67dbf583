-- Lists of an object's symbols with the numbers of their names.
use Rattle.symres_table.proofs.Common.{All-append, All-cons, All-nil, AreOf, HasName, IsNamed, List, NamedSymbol}
use Rattle.symres_table.proofs.Common.{Numbered, Option, Some, [], ap, false, get_or, is_local, length, spell_symbol}
use Rattle.symres_table.proofs.Common.{sym, text, ℕ, ◌++◌, ◌<◌, ◌∙◌, ◌∷◌, ◌≡◌}
use Rattle.symres_table.proofs.Spelling.{seen_name}

-- a symbol that isn't local has the name that its number stands for
pub named_of : (names : List (Option (List ℕ))) (s : Numbered) (x : NamedSymbol) → spell_symbol names s ≡ x
    → HasName names s → is_local s.symbol.binding ≡ false → IsNamed names s.name x.name
named_of names s x e h v =
    let t = h v in
    t.1 ∙ ap Some (sym (ap (λ (y : NamedSymbol). y.name) (sym e) ∙ seen_name names s v ∙ ap text t.1))

pub of_push : (names : List (Option (List ℕ))) (xs : List NamedSymbol) (ss : List Numbered) (s : Numbered) (i : ℕ)
    → i < length xs → s.number ≡ i → ((d : NamedSymbol) → spell_symbol names s ≡ get_or xs i d) → HasName names s
    → AreOf names xs ss → AreOf names xs (ss ++ s ∷ [])
of_push names xs ss s i lt at is h a =
    let P : Numbered → Type 0 = λ (s : Numbered). (s.number < length xs) × (is_local s.symbol.binding ≡ false
    → (d : NamedSymbol) → IsNamed names s.name (get_or xs s.number d).name) in
    All-append P ss (s ∷ []) a (All-cons P s [] (
      rw (sym at) at lt,
      λ v d. rw (sym at) at
          (named_of names s (get_or xs i d) (is d) h v),
    ) (All-nil P))
