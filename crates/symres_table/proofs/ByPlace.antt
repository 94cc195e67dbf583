-- Objects by their places.
use Rattle.symres_table.proofs.Common.{Entered, IsNamed, List, NamedSymbol, None, Numbered, ObjectKey, Option, Some, []}
use Rattle.symres_table.proofs.Common.{ap, arith, false, get_or, is_local, length, length-map, map, option_map, refl}
use Rattle.symres_table.proofs.Common.{slice_get, slice_get-map, spell, spell_symbol, subst, sym, ℕ, ◌<◌, ◌∙◌, ◌≡◌}
use Rattle.std.proofs.lemmas.List.{get_or-map}
use Rattle.symres_table.specs.Objects.{key_of}
use Rattle.symres_table.specs.State.{IsNameAt, IsSeenAt, object_key}
use Rattle.symres_table.proofs.Joined.{named_so}
use Rattle.symres_table.proofs.Naming.{nothing}
use Rattle.symres_table.proofs.Spelling.{AllSpellable}

abbrev Names : Type 0
Names = List (Option (List ℕ))

abbrev Table : Type 0
Table = ℕ × List NamedSymbol

nobody : Entered
nobody = record { key = 0; symbols = []; room = 0 }

pub place_within : (names : Names) (os : List Entered) (place number : ℕ)
    → IsSeenAt (map (spell names) os) place number → place < length os
place_within names os place number h = omega (arith, h.within, length-map os (spell names))

pub number_within : (names : Names) (os : List Entered) (place number : ℕ) (o : Entered)
    → IsSeenAt (map (spell names) os) place number → number < length (get_or os place o).symbols
number_within names os place number o h =
    let lt : place < length os = place_within names os place number h in
    omega (
      arith,
      h.symbol (spell names o),
      ap (λ (u : Table). length u.1) (get_or-map (spell names) os place o (spell names o) lt),
      length-map (get_or os place o).symbols (spell_symbol names),
    )

pub named_at : (names : Names) (os : List Entered) (place number : ℕ) (x : Numbered) → AllSpellable names os
    → IsSeenAt (map (spell names) os) place number
    → ((o : Entered) (s : Numbered) → x ≡ get_or (get_or os place o).symbols number s)
    → IsNameAt names (map (spell names) os) place number x.name
named_at names os place number x a h is = λ t s.
    let lt : place < length os = place_within names os place number h in
    let inside : number < length (get_or os place nobody).symbols = number_within names os place number nobody h in
    let at : get_or (get_or (map (spell names) os) place t).1 number s
    ≡ spell_symbol names (get_or (get_or os place nobody).symbols number nothing) =
    ap (λ (u : Table). get_or u.1 number s) (get_or-map (spell names) os place nobody t lt)
    ∙ get_or-map (spell_symbol names) (get_or os place nobody).symbols number nothing s inside in
    let seen : is_local (get_or (get_or os place nobody).symbols number nothing).symbol.binding ≡ false =
    ap (λ (z : NamedSymbol). is_local z.symbol.binding) (sym at) ∙ h.seen t s in
    subst (λ (y : NamedSymbol). IsNamed names x.name y.name) (sym at)
    (subst (λ (y : Numbered).
    IsNamed names y.name (spell_symbol names (get_or (get_or os place nobody).symbols number nothing)).name)
    (sym (is nobody nothing))
    (named_so names (get_or (get_or os place nobody).symbols number nothing)
    ((a place nobody lt).named number nothing inside) seen))

pub key_of_place : (names : Names) (os : List Entered) (place : ℕ) (r : Option ObjectKey)
    → r ≡ option_map key_of (slice_get os place)
    → r ≡ option_map object_key (slice_get (map (spell names) os) place)
key_of_place names os place r h = h ∙ go (slice_get os place)
    ∙ ap (option_map object_key) (sym (slice_get-map (spell names) os place))
  where
    go : (o : Option Entered) → option_map key_of o ≡ option_map object_key (option_map (spell names) o)
    go None = refl
    go (Some o) = refl
