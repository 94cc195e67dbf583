-- The common blocks of an object, symbol by symbol.
use Rattle.gather.proofs.Common.{Bool, Common, Decision, Duplicate, InputSection, IsObjectAt, List, NamedSymbol, None}
use Rattle.gather.proofs.Common.{ObjectData, Option, Project, Provided, Script, Some, Strong, Symbol, Undefined, Weak}
use Rattle.gather.proofs.Common.{[], add-one, and_parts, ap, arith, cond, decision, enumerate_from, eqb, eqb-true}
use Rattle.gather.proofs.Common.{false, filter_map, filter_map-append, get_or, get_or-map, get_or_from_slice_get, inl}
use Rattle.gather.proofs.Common.{inr, is_common_place, is_local, length, length-enumerate_from, map, map-append}
use Rattle.gather.proofs.Common.{option_map, option_to_list, refl, same_Some, slice_get, slice_get-get_or, sym, take}
use Rattle.gather.proofs.Common.{take-suc, true, ℕ, ◌++◌, ◌+◌, ◌<◌, ◌∙◌, ◌∷◌, ◌≡◌, ◌⊎◌}
use Rattle.ldmodel.specs.InputSections as model
use Rattle.gather.proofs.InLists.{there}
use Rattle.gather.proofs.Lists.{filter_map_one, numbered}
use Rattle.gather.proofs.Owners.{owner_is, symbol_in}
use Rattle.gather.proofs.Seen.{object_at}

-- a name comes to a block that this entry owns
record Owns (i n : ℕ) (d : Decision) : Type 0 where
  size : ℕ
  alignment : ℕ
  is : d ≡ Common (record { object = i; symbol = n }) size alignment

owns : (name : List ℕ) (i n : ℕ) (d : Decision) (y : InputSection)
    → model.block_of name (record { object = i; symbol = n }) d ≡ Some y → Owns i n d
owns name i n (Common owner size al) y h = go (model.is_same_entry owner (record { object = i; symbol = n })) refl h
  where
    go : (x : Bool) → model.is_same_entry owner (record { object = i; symbol = n }) ≡ x
        → cond x (Some (model.common_block name owner size al)) None ≡ Some y → Owns i n (Common owner size al)
    go false e is = absurd (cc)
    go true e is =
        let both = and_parts (eqb owner.object i) (eqb owner.symbol n) e in
        let object : owner.object ≡ i = eqb-true owner.object i both.0 in
        let symbol : owner.symbol ≡ n = eqb-true owner.symbol n both.1 in
        record {
          size = size;
          alignment = al;
          is = ap (λ (m : ℕ). Common (record { object = m; symbol = owner.symbol }) size al) object
              ∙ ap (λ (m : ℕ). Common (record { object = i; symbol = m }) size al) symbol;
        }
owns name i n (Strong x) y h = absurd (cc)
owns name i n Script y h = absurd (cc)
owns name i n (Weak x) y h = absurd (cc)
owns name i n Provided y h = absurd (cc)
owns name i n Undefined y h = absurd (cc)
owns name i n Duplicate y h = absurd (cc)

-- a symbol of the object at a place
module _ (p : Project) (i n : ℕ) (object : ObjectData) (d : NamedSymbol) (at : IsObjectAt p i object)
    (low : n < length object.symbols) where
  abbrev symbol : NamedSymbol
  symbol = get_or object.symbols n d

  abbrev block : List ℕ → Option InputSection
  block name = model.block_of name (record { object = i; symbol = n }) (decision p symbol.name)

  -- if it owns a block, it is common and not local
  owner : (name : List ℕ) (y : InputSection) → block name ≡ Some y
      → (is_local symbol.symbol.binding ≡ false) × (is_common_place symbol.symbol.place ≡ true)
  owner name y h =
      let o = object_at p i object at in
      let own = owns name i n (decision p symbol.name) y h in
      let declared = owner_is p symbol.name (record { object = i; symbol = n }) own.size own.alignment own.is in
      let same : declared.symbol ≡ symbol =
      same_Some declared.symbol symbol
      (sym declared.at
      ∙ (symbol_in p i n o.0 o.1
      ∙ (ap (λ (x : ObjectData). slice_get x.symbols n) o.2 ∙ slice_get-get_or object.symbols n d low))) in (
        ap (λ (x : NamedSymbol). is_local x.symbol.binding) (sym same) ∙ declared.seen,
        ap (λ (x : NamedSymbol). is_common_place x.symbol.place) (sym same) ∙ declared.common,
      )

  -- a local symbol owns no block, nor does one that isn't common
  pub owns_none : (name : List ℕ)
      → (is_local symbol.symbol.binding ≡ true) ⊎ (is_common_place symbol.symbol.place ≡ false) → block name ≡ None
  owns_none name other = go (block name) refl
    where
      go : (o : Option InputSection) → block name ≡ o → block name ≡ None
      go None e = e
      go (Some y) e =
          let own = owner name y e in
          elim other [
            | inl here ↦ absurd (cc)
            | inr elsewhere ↦ absurd (cc)
          ]

-- whether a symbol is common
pub is_common_at : (object : ObjectData) (shown : List Symbol) (n : ℕ) (x : Symbol) (d : NamedSymbol)
    → shown ≡ map (λ (s : NamedSymbol). s.symbol) object.symbols → n < length object.symbols
    → is_common_place (get_or object.symbols n d).symbol.place ≡ is_common_place (get_or shown n x).place
is_common_at object shown n x d same low =
    sym (ap (λ (s : Symbol). is_common_place s.place) (ap (λ (ss : List Symbol). get_or ss n x) same
    ∙ get_or-map (λ (s : NamedSymbol). s.symbol) object.symbols n d x low))

-- one symbol more, with what it gives
pub symbols_more : {X Y Z : Type 0} (f : ℕ × X → Option Z) (g : Y → Z) (xs : List X) (k : ℕ) (ys new : List Y)
    (y : Option Y) → k < length xs → ((d : X) → option_map g y ≡ f (k, get_or xs k d))
    → new ≡ ys ++ option_to_list y → map g ys ≡ filter_map f (take k (enumerate_from 0 xs))
    → map g new ≡ filter_map f (take (k + 1) (enumerate_from 0 xs))
symbols_more {X} {Y} {Z} f g xs k ys new y low is pushed h =
    let at = there xs k low in
    let all : List (ℕ × X) = enumerate_from 0 xs in
    let one : ℕ × X = (k, at.0) in
    let within : k < length all = omega (arith, low, length-enumerate_from 0 xs) in
    let next : take (k + 1) all ≡ take k all ++ one ∷ [] =
    ap (λ (m : ℕ). take m all) (add-one k)
    ∙ (take-suc all k one within ∙ ap (λ (t : ℕ × X). take k all ++ t ∷ []) (numbered xs k at.0 one at.1)) in
    let here : option_map g y ≡ f one =
    is at.0 ∙ ap (λ (x : X). f (k, x)) (get_or_from_slice_get xs k at.0 at.0 at.1) in
    ap (map g) pushed
    ∙ (map-append g ys (option_to_list y)
    ∙ (ap (λ l. l ++ map g (option_to_list y)) h
    ∙ (ap (λ l. filter_map f (take k all) ++ l)
    (mapped y ∙ (ap (λ (o : Option Z). option_to_list o) here ∙ sym (filter_map_one f one)))
    ∙ (sym (filter_map-append f (take k all) (one ∷ [])) ∙ ap (filter_map f) (sym next)))))
  where
    mapped : (o : Option Y) → map g (option_to_list o) ≡ option_to_list (option_map g o)
    mapped None = refl
    mapped (Some x) = refl
