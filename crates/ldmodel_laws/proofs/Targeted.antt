-- The number of a target decides the value of each symbol that turns on it.
use Rattle.ldmodel_laws.proofs.Common.{Bool, InTable, Layout, List, Name, NamedObject, NamedSymbol, None, NotDefined}
use Rattle.ldmodel_laws.proofs.Common.{NotInOutput, Number, Option, PlacedPiece, Project, Some, SymbolValue, address_in}
use Rattle.ldmodel_laws.proofs.Common.{ap, false, if◌then◌else◌, local_target, name_value, number_or_0, option_map_or}
use Rattle.ldmodel_laws.proofs.Common.{or_weak, own_value, placed_part, referenced_value, refl, sym, target_number}
use Rattle.ldmodel_laws.proofs.Common.{target_of, true, ℕ, ◌∙◌, ◌≡◌, ◌≢◌}
use Rattle.elfobj.specs.declared.symbol.SymbolPlace.{SymbolPlace}
use Rattle.elfobj.specs.declared.symbol.SymbolPlace.TheVariants as place
use Rattle.ldmodel.specs.Arithmetic.{plus_modulo}
use Rattle.ldmodel.specs.Names.{is_local, is_weak_binding}

-- a weak reference changes no number: what is not defined is 0 in both
weak_number : (weak : Bool) (v : SymbolValue) → number_or_0 (or_weak weak v) ≡ number_or_0 v
weak_number weak (Number x) = refl
weak_number true NotDefined = refl
weak_number false NotDefined = refl
weak_number weak NotInOutput = refl

abbrev start_or_0 : Option PlacedPiece → ℕ
start_or_0 a = option_map_or (λ (x : PlacedPiece). x.start) a 0

same_address : (a b : Option PlacedPiece) (offset : ℕ) → address_in a offset ≢ NotInOutput
    → address_in b offset ≢ NotInOutput → start_or_0 a ≡ start_or_0 b → number_or_0 (address_in a offset)
    ≡ number_or_0 (address_in b offset)
same_address (Some a) (Some b) offset h k e = ap (λ n. plus_modulo n offset) e
same_address None b offset h k e = absurd (h refl)
same_address (Some a) None offset h k e = absurd (k refl)

module _ (p r : Project) (s t : Layout) (o : NamedObject) where
  by_place : (x : SymbolPlace) (v : ℕ) → own_value s o.name x v ≢ NotInOutput → own_value t o.name x v ≢ NotInOutput
      → target_number p s (local_target o.name x) ≡ target_number r t (local_target o.name x)
      → number_or_0 (own_value s o.name x v) ≡ number_or_0 (own_value t o.name x v)
  unfolding target_number
  by_place (place.Section k) v h g e =
      same_address (placed_part s o.name (InTable k)) (placed_part t o.name (InTable k)) v h g e
  by_place place.Absolute v h g e = refl
  by_place place.Undefined v h g e = refl
  by_place place.Common v h g e = refl

  by_name : (weak : Bool) (name : List ℕ) → target_number p s (Name name) ≡ target_number r t (Name name)
      → number_or_0 (or_weak weak (name_value p s name)) ≡ number_or_0 (or_weak weak (name_value r t name))
  unfolding target_number
  by_name weak name e = weak_number weak (name_value p s name) ∙ (e ∙ sym (weak_number weak (name_value r t name)))

  pub same_value : (x : NamedSymbol) → referenced_value p s o x ≢ NotInOutput → referenced_value r t o x ≢ NotInOutput
      → target_number p s (target_of o x) ≡ target_number r t (target_of o x) → number_or_0 (referenced_value p s o x)
      ≡ number_or_0 (referenced_value r t o x)
  unfolding referenced_value
  same_value x h g e = by (is_local x.symbol.binding) h g e
    where
      by : (b : Bool)
          → (if b then own_value s o.name x.symbol.place x.symbol.value else or_weak (is_weak_binding x.symbol.binding)
          (name_value p s x.name)) ≢ NotInOutput
          → (if b then own_value t o.name x.symbol.place x.symbol.value else or_weak (is_weak_binding x.symbol.binding)
          (name_value r t x.name)) ≢ NotInOutput
          → target_number p s (if b then local_target o.name x.symbol.place else Name x.name)
          ≡ target_number r t (if b then local_target o.name x.symbol.place else Name x.name)
          → number_or_0 (if b then own_value s o.name x.symbol.place x.symbol.value else or_weak
          (is_weak_binding x.symbol.binding) (name_value p s x.name))
          ≡ number_or_0 (if b then own_value t o.name x.symbol.place x.symbol.value else or_weak
          (is_weak_binding x.symbol.binding) (name_value r t x.name))
      by true h g e = by_place x.symbol.place x.symbol.value h g e
      by false h g e = by_name (is_weak_binding x.symbol.binding) x.name e
