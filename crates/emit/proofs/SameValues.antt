-- The values of symbols turn on what names stand for, on the names and the symbols of objects and on the layout.
use Rattle.emit.proofs.Common.{DiffersInContents, InCommon, Layout, List, NamedObject, NamedSymbol, None, NotDefined}
use Rattle.emit.proofs.Common.{Option, Project, Some, Symbol, entry_point, if◌then◌else◌, option_map, option_map_or}
use Rattle.emit.proofs.Common.{placed_part, refl, slice_get, symbol_index, ℕ, ◌≡◌}
use Rattle.ldmodel.specs.Names.{Common, Decision, Duplicate, Provided, Script, Strong, Undefined, Weak, is_local}
use Rattle.ldmodel.specs.Names.{is_weak_binding}
use Rattle.ldmodel.specs.SymbolValues.{address_in, decided_value, entry_value, name_value, own_value, symbol_of_entry}
use Rattle.ldmodel.specs.SymbolValues.{value_if_named}
use Rattle.ldmodel.specs.Targets.{or_weak, referenced_value}
use Rattle.emit.proofs.Objects.{same_names_at, same_object_name, same_symbol_at}
use Rattle.emit.proofs.SameNames.{same_decision, same_entry_symbol}

module _ {p q : Project} {place : ℕ} (h : DiffersInContents p q place) where
  pub same_symbol_of_entry : symbol_of_entry p ≡ symbol_of_entry q
  same_symbol_of_entry = λ i e. option_map (λ (x : NamedSymbol). x.symbol) (same_symbol_at h e.object e.symbol i)

  module _ (s : Layout) where
    same_entry_value : entry_value p s ≡ entry_value q s
    same_entry_value =
        λ i e. option_map_or (λ (x : Symbol). own_value s (same_object_name h e.object i) x.place x.value)
        (same_symbol_of_entry i e) NotDefined

    same_decided_value : (name : List ℕ) (d : Decision) → decided_value p s name d ≡ decided_value q s name d
    same_decided_value name (Strong e) = λ i. same_entry_value i e
    same_decided_value name (Weak e) = λ i. same_entry_value i e
    same_decided_value name (Common owner size alignment) =
        λ i. address_in (placed_part s (same_object_name h owner.object i) (InCommon (symbol_index owner))) 0
    same_decided_value name Script = refl
    same_decided_value name Provided = refl
    same_decided_value name Undefined = refl
    same_decided_value name Duplicate = refl

    pub same_name_value : name_value p s ≡ name_value q s
    unfolding name_value
    same_name_value = λ i name. same_decided_value name (same_decision h i name) i

    same_value_if_named : (m : Option (List ℕ)) → value_if_named p s m ≡ value_if_named q s m
    same_value_if_named None = refl
    same_value_if_named (Some name) = λ i. same_name_value i name

    pub same_entry_point : entry_point p s ≡ entry_point q s
    unfolding entry_point
    same_entry_point = λ i. same_value_if_named (same_entry_symbol h i) i

    pub same_referenced : (j : ℕ) (a b : NamedObject) → slice_get p.objects j ≡ Some a
        → slice_get q.objects j ≡ Some b → (x : NamedSymbol) → referenced_value p s a x ≡ referenced_value q s b x
    unfolding referenced_value
    same_referenced j a b e f x =
        λ i. if is_local x.symbol.binding
        then own_value s (same_names_at h j a b e f i) x.symbol.place x.symbol.value
        else or_weak (is_weak_binding x.symbol.binding) (same_name_value i x.name)
