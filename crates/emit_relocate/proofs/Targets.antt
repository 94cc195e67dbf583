-- Values of names, by what the names stand for, and of the symbols and targets that turn on them.
use Rattle.emit_relocate.proofs.Common.{InTable, KnownLink, List, ObjectPlace, Option, PlacedPiece, SectionIndex, Some}
use Rattle.emit_relocate.proofs.Common.{ap, name_value, number_or_0, option_map, option_map_or, placed_part, refl}
use Rattle.emit_relocate.proofs.Common.{same_Some, slice_get, start_of, unwrap_or, ℕ, ◌∙◌, ◌≡◌}
use Rattle.std.proofs.Common.{None}
use Rattle.ldmodel.specs.SymbolValues.{SymbolValue}
use Rattle.ldmodel.specs.Targets.{Target, Name, Section, Fixed, target_number}
use Rattle.ldmodel.specs.declared.names.NameKey.{NameKey}
use Rattle.emit_relocate.specs.KnownLink.{AreNameValues, name_of_object, value_under}
use Rattle.emit_relocate.specs.Values.{value_of}
use Rattle.emit_relocate.specs.declared.value.SymbolValue as code
use Rattle.emit_relocate.specs.declared.value.SymbolValue.TheVariants as value

found : (o : Option code.SymbolValue) (v : SymbolValue) → option_map value_of o ≡ Some v
    → value_of (unwrap_or o value.NotDefined) ≡ v
found None v e = cc
found (Some x) v e = same_Some _ _ e

or_0 : (a : Option PlacedPiece) → unwrap_or (option_map (λ (x : PlacedPiece). x.start) a) 0
    ≡ option_map_or (λ (x : PlacedPiece). x.start) a 0
or_0 None = refl
or_0 (Some x) = refl

module _ (l : KnownLink) where
  -- the value of a name, found under its key
  under : (values : List code.SymbolValue) (k : NameKey) (name : List ℕ) → AreNameValues l values → l.name k.0
      ≡ Some name → value_of (value_under values k) ≡ name_value l.project l.layout name
  under values k name all e = found (slice_get values k.0) (name_value l.project l.layout name) (all k.0 name e)

  -- the numbers of targets
  module _ (n : ℕ) (t : Target) where
    named : (a : Option (List ℕ)) (values : List code.SymbolValue) (k : NameKey) → AreNameValues l values → l.name k.0
        ≡ a → option_map Name a ≡ Some t → n ≡ number_or_0 (value_of (value_under values k)) → n
        ≡ target_number l.project l.layout t
    unfolding target_number
    named None values k all e is h = cc
    named (Some name) values k all e is h = rw (← same_Some _ _ is) (h ∙ ap number_or_0 (under values k name all e))

    pub number_of_name : (values : List code.SymbolValue) (k : NameKey) → AreNameValues l values
        → option_map Name (l.name k.0) ≡ Some t → n ≡ number_or_0 (value_of (value_under values k)) → n
        ≡ target_number l.project l.layout t
    number_of_name values k all is h = named (l.name k.0) values k all refl is h

    pub number_of_section : (object : ObjectPlace) (section : SectionIndex)
        → Some (Section (name_of_object l object) section) ≡ Some t
        → n ≡ unwrap_or (start_of l (record { object = object; part = InTable section })) 0 → n
        ≡ target_number l.project l.layout t
    unfolding target_number
    number_of_section object section is h =
        rw (← same_Some _ _ is) (h ∙ or_0 (placed_part l.layout (name_of_object l object) (InTable section)))

    pub number_of_nothing : Some Fixed ≡ Some t → n ≡ 0 → n ≡ target_number l.project l.layout t
    unfolding target_number
    number_of_nothing is h = rw (← same_Some _ _ is) h
