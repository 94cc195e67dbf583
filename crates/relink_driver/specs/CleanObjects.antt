-- An object whose symbols have the values that they had in a previous link.
use Rattle.std.specs.Prelude.{◌≡◌, ◌<◌, ℕ, Option, Some, None}
use Rattle.relink_driver.specs.StayedSections.{PreviousState, last_place}
use Rattle.emit.specs.relocate.SymbolValues.{value_at}
use Rattle.emit.specs.relocate.declared.symbol_values.SymbolValues.{SymbolValues}

-- it stood in the previous link, and this number of its first symbols had the same values there
abbrev pub IsCleanObject : Option PreviousState → SymbolValues → (place count : ℕ) → Type 0
IsCleanObject None symbols place count = ⊥
IsCleanObject (Some x) symbols place count =
    (from : ℕ) × (last_place x (record { 0 = place }) ≡ Some from)
    × ((n : ℕ) → n < count → value_at x.snapshot.symbols from n ≡ value_at symbols place n)
