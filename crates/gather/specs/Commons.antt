-- The common symbols of an object.
use Rattle.std.specs.Prelude.{◌≡◌, ◌<◌, ◌≤◌, ℕ, List, length, slice_index_or, true}
use Rattle.elfobj.specs.Symbols.{NamedSymbol}
use Rattle.ldmodel.specs.Names.{is_common_place}

-- all common symbols are among those from number start on and before number end
pub record AreCommonsIn (symbols : List NamedSymbol) (start end : ℕ) : Type 0 where
  pub order : start ≤ end
  pub within : end ≤ length symbols
  pub all : (n : ℕ) (d : NamedSymbol) → n < length symbols
      → is_common_place (slice_index_or symbols n d).symbol.place ≡ true → (start ≤ n) × (n < end)
