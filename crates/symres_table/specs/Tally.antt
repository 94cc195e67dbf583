-- What a pass over the entries of a name keeps.
use Rattle.std.specs.Prelude.{ℕ, List, [], ◌∷◌, Option, Some, None, length, filter, nat_lt}
use Rattle.std.specs.List.{list_any}
use Rattle.ldmodel.specs.Names.{Declaration, is_strong, is_common, is_weak, is_undefined, greatest, common_size}
use Rattle.ldmodel.specs.Names.{common_alignment}
use Rattle.ldmodel.specs.declared.names.Entry.{Entry}
use Rattle.ldmodel.specs.declared.names.ObjectKey.{ObjectKey}
use Rattle.symres_table.specs.declared.symbol.Declared.{Declared}
use Rattle.symres_table.specs.declared.tally.Tally.{Tally}

-- a declaration of a name, where objects have their keys as numbers
abbrev pub declaration_of : List ℕ → Declared → Declaration
declaration_of name d =
    record { entry = record { object = d.entry.object.0; symbol = d.entry.symbol.0 }; name = name; symbol = d.symbol }

-- the entry of the first
abbrev pub first : List Declaration → Option (Entry ObjectKey)
first [] = None
first (d ∷ ds) = Some (record { object = record { 0 = d.entry.object }; symbol = record { 0 = d.entry.symbol } })

abbrev pub tally_of : List Declaration → Tally
tally_of ds = record {
  several = nat_lt 1 (length (filter is_strong ds));
  strong = first (filter is_strong ds);
  common = first (filter is_common ds);
  size = greatest common_size (filter is_common ds);
  alignment = greatest common_alignment (filter is_common ds);
  weak = first (filter is_weak ds);
  undefined = list_any is_undefined ds;
}
