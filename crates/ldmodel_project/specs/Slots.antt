-- Objects in a slab, and their order.
use Rattle.std.specs.Prelude.{◌≡◌, ℕ, List, map, count_by, nat_eq, is_some, unwrap_or, if◌then◌else◌}
use Rattle.slab.specs.Slab.{Slab, get}
use Rattle.ldmodel.specs.Edits.{unnamed, AreNamesDistinct}
use Rattle.ldmodel.specs.Project.{NamedObject}
use Rattle.ldmodel_project.specs.Listing.{Listed}

abbrev pub named_at : Slab NamedObject → ℕ → NamedObject
named_at slots key = unwrap_or (get slots key) unnamed

abbrev pub entry_at : Slab NamedObject → ℕ → Listed
entry_at slots key = record { key = key; named = named_at slots key }

-- the order lists each key of the slab once, and no name stands twice
pub record IsOrdered (slots : Slab NamedObject) (order : List ℕ) : Type 0 where
  pub listed : (key : ℕ) → count_by (nat_eq key) order ≡ (if is_some (get slots key) then 1 else 0)
  pub names : AreNamesDistinct (map (named_at slots) order)
