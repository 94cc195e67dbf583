-- Which objects of a link are those of a previous one.
use Rattle.std.specs.Prelude.{◌≡◌, ℕ, List, Option, Some, None, Contains, slice_get, slice_index_or}
use Rattle.ldmodel.specs.Project.{NamedObject, Project}

-- the object at place i is that at place `from i` of the previous project, where there is one; each other object is
-- none of those: it has another name than each of them, or other bytes
pub record AreOrigins (old new : Project) (origins : List (Option ℕ)) : Type 0 where
  pub same : (i j : ℕ) → slice_index_or origins i None ≡ Some j → slice_get new.objects i ≡ slice_get old.objects j
  pub fresh : (i : ℕ) (x y : NamedObject) → slice_index_or origins i None ≡ None → slice_get new.objects i ≡ Some x
      → Contains old.objects y → y.name ≡ x.name → y.object.text ≡ x.object.text → ⊥
