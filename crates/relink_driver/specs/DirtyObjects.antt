-- Which objects of a link name a symbol that was worth something else in a previous link.
use Rattle.std.specs.Prelude.{◌≡◌, ℕ, Bool, true, false, List, Some, slice_get, slice_index_or}
use Rattle.ldmodel.specs.Layout.{Layout}
use Rattle.ldmodel.specs.Project.{Project}
use Rattle.ldmodel.specs.Relocations.{Site, site_value}
use Rattle.ldmodel.specs.Stayed.{GoodLink}

-- no symbol that a relocation of an object without a mark names has another value
abbrev pub AreDirtyObjects : GoodLink → Project → Layout → List Bool → Type 0
AreDirtyObjects old project layout dirty =
    (i : ℕ) (site : Site) → slice_index_or dirty i true ≡ false → slice_get project.objects i ≡ Some site.object
    → site_value old.project old.layout site ≡ site_value project layout site
