-- What marks beside the input sections of a project say, and which graphs are those of a project.
use Rattle.std.specs.Prelude.{ℕ, ◌≡◌, ◌↔◌, Bool, false, List, [], ◌∷◌, map, Some, slice_get, if◌then◌else◌, Contains}
use Rattle.std.specs.Prelude.{IsTrue}
use Rattle.ldmodel.specs.Gathering.{is_discarded}
use Rattle.ldmodel.specs.InputSections.{input_sections}
use Rattle.ldmodel.specs.Live.{is_root, refers_to}
use Rattle.ldmodel.specs.Project.{Project}
use Rattle.ldmodel.specs.Sections.{InputSection}
use Rattle.gather.specs.Graphs.{Graph, LeadsTo}

-- the members of a list that are marked, where the marks stand beside it
abbrev pub marked : {X : Type 0} → List Bool → List X → List X
marked [] xs = []
marked (b ∷ bs) [] = []
marked (b ∷ bs) (x ∷ xs) = if b then x ∷ marked bs xs else marked bs xs

-- section number k of the project
abbrev pub IsSectionAt : Project → ℕ → InputSection → Type 0
IsSectionAt project k section = slice_get (input_sections project) k ≡ Some section

-- the graph is that of the project's input sections, numbered from 0 in their order; of sections that are left out it
-- may say anything else
pub record IsGraphOf (project : Project) (g : Graph) : Type 0 where
  pub out : g.out ≡ map (is_discarded project) (input_sections project)
  pub roots : (k : ℕ) (section : InputSection) → IsSectionAt project k section → is_discarded project section ≡ false
      → IsTrue (is_root project section) ↔ Contains g.roots k
  pub references : (a b : ℕ) (section t : InputSection) → IsSectionAt project a section → IsSectionAt project b t
      → is_discarded project section ≡ false
      → is_discarded project t ≡ false → IsTrue (refers_to project section t) ↔ LeadsTo g a b
