-- The common blocks of the objects of a project.
use Rattle.std.specs.Prelude.{◌≡◌, ℕ, List, map, Vec, Bool, true}
use Rattle.std.specs.Global.{Global}
use Rattle.std.specs.List.{AllZip, enumerate_from}
use Rattle.gather.specs.declared.blocks.CommonBlock.{CommonBlock}
use Rattle.ldmodel.specs.InputSections as model
use Rattle.ldmodel.specs.Project.{NamedObject, Project}
use Rattle.ldmodel.specs.Sections.{InputSection}

-- the block as the definition has it, owned by object number i of this name
abbrev pub block_of : ℕ → List ℕ → CommonBlock → InputSection
block_of i name b = model.common_block name (record { object = i; symbol = b.symbol.0 }) b.size b.alignment

-- where a block of object number i comes among all parts of objects
abbrev pub block_rank : ℕ → CommonBlock → ℕ × Bool × ℕ
block_rank i b = (i, true, b.symbol.0)

-- the common blocks of object number i
abbrev pub AreBlocksOf : Project → ℕ → NamedObject → List CommonBlock → Type 0
AreBlocksOf project i object blocks = map (block_of i object.name) blocks ≡ model.common_blocks project i object

-- of all objects, in their order
abbrev pub AreBlocks : Project → List (Vec CommonBlock Global) → Type 0
AreBlocks project xs =
    AllZip (λ (o : ℕ × NamedObject) (x : Vec CommonBlock Global). AreBlocksOf project o.0 o.1 x.items)
    (enumerate_from 0 project.objects) xs
