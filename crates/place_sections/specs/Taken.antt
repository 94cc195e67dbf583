-- An output section that is taken over from a previous layout.
use Rattle.std.specs.Prelude.{◌≡◌, ℕ, ◌+◌, ◌^◌, ◌<◌, List, [], ◌∷◌, ◌++◌, length, map, Some, slice_get, slice_index_or}
use Rattle.ldscript.specs.statements.declared.section.OutputSection.{OutputSection}
use Rattle.ldscript.specs.statements.declared.statement.Item.{Item}
use Rattle.ldscript.specs.statements.declared.statement.ItemCommand.TheVariants.{Section}
use Rattle.ldmodel.specs.Placement.{freed_from, load_region}
use Rattle.ldmodel.specs.declared.placed.Placed.{Placed}
use Rattle.place_terms.specs.PreviousLayout.{IsTaken, earlier_of}
use Rattle.place_terms.specs.Keyed.{KeyedSection}
use Rattle.place_terms.specs.Outputs.{HasNext}
use Rattle.place_sections.specs.Boundaries.{sections_at}
use Rattle.place_sections.specs.declared.boundary.Boundary.{Boundary}
use Rattle.place_sections.specs.declared.script.Input.{Input}
use Rattle.place_sections.specs.declared.state.PlacedOutputs.{PlacedOutputs}

-- the statement at a place is an output section
pub record IsSection (items : List Item) (place : ℕ) (o : OutputSection) : Type 0 where
  pub line : ℕ
  pub there : slice_get items place ≡ Some (record { line = line; command = Section o })

-- the statement at a boundary is an output section, and the previous layout has it next: it ends at addresses, in
-- memory and where it is loaded, and with its data commands there are as many as before the next boundary
pub record MayBeTaken (i : Input) (items : List Item) (b next : Boundary) (d : PlacedOutputs) : Type 0 where
  pub section : length (sections_at items b.items) ≡ 1
  pub there : HasNext d.sections (slice_index_or (map (λ v. v.items) i.rows.now) (length d.sections.list) [])
      next.data_commands
  pub within : length d.sections.list < length i.kept.previous.sections.now
  pub ends : (p : Placed) → slice_get i.kept.previous.sections.now (length d.sections.list) ≡ Some p
      → (p.start + p.size < 2 ^ 64) × (p.load + p.load_size < 2 ^ 64)

-- the output section at a boundary is taken over, with the data commands up to the next one, and its regions go on at
-- its ends
pub record Takes (i : Input) (items : List Item) (b next : Boundary) (old new : PlacedOutputs) : Type 0 where
  pub output : OutputSection
  pub at : IsSection items b.items output
  pub section : KeyedSection
  pub taken : IsTaken (earlier_of i.kept.previous) old.sections.list
      (slice_index_or (map (λ v. v.items) i.rows.now) (length old.sections.list) []) output next.data_commands section
  pub pushed : new.sections.list ≡ old.sections.list ++ section ∷ []
  pub regions : new.regions
      ≡ freed_from (load_region output.load) (section.placed.load + section.placed.load_size)
      (freed_from output.region (section.placed.start + section.placed.size) old.regions)
