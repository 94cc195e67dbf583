-- Lists whose members of one number make an output section.
use Rattle.std.specs.Prelude.{◌≡◌, Bool, ℕ, List, Some, map, slice_get}
use Rattle.std.specs.List.{AllZip}
use Rattle.emit_image.specs.declared.section.ImagePiece.{ImagePiece}
use Rattle.place.specs.Offsets.{IsOffset}
use Rattle.ldmodel.specs.Layout.{Layout, PlacedOutput}
use Rattle.ldmodel.specs.PlacementView.{placed_of}
use Rattle.ldmodel.specs.Project.{Project}
use Rattle.ldmodel.specs.declared.placed.Placed.{Placed}
use Rattle.ldmodel.specs.declared.placed.PlacedData.{PlacedData}
use Rattle.ldmodel.specs.declared.sections.SectionRef.{SectionRef}
use Rattle.ldscript.specs.statements.Numbering.{OutputSectionAt}
use Rattle.emit.specs.DataRuns.{AreDataOf}
use Rattle.emit.specs.Output.{IsJoinedRow}

-- those of a number are of an output section
pub record IsAt (project : Project) (layout : Layout) (stays : SectionRef → Bool) (output : PlacedOutput) (k : ℕ)
    (place : Placed)
    (os : List OutputSectionAt) (offsets : List ℕ) (rows : List (List ImagePiece)) (runs : List (List PlacedData))
    : Type 0 where
  pub placed : place ≡ placed_of output
  pub name : (o : OutputSectionAt) → slice_get os k ≡ Some o → o.section.name ≡ output.name
  pub fill : (o : OutputSectionAt) → slice_get os k ≡ Some o → o.section.fill ≡ output.fill
  pub offset : (n : ℕ) → slice_get offsets k ≡ Some n → IsOffset layout output n
  pub row : (ys : List ImagePiece) → slice_get rows k ≡ Some ys → IsJoinedRow project layout stays output ys
  pub data_commands : (ds : List PlacedData) → slice_get runs k ≡ Some ds → AreDataOf output ds

-- all are those of a layout
pub record AreJoined (project : Project) (layout : Layout) (stays : SectionRef → Bool) (places : List Placed)
    (os : List OutputSectionAt) (offsets : List ℕ) (rows : List (List ImagePiece)) (runs : List (List PlacedData))
    : Type 0 where
  pub placed : map placed_of layout.sections ≡ places
  pub names : map (λ (output : PlacedOutput). output.name) layout.sections
      ≡ map (λ (o : OutputSectionAt). o.section.name) os
  pub fills : map (λ (output : PlacedOutput). output.fill) layout.sections
      ≡ map (λ (o : OutputSectionAt). o.section.fill) os
  pub begun : AllZip (IsOffset layout) layout.sections offsets
  pub pieces : AllZip (IsJoinedRow project layout stays) layout.sections rows
  pub data_commands : AllZip AreDataOf layout.sections runs
