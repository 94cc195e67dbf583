-- What is evaluated of a link beside a previous one, of which input sections stayed.
use Rattle.std.specs.Prelude.{◌≡◌, ◌+◌, ℕ, Option, None, is_some, length}
use Rattle.std.specs.List.{All}
use Rattle.elfobj.specs.Raised.{raised}
use Rattle.elfobj.specs.declared.meter.Count.TheVariants.{Fields}
use Rattle.emit_image.specs.Redrawings.{ArePatchesOf, IsSitePatch}
use Rattle.emit_image.specs.Stretches.{EndsBy, patch_bytes}
use Rattle.ldmodel_laws.specs.Untouched.{IsGood}
use Rattle.ldmodel.specs.Counts.{Counts}
use Rattle.ldmodel.specs.Layout.{Layout}
use Rattle.ldmodel.specs.Project.{Project}
use Rattle.ldmodel.specs.Relocations.{relocation_faults, sites}
use Rattle.ldmodel.specs.SectionHeaders.{image_length}
use Rattle.ldmodel.specs.Stayed.{GoodLink, retargeted}
use Rattle.ldmodel.specs.WorkBound.{retargeted_bytes, sites_outside}
use Rattle.ldmodel.specs.declared.sections.SectionRef.{SectionRef}
use Rattle.symres.specs.SymbolTable.{SymbolTableState}
use Rattle.ldmodel_project.specs.ByPlace.{faults_in}
use Rattle.emit_relocate.specs.PreviousLinkInfo.{IsComplete}
use Rattle.emit_relocate.specs.Fields.{evaluations}
use Rattle.emit_relocate.specs.declared.previous_link_info.FileRange.{FileRange}
use Rattle.emit_relocate.specs.LinkView.{known_link}
use Rattle.emit.specs.Relocated.{IsRelocated}
use Rattle.emit.specs.Runs.{AreRunsUnless}
use Rattle.emit.specs.declared.relocated.Relocated.{Relocated}

abbrev pub new_link : Project → Layout → GoodLink
new_link project layout = record { project = project; layout = layout }

-- the fields of input sections that are not known to have stayed; the faults of all relocations, where the previous
-- link is good; and patches of what stayed. Where each section that stayed is known to have stayed, these are the
-- fields of its sites whose symbol has another value, between good links with as many bytes as all of them, and what
-- is counted are these sites and those outside of what stayed. Where nothing is known to have stayed, all is evaluated,
-- and each site counted whose symbol has a value. Nothing else is counted in any case
pub record IsRelocatedBeside (old : GoodLink) (range : SectionRef → Option FileRange) (project : Project)
    (layout : Layout)
    (table : SymbolTableState) (r : Relocated) (before after : Counts) : Type 0 where
  pub fields : AreRunsUnless (known_link project layout table) (λ k. is_some (range k)) r.patches.items r.ends.items
  pub faults : IsGood old → faults_in project r.faults.items ≡ relocation_faults project layout
  pub each : All (IsSitePatch old (new_link project layout)) r.retargeted.items
  pub ends : IsGood (new_link project layout) → All (EndsBy (image_length project layout)) r.retargeted.items
  pub patches : IsComplete range old (known_link project layout table)
      → ArePatchesOf old (new_link project layout) r.retargeted.items
  pub patched :
      IsComplete range old (known_link project layout table) → IsGood old → IsGood (new_link project layout)
      → patch_bytes r.retargeted.items ≡ retargeted_bytes old (new_link project layout)
  pub counts : (n : ℕ) × (after ≡ raised before Fields n)
  pub counted :
      IsComplete range old (known_link project layout table) → IsGood old → IsGood (new_link project layout)
      → after
      ≡ raised before Fields (length (sites_outside old (new_link project layout)) + length
      (retargeted old (new_link project layout)))
  pub anew : ((key : SectionRef) → range key ≡ None) → IsRelocated project layout table r
  pub all_counted :
      ((key : SectionRef) → range key ≡ None)
      → after ≡ raised before Fields (evaluations (known_link project layout table) (sites project layout))
