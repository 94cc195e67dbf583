-- Relocations and their faults.
use Rattle.emit_relocate.proofs.Common.{Err, IsEvaluated, IsOutcome, IsSiteAt, KnownLink, NotInOutput, Number, Ok}
use Rattle.emit_relocate.proofs.Common.{Patch, PlacedInput, Relocation, Result, Site, SiteRef, Some, ap, fault_of, refl}
use Rattle.emit_relocate.proofs.Common.{site_field, site_field_with, site_value, slice_get, sym, ℕ, ◌+◌, ◌∙◌, ◌≡◌}
use Rattle.emit_fields.specs.Fields.{field_of}
use Rattle.emit_fields.specs.declared.field.Overflow.{Overflow}
use Rattle.ldmodel.specs.SymbolValues.{SymbolValue, NotDefined}
use Rattle.ldmodel.specs.declared.fault.Fault as code
use Rattle.ldmodel.specs.declared.fault.Fault.TheVariants as variant

module _ (l : KnownLink) (m : PlacedInput) (entry : ℕ) (t : Site) (h : IsSiteAt l m entry t) where
  abbrev key : SiteRef
  key = record { object = m.object; section = m.section; entry = entry }

  relocation_is : slice_get t.section.relocations entry ≡ Some t.relocation
  relocation_is = sym (ap (λ rs. slice_get rs entry) h.site.placed.relocations_are) ∙ h.entry_is

  -- each fault of a site has its names, by the numbers that it is handed on with
  pub undefined : (v : SymbolValue) → v ≡ NotDefined → site_field_with t v
      ≡ Err (fault_of l.project l.number
      (variant.UndefinedSymbol (record { object = m.object; section = m.section; entry = entry })))
  unfolding fault_of
  undefined v e = rw (e, h.site.placed.object_is, h.site.placed.section_is, relocation_is) refl

  pub missing : (v : SymbolValue) → v ≡ NotInOutput → site_field_with t v
      ≡ Err (fault_of l.project l.number
      (variant.TargetNotInOutput (record { object = m.object; section = m.section; entry = entry })))
  unfolding fault_of
  missing v e = rw (e, h.site.placed.object_is, h.site.placed.section_is, relocation_is) refl

  pub overflow : (v : SymbolValue) (x : ℕ) (r : Relocation) (f : Overflow) → v ≡ Number x → t.relocation ≡ r → Err f
      ≡ field_of r x (m.start + r.offset)
      → site_field_with t v ≡ Err
      (fault_of l.project l.number
      (variant.FieldOverflow (record { object = m.object; section = m.section; entry = entry }) f.value))
  unfolding fault_of
  overflow v x r f e is over =
      rw (e, h.site.placed.object_is, h.site.placed.section_is, relocation_is, is, h.site.start_is, ← over) refl

-- an outcome at the value of the site's symbol is the site's
pub evaluated : (l : KnownLink) (t : Site) (v : SymbolValue) (r : Result Patch code.Fault) → v
    ≡ site_value l.project l.layout t → IsOutcome l t v r → IsEvaluated l t r
unfolding site_field
evaluated l t v (Ok x) e h = (sym (ap (site_field_with t) e) ∙ h.0, h.1)
evaluated l t v (Err f) e h = sym (ap (site_field_with t) e) ∙ h
