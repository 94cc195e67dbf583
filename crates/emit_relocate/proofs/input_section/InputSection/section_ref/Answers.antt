use Rattle.emit_relocate.proofs.Common.{InTable, ap}
use Rattle.elfobj.specs.declared.section.Section.{Section}
use Rattle.emit_relocate.proofs.Found.{header_of}
use Rattle.emit_relocate.proofs.input_section.InputSection.section_ref.Goals as goal

pub returns : goal.returns
returns c =
    λ l s h. ap (λ (x : Section). record { object = c.args.self.now.place; part = InTable x.number })
    (header_of l c.args.self.now s h _ c.sections.result.now c.sections.ensures.value)
