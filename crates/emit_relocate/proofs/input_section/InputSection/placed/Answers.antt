use Rattle.emit_relocate.proofs.Common.{ap, arith, start_of, ◌∙◌}
use Rattle.std.proofs.Common.{None}
use Rattle.elfobj.specs.declared.section.Section.{Section}
use Rattle.elfobj.specs.declared.section.SectionKind.TheVariants.{Progbits}
use Rattle.emit_relocate.specs.Links.{IsPlaceOf}
use Rattle.emit_relocate.proofs.Filling.{none_in, not_past, piece_in, start_is}
use Rattle.emit_relocate.proofs.Found.{below, header_of, numbered_as, placed_of, some_at, there_of}
use Rattle.emit_relocate.proofs.input_section.InputSection.placed.Goals as goal

-- no header
abbrev none : Section
none = record { number = record { 0 = 0 }; kind = Progbits; flags = 0; size = 0; alignment = 0 }

pub returns-in-None-clause-place : goal.returns-in-None-clause-place
returns-in-None-clause-place c =
    λ l s k low h. none_in _ (c.in-None.ensures l k ∙ ap (start_of l) (c.section_ref.ensures l s h)
    ∙ start_is l s c.args.self.now.place h.object_is)

pub returns-then-start-section-clause-place : goal.returns-then-start-section-clause-place
returns-then-start-section-clause-place c =
    λ l s k low h.
    let at = piece_in _ c.in-Some.start (c.in-Some.ensures l k ∙ ap (start_of l) (c.section_ref.ensures l s h)
    ∙ start_is l s c.args.self.now.place h.object_is) in
    absurd {A = IsPlaceOf l s None} (not_past l c.args.self.now.place s at.0 c.in-Some.start _ low h.object_is
    (numbered_as l c.args.self.now s h none c.sections.result.now c.sections.ensures.value
    c.sections.ensures.ascending) at.1 at.2
    (ap (λ (x : Section). x.size)
    (header_of l c.args.self.now s h _ c.sections.result.now c.sections.ensures.value))
    c.if-start-section.true)

pub returns-else-start-section-clause-object : goal.returns-else-start-section-clause-object
returns-else-start-section-clause-object c =
    let x = some_at c.args.self.now.object.now.sections c.args.self.now.index.0 c.args.self.now.inside in
    (c.new.ensures.section x.0 x.1).place_is

pub returns-else-start-section-clause-below : goal.returns-else-start-section-clause-below
returns-else-start-section-clause-below c =
    let start = c.new.ensures.start in
    below c.args.self.now.object.now.sections c.args.self.now.index.0 none c.sections.result.now
    c.sections.ensures.value c.new.result.start c.new.result.relocations.now c.new.ensures.ends
    (omega (arith, start, c.if-start-section.false)) c.args.self.now.inside

pub returns-else-start-section-clause-place : goal.returns-else-start-section-clause-place
returns-else-start-section-clause-place c =
    λ l s k low h.
    let at = piece_in _ c.in-Some.start (c.in-Some.ensures l k ∙ ap (start_of l) (c.section_ref.ensures l s h)
    ∙ start_is l s c.args.self.now.place h.object_is) in
    record {
      piece = at.0;
      piece_is = at.1;
      start_is = c.new.ensures.start ∙ at.2;
      section_is = placed_of l c.args.self.now s h c.new.result c.new.ensures.values
          (c.new.ensures.section s.section (there_of l c.args.self.now s h));
    }
