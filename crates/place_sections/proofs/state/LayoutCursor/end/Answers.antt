use Rattle.place_sections.proofs.Common.{IsOutput, Layout, Ok, PlacedOutput, and_then, ap, freed_from, head_from, inl}
use Rattle.place_sections.proofs.Common.{inr, keyed, length, section_of, subst, sym, with_section, ℕ, ◌∙◌}
use Rattle.std.proofs.lemmas.Result.{err_from_is_err_and}
use Rattle.place_sections.proofs.Ending.{end_is, ends_there, joined, load_end_is}
use Rattle.place_sections.proofs.state.LayoutCursor.end.Goals as goal
use Rattle.place_sections.specs.Ends.{ended_body}

pub returns-clause-gives : goal.returns-clause-gives
returns-clause-gives g c =
    let q : PlacedOutput = section_of g.naming (keyed c.close-section.result) in
    let e = end_is g.naming c.args.self.now c.args.done.now c.args.line c.args.output.now (head_from c.args.head) q
    c.close-section.ensures.value in
    let s : Layout = (ended_body g.naming c.args.self.now c.args.done.now).layout in
    let there = ends_there g.naming c.args.self.now c.args.output.now (head_from c.args.head) q
    c.close-section.ensures.value in
    let last = load_end_is c.args.line c.args.output.now c.args.done.now q c.in_ok-load_end.load_end
    c.in_ok-load_end.ensures in
    e ∙ (ap (λ r. and_then r (λ (_ : ℕ). Ok (with_section s c.args.output.now q))) c.in_ok-load_end.ensures
    ∙ ap (λ (t : Layout).
    Ok t) (joined g.naming c.args.self.now c.close-section.new.self c.args.done.now c.args.output.now
    (keyed c.close-section.result)
    c.push.new.self c.free.new.regions c.free-2.new.regions c.max-end.result c.in_ok-load_end.load_end
    c.close-section.ensures.dot c.close-section.ensures.dots c.close-section.ensures.inputs
    c.close-section.ensures.symbols
    (c.free.ensures ∙ ap (λ r. freed_from r c.max-end.result c.args.done.now.regions) c.region_name.ensures)
    (c.free-2.ensures ∙ ap (λ r. freed_from r c.in_ok-load_end.load_end c.free.new.regions) c.load_region_name.ensures)
    c.in_ok-push.ensures.pushed
    (there ∙ sym c.max-end.ensures) last))

pub returns-in_err-load_end-clause-gives : goal.returns-in_err-load_end-clause-gives
returns-in_err-load_end-clause-gives g c =
    let q : PlacedOutput = section_of g.naming (keyed c.close-section.result) in
    let e = end_is g.naming c.args.self.now c.args.done.now c.args.line c.args.output.now (head_from c.args.head) q
    c.close-section.ensures.value in
    let s : Layout = (ended_body g.naming c.args.self.now c.args.done.now).layout in
    let p = err_from_is_err_and c.from_residual.result c.from_residual.ensures.1 in
    rw (p.1, p.2) (elim c.in_err-load_end.ensures [
      | inl h ↦ inl (e ∙ ap (λ r. and_then r (λ (_ : ℕ). Ok (with_section s c.args.output.now q))) h)
      | inr h ↦ inr h
    ])

pub push-requires-clause-next : goal.push-requires-clause-next
push-requires-clause-next g c =
    subst (IsOutput c.args.done.now.sections.script (length c.args.done.now.sections.list))
    (sym c.close-section.ensures.output) c.requires
