use Rattle.place_terms.proofs.Common.{KeyedSection, Outputs, ap, both, bytes_eq, find, keyed, keyed_taken, map}
use Rattle.place_terms.proofs.Common.{option_map, slice_get, sym, ◌++◌, ◌∙◌}
use Rattle.place_terms.proofs.FoundSections.{section_there, section_unknown}
use Rattle.place_terms.proofs.sections.Sections.placed.Goals as goal

pub returns-in-Some : goal.returns-in-Some
returns-in-Some c =
    c.placed_at.ensures
    ∙ (ap (λ ts. option_map (λ (x : KeyedSection). x.placed)
    (slice_get (map keyed_taken ts ++ map keyed c.deref-in-Some-2.result.now) c.in-Some.number))
    c.deref-in-Some.ensures.value
    ∙ (ap (λ xs. option_map (λ (x : KeyedSection). x.placed)
    (slice_get (both c.self.inside.taken.items xs) c.in-Some.number)) c.deref-in-Some-2.ensures.value
    ∙ (sym (section_there c.self.inside.script.now (both c.self.inside.taken.items c.self.inside.list.items)
    c.args.name.now c.self.invariant.0.order c.in-Some.number (sym c.in-Some.ensures))
    ∙ ap (λ (v : Outputs). option_map (λ (x : KeyedSection). x.placed)
    (find (λ (x : KeyedSection). bytes_eq x.name c.args.name.now) v.list)) c.self.view_is)))

pub returns-in-None : goal.returns-in-None
returns-in-None c =
    sym (section_unknown c.self.inside.script.now (both c.self.inside.taken.items c.self.inside.list.items)
    c.args.name.now c.self.invariant.0.order (sym c.in-None.ensures))
    ∙ ap (λ (v : Outputs). option_map (λ (x : KeyedSection). x.placed)
    (find (λ (x : KeyedSection). bytes_eq x.name c.args.name.now) v.list)) c.self.view_is
