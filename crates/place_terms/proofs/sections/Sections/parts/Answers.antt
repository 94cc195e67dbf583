use Rattle.place_terms.proofs.Common.{Outputs, ap, earlier_of, keyed, map, starts_in, sym, ◌++◌, ◌∙◌}
use Rattle.place_terms.proofs.TakenOver.{starts_parts}
use Rattle.place_terms.proofs.sections.Sections.parts.Goals as goal

pub returns-clause-starts : goal.returns-clause-starts
returns-clause-starts c =
    ap (λ (v : Outputs). starts_in v.list) (sym c.self.view_is)
    ∙ (starts_parts (earlier_of c.self.inside.earlier) c.self.inside.taken.items c.self.inside.taken_count
    c.self.invariant.1 c.self.inside.list.items
    ∙ (ap (λ l. l ++ starts_in (map keyed c.self.inside.list.items)) (sym c.first-3.ensures)
    ∙ ap (λ xs. c.first-3.result.now ++ starts_in (map keyed xs)) (sym c.deref-2.ensures.value)))
