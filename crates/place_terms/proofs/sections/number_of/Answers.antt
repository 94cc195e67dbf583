use Rattle.place_terms.proofs.Common.{ap, bytes_eq, length, refl, section_number, slice_get_read, sym, ◌∙◌}
use Rattle.place_terms.proofs.FoundSections.{guessed_right}
use Rattle.place_terms.proofs.Lists.{same_name}
use Rattle.place_terms.proofs.sections.number_of.Goals as goal

pub returns-then-eq : goal.returns-then-eq
returns-then-eq c =
    sym (guessed_right (section_number c.args.script.now) c.args.taken.now c.args.list.now c.in-Some.place
    c.in-Some-get.guessed.now c.args.name.now c.requires
    (slice_get_read c.args.list.now (length c.args.list.now) c.in-Some.place c.in-Some-get.guessed.now refl
    c.in-Some-get.ensures.lookup.3.0 c.in-Some-get.ensures.lookup.1)
    (same_name c.in-Some-get.guessed.now.output.now.name c.args.name.now
    (ap (λ n. bytes_eq n c.args.name.now) (sym c.as_bytes.ensures) ∙ (sym c.eq.ensures ∙ c.if-eq.true))))
