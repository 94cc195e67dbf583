use Rattle.ldscript_terms.proofs.Common.{None, Some, ap, exact_name, option_map, sym, ◌∙◌, ◌≡◌}
use Rattle.ldscript_terms.proofs.Exact.{exact_spells}
use Rattle.ldscript_terms.proofs.Reading.{wild_form, wild_spells}
use Rattle.ldscript_terms.proofs.pattern.form_of.Goals as goal

pub returns-in_ok-new-in-Some-clause-spelled : goal.returns-in_ok-new-in-Some-clause-spelled
returns-in_ok-new-in-Some-clause-spelled c =
    let s = c.requires in
    let e : exact_name s.0 ≡ Some c.in-Some.name.items = sym (c.in_ok-name.ensures s.0 s.1)
    ∙ ap (option_map (λ v. v.items)) c.in-Some.is in
    exact_spells s.0 c.args.word.now c.in-Some.name.items _ s.1 e (c.in_ok-new-in-Some.ensures ∙ c.deref.ensures.value)

pub returns-in_ok-new-in-None-clause-form : goal.returns-in_ok-new-in-None-clause-form
returns-in_ok-new-in-None-clause-form c =
    let s = c.requires in
    let e : exact_name s.0 ≡ None = sym (c.in_ok-name.ensures s.0 s.1) ∙ ap (option_map (λ v. v.items)) c.in-None.is in
    wild_form s.0 c.args.word.now _ s.1 c.in_ok-new-in-None.ensures e

pub returns-in_ok-new-in-None-clause-spelled : goal.returns-in_ok-new-in-None-clause-spelled
returns-in_ok-new-in-None-clause-spelled c =
    wild_spells c.requires.0 c.args.word.now _ c.requires.1 c.in_ok-new-in-None.ensures
