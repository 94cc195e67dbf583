use Rattle.gather.proofs.Common.{IsTrue, ap, input_statements, is_kept, kept_numbers, sym, taken_by, ◌∙◌, ◌≡◌}
use Rattle.ldscript.specs.statements.Numbered.{shown_inputs}
use Rattle.gather.proofs.KeptNumbers.{kept_are, with_entry}
use Rattle.gather.proofs.roots.roots.Goals as goal

pub returns : goal.returns
returns c = λ p is a k s at.
    let all : shown_inputs c.deref.result.now ≡ input_statements p.script = ap shown_inputs c.deref.ensures.value
    ∙ c.in_ok-statements.ensures ∙ ap input_statements (sym is) in
    let found = c.in_ok-found.ensures ∙ ap (λ l. kept_numbers l 0 c.args.sections.now) all in
    with_entry (IsTrue (is_kept (taken_by p s))) c.in_ok-found.found.items c.add_entry.new.found.items c.args.entry k
    c.in_ok-add_entry.ensures
    (kept_are p c.args.sections.now c.in_ok-found.found.items found a k s at)
