use Rattle.gather.proofs.Common.{AreBuckets, IfOk-weaker, ap, input_statements, length, subst, sym, taken_in, ◌∙◌}
use Rattle.ldscript.specs.statements.Numbered.{shown_inputs}
use Rattle.gather.proofs.GatheredLists.{taken_are}
use Rattle.gather.proofs.rows.rows.Goals as goal

pub join_buckets-requires-clause-statements : goal.join_buckets-requires-clause-statements
join_buckets-requires-clause-statements c =
    ap shown_inputs c.deref-2.ensures.value ∙ c.in_ok-statements.ensures
    ∙ ap input_statements c.script-script.ensures

pub returns : goal.returns
returns c =
    let p = c.args.project.now in
    let xs = taken_in c.args.marks.now c.args.sections.now in
    IfOk-weaker c.join_buckets.result _ _
    (λ found h gathered lives. h xs
    (subst (λ n. AreBuckets xs n c.in_ok-buckets.buckets.items)
    (ap length (c.deref.ensures.value ∙ sym c.deref-2.ensures.value)) c.in_ok-buckets.ensures)
    (taken_are p c.args.marks.now c.args.sections.now gathered lives))
    c.join_buckets.ensures
