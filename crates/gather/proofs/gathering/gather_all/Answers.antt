use Rattle.gather.proofs.Common.{AreBuckets, GatheredSection, List, ap, filter_map, input_statements, length, own_piece}
use Rattle.gather.proofs.Common.{subst, sym, taken_in, untaken, ◌∙◌}
use Rattle.ldscript.specs.statements.Numbered.{shown_inputs}
use Rattle.gather.proofs.GatheredLists.{orphans_are, taken_are}
use Rattle.gather.proofs.Named.{orphan_faults}
use Rattle.gather.proofs.AllTaken.{kept_marks}
use Rattle.gather.proofs.gathering.gather_all.Goals as goal

pub take_all-requires-clause-statements : goal.take_all-requires-clause-statements
take_all-requires-clause-statements c =
    ap shown_inputs c.deref.ensures.value ∙ c.in_ok-statements.ensures
    ∙ ap input_statements c.script-script.ensures

pub join_buckets-requires-clause-statements : goal.join_buckets-requires-clause-statements
join_buckets-requires-clause-statements c =
    ap shown_inputs c.deref-2.ensures.value ∙ c.in_ok-statements.ensures
    ∙ ap input_statements c.script-script.ensures

pub join_buckets-requires-clause-taken : goal.join_buckets-requires-clause-taken
join_buckets-requires-clause-taken c =
    c.in_ok-taken.ensures.taken.buckets.long ∙ ap length (c.deref.ensures.value ∙ sym c.deref-2.ensures.value)

pub returns : goal.returns
returns c =
    let p = c.args.project.now in
    let in_order = c.live_by_path.ensures.in_order p in
    let t = c.in_ok-taken.ensures in
    let k = kept_marks p t.sections t.gathered (c.live_by_path.ensures.all p c.requires.kept) in
    record {
      table = c.requires.table;
      rows = c.in_ok-rows.ensures (taken_in k.marks t.sections)
          (subst (λ n. AreBuckets (taken_in k.marks t.sections) n c.in_ok-taken.taken.buckets.items)
          (ap length (c.deref.ensures.value ∙ sym c.deref-2.ensures.value))
          (subst (λ (l : List GatheredSection). AreBuckets (filter_map own_piece l) (length c.deref.result.now)
          c.in_ok-taken.taken.buckets.items) (sym k.kept) t.taken.buckets))
          (taken_are p k.marks t.sections t.gathered k.are_live);
      orphans = orphan_faults p t.gathered.ascending in_order.0
          c.in_ok-taken.taken.orphans.items in_order.1
          (orphans_are p k.marks t.sections c.in_ok-taken.taken.orphans.items
          (t.taken.orphans ∙ ap (filter_map untaken) (sym k.kept)) t.gathered k.are_live);
    }
