use Rattle.symres_table.proofs.Common.{AreOf, rules, subst, sym}
use Rattle.symres_table.proofs.Spelling.{adds_both}
use Rattle.symres_table.proofs.lists.number_new.Goals as goal

pub add_seen-requires-clause-told : goal.add_seen-requires-clause-told
add_seen-requires-clause-told c =
    c.name_told-told.ensures c.loop-number.known.slots c.args.object.now.symbols
    (subst (AreOf c.loop-number.known.slots c.args.object.now.symbols) (sym c.deref.ensures.value)
    c.loop-number.invariant.told)

pub loop-number-preserved : goal.loop-number-preserved
loop-number-preserved c = record {
  spelled = search rules;
  of = search rules;
  told = λ k d within.
      let told = c.loop-number.invariant.told k d within in
      (told.0, λ seen e. c.add_seen.ensures.kept _ _ (told.1 seen e));
  kept = search rules;
  added = adds_both c.args.known.now c.loop-number.known c.add_seen.new.known c.loop-number.invariant.added
      c.add_seen.ensures.added;
}
