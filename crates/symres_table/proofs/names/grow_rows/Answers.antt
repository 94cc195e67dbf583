use Rattle.symres_table.proofs.Common.{All, All-more, Numbered, arith, length, subst, take, take_all, ◌<◌, ◌≡◌, ◌≤◌}
use Rattle.symres_table.proofs.Naming.{nothing}
use Rattle.symres_table.proofs.RowsOnlyGrow.{grows_trans}
use Rattle.symres_table.proofs.names.grow_rows.Goals as goal

pub loop-at-preserved : goal.loop-at-preserved
loop-at-preserved c =
    let inv = c.loop-at.invariant in
    let i = c.loop-at.at in
    let xs = c.args.symbols.now in
    let more : length c.loop-at.objects.room ≤ length c.grow_row.new.objects.room = c.grow_row.ensures.same.rows in
    record {
      grow = grows_trans c.args.objects.now c.loop-at.objects c.grow_row.new.objects inv.grow c.grow_row.ensures.same;
      within = All-more (λ (s : Numbered). s.name < length c.grow_row.new.objects.room) xs i nothing c.loop-at-test.true
          (λ j d l. let lt = inv.within j d l in omega (arith, lt, more)) c.in_ok-grow_row.ensures.ok;
    }

pub returns-clause-ok : goal.returns-clause-ok
returns-clause-ok c =
    let all : take c.loop-at.at c.args.symbols.now ≡ c.args.symbols.now =
    take_all _ c.args.symbols.now c.loop-at-test.false in
    subst (All (λ (s : Numbered). s.name < length c.loop-at.objects.room)) all c.loop-at.invariant.within
