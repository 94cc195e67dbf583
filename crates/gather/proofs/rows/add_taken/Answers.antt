-- A live section that a statement takes is put as its piece.
use Rattle.gather.proofs.GatheredLists.{taken_one}
use Rattle.gather.proofs.rows.add_taken.Goals as goal

pub returns-in-Some : goal.returns-in-Some
returns-in-Some c =
    taken_one c.add_section.result c.args.section.now c.args.is_live c.in-Some.statement c.args.buckets.now.items
    c.add_section.new.buckets.items c.if-is_live.true c.in-Some.is c.add_section.ensures
