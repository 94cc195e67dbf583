use Rattle.symres_decisions.proofs.MakingRoom.{both_ok, whole_settled}
use Rattle.symres_decisions.proofs.room.settle_new.Goals as goal

pub returns-clause-ok : goal.returns-clause-ok
returns-clause-ok c =
    both_ok c.add_all_given.result c.add_all_given.ensures.ok
    (λ above.
    whole_settled c.args.script.now c.args.names.now c.args.cases.now c.add_all_given.new.cases c.args.from
    c.known-known.ensures.listing c.requires.below above c.add_all_given.ensures.kept
    (c.add_all_given.ensures.sound c.requires.sound))
