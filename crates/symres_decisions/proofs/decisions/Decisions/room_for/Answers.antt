use Rattle.symres_decisions.proofs.Common.{Fits, List, Table, subst, sym}
use Rattle.symres_decisions.proofs.MakingRoom.{both_ok, ready_come}
use Rattle.symres_decisions.proofs.decisions.Decisions.room_for.Goals as goal

pub make_room-requires-clause-sound : goal.make_room-requires-clause-sound
make_room-requires-clause-sound c = rw (← c.self.view_is) at c.requires.kept

pub returns-in-Some-clause-ready : goal.returns-in-Some-clause-ready
returns-in-Some-clause-ready c =
    let fits = rw (← c.self.view_is) at c.requires.fits in
    both_ok c.make_room.result c.make_room.ensures.ready
    (ready_come c.make_room.new.names c.make_room.new.cases c.args.change.now c.in-Some.at c.in-Some.is
    (subst (λ (ts : List Table). Fits ts c.args.change.now) (sym c.make_room.ensures.objects) fits))

pub returns-in_err-reserve_keys-clause-kept : goal.returns-in_err-reserve_keys-clause-kept
returns-in_err-reserve_keys-clause-kept c = rw (← c.self.view_is) at c.requires.kept

pub returns-in-None-clause-kept : goal.returns-in-None-clause-kept
returns-in-None-clause-kept c = rw (← c.self.view_is) at c.requires.kept
