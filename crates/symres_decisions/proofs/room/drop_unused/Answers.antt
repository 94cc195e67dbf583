use Rattle.symres_decisions.proofs.MakingRoom.{frame_forgotten, sound_forgotten, whole_forgotten}
use Rattle.symres_decisions.proofs.room.drop_unused.Goals as goal

pub returns-clause-whole : goal.returns-clause-whole
returns-clause-whole c =
    whole_forgotten c.args.names.now c.forget.new.self c.args.cases.now c.clear_unnamed.new.cases c.forget.ensures
    c.clear_unnamed.ensures c.requires.complete

pub returns-clause-sound : goal.returns-clause-sound
returns-clause-sound c = λ script sound.
    sound_forgotten script c.args.names.now c.forget.new.self c.args.cases.now c.clear_unnamed.new.cases
    c.forget.ensures c.clear_unnamed.ensures sound

pub returns-clause-frame : goal.returns-clause-frame
returns-clause-frame c =
    frame_forgotten c.args.names.now c.forget.new.self c.args.cases.now c.clear_unnamed.new.cases c.forget.ensures
    c.clear_unnamed.ensures
