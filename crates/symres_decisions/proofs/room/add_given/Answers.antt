use Rattle.symres_decisions.proofs.Common.{AreCases, Case, HasCase, List, ObjectKey, Option, subst, sym}
use Rattle.symres_decisions.proofs.MakingRoom.{has_given, kept_given, sound_given}
use Rattle.symres_decisions.proofs.OneName.{case_unused}
use Rattle.symres_decisions.proofs.room.add_given.Goals as goal

pub returns-clause-sound : goal.returns-clause-sound
returns-clause-sound c = λ sound.
    let named = rw c.unwrap-name.ensures at c.name_of.ensures in
    subst (λ (cs : List (Option (Case ObjectKey))). AreCases c.args.script.now c.args.names.now cs) (sym c.set.ensures)
    (sound_given c.args.script.now c.args.names.now c.args.cases.now c.grow_to.new.self c.args.key.0
    c.given_case.result c.grow_to.ensures.same c.in_ok-grow_to.ensures.ok
    (case_unused c.args.script.now c.args.names.now c.args.key.0 c.given_case.result c.unwrap-name.result.now named
    (c.requires.unused c.unwrap-name.result.now named) c.given_case.ensures)
    sound)

pub returns-clause-kept : goal.returns-clause-kept
returns-clause-kept c = λ k has.
    subst (λ (cs : List (Option (Case ObjectKey))). HasCase cs k) (sym c.set.ensures)
    (kept_given c.args.cases.now c.grow_to.new.self c.args.key.0 c.given_case.result c.grow_to.ensures.same
    c.in_ok-grow_to.ensures.ok k has)

pub returns-clause-ok : goal.returns-clause-ok
returns-clause-ok c =
    subst (λ (cs : List (Option (Case ObjectKey))). HasCase cs c.args.key.0) (sym c.set.ensures)
    (has_given c.grow_to.new.self c.args.key.0 c.given_case.result c.in_ok-grow_to.ensures.ok)
