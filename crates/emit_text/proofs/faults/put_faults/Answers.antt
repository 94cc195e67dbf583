-- A line for each fault.
use Rattle.emit_text.proofs.Common.{List, Project, [], at_drop_all, at_drop_more, fault_text, faults_in, line_of_fault}
use Rattle.emit_text.proofs.Common.{refl, ℕ, ◌++◌, ◌∙◌, ◌∷◌, ◌≡◌}
use Rattle.ldmodel.specs.declared.fault.Fault.{Fault}
use Rattle.emit_text.proofs.Appending.{written_step, written_end}
use Rattle.emit_text.proofs.faults.put_faults.Goals as goal

abbrev text : Project → List Fault → List ℕ
text p faults = fault_text (faults_in p faults)

text_more : (p : Project) (f : Fault) (fs : List Fault) → text p (f ∷ fs) ≡ line_of_fault p f ++ text p fs
unfolding fault_text
text_more p f fs = refl

text_none : (p : Project) → text p [] ≡ []
unfolding fault_text
text_none p = refl

pub loop-fault-preserved : goal.loop-fault-preserved
loop-fault-preserved c =
    let p = c.args.project.now in
    written_step _ _ _ _ _ _ c.in_ok-put_fault.ensures
    (at_drop_more (text p) c.args.faults.now c.loop-fault.fault-index _ c.loop-fault-test.true ∙ text_more p _ _)
    c.loop-fault.invariant

pub returns : goal.returns
returns c =
    let p = c.args.project.now in
    written_end _ _ _ (at_drop_all (text p) c.args.faults.now c.loop-fault.fault-index c.loop-fault-test.false
    ∙ text_none p)
    c.loop-fault.invariant
