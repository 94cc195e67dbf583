use Rattle.relink.proofs.DeferredEdits.{opening_work}
use Rattle.relink.proofs.law.edits_of_opening.Goals as goal

pub returns : goal.returns
returns c = λ old last steps m0 m1 unmade small edits.
    opening_work steps old last m0 m1 unmade small.objects small.names edits
