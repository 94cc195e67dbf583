use Rattle.relink.proofs.DeferredEdits.{edits_and_link}
use Rattle.relink.proofs.law.edits_and_link.Goals as goal

pub returns : goal.returns
returns c = edits_and_link
