use Rattle.relink.proofs.OriginsFollow.{none_changed}
use Rattle.relink.proofs.previous.changed_key.Goals as goal

pub returns-in-None-removed : goal.returns-in-None-removed
returns-in-None-removed c =
    none_changed c.args.staged.now.objects.step c.in-None.ensures.none c.in-None-removed.ensures.removed
