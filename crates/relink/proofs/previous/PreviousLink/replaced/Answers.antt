use Rattle.relink.proofs.Common.{origin_of, sym}
use Rattle.relink.proofs.OriginsFollow.{none_replaced}
use Rattle.relink.proofs.previous.PreviousLink.replaced.Goals as goal

pub returns-in-None : goal.returns-in-None
returns-in-None c =
    sym (none_replaced (origin_of c.args.self.now.origins.items) c.args.project.now.contents.entries
    c.args.staged.now.objects.step c.args.staged.now.objects.places.after c.in-None.ensures.none)
