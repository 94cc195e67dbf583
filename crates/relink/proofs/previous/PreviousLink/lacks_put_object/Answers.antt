use Rattle.relink.proofs.OriginsFollow.{puts_new, puts_nothing}
use Rattle.relink.proofs.previous.PreviousLink.lacks_put_object.Goals as goal

pub returns-in-None : goal.returns-in-None
returns-in-None c = λ ok old same since. puts_nothing old c.args.staged.now.objects.step c.in-None.ensures.none

pub returns-in-Some : goal.returns-in-Some
returns-in-Some c = λ ok old same since.
    puts_new old c.args.staged.now.objects.step c.in-Some.key.0 c.in-Some.named.now c.in-Some.ensures.some
    (c.is_new.ensures ok old same since)
