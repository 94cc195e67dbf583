use Rattle.relink.proofs.Deferring.{linked_last, staged_following}
use Rattle.relink.proofs.deferred.commit_unlinked.Goals as goal

pub returns-clause-previous : goal.returns-clause-previous
returns-clause-previous c = λ bytes kept.
    linked_last c.args.project.now c.commit.new.self c.args.staged c.puts_same-same.result bytes c.args.seen.now
    c.args.previous.now c.keep_after_fault.new.previous c.effect_of-effect.result
    (staged_following c.args.project.now c.args.staged c.puts_same-same.result bytes c.args.seen.now
    c.args.previous.now c.effect_of-effect.result c.next-next.result c.keys-keys.result.now c.requires
    c.next-next.ensures.next c.next-next.ensures.found c.keys-keys.ensures.value c.keys-keys.ensures.distinct
    c.found_where_placed.ensures c.puts_same-same.ensures.same c.puts_same-same.ensures.other
    c.puts_same-same.ensures.named c.effect_of-effect.ensures kept)
    c.keep_after_fault.ensures c.commit.ensures.next
