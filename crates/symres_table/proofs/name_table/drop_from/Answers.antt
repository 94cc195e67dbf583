use Rattle.symres_table.proofs.Common.{nat_lt, rules}
use Rattle.symres_table.proofs.Cutting.{retained_by}
use Rattle.symres_table.proofs.name_table.drop_from.Goals as goal

pub returns : goal.returns
returns c = λ n.
    retained_by _ (λ p. nat_lt p c.args.count) _ (λ key old keep new next call. search rules) 0
    c.args.places.now.slots c.retain.new.self.slots c.retain.ensures.retained n
