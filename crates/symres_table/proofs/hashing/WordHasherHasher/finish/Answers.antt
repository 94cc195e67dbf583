use Rattle.symres_table.proofs.Common.{ap, combined, hash_of, ℕ, ◌∙◌}
use Rattle.symres_table.proofs.hashing.WordHasherHasher.finish.Goals as goal

pub returns : goal.returns
unfolding hash_of
returns c =
    c.combined.ensures
    ∙ ap (λ (sum : ℕ). combined sum c.args.self.now.numbers.factor c.args.self.now.numbers.offset)
    c.combined-sum.ensures
