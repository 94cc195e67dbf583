use Rattle.symres_table.proofs.Common.{None, ap, arith, cond, get_or, is_used, rules, ◌+◌, ◌∙◌, ◌≡◌}
use Rattle.symres_table.proofs.Forgetting.{retained}
use Rattle.symres_table.proofs.name_table.drop_unused.Goals as goal

pub returns : goal.returns
returns c = λ n.
    let zero_n : 0 + n ≡ n = omega arith in
    retained _ (λ k. is_used k c.args.objects.now.objects) _ (λ key old keep new next call.
    search rules) 0 c.args.places.now.slots c.retain.new.self.slots c.retain.ensures.retained n
    ∙ ap (λ k. cond (is_used k c.args.objects.now.objects) (get_or c.args.places.now.slots n None) None) zero_n
