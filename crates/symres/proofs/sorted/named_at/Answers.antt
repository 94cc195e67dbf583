use Rattle.symres.proofs.Common.{List, ap, get_or, sym, ℕ, ◌∙◌}
use Rattle.symres.proofs.sorted.named_at.Goals as goal

pub returns : goal.returns
returns c = λ e.
    ap (λ (name : List ℕ). (name, c.key_at.result.0)) (sym (c.name_at.ensures e))
    ∙ ap (λ (key : ℕ). ((get_or c.args.text.now c.args.place e).0, key)) (sym (c.key_at.ensures e))
