use Rattle.relink.proofs.Common.{List, ap, drop, names_in, ℕ, ◌+◌, ◌∙◌}
use Rattle.relink.proofs.Listed.{stands_at}
use Rattle.relink.proofs.OriginsFollow.{named_more, same_bytes}
use Rattle.relink.proofs.name_list.NameList.is_nowhere_but_at.Goals as goal

pub loop-at-preserved : goal.loop-at-preserved
loop-at-preserved c =
    let at = c.loop-at in
    let s = stands_at c.args.self.now.names at.rest.now c.deref-length-items.result.now at.at at.invariant.rest
    c.loop-at-test.true in
    record {
      so_far = named_more c.args.self.now.names c.args.name.now c.args.place at.at at.invariant.so_far
          (λ is. c.is_other_or_at.ensures c.if-not-is_other_or_at.false
          (c.eq.ensures ∙ same_bytes c.in-Some.other.now c.args.name.now (c.in-Some.ensures.cases.1 ∙ s.first ∙ is)));
      rest = ap (λ (l : List ℕ). names_in l (drop (at.at + 1) c.deref-length-items.result.now))
          c.in-Some.ensures.cases.2
          ∙ s.others;
    }
