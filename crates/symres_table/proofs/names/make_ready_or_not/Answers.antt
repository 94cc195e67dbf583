use Rattle.symres_table.proofs.Common.{[], ap, append-nil, length, sym, take, ◌∙◌, ◌≡◌}
use Rattle.symres_table.proofs.Joined.{take_first}
use Rattle.symres_table.proofs.Pairs.{same_names}
use Rattle.symres_table.proofs.names.make_ready_or_not.Goals as goal

pub returns-in-Err-clause-added : goal.returns-in-Err-clause-added
returns-in-Err-clause-added c =
    let k0 = c.args.known.now in
    let k1 = c.make_ready.new.known in
    let k2 = c.drop_newer.new.self in
    let order : k2.order ≡ k0.order = c.drop_newer.ensures ∙ ap (λ n. take n k1.order) c.len-count.ensures.len
    ∙ ap (take (length k0.order)) c.in-Err.ensures.added.1 ∙ take_first k0.order c.in-Err.ensures.added.0 in
    ([], order ∙ sym (append-nil k0.order))

pub returns-in-Err-clause-refused : goal.returns-in-Err-clause-refused
returns-in-Err-clause-refused c =
    let k0 = c.args.known.now in
    let k1 = c.make_ready.new.known in
    let k2 = c.drop_newer.new.self in
    let order : k2.order ≡ k0.order = c.drop_newer.ensures ∙ ap (λ n. take n k1.order) c.len-count.ensures.len
    ∙ ap (take (length k0.order)) c.in-Err.ensures.added.1 ∙ take_first k0.order c.in-Err.ensures.added.0 in
    same_names k0 k2 c.len-count.ensures.consistent c.len-known.ensures.consistent order

pub returns-in-Err-clause-kept : goal.returns-in-Err-clause-kept
returns-in-Err-clause-kept c = λ n name h. returns-in-Err-clause-refused c n ∙ h

pub returns-in-Err-clause-order : goal.returns-in-Err-clause-order
returns-in-Err-clause-order c =
    let k0 = c.args.known.now in
    let k1 = c.make_ready.new.known in
    c.drop_newer.ensures ∙ ap (λ n. take n k1.order) c.len-count.ensures.len
    ∙ ap (take (length k0.order)) c.in-Err.ensures.added.1 ∙ take_first k0.order c.in-Err.ensures.added.0
