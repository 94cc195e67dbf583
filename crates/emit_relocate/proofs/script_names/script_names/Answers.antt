use Rattle.emit_relocate.proofs.Common.{Bor, IfOk-weaker, List, all_given, answers_always, ap, distinct_first, length}
use Rattle.emit_relocate.proofs.Common.{nat_list_cmp_total, ranks_by, rules, shown_directives, texts, ℕ, ◌++◌, ◌∙◌}
use Rattle.emit_relocate.proofs.Distinct.{text_before}
use Rattle.emit_relocate.proofs.Listing.{names_are}
use Rattle.emit_relocate.proofs.script_names.script_names.Goals as goal

pub returns : goal.returns
returns c =
    IfOk-weaker c.distinct.result _ _
    (λ list e.
    names_are c.args.script.now (shown_directives c.deref.result.now) c.add_all_given.new.list.items
    c.sort_by.new.list.items list.items
    (ap shown_directives c.deref.ensures.value ∙ c.in_ok-commands.ensures)
    (c.in_ok-add_all_given.ensures
    ∙ ap (λ (l : List (Bor (List ℕ))). texts l ++ all_given (shown_directives c.deref.result.now))
    c.in_ok-given.ensures.items)
    c.in_ok-sort_by.ensures.permutation
    (c.in_ok-sort_by.ensures.sorted text_before (ranks_by nat_list_cmp_total (λ (x : Bor (List ℕ)). x.now))
    (answers_always _ _ _ (λ f a r f' k. search rules)))
    (e ∙ ap (λ (l : List (Bor (List ℕ))). distinct_first (texts l) (length l)) c.deref-2.ensures.value))
    c.distinct.ensures
