use Rattle.ldscript_terms.proofs.Common.{IsForm, ap, parts_in, subst, sym, ◌∙◌}
use Rattle.ldscript_terms.proofs.Patterns.{matches_exact, matches_wild}
use Rattle.ldscript_terms.proofs.Testing.{match_by_splitting, same_test}
use Rattle.ldscript_terms.proofs.pattern.matches.Goals as goal

exact : goal.returns-in-Exact-clause-splits
exact c =
    matches_exact c.in-Exact.exact c.as_bytes.result.now c.args.pattern.now c.args.name.now c.is_same.result
    c.as_bytes.ensures
    (sym (ap parts_in c.in-Exact.is) ∙ c.pattern.view_is) c.is_same.ensures

wild : goal.returns-in-Wild-clause-splits
wild c =
    matches_wild c.in-Wild.word c.as_bytes-in-Wild.result.now c.args.pattern.now c.args.name.now c.matches_word.result
    (subst (λ f. IsForm f) c.in-Wild.is c.pattern.invariant).0 c.as_bytes-in-Wild.ensures
    (sym (ap parts_in c.in-Wild.is) ∙ c.pattern.view_is) c.matches_word.ensures

pub returns-in-Exact-clause-splits : goal.returns-in-Exact-clause-splits
returns-in-Exact-clause-splits c = exact c

pub returns-in-Exact-clause-test : goal.returns-in-Exact-clause-test
returns-in-Exact-clause-test c = same_test _ _ (exact c) (match_by_splitting _ _)

pub returns-in-Wild-clause-splits : goal.returns-in-Wild-clause-splits
returns-in-Wild-clause-splits c = wild c

pub returns-in-Wild-clause-test : goal.returns-in-Wild-clause-test
returns-in-Wild-clause-test c = same_test _ _ (wild c) (match_by_splitting _ _)
