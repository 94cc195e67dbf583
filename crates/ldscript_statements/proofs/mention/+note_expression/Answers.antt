use Rattle.ldscript_statements.proofs.Common.{ap, inl, inr, regions_of, shown, ◌++◌, ◌≡◌}
use Rattle.ldscript_terms.specs.CodeTerms.{expr_of}
use Rattle.ldscript_statements.proofs.Listing.{listed_two, listed_three}
use Rattle.ldscript_statements.proofs.mention.+note_expression.Goals as goal

pub returns-in_ok-note_expression-in-Choice-3 : goal.returns-in_ok-note_expression-in-Choice-3
returns-in_ok-note_expression-in-Choice-3 t c =
    listed_three (shown c.args.list.now.items) (shown c.note_expression.new.list.items)
    (shown c.note_expression-in-Choice.new.list.items) (shown c.note_expression-in-Choice-2.new.list.items)
    (expr_of c.args.expr.now) _ _ _ _ _ _
    (ap (λ e. regions_of (expr_of e)) c.in-Choice.is) (ap (λ v. expr_of v.test) c.deref.ensures)
    (ap (λ v. expr_of v.first) c.deref-in-Choice.ensures) (ap (λ v. expr_of v.second) c.deref-in-Choice-2.ensures)
    c.in_ok-note_expression-in-Choice.ensures c.in_ok-note_expression-in-Choice-2.ensures
    c.in_ok-note_expression-in-Choice-3.ensures

pub returns-in_ok-note_expression-in-Binary-2 : goal.returns-in_ok-note_expression-in-Binary-2
returns-in_ok-note_expression-in-Binary-2 t c =
    let split : regions_of (expr_of c.args.expr.now) ≡ regions_of (expr_of c.in-Binary.a.value) ++ regions_of
    (expr_of c.in-Binary.b.value) =
    elim c.in-Binary.is [ inl q ↦ ap (λ e. regions_of (expr_of e)) q.1 | inr q ↦ ap (λ e. regions_of (expr_of e)) q ] in
    listed_two (shown c.args.list.now.items) (shown c.note_expression-in-Binary.new.list.items)
    (shown c.note_expression-in-Binary-2.new.list.items) (expr_of c.args.expr.now) _ _ _ _
    split (ap expr_of c.deref-in-Binary.ensures)
    (ap expr_of c.deref-in-Binary-2.ensures) c.in_ok-note_expression-in-Binary.ensures
    c.in_ok-note_expression-in-Binary-2.ensures
