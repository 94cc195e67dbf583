use Rattle.ldi_deferred.proofs.Common.{err_from_is_err_and, inl, refl, ℕ}
use Rattle.ldi_deferred.proofs.DeferredGrammar.{broken_tail, unread_line}
use Rattle.ldi_deferred.proofs.DeferredSteps.{cut_line, edit_stepped, word_cut, word_served}
use Rattle.ldi_deferred.proofs.serve.serve_one.Goals as goal

pub returns-in_err-read_line-clause-stepped : goal.returns-in_err-read_line-clause-stepped
returns-in_err-read_line-clause-stepped g c =
    let p = err_from_is_err_and c.from_residual.result c.from_residual.ensures.1 in
    let h = c.in_err-read_line.ensures.read in
    rw (p.1, p.2) (cut_line (g.R.Source.rest c.args.source.now)
    (g.R.Source.rest c.read_line.new.source) _ _ h.0 h.1 h.2)

pub returns-in-Broken-clause-stepped : goal.returns-in-Broken-clause-stepped
returns-in-Broken-clause-stepped g c =
    c.serve_bad.ensures.stepped _ _ _ (broken_tail ℕ (g.R.Source.rest c.args.source.now)
    (g.R.Source.rest c.read_line.new.source) c.read_line.new.line (rw c.in-Broken.is at c.in_ok-read_line.ensures.read))

pub returns-in-Broken-clause-counted : goal.returns-in-Broken-clause-counted
returns-in-Broken-clause-counted g c = rw c.in_ok-read_line.ensures.counted (c.serve_bad.ensures.counted _)

pub returns-in-None-clause-stepped : goal.returns-in-None-clause-stepped
returns-in-None-clause-stepped g c =
    c.serve_bad-in-None.ensures.stepped _ _ _ (unread_line c.deferred_lines_without_feed.ensures ℕ
    (g.R.Source.rest c.args.source.now) (g.R.Source.rest c.read_line.new.source) c.read_line.new.line c.in-Line.n
    (rw c.in-Line.is at c.in_ok-read_line.ensures.read) c.in-None.ensures.none)

pub returns-in-None-clause-counted : goal.returns-in-None-clause-counted
returns-in-None-clause-counted g c = rw c.in_ok-read_line.ensures.counted (c.serve_bad-in-None.ensures.counted _)

pub returns-in-Some-Edit-clause-stepped : goal.returns-in-Some-Edit-clause-stepped
returns-in-Some-Edit-clause-stepped g c =
    let h = rw c.in-Line.is at c.in_ok-read_line.ensures.read in
    let says = rw c.in-Some-Edit.field-0-is at c.in-Some-Edit.ensures.found in
    edit_stepped c.one_first_deferred.ensures c.in-Some-Edit.head _ says _ _ _ _ _ _ _ _ _ _ c.serve_edit.result
    c.serve_edit.ensures.unlinked h.2 c.serve_edit.ensures.stepped

pub returns-in_err-serve_query-in-Some-Ask-clause-stepped : goal.returns-in_err-serve_query-in-Some-Ask-clause-stepped
returns-in_err-serve_query-in-Some-Ask-clause-stepped g c =
    let p = err_from_is_err_and c.from_residual-in_err-serve_query-in-Some-Ask.result
    c.from_residual-in_err-serve_query-in-Some-Ask.ensures.1 in
    let h = rw c.in-Line.is at c.in_ok-read_line.ensures.read in
    let says = rw c.in-Some-Ask.field-0-is at c.in-Some-Ask.ensures.found in
    let w = c.in_err-serve_query-in-Some-Ask.ensures.text in
    rw (p.1, p.2) (inl (word_cut _ _ _ _ _ _ _ _ w.0 says refl h.2 w.2 w.1.0 w.1.1))

pub returns-in_ok-serve_query-in-Some-Ask-clause-stepped : goal.returns-in_ok-serve_query-in-Some-Ask-clause-stepped
returns-in_ok-serve_query-in-Some-Ask-clause-stepped g c =
    let h = rw c.in-Line.is at c.in_ok-read_line.ensures.read in
    let says = rw c.in-Some-Ask.field-0-is at c.in-Some-Ask.ensures.found in
    let w = c.in_ok-serve_query-in-Some-Ask.ensures.text in
    word_served _ _ _ _ _ _ _ _ w.0 says refl h.2 w.2 w.1

pub returns-in_err-serve_link-in-Some-Link-clause-stepped : goal.returns-in_err-serve_link-in-Some-Link-clause-stepped
returns-in_err-serve_link-in-Some-Link-clause-stepped g c =
    let p = err_from_is_err_and c.from_residual-in_err-serve_link-in-Some-Link.result
    c.from_residual-in_err-serve_link-in-Some-Link.ensures.1 in
    let h = rw c.in-Line.is at c.in_ok-read_line.ensures.read in
    let says = rw c.in-Some-Link.field-0-is at c.in-Some-Link.ensures.found in
    let w = c.in_err-serve_link-in-Some-Link.ensures.text c.args.sent.now.items in
    rw (p.1, p.2) (inl (word_cut _ _ _ _ _ _ _ _ w.0 says refl h.2 w.2 w.1.0 w.1.1))

pub returns-in_ok-serve_link-in-Some-Link-clause-stepped : goal.returns-in_ok-serve_link-in-Some-Link-clause-stepped
returns-in_ok-serve_link-in-Some-Link-clause-stepped g c =
    let h = rw c.in-Line.is at c.in_ok-read_line.ensures.read in
    let says = rw c.in-Some-Link.field-0-is at c.in-Some-Link.ensures.found in
    let w = c.in_ok-serve_link-in-Some-Link.ensures.text c.args.sent.now.items in
    word_served _ _ _ _ _ _ _ _ w.0 says refl h.2 w.2 w.1

pub returns-in_err-serve_changes-in-Some-Changes-clause-stepped :
    goal.returns-in_err-serve_changes-in-Some-Changes-clause-stepped
returns-in_err-serve_changes-in-Some-Changes-clause-stepped g c =
    let p = err_from_is_err_and c.from_residual-in_err-serve_changes-in-Some-Changes.result
    c.from_residual-in_err-serve_changes-in-Some-Changes.ensures.1 in
    let h = rw c.in-Line.is at c.in_ok-read_line.ensures.read in
    let says = rw c.in-Some-Changes.field-0-is at c.in-Some-Changes.ensures.found in
    let w = c.in_err-serve_changes-in-Some-Changes.ensures.text in
    rw (p.1, p.2) (inl (word_cut _ _ _ _ _ _ _ _ w.0 says refl h.2 w.2 w.1.0 w.1.1))

pub returns-in_ok-serve_changes-in-Some-Changes-clause-stepped :
    goal.returns-in_ok-serve_changes-in-Some-Changes-clause-stepped
returns-in_ok-serve_changes-in-Some-Changes-clause-stepped g c =
    let h = rw c.in-Line.is at c.in_ok-read_line.ensures.read in
    let says = rw c.in-Some-Changes.field-0-is at c.in-Some-Changes.ensures.found in
    let w = c.in_ok-serve_changes-in-Some-Changes.ensures.text in
    word_served _ _ _ _ _ _ _ _ w.0 says refl h.2 w.2 w.1
