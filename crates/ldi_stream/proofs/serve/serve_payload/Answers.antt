use Rattle.ldi_stream.proofs.Common.{err_from_is_err_and, inl, refused_line}
use Rattle.ldmodel.specs.Edits.{NoMemory}
use Rattle.ldi_stream.proofs.StreamReplies.{payload_unread}
use Rattle.ldi_stream.proofs.serve.serve_payload.Goals as goal

pub returns-in_err-write_refused-in-NoMemory-clause-stepped :
    goal.returns-in_err-write_refused-in-NoMemory-clause-stepped
returns-in_err-write_refused-in-NoMemory-clause-stepped g c =
    let p = err_from_is_err_and c.from_residual-in_err-write_refused-in-NoMemory.result
    c.from_residual-in_err-write_refused-in-NoMemory.ensures.1 in
    let h = rw c.in-NoMemory.is at c.in_ok-bytes.ensures.read in
    let w = c.in_err-write_refused-in-NoMemory.ensures.text in
    rw (p.1, p.2) (inl (h.0, refused_line NoMemory, w.0, h.1, h.2, w.1, payload_unread _ c.args.target h.0))

pub returns-in_ok-write_refused-in-NoMemory-clause-stepped : goal.returns-in_ok-write_refused-in-NoMemory-clause-stepped
returns-in_ok-write_refused-in-NoMemory-clause-stepped g c =
    let h = rw c.in-NoMemory.is at c.in_ok-bytes.ensures.read in (
      h.0,
      refused_line NoMemory,
      h.1,
      h.2,
      c.in_ok-write_refused-in-NoMemory.ensures.text,
      payload_unread _ c.args.target h.0,
    )
