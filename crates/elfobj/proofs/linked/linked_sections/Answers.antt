use Rattle.elfobj.proofs.Common.{AreRead, arith, count_of, e_shnum, get_or, header_of, null_header, rules}
use Rattle.elfobj.proofs.Common.{sections_below, sections_of, subst, sym, ◌<◌, ◌∙◌, ◌≡◌}
use Rattle.elfobj.proofs.Steps.{linkable, read_more, read_same}
use Rattle.elfobj.proofs.linked.linked_sections.Goals as goal
use Rattle.elfobj.proofs.linked.linked_sections.Goals.{in-Some+in_ok-push, in_default}

pub overflow_cast-number : goal.overflow_cast-number
overflow_cast-number c =
    let count = count_of c.args.bytes.now c.args.headers.now c.requires.headers in
    let few = c.requires.table.count.few in
    let below : c.loop-number.number < 65536 = omega arith in
    search rules

pub section_and_spans-requires-clause-linkable : goal.section_and_spans-requires-clause-linkable
section_and_spans-requires-clause-linkable c =
    let count = count_of c.args.bytes.now c.args.headers.now c.requires.headers in
    linkable c.args.bytes.now c.loop-number.number c.in-Some.kind _ c.requires.tests (omega arith)
    (header_of c.args.bytes.now c.args.headers.now c.loop-number.number null_header c.requires.headers
    c.loop-number-test.true)
    (sym c.linked_kind.ensures ∙ c.in-Some.is)

pub loop-number-preserved : goal.loop-number-preserved
loop-number-preserved c =
    let h = header_of c.args.bytes.now c.args.headers.now c.loop-number.number null_header c.requires.headers
    c.loop-number-test.true in
    elim c.match-linked_kind.branch [
      | in-Some+in_ok-push w ↦ rw w.linked-is
          (read_more c.args.bytes.now c.loop-number.number
          (get_or c.args.headers.now c.loop-number.number null_header) w.in-Some.kind
          c.loop-number.linked.sections.items _ c.loop-number.linked.part_spans.items _ w.section_and_spans.result.0
          w.section_and_spans.result.1
          h (sym c.linked_kind.ensures ∙ w.in-Some.is) c.loop-number.invariant w.section_and_spans.ensures
          w.in_ok-push.ensures.sections w.in_ok-push.ensures.part_spans)
      | in_default w ↦ rw w.linked-is
          (read_same c.args.bytes.now c.loop-number.number
          (get_or c.args.headers.now c.loop-number.number null_header) _ _
          h (sym c.linked_kind.ensures ∙ w.in_default.is) c.loop-number.invariant)
    ]

pub returns : goal.returns
unfolding sections_of
returns c =
    let count = count_of c.args.bytes.now c.args.headers.now c.requires.headers in
    let e : c.loop-number.number ≡ e_shnum c.args.bytes.now = omega arith in
    subst (λ n. AreRead c.args.bytes.now
    (sections_below c.args.bytes.now n) c.loop-number.linked.sections.items c.loop-number.linked.part_spans.items) e
    c.loop-number.invariant
