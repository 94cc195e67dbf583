use Rattle.elfobj.proofs.Common.{AreRead, [], ap, arith, count_of, e_shnum, false, get_or, header, header_of}
use Rattle.elfobj.proofs.Common.{is_outside_profile, null_header, rules, sections_below, sections_of, string_at, subst}
use Rattle.elfobj.proofs.Common.{sym, unwrap_or, ◌<◌, ◌∙◌, ◌≡◌}
use Rattle.elfobj.proofs.PassingSections.{below_more, linked_within, names_are, not_linked, not_outside, profile_passes}
use Rattle.elfobj.proofs.PassingSections.{right_by}
use Rattle.elfobj.proofs.Steps.{read_more, read_same}
use Rattle.elfobj.proofs.linked.passing_sections.Goals as goal
use Rattle.elfobj.proofs.linked.passing_sections.Goals.{else-is_alloc}
use Rattle.elfobj.proofs.linked.passing_sections.Goals.{then-is_alloc+in-Some+else-left-length+in_ok-push}

pub overflow_cast-number : goal.overflow_cast-number
overflow_cast-number c =
    let count = count_of c.args.bytes.now c.args.headers.now c.requires.headers in
    let few = c.requires.table.count.few in
    let below : c.loop-number.number < 65536 = omega arith in
    search rules

pub section_at-requires-clause-name : goal.section_at-requires-clause-name
section_at-requires-clause-name c =
    let h = get_or c.args.headers.now c.loop-number.number null_header in
    c.in-Some.ensures.name
    ∙ ap (λ t. unwrap_or (string_at t h.sh_name) []) (names_are c.args.bytes.now c.args.names.now c.requires.names)

pub section_at-requires-clause-file : goal.section_at-requires-clause-file
section_at-requires-clause-file c =
    let count = count_of c.args.bytes.now c.args.headers.now c.requires.headers in
    linked_within c.args.bytes.now c.loop-number.number c.in-Some.kind
    (get_or c.args.headers.now c.loop-number.number null_header) c.requires.bounds (omega arith)
    (header_of c.args.bytes.now c.args.headers.now c.loop-number.number null_header c.requires.headers
    c.loop-number-test.true)
    c.in-Some.ensures.kind

pub loop-number-preserved : goal.loop-number-preserved
loop-number-preserved c =
    let bytes = c.args.bytes.now in
    let k = c.loop-number.number in
    let h = get_or c.args.headers.now k null_header in
    let e = header_of bytes c.args.headers.now k null_header c.requires.headers c.loop-number-test.true in
    elim c.if-is_alloc.branch [
      | then-is_alloc+in-Some+else-left-length+in_ok-push w ↦ rw w.linked-is record {
        read = read_more bytes k h w.in-Some.kind c.loop-number.linked.sections.items _
            c.loop-number.linked.part_spans.items _ w.section_at.result.0 w.section_at.result.1 e
            w.in-Some.ensures.kind c.loop-number.invariant.read w.section_at.ensures
            w.in_ok-push.ensures.sections w.in_ok-push.ensures.part_spans;
        passes = below_more (λ j. is_outside_profile bytes (header bytes j) ≡ false) k
            (ap (is_outside_profile bytes) (sym e)
            ∙ right_by bytes c.args.names.now h c.requires.names w.in-Some.ensures.right)
            c.loop-number.invariant.passes;
      }
      | else-is_alloc w ↦ rw w.linked-is record {
        read = read_same bytes k h _ _ e (not_linked h (sym c.is_alloc.ensures ∙ w.if-is_alloc.false))
            c.loop-number.invariant.read;
        passes = below_more (λ j. is_outside_profile bytes (header bytes j) ≡ false) k
            (ap (is_outside_profile bytes) (sym e)
            ∙ not_outside bytes h (sym c.is_alloc.ensures ∙ w.if-is_alloc.false))
            c.loop-number.invariant.passes;
      }
    ]

pub returns-clause-passes : goal.returns-clause-passes
returns-clause-passes c =
    let count = count_of c.args.bytes.now c.args.headers.now c.requires.headers in
    profile_passes c.args.bytes.now c.loop-number.number (omega arith) c.loop-number.invariant.passes

pub returns-clause-read : goal.returns-clause-read
unfolding sections_of
returns-clause-read c =
    let count = count_of c.args.bytes.now c.args.headers.now c.requires.headers in
    let e : c.loop-number.number ≡ e_shnum c.args.bytes.now = omega arith in
    subst (λ n. AreRead c.args.bytes.now
    (sections_below c.args.bytes.now n) c.loop-number.linked.sections.items c.loop-number.linked.part_spans.items) e
    c.loop-number.invariant.read
