use Rattle.emit_image.proofs.Common.{arith, header_names_of, length, ◌<◌}
use Rattle.emit_image.proofs.HeaderNames.{all_headers, begins, header_next, long, own_name, string_next}
use Rattle.emit_image.proofs.sections.put_sections.Goals as goal

pub loop-x-preserved : goal.loop-x-preserved
loop-x-preserved c =
    let ys = c.args.sections.now in
    let i = c.loop-x.x-index in
    let ns = header_names_of ys in
    let at = begins ns i c.in_ok-at.at c.loop-x.names.items c.in_ok-at.ensures.at c.loop-x.invariant.names in
    let inside : i < length ns = omega (arith, long ys, c.loop-x-test.true) in
    record {
      headers = header_next ys i _ c.section_header.result c.args.headers.now.items c.loop-x.headers.items
          c.put_header.new.out.items c.loop-x-test.true
          (c.section_header.ensures ns i at) c.loop-x.invariant.headers c.in_ok-put_header.ensures;
      names = string_next ns i _ _ c.loop-x.names.items c.add_name.new.names.items inside
          (own_name ys i _ c.loop-x-test.true) c.loop-x.invariant.names c.in_ok-at.ensures.added;
    }

pub returns-clause-headers : goal.returns-clause-headers
returns-clause-headers c =
    all_headers c.args.sections.now c.loop-x.x-index c.args.headers.now.items c.loop-x.headers.items
    c.loop-x-test.false c.loop-x.invariant.headers
