use Rattle.place_sections.proofs.Common.{Boundary, List, Some, ap, arith, item_step, layout_of, length, map, refl}
use Rattle.place_sections.proofs.Common.{rows_of, rules, section_of, slice_get, slice_get_read, ◌+◌, ◌<◌, ◌∙◌, ◌≡◌}
use Rattle.place_sections.proofs.Resuming.{all_noted, goes_on, items_within, may_be_taken}
use Rattle.place_sections.proofs.Resuming.{none_reached, reached_on, taken_next}
use Rattle.place_sections.proofs.Runs.{run_none}
use Rattle.place_sections.proofs.script.Input.resume.Goals as goal

pub returns-in_default-clause-here : goal.returns-in_default-clause-here
returns-in_default-clause-here g c =
    run_none (item_step (rows_of g.naming c.args.self.now) c.args.self.now.provided.now)
    (layout_of g.naming c.args.here.now c.args.done.now)

pub loop-number-init : goal.loop-number-init
loop-number-init g c = record {
  reached = λ e. none_reached g.naming c.args.self.now c.args.here.now c.args.items.now e.rows c.args.done.now
      c.requires.0;
  outputs = search rules;
  kept = search rules;
  placed = c.requires.1.0;
}

pub take_section-requires : goal.take_section-requires
take_section-requires g c = record {
  kept = c.loop-number.invariant.kept ∙ c.requires.1.1.1.0;
  there =
      let e = c.requires.1.1.1.1.0 c.in-Some.ensures.same c.in-Some.ensures.first.0 in
      let bs : List Boundary = c.args.self.now.kept.boundaries.now in
      let b = c.in-Some.ensures.boundary in
      let f = c.in-Some.ensures.first.1 in
      let inside : c.loop-number.number < length bs = omega (arith, c.loop-number-test.true, b) in
      let inside_next : c.loop-number.number + 1 < length bs = omega (arith, c.loop-number-test.true, b) in
      may_be_taken g.naming c.args.self.now c.args.here.now.symbols.script
      (layout_of g.naming c.args.here.now c.args.done.now) c.args.items.now e
      c.index-boundaries-number.result c.loop-number.number
      (slice_get_read bs (length bs) c.loop-number.number c.index-boundaries-number.result refl inside
      c.index-boundaries-number.is)
      c.index-boundaries-number-in-loop-number.result
      (slice_get_read bs (length bs) (c.loop-number.number + 1) c.index-boundaries-number-in-loop-number.result refl
      inside_next c.index-boundaries-number-in-loop-number.is)
      (omega (arith, c.loop-number-test.true, f)) c.loop-number.done (c.loop-number.invariant.reached e)
      c.loop-number.invariant.placed (c.loop-number.invariant.kept ∙ c.requires.1.1.1.0);
  next =
      let e = c.requires.1.1.1.1.0 c.in-Some.ensures.same c.in-Some.ensures.first.0 in
      let bs : List Boundary = c.args.self.now.kept.boundaries.now in
      let inside : c.loop-number.number < length bs =
      (let b = c.in-Some.ensures.boundary in omega (arith, c.loop-number-test.true, b)) in
      taken_next g.naming c.args.self.now c.args.here.now.symbols.script
      (layout_of g.naming c.args.here.now c.args.done.now) c.args.items.now e
      c.index-boundaries-number.result c.loop-number.number
      (slice_get_read bs (length bs) c.loop-number.number c.index-boundaries-number.result refl inside
      c.index-boundaries-number.is)
      c.args.done.now.sections.script
      (ap (map (section_of g.naming)) c.requires.0) c.requires.1.1.0 c.loop-number.done
      (c.loop-number.invariant.reached e) c.loop-number.invariant.outputs;
}

pub loop-number-preserved : goal.loop-number-preserved
loop-number-preserved g c = record {
  reached = λ e.
      let bs : List Boundary = c.args.self.now.kept.boundaries.now in
      let b = c.in-Some.ensures.boundary in
      let f = c.in-Some.ensures.first.1 in
      let inside : c.loop-number.number < length bs = omega (arith, c.loop-number-test.true, b) in
      let inside_next : c.loop-number.number + 1 < length bs = omega (arith, c.loop-number-test.true, b) in
      reached_on g.naming c.args.self.now c.args.here.now.symbols.script
      (layout_of g.naming c.args.here.now c.args.done.now) c.args.items.now e
      c.index-boundaries-number.result c.loop-number.number
      (slice_get_read bs (length bs) c.loop-number.number c.index-boundaries-number.result refl inside
      c.index-boundaries-number.is)
      c.index-boundaries-number-in-loop-number.result
      (slice_get_read bs (length bs) (c.loop-number.number + 1) c.index-boundaries-number-in-loop-number.result refl
      inside_next c.index-boundaries-number-in-loop-number.is)
      (omega (arith, c.loop-number-test.true, f))
      c.loop-number.done c.take_section.new.done (c.loop-number.invariant.reached e)
      c.in_ok-take_section.ensures.takes;
  outputs = c.in_ok-take_section.ensures.outputs ∙ c.loop-number.invariant.outputs;
  kept = c.in_ok-take_section.ensures.kept ∙ c.loop-number.invariant.kept;
  placed = c.in_ok-take_section.ensures.placed ∙ c.loop-number.invariant.placed;
}

pub returns-clause-few : goal.returns-clause-few
returns-clause-few g c =
    let r = c.loop-number.invariant.reached (c.requires.1.1.1.1.0 c.in-Some.ensures.same c.in-Some.ensures.first.0) in
    let m = r.many in
    let f = c.in-Some.ensures.first.1 in
    omega (arith, m, f, c.loop-number-test.false, c.loop-number.auto.number-end)

pub returns-clause-here : goal.returns-clause-here
returns-clause-here g c =
    let e = c.requires.1.1.1.1.0 c.in-Some.ensures.same c.in-Some.ensures.first.0 in
    let bs : List Boundary = c.args.self.now.kept.boundaries.now in
    let end : c.loop-number.number ≡ c.in-Some.count =
    omega (arith, c.loop-number-test.false, c.loop-number.auto.number-end) in
    let f = c.in-Some.ensures.first.1 in
    let b = c.in-Some.ensures.boundary in
    let there : slice_get bs c.loop-number.number ≡ Some c.index-boundaries-count.result =
    ap (slice_get bs) end ∙ slice_get_read bs (length bs) c.in-Some.count c.index-boundaries-count.result refl b
    c.index-boundaries-count.is in
    goes_on g.naming c.args.self.now c.args.here.now.symbols.script
    (layout_of g.naming c.args.here.now c.args.done.now) c.args.items.now e
    c.index-boundaries-count.result c.loop-number.number there
    c.go_on.new.self c.loop-number.done (omega (arith, end, f)) (c.loop-number.invariant.reached e)
    c.go_on.ensures.script c.in_ok-go_on.ensures.dot c.in_ok-go_on.ensures.dots
    c.in_ok-go_on.ensures.inputs c.in_ok-go_on.ensures.symbols

pub returns-clause-noted : goal.returns-clause-noted
returns-clause-noted g c =
    let e = c.requires.1.1.1.1.0 c.in-Some.ensures.same c.in-Some.ensures.first.0 in
    let r = c.loop-number.invariant.reached e in
    let m = r.many in
    let end : c.loop-number.number ≡ c.in-Some.count =
    omega (arith, c.loop-number-test.false, c.loop-number.auto.number-end) in
    all_noted g.naming c.args.self.now c.args.here.now.symbols.script
    (layout_of g.naming c.args.here.now c.args.done.now) c.args.items.now e c.in-Some.count
    c.in-Some.ensures.first.1 c.in_ok-copy_of.field-0.items (length c.loop-number.done.sections.list)
    c.in_ok-copy_of.ensures c.in-Some.ensures.boundary (m ∙ end)

pub returns-clause-all : goal.returns-clause-all
returns-clause-all g c = λ same.
    let r = c.loop-number.invariant.reached (c.requires.1.1.1.1.0 c.in-Some.ensures.same c.in-Some.ensures.first.0) in
    let m = r.many in
    let a = c.in-Some.ensures.all in
    omega (arith, m, a, c.loop-number-test.false, c.loop-number.auto.number-end)

pub returns-in_default-clause-inputs : goal.returns-in_default-clause-inputs
returns-in_default-clause-inputs g c = let none = c.requires.1.1.1.1.1 in omega (arith, none)

pub returns-clause-inputs : goal.returns-clause-inputs
returns-clause-inputs g c =
    let few = c.index-boundaries-count.result.few in
    omega (arith, few, c.in_ok-go_on.ensures.inputs)

pub returns-clause-within : goal.returns-clause-within
returns-clause-within g c =
    let bs : List Boundary = c.args.self.now.kept.boundaries.now in
    items_within g.naming c.args.self.now c.args.here.now.symbols.script
    (layout_of g.naming c.args.here.now c.args.done.now) c.args.items.now
    (c.requires.1.1.1.1.0 c.in-Some.ensures.same c.in-Some.ensures.first.0)
    c.index-boundaries-count.result c.in-Some.count
    (slice_get_read bs (length bs) c.in-Some.count c.index-boundaries-count.result refl c.in-Some.ensures.boundary
    c.index-boundaries-count.is)
