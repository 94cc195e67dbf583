use Rattle.place_sections.proofs.Common.{AreNoted, Boundary, Err, Global, ItemsAlongside, Vec, ap, arith, drop}
use Rattle.place_sections.proofs.Common.{if◌then◌else◌, inl, inr, item_sections, layout_of, length, length-map, map}
use Rattle.place_sections.proofs.Common.{noted, refl, rows_of, rules, section_of, subst, sym, ◌+◌, ◌∙◌, ◌≡◌}
use Rattle.place_sections.proofs.Alongside.{from_here}
use Rattle.place_sections.proofs.AlongsideItems.{items_go_on, kept_there, next_alongside}
use Rattle.place_sections.proofs.InputNumbers.{item_counts}
use Rattle.place_sections.proofs.Counting.{along_on, entries_fewer, left_at_first, none_placed}
use Rattle.place_sections.proofs.Noting.{all_there, comes_on, is_next, more_by, more_sections, noted_more}
use Rattle.place_sections.proofs.Noting.{stands_at, stops_there}
use Rattle.place_sections.specs.Next.{IsNext}
use Rattle.place_sections.proofs.script.Input.place_items.Goals as goal
use Rattle.place_sections.proofs.script.Input.place_items.Goals.{then-is_output+in_ok-push, else-is_output}

pub loop-number-init : goal.loop-number-init
loop-number-init g c = record {
  here = c.in_ok-resumed.ensures.here;
  noted = c.in_ok-resumed.ensures.noted;
  outputs = c.resume.ensures.outputs;
  script = c.resume.ensures.script;
  taken = c.in_ok-resumed.ensures.all;
  inputs = c.in_ok-resumed.ensures.inputs;
  anew =
      let f = entries_fewer (length c.resume.new.done.sections.list) (map (λ v. v.items) c.args.self.now.rows.now) in
      omega (arith, f, c.resume.ensures.anew);
  resumed =
      let f = left_at_first c.args.self.now c.resume.new.done.sections.list c.in_ok-resumed.ensures.few in
      omega (arith, f, c.resume.ensures.anew);
  added =
      let none = none_placed c.args.self.now.kept.first c.resume.new.done.sections.list c.in_ok-resumed.ensures.few in
      record {
        more = omega arith;
        least = omega (arith, none, c.resume.ensures.anew);
        most = omega (arith, none, c.resume.ensures.anew);
      };
  alongside = λ other some few.
      let same = c.in_ok-resumed.ensures.none other in
      let there : layout_of g.naming c.resume.new.here c.resume.new.done
      ≡ layout_of g.naming c.args.here.now c.args.done.now =
      ap (λ h. layout_of g.naming h c.resume.new.done) same.1
      ∙ ap (λ d. layout_of g.naming c.args.here.now d) same.2 in
      subst (λ s. ItemsAlongside g.naming c.args.self.now c.args.here.now.symbols.script s
      (drop c.in_ok-resumed.resumed.passed c.args.items.now)) (sym there)
      (subst (λ k. ItemsAlongside g.naming c.args.self.now c.args.here.now.symbols.script
      (layout_of g.naming c.args.here.now c.args.done.now) (drop k c.args.items.now)) (sym same.0)
      (c.requires.1.1.1.1.1.0 other some));
}

pub place_item-requires : goal.place_item-requires
place_item-requires g c = (
  subst (λ z. IsNext z (length c.loop-number.done.sections.list) c.index-items-number.result.command)
      (sym c.loop-number.invariant.outputs)
      (is_next g.naming (rows_of g.naming c.args.self.now) c.args.self.now.provided.now
      (layout_of g.naming c.args.here.now c.args.done.now) c.args.items.now c.loop-number.here c.loop-number.done
      c.loop-number.number c.index-items-number.result c.loop-number.invariant.here c.loop-number-test.true
      c.index-items-number.is c.args.done.now.sections.script
      (ap (map (section_of g.naming)) c.requires.0) c.requires.1.1.0),
  (
    next_alongside g.naming c.args.self.now c.args.here.now.symbols.script
        (layout_of g.naming c.loop-number.here c.loop-number.done) c.index-items-number.result
        (drop (c.loop-number.number + 1) c.args.items.now) c.loop-number.done.sections.list refl
        (λ other some few.
        subst (ItemsAlongside g.naming c.args.self.now c.args.here.now.symbols.script
        (layout_of g.naming c.loop-number.here c.loop-number.done))
        (from_here c.args.items.now c.loop-number.number c.index-items-number.result c.loop-number-test.true
        c.index-items-number.is) (c.loop-number.invariant.alongside other some few)),
    (
      kept_there g.naming c.args.self.now c.args.here.now.symbols.script
          (layout_of g.naming c.loop-number.here c.loop-number.done) c.index-items-number.result
          (drop (c.loop-number.number + 1) c.args.items.now) c.loop-number.done.sections.list refl
          (λ same below o is.
          let t = c.loop-number.invariant.taken same in
          let e = c.requires.1.1.1.1.0 same (omega (arith, below)) in
          let all = e.many in
          let more = more_sections g.naming (rows_of g.naming c.args.self.now) c.args.self.now.provided.now
          (layout_of g.naming c.args.here.now c.args.done.now) c.args.items.now c.loop-number.here c.loop-number.done
          c.loop-number.number c.index-items-number.result c.loop-number.invariant.here c.loop-number-test.true
          c.index-items-number.is c.args.done.now.sections.script
          (ap (map (section_of g.naming)) c.requires.0) c.requires.1.1.0 in
          let one = ap (λ z. length (item_sections c.index-items-number.result.line z)) is in
          omega (arith, t, below, all, more, one))
          (λ other some few.
          subst (ItemsAlongside g.naming c.args.self.now c.args.here.now.symbols.script
          (layout_of g.naming c.loop-number.here c.loop-number.done))
          (from_here c.args.items.now c.loop-number.number c.index-items-number.result c.loop-number-test.true
          c.index-items-number.is) (c.loop-number.invariant.alongside other some few)),
      (let l = c.loop-number.invariant.inputs in omega (arith, l, c.loop-number-test.true)),
    ),
  ),
)

pub returns-in_err-place_item-clause-gives : goal.returns-in_err-place_item-clause-gives
returns-in_err-place_item-clause-gives g c =
    let is : c.from_residual-in_err-place_item.result ≡ Err c.in_err-place_item.field-0.0 = search rules in
    stops_there g.naming (rows_of g.naming c.args.self.now) c.args.self.now.provided.now
    (layout_of g.naming c.args.here.now c.args.done.now) c.args.items.now c.loop-number.here c.loop-number.done
    c.loop-number.number c.index-items-number.result c.loop-number.invariant.here c.loop-number-test.true
    c.index-items-number.is (layout_of g.naming c.place_item.new.here c.place_item.new.done)
    c.in_err-place_item.field-0.0 c.from_residual-in_err-place_item.result c.in_err-place_item.ensures.gives is

pub loop-number-preserved : goal.loop-number-preserved
loop-number-preserved g c = record {
  here =
      comes_on g.naming (rows_of g.naming c.args.self.now) c.args.self.now.provided.now
      (layout_of g.naming c.args.here.now c.args.done.now) c.args.items.now c.loop-number.here c.loop-number.done
      c.loop-number.number c.index-items-number.result c.loop-number.invariant.here c.loop-number-test.true
      c.index-items-number.is c.place_item.new.here c.place_item.new.done c.in_ok-place_item.ensures.gives;
  noted =
      let more = more_by g.naming (rows_of g.naming c.args.self.now) c.args.self.now.provided.now
      (layout_of g.naming c.args.here.now c.args.done.now) c.args.items.now c.loop-number.here c.loop-number.done
      c.loop-number.number c.index-items-number.result c.loop-number.invariant.here c.loop-number-test.true
      c.index-items-number.is c.place_item.new.here c.place_item.new.done c.in_ok-place_item.ensures.gives in
      elim c.if-is_output.branch [
        | then-is_output+in_ok-push w ↦
            let one = c.is_output.ensures ∙ ap (λ b. if b then 1 else 0) w.if-is_output.true in
            subst (AreNoted (rows_of g.naming c.args.self.now) c.args.self.now.provided.now
            (layout_of g.naming c.args.here.now c.args.done.now) c.args.items.now c.if-is_output.boundaries.items)
            (omega (arith, more, one))
            (noted_more g.naming (rows_of g.naming c.args.self.now) c.args.self.now.provided.now
            (layout_of g.naming c.args.here.now c.args.done.now) c.args.items.now c.loop-number.here c.loop-number.done
            c.loop-number.number c.loop-number.invariant.here c.loop-number.boundaries.items
            c.if-is_output.boundaries.items w.boundary.result c.loop-number.invariant.noted
            w.boundary.ensures.items w.boundary.ensures.at
            (inl (ap length (stands_at g.naming (rows_of g.naming c.args.self.now) c.args.self.now.provided.now
            (layout_of g.naming c.args.here.now c.args.done.now) c.args.items.now c.loop-number.here c.loop-number.done
            c.loop-number.number c.index-items-number.result c.loop-number.invariant.here c.loop-number-test.true
            c.index-items-number.is) ∙ one))
            (ap (λ (v : Vec Boundary Global). v.items) w.boundaries-is ∙ w.in_ok-push.ensures.items))
        | else-is_output w ↦
            let none = c.is_output.ensures ∙ ap (λ b. if b then 1 else 0) w.if-is_output.false in
            subst (λ (v : Vec Boundary Global). AreNoted (rows_of g.naming c.args.self.now) c.args.self.now.provided.now
            (layout_of g.naming c.args.here.now c.args.done.now) c.args.items.now v.items
            (length c.place_item.new.done.sections.list)) (sym w.boundaries-is)
            (subst (AreNoted (rows_of g.naming c.args.self.now) c.args.self.now.provided.now
            (layout_of g.naming c.args.here.now c.args.done.now) c.args.items.now c.loop-number.boundaries.items)
            (omega (arith, more, none)) c.loop-number.invariant.noted)
      ];
  outputs = c.place_item.ensures.outputs ∙ c.loop-number.invariant.outputs;
  script = c.place_item.ensures.script ∙ c.loop-number.invariant.script;
  inputs =
      let n = item_counts (rows_of g.naming c.args.self.now) c.args.self.now.provided.now
      c.index-items-number.result.line (noted (layout_of g.naming c.loop-number.here c.loop-number.done))
      c.index-items-number.result.command (layout_of g.naming c.place_item.new.here c.place_item.new.done)
      c.in_ok-place_item.ensures.gives in
      omega (arith, n, c.in_ok-place_item.ensures.small, c.loop-number.invariant.inputs);
  taken = λ same.
      let t = c.loop-number.invariant.taken same in
      let more = more_by g.naming (rows_of g.naming c.args.self.now) c.args.self.now.provided.now
      (layout_of g.naming c.args.here.now c.args.done.now) c.args.items.now c.loop-number.here c.loop-number.done
      c.loop-number.number c.index-items-number.result c.loop-number.invariant.here c.loop-number-test.true
      c.index-items-number.is c.place_item.new.here c.place_item.new.done c.in_ok-place_item.ensures.gives in
      omega (arith, t, more);
  anew = omega (arith, c.loop-number.invariant.anew, c.in_ok-place_item.ensures.left);
  resumed = omega (arith, c.loop-number.invariant.resumed, c.in_ok-place_item.ensures.resumed);
  added = along_on _ _ _ _ _ _ c.loop-number.invariant.added c.in_ok-place_item.ensures.added;
  alongside = λ other some few.
      let more = more_by g.naming (rows_of g.naming c.args.self.now) c.args.self.now.provided.now
      (layout_of g.naming c.args.here.now c.args.done.now) c.args.items.now c.loop-number.here c.loop-number.done
      c.loop-number.number c.index-items-number.result c.loop-number.invariant.here c.loop-number-test.true
      c.index-items-number.is c.place_item.new.here c.place_item.new.done c.in_ok-place_item.ensures.gives in
      let long = length-map c.place_item.new.done.sections.list (section_of g.naming) in
      items_go_on g.naming c.args.self.now c.args.here.now.symbols.script
      (layout_of g.naming c.loop-number.here c.loop-number.done) c.index-items-number.result
      (drop (c.loop-number.number + 1) c.args.items.now)
      (subst (ItemsAlongside g.naming c.args.self.now c.args.here.now.symbols.script
      (layout_of g.naming c.loop-number.here c.loop-number.done))
      (from_here c.args.items.now c.loop-number.number c.index-items-number.result c.loop-number-test.true
      c.index-items-number.is) (c.loop-number.invariant.alongside other some (omega (arith, more, few))))
      c.steps_stay_alike.ensures.items c.args.self.now.provided.now
      (layout_of g.naming c.place_item.new.here c.place_item.new.done) c.in_ok-place_item.ensures.gives
      (omega (arith, long, few));
}

pub returns-clause-boundaries : goal.returns-clause-boundaries
returns-clause-boundaries g c =
    (noted_more g.naming (rows_of g.naming c.args.self.now) c.args.self.now.provided.now
    (layout_of g.naming c.args.here.now c.args.done.now) c.args.items.now c.loop-number.here c.loop-number.done
    (length c.args.items.now)
    (all_there g.naming (rows_of g.naming c.args.self.now) c.args.self.now.provided.now
    (layout_of g.naming c.args.here.now c.args.done.now) c.args.items.now c.loop-number.here c.loop-number.done
    c.loop-number.number c.loop-number.invariant.here (omega (arith, c.loop-number-test.false)))
    c.loop-number.boundaries.items c.push-2.new.list.items c.boundary-2.result c.loop-number.invariant.noted
    (omega (arith, c.boundary-2.ensures.items)) c.boundary-2.ensures.at (inr refl) c.in_ok-push-2.ensures.items).all
