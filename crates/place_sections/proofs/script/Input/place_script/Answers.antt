use Rattle.place_sections.proofs.Common.{AreBoundaries, AreOutside, Err, Item, List, Outputs, ap, arith, counts_in}
use Rattle.place_sections.proofs.Common.{item_step, layout_of, length, map, placed_from, rows_of, rules, run}
use Rattle.place_sections.proofs.Common.{section_of, statement_step, subst, sym, ◌∙◌, ◌≡◌}
use Rattle.place_sections.proofs.AlongsideItems.{items_alongside}
use Rattle.place_sections.proofs.Joining.{after_goes, before_stops, earlier_items, items_stop, stops_so}
use Rattle.place_sections.proofs.Following.{are_first}
use Rattle.place_sections.proofs.InputNumbers.{outside_leave}
use Rattle.place_sections.proofs.Outside.{after_outside, before_outside}
use Rattle.place_sections.specs.Next.{AreFirst}
use Rattle.place_sections.specs.State.{fault_of}
use Rattle.place_sections.proofs.Counting.{along_same}
use Rattle.place_sections.proofs.script.Input.place_script.Goals as goal

pub returns-in_err-place_statements-clause-gives : goal.returns-in_err-place_statements-clause-gives
returns-in_err-place_statements-clause-gives g c =
    let is : c.from_residual.result ≡ Err c.in_err-place_statements.field-0.0 = search rules in
    stops_so
    (run (statement_step (rows_of g.naming c.args.self.now) c.args.self.now.provided.now)
    (layout_of g.naming c.args.here.now c.args.done.now) c.of-parts.result.before.now) _ _ c.from_residual.result
    c.in_err-place_statements.field-0.0 c.in_err-place_statements.ensures.gives
    (λ e. before_stops (rows_of g.naming c.args.self.now) c.args.self.now.provided.now c.args.statements.now
    (layout_of g.naming c.args.here.now c.args.done.now) (fault_of c.in_err-place_statements.field-0.0)
    (ap (run (statement_step (rows_of g.naming c.args.self.now) c.args.self.now.provided.now)
    (layout_of g.naming c.args.here.now c.args.done.now)) (sym c.of-parts.ensures.before) ∙ e)) is

pub place_statements-requires : goal.place_statements-requires
place_statements-requires g c =
    subst AreOutside (sym c.of-parts.ensures.before) (before_outside c.args.statements.now)

pub place_statements-requires-2 : goal.place_statements-requires-2
place_statements-requires-2 g c =
    subst AreOutside (sym c.of-parts.ensures.after) (after_outside c.args.statements.now c.requires.1.1.1.1.1.1.0)

pub place_items-requires : goal.place_items-requires
place_items-requires g c = (
  ap (λ (z : Outputs). z.list) c.place_statements.ensures.sections ∙ c.requires.0,
  (
    ap (λ (z : Outputs). z.placed) c.place_statements.ensures.sections ∙ c.requires.1.0,
    (
      subst (λ z. AreFirst z c.of-parts.result.items.now)
          (sym (ap (λ (z : Outputs). z.script) c.place_statements.ensures.sections ∙ c.requires.1.1.0))
          (subst (AreFirst c.args.statements.now) (sym c.of-parts.ensures.items) (are_first c.args.statements.now)),
      (
        ap (λ (z : Outputs). z.earlier) c.place_statements.ensures.sections ∙ c.requires.1.1.1.0,
        (
          λ same some. earlier_items g.naming c.args.self.now c.args.here.now.symbols.script
              c.place_statements.new.here.symbols.script (layout_of g.naming c.args.here.now c.args.done.now)
              (layout_of g.naming c.place_statements.new.here c.place_statements.new.done) c.args.statements.now
              c.of-parts.result.items.now c.place_statements.ensures.script c.of-parts.ensures.items
              (ap (run (statement_step (rows_of g.naming c.args.self.now) c.args.self.now.provided.now)
              (layout_of g.naming c.args.here.now c.args.done.now)) (sym c.of-parts.ensures.before)
              ∙ c.in_ok-place_statements.ensures.gives) (c.requires.1.1.1.1.0 same some),
          (
            λ other some. items_alongside g.naming c.args.self.now c.args.here.now.symbols.script
                c.place_statements.new.here.symbols.script (layout_of g.naming c.args.here.now c.args.done.now)
                (layout_of g.naming c.place_statements.new.here c.place_statements.new.done) c.args.statements.now
                c.of-parts.result.items.now c.steps_stay_alike.ensures.statements c.place_statements.ensures.script
                c.of-parts.ensures.items
                (ap (run (statement_step (rows_of g.naming c.args.self.now) c.args.self.now.provided.now)
                (layout_of g.naming c.args.here.now c.args.done.now)) (sym c.of-parts.ensures.before)
                ∙ c.in_ok-place_statements.ensures.gives)
                (let none = ap (λ (z : Outputs). length (map (section_of g.naming) z.list))
                c.place_statements.ensures.sections
                ∙ ap (λ l. length (map (section_of g.naming) l)) c.requires.0 in omega (arith, none))
                (c.requires.1.1.1.1.1.0 other some),
            outside_leave (rows_of g.naming c.args.self.now) c.args.self.now.provided.now c.of-parts.result.before.now
                (layout_of g.naming c.args.here.now c.args.done.now)
                (layout_of g.naming c.place_statements.new.here c.place_statements.new.done)
                (subst AreOutside (sym c.of-parts.ensures.before) (before_outside c.args.statements.now))
                c.in_ok-place_statements.ensures.gives ∙ c.requires.1.1.1.1.1.1.1,
          ),
        ),
      ),
    ),
  ),
)

pub returns-in_err-boundaries-clause-gives : goal.returns-in_err-boundaries-clause-gives
returns-in_err-boundaries-clause-gives g c =
    let is : c.from_residual-in_err-boundaries.result ≡ Err c.in_err-boundaries.field-0.0 = search rules in
    stops_so
    (run (item_step (rows_of g.naming c.args.self.now) c.args.self.now.provided.now)
    (layout_of g.naming c.place_statements.new.here c.place_statements.new.done) c.of-parts.result.items.now) _ _
    c.from_residual-in_err-boundaries.result c.in_err-boundaries.field-0.0 c.in_err-boundaries.ensures.gives
    (λ e. items_stop (rows_of g.naming c.args.self.now) c.args.self.now.provided.now c.args.statements.now
    (layout_of g.naming c.args.here.now c.args.done.now)
    (layout_of g.naming c.place_statements.new.here c.place_statements.new.done)
    (fault_of c.in_err-boundaries.field-0.0)
    (ap (run (statement_step (rows_of g.naming c.args.self.now) c.args.self.now.provided.now)
    (layout_of g.naming c.args.here.now c.args.done.now)) (sym c.of-parts.ensures.before)
    ∙ c.in_ok-place_statements.ensures.gives)
    (ap (run (item_step (rows_of g.naming c.args.self.now) c.args.self.now.provided.now)
    (layout_of g.naming c.place_statements.new.here c.place_statements.new.done)) (sym c.of-parts.ensures.items) ∙ e))
    is

pub returns-in_err-place_statements-2-clause-gives : goal.returns-in_err-place_statements-2-clause-gives
returns-in_err-place_statements-2-clause-gives g c =
    let is : c.from_residual-in_err-place_statements-2.result ≡ Err c.in_err-place_statements-2.field-0.0 = search rules
    in
    stops_so
    (run (statement_step (rows_of g.naming c.args.self.now) c.args.self.now.provided.now)
    (layout_of g.naming c.place_items.new.here c.place_items.new.done) c.of-parts.result.after.now) _ _
    c.from_residual-in_err-place_statements-2.result c.in_err-place_statements-2.field-0.0
    c.in_err-place_statements-2.ensures.gives
    (λ e.
    after_goes (rows_of g.naming c.args.self.now) c.args.self.now.provided.now c.args.statements.now
    (layout_of g.naming c.args.here.now c.args.done.now)
    (layout_of g.naming c.place_statements.new.here c.place_statements.new.done)
    (layout_of g.naming c.place_items.new.here c.place_items.new.done)
    (ap (run (statement_step (rows_of g.naming c.args.self.now) c.args.self.now.provided.now)
    (layout_of g.naming c.args.here.now c.args.done.now)) (sym c.of-parts.ensures.before)
    ∙ c.in_ok-place_statements.ensures.gives)
    (ap (run (item_step (rows_of g.naming c.args.self.now) c.args.self.now.provided.now)
    (layout_of g.naming c.place_statements.new.here c.place_statements.new.done)) (sym c.of-parts.ensures.items)
    ∙ c.in_ok-boundaries.ensures.gives)
    ∙ (ap (run (statement_step (rows_of g.naming c.args.self.now) c.args.self.now.provided.now)
    (layout_of g.naming c.place_items.new.here c.place_items.new.done)) (sym c.of-parts.ensures.after)
    ∙ e)) is

pub returns-clause-gives : goal.returns-clause-gives
returns-clause-gives g c =
    after_goes (rows_of g.naming c.args.self.now) c.args.self.now.provided.now c.args.statements.now
    (layout_of g.naming c.args.here.now c.args.done.now)
    (layout_of g.naming c.place_statements.new.here c.place_statements.new.done)
    (layout_of g.naming c.place_items.new.here c.place_items.new.done)
    (ap (run (statement_step (rows_of g.naming c.args.self.now) c.args.self.now.provided.now)
    (layout_of g.naming c.args.here.now c.args.done.now)) (sym c.of-parts.ensures.before)
    ∙ c.in_ok-place_statements.ensures.gives)
    (ap (run (item_step (rows_of g.naming c.args.self.now) c.args.self.now.provided.now)
    (layout_of g.naming c.place_statements.new.here c.place_statements.new.done)) (sym c.of-parts.ensures.items)
    ∙ c.in_ok-boundaries.ensures.gives)
    ∙ (ap (run (statement_step (rows_of g.naming c.args.self.now) c.args.self.now.provided.now)
    (layout_of g.naming c.place_items.new.here c.place_items.new.done)) (sym c.of-parts.ensures.after)
    ∙ c.in_ok-place_statements-2.ensures.gives)

pub returns-clause-boundaries : goal.returns-clause-boundaries
returns-clause-boundaries g c = record {
  start = layout_of g.naming c.place_statements.new.here c.place_statements.new.done;
  comes = ap (run (statement_step (rows_of g.naming c.args.self.now) c.args.self.now.provided.now)
      (layout_of g.naming c.args.here.now c.args.done.now)) (sym c.of-parts.ensures.before)
      ∙ c.in_ok-place_statements.ensures.gives;
  all = subst (λ (items : List Item). AreBoundaries (rows_of g.naming c.args.self.now) c.args.self.now.provided.now
      (layout_of g.naming c.place_statements.new.here c.place_statements.new.done) items
      c.in_ok-boundaries.boundaries.items) c.of-parts.ensures.items c.in_ok-boundaries.ensures.boundaries;
}

pub returns-clause-added : goal.returns-clause-added
returns-clause-added g c =
    along_same _ _ _ _ _ _ c.in_ok-boundaries.ensures.added c.place_statements-2.ensures.anew
    (ap (λ (z : Outputs). placed_from c.args.self.now.kept.first (counts_in z.list))
    c.place_statements-2.ensures.sections)
    (sym c.place_statements.ensures.anew)
