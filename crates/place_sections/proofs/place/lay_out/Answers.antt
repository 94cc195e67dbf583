use Rattle.place_sections.proofs.Common.{IsSound, KeyedSection, List, PlacedOutputs, Statement, ap, arith, entries, inl}
use Rattle.place_sections.proofs.Common.{inr, layout_of, map, placed_from, provided_names, refl, rows_named, run}
use Rattle.place_sections.proofs.Common.{statement_step, subst, sym, ℕ, ◌∙◌}
use Rattle.place_sections.proofs.Counting.{along_same, first_is, raises_exactly}
use Rattle.place_sections.proofs.Wholes.{counts_whole}
use Rattle.place_sections.proofs.NoOverlaps.{begins, nothing_there, stops_at}
use Rattle.place_sections.proofs.Keeping.{kept_alongside, kept_earlier}
use Rattle.place_sections.proofs.Options.{by_option, for_some}
use Rattle.place_sections.proofs.place.lay_out.Goals as goal

pub returns-clause-faulty : goal.returns-clause-faulty
returns-clause-faulty g c =
    stops_at c.args.script.now (rows_named g.naming (map (λ v. v.items) c.args.rows.now))
    (provided_names c.args.script.now c.args.provided.now) c.in-Err.stop c.reported.result
    (elim c.in-Err.ensures.gives [
      | inl h ↦ inl (sym (begins g.naming c.in_ok-here.here
          (record { sections = c.in_ok-sections.sections; regions = c.new-regions.result })
          (rows_named g.naming (map (λ v. v.items) c.args.rows.now))
          (provided_names c.args.script.now c.args.provided.now) c.args.script.now
          c.in_ok-here.ensures.dot c.in_ok-here.ensures.dots c.in_ok-here.ensures.inputs c.in_ok-here.ensures.symbols
          c.in_ok-sections.ensures.none c.new-regions.ensures)
          ∙ (ap (λ (ps : List (List ℕ)).
          run (statement_step (rows_named g.naming (map (λ v. v.items) c.args.rows.now)) ps)
          (layout_of g.naming c.in_ok-here.here
          (record { sections = c.in_ok-sections.sections; regions = c.new-regions.result })) c.args.script.now)
          (sym c.in_ok-in_force.ensures)
          ∙ (ap (λ (xs : List Statement).
          run (statement_step (rows_named g.naming (map (λ v. v.items) c.args.rows.now)) c.in_ok-in_force.in_force)
          (layout_of g.naming c.in_ok-here.here
          (record { sections = c.in_ok-sections.sections; regions = c.new-regions.result })) xs)
          (sym c.statements.ensures.value)
          ∙ h)))
      | inr m ↦ inr m
    ])
    c.reported.ensures.fault c.reported.ensures.memory

pub returns-in-Ok-clause-resumed : goal.returns-in-Ok-clause-resumed
returns-in-Ok-clause-resumed g c =
    for_some c.args.kept _ _ c.new-kept.ensures.some
    (λ k keeps kept. inr (
      c.place_script-laid.new.here.anew,
      (let e = ap (λ j. entries j (map (λ v. v.items) c.args.rows.now)) keeps.first_is in
          omega (arith, e, c.in-Ok.ensures.resumed, c.in_ok-here.ensures.anew)),
      c.raise.ensures,
    ))

pub place_script-laid-requires : goal.place_script-laid-requires
place_script-laid-requires g c =
    let d : PlacedOutputs = record { sections = c.in_ok-sections.sections; regions = c.new-regions.result } in (
      c.in_ok-sections.ensures.none,
      (
        c.in_ok-sections.ensures.placed,
        (
          c.in_ok-sections.ensures.script ∙ sym c.statements.ensures.value,
          (
            c.in_ok-sections.ensures.earlier,
            (
              λ same some. by_option c.args.kept _ _ _ _ c.requires c.new-kept.ensures.some c.new-kept.ensures.none
                  (λ k kept keeps.
                  kept_earlier g.naming _ c.args.script.now k.placement.now k.first_row c.args.provided.now kept keeps
                  c.in_ok-here.here.symbols.script c.statements.result.now (layout_of g.naming c.in_ok-here.here d)
                  c.in_ok-here.ensures.script c.statements.ensures.value
                  (nothing_there g.naming c.in_ok-here.here d c.in_ok-here.ensures.dot c.in_ok-here.ensures.dots
                  c.in_ok-here.ensures.inputs c.in_ok-here.ensures.symbols c.in_ok-sections.ensures.none
                  c.new-regions.ensures) c.in_ok-in_force.ensures same)
                  (λ none. absurd (omega (arith, none, some))),
              (
                λ other some. by_option c.args.kept _ _ _ _ c.requires c.new-kept.ensures.some c.new-kept.ensures.none
                    (λ k kept keeps.
                    kept_alongside g.naming _ c.args.script.now k.placement.now k.first_row c.args.provided.now kept
                    keeps c.in_ok-here.here.symbols.script c.statements.result.now
                    (layout_of g.naming c.in_ok-here.here d) c.in_ok-here.ensures.script c.statements.ensures.value
                    (nothing_there g.naming c.in_ok-here.here d c.in_ok-here.ensures.dot c.in_ok-here.ensures.dots
                    c.in_ok-here.ensures.inputs c.in_ok-here.ensures.symbols c.in_ok-sections.ensures.none
                    c.new-regions.ensures)
                    (c.steps_stay_alike.ensures.begun c.args.script.now c.statements.ensures.sound))
                    (λ none. absurd (omega (arith, none, some))),
                (
                  subst IsSound (sym c.statements.ensures.value) c.statements.ensures.sound,
                  c.in_ok-here.ensures.inputs,
                ),
              ),
            ),
          ),
        ),
      ),
    )

pub returns-in-Ok-clause-exact : goal.returns-in-Ok-clause-exact
returns-in-Ok-clause-exact g c =
    let list : List KeyedSection = c.place_script-laid.new.done.sections.list in
    let first = first_is c.args.kept c.new-kept.result.first
    (for_some c.args.kept _ _ c.new-kept.ensures.some (λ k keeps. keeps.first_is)) c.new-kept.ensures.none in
    let counts = c.in_ok-whole-in-Ok.ensures.places.counts ∙ sym (counts_whole g.naming list) in
    raises_exactly _ _ c.place_script-laid.new.here.anew _
    (along_same _ _ _ _ _ _ c.in-Ok.ensures.added refl
    (ap (λ (k : ℕ). placed_from k c.in_ok-whole-in-Ok.field-0.counts) (sym first)
    ∙ ap (λ (ns : List ℕ). placed_from c.new-kept.result.first ns) counts)
    (sym c.in_ok-here.ensures.anew))
    c.raise.ensures
