use Rattle.relink_driver.proofs.Common.{IsPassEnd, Link, ap, arith, assertion_faults, err_from_is_err_and, faults_in}
use Rattle.relink_driver.proofs.Common.{good, relocation_faults, subst, sym, unless, ◌∙◌}
use Rattle.relink_driver.proofs.Beside.{evaluated_at, known_beside}
use Rattle.relink_driver.proofs.Reading.{ends_reading}
use Rattle.relink_driver.proofs.EarlyEnds.{none_of}
use Rattle.relink_driver.proofs.passes.evaluate_relocations.Goals as goal

pub returns-clause-good : goal.returns-clause-good
returns-clause-good c =
    let p = c.args.context.project.now in
    let h = c.requires.short.placed.known in
    let s = h.layout in
    let b = known_beside p _ _ _ _ c.args.symbols.now _ _ _ c.requires.short
    (omega (arith, c.fields-fields.type_inv, c.fields-fields.ensures)) (c.requires.beside s h.link_layout)
    (c.requires.symbols s h.link_layout) c.inputs-inputs.ensures.distinct c.in_ok-relocated.ensures
    c.is_complete.ensures.complete c.is_complete.ensures.none in
    let same = ap (faults_in p) c.deref.ensures.value ∙ b.faults in
    let new = c.faultless_link_is_good.ensures s h.link_layout c.requires.short.length
    (none_of (relocation_faults p s) (λ next. c.in_ok-end_if_faulty.ensures.good (relocation_faults p s) next same)) in
    record {
      known_by = c.args.view.now;
      short = c.requires.short;
      names = c.inputs-inputs.ensures.distinct;
      beside = c.requires.beside s h.link_layout;
      fields = b.fields;
      patches = b.patches new;
      good = new;
      rest = c.requires.short.rest
          ∙ c.in_ok-end_if_faulty.ensures.good (relocation_faults p s) (unless (assertion_faults p s) (good p s)) same;
    }

pub returns-in_err-end_if_faulty-clause-stop : goal.returns-in_err-end_if_faulty-clause-stop
returns-in_err-end_if_faulty-clause-stop c =
    let p = c.args.context.project.now in
    let h = c.requires.short.placed.known in
    let s = h.layout in
    let b = known_beside p _ _ _ _ c.args.symbols.now _ _ _ c.requires.short
    (omega (arith, c.fields-fields.type_inv, c.fields-fields.ensures)) (c.requires.beside s h.link_layout)
    (c.requires.symbols s h.link_layout) c.inputs-inputs.ensures.distinct c.in_ok-relocated.ensures
    c.is_complete.ensures.complete c.is_complete.ensures.none in
    let e = err_from_is_err_and c.from_residual-in_err-end_if_faulty.result
    c.from_residual-in_err-end_if_faulty.ensures.1 in
    rw (e.1, e.2)
    (subst (λ (l : Link). IsPassEnd l c.in_err-end_if_faulty.field-0.0) (sym c.requires.short.rest)
    (c.in_err-end_if_faulty.ensures.stop (relocation_faults p s) (unless (assertion_faults p s) (good p s))
    (ap (faults_in p) c.deref.ensures.value ∙ b.faults)))

pub returns-clause-reads : goal.returns-clause-reads
returns-clause-reads c =
    let h = c.requires.short.placed.known in
    let b = known_beside _ _ _ _ _ c.args.symbols.now _ _ _ c.requires.short
    (omega (arith, c.fields-fields.type_inv, c.fields-fields.ensures)) (c.requires.beside h.layout h.link_layout)
    (c.requires.symbols h.layout h.link_layout) c.inputs-inputs.ensures.distinct c.in_ok-relocated.ensures
    c.is_complete.ensures.complete c.is_complete.ensures.none in
    b.reads

pub returns-clause-counted : goal.returns-clause-counted
returns-clause-counted c =
    let k = c.requires.short.placed.known in
    let b = known_beside _ _ _ _ _ c.args.symbols.now _ _ _ c.requires.short
    (omega (arith, c.fields-fields.type_inv, c.fields-fields.ensures)) (c.requires.beside k.layout k.link_layout)
    (c.requires.symbols k.layout k.link_layout) c.inputs-inputs.ensures.distinct c.in_ok-relocated.ensures
    c.is_complete.ensures.complete c.is_complete.ensures.none in
    evaluated_at _ _ _ _ _ k.layout k.link_layout b.counted

pub returns-in_err-end_if_faulty-clause-early : goal.returns-in_err-end_if_faulty-clause-early
returns-in_err-end_if_faulty-clause-early c =
    let h = c.requires.short.placed.known in
    let b = known_beside _ _ _ _ _ c.args.symbols.now _ _ _ c.requires.short
    (omega (arith, c.fields-fields.type_inv, c.fields-fields.ensures)) (c.requires.beside h.layout h.link_layout)
    (c.requires.symbols h.layout h.link_layout) c.inputs-inputs.ensures.distinct c.in_ok-relocated.ensures
    c.is_complete.ensures.complete c.is_complete.ensures.none in
    let e = err_from_is_err_and c.from_residual-in_err-end_if_faulty.result
    c.from_residual-in_err-end_if_faulty.ensures.1 in
    rw (e.1, e.2) (ends_reading _ _ c.in_err-end_if_faulty.field-0.0 b.reads)
