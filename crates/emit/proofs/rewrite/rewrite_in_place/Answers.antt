use Rattle.emit.proofs.Common.{All, AreWritten, Bytes, Counts, Fields, IsBare, LinkedSection, ObjectData, ap, bytes_of}
use Rattle.emit.proofs.Common.{count_of, evaluations, fault_at, filter_map, find, image, raised, slice_get, subst}
use Rattle.emit.proofs.Common.{sum_by, sym, written_all, ◌==◌, ◌∙◌}
use Rattle.emit.proofs.Faults.{none_of_object, still_none}
use Rattle.emit.proofs.Images.{new_image, no_fault}
use Rattle.emit.proofs.Planning.{all_count}
use Rattle.emit.proofs.Sites.{spots_have_sites}
use Rattle.emit.proofs.rewrite.rewrite_in_place.Goals as goal

pub returns-in-None-clause-counted_refused : goal.returns-in-None-clause-counted_refused
returns-in-None-clause-counted_refused c = λ done l o named same row has.
    let h = (rw c.in-None.is at c.in_ok-plan.ensures.none) l o (record { named = named; same = same; row = row }) in
    (h.evaluated, h.counted)

pub returns-in-None-clause-refused_faulty : goal.returns-in-None-clause-refused_faulty
returns-in-None-clause-refused_faulty c = λ done l o named same row has none.
    let h = (rw c.in-None.is at c.in_ok-plan.ensures.none) l o (record { named = named; same = same; row = row }) in
    h.faulty
    (ap (λ ts. filter_map (fault_at l) ts) (spots_have_sites l.project l.layout o c.args.located.now has)
    ∙ none_of_object l.project l.layout (l.number c.args.place.0) o named none)

pub returns-in-Some-clause-image : goal.returns-in-Some-clause-image
returns-in-Some-clause-image c = λ done old l o h same row has start.
    let all = (rw c.in-Some.is at c.in_ok-plan.ensures.planned) l o
    (record { named = h.object_is; same = same; row = row }) in
    let bare : All IsBare o.object.sections =
    subst (λ (r : ObjectData). All IsBare r.sections) (sym same) c.nobits_are_bare.ensures in
    let over : AreWritten (written_all c.in-Some.plan.items) (image old l.layout) c.write_plan.new.canvas.bytes =
    subst (λ bytes. AreWritten (written_all c.in-Some.plan.items) bytes c.write_plan.new.canvas.bytes) start
    (subst (λ rs. AreWritten (written_all rs) c.args.canvas.now.bytes c.write_plan.new.canvas.bytes)
    c.deref.ensures.value
    c.write_plan.ensures.written) in
    new_image old l c.args.place o h c.args.located.now has (written_all c.in-Some.plan.items) all.0 bare
    (λ j x is. ap (λ (r : ObjectData). find (λ (y : LinkedSection). y.number.0 == x.number.0) r.sections) same
    ∙ c.numbers_differ.ensures j x (ap (λ (r : ObjectData). slice_get r.sections j) (sym same) ∙ is))
    c.write_plan.new.canvas.bytes over

pub returns-in-Some-clause-faultless : goal.returns-in-Some-clause-faultless
returns-in-Some-clause-faultless c = λ done old l o h same row has none.
    let all = (rw c.in-Some.is at c.in_ok-plan.ensures.planned) l o
    (record { named = h.object_is; same = same; row = row }) in
    still_none old l.project l.layout (l.number c.args.place.0) o h.rewritten h.frame h.object_is none
    (no_fault l o c.args.located.now (written_all c.in-Some.plan.items) all.0 has)

pub returns-in-Some-clause-counted : goal.returns-in-Some-clause-counted
returns-in-Some-clause-counted c = λ done l o named same row has.
    let all = (rw c.in-Some.is at c.in_ok-plan.ensures.planned) l o
    (record { named = named; same = same; row = row }) in
    c.write_plan.ensures.counted
    ∙ ap (λ n. raised c.plan.new.meter Bytes n)
    (ap (λ rs. sum_by count_of (written_all rs)) c.deref.ensures.value
    ∙ all_count l o c.args.located.now (written_all c.in-Some.plan.items) all.0
    ∙ ap (λ r. sum_by (bytes_of r) c.args.located.now) same)
    ∙ ap (λ (m : Counts). raised m Bytes (sum_by (bytes_of c.args.object.now) c.args.located.now))
    (all.1 ∙ ap (λ ss. raised c.args.meter.now Fields (evaluations l ss))
    (spots_have_sites l.project l.layout o c.args.located.now has))
