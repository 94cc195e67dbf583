use Rattle.gather.proofs.Common.{Contains, Contains-get_or, Contains-push, Graph, IsIn, IsLive, IsMarked, List, []}
use Rattle.gather.proofs.Common.{arith, below_more, from_live, from_root, get_or, graph_of, length, nil_from_length}
use Rattle.gather.proofs.Common.{refl, subst, sym, ℕ, ◌<◌, ◌↔◌, ◌∙◌, ◌≡◌}
use Rattle.gather.proofs.Marks.{visited, Visited, marks_pop, marks_done, marks_end, marked_within, leads_in, leads_out}
use Rattle.gather.proofs.Marks.{AreTargets, Marks, each_contained}
use Rattle.gather.proofs.marking.reach.Goals as goal

pub loop-root-preserved : goal.loop-root-preserved
loop-root-preserved g c =
    let w : Graph = graph_of c.args.out.now c.args.roots.now (g.R.References.refers c.args.references.now) in
    let i = c.loop-root.root-index in
    let in' : i < length c.args.roots.now = c.loop-root-test.true in
    let next = get_or c.args.roots.now i 0 in
    let v : Visited w c.loop-root.live.items c.loop-root.stack.items (length w.out) next c.visit.new.live.items
    c.visit.new.stack.items =
    visited w _ _ _ next _ _ c.loop-root.invariant.marks (λ h.
    from_root next (Contains-get_or c.args.roots.now i 0 in') h) c.in_ok-visit.ensures in
    record {
      marks = v.marks;
      roots = below_more _ _ (λ k h o. v.kept _ (c.loop-root.invariant.roots k h o)) v.marked;
    }

pub loop-section-init : goal.loop-section-init
loop-section-init g c =
    let w : Graph = graph_of c.args.out.now c.args.roots.now (g.R.References.refers c.args.references.now) in
    record {
      marks = c.loop-root.invariant.marks;
      roots = each_contained c.args.roots.now (λ r. IsIn w r → IsMarked c.loop-root.live.items r) (λ k h.
          c.loop-root.invariant.roots k (omega (arith, c.loop-root-test.false)));
    }

pub find_targets-requires-clause-within : goal.find_targets-requires-clause-within
find_targets-requires-clause-within g c =
    let m = c.loop-section.invariant.marks in
    let on : Contains c.loop-section.stack.items c.in-Some.section =
    rw c.in-Some.ensures.items (Contains-push c.pop.new.self.items c.in-Some.section) in
    let inside : c.in-Some.section < length c.loop-section.live.items =
    marked_within c.loop-section.live.items c.in-Some.section (m.on_stack _ on) in
    omega (arith, inside, m.long, c.requires.count)

pub loop-target-init : goal.loop-target-init
loop-target-init g c =
    let w : Graph = graph_of c.args.out.now c.args.roots.now (g.R.References.refers c.args.references.now) in
    let m = c.loop-section.invariant.marks in
    let on : Contains c.loop-section.stack.items c.in-Some.section =
    rw c.in-Some.ensures.items (Contains-push c.pop.new.self.items c.in-Some.section) in
    record {
      marks = marks_pop w _ _ c.pop.new.self.items c.in-Some.section c.in-Some.ensures.items m;
      roots = c.loop-section.invariant.roots;
      at = m.on_stack _ on;
      seen = λ k h. absurd (omega arith);
      work = refl;
    }

pub loop-target-preserved : goal.loop-target-preserved
loop-target-preserved g c =
    let w : Graph = graph_of c.args.out.now c.args.roots.now (g.R.References.refers c.args.references.now) in
    let inv = c.loop-target.invariant in
    let items = c.deref-target-items.result.now in
    let i = c.loop-target.target-index in
    let in' : i < length items = c.loop-target-test.true in
    let next = get_or items i 0 in
    let here : c.in-Some.section < length w.out =
    omega (arith, inv.marks.long, marked_within c.loop-target.live.items c.in-Some.section inv.at) in
    let are : AreTargets w c.in-Some.section items =
    λ b low. subst (λ (l : List ℕ). w.refers c.in-Some.section b ↔ Contains l b)
    (sym c.deref-target-items.ensures.value) (c.in_ok-find_targets.ensures b (omega (arith, low, c.requires.count))) in
    let l : IsIn w next → IsLive w next = λ h.
    from_live c.in-Some.section next (inv.marks.sound _ inv.at) (leads_out w c.in-Some.section i items here are in' h)
    h in
    let v : Visited w c.loop-target.live.items c.loop-target.stack.items c.in-Some.section next
    c.visit-in-loop-target.new.live.items c.visit-in-loop-target.new.stack.items =
    visited w _ _ _ next _ _ inv.marks l c.in_ok-visit-2.ensures in
    record {
      marks = v.marks;
      roots = λ r h o. v.kept _ (inv.roots r h o);
      at = v.kept _ inv.at;
      seen = below_more _ _ (λ k h o. v.kept _ (inv.seen k h o)) v.marked;
      work = v.same_work ∙ inv.work;
    }

pub loop-section-preserved : goal.loop-section-preserved
loop-section-preserved g c =
    let w : Graph = graph_of c.args.out.now c.args.roots.now (g.R.References.refers c.args.references.now) in
    let inv = c.loop-target.invariant in
    let items = c.deref-target-items.result.now in
    let here : c.in-Some.section < length w.out =
    omega (arith, inv.marks.long, marked_within c.loop-target.live.items c.in-Some.section inv.at) in
    let are : AreTargets w c.in-Some.section items =
    λ b low. subst (λ (l : List ℕ). w.refers c.in-Some.section b ↔ Contains l b)
    (sym c.deref-target-items.ensures.value) (c.in_ok-find_targets.ensures b (omega (arith, low, c.requires.count))) in
    record {
      marks = marks_done w _ _ c.in-Some.section inv.marks
          (λ b t i. each_contained items (λ b. IsIn w b → IsMarked c.loop-target.live.items b) (λ k h.
          inv.seen k (omega (arith, c.loop-target-test.false))) b
          (leads_in w c.in-Some.section b items are t i) i);
      roots = inv.roots;
    }

pub returns-clause-live : goal.returns-clause-live
returns-clause-live g c =
    let w : Graph = graph_of c.args.out.now c.args.roots.now (g.R.References.refers c.args.references.now) in
    let empty : c.loop-section.stack.items ≡ [] = nil_from_length _ (omega (arith, c.in_default.ensures.cases.0)) in
    marks_end w _ (subst (λ l. Marks w c.loop-section.live.items l (length w.out)) empty
    c.loop-section.invariant.marks) c.loop-section.invariant.roots
