use Rattle.gather.proofs.Common.{Contains, Graph, IsIn, IsMarked, graph_of, length, slice_index, ℕ, ◌<◌, ◌≡◌}
use Rattle.gather.proofs.Marks.{Marks, work}
use Rattle.gather.proofs.marking.reach.Given as goal

abbrev pub invariant-loop-root : goal.invariant-loop-root
invariant-loop-root g l =
    let w : Graph = graph_of l.out l.roots (g.R.References.refers l.references) in
    record {
      marks : Marks w l.live.items l.stack.items (length l.out);
      roots : (k : ℕ) → k < l.root-index → IsIn w (slice_index l.roots k)
          → IsMarked l.live.items (slice_index l.roots k);
    }

abbrev pub invariant-loop-target : goal.invariant-loop-target
invariant-loop-target g l =
    let w : Graph = graph_of l.out l.roots (g.R.References.refers l.references) in
    record {
      marks : Marks w l.live.items l.stack.items l.section;
      roots : (r : ℕ) → Contains l.roots r → IsIn w r → IsMarked l.live.items r;
      at : IsMarked l.live.items l.section;
      seen : (k : ℕ) → k < l.target-index → IsIn w (slice_index l.target-items k)
          → IsMarked l.live.items (slice_index l.target-items k);
      work : work l.live.items l.stack.items ≡ work l.initial.live.items l.initial.stack.items;
    }

abbrev pub invariant-loop-section : goal.invariant-loop-section
invariant-loop-section g l =
    let w : Graph = graph_of l.out l.roots (g.R.References.refers l.references) in
    record {
      marks : Marks w l.live.items l.stack.items (length l.out);
      roots : (r : ℕ) → Contains l.roots r → IsIn w r → IsMarked l.live.items r;
    }

abbrev pub decreases-loop-section : goal.decreases-loop-section
decreases-loop-section g l = work l.live.items l.stack.items
