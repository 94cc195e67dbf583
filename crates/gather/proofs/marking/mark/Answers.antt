use Rattle.gather.proofs.Common.{Bool, Global, Graph, IsGraphOf, IsLive, IsMarked, Project, Vec, graph_of}
use Rattle.gather.proofs.Common.{input_sections, length, live, marked, true, ℕ, ◌↔◌, ◌≡◌}
use Rattle.gather.proofs.LivePaths.{if_ok_two, marked_live}
use Rattle.gather.proofs.marking.mark.Goals as goal

pub returns-clause-live : goal.returns-clause-live
returns-clause-live g c =
    let w : Graph = graph_of c.args.out.now c.args.roots.now (g.R.References.refers c.args.references.now) in
    if_ok_two c.reach.result
    (λ (marks : Vec Bool Global). length marks.items ≡ length c.args.out.now)
    (λ (marks : Vec Bool Global). (s : ℕ) → IsMarked marks.items s ↔ IsLive w s)
    (λ (marks : Vec Bool Global). (p : Project) → p.options.gc ≡ true → IsGraphOf p w
    → marked marks.items (input_sections p) ≡ live p)
    (λ marks long reached p gc is.
    marked_live p w is marks.items long reached (λ s. c.live_by_path.ensures.collected p s gc)
    (c.live_by_path.ensures.in_order p).0 (c.live_by_path.ensures.in_order p).1)
    c.reach.ensures.long c.reach.ensures.live
