use Rattle.emit.proofs.Common.{All, AllZip, Fields, IsAtHand, IsPlannedAt, IsWithin, KnownLink, NamedObject}
use Rattle.emit.proofs.Common.{evaluations, raised, sites_in_all, take, written_all, ◌≡◌}
use Rattle.emit.proofs.plan.plan.Given as goal

abbrev pub invariant-loop-spot : goal.invariant-loop-spot
invariant-loop-spot l = record {
  within : All (IsWithin l.limit) (written_all l.sections.items);
  planned : (k : KnownLink) (o : NamedObject) → IsAtHand k l.place l.object l.values o
      → AllZip (IsPlannedAt k o) (take l.spot-index l.located) (written_all l.sections.items)
      × (l.meter ≡ raised l.fn.meter Fields (evaluations k (sites_in_all o (take l.spot-index l.located))));
}
