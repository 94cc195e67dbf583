use Rattle.emit_relocate.proofs.Common.{arith, length-drop, site_of, slice_index, ◌+◌}
use Rattle.emit_relocate.specs.Index.{sites_at}
use Rattle.emit_relocate.proofs.Kept.{rooms_left, sites_added}
use Rattle.emit_relocate.proofs.index.Index.add_reserved.Goals as goal

pub loop-site-preserved : goal.loop-site-preserved
loop-site-preserved c = record {
  of_targets = rooms_left c.args.sites.now c.loop-site.site-index _ c.loop-site-test.true
      (slice_index c.loop-site.self.target_room) (slice_index c.add_one.new.self.target_room)
      c.loop-site.invariant.of_targets c.add_one.ensures.target_room c.add_one.ensures.other_rooms;
  of_object = omega (
    arith,
    length-drop (c.loop-site.site-index + 1) c.args.sites.now,
    length-drop c.loop-site.site-index c.args.sites.now,
    c.loop-site.invariant.of_object,
    c.add_one.ensures.object_room,
  );
  added = sites_added c.args.sites.now c.loop-site.site-index _ c.loop-site-test.true (site_of c.args.object)
      (sites_at c.args.self.now) (sites_at c.loop-site.self) (sites_at c.add_one.new.self)
      c.add_one.ensures.added c.add_one.ensures.others c.loop-site.invariant.added;
}
