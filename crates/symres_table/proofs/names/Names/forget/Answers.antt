use Rattle.symres_table.proofs.Common.{Entered, map, rooms, ℕ}
use Rattle.symres_table.proofs.Joined.{forgets}
use Rattle.symres_table.proofs.Forgetting.{named_used}
use Rattle.symres_table.proofs.names.Names.forget.Goals as goal

abbrev room_in : Entered → ℕ
room_in o = o.room

pub invariant_of-self : goal.invariant_of-self
invariant_of-self c =
    record {
      named = named_used c.self.inside.known.slots c.forget_unused.new.self.slots c.self.inside.objects.objects
          c.forget_unused.ensures.kept c.self.invariant.named;
      lists = c.self.invariant.lists;
    }

pub returns : goal.returns
returns c =
    let a = c.self.inside in
    rw (← c.self.view_is)
    (forgets a.known c.forget_unused.new.self a.objects (rooms a.spare.items) (map room_in a.objects.objects)
    c.len-known.ensures.consistent c.len-known.ensures.distinct c.self.invariant.named c.forget_unused.ensures.kept
    c.forget_unused.ensures.order)
