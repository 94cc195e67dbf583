use Rattle.symres_decisions.proofs.Common.{arith, length, refl}
use Rattle.symres_decisions.proofs.MakingRoom.{below_after, complete_refused, old_again, old_or_new}
use Rattle.symres_decisions.proofs.MakingRoom.{text_none_more, unused_after, used_twice, whole_same}
use Rattle.symres_decisions.proofs.Used.{used_more}
use Rattle.symres_decisions.proofs.room.make_room.Goals as goal

pub returns-then-known-from-clause-whole : goal.returns-then-known-from-clause-whole
returns-then-known-from-clause-whole c =
    let s = c.args.names.now in
    let more = c.reserve.ensures.more in
    whole_same s c.reserve.new.self c.args.cases.now more.listed.0 c.known.ensures.listing more.names more.listed.1
    (omega (arith, c.known.ensures.len, c.known-from.ensures.len, c.if-known-from.true))
    (below_after s c.reserve.new.self c.args.cases.now (length s.order) more.listed.0 refl
    c.known-from.ensures.listing more.listed.1 c.requires.whole)
    c.requires.whole

pub returns-then-known-from-clause-text : goal.returns-then-known-from-clause-text
returns-then-known-from-clause-text c =
    let more = c.reserve.ensures.more in
    text_none_more c.args.names.now c.reserve.new.self c.args.text.now more.listed.0 more.listed.1
    (omega (arith, c.known.ensures.len, c.known-from.ensures.len, c.if-known-from.true)) c.requires.text

pub settle_new-requires-clause-below : goal.settle_new-requires-clause-below
settle_new-requires-clause-below c =
    below_after c.args.names.now c.reserve.new.self c.args.cases.now c.known-from.result
    c.reserve.ensures.more.listed.0 c.known-from.ensures.len c.known-from.ensures.listing
    c.reserve.ensures.more.listed.1 c.requires.whole

pub drop_unused-requires : goal.drop_unused-requires
drop_unused-requires c =
    let s = c.reserve.new.self in
    let more = c.reserve.ensures.more in
    record {
      complete = complete_refused s c.args.cases.now c.settle_new.new.cases c.known-from.result
          c.known.ensures.listing
          (below_after c.args.names.now s c.args.cases.now c.known-from.result more.listed.0 c.known-from.ensures.len
          c.known-from.ensures.listing more.listed.1 c.requires.whole)
          (unused_after c.args.names.now s c.known-from.result c.known-from.ensures.len c.reserve.ensures.objects
          c.reserve.ensures.unused)
          c.settle_new.ensures.kept;
    }

pub returns-in-Err-clause-sound : goal.returns-in-Err-clause-sound
returns-in-Err-clause-sound c =
    c.drop_unused.ensures.sound c.args.script.now c.settle_new.ensures.sound

pub returns-in-Err-clause-used : goal.returns-in-Err-clause-used
returns-in-Err-clause-used c =
    used_twice c.args.names.now c.reserve.new.self c.drop_unused.new.names c.reserve.ensures.more.names
    c.reserve.ensures.objects c.drop_unused.ensures.forgets

pub returns-then-known-from-clause-fresh : goal.returns-then-known-from-clause-fresh
returns-then-known-from-clause-fresh c =
    let more = c.reserve.ensures.more in
    old_or_new c.args.names.now c.reserve.new.self more.listed.0 c.known-from.ensures.listing c.known.ensures.listing
    more.names more.listed.1

pub returns-in-Ok-clause-fresh : goal.returns-in-Ok-clause-fresh
returns-in-Ok-clause-fresh c =
    let more = c.reserve.ensures.more in
    old_or_new c.args.names.now c.reserve.new.self more.listed.0 c.known-from.ensures.listing c.known.ensures.listing
    more.names more.listed.1

pub returns-in-Err-clause-fresh : goal.returns-in-Err-clause-fresh
returns-in-Err-clause-fresh c =
    let s = c.reserve.new.self in
    let more = c.reserve.ensures.more in
    old_again c.args.names.now s c.drop_unused.new.names
    (old_or_new c.args.names.now s more.listed.0 c.known-from.ensures.listing c.known.ensures.listing more.names
    more.listed.1)
    c.drop_unused.ensures.forgets c.known.ensures.listing
    (unused_after c.args.names.now s (length c.args.names.now.order) refl c.reserve.ensures.objects
    c.reserve.ensures.unused)

pub returns-then-known-from-clause-all : goal.returns-then-known-from-clause-all
returns-then-known-from-clause-all c =
    let more = c.reserve.ensures.more in
    used_more c.args.names.now c.reserve.new.self more.listed.0 c.args.used.now more.listed.1 c.reserve.ensures.objects
    c.requires.all
