use Rattle.symres_decisions.proofs.Exchanging.{come_place, come_room, puts}
use Rattle.symres_decisions.proofs.exchange.put_in.Goals as goal

pub enter-requires-clause-at : goal.enter-requires-clause-at
enter-requires-clause-at c =
    come_place c.args.names.now.objects c.args.into c.in-Some.at c.in-Some.is c.requires.place

pub enter-requires-clause-room : goal.enter-requires-clause-room
enter-requires-clause-room c = come_room c.args.names.now c.args.into c.in-Some.at c.in-Some.is c.requires.room

pub returns-in-Some : goal.returns-in-Some
returns-in-Some c =
    puts c.args.names.now c.enter.new.self c.args.key.0 c.args.into c.in-Some.at c.in-Some.is
    (record {
      within = come_place c.args.names.now.objects c.args.into c.in-Some.at c.in-Some.is c.requires.place;
      objects = c.enter.ensures.objects;
      same = c.enter.ensures.same;
      order = c.enter.ensures.order;
      places = c.enter.ensures.places;
      list = c.enter.ensures.list;
    })
