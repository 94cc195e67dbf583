use Rattle.symres_decisions.proofs.Exchanging.{has_object, takes}
use Rattle.symres_decisions.proofs.exchange.take_out.Goals as goal

pub withdraw-requires : goal.withdraw-requires
withdraw-requires c =
    has_object c.args.names.now.objects c.args.key.0 c.args.out c.in-Some._at c.in-Some.is c.requires

pub returns-in-Some : goal.returns-in-Some
returns-in-Some c =
    takes c.args.names.now c.withdraw.new.self c.args.key.0 c.args.out c.in-Some._at c.in-Some.is
    (record {
      objects = c.withdraw.ensures.objects;
      same = c.withdraw.ensures.same;
      order = c.withdraw.ensures.order;
      places = c.withdraw.ensures.places;
      list = c.withdraw.ensures.list;
      again = c.withdraw.ensures.again;
      others = c.withdraw.ensures.others;
    })
