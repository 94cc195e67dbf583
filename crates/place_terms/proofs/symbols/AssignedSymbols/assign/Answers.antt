use Rattle.place_terms.proofs.Common.{refl}
use Rattle.place_terms.proofs.Numbers.{found_by_name, named_by_number}
use Rattle.place_terms.proofs.symbols.AssignedSymbols.assign.Goals as goal

pub push-requires-clause-found : goal.push-requires-clause-found
push-requires-clause-found c =
    found_by_name c.args.self.now.script c.args.name.now c.in-Some.command.0 c.in-Some.command.0 c.args.value
    c.in-Some.ensures.is refl

pub returns-clause-given : goal.returns-clause-given
returns-clause-given c =
    named_by_number c.push.result c.args.self.now c.push.new.self c.args.name.now c.in-Some.command.0
    c.in-Some.command.0 c.args.value c.in-Some.ensures.is refl c.push.ensures.script c.push.ensures.pushed
