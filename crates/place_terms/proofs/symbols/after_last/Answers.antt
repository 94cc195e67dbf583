use Rattle.place_terms.proofs.InTurn.{last_risen}
use Rattle.place_terms.proofs.symbols.after_last.Goals as goal

pub returns-in-Some : goal.returns-in-Some
returns-in-Some c = last_risen c.args.symbols.now c.in-Some.symbol.now c.requires c.in-Some.ensures.value
