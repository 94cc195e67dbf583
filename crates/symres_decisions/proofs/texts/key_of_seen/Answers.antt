use Rattle.symres_decisions.proofs.Keys.{name_at, seen_at, stands}
use Rattle.symres_decisions.proofs.texts.key_of_seen.Goals as goal

pub key_at-requires : goal.key_at-requires
key_at-requires c =
    seen_at c.args.names.now c.in-Entered.place.0 c.args.symbol.0 c.args.object.now.symbols
    (stands c.args.names.now c.args.source c.in-Entered.place c.args.object.now.symbols c.in-Entered.is
    c.requires.found)
    c.requires.number c.requires.seen

pub returns-in-Entered : goal.returns-in-Entered
returns-in-Entered c = λ d. (
  c.requires.seen d,
  name_at c.args.names.now c.in-Entered.place.0 c.args.symbol.0 c.key_at.result.0 c.args.object.now.symbols d
      (stands c.args.names.now c.args.source c.in-Entered.place c.args.object.now.symbols c.in-Entered.is
      c.requires.found)
      c.key_at.ensures,
)
