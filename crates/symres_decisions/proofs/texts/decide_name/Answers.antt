use Rattle.symres_decisions.proofs.Common.{NamedSymbol, declared_in, get_or, null_symbol}
use Rattle.symres_decisions.proofs.Clearing.{declares_at}
use Rattle.symres_decisions.proofs.Keys.{has_name}
use Rattle.symres_decisions.proofs.NamesDecided.{named_local, named_seen}
use Rattle.symres_decisions.proofs.texts.decide_name.Goals as goal

pub decide_once-requires-clause-named : goal.decide_once-requires-clause-named
decide_once-requires-clause-named c =
    has_name c.args.names.now.names (get_or c.args.object.now.symbols c.args.number null_symbol) c.in-Some.key
    (c.in-Some.ensures null_symbol)

pub decide_once-requires-clause-room : goal.decide_once-requires-clause-room
decide_once-requires-clause-room c =
    c.requires.room c.in-Some.key.0
    (has_name c.args.names.now.names (get_or c.args.object.now.symbols c.args.number null_symbol) c.in-Some.key
    (c.in-Some.ensures null_symbol))

pub returns-in-Some-clause-decided : goal.returns-in-Some-clause-decided
returns-in-Some-clause-decided c = λ start m seen before d free h.
    let x : NamedSymbol = get_or c.args.object.now.symbols c.args.number d in
    named_seen c.args.script.now c.args.names.now start c.args.cases.now c.decide_once.new.cases m c.args.meter.now
    c.decide_once.new.meter (declared_in c.args.object.now.symbols) seen before x c.in-Some.key.0 c.requires.distinct
    (c.in-Some.ensures d).0
    (c.in-Some.ensures d).1
    (c.requires.room c.in-Some.key.0 (has_name c.args.names.now.names x c.in-Some.key (c.in-Some.ensures d)))
    free (declares_at c.args.object.now.symbols c.args.number d c.requires.number (c.in-Some.ensures d).0)
    c.decide_once.ensures.decided h

pub returns-in-None-clause-decided : goal.returns-in-None-clause-decided
returns-in-None-clause-decided c = λ start m seen before d free h.
    named_local c.args.script.now c.args.names.now start c.args.cases.now m c.args.meter.now seen before
    (get_or c.args.object.now.symbols c.args.number d) (c.in-None.ensures d) h
