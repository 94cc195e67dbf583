use Rattle.symres_table.proofs.Common.{ap, declaration_of, map, map-append, sym, take, take_more, tally_of, ◌∙◌}
use Rattle.symres_table.proofs.tally.decide.Goals as goal

pub loop-entry-preserved : goal.loop-entry-preserved
loop-entry-preserved c = λ name.
    let i = c.loop-entry.entry-index in
    let ds = c.args.declared.now in
    c.add.ensures name (map (declaration_of name) (take i ds)) (c.loop-entry.invariant name)
    ∙ ap tally_of (sym (ap (map (declaration_of name)) (take_more ds i _ c.loop-entry-test.true)
    ∙ map-append (declaration_of name) (take i ds) _))
