use Rattle.ldscript_statements.proofs.Clashing.{inserted, meets_used, meets_once, once_of}
use Rattle.ldscript_statements.specs.contracts.mention.MentionOrd.TheImpl as derived
use Rattle.ldscript_statements.proofs.mentions.meet.Goals as goal

pub returns-in_ok-insert-in_default : goal.returns-in_ok-insert-in_default
returns-in_ok-insert-in_default c =
    meets_once c.in_ok-insert-in_default.field-0 c.args.mention c.args.given.now.keys c.insert.new.set.keys
    (once_of c.args.mention c.in_default.not-RegionUsed)
    c.in_ok-insert-in_default.ensures.added
    (inserted derived.cmp-value.it c.args.mention c.args.given.now.keys c.insert.new.set.keys
    c.in_ok-insert-in_default.field-0
    c.in_ok-insert-in_default.ensures.added c.in_ok-insert-in_default.ensures.keys
    c.in_ok-insert-in_default.ensures.unchanged)

pub returns-in-RegionUsed : goal.returns-in-RegionUsed
returns-in-RegionUsed c = meets_used c.args.given.now.keys c.in-RegionUsed.name c.args.mention c.contains.result
    c.in-RegionUsed.is c.contains.ensures
