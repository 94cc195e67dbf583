use Rattle.ldscript_statements.proofs.Scanning.{scan_start, scan_more, scan_clash, scan_end}
use Rattle.ldscript_statements.proofs.mentions.any_clashes.Goals as goal

pub loop-mention-init : goal.loop-mention-init
loop-mention-init c = scan_start c.new-given.result.keys c.new-given.ensures.empty

pub loop-mention-preserved : goal.loop-mention-preserved
loop-mention-preserved c =
    scan_more c.loop-mention.given.keys c.meet.new.given.keys c.args.mentions.now c.loop-mention.mention-index _
    c.in_ok-meet.field-0
    c.loop-mention-test.true c.if-branch.false c.in_ok-meet.ensures c.loop-mention.invariant

pub returns-then-branch : goal.returns-then-branch
returns-then-branch c =
    scan_clash c.loop-mention.given.keys c.meet.new.given.keys c.args.mentions.now c.loop-mention.mention-index _
    c.in_ok-meet.field-0
    c.loop-mention-test.true c.if-branch.true c.in_ok-meet.ensures c.loop-mention.invariant

pub returns : goal.returns
returns c = scan_end c.loop-mention.given.keys c.args.mentions.now c.loop-mention.mention-index
    c.loop-mention-test.false c.loop-mention.invariant
