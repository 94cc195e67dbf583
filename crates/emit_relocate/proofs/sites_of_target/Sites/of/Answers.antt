use Rattle.emit_relocate.proofs.Common.{ap, map, ◌∙◌}
use Rattle.emit_relocate.proofs.Places.{entry_values}
use Rattle.emit_relocate.proofs.sites_of_target.Sites.of.Goals as goal

pub returns : goal.returns
returns c = ap (map (λ e. e.1)) c.iter.ensures.rest ∙ entry_values 0 c.args.bucket.now.sites.slots
