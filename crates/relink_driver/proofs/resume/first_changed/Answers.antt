use Rattle.relink_driver.proofs.Common.{previous_state, sym, zip, ◌∙◌}
use Rattle.std.proofs.lemmas.Slice.Zip.{length-zip}
use Rattle.relink_driver.specs.SameRows.{is_changed}
use Rattle.relink_driver.proofs.SameRows.{first_or_len}
use Rattle.relink_driver.proofs.resume.first_changed.Goals as goal

pub returns : goal.returns
returns c =
    c.unwrap_or.ensures
    ∙ first_or_len (is_changed (previous_state c.args.previous.now) c.args.project.now)
    (zip c.args.before.now c.args.now.now)
    c.find_changed.result c.min.result c.find_changed.ensures
    (c.min.ensures ∙ sym (length-zip c.args.before.now c.args.now.now))
