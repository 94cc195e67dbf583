-- What a link gives.
use Rattle.std.specs.Prelude.{[]}
use Rattle.ldmodel.specs.Link.{Link}
use Rattle.relink_driver.specs.declared.output.Content.{Content}
use Rattle.relink_driver.specs.declared.output.Content.TheVariants.{Good, Faulty}

-- the link with this content
abbrev pub link_of : Content → Link
link_of (Good image map) = record { status = 0; image = image.bytes; map = map.items; faults = [] }
link_of (Faulty lines) = record { status = 1; image = []; map = []; faults = lines.items }
