-- What the plain linker may count: as much as it likes, since it links from scratch at each edit.
use Rattle.ldmodel.specs.Counts.{Counts}
use Rattle.ldmodel.specs.Edits.{Change}
use Rattle.ldmodel.specs.Project.{Project}

abbrev pub Unbounded : Project → Change → Project → Counts → Counts → Type 0
Unbounded old change new before after = Unit {0}
