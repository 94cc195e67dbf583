-- What `apply` leaves, by cases on its result.
use Rattle.std.specs.Prelude.{◌≡◌, Result, Ok, Err}
use Rattle.ldmodel.specs.EditMeaning.{linked_of, refusal_of}
use Rattle.ldmodel.specs.Edits.{Change, After, RefusedAs}
use Rattle.ldmodel.specs.Link.{link}
use Rattle.ldmodel.specs.Project.{Project}
use Rattle.ldmodel.specs.declared.edit.EditRefusal.{EditRefusal}
use Rattle.ldmodel.specs.declared.edit.LinkSummary.{LinkSummary}

-- the edit is accepted, and the next project linked; or it is refused, and nothing has changed
abbrev pub Applied : Project → Change → Project → Result LinkSummary EditRefusal → Type 0
Applied old change new (Ok l) = After old change (Ok new) × (l ≡ linked_of (link new))
Applied old change new (Err r) = RefusedAs old change (refusal_of r) × (new ≡ old)
