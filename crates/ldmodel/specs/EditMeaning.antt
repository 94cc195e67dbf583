-- What edits of the program, their refusals and what they come to stand for.
use Rattle.std.specs.Prelude.{length}
use Rattle.ldmodel.specs.Edits as model
use Rattle.ldmodel.specs.Edits.{Change, Add, Replace, Move, Remove, SetScript}
use Rattle.ldmodel.specs.Link.{Link}
use Rattle.ldmodel.specs.declared.edit.Edit.{Edit}
use Rattle.ldmodel.specs.declared.edit.Edit.TheVariants as edit
use Rattle.ldmodel.specs.declared.edit.EditRefusal.{EditRefusal}
use Rattle.ldmodel.specs.declared.edit.EditRefusal.TheVariants as refusal
use Rattle.ldmodel.specs.declared.edit.LinkSummary.{LinkSummary}

abbrev pub change_of : Edit → Change
change_of (edit.Add name at bytes) = Add name.now at bytes.items
change_of (edit.Replace name bytes) = Replace name.now bytes.items
change_of (edit.Move name to) = Move name.now to
change_of (edit.Remove name) = Remove name.now
change_of (edit.Script text) = SetScript text.now

abbrev pub refusal_of : EditRefusal → model.Refusal
refusal_of refusal.InUse = model.InUse
refusal_of refusal.Unknown = model.Unknown
refusal_of refusal.PastEnd = model.PastEnd
refusal_of (refusal.NotAnObject why) = model.NotAnObject why
refusal_of (refusal.NotAScript why) = model.NotAScript why
refusal_of refusal.Limit = model.Limit
refusal_of (refusal.NoMemory _) = model.NoMemory

-- what an accepted edit comes to: the status of the link of the next project, and the length of its image
abbrev pub linked_of : Link → LinkSummary
linked_of l = record { status = l.status; length = length l.image }
