-- A command of a deferred session without its payload, as it is read from its line.
use Rattle.std.specs.Prelude.{◌≡◌, ℕ, List, length}
use Rattle.ldmodel.specs.Commands.{Edit, Ask}
use Rattle.ldmodel_deferred.specs.Commands.{Command, Basic, MakeLink, AskChanges, IsCommand, line}
use Rattle.ldi_stream.specs.Heads.{announced, edit_of, query_of}
use Rattle.ldi_deferred.specs.declared.head.DeferredHead.{DeferredHead}
use Rattle.ldi_deferred.specs.declared.head.DeferredHead.TheVariants as head

-- a command with this line
pub record HasLine (text : List ℕ) (command : Command) : Type 0 where
  pub is : IsCommand command
  pub spelled : line command ≡ text

-- what a line says, whatever its payload
abbrev pub Says : List ℕ → DeferredHead → Type 0
Says text (head.Edit h) =
    (payload : List ℕ) → length payload ≡ announced h → HasLine text (Basic (Edit (edit_of h payload)))
Says text (head.Ask q) = HasLine text (Basic (Ask (query_of q)))
Says text head.Link = HasLine text MakeLink
Says text head.Changes = HasLine text AskChanges

-- no command has this line
abbrev pub SaysNothing : List ℕ → Type 0
SaysNothing text = (command : Command) → HasLine text command → ⊥
