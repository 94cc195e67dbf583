-- Links whose map is not made.
use Rattle.std.specs.Prelude.{◌≡◌, ℕ, List, [], Bool, true, false}
use Rattle.ldmodel.specs.Link.{Link}
use Rattle.ldmodel.specs.LinkCommand.{LinkAnswer, LinkAnswers, Linked, NoMemory, ObjectFile, RefusedAt}
use Rattle.ldmodel.specs.Options.{LinkOptions}

-- a link without its map: the status, the image and the fault lines are those of the link, and the map is empty
abbrev pub without_map : Link → Link
without_map link = record { status = link.status; image = link.image; map = []; faults = link.faults }

-- a link with its map, or without it
abbrev pub shown : (with_map : Bool) → Link → Link
shown true link = link
shown false link = without_map link

abbrev pub shown_map : (with_map : Bool) → List ℕ → List ℕ
shown_map true text = text
shown_map false text = []

abbrev pub shown_answer : (with_map : Bool) → LinkAnswer → LinkAnswer
shown_answer with_map (Linked result) = Linked (shown with_map result)
shown_answer with_map (RefusedAt edit) = RefusedAt edit
shown_answer with_map NoMemory = NoMemory

-- an answer to a link of files, with the map of the link or without it
pub record ShownAnswers (with_map : Bool) (options : LinkOptions) (script : List ℕ) (objects : List ObjectFile)
    (answer : LinkAnswer) : Type 0 where
  pub whole : LinkAnswer
  pub answers : LinkAnswers options script objects whole
  pub is : answer ≡ shown_answer with_map whole
