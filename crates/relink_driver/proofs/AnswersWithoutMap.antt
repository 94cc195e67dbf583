-- Answers to links of files with a map, and without one.
use Rattle.relink_driver.proofs.Common.{Bool, Err, Link, LinkFault, LinkOptions, List, Memory, Ok, Prepares, Project}
use Rattle.relink_driver.proofs.Common.{Refused, ShownAnswers, ap, fault_answer, link, refl, refused_at, shown}
use Rattle.relink_driver.proofs.Common.{shown_answer, subst, sym, true, ℕ, ◌∙◌, ◌≡◌}
use Rattle.ldmodel.specs.LinkCommand as model
use Rattle.ldmodel.specs.LinkCommand.{LinkAnswer, LinkAnswers, Linked, Linking, ObjectFile, RefusedAt}

-- with its map an answer is whole
whole : (a : LinkAnswer) → shown_answer true a ≡ a
whole (Linked result) = refl
whole (RefusedAt edit) = refl
whole model.NoMemory = refl

pub with_its_map : (options : LinkOptions) (script : List ℕ) (objects : List ObjectFile) (a : LinkAnswer)
    → ShownAnswers true options script objects a → LinkAnswers options script objects a
with_its_map options script objects a h =
    subst (LinkAnswers options script objects) (sym (h.is ∙ whole h.whole)) h.answers

-- the link of the project
pub linked : (with_map : Bool) (options : LinkOptions) (script : List ℕ) (objects : List ObjectFile) (p : Project)
    (result : Link) → Linking options script objects (Ok p) → result ≡ shown with_map (link p)
    → ShownAnswers with_map options script objects (Linked result)
linked with_map options script objects p result h e = record {
  whole = Linked (link p);
  answers = (p, h, refl);
  is = ap Linked e;
}

-- a refused edit, or out of memory
pub refused : (with_map : Bool) (options : LinkOptions) (script : List ℕ) (objects : List ObjectFile)
    (fault : LinkFault) → Prepares options script objects (Err fault)
    → ShownAnswers with_map options script objects (fault_answer fault)
refused with_map options script objects (Refused place why) h = record {
  whole = RefusedAt (refused_at place why);
  answers = h;
  is = refl;
}
refused with_map options script objects (Memory _) h = record { whole = model.NoMemory; answers = tt; is = refl }
