-- What a linker does with a staged edit is what is answered to it.
use Rattle.ldi_deferred.proofs.Common.{Link, List, None, Project, holding, inl, inr, refl, ℕ, ◌≡◌}
use Rattle.std.proofs.Common.{codes}
use Rattle.ldmodel.specs.Answers.{MayLackMemory, answer_line, refused_line}
use Rattle.ldmodel.specs.Edits as model
use Rattle.ldmodel.specs.Edits.{Change, Add, Replace, Move, Remove, SetScript, Refusal, After, RefusedAs, early_refusal}
use Rattle.ldmodel.specs.EditMeaning.{linked_of}
use Rattle.ldmodel.specs.Link.{link}
use Rattle.ldmodel.specs.declared.edit.LinkSummary.{LinkSummary}
use Rattle.ldmodel_deferred.specs.Answers.{LinkReply, StageReply, linked, out_of_memory, refused}
use Rattle.ldi_stream.specs.Heads.{change_to}
use Rattle.ldi_stream.specs.declared.head.PayloadTarget.{PayloadTarget}
use Rattle.ldi_stream.specs.declared.head.PayloadTarget.TheVariants as target

-- an edit that no early refusal meets, and that brings no payload, is accepted
may_lack_memory : (p : Project) (c : Change) → early_refusal p c ≡ None → MayLackMemory p c
may_lack_memory p (Add name at bytes) e = tt
may_lack_memory p (Replace name bytes) e = tt
may_lack_memory p (Move name to) e = (_, (e, refl))
may_lack_memory p (Remove name) e = (_, (e, refl))
may_lack_memory p (SetScript text) e = tt

refused_so : (p : Project) (c : Change) (r : Refusal) → RefusedAs p c r → StageReply p c (refused_line r) p
refused_so p c r (inl a) = refused r a
refused_so p c r (inr m) = rw m.1 (out_of_memory (may_lack_memory p c m.0))

pub reply_refused : (p q : Project) (c : Change) (r : Refusal) → RefusedAs p c r → q ≡ p
    → StageReply p c (refused_line r) q
reply_refused p q c r a e = rw e (refused_so p c r a)

pub payload_unread : (p : Project) (a : PayloadTarget) (payload : List ℕ)
    → StageReply p (change_to a payload) (refused_line model.NoMemory) p
payload_unread p (target.Add name at) payload = out_of_memory tt
payload_unread p (target.Replace name) payload = out_of_memory tt
payload_unread p target.Script payload = out_of_memory tt

-- what a linker does when it is asked to link
pub reply_linked : (p q : Project) (l k : Link) (sent : List ℕ) (made : LinkSummary) → q ≡ p → k ≡ link p
    → made ≡ linked_of (link p)
    → LinkReply (holding p l sent) (answer_line (codes "linked") made.status made.length) (holding q k sent)
reply_linked p q l k sent made same last is = rw (same, last, is) linked

pub reply_unlinked : (p q : Project) (l k : Link) (sent : List ℕ) → q ≡ p → k ≡ l
    → LinkReply (holding p l sent) (refused_line model.NoMemory) (holding q k sent)
reply_unlinked p q l k sent same last = rw (same, last) out_of_memory
