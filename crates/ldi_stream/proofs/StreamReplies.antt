-- What a linker does with an edit is what is answered to it.
use Rattle.ldi_stream.proofs.Common.{EditReply, List, MayLackMemory, None, Ok, Project, accepted, answer_line}
use Rattle.ldi_stream.proofs.Common.{change_to, codes, inl, inr, out_of_memory, refl, refused, refused_line, ℕ, ◌≡◌}
use Rattle.ldmodel.specs.EditMeaning.{linked_of}
use Rattle.ldmodel.specs.Edits as model
use Rattle.ldmodel.specs.Edits.{Change, Add, Replace, Move, Remove, SetScript, Refusal, After, RefusedAs, early_refusal}
use Rattle.ldmodel.specs.Link.{link}
use Rattle.ldmodel.specs.declared.edit.LinkSummary.{LinkSummary}
use Rattle.ldi_stream.specs.declared.head.PayloadTarget.{PayloadTarget}
use Rattle.ldi_stream.specs.declared.head.PayloadTarget.TheVariants as target

pub reply_linked : (p q : Project) (c : Change) (l : LinkSummary) → After p c (Ok q) → l ≡ linked_of (link q)
    → EditReply p c (answer_line (codes "linked") l.status l.length) q
reply_linked p q c l a e = rw e (accepted q a)

-- an edit that no early refusal meets, and that brings no payload, is accepted
may_lack_memory : (p : Project) (c : Change) → early_refusal p c ≡ None → MayLackMemory p c
may_lack_memory p (Add name at bytes) e = tt
may_lack_memory p (Replace name bytes) e = tt
may_lack_memory p (Move name to) e = (_, (e, refl))
may_lack_memory p (Remove name) e = (_, (e, refl))
may_lack_memory p (SetScript text) e = tt

refused_so : (p : Project) (c : Change) (r : Refusal) → RefusedAs p c r → EditReply p c (refused_line r) p
refused_so p c r (inl a) = refused r a
refused_so p c r (inr m) = rw m.1 (out_of_memory (may_lack_memory p c m.0))

pub reply_refused : (p q : Project) (c : Change) (r : Refusal) → RefusedAs p c r → q ≡ p
    → EditReply p c (refused_line r) q
reply_refused p q c r a e = rw e (refused_so p c r a)

pub payload_unread : (p : Project) (a : PayloadTarget) (payload : List ℕ)
    → EditReply p (change_to a payload) (refused_line model.NoMemory) p
payload_unread p (target.Add name at) payload = out_of_memory tt
payload_unread p (target.Replace name) payload = out_of_memory tt
payload_unread p target.Script payload = out_of_memory tt
