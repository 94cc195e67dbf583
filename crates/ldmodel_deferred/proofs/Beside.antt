-- A deferred stream beside a stream of the same edits without the option.
use Rattle.std.proofs.Common.{◌≡◌, ℕ, List, [], ◌∷◌, ◌++◌, get_or, None, Some, inl, refl, sym, ap, subst, ◌∙◌}
use Rattle.std.specs.Prelude.{slice_get}
use Rattle.std.proofs.lemmas.Option.{slice_get-get_or}
use Rattle.ldmodel.specs.Answers as session
use Rattle.ldmodel.specs.Answers.{EditReply, bytes_answer, linked_line, refused_line}
use Rattle.ldmodel.specs.Commands as commands
use Rattle.ldmodel.specs.Commands.{Edit, Ask, Query, Image, Map, Faults}
use Rattle.ldmodel.specs.Edits.{Change, NoMemory}
use Rattle.ldmodel.specs.Link.{Link, link}
use Rattle.ldmodel.specs.Project.{Project}
use Rattle.ldmodel_deferred.specs.Answers.{Holding, IsSettled, LinkReply, QueryReply, Replies, StageReply}
use Rattle.ldmodel_deferred.specs.Answers.{accepted, accepted_line, holding, linked, next, none}
use Rattle.ldmodel_deferred.specs.Answers.{out_of_memory, refused, settled, with_links, without_links}
use Rattle.ldmodel_deferred.specs.Changes.{AreChanges}
use Rattle.ldmodel_deferred.specs.Commands.{Command, Basic, MakeLink, AskChanges}
use Rattle.ldmodel_deferred.specs.declared.changes.ByteRange.{ByteRange}

-- ---- the same edits

-- an edit is answered otherwise, and leads to the same project
edited : (p q : Project) (change : Change) (answer : List ℕ) → StageReply p change answer q
    → (other : List ℕ) × EditReply p change other q
edited p q change answer (accepted r after) = (linked_line (link r), session.accepted r after)
edited p q change answer (refused refusal after) = (refused_line refusal, session.refused refusal after)
edited p q change answer (out_of_memory lacks) = (refused_line NoMemory, session.out_of_memory lacks)

link_keeps : (old new : Holding) (answer : List ℕ) → LinkReply old answer new → old.project ≡ new.project
link_keeps old new answer linked = refl
link_keeps old new answer out_of_memory = refl

query_keeps : (old new : Holding) (query : Query) (answer : List ℕ) → QueryReply old query answer new
    → new.project ≡ old.project
query_keeps old new Image answer r = ap (λ (h : Holding). h.project) r.1
query_keeps old new Map answer r = ap (λ (h : Holding). h.project) r.1
query_keeps old new Faults answer r = ap (λ (h : Holding). h.project) r.1

-- the commands without the option lead from one project to another
abbrev Leads : Project → List commands.Command → Project → Type 0
Leads p cs q = (other : List ℕ) × session.Replies p cs other q

from_same : (p q r : Project) (cs : List commands.Command) → p ≡ q → Leads q cs r → Leads p cs r
from_same p q r cs same leads = subst (λ (x : Project). Leads x cs r) (sym same) leads

pub same_edits : (old last : Holding) (cs : List Command) (out : List ℕ) → Replies old cs out last
    → Leads old.project (without_links cs) last.project
same_edits old last [] out none = ([], session.none)
same_edits old last (Basic (Edit change) ∷ cs) out (next {mid = mid} answer rest r more) =
    let later = same_edits mid last cs rest more in
    let first = edited old.project mid.project change answer r.0 in
    (first.0 ++ later.0, session.next first.0 later.0 first.1 later.1)
same_edits old last (Basic (Ask query) ∷ cs) out (next {mid = mid} answer rest r more) =
    let later = same_edits mid last cs rest more in (
      bytes_answer (session.asked query (link old.project)) ++ later.0,
      session.next (bytes_answer (session.asked query (link old.project))) later.0
          (refl, query_keeps old mid query answer r) later.1,
    )
same_edits old last (MakeLink ∷ cs) out (next {mid = mid} answer rest r more) =
    from_same old.project mid.project last.project (without_links cs) (link_keeps old mid answer r)
    (same_edits mid last cs rest more)
same_edits old last (AskChanges ∷ cs) out (next {mid = mid} answer rest r more) =
    from_same old.project mid.project last.project (without_links cs)
    (sym (ap (λ (h : Holding). h.project) r.same))
    (same_edits mid last cs rest more)

-- ---- queries right after a link

still_settled : (old new : Holding) → IsSettled old → new ≡ record old { sent = new.sent } → IsSettled new
still_settled old new settled same =
    ap (λ (h : Holding). h.link) same ∙ (settled ∙ ap (λ (h : Holding). link h.project) (sym same))

kept_settled : (old new : Holding) → IsSettled old → new ≡ old → IsSettled new
kept_settled old new settled same = subst IsSettled (sym same) settled

pub asked_when_settled : (old new : Holding) (query : Query) (answer : List ℕ) → IsSettled old
    → QueryReply old query answer new → session.Reply old.project (Ask query) answer new.project × IsSettled new
asked_when_settled old new Image answer settled r = (
  (r.0 ∙ ap (λ (l : Link). bytes_answer l.image) settled, ap (λ (h : Holding). h.project) r.1),
  still_settled old new settled r.1,
)
asked_when_settled old new Map answer settled r = (
  (r.0 ∙ ap (λ (l : Link). bytes_answer l.map) settled, ap (λ (h : Holding). h.project) r.1),
  kept_settled old new settled r.1,
)
asked_when_settled old new Faults answer settled r = (
  (r.0 ∙ ap (λ (l : Link). bytes_answer l.faults) settled, ap (λ (h : Holding). h.project) r.1),
  kept_settled old new settled r.1,
)

-- ---- a link after each edit

-- a query of the link of the project
pub asked_settled : (p : Project) (query : Query) (answer sent : List ℕ) → session.Reply p (Ask query) answer p
    → (after : List ℕ) × QueryReply (settled p sent) query answer (settled p after)
asked_settled p Image answer sent r = ((link p).image, (r.0, refl, inl refl))
asked_settled p Map answer sent r = (sent, (r.0, refl))
asked_settled p Faults answer sent r = (sent, (r.0, refl))

asked_on : (p q : Project) (query : Query) (answer sent : List ℕ) → session.Reply p (Ask query) answer q
    → (after : List ℕ) × QueryReply (settled p sent) query answer (settled q after)
asked_on p q query answer sent r =
    subst (λ (x : Project). (after : List ℕ) × QueryReply (settled p sent) query answer (settled x after)) (sym r.1)
    (asked_settled p query answer sent (r.0, refl))

staged : (p q : Project) (change : Change) (answer : List ℕ) → EditReply p change answer q
    → (other : List ℕ) × StageReply p change other q
staged p q change answer (session.accepted r after) = (accepted_line, accepted r after)
staged p q change answer (session.refused refusal after) = (refused_line refusal, refused refusal after)
staged p q change answer (session.out_of_memory lacks) = (refused_line NoMemory, out_of_memory lacks)

abbrev Follows : Holding → List Command → Project → Type 0
Follows old cs last = (other after : List ℕ) × Replies old cs other (settled last after)

pub same_with_links : (p last : Project) (cs : List commands.Command) (out sent : List ℕ)
    → session.Replies p cs out last → Follows (settled p sent) (with_links cs) last
same_with_links p last [] out sent session.none = ([], sent, none)
same_with_links p last (Edit change ∷ cs) out sent (session.next {mid = mid} answer rest r more) =
    let first = staged p mid change answer r in
    let later = same_with_links mid last cs rest sent more in (
      first.0 ++ (linked_line (link mid) ++ later.0),
      later.1,
      next {mid = holding mid (link p) sent} first.0 _ (first.1, refl)
          (next {mid = settled mid sent} (linked_line (link mid)) later.0 linked later.2),
    )
same_with_links p last (Ask query ∷ cs) out sent (session.next {mid = mid} answer rest r more) =
    let first = asked_on p mid query answer sent r in
    let later = same_with_links mid last cs rest first.0 more in
    (answer ++ later.0, later.1, next answer later.0 first.1 later.2)

-- ---- what has changed

pub all_is_new : (sent image : List ℕ) (ranges : List ByteRange) → AreChanges [] image ranges
    → AreChanges sent image ranges
all_is_new sent image ranges all = record {
  within = all.within;
  same = λ at inside outside.
      let empty : None ≡ slice_get image at = all.same at inside outside in
      let never : None ≡ Some (get_or image at 0) = empty ∙ slice_get-get_or image at 0 inside in
      absurd (cc);
}
