-- What a run of a deferred session has answered at its end.
use Rattle.ldi_deferred.proofs.Common.{Appends, Appends-kept, Appends-trans, Consumes, Err, IfSome, IsAtEnd, IsBad}
use Rattle.ldi_deferred.proofs.Common.{Link, List, Long, None, Ok, Option, Progress, Project, Ran, Read, RunFault}
use Rattle.ldi_deferred.proofs.Common.{ServeStep, Some, Stepped, World, Write, [], append-nil, holding, inl, inr, refl}
use Rattle.ldi_deferred.proofs.Common.{subst, sym, ℕ, ◌++◌, ◌∙◌, ◌≡◌}
use Rattle.ldmodel.specs.Answers.{stream_line}
use Rattle.ldmodel_deferred.specs.Answers.{Answers, Ending, Holding, bad, ended}
use Rattle.ldi_stream.specs.Ran.{Flushed, status_of}
use Rattle.ldi_stream.specs.declared.Status.{Status}
use Rattle.ldi_stream.specs.declared.Status.TheVariants.{Done, Malformed}

abbrev pub Answered : World → World → Status → Type 0
Answered old new status =
    IfSome old.rest (λ stream. (out : List ℕ) × Appends old.written new.written out
    × Answers old.held stream out new.held (status_of status))

-- what is left of a stream that is shown
rest_told : (a b : Option (List ℕ)) (bytes : List ℕ) → Consumes a b bytes → (P : List ℕ → Type 0)
    → ((t : List ℕ) → b ≡ Some t → P (bytes ++ t)) → IfSome a P
rest_told None b bytes r P h = tt
rest_told (Some s) None bytes r P h = absurd r
rest_told (Some s) (Some t) bytes r P h = subst P (sym r) (h t refl)

end_known : (a b : Option (List ℕ)) (t : List ℕ) → Consumes a b [] → IsAtEnd b → a ≡ Some t → t ≡ []
end_known a b t r e k = go b (rw k at r) e
  where
    go : (b : Option (List ℕ)) → Consumes (Some t) b [] → IsAtEnd b → t ≡ []
    go None r e = absurd r
    go (Some u) r e = r ∙ e

at_end : (tail : List ℕ) (last mid : Holding) (status : Status) → tail ≡ [] → last ≡ mid
    → status ≡ Done mid.link.status → Ending tail [] last (status_of status)
at_end tail last mid status t l s = rw (t, l, s) (ended mid)

at_bad : (tail : List ℕ) (last : Holding) (status : Status) → IsBad tail → status ≡ Malformed
    → Ending tail stream_line last (status_of status)
at_bad tail last status b s = rw s (bad tail last b)

pub answered : (old new : World) (status : Status) → Ran old new (Ok status) → Answered old new status
answered old new status r =
    let mid = r.0 in
    let p = r.1 in
    rest_told old.rest mid.rest _ p.read _ (λ t k.
    elim r.2 [
      | inl e ↦ (
        p.answers,
        Appends-kept _ _ _ _ p.wrote e.wrote,
        record {
          commands = p.commands;
          tail = t;
          answers = p.answers;
          rest = [];
          each = p.each;
          cut = refl;
          replies = rw e.same p.replies;
          ending = at_end t new.held mid.held status (end_known mid.rest new.rest t e.read e.at k) e.same e.tells;
          all = sym (append-nil p.answers);
        },
      )
      | inr b ↦ (
        p.answers ++ stream_line,
        Appends-trans _ _ _ _ _ p.wrote b.wrote,
        record {
          commands = p.commands;
          tail = t;
          answers = p.answers;
          rest = stream_line;
          each = p.each;
          cut = refl;
          replies = rw b.same p.replies;
          ending = at_bad t new.held status (rw k at b.bad) b.tells;
          all = refl;
        },
      )
    ])

-- a run that ends at a fault of a step
pub ran_fault : (old mid new : World) (fault : RunFault) → Progress old mid → Stepped mid new (Err fault)
    → Ran old new (Err fault)
ran_fault old mid new Read p s = (mid, p, s)
ran_fault old mid new Write p s = (mid, p, s)
ran_fault old mid new Long p s = absurd s

-- nothing is held back where the fault of a step ends a run
pub flushed_fault : (old mid new : List ℕ) (fault : RunFault) → (old ≡ [] → mid ≡ [])
    → Flushed {T = ServeStep} mid new (Err fault) → Flushed {T = Status} old new (Err fault)
flushed_fault old mid new Read before after = λ e. after (before e)
flushed_fault old mid new Write before after = tt
flushed_fault old mid new Long before after = λ e. after (before e)

-- the image that was answered last is one that is remembered
pub with_sent : (rest old new : Option (List ℕ)) (from : Holding) (project : Project) (last : Link) (sent : List ℕ)
    (status : Status)
    → IfSome rest (λ stream. (out : List ℕ) × Appends old new out
    × Answers from stream out (holding project last sent) (status_of status))
    → IfSome rest (λ stream. (out kept : List ℕ) × Appends old new out
    × Answers from stream out (holding project last kept) (status_of status))
with_sent None old new from project last sent status h = tt
with_sent (Some stream) old new from project last sent status h = (h.0, sent, h.1, h.2)
