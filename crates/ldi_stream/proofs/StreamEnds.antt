use Rattle.ldi_stream.proofs.Common.{Answers, Appends, Appends-kept, Appends-trans, Consumes, Ending, IfSome, IsAtEnd}
use Rattle.ldi_stream.proofs.Common.{List, None, Ok, Option, Project, Ran, Some, World, [], append-nil, bad, ended, inl}
use Rattle.ldi_stream.proofs.Common.{inr, refl, status_of, stream_line, subst, sym, ℕ, ◌++◌, ◌∙◌, ◌≡◌}
use Rattle.ldmodel.specs.Commands.{IsBad}
use Rattle.ldmodel.specs.Link.{link}
use Rattle.ldi_stream.specs.declared.Status.{Status}
use Rattle.ldi_stream.specs.declared.Status.TheVariants.{Done, Malformed}

abbrev pub Answered : World → World → Status → Type 0
Answered old new status =
    IfSome old.rest (λ stream. (out : List ℕ) × Appends old.written new.written out
    × Answers old.project stream out new.project (status_of status))

-- what is left of a stream that is shown
rest_told : (a b : Option (List ℕ)) (bytes : List ℕ) → Consumes a b bytes → (P : List ℕ → Type 0)
    → ((t : List ℕ) → b ≡ Some t → P (bytes ++ t)) → IfSome a P
rest_told None b bytes r P h = tt
rest_told (Some s) None bytes r P h = absurd r
rest_told (Some s) (Some t) bytes r P h = subst P (sym r) (h t refl)

end_known : (a b : Option (List ℕ)) (t : List ℕ) → Consumes a b [] → IsAtEnd b → a ≡ Some t → t ≡ []
end_known a b t r e k = go b (rw k at r) e
  where
    go : (b : Option (List ℕ)) → Consumes (Some t) b [] → IsAtEnd b → t ≡ []
    go None r e = absurd r
    go (Some u) r e = r ∙ e

at_end : (tail : List ℕ) (last mid : Project) (status : Status) → tail ≡ [] → last ≡ mid
    → status ≡ Done (link mid).status → Ending tail [] last (status_of status)
at_end tail last mid status t l s = rw (t, l, s) (ended mid)

at_bad : (tail : List ℕ) (last : Project) (status : Status) → IsBad tail → status ≡ Malformed
    → Ending tail stream_line last (status_of status)
at_bad tail last status b s = rw s (bad tail last b)

pub answered : (old new : World) (status : Status) → Ran old new (Ok status) → Answered old new status
answered old new status r =
    let mid = r.0 in
    let p = r.1 in
    rest_told old.rest mid.rest _ p.read _ (λ t k.
    elim r.2 [
      | inl e ↦ (
        p.answers,
        Appends-kept _ _ _ _ p.wrote e.wrote,
        record {
          commands = p.commands;
          tail = t;
          answers = p.answers;
          rest = [];
          each = p.each;
          cut = refl;
          replies = rw e.same p.replies;
          ending = at_end t new.project mid.project status (end_known mid.rest new.rest t e.read e.at k) e.same e.tells;
          all = sym (append-nil p.answers);
        },
      )
      | inr b ↦ (
        p.answers ++ stream_line,
        Appends-trans _ _ _ _ _ p.wrote b.wrote,
        record {
          commands = p.commands;
          tail = t;
          answers = p.answers;
          rest = stream_line;
          each = p.each;
          cut = refl;
          replies = rw b.same p.replies;
          ending = at_bad t new.project status (rw k at b.bad) b.tells;
          all = refl;
        },
      )
    ])
