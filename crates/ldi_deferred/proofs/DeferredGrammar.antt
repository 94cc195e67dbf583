-- Bytes that no command of a deferred session begins.
use Rattle.ldi_deferred.proofs.Common.{AskChanges, Basic, BeginsCommand, Command, Consumes, HasLine, IfSome, IsAtEnd}
use Rattle.ldi_deferred.proofs.Common.{IsBad, IsCommand, List, MakeLink, None, Ok, Option, SaysNothing, Some, [], ap}
use Rattle.ldi_deferred.proofs.Common.{append-nil, append_assoc, arith, inl, inr, length, length-append, line, payload}
use Rattle.ldi_deferred.proofs.Common.{spelling, subst, sym, take, ℕ, ◌++◌, ◌<◌, ◌∙◌, ◌∷◌, ◌≡◌, ◌≤◌}
use Rattle.ldmodel.specs.Commands.{HasNo}
use Rattle.ldi_stream.specs.Stepped.{LineRead}
use Rattle.ldi_stream.specs.declared.line.LineEnd.TheVariants.{Line, Broken}
use Rattle.ldi_stream.proofs.StreamBytes.{first_cut, no_cut, within_cut}

-- laws of the language
abbrev pub NoFeeds : Type 0
NoFeeds = (c : Command) → IsCommand c → HasNo 10 (line c)

abbrev pub OneFirst : Type 0
OneFirst = (c d : Command) (x y : List ℕ) → IsCommand c → IsCommand d → spelling c ++ x ≡ spelling d ++ y → (c ≡ d)
    × (x ≡ y)

abbrev pub NotBegun : List ℕ → Type 0
NotBegun bytes = BeginsCommand bytes → ⊥

spelled : (c : Command) (more : List ℕ) → spelling c ++ more ≡ line c ++ 10 ∷ (payload c ++ more)
spelled c more = append_assoc (line c) (10 ∷ payload c) more

-- less than a line, and the stream's end or the fault comes
pub no_line : (bytes : List ℕ) → HasNo 10 bytes → NotBegun bytes
no_line bytes h b = no_cut 10 bytes (line b.command) (payload b.command ++ b.more) h (b.cut ∙ spelled b.command b.more)

-- the line of a command has at most 512 bytes
short_line : (c : Command) → IsCommand c → length (line c) ≤ 512
short_line (Basic c) h = h.short
short_line MakeLink h = omega arith
short_line AskChanges h = omega arith

-- a line that is too long
pub long_line : (bytes more : List ℕ) → HasNo 10 bytes → 512 < length bytes → NotBegun (bytes ++ more)
long_line bytes more h l b =
    let short = within_cut 10 bytes _ more _ h (b.cut ∙ spelled b.command b.more) in
    omega (arith, short, short_line b.command b.is)

-- a line that says nothing
pub no_head : NoFeeds → (text more : List ℕ) → HasNo 10 text → SaysNothing text → NotBegun (text ++ 10 ∷ more)
no_head no_feeds text more n h b =
    let cut = first_cut 10 text _ more _ n (no_feeds b.command b.is) (b.cut ∙ spelled b.command b.more) in
    h b.command (record { is = b.is; spelled = sym cut.0 })

-- a payload that is cut short: with more bytes, it would be that of another command
pub short_payload : OneFirst → (c : Command) (text part missing : List ℕ) → HasLine text c
    → payload c ≡ part ++ missing → 0 < length missing → NotBegun (text ++ 10 ∷ part)
short_payload one_first c text part missing h is some b =
    let whole : spelling c ++ [] ≡ (text ++ 10 ∷ part) ++ missing =
    append-nil (spelling c) ∙ ap (λ l. line c ++ 10 ∷ l) is ∙ ap (λ l. l ++ 10 ∷ (part ++ missing)) h.spelled
    ∙ sym (append_assoc text (10 ∷ part) missing) in
    let other : (text ++ 10 ∷ part) ++ missing ≡ spelling b.command ++ (b.more ++ missing) =
    ap (λ l. l ++ missing) b.cut ∙ append_assoc (spelling b.command) b.more missing in
    let same = one_first c b.command [] (b.more ++ missing) h.is b.is (whole ∙ other) in
    let none = ap length same.1 ∙ length-append b.more missing in
    omega (arith, none, some)

-- the same of what a reader shows
bad_known : (old new : Option (List ℕ)) (bytes : List ℕ) → 0 < length bytes
    → ((more : List ℕ) → NotBegun (bytes ++ more)) → Consumes old new bytes → IfSome old IsBad
bad_known None new bytes l h r = tt
bad_known (Some s) None bytes l h r = absurd r
bad_known (Some s) (Some t) bytes l h r = record {
  some = λ e. let long = ap length (sym r ∙ e) in absurd (omega (arith, sym (length-append bytes t) ∙ long));
  none = λ b. h t (subst BeginsCommand r b);
}

pub bad_at_end : (old new : Option (List ℕ)) (bytes : List ℕ) → 0 < length bytes → NotBegun bytes
    → Consumes old new bytes → IsAtEnd new → IfSome old IsBad
bad_at_end None new bytes l h r e = tt
bad_at_end (Some s) None bytes l h r e = absurd r
bad_at_end (Some s) (Some t) bytes l h r e =
    let whole : s ≡ bytes = r ∙ ap (λ x. bytes ++ x) e ∙ append-nil bytes in
    record {
      some = λ f. absurd (omega (arith, ap length (sym whole ∙ f)));
      none = λ b. h (subst BeginsCommand whole b);
    }

pub broken_tail : (E : Type 0) (old new : Option (List ℕ)) (text : List ℕ) → LineRead {E = E} old new text (Ok Broken)
    → IfSome old IsBad
broken_tail E old new text r =
    elim r.4 [
      | inl e ↦ bad_at_end old new r.0 r.1 (no_line r.0 r.2) r.3 e
      | inr l ↦ bad_known old new r.0 r.1 (λ more. long_line r.0 more r.2 l) r.3
    ]

pub unread_line : NoFeeds → (E : Type 0) (old new : Option (List ℕ)) (text : List ℕ) (n : ℕ)
    → LineRead {E = E} old new text (Ok (Line n)) → SaysNothing (take n text) → IfSome old IsBad
unread_line no_feeds E old new text n r none =
    bad_known old new (take n text ++ 10 ∷ []) (rw length-append (omega arith))
    (λ more. rw append_assoc (no_head no_feeds (take n text) more r.1 none)) r.2
