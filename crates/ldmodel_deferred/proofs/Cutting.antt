-- No spelling of a command of a deferred session begins another.
use Rattle.std.proofs.Common.{◌≡◌, ◌≢◌, ℕ, false, ◌==◌, List, [], ◌∷◌, ◌++◌, refl, sym, ap, ◌∙◌}
use Rattle.std.proofs.lemmas.Bool.{false≢true, eq-eqb}
use Rattle.ldmodel.specs.Commands as session
use Rattle.ldmodel.specs.Commands.{HasNo, Image, Map, Faults, Edit, Ask}
use Rattle.ldmodel.specs.Edits.{Add, Replace, Move, Remove, SetScript}
use Rattle.ldmodel_deferred.specs.Commands.{Command, Basic, MakeLink, AskChanges, IsCommand, line, spelling}

abbrev pub SessionNoFeeds : Type 0
SessionNoFeeds = (c : session.Command) → session.IsCommand c → HasNo 10 (session.line c)

abbrev pub SessionOneFirst : Type 0
SessionOneFirst = (c d : session.Command) (x y : List ℕ) → session.IsCommand c → session.IsCommand d
    → session.spelling c ++ x ≡ session.spelling d ++ y → (c ≡ d) × (x ≡ y)

differs : (x b : ℕ) → (x == b) ≡ false → x ≢ b
differs x b unlike same = false≢true (sym unlike ∙ eq-eqb x b same)

pub no_feed : SessionNoFeeds → (c : Command) → IsCommand c → HasNo 10 (line c)
no_feed session_no_feeds (Basic c) h = session_no_feeds c h
no_feed session_no_feeds MakeLink h =
    (differs _ _ refl, (differs _ _ refl, (differs _ _ refl, (differs _ _ refl, tt))))
no_feed session_no_feeds AskChanges h = (
  differs _ _ refl,
  (
    differs _ _ refl,
    (
      differs _ _ refl,
      (
        differs _ _ refl,
        (
          differs _ _ refl,
          (
            differs _ _ refl,
            (differs _ _ refl, tt),
          ),
        ),
      ),
    ),
  ),
)

-- the first byte of a text
abbrev first_byte : List ℕ → ℕ
first_byte [] = 0
first_byte (b ∷ bs) = b

apart : (xs ys : List ℕ) → xs ≡ ys → (first_byte xs == first_byte ys) ≡ false → ⊥
apart xs ys e unlike = false≢true (sym unlike ∙ eq-eqb (first_byte xs) (first_byte ys) (ap first_byte e))

-- no command of a session begins with these bytes
not_link : (c : session.Command) (x y : List ℕ) → session.spelling c ++ x ≡ spelling MakeLink ++ y → ⊥
unfolding session.line
not_link (Edit (Add name at bytes)) x y e = apart _ _ e refl
not_link (Edit (Replace name bytes)) x y e = apart _ _ e refl
not_link (Edit (Move name to)) x y e = apart _ _ e refl
not_link (Edit (Remove name)) x y e = apart _ _ e refl
not_link (Edit (SetScript text)) x y e = apart _ _ e refl
not_link (Ask Image) x y e = apart _ _ e refl
not_link (Ask Map) x y e = apart _ _ e refl
not_link (Ask Faults) x y e = apart _ _ e refl

not_changes : (c : session.Command) (x y : List ℕ) → session.spelling c ++ x ≡ spelling AskChanges ++ y → ⊥
unfolding session.line
not_changes (Edit (Add name at bytes)) x y e = apart _ _ e refl
not_changes (Edit (Replace name bytes)) x y e = apart _ _ e refl
not_changes (Edit (Move name to)) x y e = apart _ _ e refl
not_changes (Edit (Remove name)) x y e = apart _ _ e refl
not_changes (Edit (SetScript text)) x y e = apart _ _ e refl
not_changes (Ask Image) x y e = apart _ _ e refl
not_changes (Ask Map) x y e = apart _ _ e refl
not_changes (Ask Faults) x y e = apart _ _ e refl

pub one_first : SessionOneFirst → (c d : Command) (x y : List ℕ) → IsCommand c → IsCommand d
    → spelling c ++ x ≡ spelling d ++ y → (c ≡ d) × (x ≡ y)
one_first session_first (Basic c) (Basic d) x y i j e =
    let same = session_first c d x y i j e in
    (ap Basic same.0, same.1)
one_first session_first (Basic c) MakeLink x y i j e = absurd (not_link c x y e)
one_first session_first (Basic c) AskChanges x y i j e = absurd (not_changes c x y e)
one_first session_first MakeLink (Basic d) x y i j e = absurd (not_link d y x (sym e))
one_first session_first MakeLink MakeLink x y i j e = (refl, cc)
one_first session_first MakeLink AskChanges x y i j e = absurd (apart _ _ e refl)
one_first session_first AskChanges (Basic d) x y i j e = absurd (not_changes d y x (sym e))
one_first session_first AskChanges MakeLink x y i j e = absurd (apart _ _ e refl)
one_first session_first AskChanges AskChanges x y i j e = (refl, cc)
