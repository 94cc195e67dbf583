-- An edit that is staged, and linked later or not at all.
use Rattle.relink.proofs.Common.{AreKeysDistinct, AreOrigins, AreOriginsRefreshed, Bool, Deferred, EditEffect, Global}
use Rattle.relink.proofs.Common.{HasPreviousImage, HasTables, HasUpdateOutcome, IfSome, IsAfterFault, IsEffect}
use Rattle.relink.proofs.Common.{IsLinkSnapshot, IsOfGoodLink, IsPreviousLink, IsRecorded, IsRewrittenBy, LinkOutcome}
use Rattle.relink.proofs.Common.{LinkTables, List, Listed, Listing, NamedObject, Names, None, Option, PreviousLink}
use Rattle.relink.proofs.Common.{PreviousState, ProjectState, PutsByName, PutsNoneOf, PutsSame, SameHolding, Some}
use Rattle.relink.proofs.Common.{Staged, UpdateOutcome, Vec, ap, arith, false, found_under, held, is_good, is_some}
use Rattle.relink.proofs.Common.{keys_of, length, length-map, lent, lent_later, link, listing_of, map, nat_eq}
use Rattle.relink.proofs.Common.{next_found, next_listing, nothing_edited, objects_of, origin_of, position, project_of}
use Rattle.relink.proofs.Common.{refl, same_Some, shown, subst, sym, true, ℕ, ◌&&◌, ◌∙◌, ◌≡◌}
use Rattle.relink.specs.Deferred.{HasStaged, IsLastGood, IsSeenAs, IsStaged, IsUpdatedOver, staged_listing}
use Rattle.relink.specs.declared.outcome.LinkOutcome.TheVariants as outcome
use Rattle.relink.proofs.OriginsFollow.{origins_by_place}
use Rattle.relink.proofs.Lending.{IsFollowing, ended, following, kept_after_fault, renewed_last, same_listing}

pub same_holding : (h : ProjectState) → SameHolding h h
same_holding h = record { contents = record { same = refl; room = omega arith }; rest = refl }

-- an edit sees of the previous link what is known of it
pub seen_previous : (is_linked : Bool) (l : Listing) (bytes : List ℕ) (o seen : LinkOutcome)
    (previous : Option PreviousLink) → IsSeenAs is_linked o seen → IsLastGood is_linked l bytes o previous
    → IsPreviousLink l bytes seen previous
seen_previous true l bytes o seen previous like is =
    subst (λ (a : LinkOutcome). IsPreviousLink l bytes a previous) (sym like) is
seen_previous false l bytes o (outcome.Good m) previous like is = absurd (cc)
seen_previous false l bytes o (outcome.Faulty t) previous like is = is

-- the previous link without faults, after a link
pub last_good : (l : Listing) (bytes : List ℕ) (o : LinkOutcome) (previous : Option PreviousLink)
    → IsPreviousLink l bytes o previous → IsLastGood false l bytes o previous
last_good l bytes (outcome.Good m) None is = absurd is
last_good l bytes (outcome.Good m) (Some x) is = is.kept
last_good l bytes (outcome.Faulty t) previous is = is

pub any_last_good : (is_linked : Bool) (l : Listing) (bytes : List ℕ) (o : LinkOutcome)
    (previous : Option PreviousLink) → IsLastGood is_linked l bytes o previous → IsLastGood false l bytes o previous
any_last_good true l bytes o previous is = last_good l bytes o previous is
any_last_good false l bytes o previous is = is

-- where the project was not linked before the edit, no image is rewritten in place
never_rewritten : (h : ProjectState) (s : Staged) (seen : LinkOutcome) (previous : Option PreviousLink) (known : Bool)
    (e : EditEffect) (new : List ℕ) (v : Vec (Option ℕ) Global) → is_good seen ≡ false → e.is_answered ≡ is_good seen
    → IsRewrittenBy (next_listing h s) (lent previous known e h s) new v.items → ⊥
never_rewritten h s seen None known e new v stale answered by =
    let was = by.end.was in let never : ⊥ = cc in never
never_rewritten h s seen (Some x) false e new v stale answered by =
    let was = by.end.was in let never : ⊥ = cc in never
never_rewritten h s seen (Some x) true e new v stale answered by =
    let no : false ≡ true =
    sym stale ∙ (sym answered ∙ (ap (λ (z : PreviousState). z.is_answered) (same_Some _ _ by.end.was) ∙ by.end.current))
    in
    absurd (cc)

module _ (h : ProjectState) (s : Staged) (same : Bool) (bytes new : List ℕ) (seen : LinkOutcome)
    (previous : Option PreviousLink) (e : EditEffect) (x : IsFollowing h s same bytes seen previous e) where
  renewed : (is_linked : Bool) (before : LinkOutcome) (later : Option PreviousLink) (v : Vec (Option ℕ) Global)
      → IsSeenAs is_linked before seen → (is_linked ≡ true → shown bytes before ≡ link (held h))
      → IsRewrittenBy (next_listing h s) (lent previous e.keeps_previous e h s) new v.items
      → AreOriginsRefreshed v previous later
      → (shown new before ≡ link (project_of (next_listing h s))) × IsPreviousLink (next_listing h s) new before later
  renewed true before later v like answers by again =
      subst (λ (a : LinkOutcome).
      (shown new a ≡ link (project_of (next_listing h s))) × IsPreviousLink (next_listing h s) new a later) like
      (renewed_last h s same bytes new seen e previous later e.keeps_previous v x.edit refl x.kept x.effect
      (ap (shown bytes) like ∙ answers refl) by again)
  renewed false before later v like answers by again =
      absurd (never_rewritten h s seen previous e.keeps_previous e new v like x.effect.answered by)

  -- what a link over the previous one leads to
  pub updated_over : (f : UpdateOutcome)
      → HasUpdateOutcome (next_listing h s) (lent previous e.keeps_previous e h s) bytes new f
      → IsUpdatedOver h s bytes seen previous new f e
  updated_over f updated = λ is_linked before after later like answers end.
      ended (next_listing h s) (lent previous e.keeps_previous e h s) bytes new f e previous later before after updated
      end
      (λ kept. kept_after_fault h s same bytes seen e x.edit previous kept e.keeps_previous refl x.kept x.effect)
      (λ v by again. renewed is_linked before later v like answers by again)

-- what is known of a staged edit beside the previous link
pub staged_following : (h : ProjectState) (s : Staged) (same : Bool) (bytes : List ℕ) (seen : LinkOutcome)
    (previous : Option PreviousLink) (e : EditEffect) (l : Listing) (keys : List ℕ) → IsStaged h s
    → l ≡ next_listing h s
    → ((key : ℕ) → found_under l.entries key ≡ next_found h.contents.entries s.objects.step key)
    → keys ≡ keys_of l.entries → AreKeysDistinct keys
    → ((es : List Listed) (key : ℕ) → is_some (position (nat_eq key) (keys_of es)) ≡ is_some (found_under es key))
    → (same ≡ true → PutsSame h.contents.entries s.objects.step)
    → (same ≡ false → PutsNoneOf (objects_of h.contents.entries) s.objects.step)
    → PutsByName h.contents.entries s.objects.step → IsEffect h s same seen previous e
    → IsPreviousLink (listing_of h) bytes seen previous → IsFollowing h s same bytes seen previous e
staged_following h s same bytes seen previous e l keys staged is found are distinct placed puts other named effect
    kept =
    following h h s same bytes seen previous e l keys (same_holding h) kept staged.fits staged.arranged is found are
    distinct placed puts other named effect

-- without a link the previous one stays, but for the object that the edit changes
pub linked_last : (h later : ProjectState) (s : Staged) (same : Bool) (bytes : List ℕ) (seen : LinkOutcome)
    (previous after : Option PreviousLink) (e : EditEffect) → IsFollowing h s same bytes seen previous e
    → IsAfterFault e.keeps_previous e.stale_key e.same_script previous after → listing_of later ≡ next_listing h s
    → IsLastGood false (listing_of later) bytes seen after
linked_last h later s same bytes seen previous after e x fault is =
    subst (λ (l : Listing). IsLastGood false l bytes seen after) (sym is)
    (kept_after_fault h s same bytes seen e x.edit previous after e.keeps_previous refl x.kept x.effect fault)

-- ---- what is kept while an edit is staged

-- what is known of the last link after the edit before was made without one
pub unlinked : (h0 h1 h2 : ProjectState) (bytes : List ℕ) (o : LinkOutcome) (p0 p1 : Option PreviousLink)
    (b0 b1 : Bool) → SameHolding h1 h2
    → ((xs : List ℕ) → IsLastGood b0 (listing_of h0) xs o p0 → IsLastGood b1 (listing_of h1) xs o p1)
    → (b1 ≡ true → (b0 ≡ true) × (listing_of h1 ≡ listing_of h0))
    → IsLastGood b0 (listing_of h0) bytes o p0 → (b0 ≡ true → shown bytes o ≡ link (held h0))
    → IsLastGood b1 (listing_of h2) bytes o p1 × (b1 ≡ true → shown bytes o ≡ link (held h2))
unlinked h0 h1 h2 bytes o p0 p1 b0 b1 more goes linked good answers =
    let same : listing_of h1 ≡ listing_of h2 = same_listing h1 h2 more in (
      subst (λ (l : Listing). IsLastGood b1 l bytes o p1) same (goes bytes good),
      λ e.
          let was = linked e in
          answers was.0 ∙ ap (λ (l : Listing). link (project_of l)) (sym was.1 ∙ same),
    )

-- where no edit is staged
pub without_staged : (h : ProjectState) (staged : Option Staged) (tables : Option LinkTables)
    → staged ≡ None → HasTables (listing_of h) tables
    → HasStaged h staged × HasTables (staged_listing h staged) tables
without_staged h None tables none kept = (tt, kept)
without_staged h (Some s) tables none kept = absurd (cc)

pub no_staged : (h : ProjectState) (staged : Option Staged) → staged ≡ None → staged_listing h staged ≡ listing_of h
no_staged h None none = refl
no_staged h (Some s) none = absurd (cc)

-- an edit made without a link leads to the project that it was staged for
pub made : (h0 h1 h2 : ProjectState) (st : Option Staged) → listing_of h1 ≡ staged_listing h0 st → SameHolding h1 h2
    → listing_of h2 ≡ staged_listing h0 st
made h0 h1 h2 st is more = sym (same_listing h1 h2 more) ∙ is

first_true : (a : Bool) → (a && true) ≡ true → a ≡ true
first_true true h = refl
first_true false h = absurd (cc)

-- a link with faults leaves the previous one as it is
pub kept_anyway : (l : Listing) (bytes : List ℕ) (o : LinkOutcome) (previous later : Option PreviousLink)
    → IsLastGood false l bytes o previous → IsAfterFault true None true previous later
    → IfSome later (IsOfGoodLink l bytes)
kept_anyway l bytes o previous None is fault = tt
kept_anyway l bytes o None (Some y) is fault = absurd fault
kept_anyway l bytes o (Some x) (Some y) is fault = record {
  old = is.old;
  table = subst (λ g. IsLinkSnapshot is.old g) (sym fault.0) is.table;
  names = ap (λ (names : Names). names.names) fault.1 ∙ is.names;
  since = record {
    same = λ key j object found at. is.since.same key j object found (sym (fault.3 key) ∙ at);
    fresh = λ key object found at. is.since.fresh key object found (sym (fault.3 key) ∙ at);
  };
  options = is.options;
  script = λ stays. is.script (first_true x.same_script (sym fault.2 ∙ stays));
  image = is.image;
}

-- where the next edit is not staged, all is kept as it was
pub staying : (h0 h1 h2 : ProjectState) (now : Option Staged) (tables : Option LinkTables)
    (bytes : List ℕ) (o : LinkOutcome) (p0 p1 : Option PreviousLink) (b0 b1 : Bool) → now ≡ None → SameHolding h1 h2
    → ((xs : List ℕ) → IsLastGood b0 (listing_of h0) xs o p0 → IsLastGood b1 (listing_of h1) xs o p1)
    → (b1 ≡ true → (b0 ≡ true) × (listing_of h1 ≡ listing_of h0))
    → IsLastGood b0 (listing_of h0) bytes o p0 → (b0 ≡ true → shown bytes o ≡ link (held h0))
    → HasTables (listing_of h2) tables
    → HasStaged h2 now × HasTables (staged_listing h2 now) tables × IsLastGood b1 (listing_of h2) bytes o p1
    × (b1 ≡ true → shown bytes o ≡ link (held h2))
staying h0 h1 h2 now tables bytes o p0 p1 b0 b1 none more goes linked good answers kept =
    let both = without_staged h2 now tables none kept in
    let last = unlinked h0 h1 h2 bytes o p0 p1 b0 b1 more goes linked good answers in
    (both.0, both.1, last.0, last.1)

-- the project that a session shows, by that for which the next edit is staged
pub shown_project : (h0 h1 h2 : ProjectState) (st : Option Staged) (d : Deferred)
    → listing_of h1 ≡ staged_listing h0 st → SameHolding h1 h2 → project_of (staged_listing h0 st) ≡ d.project
    → held h2 ≡ d.project
shown_project h0 h1 h2 st d is more shows = ap project_of (made h0 h1 h2 st is more) ∙ shows

-- ---- a link some edits after the previous one

-- which is lent as it is kept
pub later_lent : (h : ProjectState) (bytes : List ℕ) (o : LinkOutcome) (previous : Option PreviousLink) (keys : List ℕ)
    → IsLastGood false (listing_of h) bytes o previous → keys ≡ keys_of h.contents.entries → AreKeysDistinct keys
    → IfSome (lent_later previous keys) (HasPreviousImage (held h) bytes)
later_lent h bytes o None keys kept are distinct = tt
later_lent h bytes o (Some x) keys kept are distinct =
    let es : List Listed = h.contents.entries in
    let origin : ℕ → Option ℕ = origin_of x.origins.items in
    record {
      old = kept.old;
      is = record {
        table = kept.table;
        objects = (
            let same = ap length kept.names in
            let objects = length-map kept.old.project.objects (λ (object : NamedObject). object.name) in
            omega (arith, same, objects));
        options = kept.options;
        origins = subst (λ (ks : List ℕ). AreOrigins kept.old.project (held h) (map origin ks)) (sym are)
            (origins_by_place kept.old.project (held h) es origin (subst AreKeysDistinct are distinct) refl kept.since);
        script = λ stays. kept.script (first_true x.same_script stays);
        replaced = tt;
      };
      image = kept.image;
    }

-- no image is rewritten in place
not_rewritten_later : (l : Listing) (previous : Option PreviousLink) (keys : List ℕ) (new : List ℕ)
    (v : Vec (Option ℕ) Global) → IsRewrittenBy l (lent_later previous keys) new v.items → ⊥
not_rewritten_later l None keys new v by =
    let was = by.end.was in let never : ⊥ = cc in never
not_rewritten_later l (Some x) keys new v by =
    let no : false ≡ true = ap (λ (z : PreviousState). z.is_answered) (same_Some _ _ by.end.was) ∙ by.end.current in
    absurd (cc)

pub linked_later : (l : Listing) (keys : List ℕ) (old new : List ℕ) (f : UpdateOutcome)
    (previous after : Option PreviousLink) (b a : LinkOutcome) → HasUpdateOutcome l (lent_later previous keys) old new f
    → IsRecorded f nothing_edited previous after b a → IsLastGood false l old b previous
    → (shown new a ≡ link (project_of l)) × IsPreviousLink l new a after
linked_later l keys old new f previous after b a updated end good =
    ended l (lent_later previous keys) old new f nothing_edited previous after b a updated end
    (λ later fault. kept_anyway l old b previous later good fault)
    (λ v by again. absurd (not_rewritten_later l previous keys new v by))

-- ---- a link of the staged edit

-- the project with the edit that is staged
pub with_staged : (h : ProjectState) (staged : Option Staged) (s : Staged) → staged ≡ Some s
    → staged_listing h staged ≡ next_listing h s
with_staged h staged s is = ap (staged_listing h) is

-- after the link no edit is staged, and the last link is that of the project
pub linked_now : (h later : ProjectState) (s : Staged) (now : Option Staged) (tables : Option LinkTables)
    (bytes : List ℕ) (a : LinkOutcome) (previous : Option PreviousLink) → now ≡ None
    → listing_of later ≡ next_listing h s → HasTables (next_listing h s) tables
    → (shown bytes a ≡ link (project_of (next_listing h s))) × IsPreviousLink (next_listing h s) bytes a previous
    → HasStaged later now × HasTables (staged_listing later now) tables
    × IsPreviousLink (listing_of later) bytes a previous
    × (true ≡ true → shown bytes a ≡ link (held later))
linked_now h later s now tables bytes a previous none is kept both =
    let same = without_staged later now tables none (subst (λ (l : Listing). HasTables l tables) (sym is) kept) in (
      same.0,
      same.1,
      subst (λ (l : Listing). IsPreviousLink l bytes a previous) (sym is) both.1,
      λ yes. both.0 ∙ ap (λ (l : Listing). link (project_of l)) (sym is),
    )
