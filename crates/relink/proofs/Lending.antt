-- The previous link without faults beside a next project, and after an edit.
use Rattle.relink.proofs.Common.{AreKeysDistinct, AreOrigins, AreOriginsRefreshed, AreTablesOf, Bool, ChangesOneObject}
use Rattle.relink.proofs.Common.{Contents, EditEffect, Faulty, Global, Good, GoodLink, HasPlaces, HasPreviousImage}
use Rattle.relink.proofs.Common.{HasUpdateOutcome, IfSome, IsAfterFault, IsAnswered, IsEffect, IsGoodOutcome}
use Rattle.relink.proofs.Common.{IsInPlaceOutcome, IsLinkSnapshot, IsOfGoodLink, IsPreviousLink, IsPreviousOf}
use Rattle.relink.proofs.Common.{IsRecorded, IsReplaced, IsRewrittenBy, IsSince, Link, LinkOutcome, List, Listed}
use Rattle.relink.proofs.Common.{Listing, Matches, NamedObject, Names, None, Option, PreviousLink, PreviousState}
use Rattle.relink.proofs.Common.{Project, ProjectState, PutsByName, PutsNoneOf, PutsSame, RewrittenInPlace, SameHolding}
use Rattle.relink.proofs.Common.{Some, Staged, Statement, Step, SymbolTableState, UpdateOutcome, Vec, [], ap, arith}
use Rattle.relink.proofs.Common.{edited_key, false, found_under, held, is_some, keys_of, length, length-map, lent, link}
use Rattle.relink.proofs.Common.{listing_of, map, nat_eq, next_found, next_listing, next_view, objects_of, option_map}
use Rattle.relink.proofs.Common.{origin_of, place_in, position, project_of, refl, replaced_by, replaced_in, same_Some}
use Rattle.relink.proofs.Common.{shown, stale_key_of, subst, sym, true, unnamed, unwrap_or, without, ℕ, ◌&&◌, ◌∙◌, ◌≡◌}
use Rattle.ldmodel.specs.Image.{image}
use Rattle.ldmodel.specs.MapText.{map_text}
use Rattle.ldmodel_project.specs.Next.{CanStep, Fits}
use Rattle.ldmodel_project.specs.declared.staged.Step.TheVariants.{Put, Remove, Move, Stay}
use Rattle.relink.specs.declared.outcome.LinkOutcome.TheVariants as outcome
use Rattle.relink.proofs.Putting.{found_counted}
use Rattle.relink.proofs.OriginsFollow.{next_put, origins_by_place, since_next, since_places, stands_there, under_key}

pub same_listing : (old new : ProjectState) → SameHolding old new → listing_of old ≡ listing_of new
same_listing old new same =
    let listing : List Listed → ProjectState → Listing =
    λ es h. record { entries = es; script = h.script; options = h.options } in
    sym (ap (λ (es : List Listed). listing es new) (ap (λ (c : Contents). c.entries) same.contents.same)
    ∙ ap (listing old.contents.entries) same.rest)

-- what is known of a staged edit, which puts an object over the same one, or another
pub record IsKnownEdit (h : ProjectState) (s : Staged) (same : Bool) : Type 0 where
  pub found :
      (key : ℕ) → found_under (next_listing h s).entries key ≡ next_found h.contents.entries s.objects.step key
  pub keys : AreKeysDistinct (keys_of (next_listing h s).entries)
  pub placed : (key : ℕ) → is_some (position (nat_eq key) (keys_of (next_listing h s).entries))
      ≡ is_some (found_under (next_listing h s).entries key)
  pub fits : Fits h.contents s.objects
  pub arranged : ChangesOneObject h.contents.entries s.objects
  pub puts : same ≡ true → PutsSame h.contents.entries s.objects.step
  pub other : same ≡ false → PutsNoneOf (objects_of h.contents.entries) s.objects.step
  pub named : PutsByName h.contents.entries s.objects.step

-- what is known where an edit is linked over the previous link
pub record IsFollowing (h : ProjectState) (s : Staged) (same : Bool) (bytes : List ℕ) (a : LinkOutcome)
    (previous : Option PreviousLink)
    (e : EditEffect) : Type 0 where
  pub edit : IsKnownEdit h s same
  pub effect : IsEffect h s same a previous e
  pub kept : IsPreviousLink (listing_of h) bytes a previous

pub following : (before h : ProjectState) (s : Staged) (same : Bool) (bytes : List ℕ) (a : LinkOutcome)
    (previous : Option PreviousLink)
    (e : EditEffect) (l : Listing) (keys : List ℕ) → SameHolding before h
    → IsPreviousLink (listing_of before) bytes a previous
    → Fits h.contents s.objects → ChangesOneObject h.contents.entries s.objects → l ≡ next_listing h s
    → ((key : ℕ) → found_under l.entries key ≡ next_found h.contents.entries s.objects.step key)
    → keys ≡ keys_of l.entries → AreKeysDistinct keys
    → ((es : List Listed) (key : ℕ) → is_some (position (nat_eq key) (keys_of es)) ≡ is_some (found_under es key))
    → (same ≡ true → PutsSame h.contents.entries s.objects.step)
    → (same ≡ false → PutsNoneOf (objects_of h.contents.entries) s.objects.step)
    → PutsByName h.contents.entries s.objects.step → IsEffect h s same a previous e
    → IsFollowing h s same bytes a previous e
following before h s same bytes a previous e l keys more kept fits arranged is found are distinct placed puts other
    named
    effect = record {
      edit = record {
        found = λ key. sym (ap (λ (x : Listing). found_under x.entries key) is) ∙ found key;
        keys = subst (λ (x : Listing). AreKeysDistinct (keys_of x.entries)) is (subst AreKeysDistinct are distinct);
        placed = placed (next_listing h s).entries;
        fits = fits;
        arranged = arranged;
        puts = puts;
        other = other;
        named = named;
      };
      effect = effect;
      kept = subst (λ (x : Listing). IsPreviousLink x bytes a previous) (same_listing before h more) kept;
    }

abbrev pub kept_of : (l : Listing) (bytes : List ℕ) (a : LinkOutcome) (x : PreviousLink)
    → IsPreviousLink l bytes a (Some x)
    → IsOfGoodLink l bytes x
kept_of l bytes (outcome.Good m) x is = is.kept
kept_of l bytes (outcome.Faulty t) x is = is

-- the object that is put, where it isn't the same one, is none of the previous link
pub none_of_last : (h : ProjectState) (s : Staged) (same : Bool) (bytes : List ℕ) (a : LinkOutcome) (x : PreviousLink)
    (e : EditEffect)
    (is : IsPreviousLink (listing_of h) bytes a (Some x)) → IsKnownEdit h s same → IsEffect h s same a (Some x) e
    → e.keeps_previous ≡ true → same ≡ false
    → PutsNoneOf (kept_of (listing_of h) bytes a x is).old.project.objects s.objects.step
none_of_last h s same bytes (outcome.Good m) x e is edit effect known other =
    subst (λ (p : Project). PutsNoneOf p.objects s.objects.step) (sym is.project) (edit.other other)
none_of_last h s same bytes (outcome.Faulty t) x e is edit effect known other =
    effect.lacks_put_object refl known is.old.project.objects is.names is.since

both_true : (a b : Bool) → (a && b) ≡ true → (a ≡ true) × (b ≡ true)
both_true true b h = (refl, h)
both_true false b h = absurd (cc)

-- the object in whose place one comes is lent as it was
replaced_right : (old : Project) (h : ProjectState) (s : Staged) (same : Bool) (origin : ℕ → Option ℕ)
    → IsKnownEdit h s same → IsSince old.objects origin h.contents.entries
    → IfSome (replaced_in origin h.contents.entries s.objects.step s.objects.places.after)
    (IsReplaced old (project_of (next_listing h s)))
replaced_right old h s same origin edit since =
    by_step s.objects.step edit.found edit.arranged.place_after edit.fits.step
  where
    es : List Listed
    es = h.contents.entries

    next : List Listed
    next = (next_listing h s).entries

    by_step : (step : Step) → ((key : ℕ) → found_under next key ≡ next_found es step key)
        → s.objects.places.after ≡ place_in (keys_of next) (edited_key step) → CanStep h.contents step
        → IfSome (replaced_in origin es step s.objects.places.after) (IsReplaced old (project_of (next_listing h s)))
    by_step (Put new named) found place can = at (origin new) (found_under es new) s.objects.places.after refl refl refl
      where
        at : (j : Option ℕ) (f : Option NamedObject) (a : Option ℕ) → origin new ≡ j → found_under es new ≡ f
            → s.objects.places.after ≡ a
            → IfSome (replaced_by j (option_map (λ (o : NamedObject). o.object) f) a)
            (IsReplaced old (project_of (next_listing h s)))
        at None f a oj of oa = tt
        at (Some j) None a oj of oa = tt
        at (Some j) (Some y) None oj of oa = tt
        at (Some j) (Some y) (Some i) oj of oa = record {
          before = y;
          after = named;
          old = since.same new j y of oj;
          new = under_key next i new edit.keys (stands_there new (keys_of next) i (sym place ∙ oa))
              ∙ (found new ∙ next_put es new named);
          object = refl;
          name = can.1 (found_counted es new y of) ∙ ap (λ (o : Option NamedObject). (unwrap_or o unnamed).name) of;
        }
    by_step (Remove removed) found place can = tt
    by_step (Move moved) found place can = tt
    by_step Stay found place can = tt

-- the origins of what is lent, by the edit
pub from_edit : (h : ProjectState) (s : Staged) (same : Bool) (x : PreviousLink) (e : EditEffect)
    → e.stale_key ≡ stale_key_of same s.objects.step
    → (next_view x e h s).origins ≡ map (without (origin_of x.origins.items) (stale_key_of same s.objects.step))
    (keys_of (next_listing h s).entries)
from_edit h s same x e gone =
    ap (λ (stale_key : Option ℕ). map (without (origin_of x.origins.items) stale_key)
    (keys_of (next_listing h s).entries)) gone

-- what is lent is the previous link, for the next project
pub is_last_of : (h : ProjectState) (s : Staged) (same : Bool) (bytes : List ℕ) (x : PreviousLink)
    (e : EditEffect) (kept : IsOfGoodLink (listing_of h) bytes x) → IsKnownEdit h s same
    → (same ≡ false → PutsNoneOf kept.old.project.objects s.objects.step) → (e.same_script ≡ true → s.script ≡ None)
    → e.stale_key ≡ stale_key_of same s.objects.step
    → IsPreviousOf kept.old (project_of (next_listing h s)) (next_view x e h s)
is_last_of h s same bytes x e kept edit none script gone =
    let p = project_of (next_listing h s) in
    let es = (next_listing h s).entries in
    let origin : ℕ → Option ℕ = origin_of x.origins.items in
    let after : ℕ → Option ℕ = without origin (stale_key_of same s.objects.step) in
    let since : IsSince kept.old.project.objects after es =
    since_next kept.old.project.objects h.contents.entries es s.objects.step same origin after edit.found kept.since
    edit.puts none (λ key. refl) in
    record {
      table = kept.table;
      objects = (
          let same = ap length kept.names in
          let objects = length-map kept.old.project.objects (λ (o : NamedObject). o.name) in
          omega (arith, same, objects));
      options = kept.options;
      origins = subst (λ (from : List (Option ℕ)). AreOrigins kept.old.project p from)
          (sym (from_edit h s same x e gone)) (origins_by_place kept.old.project p es after edit.keys refl since);
      script = λ stay.
          let both = both_true x.same_script e.same_script stay in
          kept.script both.0
          ∙ ap (λ (o : Option (List Statement)). unwrap_or o h.script) (sym (script both.1));
      replaced = replaced_right kept.old.project h s same origin edit kept.since;
    }

module _ (h : ProjectState) (s : Staged) (same : Bool) (bytes : List ℕ) (a : LinkOutcome) (e : EditEffect)
    (edit : IsKnownEdit h s same) where
  -- the previous link, where it is lent, is one whose image this is
  pub last_lent : (previous : Option PreviousLink) (known : Bool) → e.keeps_previous ≡ known
      → IsPreviousLink (listing_of h) bytes a previous → IsEffect h s same a previous e
      → IfSome (lent previous known e h s) (HasPreviousImage (project_of (next_listing h s)) bytes)
  last_lent None known are is effect = tt
  last_lent (Some x) false are is effect = tt
  last_lent (Some x) true are is effect =
      let kept = kept_of (listing_of h) bytes a x is in
      record {
        old = kept.old;
        is = is_last_of h s same bytes x e kept edit
            (none_of_last h s same bytes a x e is edit effect are) effect.changed effect.stale_key;
        image = kept.image;
      }

  -- it stays the previous link after an edit to a link with faults
  pub kept_after_fault : (previous after : Option PreviousLink) (known : Bool) → e.keeps_previous ≡ known
      → IsPreviousLink (listing_of h) bytes a previous → IsEffect h s same a previous e
      → IsAfterFault known e.stale_key e.same_script previous after
      → IfSome after (IsOfGoodLink (next_listing h s) bytes)
  kept_after_fault previous None known are is effect fault = tt
  kept_after_fault previous (Some y) false are is effect fault = absurd (fault)
  kept_after_fault None (Some y) true are is effect fault = absurd (fault)
  kept_after_fault (Some x) (Some y) true are is effect fault =
      let kept = kept_of (listing_of h) bytes a x is in
      record {
        old = kept.old;
        table = subst (λ g. IsLinkSnapshot kept.old g) (sym fault.0) kept.table;
        names = ap (λ (names : Names). names.names) fault.1 ∙ kept.names;
        since = since_next kept.old.project.objects h.contents.entries (next_listing h s).entries s.objects.step same
            (origin_of x.origins.items) (origin_of y.origins.items) edit.found kept.since edit.puts
            (none_of_last h s same bytes a x e is edit effect are)
            (λ key. fault.3 key ∙ ap (λ (stale_key : Option ℕ). without (origin_of x.origins.items) stale_key key)
            effect.stale_key);
        options = kept.options;
        script = λ stays.
            let both = both_true x.same_script e.same_script (sym fault.2 ∙ stays) in
            kept.script both.0
            ∙ ap (λ (o : Option (List Statement)). unwrap_or o h.script) (sym (effect.changed both.1));
        image = kept.image;
      }

-- what a link without faults leaves is the previous link
pub followed_good : (l : Listing) (p : Project) (keys : List ℕ) (bytes : List ℕ) (x : PreviousLink) (m : List ℕ)
    → p ≡ project_of l → keys ≡ keys_of l.entries → AreKeysDistinct keys → IsGoodOutcome true p bytes x.snapshot m
    → x.names.names ≡ map (λ (o : NamedObject). o.name) p.objects
    → HasPlaces keys x.origins.items
    → ((key : ℕ) → is_some (position (nat_eq key) (keys_of l.entries)) ≡ is_some (found_under l.entries key))
    → x.same_script ≡ true
    → (link (project_of l) ≡ record { status = 0; image = bytes; map = m; faults = [] }) × IsAnswered l bytes x
followed_good l p keys bytes x m is keys_are distinct end names places found script = (
  sym (ap link is) ∙ end.link,
  record {
    kept = record {
      old = record { project = p; layout = end.layout };
      table = end.table;
      names = names;
      since = subst (λ (os : List NamedObject). IsSince os (origin_of x.origins.items) l.entries)
          (sym (ap (λ (q : Project). q.objects) is))
          (since_places l.entries x.origins.items (subst AreKeysDistinct keys_are distinct)
          (subst (λ (ks : List ℕ). HasPlaces ks x.origins.items) keys_are places) found);
      options = ap (λ (q : Project). q.options) is;
      script = λ stays. ap (λ (q : Project). q.script) is;
      image = end.image;
    };
    project = is;
    script = script;
  },
)

-- the previous link with another image is that of the project
pub followed_again : (l : Listing) (p : Project) (keys : List ℕ) (state : Option PreviousState) (bytes : List ℕ)
    (origins : List (Option ℕ)) → p ≡ project_of l → keys ≡ keys_of l.entries → AreKeysDistinct keys
    → IsInPlaceOutcome p state bytes → HasPlaces keys origins
    → ((key : ℕ) → is_some (position (nat_eq key) (keys_of l.entries)) ≡ is_some (found_under l.entries key))
    → IsRewrittenBy l state bytes origins
followed_again l p keys state bytes origins is keys_are distinct end places found = record {
  end = subst (λ (q : Project). IsInPlaceOutcome q state bytes) is end;
  since = since_places l.entries origins (subst AreKeysDistinct keys_are distinct)
      (subst (λ (ks : List ℕ). HasPlaces ks origins) keys_are places) found;
}

-- what is answered is the link, and the previous one is kept
pub ended : (l : Listing) (state : Option PreviousState) (old new : List ℕ) (f : UpdateOutcome) (e : EditEffect)
    (previous after : Option PreviousLink) (b a : LinkOutcome) → HasUpdateOutcome l state old new f
    → IsRecorded f e previous after b a
    → ((later : Option PreviousLink) → IsAfterFault e.keeps_previous e.stale_key e.same_script previous later
    → IfSome later (IsOfGoodLink l old))
    → ((v : Vec (Option ℕ) Global) → IsRewrittenBy l state new v.items → AreOriginsRefreshed v previous after
    → (shown new b ≡ link (project_of l)) × IsPreviousLink l new b after)
    → (shown new a ≡ link (project_of l)) × IsPreviousLink l new a after
ended l state old new (Faulty text) e previous after b a updated end kept renewed = (
  ap (shown new) end.0 ∙ sym updated.0,
  subst (λ (b : LinkOutcome). IsPreviousLink l new b after) (sym end.0)
      (subst (λ (bytes : List ℕ). IfSome after (IsOfGoodLink l bytes)) (sym updated.1) (kept after end.1)),
)
ended l state old new (Good x m) e previous after b a updated end kept renewed = (
  ap (shown new) end.0 ∙ sym updated.0,
  subst (λ (b : LinkOutcome). IsPreviousLink l new b after) (sym end.0)
      (subst (λ (o : Option PreviousLink). IsPreviousLink l new (outcome.Good m) o) (sym end.1) updated.1),
)
ended l state old new (RewrittenInPlace v) e previous after b a updated end kept renewed =
    let both = renewed v updated end.1 in (
      ap (shown new) end.0 ∙ both.0,
      subst (λ (c : LinkOutcome). IsPreviousLink l new c after) (sym end.0) both.1,
    )

-- the previous link with another image is that of the next project
renewed_with : (h : ProjectState) (s : Staged) (same : Bool) (bytes new : List ℕ) (a : LinkOutcome) (e : EditEffect)
    (x y : PreviousLink) (v : Vec (Option ℕ) Global) → IsKnownEdit h s same → e.keeps_previous ≡ true
    → IsPreviousLink (listing_of h) bytes a (Some x) → IsEffect h s same a (Some x) e
    → shown bytes a ≡ link (held h)
    → IsRewrittenBy (next_listing h s) (Some (next_view x e h s)) new v.items
    → AreOriginsRefreshed v (Some x) (Some y)
    → (shown new a ≡ link (project_of (next_listing h s))) × IsPreviousLink (next_listing h s) new a (Some y)
renewed_with h s same bytes new (outcome.Faulty t) e x y v edit are is effect answers by renewed =
    let no : false ≡ true =
    sym effect.answered ∙ ap (λ (z : PreviousState). z.is_answered) (same_Some _ _ by.end.was) ∙ by.end.current in
    absurd (cc)
renewed_with h s same bytes new (outcome.Good m) e x y v edit are is effect answers by renewed =
    let q : Project = project_of (next_listing h s) in
    let old : GoodLink = is.kept.old in
    let lent_as : PreviousState = next_view x e h s in
    let of_lent : IsPreviousOf old q lent_as =
    is_last_of h s same bytes x e is.kept edit
    (none_of_last h s same bytes (outcome.Good m) x e is edit effect are) effect.changed effect.stale_key in
    let lent_is : lent_as ≡ by.end.before = same_Some _ _ by.end.was in
    let of_last : IsPreviousOf old q by.end.before = subst (IsPreviousOf old q) lent_is of_lent in
    let map_is : m.items ≡ map_text q by.end.layout =
    ap (λ (k : Link). k.map) (answers ∙ ap link (sym is.project) ∙ is.kept.table.link)
    ∙ sym (by.end.map old of_last) in
    let made : List ℕ → List ℕ → Link = λ i t. record { status = 0; image = i; map = t; faults = [] } in
    let good_is : y.snapshot ≡ by.end.before.snapshot = renewed.0 ∙ ap (λ (z : PreviousState). z.snapshot) lent_is in (
      ap (λ i. made i m.items) by.end.image ∙ ap (made (image q by.end.layout)) map_is ∙ sym by.end.link,
      record {
        kept = record {
          old = record { project = q; layout = by.end.layout };
          table = subst (λ g. IsLinkSnapshot (record { project = q; layout = by.end.layout }) g)
              (sym good_is) by.end.table;
          names = ap (λ (names : Names). names.names) renewed.1 ∙ (is.kept.names ∙ sym (by.end.names old of_last));
          since = subst (λ (w : Vec (Option ℕ) Global). IsSince q.objects (origin_of w.items)
              (next_listing h s).entries) (sym renewed.3) by.since;
          options = refl;
          script = λ stays. refl;
          image = by.end.image;
        };
        project = refl;
        script = renewed.2;
      },
    )

pub renewed_last : (h : ProjectState) (s : Staged) (same : Bool) (bytes new : List ℕ) (a : LinkOutcome) (e : EditEffect)
    (previous after : Option PreviousLink) (known : Bool) (v : Vec (Option ℕ) Global)
    → IsKnownEdit h s same → e.keeps_previous ≡ known → IsPreviousLink (listing_of h) bytes a previous
    → IsEffect h s same a previous e → shown bytes a ≡ link (held h)
    → IsRewrittenBy (next_listing h s) (lent previous known e h s) new v.items
    → AreOriginsRefreshed v previous after
    → (shown new a ≡ link (project_of (next_listing h s))) × IsPreviousLink (next_listing h s) new a after
renewed_last h s same bytes new a e None after known v edit are is effect answers by renewed =
    absurd (let was = by.end.was in let never : ⊥ = cc in never)
renewed_last h s same bytes new a e (Some x) after false v edit are is effect answers by renewed =
    absurd (let was = by.end.was in let never : ⊥ = cc in never)
renewed_last h s same bytes new a e (Some x) None true v edit are is effect answers by renewed =
    absurd renewed
renewed_last h s same bytes new a e (Some x) (Some y) true v edit are is effect answers by renewed =
    renewed_with h s same bytes new a e x y v edit are is effect answers by renewed

-- so it is after an edit that is linked over the previous link
pub ended_after : (h : ProjectState) (s : Staged) (same : Bool) (bytes new : List ℕ) (a b : LinkOutcome)
    (e : EditEffect)
    (previous after : Option PreviousLink) (f : UpdateOutcome) (later : ProjectState)
    (symbol_table : SymbolTableState) (ms : List Matches) → IsFollowing h s same bytes a previous e
    → shown bytes a ≡ link (held h)
    → HasUpdateOutcome (next_listing h s) (lent previous e.keeps_previous e h s) bytes new f
    → IsRecorded f e previous after a b → AreTablesOf (next_listing h s) symbol_table ms → listing_of later
    ≡ next_listing h s
    → (shown new b ≡ link (held later)) × AreTablesOf (listing_of later) symbol_table ms
    × IsPreviousLink (listing_of later) new b after
ended_after h s same bytes new a b e previous after f later symbol_table ms x answers updated end kept is =
    let both = ended (next_listing h s) (lent previous e.keeps_previous e h s) bytes new f e previous after a b
    updated end (λ later. kept_after_fault h s same bytes a e x.edit previous later e.keeps_previous refl x.kept
    x.effect)
    (λ v by renewed. renewed_last h s same bytes new a e previous after e.keeps_previous v x.edit refl x.kept x.effect
    answers by renewed) in (
      subst (λ (l : Listing). shown new b ≡ link (project_of l)) (sym is) both.0,
      subst (λ (l : Listing). AreTablesOf l symbol_table ms) (sym is) kept,
      subst (λ (l : Listing). IsPreviousLink l new b after) (sym is) both.1,
    )

-- where there was no previous link, none is kept
pub none_kept : (l : Listing) (bytes : List ℕ) (stale_key : Option ℕ) (same_script : Bool) (later : Option PreviousLink)
    → IsAfterFault true stale_key same_script None later → IfSome later (IsOfGoodLink l bytes)
none_kept l bytes stale_key same_script None is = tt
none_kept l bytes stale_key same_script (Some y) is = absurd (is)
