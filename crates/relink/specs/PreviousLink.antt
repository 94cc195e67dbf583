-- What a session keeps of its previous link without faults, while edits follow.
use Rattle.std.specs.Prelude.{◌≡◌, ◌<◌, ◌&&◌, ℕ, List, [], Option, Some, None, Contains, IfSome, map, slice_get}
use Rattle.std.specs.Prelude.{slice_index_or, if◌then◌else◌, length, ⊤, Bool, true, false, Vec}
use Rattle.std.specs.Option.{option_map}
use Rattle.elfobj.specs.Object.{ObjectData}
use Rattle.relink_driver.specs.StayedSections.{PreviousState, ReplacedObjectState, replaced_state}
use Rattle.std.specs.Global.{Global}
use Rattle.relink_driver.specs.InPlace.{IsInPlaceOutcome}
use Rattle.relink_driver.specs.LinkSnapshot.{IsLinkSnapshot}
use Rattle.ldmodel.specs.Image.{image}
use Rattle.ldmodel.specs.Link.{link}
use Rattle.ldmodel.specs.Project.{NamedObject}
use Rattle.ldmodel.specs.Stayed.{GoodLink}
use Rattle.ldmodel_project.specs.ProjectState.{ProjectState, Listing, next_listing, project_of}
use Rattle.ldmodel_project.specs.Listing.{Listed, found_under, keys_of, objects_of}
use Rattle.ldmodel_project.specs.Edited.{is_other}
use Rattle.ldmodel_project.specs.declared.staged.Staged.{Staged}
use Rattle.ldmodel_project.specs.declared.staged.Step.{Step}
use Rattle.ldmodel_project.specs.declared.staged.Step.TheVariants.{Put, Remove, Move, Stay}
use Rattle.relink.specs.Outcome.{is_good}
use Rattle.relink.specs.declared.lent_link.LentLink.{LentLink}
use Rattle.relink.specs.declared.outcome.LinkOutcome.{LinkOutcome}
use Rattle.relink.specs.declared.outcome.LinkOutcome.TheVariants as outcome
use Rattle.relink.specs.declared.previous.EditEffect.{EditEffect}
use Rattle.relink.specs.declared.previous.PreviousLink.{PreviousLink}
use Rattle.relink.specs.declared.previous.UpdateOutcome.{UpdateOutcome}
use Rattle.relink.specs.declared.previous.UpdateOutcome.TheVariants.{Faulty, Good, RewrittenInPlace}

-- at which place of the link the object under a key stood; none where it is none of its
abbrev pub origin_of : List (Option ℕ) → ℕ → Option ℕ
origin_of origins key = slice_index_or origins key None

-- no object of these has its name and its bytes
abbrev pub IsNoneOf : List NamedObject → NamedObject → Type 0
IsNoneOf old x =
    (y : NamedObject) → Contains old y → y.name ≡ x.name → y.object.text ≡ x.object.text → ⊥

-- each object that is listed is that of the link at its origin; one without is none of its
pub record IsSince (old : List NamedObject) (origin : ℕ → Option ℕ) (es : List Listed) : Type 0 where
  pub same : (key j : ℕ) (object : NamedObject) → found_under es key ≡ Some object → origin key ≡ Some j
      → slice_get old j ≡ Some object
  pub fresh : (key : ℕ) (object : NamedObject) → found_under es key ≡ Some object → origin key ≡ None
      → IsNoneOf old object

-- the tables are of a link without faults whose image these bytes are, and the listed objects are related to it; so is
-- the script, where it is said to be the same
pub record IsOfGoodLink (l : Listing) (bytes : List ℕ) (x : PreviousLink) : Type 0 where
  pub old : GoodLink
  pub table : IsLinkSnapshot old x.snapshot
  pub names : x.names.names ≡ map (λ (object : NamedObject). object.name) old.project.objects
  pub since : IsSince old.project.objects (origin_of x.origins.items) l.entries
  pub options : old.project.options ≡ l.options
  pub script : x.same_script ≡ true → old.project.script ≡ l.script
  pub image : bytes ≡ image old.project old.layout

-- the link is that of the project as it stands
pub record IsAnswered (l : Listing) (bytes : List ℕ) (x : PreviousLink) : Type 0 where
  pub kept : IsOfGoodLink l bytes x
  pub project : kept.old.project ≡ project_of l
  pub script : x.same_script ≡ true

-- where the answer is a link without faults, the previous one is that; else there may be one, of an earlier project
abbrev pub IsPreviousLink : Listing → List ℕ → LinkOutcome → Option PreviousLink → Type 0
IsPreviousLink l bytes (outcome.Good map) None = ⊥
IsPreviousLink l bytes (outcome.Good map) (Some x) = IsAnswered l bytes x
IsPreviousLink l bytes (outcome.Faulty text) previous = IfSome previous (IsOfGoodLink l bytes)

-- the place of each object that has a name is this one
abbrev pub IsNowhereButAt : List (List ℕ) → List ℕ → Option ℕ → Type 0
IsNowhereButAt names name place =
    (q : ℕ) → q < length names → slice_index_or names q [] ≡ name → place ≡ Some q

-- the key that a step puts an object under, or removes
abbrev pub changed_key : Step → Option ℕ
changed_key (Put new named) = Some new
changed_key (Remove old) = Some old
changed_key (Move moved) = None
changed_key Stay = None

-- the object that a step puts, if it puts one, is none of these
abbrev pub PutsNoneOf : List NamedObject → Step → Type 0
PutsNoneOf old (Put new named) = IsNoneOf old named
PutsNoneOf old (Remove removed) = Unit {0}
PutsNoneOf old (Move moved) = Unit {0}
PutsNoneOf old Stay = Unit {0}

-- a step puts an object over the same one
abbrev pub PutsSame : List Listed → Step → Type 0
PutsSame es (Put new named) = found_under es new ≡ Some named
PutsSame es (Remove removed) = ⊥
PutsSame es (Move moved) = ⊥
PutsSame es Stay = ⊥

-- an object that has the name of the one that a step puts is the one under its key
abbrev pub PutsByName : List Listed → Step → Type 0
PutsByName es (Put new named) =
    (y : NamedObject) → Contains (objects_of es) y → y.name ≡ named.name → found_under es new ≡ Some y
PutsByName es (Remove removed) = Unit {0}
PutsByName es (Move moved) = Unit {0}
PutsByName es Stay = Unit {0}

-- the key under which an object comes or goes; none where the same one comes
abbrev pub stale_key_of : Bool → Step → Option ℕ
stale_key_of true step = None
stale_key_of false step = changed_key step

-- the same origins, but for one key
abbrev pub without : (ℕ → Option ℕ) → Option ℕ → ℕ → Option ℕ
without origin stale_key key = if is_other stale_key key then origin key else None

-- the previous link is that of the project, with another image, and these are the origins of its objects
pub record IsRewrittenBy (l : Listing) (previous : Option PreviousState) (bytes : List ℕ) (origins : List (Option ℕ))
    : Type 0 where
  pub end : IsInPlaceOutcome (project_of l) previous bytes
  pub since : IsSince (objects_of l.entries) (origin_of origins) l.entries

-- what a link over the previous one leads to: that stays, or this one takes its place, or it is this one but for
-- the image
abbrev pub HasUpdateOutcome : Listing → Option PreviousState → (old new : List ℕ) → UpdateOutcome → Type 0
HasUpdateOutcome l previous old new (Faulty text) =
    (link (project_of l) ≡ record { status = 1; image = []; map = []; faults = text.items }) × (new ≡ old)
HasUpdateOutcome l previous old new (Good x m) =
    (link (project_of l) ≡ record { status = 0; image = new; map = m.items; faults = [] }) × IsAnswered l new x
HasUpdateOutcome l previous old new (RewrittenInPlace origins) = IsRewrittenBy l previous new origins.items

-- the object that an edit puts is none of the link
abbrev pub LacksPutObject : PreviousLink → List Listed → Step → Type 0
LacksPutObject x es step =
    (old : List NamedObject) → x.names.names ≡ map (λ (object : NamedObject). object.name) old
    → IsSince old (origin_of x.origins.items) es → PutsNoneOf old step

-- what an edit means to the previous link, where it puts an object over the same one or another
pub record IsEffect (state : ProjectState) (s : Staged) (same : Bool) (a : LinkOutcome) (previous : Option PreviousLink)
    (e : EditEffect)
    : Type 0 where
  -- where the answer has no faults, what comes is known to be none of the previous link's objects
  pub current : is_good a ≡ true → e.keeps_previous ≡ true
  -- where it has faults, what is known to be none of them is none of them
  pub lacks_put_object : is_good a ≡ false → e.keeps_previous ≡ true
      → IfSome previous (λ x. LacksPutObject x state.contents.entries s.objects.step)
  -- the key that has no origin any more is the one under which an object comes or goes
  pub stale_key : e.stale_key ≡ stale_key_of same s.objects.step
  -- the previous link is the one that is answered where the answer has no faults
  pub answered : e.is_answered ≡ is_good a
  -- where the script is said to stay, the edit leaves it
  pub changed : e.same_script ≡ true → s.script ≡ None
  -- where the edit leaves it, it is said to stay
  pub stays : s.script ≡ None → e.same_script ≡ true

-- an object of the link, and the place of the one that comes in its place, where there are both
abbrev pub replaced_by : Option ℕ → Option ObjectData → Option ℕ → Option ReplacedObjectState
replaced_by None object new = None
replaced_by (Some old) None new = None
replaced_by (Some old) (Some object) None = None
replaced_by (Some old) (Some object) (Some new) =
    Some (record { old_place = record { 0 = old }; old_object = object; new_place = record { 0 = new } })

abbrev pub object_under : List Listed → ℕ → Option ObjectData
object_under es key = option_map (λ (object : NamedObject). object.object) (found_under es key)

-- the object of the link in whose place a step puts one, which then stands there
abbrev pub replaced_in : (ℕ → Option ℕ) → List Listed → Step → Option ℕ → Option ReplacedObjectState
replaced_in origin es (Put new named) after = replaced_by (origin new) (object_under es new) after
replaced_in origin es (Remove removed) after = None
replaced_in origin es (Move moved) after = None
replaced_in origin es Stay after = None

-- the previous link as a project takes it whose objects have these keys, where this object was replaced
abbrev pub view_for : List ℕ → PreviousLink → EditEffect → Option ReplacedObjectState → PreviousState
view_for keys x e replaced = record {
  snapshot = x.snapshot;
  objects = length x.names.names;
  origins = map (without (origin_of x.origins.items) e.stale_key) keys;
  same_script = x.same_script && e.same_script;
  replaced = replaced;
  is_answered = e.is_answered;
}

-- as the next project takes it
abbrev pub next_view : PreviousLink → EditEffect → ProjectState → Staged → PreviousState
next_view x e h s =
    view_for (keys_of (next_listing h s).entries) x e
    (replaced_in (origin_of x.origins.items) h.contents.entries s.objects.step s.objects.places.after)

-- the effect of no edit, on a link that is not that of the project
abbrev pub nothing_edited : EditEffect
nothing_edited = record { keeps_previous = true; stale_key = None; same_script = true; is_answered = false }

-- the previous link as a project takes it that is linked some edits later
abbrev pub lent_later : Option PreviousLink → (keys : List ℕ) → Option PreviousState
lent_later None keys = None
lent_later (Some x) keys = Some (view_for keys x nothing_edited None)

-- if it is known to have none of what comes
abbrev pub lent : Option PreviousLink → (known : Bool) → EditEffect → ProjectState → Staged → Option PreviousState
lent None known e h s = None
lent (Some x) false e h s = None
lent (Some x) true e h s = Some (next_view x e h s)

-- what is lent
abbrev pub lent_state : LentLink → PreviousState
lent_state x = view_for x.keys.now x.previous.now x.effect (option_map replaced_state x.replaced)

abbrev pub lent_of : Option LentLink → Option PreviousState
lent_of x = option_map lent_state x

-- the origins of the objects of the next project, if a previous link is lent
abbrev pub AreOriginsFor : Option PreviousState → List (Option ℕ) → Type 0
AreOriginsFor previous origins = IfSome previous (λ x. origins ≡ x.origins)

-- after an edit to a link with faults: the previous link stays, without the origin of this key, and the script may have
-- changed; it goes, where it isn't known to have none of what came
abbrev pub IsAfterFault : Bool → Option ℕ → Bool → (old new : Option PreviousLink) → Type 0
IsAfterFault false stale_key same_script old None = ⊤
IsAfterFault false stale_key same_script old (Some y) = ⊥
IsAfterFault true stale_key same_script None None = ⊤
IsAfterFault true stale_key same_script None (Some y) = ⊥
IsAfterFault true stale_key same_script (Some x) None = ⊥
IsAfterFault true stale_key same_script (Some x) (Some y) =
    (y.snapshot ≡ x.snapshot) × (y.names ≡ x.names) × (y.same_script ≡ (x.same_script && same_script))
    × ((key : ℕ) → origin_of y.origins.items key ≡ without (origin_of x.origins.items) stale_key key)

-- the previous link stays, if there is one, and its objects have these origins
abbrev pub AreOriginsRefreshed : Vec (Option ℕ) Global → (old new : Option PreviousLink) → Type 0
AreOriginsRefreshed v None None = ⊤
AreOriginsRefreshed v None (Some y) = ⊥
AreOriginsRefreshed v (Some x) None = ⊥
AreOriginsRefreshed v (Some x) (Some y) =
    (y.snapshot ≡ x.snapshot) × (y.names ≡ x.names) × (y.same_script ≡ true) × (y.origins ≡ v)

-- what is answered of a link over the previous one, and which one is the previous one now
abbrev pub IsRecorded : UpdateOutcome → EditEffect → (old new : Option PreviousLink) → (before after : LinkOutcome)
    → Type 0
IsRecorded (Faulty text) e old new b a =
    (a ≡ outcome.Faulty text) × IsAfterFault e.keeps_previous e.stale_key e.same_script old new
IsRecorded (Good x m) e old new b a = (a ≡ outcome.Good m) × (new ≡ Some x)
IsRecorded (RewrittenInPlace origins) e old new b a = (a ≡ b) × AreOriginsRefreshed origins old new
