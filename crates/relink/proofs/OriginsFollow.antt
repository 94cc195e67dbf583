-- The objects of the previous link without faults, while edits follow.
use Rattle.relink.proofs.Common.{AreKeysDistinct, AreOrigins, Bool, HasPlaces, IfSome, IsNoneOf, IsNowhereButAt}
use Rattle.relink.proofs.Common.{IsSince, List, Listed, NamedObject, None, Option, Project, PutsNoneOf, PutsSame, Some}
use Rattle.relink.proofs.Common.{Step, [], ap, arith, bytes_eq, bytes_eq-Decides, changed_key, cond, count_by}
use Rattle.relink.proofs.Common.{edited_key, eq-eqb, eqb-true, false, find, found_under, get_or, get_or-map}
use Rattle.relink.proofs.Common.{if◌then◌else◌, is_other, is_some, keys_of, length, length-map, ltb, ltb-false}
use Rattle.relink.proofs.Common.{ltb-true, map, nat_eq, next_found, objects_of, origin_of, position, position_or_len}
use Rattle.relink.proofs.Common.{put_under, refl, replaced_in, slice_get, slice_get-get_or, stale_key_of, subst, suc}
use Rattle.relink.proofs.Common.{sum_by-cons, sym, true, without, zero, ℕ, ◌+◌, ◌<◌, ◌∙◌, ◌∷◌, ◌≡◌, ◌≤◌}
use Rattle.ldmodel_project.specs.Next.{removed_key}
use Rattle.ldmodel_project.specs.declared.staged.Step.TheVariants.{Put, Remove, Move, Stay}
use Rattle.relink.proofs.Finding.{find_some}

-- ---- one list

pub some_same : {X : Type 0} (x y : X) → Some x ≡ Some y → x ≡ y
some_same x y h = cc

counted_head : (key k : ℕ) (ks : List ℕ) → count_by (nat_eq key) (k ∷ ks)
    ≡ cond (nat_eq key k) 1 0 + count_by (nat_eq key) ks
counted_head key k ks = sum_by-cons (λ y. cond (nat_eq key y) 1 0) k ks

one_at_least : (key : ℕ) (ks : List ℕ) (i : ℕ) → slice_get ks i ≡ Some key → 1 ≤ count_by (nat_eq key) ks
one_at_least key [] i h = absurd (cc)
one_at_least key (k ∷ ks) zero h =
    let head = counted_head key k ks in
    let here : cond {A = ℕ} (nat_eq key k) 1 0 ≡ 1 =
    ap (λ (b : Bool). cond b 1 0) (eq-eqb key k (sym (some_same k key h))) in
    omega (arith, head, here)
one_at_least key (k ∷ ks) (suc i) h =
    let head = counted_head key k ks in
    omega (arith, head, one_at_least key ks i h)

-- the key of the first is none of the others
pub other_head : (key k : ℕ) (ks : List ℕ) (i : ℕ) → AreKeysDistinct (k ∷ ks) → slice_get ks i ≡ Some key
    → nat_eq key k ≡ false
other_head key k ks i distinct h = at (nat_eq key k) refl
  where
    at : (b : Bool) → nat_eq key k ≡ b → b ≡ false
    at true e =
        let head = counted_head key k ks in
        let here : cond {A = ℕ} (nat_eq key k) 1 0 ≡ 1 = ap (λ (b : Bool). cond b 1 0) e in
        absurd (omega (arith, head, here, one_at_least key ks i h, distinct key))
    at false e = refl

pub rest_distinct : (k : ℕ) (ks : List ℕ) → AreKeysDistinct (k ∷ ks) → AreKeysDistinct ks
rest_distinct k ks distinct = λ key. (
    let head = counted_head key k ks in omega (arith, head, distinct key))

-- what stands at a place is under the key at this place
pub under_key : (es : List Listed) (i key : ℕ) → AreKeysDistinct (keys_of es) → slice_get (keys_of es) i ≡ Some key
    → slice_get (objects_of es) i ≡ found_under es key
under_key [] i key distinct h = absurd (cc)
under_key (e ∷ es) zero key distinct h =
    sym (ap (λ (b : Bool). if b then Some e.named else found_under es key)
    (eq-eqb key e.key (sym (some_same e.key key h))))
under_key (e ∷ es) (suc i) key distinct h =
    under_key es i key (rest_distinct e.key (keys_of es) distinct) h
    ∙ sym (ap (λ (b : Bool). if b then Some e.named else found_under es key)
    (other_head key e.key (keys_of es) i distinct h))

-- a place with an object has a key
pub key_at : (es : List Listed) (i : ℕ) (o : NamedObject) → slice_get (objects_of es) i ≡ Some o
    → (key : ℕ) × (slice_get (keys_of es) i ≡ Some key)
key_at [] i o h = absurd (cc)
key_at (e ∷ es) zero o h = (e.key, refl)
key_at (e ∷ es) (suc i) o h = key_at es i o h

-- a place with a key has an object
pub object_at : (es : List Listed) (i key : ℕ) → slice_get (keys_of es) i ≡ Some key
    → (o : NamedObject) × (slice_get (objects_of es) i ≡ Some o)
object_at [] i key h = absurd (cc)
object_at (e ∷ es) zero key h = (e.named, refl)
object_at (e ∷ es) (suc i) key h = object_at es i key h

-- ---- names

-- where each object of a name stands at a place, and the one there has other bytes, no object has the name and the
-- bytes
pub none_of : (old : List NamedObject) (names : List (List ℕ)) (x : NamedObject) (place : Option ℕ)
    → names ≡ map (λ (o : NamedObject). o.name) old → IsNowhereButAt names x.name place
    → IfSome place (λ j. (y : NamedObject) → slice_get old j ≡ Some y → y.object.text ≡ x.object.text → ⊥)
    → IsNoneOf old x
none_of old names x place same named other = λ y c n t. (
    let here : slice_get old c.0 ≡ Some y = slice_get-get_or old c.0 y c.1 ∙ ap Some c.2 in
    let within : c.0 < length names =
    subst (λ (ns : List (List ℕ)). c.0 < length ns) (sym same)
    (subst (λ (n : ℕ). c.0 < n) (sym (length-map old (λ (o : NamedObject). o.name))) c.1) in
    let name : get_or names c.0 [] ≡ x.name =
    ap (λ (ns : List (List ℕ)). get_or ns c.0 []) same
    ∙ (get_or-map (λ (o : NamedObject). o.name) old c.0 y [] c.1
    ∙ (ap (λ (o : NamedObject). o.name) c.2 ∙ n)) in
    let at : place ≡ Some c.0 = named c.0 within name in
    subst (λ (p : Option ℕ). IfSome p (λ j. (y : NamedObject) → slice_get old j ≡ Some y
    → y.object.text ≡ x.object.text → ⊥)) at other y here t)

-- where the clause holds of any previous link, it holds of the one that is known
pub of_one : (old : List NamedObject) (origin : ℕ → Option ℕ) (es : List Listed) (x : NamedObject) (place : Option ℕ)
    → IfSome place (λ j. (old : List NamedObject) (y : NamedObject) → IsSince old origin es → slice_get old j ≡ Some y
    → y.object.text ≡ x.object.text → ⊥) → IsSince old origin es
    → IfSome place (λ j. (y : NamedObject) → slice_get old j ≡ Some y → y.object.text ≡ x.object.text → ⊥)
of_one old origin es x None h since = tt
of_one old origin es x (Some j) h since = λ y at same. h old y since at same

-- one name more
pub named_more : (names : List (List ℕ)) (name : List ℕ) (place : Option ℕ) (n : ℕ)
    → ((q : ℕ) → q < n → get_or names q [] ≡ name → place ≡ Some q) → (get_or names n [] ≡ name → place ≡ Some n)
    → (q : ℕ) → q < n + 1 → get_or names q [] ≡ name → place ≡ Some q
named_more names name place n before here q within is = at (ltb q n) refl
  where
    at : (b : Bool) → ltb q n ≡ b → place ≡ Some q
    at true e = before q (ltb-true q n e) is
    at false e =
        let same : n ≡ q = omega (arith, within, ltb-false q n e) in
        subst (λ (i : ℕ). place ≡ Some i) same
        (here (subst (λ (i : ℕ). get_or names i [] ≡ name) (sym same) is))

pub same_bytes : (a b : List ℕ) → a ≡ b → bytes_eq a b ≡ true
same_bytes a b = (bytes_eq-Decides a b).1

-- ---- steps

pub puts_nothing : (old : List NamedObject) (step : Step) → ((key : ℕ) → put_under step key ≡ None)
    → PutsNoneOf old step
puts_nothing old (Put new named) none =
    let some : Some named ≡ None =
    sym (ap (λ (b : Bool). if b then Some named else None) (eq-eqb new new refl)) ∙ none new in
    absurd (cc)
puts_nothing old (Remove removed) none = tt
puts_nothing old (Move moved) none = tt
puts_nothing old Stay none = tt

pub puts_new : (old : List NamedObject) (step : Step) (key : ℕ) (x : NamedObject) → put_under step key ≡ Some x
    → IsNoneOf old x → PutsNoneOf old step
puts_new old (Put new named) key x put none = at (nat_eq key new) refl
  where
    at : (b : Bool) → nat_eq key new ≡ b → IsNoneOf old named
    at true e =
        let is : named ≡ x =
        some_same named x (sym (ap (λ (b : Bool). if b then Some named else None) e) ∙ put) in
        subst (IsNoneOf old) (sym is) none
    at false e =
        let empty : None ≡ Some x = sym (ap (λ (b : Bool). if b then Some named else None) e) ∙ put in
        absurd (cc)
puts_new old (Remove removed) key x put none = tt
puts_new old (Move moved) key x put none = tt
puts_new old Stay key x put none = tt

pub none_changed : (step : Step) → ((key : ℕ) → put_under step key ≡ None) → None ≡ removed_key step
    → None ≡ changed_key step
none_changed (Put new named) none removed =
    let some : Some named ≡ None =
    sym (ap (λ (b : Bool). if b then Some named else None) (eq-eqb new new refl)) ∙ none new in
    absurd (cc)
none_changed (Remove old) none removed = removed
none_changed (Move moved) none removed = refl
none_changed Stay none removed = refl

-- where nothing is put, nothing is replaced
pub none_replaced : (origin : ℕ → Option ℕ) (es : List Listed) (step : Step) (after : Option ℕ)
    → ((key : ℕ) → put_under step key ≡ None) → replaced_in origin es step after ≡ None
none_replaced origin es (Put new named) after none =
    let some : Some named ≡ None =
    sym (ap (λ (b : Bool). if b then Some named else None) (eq-eqb new new refl)) ∙ none new in
    absurd (cc)
none_replaced origin es (Remove removed) after none = refl
none_replaced origin es (Move moved) after none = refl
none_replaced origin es Stay after none = refl

-- a step touches the key that it puts an object under
pub put_touches : (step : Step) (key : ℕ) (x : NamedObject) → put_under step key ≡ Some x
    → edited_key step ≡ Some key
put_touches (Put new named) key x put = at (nat_eq key new) refl
  where
    at : (b : Bool) → nat_eq key new ≡ b → Some new ≡ Some key
    at true e = ap Some (sym (eqb-true key new e))
    at false e =
        let empty : None ≡ Some x = sym (ap (λ (b : Bool). if b then Some named else None) e) ∙ put in
        absurd (cc)
put_touches (Remove removed) key x put = absurd (cc)
put_touches (Move moved) key x put = absurd (cc)
put_touches Stay key x put = absurd (cc)

-- what is under the key of a step that puts
pub next_put : (es : List Listed) (new : ℕ) (named : NamedObject) → next_found es (Put new named) new ≡ Some named
next_put es new named = ap (λ (b : Bool). if b then Some named else found_under es new) (eq-eqb new new refl)

pub next_other : (es : List Listed) (new : ℕ) (named : NamedObject) (key : ℕ) → nat_eq key new ≡ false
    → next_found es (Put new named) key ≡ found_under es key
next_other es new named key is = ap (λ (b : Bool). if b then Some named else found_under es key) is

-- where the same object is put, all are under their keys as before
pub found_same : (es : List Listed) (step : Step) → PutsSame es step → (key : ℕ)
    → next_found es step key ≡ found_under es key
found_same es (Put new named) same key = at (nat_eq key new) refl
  where
    at : (b : Bool) → nat_eq key new ≡ b → next_found es (Put new named) key ≡ found_under es key
    at true e =
        ap (λ (b : Bool). if b then Some named else found_under es key) e
        ∙ (sym same ∙ ap (found_under es) (sym (eqb-true key new e)))
    at false e = next_other es new named key e
found_same es (Remove removed) same key = absurd same
found_same es (Move moved) same key = absurd same
found_same es Stay same key = absurd same

-- an object under another key than that of a step was there before
found_before : (es : List Listed) (step : Step) (key : ℕ) (o : NamedObject) → is_other (changed_key step) key ≡ true
    → next_found es step key ≡ Some o → found_under es key ≡ Some o
found_before es (Put new named) key o other h = at (nat_eq key new) refl
  where
    at : (b : Bool) → nat_eq key new ≡ b → found_under es key ≡ Some o
    at true e = absurd (cc)
    at false e = sym (ap (λ (b : Bool). if b then Some named else found_under es key) e) ∙ h
found_before es (Remove old) key o other h = at (nat_eq key old) refl
  where
    at : (b : Bool) → nat_eq key old ≡ b → found_under es key ≡ Some o
    at true e = absurd (cc)
    at false e = sym (ap (λ (b : Bool). if b then None else found_under es key) e) ∙ h
found_before es (Move moved) key o other h = h
found_before es Stay key o other h = h

-- what is under the key of a step is what it puts
found_put : (old : List NamedObject) (es : List Listed) (step : Step) (key : ℕ) (o : NamedObject)
    → is_other (changed_key step) key ≡ false → next_found es step key ≡ Some o → PutsNoneOf old step → IsNoneOf old o
found_put old es (Put new named) key o other h none = at (nat_eq key new) refl
  where
    at : (b : Bool) → nat_eq key new ≡ b → IsNoneOf old o
    at true e =
        let is : named ≡ o =
        some_same named o (sym (ap (λ (b : Bool). if b then Some named else found_under es key) e) ∙ h) in
        subst (IsNoneOf old) is none
    at false e = absurd (cc)
found_put old es (Remove removed) key o other h none = at (nat_eq key removed) refl
  where
    at : (b : Bool) → nat_eq key removed ≡ b → IsNoneOf old o
    at true e =
        let empty : None ≡ Some o = sym (ap (λ (b : Bool). if b then None else found_under es key) e) ∙ h in
        absurd (cc)
    at false e = absurd (cc)
found_put old es (Move moved) key o other h none = absurd (cc)
found_put old es Stay key o other h none = absurd (cc)

-- after a step, without the origin of what came or went
pub since_after : (old : List NamedObject) (es next : List Listed) (step : Step) (before after : ℕ → Option ℕ)
    → ((key : ℕ) → found_under next key ≡ next_found es step key) → IsSince old before es → PutsNoneOf old step
    → ((key : ℕ) → after key ≡ without before (changed_key step) key) → IsSince old after next
since_after old es next step before after found since none but = record {
  same = λ key j o h at. same key j o (sym (found key) ∙ h) at (is_other (changed_key step) key) refl;
  fresh = λ key o h at. fresh key o (sym (found key) ∙ h) at (is_other (changed_key step) key) refl;
}
  where
    given : (key : ℕ) (b : Bool) → is_other (changed_key step) key ≡ b
        → after key ≡ (if b then before key else None)
    given key b e = but key ∙ ap (λ (c : Bool). if c then before key else None) e

    same : (key j : ℕ) (o : NamedObject) → next_found es step key ≡ Some o → after key ≡ Some j
        → (b : Bool) → is_other (changed_key step) key ≡ b → slice_get old j ≡ Some o
    same key j o h at true e =
        since.same key j o (found_before es step key o e h) (sym (given key true e) ∙ at)
    same key j o h at false e =
        let empty : None ≡ Some j = sym (given key false e) ∙ at in
        absurd (cc)

    fresh : (key : ℕ) (o : NamedObject) → next_found es step key ≡ Some o → after key ≡ None
        → (b : Bool) → is_other (changed_key step) key ≡ b → IsNoneOf old o
    fresh key o h at true e =
        since.fresh key o (found_before es step key o e h) (sym (given key true e) ∙ at)
    fresh key o h at false e = found_put old es step key o e h none

-- the same where a step puts an object over the same one, which keeps its origin
pub since_next : (old : List NamedObject) (es next : List Listed) (step : Step) (same : Bool)
    (before after : ℕ → Option ℕ) → ((key : ℕ) → found_under next key ≡ next_found es step key) → IsSince old before es
    → (same ≡ true → PutsSame es step) → (same ≡ false → PutsNoneOf old step)
    → ((key : ℕ) → after key ≡ without before (stale_key_of same step) key) → IsSince old after next
since_next old es next step true before after found since puts none but = record {
  same = λ key j o h at. since.same key j o (there key o h) (sym (but key) ∙ at);
  fresh = λ key o h at. since.fresh key o (there key o h) (sym (but key) ∙ at);
}
  where
    there : (key : ℕ) (o : NamedObject) → found_under next key ≡ Some o → found_under es key ≡ Some o
    there key o h = sym (found_same es step (puts refl) key) ∙ (sym (found key) ∙ h)
since_next old es next step false before after found since puts none but =
    since_after old es next step before after found since (none refl) but

-- ---- places

from_at : (origin : ℕ → Option ℕ) (keys : List ℕ) (i j : ℕ) → get_or (map origin keys) i None ≡ Some j
    → (key : ℕ) × (slice_get keys i ≡ Some key) × (origin key ≡ Some j)
from_at origin [] i j h = absurd (cc)
from_at origin (k ∷ ks) zero j h = (k, refl, h)
from_at origin (k ∷ ks) (suc i) j h = from_at origin ks i j h

pub from_none : (origin : ℕ → Option ℕ) (keys : List ℕ) (i key : ℕ) → slice_get keys i ≡ Some key
    → get_or (map origin keys) i None ≡ origin key
from_none origin [] i key h = absurd (cc)
from_none origin (k ∷ ks) zero key h = ap origin (some_same k key h)
from_none origin (k ∷ ks) (suc i) key h = from_none origin ks i key h

-- the origins of the objects by their places
pub origins_by_place : (old new : Project) (es : List Listed) (origin : ℕ → Option ℕ) → AreKeysDistinct (keys_of es)
    → new.objects ≡ objects_of es → IsSince old.objects origin es → AreOrigins old new (map origin (keys_of es))
origins_by_place old new es origin distinct objects since = record {
  same = λ i j h.
      let at = from_at origin (keys_of es) i j h in
      let object = object_at es i at.0 at.1 in
      ap (λ (os : List NamedObject). slice_get os i) objects
      ∙ (object.1
      ∙ sym (since.same at.0 j object.0 (sym (under_key es i at.0 distinct at.1) ∙ object.1) at.2));
  fresh = λ i x y h at c n t.
      let listed : slice_get (objects_of es) i ≡ Some x =
      sym (ap (λ (os : List NamedObject). slice_get os i) objects) ∙ at in
      let key = key_at es i x listed in
      since.fresh key.0 x (sym (under_key es i key.0 distinct key.1) ∙ listed)
      (sym (from_none origin (keys_of es) i key.0 key.1) ∙ h) y c n t;
}

-- ---- a new link

passes : {X : Type 0} (f : X → Bool) (y x : X) (b : Bool) (rest : Option X) → f y ≡ b
    → (rest ≡ Some x → f x ≡ true) → cond b (Some y) rest ≡ Some x → f x ≡ true
passes f y x true rest e more h = ap f (sym (some_same y x h)) ∙ e
passes f y x false rest e more h = more h

find_passes : {X : Type 0} (f : X → Bool) (xs : List X) (x : X) → find f xs ≡ Some x → f x ≡ true
find_passes f [] x h = absurd (cc)
find_passes f (y ∷ xs) x h = passes f y x (f y) (find f xs) refl (find_passes f xs x) h

within : (n m i : ℕ) (b : Bool) → ltb n m ≡ b → cond b (Some n) None ≡ Some i → i < m
within n m i true e h = subst (λ (k : ℕ). k < m) (some_same n i h) (ltb-true n m e)
within n m i false e h = absurd (cc)

-- the key of a place is the one looked for
pub stands_there : (key : ℕ) (keys : List ℕ) (j : ℕ) → position (nat_eq key) keys ≡ Some j → slice_get keys j ≡ Some key
stands_there key keys j h =
    let inside : j < length keys =
    within (position_or_len (nat_eq key) keys) (length keys) j
    (ltb (position_or_len (nat_eq key) keys) (length keys)) refl h in
    let there : slice_get keys j ≡ Some (get_or keys j 0) = slice_get-get_or keys j 0 inside in
    let is : key ≡ get_or keys j 0 =
    eqb-true key (get_or keys j 0)
    (find_passes (nat_eq key) keys (get_or keys j 0) (find_some (nat_eq key) keys j h ∙ there)) in
    there ∙ ap Some (sym is)

-- the places of the objects of a link are their origins
pub since_places : (es : List Listed) (places : List (Option ℕ)) → AreKeysDistinct (keys_of es)
    → HasPlaces (keys_of es) places
    → ((key : ℕ) → is_some (position (nat_eq key) (keys_of es)) ≡ is_some (found_under es key))
    → IsSince (objects_of es) (origin_of places) es
since_places es places distinct has found = record {
  same = λ key j o h at.
      under_key es j key distinct (stands_there key (keys_of es) j (sym (has key) ∙ at)) ∙ h;
  fresh = λ key o h at.
      let none : false ≡ true =
      sym (ap is_some (sym (has key) ∙ at)) ∙ (found key ∙ ap is_some h) in
      absurd (cc);
}
