-- A project that follows the previous link at once.
use Rattle.relink.proofs.Common.{AreKeysDistinct, Bool, Contains, IsSince, List, Listed, NamedObject, None, Option}
use Rattle.relink.proofs.Common.{PreviousState, Project, PutsByName, PutsSame, ReplacedObjectState, Some, Step, [], ap}
use Rattle.relink.proofs.Common.{edited_key, eq-eqb, false, found_under, is_some, keys_of, map, nat_eq, next_found}
use Rattle.relink.proofs.Common.{objects_of, place_in, position, put_under, refl, replaced_in, slice_get}
use Rattle.relink.proofs.Common.{slice_index_or, stale_key_of, subst, suc, sym, true, without, zero, ℕ, ◌∙◌, ◌∷◌, ◌≡◌}
use Rattle.relink_driver.specs.Resume.{HasReplaced, IsNext}
use Rattle.relink.proofs.Putting.{all_have, came, replaced_here}
use Rattle.relink.proofs.OriginsFollow.{from_none, key_at, other_head, put_touches, rest_distinct, some_same}
use Rattle.relink.proofs.OriginsFollow.{stands_there}
use Rattle.relink.proofs.OriginsFollow.{under_key}

-- a key stands at one place
same_place : (key : ℕ) (keys : List ℕ) (i j : ℕ) → AreKeysDistinct keys → slice_get keys i ≡ Some key
    → slice_get keys j ≡ Some key → i ≡ j
same_place key [] i j distinct h k = absurd (cc)
same_place key (x ∷ xs) zero zero distinct h k = refl
same_place key (x ∷ xs) zero (suc j) distinct h k =
    let apart : nat_eq key x ≡ false = other_head key x xs j distinct k in
    let here : nat_eq key x ≡ true = eq-eqb key x (sym (some_same x key h)) in
    let both : true ≡ false = sym here ∙ apart in
    absurd (cc)
same_place key (x ∷ xs) (suc i) zero distinct h k =
    let apart : nat_eq key x ≡ false = other_head key x xs i distinct h in
    let here : nat_eq key x ≡ true = eq-eqb key x (sym (some_same x key k)) in
    let both : true ≡ false = sym here ∙ apart in
    absurd (cc)
same_place key (x ∷ xs) (suc i) (suc j) distinct h k =
    ap suc (same_place key xs i j (rest_distinct x xs distinct) h k)

-- which is the one that is found
found_there : (key : ℕ) (keys : List ℕ) (i : ℕ) → AreKeysDistinct keys → slice_get keys i ≡ Some key
    → is_some (position (nat_eq key) keys) ≡ true → position (nat_eq key) keys ≡ Some i
found_there key keys i distinct h some = at (position (nat_eq key) keys) refl
  where
    at : (p : Option ℕ) → position (nat_eq key) keys ≡ p → position (nat_eq key) keys ≡ Some i
    at None e =
        let empty : false ≡ true = sym (ap is_some e) ∙ some in
        absurd (cc)
    at (Some j) e = e ∙ ap Some (same_place key keys j i distinct (stands_there key keys j e) h)

-- the script is known to be the same, and each object that came in the place of one of its name is known
pub is_next : (old new : Project) (es next : List Listed) (step : Step) (after : Option ℕ) (same : Bool)
    (origin : ℕ → Option ℕ) (x : PreviousState) → old.objects ≡ objects_of es → new.objects ≡ objects_of next
    → ((key : ℕ) → found_under next key ≡ next_found es step key) → AreKeysDistinct (keys_of next)
    → ((key : ℕ) → is_some (position (nat_eq key) (keys_of next)) ≡ is_some (found_under next key))
    → after ≡ place_in (keys_of next) (edited_key step) → PutsByName es step → (same ≡ true → PutsSame es step)
    → IsSince old.objects origin es → x.same_script ≡ true
    → x.origins ≡ map (without origin (stale_key_of same step)) (keys_of next) → x.replaced
    ≡ replaced_in origin es step after
    → IsNext old new x
is_next old new es next step after same origin x were are found distinct placed place by_name puts since script from
    replaced = record {
      script = script;
      known = λ i o y at none among name.
          let there : slice_get (objects_of next) i ≡ Some o =
          sym (ap (λ (os : List NamedObject). slice_get os i) are) ∙ at in
          let key = key_at next i o there in
          let here : found_under next key.0 ≡ Some o = sym (under_key next i key.0 distinct key.1) ∙ there in
          let lost : without origin (stale_key_of same step) key.0 ≡ None =
          sym (from_none (without origin (stale_key_of same step)) (keys_of next) i key.0 key.1)
          ∙ (sym (ap (λ (l : List (Option ℕ)). slice_index_or l i None) from) ∙ none) in
          let have = all_have es origin (subst (λ (os : List NamedObject). IsSince os origin es) were since) in
          let put : put_under step key.0 ≡ Some o =
          came es step same origin key.0 o puts have (sym (found key.0) ∙ here) lost in
          let stands : after ≡ Some i =
          place
          ∙ (ap (place_in (keys_of next)) (put_touches step key.0 o put)
          ∙ found_there key.0 (keys_of next) i distinct key.1 (placed key.0 ∙ ap is_some here)) in
          subst (λ (r : Option ReplacedObjectState). HasReplaced r i) (sym replaced)
          (replaced_here es step origin key.0 i o y after put by_name have
          (subst (λ (os : List NamedObject). Contains os y) were among) name stands);
    }
