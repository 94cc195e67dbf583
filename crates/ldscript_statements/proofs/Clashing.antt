-- What the set of mentions tells of those before a place.
use Rattle.ldscript_statements.proofs.Common.{Bool, Bor, Clashes, EntryGiven, Holds, IsOnce, List, MatchBool, Meets}
use Rattle.ldscript_statements.proofs.Common.{MemoryGiven, Mention, Ordering, RegionDeclared, RegionUsed, SectionNamed}
use Rattle.ldscript_statements.proofs.Common.{SectionsGiven, SymbolGiven, [], ap, arith, false, false≢true, get_or, inl}
use Rattle.ldscript_statements.proofs.Common.{inr, is_eq, length, match_ordering, mention_of, not, refl, shown, subst}
use Rattle.ldscript_statements.proofs.Common.{sym, true, true≢false, ℕ, ◌++◌, ◌<◌, ◌||◌, ◌∙◌, ◌∷◌, ◌≡◌}
use Rattle.std.specs.List.{Contains, list_any}
use Rattle.std.specs.List.Sorted.{IsPermutation}
use Rattle.std.specs.Bool.{OnFalse}
use Rattle.std.specs.BTreeSet.{insert_key}
use Rattle.std.specs.declared.cmp.Ordering.TheVariants.{Less, Equal, Greater}
use Rattle.std.proofs.lemmas.List.{length-map, get_or-map}
use Rattle.std.proofs.lemmas.List.Elements.{Contains-append_left, Contains-append_right, Contains-append_cases}
use Rattle.std.proofs.lemmas.List.Folds.{Any-from_list_any, list_any_at}
use Rattle.std.proofs.lemmas.List.Sorted.{IsPermutation-map, IsPermutation-refl, IsPermutation-sym, IsPermutation-trans}
use Rattle.std.proofs.lemmas.List.Sorted.{IsPermutation-append_comm, IsPermutation-append_left}
use Rattle.std.proofs.lemmas.List.Sorted.{IsPermutation-append_right, Contains-permutation}
use Rattle.ldscript_statements.specs.declared.mention.Mention as code
use Rattle.ldscript_statements.specs.declared.mention.Mention.TheVariants as variant
use Rattle.ldscript_statements.proofs.Derived.{same, same_shown, shown_same}

-- what `contains` finds is there
found : (key : code.Mention) (keys : List code.Mention) → list_any (same key) keys ≡ true
    → Contains (shown keys) (mention_of key)
found key keys h =
    let at = Any-from_list_any (same key) keys h in
    let below : at.0 < length (shown keys) = omega (arith, length-map keys mention_of, at.2) in (
      at.0,
      below,
      get_or-map mention_of keys at.0 at.1 (mention_of key) at.2 ∙ ap mention_of at.3
          ∙ sym (same_shown key at.1 at.4),
    )

-- what is there, `contains` finds
finds : (key : code.Mention) (keys : List code.Mention) → Contains (shown keys) (mention_of key)
    → list_any (same key) keys ≡ true
finds key keys h =
    let below : h.0 < length keys = omega (arith, length-map keys mention_of, h.1) in
    list_any_at (same key) keys h.0 key below
    (shown_same key (get_or keys h.0 key) (sym h.2 ∙ get_or-map mention_of keys h.0 key (mention_of key) below))

contains_one : {X : Type 0} (x y : X) → Contains (x ∷ []) y → x ≡ y
contains_one x y h =
    let first : h.0 ≡ 0 = omega (arith, h.1) in
    ap (λ k. get_or (x ∷ []) k y) (sym first) ∙ h.2

one_contains : {X : Type 0} (x : X) (xs : List X) → Contains (x ∷ xs) x
one_contains x xs = (0, omega arith, refl)

-- the use of a region changes nothing
keeps_use : (keys : List code.Mention) (before : List Mention) (region : List ℕ) → Holds keys before
    → Holds keys (before ++ RegionUsed region ∷ [])
keeps_use keys before region holds = record {
  complete = λ m once h. elim (Contains-append_cases before (RegionUsed region ∷ []) m h) [
    | inl there ↦ holds.complete m once there
    | inr here ↦ absurd
        (subst IsOnce (sym (contains_one (RegionUsed region) m here)) once)
  ];
  sound = λ m h. Contains-append_left before (RegionUsed region ∷ []) m (holds.sound m h);
}

-- the answer at the use of a region, where t is what `contains` says of its declaration
used_answer : (t : Bool) (keys : List code.Mention) (name : Bor (List ℕ)) (before : List Mention)
    → list_any (same (variant.RegionDeclared name)) keys ≡ t → Holds keys before
    → MatchBool (not t) (Clashes before (RegionUsed name.now))
    ((Clashes before (RegionUsed name.now) → ⊥) × Holds keys (before ++ RegionUsed name.now ∷ []))
used_answer true keys name before is holds = (
  λ clash. clash (holds.sound (RegionDeclared name.now) (found (variant.RegionDeclared name) keys is)),
  keeps_use keys before name.now holds,
)
used_answer false keys name before is holds =
    λ here. false≢true (sym is ∙ finds (variant.RegionDeclared name) keys
    (holds.complete (RegionDeclared name.now) tt here))

meets_region : (keys : List code.Mention) (name : Bor (List ℕ))
    → Meets keys keys (RegionUsed name.now) (not (list_any (same (variant.RegionDeclared name)) keys))
meets_region keys name = λ before holds. used_answer
    (list_any (same (variant.RegionDeclared name)) keys) keys name before refl holds

pub meets_used : (keys : List code.Mention) (name : Bor (List ℕ)) (x : code.Mention) (declared : Bool)
    → x ≡ variant.RegionUsed name
    → declared ≡ list_any (same (variant.RegionDeclared name)) keys → Meets keys keys (mention_of x) (not declared)
meets_used keys name x declared is tells =
    subst (λ (y : code.Mention). Meets keys keys (mention_of y) (not declared)) (sym is)
    (subst (λ (t : Bool). Meets keys keys (RegionUsed name.now) (not t)) (sym tells) (meets_region keys name))

clash_of : (before : List Mention) (m : Mention) → IsOnce m → Contains before m → Clashes before m
clash_of before EntryGiven once h = h
clash_of before MemoryGiven once h = h
clash_of before SectionsGiven once h = h
clash_of before (SectionNamed n) once h = h
clash_of before (SymbolGiven n) once h = h
clash_of before (RegionDeclared n) once h = h
clash_of before (RegionUsed n) once h = absurd once

of_clash : (before : List Mention) (m : Mention) → IsOnce m → Clashes before m → Contains before m
of_clash before EntryGiven once h = h
of_clash before MemoryGiven once h = h
of_clash before SectionsGiven once h = h
of_clash before (SectionNamed n) once h = h
of_clash before (SymbolGiven n) once h = h
of_clash before (RegionDeclared n) once h = h
of_clash before (RegionUsed n) once h = absurd once

pub once_of : (x : code.Mention) → ((n : Bor (List ℕ)) → x ≡ variant.RegionUsed n → ⊥) → IsOnce (mention_of x)
once_of variant.EntryGiven other = tt
once_of variant.MemoryGiven other = tt
once_of variant.SectionsGiven other = tt
once_of (variant.SectionNamed n) other = tt
once_of (variant.SymbolGiven n) other = tt
once_of (variant.RegionDeclared n) other = tt
once_of (variant.RegionUsed n) other = absurd (other n refl)

-- a new key
holds_more : (key : code.Mention) (old new : List code.Mention) (before : List Mention) → IsPermutation (key ∷ old) new
    → Holds old before → Holds new (before ++ mention_of key ∷ [])
holds_more key old new before moved holds =
    let m0 : Mention = mention_of key in
    let there : IsPermutation (shown (key ∷ old)) (shown new) = IsPermutation-map mention_of (key ∷ old) new moved in
    let back : IsPermutation (shown new) (shown (key ∷ old)) = IsPermutation-sym (shown (key ∷ old))
    (shown new) there in
    record {
      complete = λ m once h. Contains-permutation (shown (key ∷ old)) (shown new) m there
          (elim (Contains-append_cases before (m0 ∷ []) m h) [
            | inl past ↦ Contains-append_right (m0 ∷ []) (shown old) m (holds.complete m once past)
            | inr here ↦ subst (λ (x : Mention). Contains (m0 ∷ shown old) x) (contains_one m0 m here)
                (one_contains m0 (shown old))
          ]);
      sound =
          λ m h. elim (Contains-append_cases (m0 ∷ []) (shown old) m
          (Contains-permutation (shown new) (shown (key ∷ old)) m back h)) [
            | inl here ↦ Contains-append_right before (m0 ∷ []) m here
            | inr past ↦ Contains-append_left before (m0 ∷ []) m (holds.sound m past)
          ];
    }

not_back : (t b : Bool) → b ≡ not t → not b ≡ t
not_back true b e = ap not e
not_back false b e = ap not e

placed_at : {K : Type 0} (k x : K) (xs ys : List K) (o : Ordering) (others : Bool) → (is_eq o || others) ≡ false
    → (others ≡ false → IsPermutation (k ∷ xs) ys)
    → IsPermutation (k ∷ x ∷ xs) (match_ordering o (k ∷ x ∷ xs) (x ∷ xs) (x ∷ ys))
placed_at k x xs ys Less others h later = IsPermutation-refl (k ∷ x ∷ xs)
placed_at k x xs ys Equal others h later = absurd (true≢false h)
placed_at k x xs ys Greater others h later =
    let swapped : IsPermutation (k ∷ x ∷ xs) (x ∷ k ∷ xs) = IsPermutation-append_left xs (k ∷ x ∷ []) (x ∷ k ∷ [])
    (IsPermutation-append_comm (k ∷ []) (x ∷ [])) in
    IsPermutation-trans (k ∷ x ∷ xs) (x ∷ k ∷ xs) (x ∷ ys) swapped
    (IsPermutation-append_right (x ∷ []) (k ∷ xs) ys (later h))

-- a new key in its place
placed : {K : Type 0} (cmp : K → K → Ordering) (k : K) (xs : List K) → list_any (λ y. is_eq (cmp k y)) xs ≡ false
    → IsPermutation (k ∷ xs) (insert_key cmp xs k)
placed cmp k [] h = IsPermutation-refl (k ∷ [])
placed cmp k (x ∷ xs) h = placed_at k x xs (insert_key cmp xs k) (cmp k x) (list_any (λ y. is_eq (cmp k y)) xs) h
    (placed cmp k xs)

-- what an insertion says of the keys
pub inserted : {K : Type 0} (cmp : K → K → Ordering) (k : K) (old new : List K) (added : Bool)
    → added ≡ not (list_any (λ y. is_eq (cmp k y)) old) → new ≡ insert_key cmp old k → OnFalse added (new ≡ old)
    → MatchBool added (IsPermutation (k ∷ old) new) (new ≡ old)
inserted cmp k old new true is keys same =
    subst (λ l. IsPermutation (k ∷ old) l) (sym keys)
    (placed cmp k old (sym (not_back (list_any (λ y. is_eq (cmp k y)) old) true is)))
inserted cmp k old new false is keys same = same

-- the answer at what may stand once
pub meets_once : (added : Bool) (key : code.Mention) (old new : List code.Mention) → IsOnce (mention_of key)
    → added ≡ not (list_any (same key) old)
    → MatchBool added (IsPermutation (key ∷ old) new) (new ≡ old) → Meets old new (mention_of key) (not added)
meets_once true key old new once is keys = λ before holds. (
  λ clash. true≢false
      (sym (finds key old (holds.complete (mention_of key) once (of_clash before (mention_of key) once clash)))
      ∙ sym (not_back (list_any (same key) old) true is)),
  holds_more key old new before keys holds,
)
meets_once false key old new once is keys = λ before holds.
    clash_of before (mention_of key) once
    (holds.sound (mention_of key) (found key old (sym (not_back (list_any (same key) old) false is))))
