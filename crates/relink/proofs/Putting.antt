-- The object that a step puts, beside those that are there.
use Rattle.relink.proofs.Common.{AreKeysDistinct, Bool, Contains, IfSome, IsSince, List, Listed, Listing, NamedObject}
use Rattle.relink.proofs.Common.{None, Option, ProjectState, PutsByName, PutsNoneOf, PutsSame, Some, Staged, Step, []}
use Rattle.relink.proofs.Common.{ap, arith, cond, count_by, eq-eqb, eqb-true, false, found_under, if◌then◌else◌}
use Rattle.relink.proofs.Common.{key_count, keys_of, nat_eq, next_found, next_listing, not, objects_of, option_map}
use Rattle.relink.proofs.Common.{put_under, refl, replaced_by, replaced_in, slice_get, slice_get-get_or, stale_key_of}
use Rattle.relink.proofs.Common.{subst, suc, sym, true, without, zero, ℕ, ◌+◌, ◌<◌, ◌∙◌, ◌∷◌, ◌≡◌, ◌≤◌}
use Rattle.relink_driver.specs.Resume.{HasReplaced}
use Rattle.ldmodel.specs.Edits.{AreNamesDistinct, has_name}
use Rattle.ldmodel_project.specs.Next.{Fits}
use Rattle.ldmodel_project.specs.declared.staged.Step.TheVariants.{Put, Remove, Move, Stay}
use Rattle.relink.proofs.Finding.{counts_head}
use Rattle.relink.proofs.OriginsFollow.{found_same, key_at, next_other, next_put, same_bytes, some_same, under_key}

-- ---- the object under a key

-- the first entry is that of the key, or not
first_found : (e : Listed) (es : List Listed) (key : ℕ) (o : NamedObject) → nat_eq key e.key ≡ true
    → found_under (e ∷ es) key ≡ Some o → e.named ≡ o
first_found e es key o is h =
    some_same e.named o (sym (ap (λ (b : Bool). if b then Some e.named else found_under es key) is) ∙ h)

later_found : (e : Listed) (es : List Listed) (key : ℕ) (o : NamedObject) → nat_eq key e.key ≡ false
    → found_under (e ∷ es) key ≡ Some o → found_under es key ≡ Some o
later_found e es key o is h = sym (ap (λ (b : Bool). if b then Some e.named else found_under es key) is) ∙ h

counted_one : (f : NamedObject → Bool) (e : Listed) (es : List Listed) (o : NamedObject) → e.named ≡ o → f o ≡ true
    → count_by f (objects_of (e ∷ es)) ≡ 1 + count_by f (objects_of es)
counted_one f e es o is p =
    let head : count_by f (objects_of (e ∷ es)) ≡ cond (f e.named) 1 0 + count_by f (objects_of es) =
    counts_head f e.named (objects_of es) in
    let one : cond {A = ℕ} (f e.named) 1 0 ≡ 1 = ap (λ (b : Bool). cond b 1 0) (ap f is ∙ p) in
    omega (arith, head, one)

counted_more : (f : NamedObject → Bool) (e : Listed) (es : List Listed) (n : ℕ) → n ≤ count_by f (objects_of es)
    → n ≤ count_by f (objects_of (e ∷ es))
counted_more f e es n l =
    let head : count_by f (objects_of (e ∷ es)) ≡ cond (f e.named) 1 0 + count_by f (objects_of es) =
    counts_head f e.named (objects_of es) in
    omega (arith, head, l)

one_step : (f : NamedObject → Bool) (e : Listed) (es : List Listed) (key : ℕ) (o : NamedObject) (b : Bool)
    → nat_eq key e.key ≡ b → found_under (e ∷ es) key ≡ Some o → f o ≡ true
    → (found_under es key ≡ Some o → 1 ≤ count_by f (objects_of es)) → 1 ≤ count_by f (objects_of (e ∷ es))
one_step f e es key o true is h p more =
    let one = counted_one f e es o (first_found e es key o is h) p in omega (arith, one)
one_step f e es key o false is h p more = counted_more f e es 1 (more (later_found e es key o is h))

-- an object under a key is counted where it passes
one_under : (f : NamedObject → Bool) (es : List Listed) (key : ℕ) (o : NamedObject) → found_under es key ≡ Some o
    → f o ≡ true → 1 ≤ count_by f (objects_of es)
one_under f [] key o h p = absurd (cc)
one_under f (e ∷ es) key o h p =
    one_step f e es key o (nat_eq key e.key) refl h p (λ later. one_under f es key o later p)

two_step : (f : NamedObject → Bool) (e : Listed) (es : List Listed) (i j : ℕ) (x y : NamedObject) (b c : Bool)
    → nat_eq i e.key ≡ b → nat_eq j e.key ≡ c → (i ≡ j → ⊥) → found_under (e ∷ es) i ≡ Some x
    → found_under (e ∷ es) j ≡ Some y → f x ≡ true → f y ≡ true
    → (found_under es i ≡ Some x → found_under es j ≡ Some y → 2 ≤ count_by f (objects_of es))
    → 2 ≤ count_by f (objects_of (e ∷ es))
two_step f e es i j x y true true is js apart h k p q more =
    absurd (apart (eqb-true i e.key is ∙ sym (eqb-true j e.key js)))
two_step f e es i j x y true false is js apart h k p q more =
    let one = counted_one f e es x (first_found e es i x is h) p in
    omega (arith, one, one_under f es j y (later_found e es j y js k) q)
two_step f e es i j x y false true is js apart h k p q more =
    let one = counted_one f e es y (first_found e es j y js k) q in
    omega (arith, one, one_under f es i x (later_found e es i x is h) p)
two_step f e es i j x y false false is js apart h k p q more =
    counted_more f e es 2 (more (later_found e es i x is h) (later_found e es j y js k))

-- two objects under different keys are counted twice
two_under : (f : NamedObject → Bool) (es : List Listed) (i j : ℕ) (x y : NamedObject) → (i ≡ j → ⊥)
    → found_under es i ≡ Some x → found_under es j ≡ Some y → f x ≡ true → f y ≡ true
    → 2 ≤ count_by f (objects_of es)
two_under f [] i j x y apart h k p q = absurd (cc)
two_under f (e ∷ es) i j x y apart h k p q =
    two_step f e es i j x y (nat_eq i e.key) (nat_eq j e.key) refl refl apart h k p q
    (λ at later. two_under f es i j x y apart at later p q)

-- where no name stands twice, objects of one name are under one key
named_once : (es : List Listed) (i j : ℕ) (x y : NamedObject) → AreNamesDistinct (objects_of es) → (i ≡ j → ⊥)
    → found_under es i ≡ Some x → found_under es j ≡ Some y → y.name ≡ x.name → ⊥
named_once es i j x y once apart h k n =
    let two = two_under (has_name x.name) es i j x y apart h k (same_bytes x.name x.name refl)
    (same_bytes y.name x.name n) in
    let most = once x.name in
    absurd (omega (arith, two, most))

listed_step : (e : Listed) (es : List Listed) (key : ℕ) (o : NamedObject) (b : Bool) → nat_eq key e.key ≡ b
    → found_under (e ∷ es) key ≡ Some o → (found_under es key ≡ Some o → Contains (objects_of es) o)
    → Contains (objects_of (e ∷ es)) o
listed_step e es key o true is h more = (zero, omega arith, first_found e es key o is h)
listed_step e es key o false is h more =
    let at = more (later_found e es key o is h) in (suc at.0, omega (arith, at.1), at.2)

-- an object under a key is one of the objects
pub found_listed : (es : List Listed) (key : ℕ) (o : NamedObject) → found_under es key ≡ Some o
    → Contains (objects_of es) o
found_listed [] key o h = absurd (cc)
found_listed (e ∷ es) key o h =
    listed_step e es key o (nat_eq key e.key) refl h (λ later. found_listed es key o later)

count_step : (e : Listed) (es : List Listed) (key : ℕ) (o : NamedObject) (b : Bool) → nat_eq key e.key ≡ b
    → found_under (e ∷ es) key ≡ Some o → (found_under es key ≡ Some o → 0 < key_count es key)
    → 0 < key_count (e ∷ es) key
count_step e es key o b is h more =
    counted b is
  where
    head : key_count (e ∷ es) key ≡ cond (nat_eq key e.key) 1 0 + key_count es key
    head = counts_head (λ (x : Listed). nat_eq key x.key) e es

    counted : (b : Bool) → nat_eq key e.key ≡ b → 0 < key_count (e ∷ es) key
    counted true is =
        let one : cond {A = ℕ} (nat_eq key e.key) 1 0 ≡ 1 = ap (λ (c : Bool). cond c 1 0) is in
        omega (arith, head, one)
    counted false is = omega (arith, head, more (later_found e es key o is h))

-- the key of an object is counted
pub found_counted : (es : List Listed) (key : ℕ) (o : NamedObject) → found_under es key ≡ Some o
    → 0 < key_count es key
found_counted [] key o h = absurd (cc)
found_counted (e ∷ es) key o h =
    count_step e es key o (nat_eq key e.key) refl h (λ later. found_counted es key o later)

-- ---- what is put

-- an object that has the name of what is put is the one under its key, since no name stands twice afterwards
puts_by_name : (es next : List Listed) (step : Step) → AreKeysDistinct (keys_of es)
    → AreNamesDistinct (objects_of next) → ((key : ℕ) → found_under next key ≡ next_found es step key)
    → PutsByName es step
puts_by_name es next (Put new named) distinct once found = λ y c n. (
    let here : slice_get (objects_of es) c.0 ≡ Some y = slice_get-get_or (objects_of es) c.0 y c.1 ∙ ap Some c.2 in
    let key = key_at es c.0 y here in
    let is : found_under es key.0 ≡ Some y = sym (under_key es c.0 key.0 distinct key.1) ∙ here in
    by_key key.0 (nat_eq key.0 new) refl y n is)
  where
    by_key : (key : ℕ) (b : Bool) → nat_eq key new ≡ b → (y : NamedObject) → y.name ≡ named.name
        → found_under es key ≡ Some y → found_under es new ≡ Some y
    by_key key true at y n is = subst (λ (k : ℕ). found_under es k ≡ Some y) (eqb-true key new at) is
    by_key key false at y n is =
        absurd (named_once next new key named y once (λ same. absurd (differ same))
        (found new ∙ next_put es new named) (found key ∙ (next_other es new named key at ∙ is)) n)
      where
        differ : new ≡ key → ⊥
        differ same =
            let yes : nat_eq key new ≡ true = eq-eqb key new (sym same) in
            let both : true ≡ false = sym yes ∙ at in
            absurd (cc)
puts_by_name es next (Remove removed) distinct once found = tt
puts_by_name es next (Move moved) distinct once found = tt
puts_by_name es next Stay distinct once found = tt

-- said of what is kept of a project, and what a staged edit makes of it
pub staged_by_name : (h : ProjectState) (s : Staged) (l : Listing) (keys : List ℕ) → l ≡ next_listing h s
    → ((key : ℕ) → found_under l.entries key ≡ next_found h.contents.entries s.objects.step key)
    → keys ≡ keys_of h.contents.entries → AreKeysDistinct keys → Fits h.contents s.objects
    → PutsByName h.contents.entries s.objects.step
staged_by_name h s l keys is found are distinct fits =
    puts_by_name h.contents.entries l.entries s.objects.step (subst AreKeysDistinct are distinct)
    (subst (λ (x : Listing). AreNamesDistinct (objects_of x.entries)) (sym is) fits.names) found

-- what a step puts under its key
put_is : (new : ℕ) (named : NamedObject) (key : ℕ) (x : NamedObject) → put_under (Put new named) key ≡ Some x
    → (key ≡ new) × (named ≡ x)
put_is new named key x put = at (nat_eq key new) refl
  where
    at : (b : Bool) → nat_eq key new ≡ b → (key ≡ new) × (named ≡ x)
    at true e =
        (eqb-true key new e, some_same named x (sym (ap (λ (b : Bool). if b then Some named else None) e) ∙ put))
    at false e =
        let empty : None ≡ Some x = sym (ap (λ (b : Bool). if b then Some named else None) e) ∙ put in
        absurd (cc)

-- what is put is none of the objects, where none is under its key, or another
pub puts_other : (es : List Listed) (step : Step) (key : ℕ) (x : NamedObject) (f : Option NamedObject)
    → put_under step key ≡ Some x → found_under es key ≡ f
    → IfSome f (λ (o : NamedObject). o.name ≡ x.name → o.object.text ≡ x.object.text → ⊥) → PutsByName es step
    → PutsNoneOf (objects_of es) step
puts_other es (Put new named) key x f put found other by_name = λ y c n t. (
    let is = put_is new named key x put in
    let here : found_under es key ≡ Some y =
    subst (λ (k : ℕ). found_under es k ≡ Some y) (sym is.0) (by_name y c n) in
    differ f y (sym found ∙ here) other (n ∙ ap (λ (o : NamedObject). o.name) is.1)
    (t ∙ ap (λ (o : NamedObject). o.object.text) is.1))
  where
    differ : (f : Option NamedObject) (y : NamedObject) → f ≡ Some y
        → IfSome f (λ (o : NamedObject). o.name ≡ x.name → o.object.text ≡ x.object.text → ⊥) → y.name ≡ x.name
        → y.object.text ≡ x.object.text → ⊥
    differ None y e other n t = absurd (cc)
    differ (Some o) y e other n t =
        let is : o ≡ y = some_same o y e in
        other (ap (λ (z : NamedObject). z.name) is ∙ n) (ap (λ (z : NamedObject). z.object.text) is ∙ t)
puts_other es (Remove removed) key x f put found other by_name = tt
puts_other es (Move moved) key x f put found other by_name = tt
puts_other es Stay key x f put found other by_name = tt

-- ---- the objects without an origin, where the link is that of the project before the step

abbrev pub AllHave : List Listed → (ℕ → Option ℕ) → Type 0
AllHave es origin = (key : ℕ) (o : NamedObject) → found_under es key ≡ Some o → origin key ≡ None → ⊥

pub all_have : (es : List Listed) (origin : ℕ → Option ℕ) → IsSince (objects_of es) origin es → AllHave es origin
all_have es origin since = λ key o h none.
    since.fresh key o h none o (found_listed es key o h) refl refl

without_not : (x : Option ℕ) (b : Bool) → (if not b then x else None) ≡ None → (if b then None else x) ≡ None
without_not x true h = refl
without_not x false h = h

-- an object that has none is put
pub came : (es : List Listed) (step : Step) (same : Bool) (origin : ℕ → Option ℕ) (key : ℕ) (o : NamedObject)
    → (same ≡ true → PutsSame es step) → AllHave es origin → next_found es step key ≡ Some o
    → without origin (stale_key_of same step) key ≡ None → put_under step key ≡ Some o
came es step true origin key o puts have h none =
    absurd (have key o (sym (found_same es step (puts refl) key) ∙ h) none)
came es (Put new named) false origin key o puts have h none = at (nat_eq key new) refl
  where
    at : (b : Bool) → nat_eq key new ≡ b → put_under (Put new named) key ≡ Some o
    at true e =
        ap (λ (b : Bool). if b then Some named else None) e
        ∙ (sym (ap (λ (b : Bool). if b then Some named else found_under es key) e) ∙ h)
    at false e =
        let lost : origin key ≡ None =
        sym (ap (λ (b : Bool). if b then None else origin key) e) ∙ without_not (origin key) (nat_eq key new) none in
        absurd (have key o (sym (next_other es new named key e) ∙ h) lost)
came es (Remove removed) false origin key o puts have h none = at (nat_eq key removed) refl
  where
    at : (b : Bool) → nat_eq key removed ≡ b → put_under (Remove removed) key ≡ Some o
    at true e =
        let empty : None ≡ Some o = sym (ap (λ (b : Bool). if b then None else found_under es key) e) ∙ h in
        absurd (cc)
    at false e =
        let lost : origin key ≡ None =
        sym (ap (λ (b : Bool). if b then None else origin key) e)
        ∙ without_not (origin key) (nat_eq key removed) none in
        absurd (have key o (sym (ap (λ (b : Bool). if b then None else found_under es key) e) ∙ h) lost)
came es (Move moved) false origin key o puts have h none = absurd (have key o h none)
came es Stay false origin key o puts have h none = absurd (have key o h none)

-- the object in whose place an object comes is lent
pub replaced_here : (es : List Listed) (step : Step) (origin : ℕ → Option ℕ) (key i : ℕ) (o y : NamedObject)
    (after : Option ℕ) → put_under step key ≡ Some o → PutsByName es step → AllHave es origin
    → Contains (objects_of es) y → y.name ≡ o.name → after ≡ Some i
    → HasReplaced (replaced_in origin es step after) i
replaced_here es (Put new named) origin key i o y after put by_name have c n at =
    let is = put_is new named key o put in
    let found : found_under es new ≡ Some y = by_name y c (n ∙ ap (λ (x : NamedObject). x.name) (sym is.1)) in
    lent (origin new) (found_under es new) after found at (λ none. have new y found none)
  where
    lent : (j : Option ℕ) (f : Option NamedObject) (a : Option ℕ) → f ≡ Some y → a ≡ Some i → (j ≡ None → ⊥)
        → HasReplaced (replaced_by j (option_map (λ (x : NamedObject). x.object) f) a) i
    lent None f a e h some = absurd (some refl)
    lent (Some j) None a e h some = absurd (cc)
    lent (Some j) (Some z) None e h some = absurd (cc)
    lent (Some j) (Some z) (Some k) e h some = cc
replaced_here es (Remove removed) origin key i o y after put by_name have c n at = absurd (cc)
replaced_here es (Move moved) origin key i o y after put by_name have c n at = absurd (cc)
replaced_here es Stay origin key i o y after put by_name have c n at = absurd (cc)
