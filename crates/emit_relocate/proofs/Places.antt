-- An index: what is known of its places while sites are added and taken out.
use Rattle.emit_relocate.proofs.Common.{Bool, Bucket, IndexSlot, IsSound, List, ObjectPlace, Option, SiteRef, Some, []}
use Rattle.emit_relocate.proofs.Common.{ap, arith, cases_eq, cleared, cleared_one, cons_option, entries_from, eqb-true}
use Rattle.emit_relocate.proofs.Common.{false, filter, filter_map, get_or, get_or-map, get_or-set_other}
use Rattle.emit_relocate.proofs.Common.{get_or-set_same, get_or_past, has_spot, if◌then◌else◌, inl, inr, is_of_object}
use Rattle.emit_relocate.proofs.Common.{is_owner, is_spot, length, length-map, list_any_more, map, nat_eq, ne_eqb, not}
use Rattle.emit_relocate.proofs.Common.{refl, room_at, room_of, set, set-get_or, slots_at, suc, sym, take, true, values}
use Rattle.emit_relocate.proofs.Common.{vec_capacity, vec_len, zero, ℕ, ◌+◌, ◌-◌, ◌<◌, ◌||◌, ◌∙◌, ◌∷◌, ◌≡◌, ◌≢◌, ◌≤◌}
use Rattle.std.proofs.Common.{None, Vec, Global}
use Rattle.emit_relocate.specs.Index.{slot}

-- the values of entries are those of the slots
pub entry_values : (k : ℕ) (slots : List (Option SiteRef)) → map (λ e. e.1) (entries_from k slots)
    ≡ filter_map (λ s. s) slots
entry_values k [] = refl
entry_values k (None ∷ slots) = entry_values (k + 1) slots
entry_values k (Some x ∷ slots) = ap (λ xs. x ∷ xs) (entry_values (k + 1) slots)

-- a part of each item of a list, and what becomes of it where an item is written
module _ {X Y : Type 0} (f : X → Y) where
  pub mapped_at : (xs : List X) (i : ℕ) (x : X) (d : Y) → i < length xs → x ≡ get_or xs i x → get_or (map f xs) i d
      ≡ f x
  mapped_at xs i x d low is = get_or-map f xs i x d low ∙ ap f (sym is)

  pub mapped_set : (xs : List X) (i : ℕ) (x : X) → map f (set xs i x) ≡ set (map f xs) i (f x)
  mapped_set [] i x = refl
  mapped_set (y ∷ xs) zero x = refl
  mapped_set (y ∷ xs) (suc i) x = ap (λ l. f y ∷ l) (mapped_set xs i x)

  pub written_at : (xs : List X) (i : ℕ) (x : X) (d : Y) → i < length xs → get_or (map f (set xs i x)) i d ≡ f x
  written_at xs i x d low =
      let long : i < length (map f xs) = omega (arith, length-map xs f, low) in
      ap (λ l. get_or l i d) (mapped_set xs i x) ∙ get_or-set_same (map f xs) i (f x) d long

  pub written_elsewhere : (xs : List X) (i j : ℕ) (x : X) (d : Y) → j ≢ i → get_or (map f (set xs i x)) j d
      ≡ get_or (map f xs) j d
  written_elsewhere xs i j x d differs = ap (λ l. get_or l j d) (mapped_set xs i x)
      ∙ get_or-set_other (map f xs) i j (f x) d differs

  pub same_part : (xs : List X) (i : ℕ) (x y : X) (d : Y) → i < length xs → x ≡ get_or xs i x → f y ≡ f x
      → map f (set xs i y) ≡ map f xs
  same_part xs i x y d low is same =
      mapped_set xs i y ∙ ap (set (map f xs) i) (same ∙ sym (mapped_at xs i x d low is)) ∙ set-get_or (map f xs) i d

  pub past : (xs : List X) (i : ℕ) (d : Y) → length xs ≤ i → get_or (map f xs) i d ≡ d
  past xs i d high = get_or_past (map f xs) i d (omega (arith, length-map xs f, high))

-- the room of an object's list, where one of the lists is written
abbrev room : Vec IndexSlot Global → ℕ
room v = vec_capacity v - vec_len v

pub no_less_room : (os : List (Vec IndexSlot Global)) (k o : ℕ) (old new : Vec IndexSlot Global) → k < length os
    → old ≡ get_or os k old → room old ≤ room new → get_or (map room os) o 0 ≤ get_or (map room (set os k new)) o 0
no_less_room os k o old new low is more = elim (cases_eq o k) [
  | inl same ↦ rw (same, mapped_at room os k old 0 low is, written_at room os k new 0 low) more
  | inr differs ↦ rw (written_elsewhere room os k o new 0 differs) (omega arith)
]

-- one place more is cleared
pub cleared_more : (spots : List IndexSlot) (i t k : ℕ) (d : IndexSlot) (x : Option SiteRef) → i < length spots
    → cleared_one t k (get_or spots i d) (cleared t k (take i spots) x) ≡ cleared t k (take (i + 1) spots) x
cleared_more spots i t k d x low =
    rw (list_any_more (is_spot t k) spots i d low)
    (either (has_spot t k (take i spots)) (is_spot t k (get_or spots i d)))
  where
    either : (b c : Bool) → (if c then None else (if b then None else x)) ≡ (if (b || c) then None else x)
    either true true = refl
    either true false = refl
    either false true = refl
    either false false = refl

-- an object is dropped
emptied : {X : Type 0} (xs : List (List X)) (o : ℕ) → get_or (set xs o []) o [] ≡ []
emptied [] o = refl
emptied (x ∷ xs) zero = refl
emptied (x ∷ xs) (suc o) = emptied xs o

gone_if : (o : ℕ) (x : SiteRef) (b : Bool) → nat_eq x.object.0 o ≡ b → is_owner o (if b then None else Some x) ≡ false
gone_if o x true e = refl
gone_if o x false e = e

gone : (o : ℕ) (s : Option SiteRef) → is_owner o (if is_owner o s then None else s) ≡ false
gone o None = refl
gone o (Some x) = gone_if o x (nat_eq x.object.0 o) refl

stays_if : (o p : ℕ) (x : SiteRef) (b : Bool) → p ≢ o → nat_eq x.object.0 o ≡ b
    → is_owner p (if b then None else Some x) ≡ nat_eq x.object.0 p
stays_if o p x true differs e = sym (ne_eqb x.object.0 p (λ same. differs (sym same ∙ eqb-true x.object.0 o e)))
stays_if o p x false differs e = refl

stays : (o p : ℕ) (s : Option SiteRef) → p ≢ o → is_owner p (if is_owner o s then None else s) ≡ is_owner p s
stays o p None differs = refl
stays o p (Some x) differs = stays_if o p x (nat_eq x.object.0 o) differs refl

module _ (ts us : List Bucket) (os : List (List IndexSlot)) (o : ℕ) (h : IsSound ts os) (c : (t k : ℕ) → slot us t k
    ≡ cleared t k (get_or os o []) (slot ts t k)) where
  left : (t k : ℕ) → slot us t k ≡ (if is_owner o (slot ts t k) then None else slot ts t k)
  left t k = c t k ∙ ap (λ b. if b then None else slot ts t k) (h.known o t k)

  pub dropped_sound : IsSound us (set os o [])
  dropped_sound = record {
    known = λ p t k. elim (cases_eq p o) [
      | inl same ↦ rw (same, emptied os o, left t k) (sym (gone o (slot ts t k)))
      | inr differs ↦ rw (get_or-set_other os o p [] [] differs, left t k) (h.known p t k
          ∙ sym (stays o p (slot ts t k) differs))
    ];
  }

-- the sites that are left are those of the other objects
abbrev others : ObjectPlace → List SiteRef → List SiteRef
others object xs = filter (λ s. not (is_of_object object s)) xs

kept_if : (object : ObjectPlace) (a : SiteRef) (y : Option SiteRef) (vs ws : List SiteRef) (b : Bool)
    → nat_eq a.object.0 object.0 ≡ b
    → y ≡ (if nat_eq a.object.0 object.0 then None else Some a) → ws ≡ others object vs → cons_option y ws
    ≡ others object (a ∷ vs)
kept_if object a y vs ws true e is h = rw (is, e) h
kept_if object a y vs ws false e is h = rw (is, e) (ap (λ l. a ∷ l) h)

kept_one : (object : ObjectPlace) (x y : Option SiteRef) (vs ws : List SiteRef) → y
    ≡ (if is_owner object.0 x then None else x) → ws ≡ others object vs
    → cons_option y ws ≡ others object (cons_option x vs)
kept_one object None y vs ws is h = rw is h
kept_one object (Some a) y vs ws is h = kept_if object a y vs ws (nat_eq a.object.0 object.0) refl is h

kept_values : (object : ObjectPlace) (xs ys : List (Option SiteRef)) → length ys ≡ length xs
    → ((k : ℕ) → get_or ys k None ≡ (if is_owner object.0 (get_or xs k None) then None else get_or xs k None))
    → filter_map (λ s. s) ys ≡ others object (filter_map (λ s. s) xs)
kept_values object [] [] e h = refl
kept_values object [] (y ∷ ys) e h = absurd (omega (arith, e))
kept_values object (x ∷ xs) [] e h = absurd (omega (arith, e))
kept_values object (x ∷ xs) (y ∷ ys) e h =
    kept_one object x y (filter_map (λ s. s) xs) (filter_map (λ s. s) ys) (h zero)
    (kept_values object xs ys (omega (arith, e)) (λ k. h (suc k)))

-- the sites of a target are those of its bucket
pub bucket_values : (ts : List Bucket) (t : ℕ) → get_or (map (λ (b : Bucket). values b.sites) ts) t []
    ≡ filter_map (λ s. s) (slots_at ts t)
bucket_values [] t = refl
bucket_values (b ∷ ts) zero = refl
bucket_values (b ∷ ts) (suc t) = bucket_values ts t

module _ (ts us : List Bucket) (os : List (List IndexSlot)) (object : ObjectPlace) (h : IsSound ts os) (n : (t : ℕ)
    → length (slots_at us t) ≡ length (slots_at ts t))
    (c : (t k : ℕ) → slot us t k ≡ cleared t k (get_or os object.0 []) (slot ts t k)) where
  pub dropped_sites : (t : ℕ) → get_or (map (λ (b : Bucket). values b.sites) us) t []
      ≡ others object (get_or (map (λ (b : Bucket). values b.sites) ts) t [])
  dropped_sites t =
      rw (bucket_values us t, bucket_values ts t)
      (kept_values object (slots_at ts t) (slots_at us t) (n t) (λ k. left ts us os object.0 h c t k))

-- an object that knows no place has no sites
pub nothing_dropped : (ts : List Bucket) (os : List (List IndexSlot)) (object : ObjectPlace) → IsSound ts os
    → length os ≤ object.0
    → (t : ℕ) → get_or (map (λ (b : Bucket). values b.sites) ts) t []
    ≡ others object (get_or (map (λ (b : Bucket). values b.sites) ts) t [])
nothing_dropped ts os object h high t =
    dropped_sites ts ts os object h (λ u. refl) (λ u k. rw (get_or_past os object.0 [] high) refl) t

-- the same places known and held
pub same_sound : (ts us : List Bucket) (os ps : List (List IndexSlot)) → IsSound ts os
    → ((t : ℕ) → slots_at us t ≡ slots_at ts t) → ((o : ℕ) → get_or ps o [] ≡ get_or os o []) → IsSound us ps
same_sound ts us os ps h same known = record {
  known = λ o t k. ap (has_spot t k) (known o) ∙ h.known o t k
      ∙ ap (λ ss. is_owner o (get_or ss k None)) (sym (same t));
}

pub same_values : (ts us : List Bucket) → ((t : ℕ) → slots_at us t ≡ slots_at ts t) → (t : ℕ)
    → get_or (map (λ (b : Bucket). values b.sites) us) t [] ≡ get_or (map (λ (b : Bucket). values b.sites) ts) t []
same_values ts us same t = bucket_values us t ∙ ap (filter_map (λ s. s)) (same t) ∙ sym (bucket_values ts t)

-- the room of a target is that of its bucket
pub bucket_room : (ts : List Bucket) (t : ℕ) → get_or (map room_of ts) t 0 ≡ room_at ts t
bucket_room [] t = refl
bucket_room (b ∷ ts) zero = refl
bucket_room (b ∷ ts) (suc t) = bucket_room ts t
