-- An index to which a site is added.
use Rattle.emit_relocate.proofs.Common.{Bool, Bucket, IndexSlot, IsPermutation, IsPermutation-cons}
use Rattle.emit_relocate.proofs.Common.{IsPermutation-insert, IsPermutation-refl, IsPermutation-to_front}
use Rattle.emit_relocate.proofs.Common.{IsPermutation-trans, IsSound, List, Option, SiteRef, Some, TargetSite, Updates}
use Rattle.emit_relocate.proofs.Common.{[], add-one, ap, append-nil, append_assoc, arith, cases_eq, cond, cons_option}
use Rattle.emit_relocate.proofs.Common.{count_by, drop, drop-cons, eq-eqb, eqb-true, false, filter, filter-append}
use Rattle.emit_relocate.proofs.Common.{filter_map, get, get_or, get_or-set_other, get_or-set_same, has_spot}
use Rattle.emit_relocate.proofs.Common.{if◌then◌else◌, inl, inr, is_against, is_owner, is_spot, length, list_any, map}
use Rattle.emit_relocate.proofs.Common.{map-append, nat_eq, ne_eqb, no_bucket, refl, same_Some, set, slice_get-get_or}
use Rattle.emit_relocate.proofs.Common.{subst, suc, sum_by-cons, sym, take, take-suc, true, values, zero, ℕ, ◌&&◌, ◌++◌}
use Rattle.emit_relocate.proofs.Common.{◌+◌, ◌<◌, ◌||◌, ◌∙◌, ◌∷◌, ◌≡◌, ◌≢◌, ◌≤◌}
use Rattle.std.proofs.Common.{None}
use Rattle.emit_relocate.specs.Index.{slot}

abbrev held : List (Option SiteRef) → List SiteRef
held slots = filter_map (λ s. s) slots

same_held : (xs ys : List (Option SiteRef)) → ((j : ℕ) → get_or ys j None ≡ get_or xs j None) → held ys ≡ held xs
same_held [] [] h = refl
same_held [] (y ∷ ys) h = rw (h zero) (same_held [] ys (λ j. h (suc j)))
same_held (x ∷ xs) [] h = rw (← h zero) (same_held xs [] (λ j. h (suc j)))
same_held (x ∷ xs) (y ∷ ys) h = rw (h zero) (ap (cons_option x) (same_held xs ys (λ j. h (suc j))))

exchanged : (a b : SiteRef) (xs : List SiteRef) → IsPermutation (a ∷ b ∷ xs) (b ∷ a ∷ xs)
exchanged a b xs = IsPermutation-insert (b ∷ xs) 1 a

behind : (x : Option SiteRef) (v : SiteRef) (xs ys : List SiteRef) → IsPermutation (v ∷ xs) ys
    → IsPermutation (v ∷ cons_option x xs) (cons_option x ys)
behind None v xs ys h = h
behind (Some a) v xs ys h =
    IsPermutation-trans (v ∷ a ∷ xs) (a ∷ v ∷ xs) (a ∷ ys) (exchanged v a xs) (IsPermutation-cons a (v ∷ xs) ys h)

-- a slot that was free is filled
filled : (xs ys : List (Option SiteRef)) (k : ℕ) (v : SiteRef) → get_or xs k None ≡ None → get_or ys k None ≡ Some v
    → ((j : ℕ) → j ≢ k → get_or ys j None ≡ get_or xs j None) → IsPermutation (v ∷ held xs) (held ys)
filled xs [] k v free is same = cc
filled [] (y ∷ ys) zero v free is same =
    rw (is, same_held [] ys (λ j. same (suc j) (λ e. absurd (omega (arith, e))))) (IsPermutation-refl (v ∷ []))
filled (x ∷ xs) (y ∷ ys) zero v free is same =
    rw (free, is, same_held xs ys (λ j. same (suc j) (λ e. absurd (omega (arith, e)))))
    (IsPermutation-refl (v ∷ held xs))
filled [] (y ∷ ys) (suc k) v free is same =
    rw (same zero (λ e. absurd (omega (arith, e))))
    (filled [] ys k v free is (λ j differs. same (suc j) (λ e. differs (omega (arith, e)))))
filled (x ∷ xs) (y ∷ ys) (suc k) v free is same =
    rw (same zero (λ e. absurd (omega (arith, e))))
    (behind x v (held xs) (held ys)
    (filled xs ys k v free is (λ j differs. same (suc j) (λ e. differs (omega (arith, e))))))

pub filled_bucket : (a b : Bucket) (k : ℕ) (v : SiteRef) → get a.sites k ≡ None → Updates a.sites b.sites k (Some v)
    → IsPermutation (v ∷ values a.sites) (values b.sites)
filled_bucket a b k v free u = filled a.sites.slots b.sites.slots k v free u.changed u.others

any_default : {X : Type 0} (xs : List X) (i : ℕ) (d e : X) → i < length xs → get_or xs i d ≡ get_or xs i e
any_default xs i d e low = same_Some _ _ (sym (slice_get-get_or xs i d low) ∙ slice_get-get_or xs i e low)

or_none : (b : Bool) → b ≡ (b || false)
or_none true = refl
or_none false = refl

and_all : (b : Bool) → (b && true) ≡ b
and_all true = refl
and_all false = refl

and_none : (b : Bool) → (b && false) ≡ false
and_none true = refl
and_none false = refl

or_assoc : (a b c : Bool) → (a || (b || c)) ≡ ((a || b) || c)
or_assoc true b c = refl
or_assoc false b c = refl

both : (a b : Bool) → (a && b) ≡ true → (a ≡ true) × (b ≡ true)
both true true e = (refl, refl)
both true false e = cc
both false b e = cc

any_snoc : {X : Type 0} (p : X → Bool) (xs : List X) (x : X) → list_any p (xs ++ x ∷ []) ≡ (list_any p xs || p x)
any_snoc p [] x = sym (or_none (p x))
any_snoc p (y ∷ ys) x = ap (λ b. p y || b) (any_snoc p ys x) ∙ or_assoc (p y) (list_any p ys) (p x)

-- who owns a place that is filled
joined : (o p : ℕ) (v : SiteRef) (s : Option SiteRef) (known b : Bool) → v.object.0 ≡ o → known ≡ is_owner p s
    → (b ≡ true → s ≡ None)
    → (known || (nat_eq o p && b)) ≡ is_owner p (if b then Some v else s)
joined o p v s known true owner e free =
    let none : known ≡ false = e ∙ ap (is_owner p) (free refl) in
    ap (λ b. b || (nat_eq o p && true)) none ∙ and_all (nat_eq o p) ∙ ap (λ n. nat_eq n p) (sym owner)
joined o p v s known false owner e free = ap (λ b. known || b) (and_none (nat_eq o p)) ∙ sym (or_none known) ∙ e

module _ (ts : List Bucket) (os : List (List IndexSlot)) (o t k : ℕ) (low_t : t < length ts) (low_o : o < length os)
    (a b : Bucket) (is : a ≡ get_or ts t a) (v : SiteRef)
    (owner : v.object.0 ≡ o) (free : get a.sites k ≡ None) (u : Updates a.sites b.sites k (Some v)) (h : IsSound ts os)
  where
    abbrev spot : IndexSlot
    spot = record { target = t; place = k }

    was : get_or ts t no_bucket ≡ a
    was = any_default ts t no_bucket a low_t ∙ sym is

    at_target : (j : ℕ) → get b.sites j ≡ (if is_spot t j spot then Some v else get a.sites j)
    at_target j =
        elim (cases_eq j k) [
          | inl same ↦
              ap (get b.sites) same ∙ u.changed
              ∙ ap (λ c. if c then Some v else get a.sites j)
              (sym (ap (λ c. c && nat_eq k j) (eq-eqb t t refl) ∙ eq-eqb k j (sym same)))
          | inr differs ↦
              u.others j differs
              ∙ ap (λ c. if c then Some v else get a.sites j)
              (sym (ap (λ c. c && nat_eq k j) (eq-eqb t t refl) ∙ ne_eqb k j (λ e. differs (sym e))))
        ]

    filled_slot : (w j : ℕ) → slot (set ts t b) w j ≡ (if is_spot w j spot then Some v else slot ts w j)
    filled_slot w j =
        elim (cases_eq w t) [
          | inl same ↦
              ap (λ n. slot (set ts t b) n j) same
              ∙ ap (λ (x : Bucket). get x.sites j) (get_or-set_same ts t b no_bucket low_t)
              ∙ at_target j
              ∙ ap (λ (x : Bucket). if is_spot t j spot then Some v else get x.sites j) (sym was)
              ∙ ap (λ n. if is_spot n j spot then Some v else slot ts n j) (sym same)
          | inr differs ↦
              ap (λ (x : Bucket). get x.sites j) (get_or-set_other ts t w b no_bucket differs)
              ∙ ap (λ c. if c && nat_eq k j then Some v else slot ts w j) (sym (ne_eqb t w (λ e. differs (sym e))))
        ]

    abbrev spots : List IndexSlot
    spots = get_or os o [] ++ spot ∷ []

    known_spots : (p w j : ℕ) → has_spot w j (get_or (set os o spots) p [])
        ≡ (has_spot w j (get_or os p []) || (nat_eq o p && is_spot w j spot))
    known_spots p w j =
        elim (cases_eq p o) [
          | inl same ↦
              ap (λ n. has_spot w j (get_or (set os o spots) n [])) same
              ∙ ap (has_spot w j) (get_or-set_same os o spots [] low_o)
              ∙ any_snoc (is_spot w j) (get_or os o []) spot
              ∙ ap (λ n. has_spot w j (get_or os n []) || is_spot w j spot) (sym same)
              ∙ ap (λ c. has_spot w j (get_or os p []) || (c && is_spot w j spot)) (sym (eq-eqb o p (sym same)))
          | inr differs ↦
              ap (has_spot w j) (get_or-set_other os o p spots [] differs)
              ∙ or_none (has_spot w j (get_or os p []))
              ∙ ap (λ c. has_spot w j (get_or os p []) || (c && is_spot w j spot))
              (sym (ne_eqb o p (λ e. differs (sym e))))
        ]

    free_slot : (w j : ℕ) → is_spot w j spot ≡ true → slot ts w j ≡ None
    free_slot w j e =
        let h = both (nat_eq t w) (nat_eq k j) e in
        ap (λ n. slot ts n j) (sym (eqb-true t w h.0)) ∙ ap (slot ts t) (sym (eqb-true k j h.1))
        ∙ ap (λ (x : Bucket). get x.sites k) was ∙ free

    pub added_sound : IsSound (set ts t b) (set os o spots)
    added_sound = record {
      known = λ p w j. known_spots p w j
          ∙ joined o p v (slot ts w j) (has_spot w j (get_or os p [])) (is_spot w j spot) owner (h.known p w j)
          (free_slot w j)
          ∙ ap (is_owner p) (sym (filled_slot w j));
    }

-- a target with room is one of those that are there
pub in_range : {X : Type 0} (f : X → ℕ) (xs : List X) (i : ℕ) → 0 < get_or (map f xs) i 0 → i < length xs
in_range f [] i h = absurd (omega (arith, h))
in_range f (x ∷ xs) zero h = omega arith
in_range f (x ∷ xs) (suc i) h = omega (arith, in_range f xs i h)

-- the sites that were added and those that are left, one further on
module _ (sites : List TargetSite) (i : ℕ) (d : TargetSite) (low : i < length sites) where
  abbrev this : TargetSite
  this = get_or sites i d

  left : (t : ℕ) → count_by (is_against t) (drop i sites)
      ≡ cond (nat_eq this.target.0 t) 1 0 + count_by (is_against t) (drop (i + 1) sites)
  left t =
      ap (count_by (is_against t)) (drop-cons sites i d low ∙ ap (λ n. this ∷ drop n sites) (sym (add-one i)))
      ∙ sum_by-cons (λ (s : TargetSite). cond (is_against t s) 1 0) this (drop (i + 1) sites)

  pub rooms_left : (r0 r1 : ℕ → ℕ) → ((t : ℕ) → count_by (is_against t) (drop i sites) ≤ r0 t)
      → r0 this.target.0 ≤ r1 this.target.0 + 1 → ((t : ℕ) → t ≢ this.target.0 → r1 t ≡ r0 t)
      → (t : ℕ) → count_by (is_against t) (drop (i + 1) sites) ≤ r1 t
  rooms_left r0 r1 all one others t =
      elim (cases_eq t this.target.0) [
        | inl same ↦
            let many = left this.target.0 in
            let counted : ◌≡◌ {A = ℕ} (cond (nat_eq this.target.0 this.target.0) 1 0) 1 =
            ap (λ b. cond {A = ℕ} b 1 0) (eq-eqb this.target.0 this.target.0 refl) in
            let room = all this.target.0 in
            rw same (omega (arith, many, counted, room, one))
        | inr differs ↦
            let many = left t in
            let counted : ◌≡◌ {A = ℕ} (cond (nat_eq this.target.0 t) 1 0) 0 =
            ap (λ b. cond {A = ℕ} b 1 0) (ne_eqb this.target.0 t (λ e. differs (sym e))) in
            let room = all t in
            let same = others t differs in
            omega (arith, many, counted, room, same)
      ]

  more_against : (t : ℕ) → filter (is_against t) (take (i + 1) sites) ≡ filter (is_against t) (take i sites)
      ++ cond (nat_eq this.target.0 t) (this ∷ []) []
  more_against t =
      ap (λ n. filter (is_against t) (take n sites)) (add-one i) ∙ ap (filter (is_against t)) (take-suc sites i d low)
      ∙ filter-append (is_against t) (take i sites) (this ∷ [])

  module _ (f : TargetSite → SiteRef) where
    none_added : (t : ℕ) (before now next : List SiteRef) → t ≢ this.target.0 → next ≡ now
        → IsPermutation (before ++ map f (filter (is_against t) (take i sites))) now
        → IsPermutation (before ++ map f (filter (is_against t) (take (i + 1) sites))) next
    none_added t before now next differs e h =
        let same : filter (is_against t) (take (i + 1) sites) ≡ filter (is_against t) (take i sites) =
        more_against t ∙ ap (λ b. filter (is_against t) (take i sites) ++ cond b (this ∷ []) [])
        (ne_eqb this.target.0 t (λ e. differs (sym e)))
        ∙ append-nil (filter (is_against t) (take i sites)) in
        rw (same, e) h

    one_added : (before now next : List SiteRef) → IsPermutation (f this ∷ now) next
        → IsPermutation (before ++ map f (filter (is_against this.target.0) (take i sites))) now
        → IsPermutation (before ++ map f (filter (is_against this.target.0) (take (i + 1) sites))) next
    one_added before now next e h =
        let xs : List TargetSite = filter (is_against this.target.0) (take i sites) in
        let longer : filter (is_against this.target.0) (take (i + 1) sites) ≡ xs ++ this ∷ [] =
        more_against this.target.0
        ∙ ap (λ b. filter (is_against this.target.0) (take i sites) ++ cond b (this ∷ []) [])
        (eq-eqb this.target.0 this.target.0 refl) in
        let at_end : before ++ map f (xs ++ this ∷ []) ≡ (before ++ map f xs) ++ f this ∷ [] =
        ap (λ l. before ++ l) (map-append f xs (this ∷ [])) ∙ sym (append_assoc before (map f xs) (f this ∷ [])) in
        rw (longer, at_end)
        (IsPermutation-trans ((before ++ map f xs) ++ f this ∷ []) (f this ∷ (before ++ map f xs)) next
        (IsPermutation-to_front (before ++ map f xs) (f this))
        (IsPermutation-trans (f this ∷ (before ++ map f xs)) (f this ∷ now) next
        (IsPermutation-cons (f this) (before ++ map f xs) now h) e))

    pub sites_added : (before now next : ℕ → List SiteRef)
        → IsPermutation (f this ∷ now this.target.0) (next this.target.0)
        → ((t : ℕ) → t ≢ this.target.0 → next t ≡ now t)
        → ((t : ℕ) → IsPermutation (before t ++ map f (filter (is_against t) (take i sites))) (now t))
        → (t : ℕ) → IsPermutation (before t ++ map f (filter (is_against t) (take (i + 1) sites))) (next t)
    sites_added before now next one others h t =
        elim (cases_eq t this.target.0) [
          | inl same ↦
              subst (λ u. IsPermutation (before u ++ map f (filter (is_against u) (take (i + 1) sites))) (next u))
              (sym same)
              (one_added (before this.target.0) (now this.target.0) (next this.target.0) one (h this.target.0))
          | inr differs ↦ none_added t (before t) (now t) (next t) differs (others t differs) (h t)
        ]
