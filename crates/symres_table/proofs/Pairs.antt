-- Two tables that say the same find each name under its number, and no two numbers have one name.
use Rattle.symres_table.proofs.Common.{All, All-append, All-cons, All-head, All-nil, All-tail, AreDistinct, Bool}
use Rattle.symres_table.proofs.Common.{IsConsistent, IsNamed, IsPaired, IsSpelled, KnownNames, List, MatchOption, None}
use Rattle.symres_table.proofs.Common.{Option, Some, Vec, [], ap, bytes_eq, bytes_eq-Decides, cases_eq, cond}
use Rattle.symres_table.proofs.Common.{entry_spelled, false, get_or, lookup, map, number_in, refl, slice_get, slot}
use Rattle.symres_table.proofs.Common.{spelled, subst, sym, true, ℕ, ⊎_elim, ◌++◌, ◌∙◌, ◌∷◌, ◌≡◌, ◌≢◌}
use Rattle.std.proofs.Common.{Global}
use Rattle.std.proofs.Math.ListN.{get_or-map}
use Rattle.std.proofs.lemmas.Option.{get_or_from_slice_get, slice_get_within}
use Rattle.symres_table.specs.State.{SameNames}

pub slot_spelled : (slots : List (Option (Vec ℕ Global))) (n : ℕ) → slot (map spelled slots) n
    ≡ spelled (get_or slots n None)
slot_spelled slots n = get_or-map spelled slots n None

same_bytes : (xs ys : List ℕ) → bytes_eq xs ys ≡ true → xs ≡ ys
same_bytes xs ys = (bytes_eq-Decides xs ys).0

eq_bytes : (xs ys : List ℕ) → xs ≡ ys → bytes_eq xs ys ≡ true
eq_bytes xs ys = (bytes_eq-Decides xs ys).1

-- what a look-up finds is spelled so
found_spelled : (slots : List (Option (Vec ℕ Global))) (es : List (Vec ℕ Global × ℕ)) (name : List ℕ) (n : ℕ)
    → All (λ (e : Vec ℕ Global × ℕ). IsSpelled slots e.1 e.0.items) es
    → number_in name es ≡ Some n → IsSpelled slots n name
found_spelled slots [] name n a h = absurd (cc)
found_spelled slots (e ∷ es) name n a h =
    go (bytes_eq name e.0.items) refl h
    (found_spelled slots es name n (All-tail (λ (e : Vec ℕ Global × ℕ). IsSpelled slots e.1 e.0.items) e es a))
  where
    go : (b : Bool) → bytes_eq name e.0.items ≡ b → cond b (Some e.1) (number_in name es) ≡ Some n
        → (number_in name es ≡ Some n → IsSpelled slots n name) → IsSpelled slots n name
    go true q h f =
        let at : e.1 ≡ n = cc in
        let is : name ≡ e.0.items = same_bytes name e.0.items q in
        let here : IsSpelled slots e.1 e.0.items =
        All-head (λ (e : Vec ℕ Global × ℕ). IsSpelled slots e.1 e.0.items) e es a in
        subst (λ m. IsSpelled slots m name) at (subst (λ l. IsSpelled slots e.1 l) (sym is) here)
    go false q h f = f h

push_some : (t : Vec ℕ Global → Bool) (es : List (Vec ℕ Global × ℕ)) (e : Vec ℕ Global × ℕ) (n : ℕ) → lookup t es
    ≡ Some n → lookup t (es ++ e ∷ []) ≡ Some n
push_some t [] e n h = absurd (cc)
push_some t (x ∷ es) e n h = go (t x.0) h (push_some t es e n)
  where
    go : (b : Bool) → cond b (Some x.1) (lookup t es) ≡ Some n
        → (lookup t es ≡ Some n → lookup t (es ++ e ∷ []) ≡ Some n) → cond b (Some x.1) (lookup t (es ++ e ∷ []))
        ≡ Some n
    go true h f = h
    go false h f = f h

push_none : (t : Vec ℕ Global → Bool) (es : List (Vec ℕ Global × ℕ)) (e : Vec ℕ Global × ℕ) → t e.0 ≡ true
    → lookup t es ≡ None → lookup t (es ++ e ∷ []) ≡ Some e.1
push_none t [] e q h = ap (λ b. cond b (Some e.1) None) q
push_none t (x ∷ es) e q h = go (t x.0) h (push_none t es e q)
  where
    go : (b : Bool) → cond b (Some x.1) (lookup t es) ≡ None
        → (lookup t es ≡ None → lookup t (es ++ e ∷ []) ≡ Some e.1) → cond b (Some x.1) (lookup t (es ++ e ∷ []))
        ≡ Some e.1
    go true h f = absurd (cc)
    go false h f = f h

-- a slot took a name, and the others stayed
pub record Takes (slots slots' : List (Option (Vec ℕ Global))) (n : ℕ) (v : Vec ℕ Global) : Type 0 where
  pub was : get_or slots n None ≡ None
  pub now : get_or slots' n None ≡ Some v
  pub others : (m : ℕ) → m ≢ n → get_or slots' m None ≡ get_or slots m None

kept_spelled : (slots slots' : List (Option (Vec ℕ Global))) (n m : ℕ) (v : Vec ℕ Global) (name : List ℕ)
    → Takes slots slots' n v → IsSpelled slots m name → IsSpelled slots' m name
kept_spelled slots slots' n m v name t h = ⊎_elim
    (λ same. let none : spelled (get_or slots m None) ≡ None = ap (λ q. spelled (get_or slots q None)) same
    ∙ ap spelled t.was in absurd (cc))
    (λ ne. ap spelled (t.others m ne) ∙ h)
    (cases_eq m n)

pub paired_more : (es es' : List (Vec ℕ Global × ℕ)) (slots slots' : List (Option (Vec ℕ Global))) (n : ℕ)
    (k v : Vec ℕ Global) → IsPaired es slots → es' ≡ es ++ (k, n) ∷ [] → Takes slots slots' n v
    → v.items ≡ k.items → number_in k.items es ≡ None → IsPaired es' slots'
paired_more es es' slots slots' n k v p e t s a = record {
  sound = subst (All (λ (e : Vec ℕ Global × ℕ). IsSpelled slots' e.1 e.0.items)) (sym e)
      (All-append (λ (e : Vec ℕ Global × ℕ). IsSpelled slots' e.1 e.0.items) es ((k, n) ∷ [])
      (λ j d l. kept_spelled slots slots' n (get_or es j d).1 v (get_or es j d).0.items t (p.sound j d l))
      (All-cons (λ (e : Vec ℕ Global × ℕ). IsSpelled slots' e.1 e.0.items) (k, n) [] (ap spelled t.now
      ∙ ap Some s) (All-nil (λ (e : Vec ℕ Global × ℕ). IsSpelled slots' e.1 e.0.items))));
  complete = λ m name h. ap (number_in name) e ∙ ⊎_elim
      (λ same.
      let is : Some v.items ≡ Some name = sym (ap spelled t.now) ∙ sym (ap (λ q. spelled (get_or slots' q None)) same)
      ∙ h in
      let is' : name ≡ k.items = cc in
      push_none (λ (x : Vec ℕ Global). bytes_eq name x.items) es (k, n) (eq_bytes name k.items is')
      (ap (λ l. number_in l es) is' ∙ a) ∙ ap Some (sym same))
      (λ ne. push_some (λ (x : Vec ℕ Global). bytes_eq name x.items) es (k, n) m
      (p.complete m name (ap spelled (sym (t.others m ne)) ∙ h)))
      (cases_eq m n);
}

pub number_law : (es : List (Vec ℕ Global × ℕ)) (slots : List (Option (Vec ℕ Global))) (name : List ℕ) (r : Option ℕ)
    → IsPaired es slots → r ≡ number_in name es
    → MatchOption r ((n : ℕ) → slot (map spelled slots) n ≢ Some name) (λ n. IsNamed (map spelled slots) n name)
number_law es slots name None p e = λ n h. let f = p.complete n name (sym (slot_spelled slots n) ∙ h) in absurd (cc)
number_law es slots name (Some n) p e = slot_spelled slots n ∙ found_spelled slots es name n p.sound (sym e)

-- a name that no slot spells is not found
pub none_found : (es : List (Vec ℕ Global × ℕ)) (slots : List (Option (Vec ℕ Global))) (name : List ℕ)
    → IsPaired es slots → ((n : ℕ) → slot (map spelled slots) n ≢ Some name) → number_in name es ≡ None
none_found es slots name p h = go (number_in name es) refl
  where
    go : (r : Option ℕ) → number_in name es ≡ r → number_in name es ≡ None
    go None e = e
    go (Some n) e = absurd (h n (slot_spelled slots n ∙ found_spelled slots es name n p.sound e))

pub kept_slot : (slots slots' : List (Option (Vec ℕ Global))) (n : ℕ) (v : Vec ℕ Global) → Takes slots slots' n v
    → (m : ℕ) (name : List ℕ) → slot (map spelled slots) m ≡ Some name → slot (map spelled slots') m ≡ Some name
kept_slot slots slots' n v t m name h = slot_spelled slots' m
    ∙ kept_spelled slots slots' n m v name t (sym (slot_spelled slots m) ∙ h)

pub distinct_law : (es : List (Vec ℕ Global × ℕ)) (slots : List (Option (Vec ℕ Global))) → IsPaired es slots
    → AreDistinct (map spelled slots)
distinct_law es slots p = λ m n name h k.
    let a = p.complete m name (sym (slot_spelled slots m) ∙ h) in
    let b = p.complete n name (sym (slot_spelled slots n) ∙ k) in
    cc

-- an entry's number has its name
pub entry_named : (es : List (Vec ℕ Global × ℕ)) (slots : List (Option (Vec ℕ Global))) (p : ℕ) (k : Vec ℕ Global)
    (n : ℕ) → IsPaired es slots → slice_get es p ≡ Some (k, n) → slot (map spelled slots) n ≡ Some k.items
entry_named es slots p k n paired e =
    let at : get_or es p (k, n) ≡ (k, n) = get_or_from_slice_get es p (k, n) (k, n) e in
    slot_spelled slots n
    ∙ subst (λ (x : Vec ℕ Global × ℕ). spelled (get_or slots x.1 None) ≡ Some x.0.items) at
    (paired.sound p (k, n) (slice_get_within es p (k, n) e))

number_mapped : (name : List ℕ) (es : List (Vec ℕ Global × ℕ))
    → lookup (λ (x : List ℕ). bytes_eq name x) (map entry_spelled es) ≡ number_in name es
number_mapped name [] = refl
number_mapped name (e ∷ es) = ap (λ o. cond (bytes_eq name e.0.items) (Some e.1) o) (number_mapped name es)

sound_mapped : (slots : List (Option (Vec ℕ Global))) (es : List (Vec ℕ Global × ℕ))
    → All (λ (e : Vec ℕ Global × ℕ). IsSpelled slots e.1 e.0.items) es
    → All (λ (e : List ℕ × ℕ). IsNamed (map spelled slots) e.1 e.0) (map entry_spelled es)
sound_mapped slots [] a = All-nil (λ (e : List ℕ × ℕ). IsNamed (map spelled slots) e.1 e.0)
sound_mapped slots (e ∷ es) a =
    let P : Vec ℕ Global × ℕ → Type 0 = λ (e : Vec ℕ Global × ℕ). IsSpelled slots e.1 e.0.items in
    All-cons (λ (e : List ℕ × ℕ). IsNamed (map spelled slots) e.1 e.0) (entry_spelled e) (map entry_spelled es)
    (slot_spelled slots e.1 ∙ All-head P e es a) (sound_mapped slots es (All-tail P e es a))

pub consistent : (es : List (Vec ℕ Global × ℕ)) (slots : List (Option (Vec ℕ Global))) → IsPaired es slots
    → IsConsistent (record { slots = map spelled slots; order = map entry_spelled es })
consistent es slots p = record {
  sound = sound_mapped slots es p.sound;
  complete = λ n name h. number_mapped name es ∙ p.complete n name (sym (slot_spelled slots n) ∙ h);
}

named_in : (slots : List (Option (List ℕ))) (es : List (List ℕ × ℕ)) (name : List ℕ) (n : ℕ)
    → All (λ (e : List ℕ × ℕ). IsNamed slots e.1 e.0) es → lookup (λ (x : List ℕ). bytes_eq name x) es ≡ Some n
    → IsNamed slots n name
named_in slots [] name n a h = absurd (cc)
named_in slots (e ∷ es) name n a h =
    go (bytes_eq name e.0) refl h
    (named_in slots es name n (All-tail (λ (e : List ℕ × ℕ). IsNamed slots e.1 e.0) e es a))
  where
    go : (b : Bool) → bytes_eq name e.0 ≡ b → cond b (Some e.1) (lookup (λ (x : List ℕ). bytes_eq name x) es) ≡ Some n
        → (lookup (λ (x : List ℕ). bytes_eq name x) es ≡ Some n → IsNamed slots n name) → IsNamed slots n name
    go true q h f =
        let at : e.1 ≡ n = cc in
        let is : name ≡ e.0 = same_bytes name e.0 q in
        subst (λ m. IsNamed slots m name) at
        (subst (λ l. IsNamed slots e.1 l) (sym is) (All-head (λ (e : List ℕ × ℕ). IsNamed slots e.1 e.0) e es a))
    go false q h f = f h

-- the order tells the numbers
pub same_names : (a b : KnownNames) → IsConsistent a → IsConsistent b → b.order ≡ a.order → SameNames a.slots b.slots
same_names a b p q e n = go (slot a.slots n) (slot b.slots n) refl refl
  where
    over : (x y : KnownNames) → IsConsistent x → IsConsistent y → y.order ≡ x.order → (name : List ℕ)
        → IsNamed x.slots n name → IsNamed y.slots n name
    over x y p q e name h =
        named_in y.slots y.order name n q.sound (ap (lookup (λ (x : List ℕ). bytes_eq name x)) e ∙ p.complete n name h)

    go : (r s : Option (List ℕ)) → slot a.slots n ≡ r → slot b.slots n ≡ s → slot b.slots n ≡ slot a.slots n
    go None None h k = k ∙ sym h
    go None (Some name) h k = let there = over b a q p (sym e) name k in absurd (cc)
    go (Some name) s h k = over a b p q e name h ∙ sym h
