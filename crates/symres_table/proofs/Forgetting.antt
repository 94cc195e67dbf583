-- The two tables of names agree after names without entries are dropped, and the others keep their numbers.
use Rattle.symres_table.proofs.Common.{All, All-cons, All-head, All-nil, All-tail, Bool, CalledAt, Declared, Entered}
use Rattle.symres_table.proofs.Common.{IsKeptWhere, IsNamed, IsPaired, IsSpellable, IsSpelled, KeepsNames, List, MutBor}
use Rattle.symres_table.proofs.Common.{None, Numbered, Option, RetainsFrom, Some, Vec, [], ap, arith, bytes_eq, cond}
use Rattle.symres_table.proofs.Common.{declared, entries, entry_spelled, false, filter, get_or, is_named, is_some}
use Rattle.symres_table.proofs.Common.{is_used, length, length-append, length-map, lookup, lt-ltb, map, named, nat_lt}
use Rattle.symres_table.proofs.Common.{own, refl, spelled, subst, suc, sym, true, true≢false, zero, ℕ, ◌+◌, ◌<◌, ◌∙◌}
use Rattle.symres_table.proofs.Common.{◌∷◌, ◌≡◌}
use Rattle.std.proofs.Common.{Global}
use Rattle.symres_table.proofs.Pairs.{slot_spelled}
use Rattle.symres_table.proofs.Naming.{named_yes}

abbrev Name : Type 0
Name = Vec ℕ Global

cond_same : (b : Bool) {X : Type 0} (x : X) → cond b x x ≡ x
cond_same true x = refl
cond_same false x = refl

-- what a slab's `retain` leaves, where the closure keeps no state, leaves each value as it was and tests the key alone
pub retained : {F : Type 0} (step : F → ℕ → MutBor ℕ → Bool → MutBor ℕ → F → Type 0) (test : ℕ → Bool) (f : F)
    → ((key old : ℕ) (keep : Bool) (new : ℕ) (next : F) → CalledAt step f key old keep new next
    → (keep ≡ test key) × (new ≡ old) × (next ≡ f))
    → (key : ℕ) (slots kept : List (Option ℕ)) → RetainsFrom step f key slots kept → (n : ℕ) → get_or kept n None
    ≡ cond (test (key + n)) (get_or slots n None) None
retained step test f says key [] kept h n = ap (λ l. get_or l n None) h ∙ sym (cond_same (test (key + n)) None)
retained step test f says key (None ∷ rest) kept h zero = ap (λ l. get_or l 0 None) h.1
    ∙ sym (cond_same (test (key + 0)) None)
retained step test f says key (None ∷ rest) kept h (suc m) =
    let at : key + 1 + m ≡ key + suc m = omega arith in
    ap (λ l. get_or l (suc m) None) h.1 ∙ retained step test f says (key + 1) rest h.0 h.2 m
    ∙ ap (λ k. cond (test k) (get_or rest m None) None) at
retained step test f says key (Some old ∷ rest) kept h zero =
    let s = says key old h.0 h.1 h.2 h.3 in
    let at : key ≡ key + 0 = omega arith in
    ap (λ l. get_or l 0 None) h.5 ∙ ap (λ v. cond h.0 (Some v) None) s.1
    ∙ ap (λ b. cond b (Some old) None) (s.0 ∙ ap test at)
retained step test f says key (Some old ∷ rest) kept h (suc m) =
    let s = says key old h.0 h.1 h.2 h.3 in
    let at : key + 1 + m ≡ key + suc m = omega arith in
    ap (λ l. get_or l (suc m) None) h.5
    ∙ retained step test f says (key + 1) rest h.4 (subst (λ g. RetainsFrom step g (key + 1) rest h.4) s.2 h.6) m
    ∙ ap (λ k. cond (test k) (get_or rest m None) None) at

lookup_filter : (t : Name → Bool) (q : ℕ → Bool) (es : List (Name × ℕ)) (n : ℕ) → lookup t es ≡ Some n → q n ≡ true
    → lookup t (filter (λ (e : Name × ℕ). q e.1) es) ≡ Some n
lookup_filter t q [] n h k = absurd (cc)
lookup_filter t q (e ∷ es) n h k = go (t e.0) refl (q e.1) refl h (lookup_filter t q es n)
  where
    go : (b : Bool) → t e.0 ≡ b → (c : Bool) → q e.1 ≡ c → cond b (Some e.1) (lookup t es) ≡ Some n
        → (lookup t es ≡ Some n → q n ≡ true → lookup t (filter (λ (e : Name × ℕ). q e.1) es) ≡ Some n)
        → lookup t (cond c (e ∷ filter (λ (e : Name × ℕ). q e.1) es) (filter (λ (e : Name × ℕ). q e.1) es)) ≡ Some n
    go true x true y h f = ap (λ b. cond b (Some e.1) (lookup t (filter (λ (e : Name × ℕ). q e.1) es))) x ∙ h
    go true x false y h f = let same : e.1 ≡ n = cc in absurd (true≢false (sym k ∙ ap q (sym same) ∙ y))
    go false x true y h f = ap (λ b. cond b (Some e.1) (lookup t (filter (λ (e : Name × ℕ). q e.1) es))) x ∙ f h k
    go false x false y h f = f h k

-- a slot keeps its name where the number passes
abbrev pub Kept : (ℕ → Bool) → List (Option Name) → List (Option Name) → Type 0
Kept test slots slots' = (n : ℕ) → get_or slots' n None ≡ cond (test n) (get_or slots n None) None

still_spelled : (test : ℕ → Bool) (slots slots' : List (Option Name)) (n : ℕ) (name : List ℕ) → Kept test slots slots'
    → is_some (get_or slots' n None) ≡ true → IsSpelled slots n name → IsSpelled slots' n name
still_spelled test slots slots' n name k s h = go (test n) (k n)
  where
    go : (b : Bool) → get_or slots' n None ≡ cond b (get_or slots n None) None → IsSpelled slots' n name
    go true e = ap spelled e ∙ h
    go false e = let none : is_some (get_or slots' n None) ≡ false = ap is_some e in absurd (true≢false (sym s ∙ none))

was_spelled : (test : ℕ → Bool) (slots slots' : List (Option Name)) (n : ℕ) (name : List ℕ) → Kept test slots slots'
    → IsSpelled slots' n name → IsSpelled slots n name
was_spelled test slots slots' n name k h = go (test n) (k n)
  where
    go : (b : Bool) → get_or slots' n None ≡ cond b (get_or slots n None) None → IsSpelled slots n name
    go true e = ap spelled (sym e) ∙ h
    go false e = let none = ap spelled e in absurd (cc)

some_spelled : (o : Option Name) (name : List ℕ) → spelled o ≡ Some name → is_some o ≡ true
some_spelled None name h = absurd (cc)
some_spelled (Some v) name h = refl

sound_kept : (test : ℕ → Bool) (slots slots' : List (Option Name)) (es : List (Name × ℕ)) → Kept test slots slots'
    → All (λ (e : Name × ℕ). IsSpelled slots e.1 e.0.items) es
    → All (λ (e : Name × ℕ). IsSpelled slots' e.1 e.0.items)
    (filter (λ (e : Name × ℕ). is_some (get_or slots' e.1 None)) es)
sound_kept test slots slots' [] k a = All-nil (λ (e : Name × ℕ). IsSpelled slots' e.1 e.0.items)
sound_kept test slots slots' (e ∷ es) k a =
    go (is_some (get_or slots' e.1 None)) refl
    (sound_kept test slots slots' es k (All-tail (λ (e : Name × ℕ). IsSpelled slots e.1 e.0.items) e es a))
  where
    rest : List (Name × ℕ)
    rest = filter (λ (e : Name × ℕ). is_some (get_or slots' e.1 None)) es

    go : (b : Bool) → is_some (get_or slots' e.1 None) ≡ b
        → All (λ (e : Name × ℕ). IsSpelled slots' e.1 e.0.items)
        (filter (λ (e : Name × ℕ). is_some (get_or slots' e.1 None)) es)
        → All (λ (e : Name × ℕ). IsSpelled slots' e.1 e.0.items)
        (cond b (e ∷ filter (λ (e : Name × ℕ). is_some (get_or slots' e.1 None)) es)
        (filter (λ (e : Name × ℕ). is_some (get_or slots' e.1 None)) es))
    go true s r = All-cons (λ (e : Name × ℕ). IsSpelled slots' e.1 e.0.items) e _
        (still_spelled test slots slots' e.1 e.0.items k s
        (All-head (λ (e : Name × ℕ). IsSpelled slots e.1 e.0.items) e es a)) r
    go false s r = r

pub paired_kept : (test : ℕ → Bool) (slots slots' : List (Option Name)) (es es' : List (Name × ℕ))
    → Kept test slots slots' → IsPaired es slots → es' ≡ filter (λ (e : Name × ℕ). is_some (get_or slots' e.1 None)) es
    → IsPaired es' slots'
paired_kept test slots slots' es es' k p e = subst (λ l. IsPaired l slots') (sym e) record {
  sound = sound_kept test slots slots' es k p.sound;
  complete = λ n name h.
      lookup_filter (λ (v : Name). bytes_eq name v.items) (λ m. is_some (get_or slots' m None)) es n
      (p.complete n name (was_spelled test slots slots' n name k h)) (some_spelled (get_or slots' n None) name h);
}

pub kept_where : (test : ℕ → Bool) (slots slots' : List (Option Name)) → Kept test slots slots'
    → IsKeptWhere test (map spelled slots) (map spelled slots')
kept_where test slots slots' k n = (
  (λ h. slot_spelled slots' n ∙ ap spelled (k n ∙ ap (λ b. cond b (get_or slots n None) None) h)
      ∙ sym (slot_spelled slots n)),
  (λ h. slot_spelled slots' n ∙ ap spelled (k n ∙ ap (λ b. cond b (get_or slots n None) None) h)),
)

-- a name with no entry is that of no symbol
not_named : (k : ℕ) (ss : List Numbered) → length (named k ss) ≡ 0 → All (λ (s : Numbered). is_named k s ≡ false) ss
not_named k [] h = All-nil (λ (s : Numbered). is_named k s ≡ false)
not_named k (s ∷ ss) h = go (is_named k s) refl h (not_named k ss)
  where
    go : (b : Bool) → is_named k s ≡ b → length (cond b (s ∷ named k ss) (named k ss)) ≡ 0
        → (length (named k ss) ≡ 0 → All (λ (s : Numbered). is_named k s ≡ false) ss)
        → All (λ (s : Numbered). is_named k s ≡ false) (s ∷ ss)
    go true e h f = absurd (omega (arith, h))
    go false e h f = All-cons (λ (s : Numbered). is_named k s ≡ false) s ss e (f h)

not_used : (k : ℕ) (os : List Entered) → length (entries k os) ≡ 0
    → All (λ (o : Entered). All (λ (s : Numbered). is_named k s ≡ false) o.symbols) os
not_used k [] h = All-nil (λ (o : Entered). All (λ (s : Numbered). is_named k s ≡ false) o.symbols)
not_used k (o ∷ os) h =
    let sum = length-append (own k o.key o.symbols) (entries k os) in
    let len = length-map (named k o.symbols) (declared o.key) in
    All-cons (λ (o : Entered). All (λ (s : Numbered). is_named k s ≡ false) o.symbols) o os
    (not_named k o.symbols (omega (arith, h, sum, len))) (not_used k os (omega (arith, h, sum)))

zero_length : (xs : List Declared) → nat_lt 0 (length xs) ≡ false → length xs ≡ 0
zero_length [] e = refl
zero_length (x ∷ xs) e = let p : 0 < length (x ∷ xs) = omega arith in
    absurd (true≢false (sym (lt-ltb 0 (length (x ∷ xs)) p) ∙ e))

-- each symbol of an entered object has a name that is kept
pub named_used : (old new : List (Option (List ℕ))) (os : List Entered) → IsKeptWhere (λ n. is_used n os) old new
    → All (λ (o : Entered). IsSpellable old o.symbols) os
    → All (λ (o : Entered). IsSpellable new o.symbols) os
named_used old new os w a = λ j o l. record {
  named = λ i s m v.
      let x = get_or (get_or os j o).symbols i s in
      let t = (a j o l).named i s m v in (
        t.0,
        go x.name (is_used x.name os) refl (λ none.
            true≢false (sym (named_yes x.name x v refl) ∙ none j o l i s m)) t.1,
      );
  counted = (a j o l).counted;
}
  where
    go : (n : ℕ) {name : List ℕ} (b : Bool) → is_used n os ≡ b
        → ((All (λ (o : Entered). All (λ (s : Numbered). is_named n s ≡ false) o.symbols) os) → ⊥) → IsNamed old n name
        → IsNamed new n name
    go n true e f h = (w n).0 e ∙ h
    go n false e f h = absurd (f (not_used n os (zero_length (entries n os) e)))

pub names_were : (test : ℕ → Bool) (old new : List (Option (List ℕ))) → IsKeptWhere test old new → KeepsNames new old
names_were test old new w n name h = go (test n) refl
  where
    go : (b : Bool) → test n ≡ b → IsNamed old n name
    go true e = sym ((w n).0 e) ∙ h
    go false e = let none = (w n).1 e in absurd (cc)

-- the names that stay, in their order
pub listed_kept : (test : ℕ → Bool) (slots slots' : List (Option Name)) (es : List (Name × ℕ)) → Kept test slots slots'
    → All (λ (e : Name × ℕ). IsSpelled slots e.1 e.0.items) es
    → map entry_spelled (filter (λ (e : Name × ℕ). is_some (get_or slots' e.1 None)) es)
    ≡ filter (λ (e : List ℕ × ℕ). test e.1) (map entry_spelled es)
listed_kept test slots slots' [] k a = refl
listed_kept test slots slots' (e ∷ es) k a =
    let P : Name × ℕ → Type 0 = λ (e : Name × ℕ). IsSpelled slots e.1 e.0.items in
    ap (λ b. map entry_spelled
    (cond b (e ∷ filter (λ (e : Name × ℕ). is_some (get_or slots' e.1 None)) es)
    (filter (λ (e : Name × ℕ). is_some (get_or slots' e.1 None)) es)))
    (same (test e.1) (get_or slots e.1 None) (All-head P e es a) (k e.1))
    ∙ go (test e.1) (listed_kept test slots slots' es k (All-tail P e es a))
  where
    rest : List (Name × ℕ)
    rest = filter (λ (e : Name × ℕ). is_some (get_or slots' e.1 None)) es

    same : (b : Bool) (o : Option Name) → spelled o ≡ Some e.0.items → get_or slots' e.1 None ≡ cond b o None
        → is_some (get_or slots' e.1 None) ≡ b
    same b None h q = absurd (cc)
    same true (Some v) h q = ap is_some q
    same false (Some v) h q = ap is_some q

    go : (b : Bool) → map entry_spelled rest ≡ filter (λ (e : List ℕ × ℕ). test e.1) (map entry_spelled es)
        → map entry_spelled (cond b (e ∷ rest) rest)
        ≡ cond b (entry_spelled e ∷ filter (λ (e : List ℕ × ℕ). test e.1) (map entry_spelled es))
        (filter (λ (e : List ℕ × ℕ). test e.1) (map entry_spelled es))
    go true r = ap (λ l. entry_spelled e ∷ l) r
    go false r = r
