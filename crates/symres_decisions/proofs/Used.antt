-- Names that have entries, and what a change leaves of that.
use Rattle.symres_decisions.proofs.Common.{All, All-head, All-tail, AreUsed, AreUsedBelow, Bool, CanCome, Contains}
use Rattle.symres_decisions.proofs.Common.{Declaration, Forgets, HaveEntries, IsListing, IsNamed, List, NamedSymbol}
use Rattle.symres_decisions.proofs.Common.{None, ObjectAt, Option, Some, State, Table, [], ap, arith, bytes_eq}
use Rattle.symres_decisions.proofs.Common.{bytes_eq-Decides, cases_lt, cond, declared_in, declares, entries_of, false}
use Rattle.symres_decisions.proofs.Common.{filter, get_or, get_or-insert_at, get_or_append_left, insert, is_local}
use Rattle.symres_decisions.proofs.Common.{is_member, is_used, length, length-append, length-insert, length-map, lt-ltb}
use Rattle.symres_decisions.proofs.Common.{map, nat_lt, not, put_in, refl, subst, suc, sym, symbols_at, symbols_or}
use Rattle.symres_decisions.proofs.Common.{true, true≢false, zero, ℕ, ⊎_elim, ◌++◌, ◌+◌, ◌<◌, ◌==◌, ◌||◌, ◌∙◌, ◌∷◌, ◌≡◌}
use Rattle.std.proofs.lemmas.Map.Made.{is_member-Decides}
use Rattle.symres_decisions.proofs.Clearing.{declared_local, declares_seen}
use Rattle.symres_decisions.proofs.KnownNames.{declared_used, in_tables}
use Rattle.symres_decisions.proofs.Listed.{Listed, StandsIn, stands_in}
use Rattle.symres_decisions.proofs.MakingRoom.{remained}
use Rattle.symres_decisions.proofs.OneName.{one_name}

-- ---- the names of one object

pub none_lost : (tables : List Table) → HaveEntries tables []
none_lost tables name h = absurd (cc)

pub local_lost : (tables : List Table) (ss : List NamedSymbol) (x : NamedSymbol) → is_local x.symbol.binding ≡ true
    → HaveEntries tables ss → HaveEntries tables (ss ++ x ∷ [])
local_lost tables ss x e h name d =
    h name (sym (ap (λ (ns : List (List ℕ)). is_member bytes_eq ns name) (declared_local ss x e)) ∙ d)

pub seen_used : (tables : List Table) (ss : List NamedSymbol) (x : NamedSymbol) → is_local x.symbol.binding ≡ false
    → is_used tables x.name ≡ true → HaveEntries tables ss → HaveEntries tables (ss ++ x ∷ [])
seen_used tables ss x e here h name d =
    go (declares ss name) refl (bytes_eq name x.name) refl (sym (declares_seen ss x name e) ∙ d)
  where
    go : (a : Bool) → declares ss name ≡ a → (b : Bool) → bytes_eq name x.name ≡ b
        → (declares ss name || bytes_eq name x.name) ≡ true → is_used tables name ≡ true
    go true p b q r = h name p
    go false p true q r = ap (is_used tables) ((bytes_eq-Decides name x.name).0 q) ∙ here
    go false p false q r =
        absurd (true≢false (sym r ∙ (ap (λ (a : Bool). a || bytes_eq name x.name) p ∙ q)))

pub some_there : (n : ℕ) (b : Bool) → b ≡ (n == 0) → not b ≡ true → 0 < n
some_there zero b e h = absurd (true≢false (sym h ∙ ap not e))
some_there (suc n) b e h = omega arith

-- a row of entries that isn't empty
pub used_row : {X : Type 0} (tables : List Table) (name : List ℕ) (row : List X) (f : X → Declaration)
    → map f row ≡ entries_of name tables → 0 < length row → is_used tables name ≡ true
used_row tables name row f is some =
    lt-ltb 0 (length (entries_of name tables)) (omega (arith, some, ap length is, length-map row f))

-- ---- the names of the list

pub used_zero : (s : State) → AreUsedBelow s 0
used_zero s = record {
  within = omega arith;
  used = λ i e lt. absurd (omega (arith, lt));
}

-- one more
pub used_next : (s : State) (n : ℕ) → n < length s.order
    → ((e : Listed) → is_used s.objects (get_or s.order n e).0 ≡ true) → AreUsedBelow s n → AreUsedBelow s (n + 1)
used_next s n within here h = record {
  within = omega (arith, within);
  used = λ i e lt.
      ⊎_elim (λ below. h.used i e below)
      (λ least.
      let at : n ≡ i = omega (arith, lt, least) in
      subst (λ (m : ℕ). is_used s.objects (get_or s.order m e).0 ≡ true) at (here e))
      (cases_lt i n);
}

-- names are only added after those that were there
pub used_more : (a b : State) (more : List Listed) (n : ℕ) → b.order ≡ a.order ++ more → b.objects ≡ a.objects
    → AreUsedBelow a n → AreUsedBelow b n
used_more a b more n order objects h = record {
  within = omega (arith, h.within, ap length order, length-append a.order more);
  used = λ i e lt.
      let same : get_or b.order i e ≡ get_or a.order i e =
      ap (λ (xs : List Listed). get_or xs i e) order
      ∙ get_or_append_left a.order more e i (omega (arith, lt, h.within)) in
      ap (λ (x : Listed). is_used b.objects x.0) same
      ∙ ap (λ (ts : List Table). is_used ts (get_or a.order i e).0) objects ∙ h.used i e lt;
}

-- all known names stand in the list
pub used_named : (s : State) (n : ℕ) → IsListing s.names s.order → n ≡ length s.order → AreUsedBelow s n → AreUsed s
used_named s n listing all h k name named =
    let at : StandsIn s.order k = stands_in s.names s.order k listing (name, named) in
    let e : Listed = ([], 0) in
    let there : IsNamed s.names k (get_or s.order at.at e).0 =
    subst (λ (m : ℕ). IsNamed s.names m (get_or s.order at.at e).0) (at.is e) (listing.sound at.at e at.within) in
    subst (λ (x : List ℕ). is_used s.objects x ≡ true)
    (one_name s.names k (get_or s.order at.at e).0 name there named)
    (h.used at.at e (omega (arith, at.within, all)))

pub used_listed : (s : State) (n : ℕ) → IsListing s.names s.order → n ≡ length s.order → AreUsed s
    → AreUsedBelow s n
used_listed s n listing all h = record {
  within = omega (arith, all);
  used = λ i e lt.
      h (get_or s.order i e).1 (get_or s.order i e).0 (listing.sound i e (omega (arith, lt, all)));
}

-- after a change
pub used_changed : (a b : State) (out into : List NamedSymbol) (n : ℕ) → b.order ≡ a.order
    → ((name : List ℕ) → declares out name ≡ false → declares into name ≡ false
    → entries_of name b.objects ≡ entries_of name a.objects)
    → HaveEntries b.objects into → HaveEntries b.objects out → AreUsedBelow a n → AreUsedBelow b n
used_changed a b out into n order same come gone h = record {
  within = omega (arith, h.within, ap length order);
  used = λ i e lt.
      go i e lt (declares out (get_or b.order i e).0) refl (declares into (get_or b.order i e).0) refl;
}
  where
    go : (i : ℕ) (e : Listed) → i < n → (p : Bool) → declares out (get_or b.order i e).0 ≡ p
        → (q : Bool) → declares into (get_or b.order i e).0 ≡ q → is_used b.objects (get_or b.order i e).0 ≡ true
    go i e lt true f q g = gone (get_or b.order i e).0 f
    go i e lt false f true g = come (get_or b.order i e).0 g
    go i e lt false f false g =
        ap (λ (ds : List Declaration). nat_lt 0 (length ds)) (same (get_or b.order i e).0 f g)
        ∙ ap (λ (xs : List Listed). is_used a.objects (get_or xs i e).0) order ∙ h.used i e lt

-- what comes has entries
pub come_used : (ts : List Table) (key : ℕ) (into : Option ObjectAt) → CanCome ts into
    → HaveEntries (put_in ts key into) (symbols_or into)
come_used ts key None c = none_lost ts
come_used ts key (Some x) c = λ name d.
    let t : Table = (key, symbols_at x) in
    let all : List Table = insert ts x.place t in
    let here : Contains (declared_in (symbols_at x)) name =
    (is_member-Decides bytes_eq-Decides (declared_in (symbols_at x)) name).0 d in
    declared_used all name
    (in_tables all x.place t name (omega (arith, c, length-insert ts x.place t c))
    (subst (λ (u : Table). Contains (declared_in u.1) name) (sym (get_or-insert_at ts x.place t t c)) here))

-- ---- what is forgotten

kept_all : {X : Type 0} (p : X → Bool) (xs : List X) → All (λ x. p x ≡ true) xs → xs ≡ filter p xs
kept_all p [] h = refl
kept_all p (x ∷ xs) h =
    ap (λ ys. x ∷ ys) (kept_all p xs (All-tail (λ x. p x ≡ true) x xs h))
    ∙ sym (ap (λ (b : Bool). cond b (x ∷ filter p xs) (filter p xs)) (All-head (λ x. p x ≡ true) x xs h))

-- where each name has an entry, none is
pub none_forgotten : (s : State) → IsListing s.names s.order → AreUsed s → Forgets s s
none_forgotten s listing h = record {
  names = λ n name named.
      named ∙ sym (ap (λ (b : Bool). cond b (Some name) None) (h n name named));
  others = λ n none. none;
  order = kept_all (λ (e : Listed). is_used s.objects e.0) s.order
      (λ k d l. h (get_or s.order k d).1 (get_or s.order k d).0 (listing.sound k d l));
  rest = refl;
}

-- what is left has entries
pub left_used : (a b : State) → Forgets a b → AreUsed b
left_used a b f k name named =
    ap (λ (s : State). is_used s.objects name) f.rest ∙ (remained a b k name f named).used
