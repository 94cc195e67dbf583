-- What holds of names, objects and lists together.
use Rattle.symres_table.proofs.Common.{All, All-append, All-cons, All-drop, All-head, All-map, All-nil, All-tail}
use Rattle.symres_table.proofs.Common.{All-take, AreDistinct, Bool, CanEnter, Entered, HasKey, HasList, HasName, HasRow}
use Rattle.symres_table.proofs.Common.{IsConsistent, IsKeptWhere, IsNamed, IsReady, IsSpellable, KnownNames, List}
use Rattle.symres_table.proofs.Common.{NamedSymbol, None, Numbered, ObjectsState, Option, Some, Spells, SpellsSeen}
use Rattle.symres_table.proofs.Common.{State, [], ap, arith, bytes_eq, cond, declaration_of, drop, entries, entries_of}
use Rattle.symres_table.proofs.Common.{eq-eqb, eqb, false, filter, filter-append, get_or, get_or_append_left, inl, inr}
use Rattle.symres_table.proofs.Common.{insert, is_local, is_named, is_seen, is_used, length, length-append, length-map}
use Rattle.symres_table.proofs.Common.{map, named, nat_lt, not, option_map, refl, slice_get, slice_get-map}
use Rattle.symres_table.proofs.Common.{slice_get_cases, slot, spell, spell_symbol, subst, suc, sym, take, text, true, ℕ}
use Rattle.symres_table.proofs.Common.{◌&&◌, ◌++◌, ◌+◌, ◌<◌, ◌∙◌, ◌∷◌, ◌≡◌, ◌≤◌}
use Rattle.std.proofs.lemmas.List.{get_or-map}
use Rattle.ldmodel.specs.Names.{declarations_in, declarations_of, is_of_name}
use Rattle.symres_table.specs.Numbers as numbers
use Rattle.symres_table.specs.State.{naming, without, HasObject, IsFresh, MayEnter, Forgets, IsSeenOr, IsNamedOr}
use Rattle.symres_table.specs.State.{HasSymbol, IsNameOfSymbol}
use Rattle.symres_table.proofs.Forgetting.{names_were, named_used}
use Rattle.symres_table.proofs.Growing.{named_none, entries_none}
use Rattle.symres_table.proofs.Naming.{named_local, named_no, visible_is}
use Rattle.symres_table.proofs.Spelling.{AllSpellable, entries_spelled, length_naming, same_objects, seen_name}

abbrev Names : Type 0
Names = List (Option (List ℕ))

abbrev Table : Type 0
Table = ℕ × List NamedSymbol

pub has_key : (names : Names) (os : List Entered) (key : ℕ) → HasObject key (map (spell names) os) → HasKey key os
has_key names os key h =
    let lt : h.0 < length os = omega (arith, h.1, length-map os (spell names)) in (
      h.0,
      lt,
      λ o. ap (λ (x : Table). x.0) (sym (get_or-map (spell names) os h.0 o (spell names o) lt))
          ∙ h.2 (spell names o),
    )

pub fresh_key : (names : Names) (os : List Entered) (key : ℕ) → IsFresh key (map (spell names) os)
    → All (λ (o : Entered). eqb o.key key ≡ false) os
fresh_key names os key h = λ j o l.
    ap (λ (x : Table). eqb x.0 key) (sym (get_or-map (spell names) os j o (spell names o) l))
    ∙ h j (spell names o) (omega (arith, l, length-map os (spell names)))

pub without_spelled : (names : Names) (key : ℕ) (os : List Entered) → map (spell names) (numbers.without key os)
    ≡ without key (map (spell names) os)
without_spelled names key [] = refl
without_spelled names key (o ∷ os) = go (not (eqb o.key key)) (without_spelled names key os)
  where
    go : (b : Bool) → map (spell names) (numbers.without key os) ≡ without key (map (spell names) os)
        → map (spell names) (cond b (o ∷ numbers.without key os) (numbers.without key os))
        ≡ cond b (spell names o ∷ without key (map (spell names) os)) (without key (map (spell names) os))
    go true e = ap (λ l. spell names o ∷ l) e
    go false e = e

entries_length : (names : Names) (k : ℕ) (name : List ℕ) (os : List Entered) → AreDistinct names → IsNamed names k name
    → AllSpellable names os → length (entries_of name (map (spell names) os)) ≡ length (entries k os)
entries_length names k name os d h a = ap length (entries_spelled names k name os d h a)
    ∙ length-map (entries k os) (declaration_of name)

-- the name that a symbol which isn't local is spelled by
pub named_so : (names : Names) (s : Numbered) → HasName names s → is_local s.symbol.binding ≡ false
    → IsNamed names s.name (spell_symbol names s).name
named_so names s h v = let t = h v in t.1 ∙ ap Some (sym (seen_name names s v ∙ ap text t.1))

-- a number that no name has
none : (names : Names) (k : ℕ) (xs : List Numbered) → slot names k ≡ None → All (HasName names) xs
    → All (λ (s : Numbered). is_named k s ≡ false) xs
none names k xs e h = λ j x l. go (get_or xs j x) (is_local (get_or xs j x).symbol.binding) refl (h j x l)
  where
    go : (s : Numbered) (b : Bool) → is_local s.symbol.binding ≡ b → HasName names s → is_named k s ≡ false
    go s true v t = named_local k s v
    go s false v t = let n = t v in named_no k s (λ same. let q = sym n.1 ∙ ap (slot names) same ∙ e in absurd (cc))

pub can_enter : (names : Names) (s : ObjectsState) (spare held : List ℕ) (order : List (List ℕ × ℕ))
    (ss : List Numbered) (symbols : List NamedSymbol) → AreDistinct names → AllSpellable names s.objects
    → Spells names ss symbols
    → MayEnter (record {
      objects = map (spell names) s.objects;
      names = names;
      room = s.room;
      order_room =
          s.order_room;
      place_room = s.place_room;
      spare = spare;
      held = held;
      order = order;
    }) symbols → CanEnter s ss
can_enter names s spare held order ss symbols d a p m = record {
  known = λ j x l v.
      let y = get_or ss j x in
      let l' : j < length symbols = omega (arith, l, ap length p.spelled, length-map ss (spell_symbol names)) in
      let is : get_or symbols j (spell_symbol names x) ≡ spell_symbol names (get_or ss j x) =
      ap (λ xs. get_or xs j (spell_symbol names x)) (sym p.spelled)
      ∙ get_or-map (spell_symbol names) ss j x (spell_symbol names x) l in
      let k = m.known j (spell_symbol names x) l' (ap (λ (z : NamedSymbol). is_local z.symbol.binding) is ∙ v) in
      let same : y.name ≡ k.0 =
      d _ _ _ (named_so names y (p.well.named j x l) v) (k.1 ∙ ap (λ (z : NamedSymbol). Some z.name) is) in
      omega (arith, same, k.2);
  room = λ k l. room k l (slot names k) refl;
  order = m.order;
  places = m.places;
}
  where
    room : (k : ℕ) → k < length s.room → (t : Option (List ℕ)) → slot names k ≡ t
        → length (entries k s.objects) + length (named k ss) ≤ get_or s.room k 0
    room k l None e = omega (
      arith,
      ap length (entries_none k s.objects (λ j o l. none names k _ e (a j o l).named)),
      ap length (named_none k ss (none names k ss e p.well.named)),
    )
    room k l (Some name) e =
        let x = m.room k name e l in
        let y = entries_length names k name s.objects d e a in
        let z = length_naming names k name ss d e p.well.named in
        let w = ap (λ xs. length (naming name xs)) p.spelled in
        omega (arith, x, y, z, w)

all_filter : {X : Type 0} (P : X → Type 0) (t : X → Bool) (xs : List X) → All P (filter t xs)
    → All (λ (x : X). t x ≡ true → P x) xs
all_filter P t [] h = All-nil _
all_filter P t (x ∷ xs) h = go (t x) refl h (all_filter P t xs)
  where
    go : (b : Bool) → t x ≡ b → All P (cond b (x ∷ filter t xs) (filter t xs))
        → (All P (filter t xs) → All (λ x. t x ≡ true → P x) xs) → All (λ x. t x ≡ true → P x) (x ∷ xs)
    go true e h f = All-cons (λ x. t x ≡ true → P x) x xs (λ q. All-head P x (filter t xs) h)
        (f (All-tail P x (filter t xs) h))
    go false e h f = All-cons (λ x. t x ≡ true → P x) x xs (λ q. let never = sym e ∙ q in absurd (cc)) (f h)

naming_seen : (name : List ℕ) (symbols : List NamedSymbol) → naming name symbols ≡ naming name (filter is_seen symbols)
naming_seen name [] = refl
naming_seen name (x ∷ xs) = go (is_seen x) (naming_seen name xs) refl
  where
    go : (b : Bool) → naming name xs ≡ naming name (filter is_seen xs) → is_seen x ≡ b
        → cond (not (is_local x.symbol.binding) && bytes_eq name x.name) (x ∷ naming name xs) (naming name xs)
        ≡ naming name (cond (is_seen x) (x ∷ filter is_seen xs) (filter is_seen xs))
    go true r e =
        ap (λ l. cond (is_seen x && bytes_eq name x.name) (x ∷ l) l) r
        ∙ ap (λ b. naming name (cond b (x ∷ filter is_seen xs) (filter is_seen xs))) (sym e)
    go false r e =
        ap (λ b. cond (b && bytes_eq name x.name) (x ∷ naming name xs) (naming name xs)) e ∙ r
        ∙ ap (λ b. naming name (cond b (x ∷ filter is_seen xs) (filter is_seen xs))) (sym e)

-- what is enough of an object's symbols
enough : (names : Names) (s : ObjectsState) (spare held : List ℕ) (order : List (List ℕ × ℕ)) (ss : List Numbered)
    (symbols : List NamedSymbol) → AreDistinct names → AllSpellable names s.objects → SpellsSeen names ss symbols
    → CanEnter s ss → HasList spare (length symbols)
    → MayEnter (record {
      objects = map (spell names) s.objects;
      names = names;
      room = s.room;
      order_room =
          s.order_room;
      place_room = s.place_room;
      spare = spare;
      held = held;
      order = order;
    }) symbols
enough names s spare held order ss symbols d a p c h = record {
  known = λ j x l v. all_filter P is_seen symbols (subst (All P) p.spelled mapped) j x l (ap not v);
  room = λ n name e l.
      let x = c.room n l in
      let y = entries_length names n name s.objects d e a in
      let z = length_naming names n name ss d e p.named in
      let w = ap length (naming_seen name symbols) in
      let v = ap (λ xs. length (naming name xs)) p.spelled in
      omega (arith, x, y, z, w, v);
  order = c.order;
  places = c.places;
  list = h;
}
  where
    P : NamedSymbol → Type 0
    P x = (n : ℕ) × IsNamed names n x.name × (n < length s.room)

    mapped : All P (map (spell_symbol names) ss)
    mapped = All-map P (spell_symbol names) ss (λ j x l.
        let y = get_or ss j x in
        let v : is_local y.symbol.binding ≡ false = visible_is (is_local y.symbol.binding) (sym (p.seen j x l)) in
        (y.name, named_so names y (p.named j x l) v, c.known j x l v))

pub may_enter : (names : Names) (s : ObjectsState) (spare held : List ℕ) (order : List (List ℕ × ℕ))
    (symbols : List NamedSymbol) → AreDistinct names → AllSpellable names s.objects → IsReady names s symbols
    → HasList spare (length symbols)
    → MayEnter (record {
      objects = map (spell names) s.objects;
      names = names;
      room = s.room;
      order_room =
          s.order_room;
      place_room = s.place_room;
      spare = spare;
      held = held;
      order = order;
    }) symbols
may_enter names s spare held order symbols d a r h = enough names s spare held order r.0 symbols d a r.1 r.2 h

-- an object that was entered can be again
pub may_again : (names : Names) (s : ObjectsState) (spare held : List ℕ) (order : List (List ℕ × ℕ))
    (ss : List Numbered) → AreDistinct names → AllSpellable names s.objects → IsSpellable names ss → CanEnter s ss
    → HasList spare (length (map (spell_symbol names) ss))
    → MayEnter (record {
      objects = map (spell names) s.objects;
      names = names;
      room = s.room;
      order_room =
          s.order_room;
      place_room = s.place_room;
      spare = spare;
      held = held;
      order = order;
    })
    (map (spell_symbol names) ss)
may_again names s spare held order ss d a p c h = record {
  known = All-map P (spell_symbol names) ss (λ j x l v. let y = get_or ss j x in
      (y.name, named_so names y (p.named j x l) v, c.known j x l v));
  room = λ n name e l.
      let x = c.room n l in
      let y = entries_length names n name s.objects d e a in
      let z = length_naming names n name ss d e p.named in
      omega (arith, x, y, z);
  order = c.order;
  places = c.places;
  list = h;
}
  where
    P : NamedSymbol → Type 0
    P x = is_local x.symbol.binding ≡ false → (n : ℕ) × IsNamed names n x.name × (n < length s.room)

pub spellable_insert : (names : Names) (os : List Entered) (at : ℕ) (new : Entered) → AllSpellable names os
    → IsSpellable names new.symbols → AllSpellable names (insert os at new)
spellable_insert names os at new a n =
    let P : Entered → Type 0 = λ (o : Entered). IsSpellable names o.symbols in
    All-append P _ _ (All-take P at os a) (All-cons P new (drop at os) n (All-drop P at os a))

-- where two tests agree
filter_agrees : {X : Type 0} (p q : X → Bool) (xs : List X) → All (λ (x : X). p x ≡ q x) xs → filter p xs ≡ filter q xs
filter_agrees p q [] h = refl
filter_agrees p q (x ∷ xs) h =
    ap (λ b. cond b (x ∷ filter p xs) (filter p xs)) (All-head (λ x. p x ≡ q x) x xs h)
    ∙ go (q x) (filter_agrees p q xs (All-tail (λ x. p x ≡ q x) x xs h))
  where
    go : (b : Bool) → filter p xs ≡ filter q xs → cond b (x ∷ filter p xs) (filter p xs)
        ≡ cond b (x ∷ filter q xs) (filter q xs)
    go true e = ap (λ l. x ∷ l) e
    go false e = e

-- what names that have no entries leave
pub forgets : (old new : KnownNames) (s : ObjectsState) (spare held : List ℕ) → IsConsistent old
    → AreDistinct old.slots → AllSpellable old.slots s.objects
    → IsKeptWhere (λ n. is_used n s.objects) old.slots new.slots
    → new.order ≡ filter (λ (e : List ℕ × ℕ). is_used e.1 s.objects) old.order
    → Forgets (record {
      objects = map (spell old.slots) s.objects;
      names = old.slots;
      room = s.room;
      order_room =
          s.order_room;
      place_room = s.place_room;
      spare = spare;
      held = held;
      order = old.order;
    })
    (record {
      objects = map (spell new.slots) s.objects;
      names = new.slots;
      room = s.room;
      order_room = s.order_room;
      place_room = s.place_room;
      spare = spare;
      held = held;
      order = new.order;
    })
forgets old new s spare held c d a w o = record {
  names = λ n name h. by n name h (is_used n s.objects) refl
      ∙ ap (λ l. cond (nat_lt 0 l) (Some name) None) (sym (entries_length old.slots n name s.objects d h a));
  others = λ n h. other n h (is_used n s.objects) refl;
  order = o ∙ filter_agrees (λ (e : List ℕ × ℕ). is_used e.1 s.objects) (λ (e : List ℕ × ℕ).
      nat_lt 0 (length (entries_of e.0 (map (spell old.slots) s.objects)))) old.order
      (λ j e l. ap (nat_lt 0)
      (sym (entries_length old.slots (get_or old.order j e).1 (get_or old.order j e).0 s.objects d (c.sound j e l)
      a)));
  rest = ap (λ (os : List Table).
      state os) (same_objects new.slots old.slots s.objects
      (names_were (λ n. is_used n s.objects) old.slots new.slots w) (named_used old.slots new.slots s.objects w a));
}
  where
    state : List Table → State
    state os = record {
      objects = os;
      names = new.slots;
      room = s.room;
      order_room = s.order_room;
      place_room =
          s.place_room;
      spare = spare;
      held = held;
      order = new.order;
    }

    by : (n : ℕ) (name : List ℕ) → IsNamed old.slots n name → (b : Bool) → is_used n s.objects ≡ b → slot new.slots n
        ≡ cond (is_used n s.objects) (Some name) None
    by n name h true e = (w n).0 e ∙ h ∙ ap (λ b. cond b (Some name) None) (sym e)
    by n name h false e = (w n).1 e ∙ ap (λ b. cond b (Some name) None) (sym e)

    other : (n : ℕ) → slot old.slots n ≡ None → (b : Bool) → is_used n s.objects ≡ b → slot new.slots n ≡ None
    other n h true e = (w n).0 e ∙ h
    other n h false e = (w n).1 e

entries_cons : (name : List ℕ) (t : Table) (ts : List Table) → length (entries_of name (t ∷ ts))
    ≡ length (filter (is_of_name name) (declarations_in t)) + length (entries_of name ts)
unfolding declarations_of
entries_cons name t ts = ap length (filter-append (is_of_name name) (declarations_in t) (declarations_of ts))
    ∙ length-append (filter (is_of_name name) (declarations_in t)) (entries_of name ts)

entries_fewer : (name : List ℕ) (key : ℕ) (ts : List Table)
    → length (entries_of name (without key ts)) ≤ length (entries_of name ts)
entries_fewer name key [] = omega arith
entries_fewer name key (t ∷ ts) = go (not (eqb t.0 key)) (entries_fewer name key ts)
  where
    go : (b : Bool) → length (entries_of name (without key ts)) ≤ length (entries_of name ts)
        → length (entries_of name (cond b (t ∷ without key ts) (without key ts))) ≤ length (entries_of name (t ∷ ts))
    go true h = omega (arith, h, entries_cons name t ts, entries_cons name t (without key ts))
    go false h = omega (arith, h, entries_cons name t ts)

-- who could enter still can
pub others_may : (s t : State) (key n : ℕ) (symbols : List NamedSymbol) → t.objects ≡ without key s.objects → t.names
    ≡ s.names → t.room ≡ s.room → t.order_room ≡ s.order_room + 1 → t.place_room ≡ s.place_room + 1 → t.spare ≡ s.spare
    ++ n ∷ []
    → MayEnter s symbols → MayEnter t symbols
others_may s t key n symbols objects names room order places spare m = record {
  known = λ j x l v. let k = m.known j x l v in
      (k.0, ap (λ l. slot l k.0) names ∙ k.1, omega (arith, k.2, ap length room));
  room = λ k name h l.
      let old = m.room k name (ap (λ l. slot l k) (sym names) ∙ h) (omega (arith, l, ap length room)) in
      omega (
        arith,
        old,
        entries_fewer name key s.objects,
        ap (λ os. length (entries_of name os)) objects,
        ap (λ r. get_or r k 0) room,
      );
  order = omega (arith, order);
  places = omega (arith, places);
  list = (
    m.list.0,
    omega (arith, m.list.1, ap length spare, length-append s.spare (n ∷ [])),
    omega (
      arith,
      m.list.2,
      ap (λ l. get_or l m.list.0 0) spare,
      get_or_append_left s.spare (n ∷ []) 0 m.list.0 m.list.1,
    ),
  );
}

pub last_list : (spare : List ℕ) (n count : ℕ) → count ≤ n → HasList (spare ++ n ∷ []) count
last_list [] n count h = (0, omega arith, h)
last_list (x ∷ spare) n count h = let r = last_list spare n count h in (suc r.0, omega (arith, r.1), r.2)

nobody : Entered
nobody = record { key = 0; symbols = []; room = 0 }

-- the symbols that a list spells are those of the object
pub spelled_so : (names : Names) (key : ℕ) (ss : List Numbered) (os : List Entered) → numbers.HasSymbols key ss os
    → All (λ (t : Table). eqb t.0 key ≡ true → t.1 ≡ map (spell_symbol names) ss) (map (spell names) os)
spelled_so names key ss os h = λ j o l q.
    let lt : j < length os = omega (arith, l, length-map os (spell names)) in
    let is = get_or-map (spell names) os j nobody o lt in
    ap (λ (x : Table). x.1) is
    ∙ ap (map (spell_symbol names)) (h j nobody lt (ap (λ (x : Table). eqb x.0 key) (sym is) ∙ q))

-- the symbol of a number, as it is spelled
spelled_at : (names : Names) (ss : List Numbered) (k : ℕ) (r : Option Numbered) → r ≡ slice_get ss k
    → slice_get (map (spell_symbol names) ss) k ≡ option_map (spell_symbol names) r
spelled_at names ss k r e = slice_get-map (spell_symbol names) ss k ∙ ap (option_map (spell_symbol names)) (sym e)

name_one : (names : Names) (ss : List Numbered) (k : ℕ) (s : Numbered) → Some s ≡ slice_get ss k
    → All (HasName names) ss → IsSeenOr (slice_get (map (spell_symbol names) ss) k)
    → IsNamedOr names s.name (slice_get (map (spell_symbol names) ss) k)
name_one names ss k s e a v =
    let is = spelled_at names ss k (Some s) e in
    let seen : is_local s.symbol.binding ≡ false = subst IsSeenOr is v in
    subst (IsNamedOr names s.name) (sym is) (named_so names s (elim (slice_get_cases ss k).1 [
      | inl h ↦ let same : s ≡ h.0 = cc in subst (HasName names) (h.3 ∙ sym same) (a k h.0 h.1)
      | inr h ↦ absurd (cc)
    ]) seen)

pub name_is_of : (names : Names) (os : List Entered) (key k : ℕ) (s : Numbered) → AllSpellable names os
    → All (λ (o : Entered). eqb o.key key ≡ true → Some s ≡ slice_get o.symbols k) os
    → HasSymbol key k (map (spell names) os)
    → IsNameOfSymbol names key k (map (spell names) os) s.name
name_is_of names os key k s a h v = λ j o l q.
    let lt : j < length os = omega (arith, l, length-map os (spell names)) in
    let is = get_or-map (spell names) os j nobody o lt in
    let mine = ap (λ (x : Table). eqb x.0 key) (sym is) ∙ q in
    let seen = subst (λ (t : Table). IsSeenOr (slice_get t.1 k)) is (v j o l q) in
    subst (λ (t : Table). IsNamedOr names s.name (slice_get t.1 k)) (sym is)
    (name_one names (get_or os j nobody).symbols k s (h j nobody lt mine) (a j nobody lt).named seen)

pub no_none : (names : Names) (os : List Entered) (key k : ℕ)
    → All (λ (o : Entered). eqb o.key key ≡ true → None ≡ slice_get o.symbols k) os
    → HasObject key (map (spell names) os) → HasSymbol key k (map (spell names) os) → ⊥
no_none names os key k h o v =
    let lt : o.0 < length os = omega (arith, o.1, length-map os (spell names)) in
    let is = get_or-map (spell names) os o.0 nobody (spell names nobody) lt in
    let at : eqb (get_or (map (spell names) os) o.0 (spell names nobody)).0 key ≡ true =
    eq-eqb _ _ (o.2 (spell names nobody)) in
    let none = h o.0 nobody lt (ap (λ (x : Table). eqb x.0 key) (sym is) ∙ at) in
    subst IsSeenOr (ap (λ (t : Table). slice_get t.1 k) is
    ∙ spelled_at names (get_or os o.0 nobody).symbols k None none) (v o.0 (spell names nobody) o.1 at)

pub take_first : {X : Type 0} (xs ys : List X) → take (length xs) (xs ++ ys) ≡ xs
take_first [] [] = refl
take_first [] (y ∷ ys) = refl
take_first (x ∷ xs) ys = ap (λ l. x ∷ l) (take_first xs ys)

pub one_name : (names : Names) (n : ℕ) (a b : List ℕ) → IsNamed names n a → IsNamed names n b → a ≡ b
one_name names n a b h k = let same : Some a ≡ Some b = sym h ∙ k in cc

pub has_object : (names : Names) (os : List Entered) (key : ℕ) → HasKey key os → HasObject key (map (spell names) os)
has_object names os key h = (
  h.0,
  omega (arith, h.1, length-map os (spell names)),
  λ t.
      ap (λ (x : Table). x.0) (get_or-map (spell names) os h.0 nobody t h.1) ∙ h.2 nobody,
)

pub fresh_object : (names : Names) (os : List Entered) (key : ℕ) → All (λ (o : Entered). eqb o.key key ≡ false) os
    → IsFresh key (map (spell names) os)
fresh_object names os key h = λ j t l.
    let lt : j < length os = omega (arith, l, length-map os (spell names)) in
    ap (λ (x : Table). eqb x.0 key) (get_or-map (spell names) os j nobody t lt) ∙ h j nobody lt
