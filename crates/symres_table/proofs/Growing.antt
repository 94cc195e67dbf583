-- New rows are empty: the rows are still those of the objects, and there is no less room.
use Rattle.symres_table.proofs.Common.{All, All-head, All-tail, CanEnter, Declared, Entered, HasRoom, HasRow}
use Rattle.symres_table.proofs.Common.{IsObjectTable, List, Numbered, PlacedKey, RowsGrow, Vec, [], ap, arith, cases_lt}
use Rattle.symres_table.proofs.Common.{cond, declared, entries, false, get_or, get_or_append_left, is_named, length}
use Rattle.symres_table.proofs.Common.{length-append, length-map, map, named, own, refl, remove, subst, suc, sym}
use Rattle.symres_table.proofs.Common.{vec_capacity, vec_len, zero, ℕ, ⊎_elim, ◌++◌, ◌+◌, ◌<◌, ◌∙◌, ◌∷◌, ◌≡◌, ◌≤◌}
use Rattle.std.proofs.Common.{Global, Result, Ok, Err, OnOk}
use Rattle.std.proofs.lemmas.List.{get_or-map}
use Rattle.symres_table.proofs.Naming.{named_past}

-- a name that no symbol has
pub named_none : (k : ℕ) (ss : List Numbered) → All (λ (s : Numbered). is_named k s ≡ false) ss → named k ss ≡ []
named_none k [] h = refl
named_none k (s ∷ ss) h =
    ap (λ b. cond b (s ∷ named k ss) (named k ss)) (All-head (λ (s : Numbered). is_named k s ≡ false) s ss h)
    ∙ named_none k ss (All-tail (λ (s : Numbered). is_named k s ≡ false) s ss h)

pub entries_none : (k : ℕ) (os : List Entered)
    → All (λ (o : Entered). All (λ (s : Numbered). is_named k s ≡ false) o.symbols) os → entries k os ≡ []
entries_none k [] h = refl
entries_none k (o ∷ os) h =
    let P : Entered → Type 0 = λ (o : Entered). All (λ (s : Numbered). is_named k s ≡ false) o.symbols in
    ap (λ l. map (declared o.key) l ++ entries k os) (named_none k o.symbols (All-head P o os h))
    ∙ entries_none k os (All-tail P o os h)

-- a name past the table
pub entries_past : (n k : ℕ) (os : List Entered) → n ≤ k → All (λ (o : Entered). All (HasRow n) o.symbols) os
    → entries k os ≡ []
entries_past n k os w h =
    entries_none k os (λ j o l i s m. named_past n k (get_or (get_or os j o).symbols i s) w (h j o l i s m))

pub grow_start : (rows : List (Vec Declared Global)) → RowsGrow rows rows
grow_start rows = record {
  long = omega arith;
  items = λ k d h. refl;
  room = λ k d h. omega arith;
  fresh = λ k d h l.
      absurd (omega arith);
}

last : (mid : List (Vec Declared Global)) (row d : Vec Declared Global) → get_or (mid ++ row ∷ []) (length mid) d ≡ row
last [] row d = refl
last (x ∷ mid) row d = last mid row d

pub grow_push : (old mid new : List (Vec Declared Global)) (row : Vec Declared Global) → RowsGrow old mid → new ≡ mid
    ++ row ∷ [] → row.items ≡ [] → RowsGrow old new
grow_push old mid new row g e r = subst (RowsGrow old) (sym e) record {
  long = omega (arith, g.long, length-append mid (row ∷ []));
  items = λ k d h. ap (λ (v : Vec Declared Global).
      v.items) (get_or_append_left mid (row ∷ []) d k (omega (arith, g.long))) ∙ g.items k d h;
  room = λ k d h. subst (λ (v : Vec Declared Global). vec_capacity (get_or old k d) ≤ vec_capacity v)
      (sym (get_or_append_left mid (row ∷ []) d k (omega (arith, g.long)))) (g.room k d h);
  fresh = λ k d h l. ⊎_elim
      (λ low. ap (λ (v : Vec Declared Global). v.items) (get_or_append_left mid (row ∷ []) d k low) ∙ g.fresh k d h low)
      (λ high. let at : k ≡ length mid = omega (arith, length-append mid (row ∷ [])) in
      ap (λ (v : Vec Declared Global). v.items) (ap (λ q. get_or (mid ++ row ∷ []) q d) at ∙ last mid row d) ∙ r)
      (cases_lt k (length mid));
}

pub kept_grown : (os : List Entered) (rows rows' : List (Vec Declared Global)) (place : List PlacedKey)
    → IsObjectTable os rows place → RowsGrow rows rows' → IsObjectTable os rows' place
kept_grown os rows rows' place k g = record {
  table = record {
    row = λ n d h. ⊎_elim
        (λ low. g.items n d low ∙ k.table.row n d low)
        (λ high. g.fresh n d high h ∙ sym (entries_past (length rows) n os high k.known))
        (cases_lt n (length rows));
  };
  known = λ j o l i s m v. let lt = k.known j o l i s m v in omega (arith, g.long);
  numbered = k.numbered;
}

pub room_grown : (rows rows' : List (Vec Declared Global)) → RowsGrow rows rows' → (k : ℕ)
    → k < length (map (λ (v : Vec Declared Global). vec_capacity v) rows)
    → get_or (map (λ (v : Vec Declared Global). vec_capacity v) rows) k 0 ≤ get_or
    (map (λ (v : Vec Declared Global). vec_capacity v) rows') k 0
room_grown [] rows' g k h = absurd (omega (arith, h))
room_grown (r ∷ rows) rows' g k h =
    let h' : k < length (r ∷ rows) =
    omega (arith, length-map (r ∷ rows) (λ (v : Vec Declared Global). vec_capacity v)) in
    let a = get_or-map (λ (v : Vec Declared Global). vec_capacity v) (r ∷ rows) k r 0 h' in
    let b = get_or-map (λ (v : Vec Declared Global). vec_capacity v) rows' k r 0 (omega (arith, g.long)) in
    omega (arith, a, b, g.room k r h')

pub both_ok : {E A B C : Type 0} (r : Result (Unit {0}) E) → OnOk r A → OnOk r B → (A → B → C) → OnOk r C
both_ok (Ok x) a b f = f a b
both_ok (Err e) a b f = tt

pub all_ok : {E A B C D : Type 0} (r : Result (Unit {0}) E) → OnOk r A → OnOk r B → OnOk r C → (A → B → C → D)
    → OnOk r D
all_ok (Ok x) a b c f = f a b c
all_ok (Err e) a b c f = tt

-- what the rows say of the room, the state says
pub can_enter : (os : List Entered) (rows : List (Vec Declared Global)) (place : List PlacedKey) (left free : ℕ)
    (symbols : List Numbered) → IsObjectTable os rows place → ((v : Vec Declared Global) → vec_len v ≡ length v.items)
    → HasRoom rows symbols → All (HasRow (length rows)) symbols → 0 < left → 0 < free
    → CanEnter (record {
      objects = os;
      room = map (λ (v : Vec Declared Global). vec_capacity v) rows;
      order_room =
          left;
      place_room = free;
    }) symbols
can_enter os rows place left free symbols k len h n o f = record {
  known = λ j x l v. let lt = n j x l v in
      omega (arith, lt, length-map rows (λ (v : Vec Declared Global). vec_capacity v));
  room = λ j l. room rows (λ i d m. ap length (k.table.row i d m)) h j
      (omega (arith, length-map rows (λ (v : Vec Declared Global). vec_capacity v)));
  order = o;
  places = f;
}
  where
    room : (rs : List (Vec Declared Global))
        → ((i : ℕ) (d : Vec Declared Global) → i < length rs → length (get_or rs i d).items ≡ length (entries i os))
        → HasRoom rs symbols → (j : ℕ) → j < length rs
        → length (entries j os) + length (named j symbols) ≤ get_or
        (map (λ (v : Vec Declared Global). vec_capacity v) rs) j 0
    room [] t h j l = absurd (omega (arith, l))
    room (r ∷ rs) t h j l =
        let a = h j r l in
        let b = t j r l in
        let c = len (get_or (r ∷ rs) j r) in
        let e = get_or-map (λ (v : Vec Declared Global). vec_capacity v) (r ∷ rs) j r 0 l in
        omega (arith, a, b, c, e)

own_length : (k key : ℕ) (ss : List Numbered) → length (own k key ss) ≡ length (named k ss)
own_length k key ss = length-map (named k ss) (declared key)

-- the entries that an object leaves
pub entries_removed : (k : ℕ) (os : List Entered) (at : ℕ) (o : Entered) → at < length os → get_or os at o ≡ o
    → length (entries k os) ≡ length (entries k (remove os at)) + length (named k o.symbols)
entries_removed k [] at o h e = absurd (omega (arith, h))
entries_removed k (x ∷ os) zero o h e =
    let same : x ≡ o = e in
    omega (
      arith,
      length-append (own k x.key x.symbols) (entries k os),
      own_length k x.key x.symbols,
      ap (λ (y : Entered). length (named k y.symbols)) same,
    )
entries_removed k (x ∷ os) (suc n) o h e =
    omega (
      arith,
      entries_removed k os n o (omega (arith, h)) e,
      length-append (own k x.key x.symbols) (entries k os),
      length-append (own k x.key x.symbols) (entries k (remove os n)),
    )

pub again : (os : List Entered) (rows : List (Vec Declared Global)) (place : List PlacedKey) (left free at : ℕ)
    (o : Entered) → IsObjectTable os rows place
    → ((v : Vec Declared Global) → (vec_len v ≡ length v.items) × (vec_len v ≤ vec_capacity v))
    → at < length os → ((d : Entered) → get_or os at d ≡ o) → 0 < left → 0 < free
    → CanEnter (record {
      objects = remove os at;
      room = map (λ (v : Vec Declared Global). vec_capacity v) rows;
      order_room = left;
      place_room = free;
    }) o.symbols
again os rows place left free at o k small h e left' free' = record {
  known = λ j x l v.
      let lt = subst (λ (y : Entered). All (HasRow (length rows)) y.symbols) (e o) (k.known at o h) j x l v in
      omega (arith, lt, length-map rows (λ (v : Vec Declared Global). vec_capacity v));
  room = λ j l. room rows (λ i d m. ap length (k.table.row i d m)) j
      (omega (arith, length-map rows (λ (v : Vec Declared Global). vec_capacity v)));
  order = left';
  places = free';
}
  where
    room : (rs : List (Vec Declared Global))
        → ((i : ℕ) (d : Vec Declared Global) → i < length rs → length (get_or rs i d).items ≡ length (entries i os))
        → (j : ℕ) → j < length rs
        → length (entries j (remove os at)) + length (named j o.symbols) ≤ get_or
        (map (λ (v : Vec Declared Global). vec_capacity v) rs) j 0
    room [] t j l = absurd (omega (arith, l))
    room (r ∷ rs) t j l =
        let b = t j r l in
        let c = small (get_or (r ∷ rs) j r) in
        let f = get_or-map (λ (v : Vec Declared Global). vec_capacity v) (r ∷ rs) j r 0 l in
        omega (arith, b, c.0, c.1, f, entries_removed j os at o h (e o))
