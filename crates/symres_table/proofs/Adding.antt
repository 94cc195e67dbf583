-- The entries of a name are those of the objects in front, then those of the objects behind: where a declaration goes.
use Rattle.symres_table.proofs.Common.{All, All-append, All-head, All-map, All-nil, All-tail, Bool, Declared, Entered}
use Rattle.symres_table.proofs.Common.{Grows, HasRoom, IsPlace, IsSplit, List, Numbered, PlacedKey, Vec, [], ap}
use Rattle.symres_table.proofs.Common.{append-nil, append_assoc, arith, before, cases_lt, declared, drop, entries, eqb}
use Rattle.symres_table.proofs.Common.{false, false≢true, filter-append, get_or, get_or-append_right}
use Rattle.symres_table.proofs.Common.{get_or_append_left, is_local, is_named, length, length-append, map, named, own}
use Rattle.symres_table.proofs.Common.{refl, sym, take, take-append-drop, take_more, true, vec_capacity, vec_len, ℕ}
use Rattle.symres_table.proofs.Common.{⊎_elim, ◌++◌, ◌+◌, ◌-◌, ◌<◌, ◌||◌, ◌∙◌, ◌∷◌, ◌≡◌}
use Rattle.std.proofs.Common.{Global}
use Rattle.symres_table.proofs.Naming.{named_yes, named_push}

pub entries-append : (k : ℕ) (xs ys : List Entered) → entries k (xs ++ ys) ≡ entries k xs ++ entries k ys
entries-append k [] ys = refl
entries-append k (x ∷ xs) ys = ap (λ l. own k x.key x.symbols ++ l) (entries-append k xs ys)
    ∙ sym (append_assoc (own k x.key x.symbols) (entries k xs) (entries k ys))

-- what holds of the declarations of each object
all_entries : (P : Declared → Type 0) (k : ℕ) (xs : List Entered)
    → All (λ (o : Entered). (s : Numbered) → P (declared o.key s)) xs → All P (entries k xs)
all_entries P k [] h = All-nil P
all_entries P k (x ∷ xs) h = All-append P _ _
    (All-map P (declared x.key) _ (λ j d l.
    All-head (λ (o : Entered). (s : Numbered) → P (declared o.key s)) x xs h (get_or (named k x.symbols) j d)))
    (all_entries P k xs (All-tail (λ (o : Entered). (s : Numbered) → P (declared o.key s)) x xs h))

-- the place is right behind what is before
pub place_is : (place : List PlacedKey) (at key : ℕ) (F B : List Declared) (n : ℕ) (x : Declared)
    → IsPlace place at key (F ++ B) n
    → All (λ d. before place at key d ≡ true) F → All (λ d. before place at key d ≡ false) B → n ≡ length F
place_is place at key F B n x p f b = ⊎_elim
    (λ low. absurd (false≢true
    (sym (rw (get_or_append_left F B x n low) at (p.behind n x (omega arith) (omega (arith, length-append F B))))
    ∙ f n x low)))
    (λ high. ⊎_elim
    (λ more. absurd (false≢true (sym (b (n - 1 - length F) x (omega (arith, p.within, length-append F B)))
    ∙ rw (get_or-append_right F B (length F) (n - 1) x refl (omega arith)) at (p.front x (omega arith)))))
    (λ less. omega arith)
    (cases_lt (length F) n))
    (cases_lt n (length F))

pub front_before : (place : List PlacedKey) (at key k : ℕ) (xs ys : List Entered) → IsSplit place at key xs ys
    → All (λ d. before place at key d ≡ true) (entries k xs)
front_before place at key k xs ys s =
    all_entries (λ d. before place at key d ≡ true) k xs (λ j o h t.
    either (eqb (get_or xs j o).key key) (s.front j o h))
  where
    either : (b : Bool) {c : Bool} → c ≡ true → (b || c) ≡ true
    either true e = refl
    either false e = e

pub behind_not_before : (place : List PlacedKey) (at key k : ℕ) (xs ys : List Entered) → IsSplit place at key xs ys
    → All (λ d. before place at key d ≡ false) (entries k ys)
behind_not_before place at key k xs ys s =
    all_entries (λ d. before place at key d ≡ false) k ys (λ j o h t. rw (s.other j o h) (s.behind j o h))

pub map_push : (key : ℕ) (ss : List Numbered) (s : Numbered) → map (declared key) (ss ++ s ∷ []) ≡ map (declared key) ss
    ++ declared key s ∷ []
map_push key [] s = refl
map_push key (x ∷ ss) s = ap (λ l. declared key x ∷ l) (map_push key ss s)

pub room_left : (symbols : List Numbered) (i : ℕ) (s : Numbered) (old mid : List (Vec Declared Global))
    (v : Vec Declared Global)
    → i < length symbols → s ≡ get_or symbols i s → is_local s.symbol.binding ≡ false → s.name < length mid
    → HasRoom old symbols → Grows old mid (take i symbols)
    → vec_len (get_or mid s.name v) < vec_capacity (get_or mid s.name v)
room_left symbols i s old mid v h is vis w r g =
    let k = s.name in
    let w' : k < length old = omega (arith, g.long) in
    let room = r k v w' in
    let grown = g.row k v w' in
    let all : named k (take (i + 1) symbols) ++ named k (drop (i + 1) symbols) ≡ named k symbols =
    sym (filter-append (is_named k) (take (i + 1) symbols) (drop (i + 1) symbols))
    ∙ ap (named k) (take-append-drop (i + 1) symbols) in
    let one : named k (take (i + 1) symbols) ≡ named k (take i symbols) ++ s ∷ [] =
    ap (named k) (take_more symbols i s h) ∙ ap (λ x. named k (take i symbols ++ x ∷ [])) (sym is)
    ∙ named_push k (take i symbols) s true (named_yes k s vis refl) in
    let len = ap length all in
    let len' = ap length one in
    omega (
      arith,
      room,
      grown.0,
      grown.1,
      len,
      len',
      length-append (named k (take (i + 1) symbols)) (named k (drop (i + 1) symbols)),
      length-append (named k (take i symbols)) (s ∷ []),
    )

pub entries_more : (k : ℕ) (os : List Entered) (i : ℕ) (d : Entered) → i < length os → entries k (take (i + 1) os)
    ≡ entries k (take i os) ++ own k (get_or os i d).key (get_or os i d).symbols
entries_more k os i d h = ap (entries k) (take_more os i d h) ∙ entries-append k (take i os) (get_or os i d ∷ [])
    ∙ ap (λ l. entries k (take i os) ++ l) (append-nil _)
