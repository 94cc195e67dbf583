-- The objects of a link under their places.
use Rattle.symres.proofs.Common.{AreKeysDistinct, Bool, InputObject, KeyedObject, List, NamedObject, NamedSymbol, []}
use Rattle.symres.proofs.Common.{ap, arith, cond, count_by, enumerate_from, false, get_or, get_or-enumerate_from}
use Rattle.symres.proofs.Common.{get_or-map, length, length-enumerate_from, length-map, map, map-append, map-map}
use Rattle.symres.proofs.Common.{nat_eq, refl, shown_input, shown_inputs, subst, suc, sum_by-cons, sym, symbol_tables}
use Rattle.symres.proofs.Common.{take, take-suc, take_all, true, ℕ, ◌++◌, ◌+◌, ◌<◌, ◌∙◌, ◌∷◌, ◌≡◌, ◌≤◌}
use Rattle.std.proofs.lemmas.Bool.{eqb-true, ne_eqb}
use Rattle.symres_decisions.specs.Keyed as keyed
use Rattle.symres_decisions.specs.Keyed.{AreApart, table_of}
use Rattle.symres.specs.Entered.{tables_of}

abbrev pub Table : Type 0
Table = ℕ × List NamedSymbol

abbrev pub symbols_of : InputObject → List NamedSymbol
symbols_of x = x.object.now.symbols

pub length-tables : (inputs : List InputObject) → length (tables_of inputs) ≡ length inputs
length-tables inputs =
    length-enumerate_from 0 (symbol_tables (shown_inputs inputs))
    ∙ (length-map (shown_inputs inputs) (λ (o : NamedObject). o.object.symbols) ∙ length-map inputs shown_input)

-- the table of an object
pub table_at : (inputs : List InputObject) (i : ℕ) (x : InputObject) (d : Table) → i < length inputs
    → get_or inputs i x ≡ x
    → get_or (tables_of inputs) i d ≡ (i, symbols_of x)
table_at inputs i x d within here =
    let shown : get_or (shown_inputs inputs) i (shown_input x) ≡ shown_input x =
    get_or-map shown_input inputs i x (shown_input x) within ∙ ap shown_input here in
    let many : length (symbol_tables (shown_inputs inputs)) ≡ length inputs =
    length-map (shown_inputs inputs) (λ (o : NamedObject). o.object.symbols) ∙ length-map inputs shown_input in
    let within_shown : i < length (shown_inputs inputs) =
    subst (λ (m : ℕ). i < m) (sym (length-map inputs shown_input)) within in
    let symbols : get_or (symbol_tables (shown_inputs inputs)) i d.1 ≡ symbols_of x =
    get_or-map (λ (o : NamedObject). o.object.symbols) (shown_inputs inputs) i (shown_input x) d.1 within_shown
    ∙ ap (λ (o : NamedObject). o.object.symbols) shown in
    let from_0 : 0 + i ≡ i = omega arith in
    get_or-enumerate_from 0 (symbol_tables (shown_inputs inputs)) i d (subst (λ (m : ℕ). i < m) (sym many) within)
    ∙ (ap (λ (n : ℕ). let t : Table = (n, get_or (symbol_tables (shown_inputs inputs)) i d.1) in t) from_0
    ∙ ap (λ (ss : List NamedSymbol). let t : Table = (i, ss) in t) symbols)

-- one more object
pub one_keyed : (inputs : List InputObject) (i : ℕ) (x : InputObject) (old new : List KeyedObject) (k : KeyedObject)
    → i < length inputs
    → get_or inputs i x ≡ x → new ≡ old ++ k ∷ [] → table_of k ≡ (i, symbols_of x)
    → keyed.tables_of old ≡ take i (tables_of inputs) → keyed.tables_of new ≡ take (i + 1) (tables_of inputs)
one_keyed inputs i x old new k within here pushed is h =
    let t : Table = (i, symbols_of x) in
    let tables : List Table = tables_of inputs in
    let more : take (suc i) tables ≡ take i tables ++ get_or tables i t ∷ [] =
    take-suc tables i t (subst (λ (m : ℕ). i < m) (sym (length-tables inputs)) within) in
    let suc_is : suc i ≡ i + 1 = omega arith in
    ap keyed.tables_of pushed
    ∙ (map-append table_of old (k ∷ [])
    ∙ (ap (λ (ts : List Table). ts ++ table_of k ∷ []) h
    ∙ (ap (λ (y : Table). take i tables ++ y ∷ []) (is ∙ sym (table_at inputs i x t within here))
    ∙ (sym more ∙ ap (λ (n : ℕ). take n tables) suc_is))))

pub all_keyed : (inputs : List InputObject) (n : ℕ) (xs : List KeyedObject) → length inputs ≤ n
    → keyed.tables_of xs ≡ take n (tables_of inputs) → keyed.tables_of xs ≡ tables_of inputs
all_keyed inputs n xs past h = h ∙ take_all n (tables_of inputs) (omega (arith, length-tables inputs, past))

-- ---- the keys

key_at : (inputs : List InputObject) (xs : List KeyedObject) (i : ℕ) (x : KeyedObject) → keyed.tables_of xs
    ≡ tables_of inputs
    → i < length xs → (get_or xs i x).key.0 ≡ i
key_at inputs xs i x same within =
    let t : Table = table_of x in
    let many : length xs ≡ length (symbol_tables (shown_inputs inputs)) =
    sym (length-map xs table_of) ∙ ap length same
    ∙ length-enumerate_from 0 (symbol_tables (shown_inputs inputs)) in
    let from_0 : 0 + i ≡ i = omega arith in
    sym (ap (λ (u : Table). u.0) (get_or-map table_of xs i x t within))
    ∙ ap (λ (ts : List Table). (get_or ts i t).0) same
    ∙ ap (λ (u : Table). u.0)
    (get_or-enumerate_from 0 (symbol_tables (shown_inputs inputs)) i t (omega (arith, within, many))) ∙ from_0

pub are_apart : (inputs : List InputObject) (xs : List KeyedObject) → keyed.tables_of xs ≡ tables_of inputs
    → AreApart xs
are_apart inputs xs same i j x below within e =
    let first = key_at inputs xs i x same (omega (arith, below, within)) in
    let second = key_at inputs xs j x same within in
    omega (arith, below, first, second, e)

-- 1 where the test passes
abbrev one_if : Bool → ℕ
one_if b = cond b 1 0

abbrev firsts : {X : Type 0} → ℕ → List X → List ℕ
firsts {X} n xs = map (λ (t : ℕ × X). t.0) (enumerate_from n xs)

none_below : {X : Type 0} (key n : ℕ) (xs : List X) → key < n → count_by (nat_eq key) (firsts n xs) ≡ 0
none_below key n [] h = refl
none_below key n (x ∷ xs) h =
    let split = sum_by-cons (λ (y : ℕ). one_if (nat_eq key y)) n (firsts (n + 1) xs) in
    let here : one_if (nat_eq key n) ≡ 0 =
    ap one_if (ne_eqb key n (λ e. omega (arith, h, e))) in
    omega (arith, split, here, none_below key (n + 1) xs (omega (arith, h)))

at_most_once : {X : Type 0} (key n : ℕ) (xs : List X) → count_by (nat_eq key) (firsts n xs) ≤ 1
at_most_once key n [] = omega arith
at_most_once {X} key n (x ∷ xs) =
    go (nat_eq key n) refl (sum_by-cons (λ (y : ℕ). one_if (nat_eq key y)) n (firsts (n + 1) xs))
    (at_most_once key (n + 1) xs)
  where
    go : (b : Bool) → nat_eq key n ≡ b
        → count_by (nat_eq key) (n ∷ firsts (n + 1) xs)
        ≡ one_if (nat_eq key n) + count_by (nat_eq key) (firsts (n + 1) xs)
        → count_by (nat_eq key) (firsts (n + 1) xs) ≤ 1 → count_by (nat_eq key) (firsts n (x ∷ xs)) ≤ 1
    go true e split h =
        let here : one_if (nat_eq key n) ≡ 1 = ap one_if e in
        omega (arith, split, here, none_below key (n + 1) xs (omega (arith, eqb-true key n e)))
    go false e split h =
        let here : one_if (nat_eq key n) ≡ 0 = ap one_if e in
        omega (arith, split, here, h)

-- the places of objects are distinct keys
pub places_distinct : (inputs : List InputObject) (xs : List KeyedObject) (keys : List ℕ)
    → keyed.tables_of xs ≡ tables_of inputs → keys ≡ map (λ (x : KeyedObject). x.key.0) xs → AreKeysDistinct keys
places_distinct inputs xs keys same is =
    let all : keys ≡ map (λ (t : Table). t.0) (tables_of inputs) =
    is ∙ sym (map-map (λ (t : Table). t.0) table_of xs) ∙ ap (map (λ (t : Table). t.0)) same in
    subst AreKeysDistinct (sym all) (λ key. at_most_once key 0 (symbol_tables (shown_inputs inputs)))

-- the keys of the tables
pub keys_are : (inputs : List InputObject) (xs : List KeyedObject) (keys : List ℕ) → keys
    ≡ map (λ (x : KeyedObject). x.key.0) xs
    → map (λ (t : Table). t.0) (keyed.tables_of xs) ≡ keys
keys_are inputs xs keys is = map-map (λ (t : Table). t.0) table_of xs ∙ sym is

-- ---- the tables without their numbers

pub seconds : {X : Type 0} (n : ℕ) (xs : List X) → map (λ (t : ℕ × X). t.1) (enumerate_from n xs) ≡ xs
seconds n [] = refl
seconds n (x ∷ xs) = ap (λ (l : List _). x ∷ l) (seconds (n + 1) xs)
