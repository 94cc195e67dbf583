-- The values of the symbols of objects, one object after another.
use Rattle.relink_driver.proofs.Common.{AreSymbolValues, AreValueSources, IsSymbolOf, KnownLink, Layout, List}
use Rattle.relink_driver.proofs.Common.{NamedObject, NamedSymbol, ObjectData, ObjectPlace, Project, Some, Symbol}
use Rattle.relink_driver.proofs.Common.{SymbolTableState, SymbolValues, ValueSources, [], ap, append_assoc, arith}
use Rattle.relink_driver.proofs.Common.{cases_lt, flat_map, get_or, get_or_from_slice_get, inl, inr, known_link, length}
use Rattle.relink_driver.proofs.Common.{length-append, length-map, map, map-append, named_object, option_map}
use Rattle.relink_driver.proofs.Common.{referenced_value, refl, same_Some, shown_input, shown_inputs, slice_get}
use Rattle.relink_driver.proofs.Common.{slice_get-map, slice_get_read, slice_get_within, slice_index_or, subst, suc}
use Rattle.relink_driver.proofs.Common.{sym, take, take_all, value_of, zero, ℕ, ◌++◌, ◌+◌, ◌<◌, ◌∙◌, ◌∷◌, ◌≡◌, ◌≤◌, ◌⊎◌}
use Rattle.ldmodel.specs.SymbolValues as model
use Rattle.ldmodel_project.specs.declared.input.InputObject.{InputObject}
use Rattle.emit.specs.relocate.declared.value.SymbolValue.{SymbolValue}
use Rattle.emit.specs.relocate.declared.value.SymbolValue.TheVariants.{NotDefined}

-- ---- lists

take_next : {X : Type 0} (xs : List X) (k : ℕ) (x : X) → slice_get xs k ≡ Some x
    → take (k + 1) xs ≡ take k xs ++ x ∷ []
take_next [] k x e = absurd (let none : ⊥ = cc in none)
take_next (y ∷ ys) zero x e = ap (λ z. z ∷ []) (same_Some _ _ e)
take_next (y ∷ ys) (suc k) x e =
    let more : suc k + 1 ≡ suc (k + 1) = omega arith in
    ap (λ n. take n (y ∷ ys)) more ∙ ap (λ l. y ∷ l) (take_next ys k x e)

flat_append : {X Y : Type 0} (f : X → List Y) (xs ys : List X) → flat_map f (xs ++ ys) ≡ flat_map f xs ++ flat_map f ys
flat_append f [] ys = refl
flat_append f (x ∷ xs) ys =
    ap (λ l. f x ++ l) (flat_append f xs ys) ∙ sym (append_assoc (f x) (flat_map f xs) (flat_map f ys))

append_nil : {X : Type 0} (xs : List X) → xs ++ [] ≡ xs
append_nil [] = refl
append_nil (x ∷ xs) = ap (λ l. x ∷ l) (append_nil xs)

flat_next : {X Y : Type 0} (f : X → List Y) (xs : List X) (k : ℕ) (x : X) → slice_get xs k ≡ Some x
    → flat_map f (take (k + 1) xs) ≡ flat_map f (take k xs) ++ f x
flat_next f xs k x e =
    ap (flat_map f) (take_next xs k x e) ∙ flat_append f (take k xs) (x ∷ [])
    ∙ ap (λ l. flat_map f (take k xs) ++ l) (append_nil (f x))

-- ---- of one object

-- the symbol of a number, as it was read
pub symbol_is : (symbols : List Symbol) (of : List NamedSymbol) (n : ℕ) (d : Symbol) (x : NamedSymbol)
    → symbols ≡ map (λ (s : NamedSymbol). s.symbol) of → slice_get of n ≡ Some x → get_or symbols n d ≡ x.symbol
symbol_is symbols of n d x are at =
    get_or_from_slice_get symbols n x.symbol d
    (ap (λ l. slice_get l n) are ∙ slice_get-map (λ (s : NamedSymbol). s.symbol) of n
    ∙ ap (option_map (λ (s : NamedSymbol). s.symbol)) at)

pub record ValuesSoFar (sources : ValueSources) (key : ObjectPlace) (object : ObjectData)
    (before : List SymbolValue) (n : ℕ) (values : List SymbolValue) : Type 0 where
  pub long : length values ≡ length before + n
  pub values_are : (l : KnownLink) (o : NamedObject) → AreValueSources l sources
      → named_object l key ≡ Some o → o.object ≡ object
      → map value_of values
      ≡ map value_of before ++ map (referenced_value l.project l.layout o) (take n o.object.symbols)

pub member_at : {X : Type 0} (xs : List X) (k : ℕ) → k < length xs → (x : X) × (slice_get xs k ≡ Some x)
member_at [] k l = absurd (omega (arith, l))
member_at (x ∷ xs) zero l = (x, refl)
member_at (x ∷ xs) (suc k) l = member_at xs k (omega (arith, l))

module _ (sources : ValueSources) (key : ObjectPlace) (object : ObjectData)
    (before : List SymbolValue) where
  pub no_values : (values : List SymbolValue) → values ≡ before → ValuesSoFar sources key object before 0 values
  no_values values e = record {
    long = omega (arith, ap length e);
    values_are = λ l o of there same. ap (map value_of) e ∙ sym (append_nil (map value_of before));
  }

  pub one_value_more : (n : ℕ) (values now : List SymbolValue) (v : SymbolValue) (symbols : List Symbol) (d : Symbol)
      → n < length symbols → symbols ≡ map (λ (s : NamedSymbol). s.symbol) object.symbols
      → ((l : KnownLink) → AreValueSources l sources → (o : NamedObject) (x : NamedSymbol)
      → IsSymbolOf l key (record { 0 = n }) (get_or symbols n d) o x
      → value_of v ≡ referenced_value l.project l.layout o x)
      → now ≡ values ++ v ∷ [] → ValuesSoFar sources key object before n values
      → ValuesSoFar sources key object before (n + 1) now
  one_value_more n values now v symbols d short are worth is so_far =
      subst (ValuesSoFar sources key object before (n + 1)) (sym is) (record {
        long = (let more = length-append values (v ∷ []) in omega (arith, more, so_far.long));
        values_are = each;
      })
    where
      each : (l : KnownLink) (o : NamedObject) → AreValueSources l sources
          → named_object l key ≡ Some o → o.object ≡ object
          → map value_of (values ++ v ∷ [])
          ≡ map value_of before ++ map (referenced_value l.project l.layout o) (take (n + 1) o.object.symbols)
      each l o of there same =
          let own : symbols ≡ map (λ (s : NamedSymbol). s.symbol) o.object.symbols =
          are ∙ ap (λ (b : ObjectData). map (λ (s : NamedSymbol). s.symbol) b.symbols) (sym same) in
          let long : length symbols ≡ length o.object.symbols =
          ap length own ∙ length-map o.object.symbols (λ (s : NamedSymbol). s.symbol) in
          let at = member_at o.object.symbols n (omega (arith, short, long)) in
          let symbol : get_or symbols n d ≡ (at.0).symbol =
          get_or_from_slice_get symbols n (at.0).symbol d
          (ap (λ l. slice_get l n) own ∙ slice_get-map (λ (s : NamedSymbol). s.symbol) o.object.symbols n
          ∙ ap (option_map (λ (s : NamedSymbol). s.symbol)) at.1) in
          let value = worth l of o at.0
          (record { object_is = there; entry_is = at.1; symbol_is = sym symbol }) in
          let given : NamedSymbol → model.SymbolValue = referenced_value l.project l.layout o in
          map-append value_of values (v ∷ [])
          ∙ ap (λ l. l ++ value_of v ∷ []) (so_far.values_are l o of there same)
          ∙ ap (λ w. (map value_of before ++ map given (take n o.object.symbols)) ++ w ∷ []) value
          ∙ append_assoc (map value_of before) (map given (take n o.object.symbols)) (given at.0 ∷ [])
          ∙ ap (λ l. map value_of before ++ l) (sym (map-append given (take n o.object.symbols) (at.0 ∷ [])))
          ∙ ap (λ l. map value_of before ++ map given l) (sym (take_next o.object.symbols n at.0 at.1))

  pub all_values : (n : ℕ) (values : List SymbolValue) (symbols : List Symbol)
      → symbols ≡ map (λ (s : NamedSymbol). s.symbol) object.symbols → length symbols ≤ n
      → ValuesSoFar sources key object before n values
      → (l : KnownLink) (o : NamedObject) → AreValueSources l sources → named_object l key ≡ Some o
      → o.object ≡ object
      → map value_of values ≡ map value_of before ++ map (referenced_value l.project l.layout o) o.object.symbols
  all_values n values symbols are past so_far l o of there same =
      let long : length symbols ≡ length object.symbols =
      ap length are ∙ length-map object.symbols (λ (s : NamedSymbol). s.symbol) in
      let own : length o.object.symbols ≡ length object.symbols =
      ap (λ (b : ObjectData). length b.symbols) same in
      so_far.values_are l o of there same
      ∙ ap (λ l'. map value_of before ++ map (referenced_value l.project l.layout o) l')
      (take_all n o.object.symbols (omega (arith, past, long, own)))

-- ---- of all objects

-- how many symbols objects have
pub total : List NamedObject → ℕ
total [] = 0
total (o ∷ os) = length o.object.symbols + total os

total_append : (xs ys : List NamedObject) → total (xs ++ ys) ≡ total xs + total ys
unfolding total
total_append [] ys = omega arith
total_append (x ∷ xs) ys = omega (arith, total_append xs ys)

pub total_next : (xs : List NamedObject) (k : ℕ) (o : NamedObject) → slice_get xs k ≡ Some o
    → total (take (k + 1) xs) ≡ total (take k xs) + length o.object.symbols
unfolding total
total_next xs k o e =
    let one = total_append (take k xs) (o ∷ []) in
    let same = ap total (take_next xs k o e) in
    omega (arith, one, same)

abbrev pub values_in : Project → Layout → NamedObject → List model.SymbolValue
values_in p s o = map (referenced_value p s o) o.object.symbols

-- the values of the symbols of the objects before one, and where those of each begin
pub record TableSoFar (p : Project) (sources : ValueSources) (objects : List NamedObject) (n : ℕ)
    (starts : List ℕ) (values : List SymbolValue) : Type 0 where
  pub many : length starts ≡ n
  pub begun : (i : ℕ) → i < n → slice_index_or starts i 0 ≡ total (take i objects)
  pub long : length values ≡ total (take n objects)
  pub values_are : (s : Layout) (a : SymbolTableState) → AreValueSources (known_link p s a) sources
      → objects ≡ p.objects
      → map value_of values ≡ flat_map (values_in p s) (take n objects)

index_before : (xs : List ℕ) (y k : ℕ) → k < length xs → slice_index_or (xs ++ y ∷ []) k 0 ≡ slice_index_or xs k 0
index_before [] y k l = absurd (omega (arith, l))
index_before (x ∷ xs) y zero l = refl
index_before (x ∷ xs) y (suc k) l = index_before xs y k (omega (arith, l))

index_last : (xs : List ℕ) (y k : ℕ) → k ≡ length xs → slice_index_or (xs ++ y ∷ []) k 0 ≡ y
index_last [] y zero e = refl
index_last [] y (suc k) e = absurd (omega (arith, e))
index_last (x ∷ xs) y zero e = absurd (omega (arith, e))
index_last (x ∷ xs) y (suc k) e = index_last xs y k (omega (arith, e))

-- the value of a symbol of an object is where that of its number is, counted from the object's first
value_at_total : {V : Type 0} (f : NamedObject → NamedSymbol → V) (objects : List NamedObject) (i j : ℕ)
    (o : NamedObject) (x : NamedSymbol) → slice_get objects i ≡ Some o → slice_get o.object.symbols j ≡ Some x
    → slice_get (flat_map (λ (v : NamedObject). map (f v) v.object.symbols) objects) (total (take i objects) + j)
    ≡ Some (f o x)
unfolding total
value_at_total f [] i j o x e g = absurd (let none : ⊥ = cc in none)
value_at_total {V} f (v ∷ vs) zero j o x e g =
    let is : v ≡ o = same_Some _ _ e in
    let first : total (take 0 (v ∷ vs)) + j ≡ j = omega arith in
    ap (slice_get (map (f v) v.object.symbols ++ flat_map (λ (w : NamedObject). map (f w) w.object.symbols) vs)) first
    ∙ get_left (map (f v) v.object.symbols) (flat_map (λ (w : NamedObject). map (f w) w.object.symbols) vs) j (f o x)
    (slice_get-map (f v) v.object.symbols j
    ∙ ap (λ (w : NamedObject). option_map (f w) (slice_get w.object.symbols j)) is ∙ ap (option_map (f o)) g)
  where
    get_left : (xs ys : List V) (k : ℕ) (y : V) → slice_get xs k ≡ Some y → slice_get (xs ++ ys) k ≡ Some y
    get_left [] ys k y e = absurd (let none : ⊥ = cc in none)
    get_left (w ∷ ws) ys zero y e = e
    get_left (w ∷ ws) ys (suc k) y e = get_left ws ys k y e
value_at_total {V} f (v ∷ vs) (suc i) j o x e g =
    let rest : List V = flat_map (λ (w : NamedObject). map (f w) w.object.symbols) vs in
    let long : length (map (f v) v.object.symbols) ≡ length v.object.symbols = length-map v.object.symbols (f v) in
    let at : (length v.object.symbols + total (take i vs)) + j
    ≡ length (map (f v) v.object.symbols) + (total (take i vs) + j) = omega (arith, long) in
    ap (slice_get (map (f v) v.object.symbols ++ rest)) at
    ∙ get_right (map (f v) v.object.symbols) rest (total (take i vs) + j) ∙ value_at_total f vs i j o x e g
  where
    get_right : (xs ys : List V) (k : ℕ) → slice_get (xs ++ ys) (length xs + k) ≡ slice_get ys k
    get_right [] ys k = let e : 0 + k ≡ k = omega arith in ap (slice_get ys) e
    get_right (w ∷ ws) ys k =
        let e : suc (length ws) + k ≡ suc (length ws + k) = omega arith in
        ap (slice_get (w ∷ (ws ++ ys))) e ∙ get_right ws ys k

value_found : (xs : List SymbolValue) (k : ℕ) (v : model.SymbolValue) → slice_get (map value_of xs) k ≡ Some v
    → value_of (slice_index_or xs k NotDefined) ≡ v
value_found [] k v e = absurd (let none : ⊥ = cc in none)
value_found (x ∷ xs) zero v e = same_Some _ _ e
value_found (x ∷ xs) (suc k) v e = value_found xs k v e

module _ (p : Project) (sources : ValueSources) (inputs : List InputObject) where
  pub empty_table : TableSoFar p sources (shown_inputs inputs) 0 [] []
  unfolding total
  empty_table = record {
    many = refl;
    begun = λ i l. absurd (omega (arith, l));
    long = refl;
    values_are = λ s a of same. refl;
  }

  pub one_object_more : (n : ℕ) (starts now_starts : List ℕ) (values now : List SymbolValue) (input : InputObject)
      → n < length inputs → input ≡ get_or inputs n input → now_starts ≡ starts ++ length values ∷ []
      → length now ≡ length values + length (input.object.now).symbols
      → ((l : KnownLink) (o : NamedObject) → AreValueSources l sources
      → named_object l (record { 0 = n }) ≡ Some o → o.object ≡ input.object.now
      → map value_of now ≡ map value_of values ++ map (referenced_value l.project l.layout o) o.object.symbols)
      → TableSoFar p sources (shown_inputs inputs) n starts values
      → TableSoFar p sources (shown_inputs inputs) (n + 1) now_starts now
  one_object_more n starts now_starts values now input short own begins long worth so_far =
      subst (λ (l : List ℕ). TableSoFar p sources (shown_inputs inputs) (n + 1) l now) (sym begins) (record {
        many = (let more = length-append starts (length values ∷ []) in omega (arith, more, so_far.many));
        begun = begun;
        long = (let next = total_next (shown_inputs inputs) n (shown_input input) at in
            omega (arith, long, so_far.long, next));
        values_are = values_are;
      })
    where
      at : slice_get (shown_inputs inputs) n ≡ Some (shown_input input)
      at =
          slice_get-map shown_input inputs n
          ∙ ap (option_map shown_input) (slice_get_read inputs (length inputs) n input refl short own)

      begun : (i : ℕ) → i < n + 1
          → slice_index_or (starts ++ length values ∷ []) i 0 ≡ total (take i (shown_inputs inputs))
      begun i l = go (cases_lt i n)
        where
          go : (i < n) ⊎ (n ≤ i)
              → slice_index_or (starts ++ length values ∷ []) i 0 ≡ total (take i (shown_inputs inputs))
          go (inl h) = index_before starts (length values) i (omega (arith, h, so_far.many)) ∙ so_far.begun i h
          go (inr h) =
              let same : n ≡ i = omega (arith, l, h) in
              index_last starts (length values) i (omega (arith, same, so_far.many)) ∙ so_far.long
              ∙ ap (λ k. total (take k (shown_inputs inputs))) same

      values_are : (s : Layout) (a : SymbolTableState) → AreValueSources (known_link p s a) sources
          → shown_inputs inputs ≡ p.objects
          → map value_of now ≡ flat_map (values_in p s) (take (n + 1) (shown_inputs inputs))
      values_are s a of same =
          worth (known_link p s a) (shown_input input) of (ap (λ l. slice_get l n) (sym same) ∙ at) refl
          ∙ ap (λ l. l ++ values_in p s (shown_input input)) (so_far.values_are s a of same)
          ∙ sym (flat_next (values_in p s) (shown_inputs inputs) n (shown_input input) at)

  pub whole_table : (n : ℕ) (t : SymbolValues) → length inputs ≤ n → shown_inputs inputs ≡ p.objects
      → TableSoFar p sources (shown_inputs inputs) n t.starts.items t.values.items
      → (s : Layout) (a : SymbolTableState) → AreValueSources (known_link p s a) sources
      → AreSymbolValues p s t
  whole_table n t past same so_far s a of i j o x at there =
      value_found t.values.items (slice_index_or t.starts.items i 0 + j) (referenced_value p s o x)
      (ap (λ k. slice_get (map value_of t.values.items) (k + j)) begins
      ∙ ap (λ l. slice_get l (total (take i p.objects) + j)) values
      ∙ value_at_total (referenced_value p s) p.objects i j o x at there)
    where
      many : length inputs ≡ length p.objects
      many = sym (length-map inputs shown_input) ∙ ap length same

      begins : slice_index_or t.starts.items i 0 ≡ total (take i p.objects)
      begins =
          so_far.begun i (omega (arith, slice_get_within p.objects i o at, many, past))
          ∙ ap (λ l. total (take i l)) same

      values : map value_of t.values.items ≡ flat_map (values_in p s) p.objects
      values =
          so_far.values_are s a of same ∙ ap (λ l. flat_map (values_in p s) (take n l)) same
          ∙ ap (flat_map (values_in p s)) (take_all n p.objects (omega (arith, many, past)))
