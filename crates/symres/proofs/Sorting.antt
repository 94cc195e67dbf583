-- The names of a link in byte order.
use Rattle.symres.proofs.Common.{AreDistinct, AreSorted, Bool, Contains, DecisionsState, IsInByteOrder, IsListing}
use Rattle.symres.proofs.Common.{IsNamed, IsSymbolTable, List, NamedKey, NamedObject, Option, Project, Some}
use Rattle.symres.proofs.Common.{SymbolTableState, [], ap, arith, bytes_eq, bytes_eq-Decides, comes_before, false}
use Rattle.symres.proofs.Common.{get_or, get_or-map, length, length-map, map, map-map, named_number, refl, state_of}
use Rattle.symres.proofs.Common.{subst, suc, sym, symbol_tables, true, zero, ℕ, ◌+◌, ◌<◌, ◌∙◌, ◌∷◌, ◌≡◌}
use Rattle.std.specs.List.{All, AllByRecursion, IsDistinct}
use Rattle.std.specs.List.Sorted.{IsPermutation, IsSortedBy}
use Rattle.std.specs.Cmp.Lexicographic.{slice_cmp, nat_list_cmp_total}
use Rattle.std.specs.Ordering.{is_lt, is_eq, nat_cmp, ordering_reverse}
use Rattle.std.specs.declared.cmp.Ordering.{Ordering}
use Rattle.std.specs.declared.cmp.Ordering.TheVariants.{Less, Equal, Greater}
use Rattle.std.proofs.lemmas.List.MinMax.{ranks_by}
use Rattle.std.proofs.lemmas.List.Sorted.{All-permutation, Contains-permutation, sorted_far}
use Rattle.std.proofs.lemmas.Map.Keys.{IsDistinct-IsPermutation}
use Rattle.std.proofs.lemmas.Map.Text.{is_eq-slice_cmp}
use Rattle.std.proofs.lemmas.Map.Views.{Contains-from_lookup}
use Rattle.ldmodel.specs.Names.{names_in_objects}
use Rattle.ldmodel.specs.OutputSymbols.{is_before}
use Rattle.symres_decisions.specs.Counted.{declared_names}
use Rattle.symres.proofs.Entering.{Table}
use Rattle.symres.proofs.Placing.{same_tables}

abbrev pub Listed : Type 0
Listed = List ℕ × ℕ

-- the order of the sort
abbrev pub is_first : NamedKey → NamedKey → Bool
is_first x y = is_lt (slice_cmp nat_cmp x.name.now y.name.now)

-- ---- the order

each_of : {A : Type 0} (P : A → Type 0) (xs : List A) (j : ℕ) (d : A) → AllByRecursion P xs → j < length xs
    → P (get_or xs j d)
each_of P [] j d h l = absurd (omega (arith, l))
each_of P (x ∷ xs) zero d h l = h.0
each_of P (x ∷ xs) (suc j) d h l = each_of P xs j d h.1 (omega (arith, l))

apart : {A : Type 0} (e : A → A → Bool) (xs : List A) (i j : ℕ) (d : A) → IsDistinct e xs → i < j → j < length xs
    → e (get_or xs i d) (get_or xs j d) ≡ false
unfolding IsDistinct
apart e [] i j d h l m = absurd (omega (arith, m))
apart e (x ∷ xs) i zero d h l m = absurd (omega (arith, l))
apart e (x ∷ xs) zero (suc j) d h l m = each_of (λ y. e x y ≡ false) xs j d h.0 (omega (arith, m))
apart e (x ∷ xs) (suc i) (suc j) d h l m = apart e xs i j d h.1 (omega (arith, l)) (omega (arith, m))

less_from : (o p : Ordering) → p ≡ ordering_reverse o → is_eq o ≡ false → is_lt p ≡ false → is_lt o ≡ true
less_from Less p e n m = refl
less_from Equal p e n m = absurd (cc)
less_from Greater p e n m = absurd (cc)

before_from : (a b : List ℕ) → bytes_eq a b ≡ false → is_before b a ≡ false → is_before a b ≡ true
before_from a b n m =
    less_from (slice_cmp nat_cmp a b) (slice_cmp nat_cmp b a) (nat_list_cmp_total.antisymm b a)
    (is_eq-slice_cmp a b ∙ n) m

both_bools : (p q : Bool) → (p ≡ true → q ≡ true) → (q ≡ true → p ≡ true) → p ≡ q
both_bools true q f g = sym (f refl)
both_bools false true f g = g refl
both_bools false false f g = refl

bytes_eq_flips : (x y : List ℕ) → bytes_eq x y ≡ bytes_eq y x
bytes_eq_flips x y =
    both_bools (bytes_eq x y) (bytes_eq y x) (λ h. (bytes_eq-Decides y x).1 (sym ((bytes_eq-Decides x y).0 h)))
    (λ h. (bytes_eq-Decides x y).1 (sym ((bytes_eq-Decides y x).0 h)))

abbrev have_one_name : Listed → Listed → Bool
have_one_name x y = bytes_eq x.0 y.0

once_moved : (xs ys : List Listed) → IsPermutation xs ys → IsDistinct have_one_name xs → IsDistinct have_one_name ys
once_moved xs ys = IsDistinct-IsPermutation have_one_name (λ x y. bytes_eq_flips x.0 y.0) xs ys

-- names that differ, each not before the one that stands before it
in_order : (xs : List NamedKey) (i j : ℕ) (d : NamedKey) → IsSortedBy is_first xs
    → IsDistinct have_one_name (map named_number xs) → i < j → j < length xs
    → is_before (get_or xs i d).name.now (get_or xs j d).name.now ≡ true
in_order xs i j d up once l m =
    let first = get_or-map named_number xs i d (named_number d) (omega (arith, l, m)) in
    let second = get_or-map named_number xs j d (named_number d) m in
    before_from (get_or xs i d).name.now (get_or xs j d).name.now
    (subst (λ (e : Listed). bytes_eq (get_or xs i d).name.now e.0 ≡ false) second
    (subst (λ (e : Listed). bytes_eq e.0 (get_or (map named_number xs) j (named_number d)).0 ≡ false) first
    (apart have_one_name (map named_number xs) i j (named_number d) once l
    (subst (λ (n : ℕ). j < n) (sym (length-map xs named_number)) m))))
    (sorted_far is_first (ranks_by nat_list_cmp_total (λ (x : NamedKey). x.name.now)) xs up i j d (omega (arith, l)) m)

-- what stands in byte order need not be sorted
pub sorted_listed : (xs : List NamedKey) → IsInByteOrder (map named_number xs) → IsSortedBy is_first xs
sorted_listed xs s = λ k d l h.
    let len = length-map xs named_number in
    let within : k < length xs = omega (arith, h) in
    let second = get_or-map named_number xs (k + 1) d (named_number d) h in
    let first = get_or-map named_number xs k d (named_number d) within in
    sym (ap (λ (x : Listed). comes_before x (get_or (map named_number xs) k (named_number d))) second
    ∙ ap (λ (y : Listed). comes_before (named_number (get_or xs (k + 1) d)) y) first)
    ∙ s k (named_number d) l (omega (arith, h, len))

-- ---- the names

contains_map : {A B : Type 0} (f : A → B) (xs : List A) (x : A) → Contains xs x → Contains (map f xs) (f x)
contains_map f xs x c = (
  c.0,
  subst (λ (n : ℕ). c.0 < n) (sym (length-map xs f)) c.1,
  get_or-map f xs c.0 x (f x) c.1 ∙ ap f c.2,
)

name_listed : (xs : List NamedKey) (k : ℕ) (name : List ℕ) → Contains (map named_number xs) (name, k)
    → Contains (map (λ (x : NamedKey). x.name.now) xs) name
name_listed xs k name c =
    subst (λ (ns : List (List ℕ)). Contains ns name) (map-map (λ (e : Listed). e.0) named_number xs)
    (contains_map (λ (e : Listed). e.0) (map named_number xs) (name, k) c)

same_bytes : (x y : List ℕ) → bytes_eq x y ≡ true → x ≡ y
same_bytes x y = (bytes_eq-Decides x y).0

key_listed : (names : List (Option (List ℕ))) (order : List Listed) (k : ℕ) (name : List ℕ) → IsListing names order
    → IsNamed names k name → Contains order (name, k)
key_listed names order k name l h =
    Contains-from_lookup {eq = bytes_eq} same_bytes name k order (l.complete k name h)

-- ---- the declared names

pub declared_key : (p : Project) (d : DecisionsState) (order name : List ℕ)
    → ((objects : List NamedObject) (tables : List Table) → map (λ (t : Table). t.1) tables ≡ symbol_tables objects
    → declared_names tables ≡ names_in_objects objects)
    → (Contains (declared_names d.names.objects) name → (k : ℕ) × IsNamed d.names.names k name)
    → IsSymbolTable p (state_of d order) → Contains (names_in_objects p.objects) name
    → (k : ℕ) × IsNamed d.names.names k name
declared_key p d order name law known symbol_table c =
    known (subst (λ (ns : List (List ℕ)). Contains ns name)
    (sym (law p.objects d.names.objects (same_tables p d order symbol_table))) c)

-- ---- keys

some_one : (m n : ℕ) → Some m ≡ Some n → m ≡ n
some_one m n h = cc

pub differ : (names : List (Option (List ℕ))) (order : List (List ℕ × ℕ)) → IsListing names order → AreDistinct names
differ names order l m n name a b = some_one m n (sym (l.complete m name a) ∙ l.complete n name b)

-- ---- both

-- a list of the names in byte order has all that callers are told
pub are_sorted : (a : SymbolTableState) (order : List Listed) (sorted : List NamedKey)
    → ((p : Project) (name : List ℕ) → IsSymbolTable p a → Contains (names_in_objects p.objects) name
    → (k : ℕ) × IsNamed a.names k name)
    → IsListing a.names order → IsPermutation order (map named_number sorted)
    → IsInByteOrder (map named_number sorted) → AreSorted a sorted
are_sorted a order sorted known l moved up =
    let has : (k : ℕ) (name : List ℕ) → IsNamed a.names k name
    → Contains (map (λ (x : NamedKey). x.name.now) sorted) name =
    λ k name h.
    name_listed sorted k name
    (Contains-permutation order (map named_number sorted) (name, k) moved (key_listed a.names order k name l h)) in
    let once : IsDistinct have_one_name (map named_number sorted) =
    once_moved order (map named_number sorted) moved l.once in
    let named : All (λ (e : Listed). IsNamed a.names e.1 e.0) (map named_number sorted) =
    All-permutation (λ (e : Listed). IsNamed a.names e.1 e.0) order (map named_number sorted) moved l.sound in
    record {
      named = λ k d h.
          subst (λ (e : Listed). IsNamed a.names e.1 e.0) (get_or-map named_number sorted k d (named_number d) h)
          (named k (named_number d) (subst (λ (n : ℕ). k < n) (sym (length-map sorted named_number)) h));
      distinct = differ a.names order l;
      order = λ i j d below h. in_order sorted i j d (sorted_listed sorted up) once below h;
      keys = has;
      declared = λ p symbol_table name c. let named = known p name symbol_table c in has named.0 name named.1;
    }
