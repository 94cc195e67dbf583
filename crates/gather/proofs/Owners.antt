-- The owner of a common block is the entry of a common symbol that isn't local.
use Rattle.gather.proofs.Common.{All, All-filter, All-head, All-map, Bool, Common, Decision, Duplicate, Entry, List}
use Rattle.gather.proofs.Common.{NamedObject, NamedSymbol, None, Option, Project, Provided, Script, Some, Strong}
use Rattle.gather.proofs.Common.{Undefined, Weak, [], ap, cond, decision, enumerate_from, false, filter, filter_passes}
use Rattle.gather.proofs.Common.{get_or, is_common_place, is_local, not, not-true, option_and_then, refl, same_Some}
use Rattle.gather.proofs.Common.{slice_get, slice_get-map, subst, sym, symbol_at, symbol_tables, true, ℕ, ◌∙◌, ◌∷◌, ◌≡◌}
use Rattle.ldmodel.specs.Names.{Declaration, all_entries, decided, declaration, declarations, declarations_in}
use Rattle.ldmodel.specs.Names.{declarations_of, entries, for_first, is_common, is_of_name}
use Rattle.gather.proofs.Lists.{all_flat_map, all_numbered}

module _ (owner : Entry) (size al : ℕ) where
  not_this : (b : Bool) (x other : Decision) → (x ≡ Common owner size al → ⊥)
      → cond b x other ≡ Common owner size al → other ≡ Common owner size al
  not_this true x other never e = absurd (never e)
  not_this false x other never e = e

  past : (ds : List Declaration) (here : Entry → Decision) (other : Decision)
      → ((e : Entry) → here e ≡ Common owner size al → ⊥) → for_first ds here other ≡ Common owner size al
      → other ≡ Common owner size al
  past [] here other never e = e
  past (d ∷ ds) here other never e = absurd (never d.entry e)

  first_common : (P : Declaration → Type 0) (ds : List Declaration) (m n : ℕ) (other : Decision) → All P ds
      → (other ≡ Common owner size al → ⊥)
      → for_first ds (λ e. Common e m n) other ≡ Common owner size al → (d : Declaration) × P d × (d.entry ≡ owner)
  first_common P [] m n other all never e = absurd (never e)
  first_common P (d ∷ ds) m n other all never e = (d, All-head P d ds all, cc)

  weak_is_not : (e : Entry) → Weak e ≡ Common owner size al → ⊥
  weak_is_not e h = cc

  strong_is_not : (e : Entry) → Strong e ≡ Common owner size al → ⊥
  strong_is_not e h = cc

  script_is_not : Script ≡ Common owner size al → ⊥
  script_is_not h = cc

  duplicate_is_not : Duplicate ≡ Common owner size al → ⊥
  duplicate_is_not h = cc

  none_is_not : (b : Bool) → cond b Provided Undefined ≡ Common owner size al → ⊥
  none_is_not true h = cc
  none_is_not false h = cc

  -- the owner of a decided block is the entry of one of the declarations, a common one
  pub owner_of : (P : Declaration → Type 0) (a b : Bool) (ds : List Declaration) → All P ds
      → decided a b ds ≡ Common owner size al
      → (d : Declaration) × (P d × (is_common d ≡ true)) × (d.entry ≡ owner)
  unfolding decided
  owner_of P a b ds all h =
      first_common (λ (d : Declaration). P d × (is_common d ≡ true)) (filter is_common ds) _ _ _
      (λ k d low. (All-filter is_common P ds all k d low, filter_passes is_common ds k d low))
      (λ e. none_is_not _ (past _ Weak _ weak_is_not e))
      (not_this a Script _ script_is_not
      (past _ Strong _ strong_is_not
      (not_this _ Duplicate _ duplicate_is_not h)))

-- an entry is that of a common symbol that isn't local
pub record IsDeclared (p : Project) (entry : Entry) : Type 0 where
  pub symbol : NamedSymbol
  pub at : symbol_at p entry.object entry.symbol ≡ Some symbol
  pub seen : is_local symbol.symbol.binding ≡ false
  pub common : is_common_place symbol.symbol.place ≡ true

-- a declaration is made by a symbol of its object
record Declares (p : Project) (d : Declaration) : Type 0 where
  symbol : NamedSymbol
  at : symbol_at p d.entry.object d.entry.symbol ≡ Some symbol
  is : symbol.symbol ≡ d.symbol
  seen : is_local d.symbol.binding ≡ false

pub symbol_in : (p : Project) (i n : ℕ) (o : NamedObject) → slice_get p.objects i ≡ Some o → symbol_at p i n
    ≡ slice_get o.object.symbols n
symbol_in p i n o e = ap (λ m. option_and_then (λ (o : NamedObject). slice_get o.object.symbols n) m) e

record IsSymbolOf (p : Project) (d : Declaration) : Type 0 where
  symbol : NamedSymbol
  at : symbol_at p d.entry.object d.entry.symbol ≡ Some symbol
  is : symbol.symbol ≡ d.symbol

in_table : (p : Project) (i : ℕ) (o : NamedObject) → slice_get p.objects i ≡ Some o
    → All (Declares p) (declarations_in (i, o.object.symbols))
in_table p i o e = λ k d low.
    let same : IsSymbolOf p (get_or (declarations_in (i, o.object.symbols)) k d) = kept k d low in
    record {
      symbol = same.symbol;
      at = same.at;
      is = same.is;
      seen = not-true _ (filter_passes (λ (d : Declaration). not (is_local d.symbol.binding))
          (all_entries (i, o.object.symbols)) k d low);
    }
  where
    kept : All (IsSymbolOf p) (declarations_in (i, o.object.symbols))
    kept = All-filter (λ (d : Declaration). not (is_local d.symbol.binding)) (IsSymbolOf p)
        (all_entries (i, o.object.symbols))
        (All-map (IsSymbolOf p) (declaration i) (enumerate_from 0 o.object.symbols)
        (all_numbered (λ x. IsSymbolOf p (declaration i x)) o.object.symbols
        (λ n x at. record { symbol = x; at = symbol_in p i n o e ∙ at; is = refl })))

all_declared : (p : Project) → All (Declares p) (declarations p.objects)
unfolding declarations_of
all_declared p =
    all_flat_map (Declares p) declarations_in (enumerate_from 0 (symbol_tables p.objects))
    (all_numbered (λ t. All (Declares p) (declarations_in t)) (symbol_tables p.objects) (λ n ss e. of_table n ss e))
  where
    of_table : (n : ℕ) (ss : List NamedSymbol) → slice_get (symbol_tables p.objects) n ≡ Some ss
        → All (Declares p) (declarations_in (n, ss))
    of_table n ss e = go (slice_get p.objects n) refl (sym (slice_get-map (λ (o : NamedObject). o.object.symbols)
        p.objects n) ∙ e)
      where
        go : (m : Option NamedObject) → slice_get p.objects n ≡ m
            → Rattle.std.specs.Option.option_map (λ (o : NamedObject). o.object.symbols) m ≡ Some ss
            → All (Declares p) (declarations_in (n, ss))
        go None is h = absurd (cc)
        go (Some o) is h =
            subst (λ (l : List NamedSymbol). All (Declares p) (declarations_in (n, l)))
            (same_Some o.object.symbols ss h) (in_table p n o is)

pub owner_is : (p : Project) (name : List ℕ) (owner : Entry) (size al : ℕ) → decision p name ≡ Common owner size al
    → IsDeclared p owner
unfolding decision
owner_is p name owner size al h =
    let all : All (Declares p) (entries p.objects name) =
    All-filter (is_of_name name) (Declares p) (declarations p.objects) (all_declared p) in
    let found = owner_of owner size al (Declares p) _ _ (entries p.objects name) all h in
    let own : Declares p found.0 = found.1.0 in
    subst (IsDeclared p) found.2 (record {
      symbol = own.symbol;
      at = own.at;
      seen = ap (λ x. is_local x.binding) own.is ∙ own.seen;
      common = ap (λ x. is_common_place x.place) own.is ∙ found.1.1;
    })
