-- Names that entered objects declare are known.
use Rattle.symres_decisions.proofs.Common.{Bool, Contains, Contains-append_left, Contains-append_right}
use Rattle.symres_decisions.proofs.Common.{Contains-from_lookup, Declaration, IsListing, IsNameAt, IsNamed, IsSeenAt}
use Rattle.symres_decisions.proofs.Common.{List, NamedSymbol, None, Option, Some, [], ap, arith, bytes_eq}
use Rattle.symres_decisions.proofs.Common.{bytes_eq-Decides, cond, declarations_of, declared_in, declared_names}
use Rattle.symres_decisions.proofs.Common.{entries_of, false, filter, get_or, get_or_default, inl, inr, is_local}
use Rattle.symres_decisions.proofs.Common.{is_of_name, is_used, length, lt-ltb, map, nat_lt, not, null_symbol, refl}
use Rattle.symres_decisions.proofs.Common.{subst, suc, sym, true, zero, ℕ, ⊎_elim, ◌<◌, ◌∙◌, ◌∷◌, ◌≡◌, ◌⊎◌}
use Rattle.std.specs.Map.{lookup}
use Rattle.symres_decisions.proofs.Declared.{Table, names_declared}
use Rattle.symres_decisions.proofs.Listed.{Listed}

same_bytes : (x y : List ℕ) → bytes_eq x y ≡ true → x ≡ y
same_bytes x y = (bytes_eq-Decides x y).0

none_some : (k : ℕ) → None ≡ Some k → ⊥
none_some k h = absurd (cc)

-- a name has a key, or it has none
pub known_or_not : (names : List (Option (List ℕ))) (order : List Listed) (name : List ℕ) → IsListing names order
    → ((k : ℕ) × IsNamed names k name) ⊎ ((k : ℕ) → IsNamed names k name → ⊥)
known_or_not names order name l = go (lookup (λ (x : List ℕ). bytes_eq name x) order) refl
  where
    go : (o : Option ℕ) → lookup (λ (x : List ℕ). bytes_eq name x) order ≡ o
        → ((k : ℕ) × IsNamed names k name) ⊎ ((k : ℕ) → IsNamed names k name → ⊥)
    go None e = inr (λ k n. none_some k (sym e ∙ l.complete k name n))
    go (Some k) e =
        let found = Contains-from_lookup {eq = bytes_eq} same_bytes name k order e in
        inl (
          k,
          subst (λ (x : Listed). IsNamed names x.1 x.0) found.2 (l.sound found.0 (name, k) found.1),
        )

-- a name among declarations has an entry
among : (q : List ℕ) (ds : List Declaration) → Contains (map (λ (d : Declaration). d.name) ds) q
    → filter (is_of_name q) ds ≡ [] → ⊥
among q [] c h = absurd (omega (arith, c.1))
among q (d ∷ ds) c h = at c.0 c.1 c.2 (bytes_eq q d.name) refl h (among q ds)
  where
    at : (k : ℕ) → k < length (map (λ (d : Declaration). d.name) (d ∷ ds))
        → get_or (map (λ (d : Declaration). d.name) (d ∷ ds)) k q ≡ q → (b : Bool) → bytes_eq q d.name ≡ b
        → cond b (d ∷ filter (is_of_name q) ds) (filter (is_of_name q) ds) ≡ []
        → (Contains (map (λ (d : Declaration). d.name) ds) q → filter (is_of_name q) ds ≡ [] → ⊥) → ⊥
    at k l e true same h f = absurd (cc)
    at zero l e false same h f =
        let is : bytes_eq q d.name ≡ true = (bytes_eq-Decides q d.name).1 (sym e) in absurd (cc)
    at (suc k) l e false same h f = f (k, omega (arith, l), e) h

pub declared_known : (names : List (Option (List ℕ))) (order : List Listed) (tables : List Table) (name : List ℕ)
    → IsListing names order
    → ((name : List ℕ) → ((k : ℕ) → IsNamed names k name → ⊥) → entries_of name tables ≡ [])
    → Contains (declared_names tables) name → (k : ℕ) × IsNamed names k name
declared_known names order tables name l unknown c =
    ⊎_elim (λ key. key)
    (λ no.
    absurd (among name (declarations_of tables)
    (subst (λ (ns : List (List ℕ)). Contains ns name) (sym (names_declared tables)) c) (unknown name no)))
    (known_or_not names order name l)

some_left : (ds : List Declaration) → (ds ≡ [] → ⊥) → nat_lt 0 (length ds) ≡ true
some_left [] h = absurd (h refl)
some_left (d ∷ ds) h = lt-ltb 0 (length (d ∷ ds)) (omega arith)

-- a declared name has an entry
pub declared_used : (tables : List Table) (name : List ℕ) → Contains (declared_names tables) name
    → is_used tables name ≡ true
declared_used tables name c =
    some_left (entries_of name tables)
    (among name (declarations_of tables)
    (subst (λ (ns : List (List ℕ)). Contains ns name) (sym (names_declared tables)) c))

-- ---- a symbol that other objects see

contains_later : (x q : List ℕ) (xs : List (List ℕ)) → Contains xs q → Contains (x ∷ xs) q
contains_later x q xs c = (suc c.0, omega (arith, c.1), c.2)

in_symbols : (ss : List NamedSymbol) (n : ℕ) (d : NamedSymbol) → n < length ss
    → is_local (get_or ss n d).symbol.binding ≡ false → Contains (declared_in ss) (get_or ss n d).name
in_symbols [] n d l seen = absurd (omega (arith, l))
in_symbols (s ∷ ss) zero d l seen =
    subst (λ (b : Bool).
    Contains (map (λ (s : NamedSymbol). s.name)
    (cond (not b) (s ∷ filter (λ (s : NamedSymbol). not (is_local s.symbol.binding)) ss)
    (filter (λ (s : NamedSymbol). not (is_local s.symbol.binding)) ss))) s.name) (sym seen)
    (0, omega arith, refl)
in_symbols (s ∷ ss) (suc n) d l seen =
    go (is_local s.symbol.binding) (in_symbols ss n d (omega (arith, l)) seen)
  where
    go : (b : Bool) → Contains (declared_in ss) (get_or ss n d).name
        → Contains (map (λ (s : NamedSymbol). s.name)
        (cond (not b) (s ∷ filter (λ (s : NamedSymbol). not (is_local s.symbol.binding)) ss)
        (filter (λ (s : NamedSymbol). not (is_local s.symbol.binding)) ss))) (get_or ss n d).name
    go true c = c
    go false c = contains_later s.name (get_or ss n d).name (declared_in ss) c

pub in_tables : (ts : List Table) (place : ℕ) (t : Table) (name : List ℕ) → place < length ts
    → Contains (declared_in (get_or ts place t).1) name → Contains (declared_names ts) name
in_tables [] place t name l c = absurd (omega (arith, l))
in_tables (x ∷ ts) zero t name l c = Contains-append_left (declared_in x.1) (declared_names ts) name c
in_tables (x ∷ ts) (suc place) t name l c =
    Contains-append_right (declared_in x.1) (declared_names ts) name (in_tables ts place t name (omega (arith, l)) c)

pub seen_known : (names : List (Option (List ℕ))) (order : List Listed) (tables : List Table) (place number : ℕ)
    → IsListing names order
    → ((name : List ℕ) → ((k : ℕ) → IsNamed names k name → ⊥) → entries_of name tables ≡ [])
    → IsSeenAt tables place number → (k : ℕ) × IsNameAt names tables place number k
seen_known names order tables place number l unknown h =
    let t0 : Table = (0, []) in
    let d0 : NamedSymbol = null_symbol in
    let key = declared_known names order tables (get_or (get_or tables place t0).1 number d0).name l unknown
    (in_tables tables place t0 (get_or (get_or tables place t0).1 number d0).name h.within
    (in_symbols (get_or tables place t0).1 number d0 (h.symbol t0) (h.seen t0 d0))) in (
      key.0,
      λ t d.
          let same : get_or (get_or tables place t0).1 number d0 ≡ get_or (get_or tables place t).1 number d =
          ap (λ (u : Table). get_or u.1 number d0) (get_or_default tables place t0 t h.within)
          ∙ get_or_default (get_or tables place t).1 number d0 d (h.symbol t) in
          subst (λ (x : NamedSymbol). IsNamed names key.0 x.name) same key.1,
    )
