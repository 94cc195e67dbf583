-- The names that symbol tables declare.
use Rattle.symres_decisions.proofs.Common.{AllByRecursion, Bool, Declaration, IsDistinct, IsListing, List, NamedSymbol}
use Rattle.symres_decisions.proofs.Common.{Option, [], all_uses, ap, bytes_eq, bytes_eq-Decides, cond, declaration}
use Rattle.symres_decisions.proofs.Common.{declarations_in, declarations_of, declared_in, declared_names, distinct}
use Rattle.symres_decisions.proofs.Common.{enumerate_from, false, filter, is_local, is_member, is_of_name, is_used}
use Rattle.symres_decisions.proofs.Common.{length, length-filter, length-map, map, map-append, nat_lt, not, refl, subst}
use Rattle.symres_decisions.proofs.Common.{sym, true, ℕ, ◌++◌, ◌+◌, ◌||◌, ◌∙◌, ◌∷◌, ◌≡◌, ◌≤◌}
use Rattle.symres_decisions.proofs.Distinct.{at_most}
use Rattle.symres_decisions.proofs.Listed.{Listed}

abbrev pub Table : Type 0
Table = ℕ × List NamedSymbol

-- the names of one table
table_names : (key n : ℕ) (ss : List NamedSymbol)
    → map (λ (d : Declaration). d.name) (filter (λ (d : Declaration). not (is_local d.symbol.binding))
    (map (declaration key) (enumerate_from n ss))) ≡ declared_in ss
table_names key n [] = refl
table_names key n (s ∷ ss) = go (not (is_local s.symbol.binding)) (table_names key (n + 1) ss)
  where
    go : (b : Bool)
        → map (λ (d : Declaration). d.name) (filter (λ (d : Declaration). not (is_local d.symbol.binding))
        (map (declaration key) (enumerate_from (n + 1) ss)))
        ≡ map (λ (s : NamedSymbol). s.name) (filter (λ (s : NamedSymbol). not (is_local s.symbol.binding)) ss)
        → map (λ (d : Declaration). d.name) (cond b (declaration key (n, s)
        ∷ filter (λ (d : Declaration). not (is_local d.symbol.binding))
        (map (declaration key) (enumerate_from (n + 1) ss)))
        (filter (λ (d : Declaration). not (is_local d.symbol.binding))
        (map (declaration key) (enumerate_from (n + 1) ss))))
        ≡ map (λ (s : NamedSymbol). s.name) (cond b (s
        ∷ filter (λ (s : NamedSymbol). not (is_local s.symbol.binding)) ss)
        (filter (λ (s : NamedSymbol). not (is_local s.symbol.binding)) ss))
    go true e = ap (λ (ns : List (List ℕ)). s.name ∷ ns) e
    go false e = e

-- those of all tables
pub names_declared : (tables : List Table)
    → map (λ (d : Declaration). d.name) (declarations_of tables) ≡ declared_names tables
unfolding declarations_of
names_declared [] = refl
names_declared (t ∷ ts) =
    map-append (λ (d : Declaration). d.name) (declarations_in t) (declarations_of ts)
    ∙ ap (λ (ns : List (List ℕ)). ns ++ map (λ (d : Declaration). d.name) (declarations_of ts))
    (table_names t.0 0 t.1)
    ∙ ap (λ (ns : List (List ℕ)). declared_in t.1 ++ ns) (names_declared ts)

-- a name with an entry among declarations is among their names
named_among : (q : List ℕ) (ds : List Declaration) → nat_lt 0 (length (filter (is_of_name q) ds)) ≡ true
    → is_member bytes_eq (map (λ (d : Declaration). d.name) ds) q ≡ true
named_among q [] h = absurd (cc)
named_among q (d ∷ ds) h = go (bytes_eq q d.name) refl h (named_among q ds)
  where
    go : (b : Bool) → bytes_eq q d.name ≡ b
        → nat_lt 0 (length (cond (bytes_eq q d.name) (d ∷ filter (is_of_name q) ds) (filter (is_of_name q) ds))) ≡ true
        → (nat_lt 0 (length (filter (is_of_name q) ds)) ≡ true
        → is_member bytes_eq (map (λ (d : Declaration). d.name) ds) q ≡ true)
        → (bytes_eq q d.name || is_member bytes_eq (map (λ (d : Declaration). d.name) ds) q) ≡ true
    go true e h f = ap (λ (b : Bool). b || is_member bytes_eq (map (λ (d : Declaration). d.name) ds) q) e
    go false e h f =
        ap (λ (b : Bool). b || is_member bytes_eq (map (λ (d : Declaration). d.name) ds) q) e
        ∙ f (ap (λ (b : Bool). nat_lt 0 (length (cond b (d ∷ filter (is_of_name q) ds) (filter (is_of_name q) ds))))
        (sym e)
        ∙ h)

pub used_declared : (tables : List Table) (q : List ℕ) → is_used tables q ≡ true
    → is_member bytes_eq (declared_names tables) q ≡ true
used_declared tables q h =
    subst (λ (ns : List (List ℕ)). is_member bytes_eq ns q ≡ true) (names_declared tables)
    (named_among q (declarations_of tables) h)

-- ---- how many listed names are used

apart_mapped : (x : Listed) (es : List Listed) → AllByRecursion (λ (y : Listed). bytes_eq x.0 y.0 ≡ false) es
    → AllByRecursion (λ (n : List ℕ). bytes_eq x.0 n ≡ false) (map (λ (e : Listed). e.0) es)
apart_mapped x [] a = a
apart_mapped x (e ∷ es) a = (a.0, apart_mapped x es a.1)

names_apart : (es : List Listed) → IsDistinct (λ (x y : Listed). bytes_eq x.0 y.0) es
    → IsDistinct bytes_eq (map (λ (e : Listed). e.0) es)
unfolding IsDistinct
names_apart [] d = d
names_apart (e ∷ es) d = (apart_mapped e es d.0, names_apart es d.1)

apart_filtered : {K : Type 0} (eq : K → K → Bool) (p : K → Bool) (x : K) (ks : List K)
    → AllByRecursion (λ y. eq x y ≡ false) ks → AllByRecursion (λ y. eq x y ≡ false) (filter p ks)
apart_filtered eq p x [] a = a
apart_filtered eq p x (k ∷ ks) a = go (p k) (apart_filtered eq p x ks a.1)
  where
    go : (b : Bool) → AllByRecursion (λ y. eq x y ≡ false) (filter p ks)
        → AllByRecursion (λ y. eq x y ≡ false) (cond b (k ∷ filter p ks) (filter p ks))
    go true h = (a.0, h)
    go false h = h

pub distinct_filtered : {K : Type 0} (eq : K → K → Bool) (p : K → Bool) (ks : List K) → IsDistinct eq ks
    → IsDistinct eq (filter p ks)
unfolding IsDistinct
distinct_filtered eq p [] d = d
distinct_filtered eq p (k ∷ ks) d = go (p k) (distinct_filtered eq p ks d.1) (apart_filtered eq p k ks d.0)
  where
    go : (b : Bool) → IsDistinct eq (filter p ks) → AllByRecursion (λ y. eq k y ≡ false) (filter p ks)
        → IsDistinct eq (cond b (k ∷ filter p ks) (filter p ks))
    go true h a = (a, h)
    go false h a = h

-- a name that was kept is used
kept_used : (tables : List Table) (q : List ℕ) (es : List Listed)
    → is_member bytes_eq (map (λ (e : Listed). e.0) (filter (λ (e : Listed). is_used tables e.0) es)) q ≡ true
    → is_used tables q ≡ true
kept_used tables q [] h = absurd (cc)
kept_used tables q (e ∷ es) h = go (is_used tables e.0) refl h (kept_used tables q es)
  where
    here : (b : Bool) → bytes_eq q e.0 ≡ b → is_used tables e.0 ≡ true
        → (b || is_member bytes_eq (map (λ (e : Listed). e.0) (filter (λ (e : Listed). is_used tables e.0) es)) q)
        ≡ true
        → (is_member bytes_eq (map (λ (e : Listed). e.0) (filter (λ (e : Listed). is_used tables e.0) es)) q ≡ true
        → is_used tables q ≡ true) → is_used tables q ≡ true
    here true same u h f = subst (λ (n : List ℕ). is_used tables n ≡ true) (sym ((bytes_eq-Decides q e.0).0 same)) u
    here false same u h f = f h

    go : (b : Bool) → is_used tables e.0 ≡ b
        → is_member bytes_eq (map (λ (e : Listed). e.0) (cond b (e ∷ filter (λ (e : Listed). is_used tables e.0) es)
        (filter (λ (e : Listed). is_used tables e.0) es))) q ≡ true
        → (is_member bytes_eq (map (λ (e : Listed). e.0) (filter (λ (e : Listed). is_used tables e.0) es)) q ≡ true
        → is_used tables q ≡ true) → is_used tables q ≡ true
    go true u h f = here (bytes_eq q e.0) refl u h f
    go false u h f = f h

-- the listed names that are used
abbrev pub used_names : List Table → List Listed → List (List ℕ)
used_names tables order = map (λ (e : Listed). e.0) (filter (λ (e : Listed). is_used tables e.0) order)

pub used_count : (tables : List Table) (order : List Listed) → length (used_names tables order) ≡ all_uses tables order
used_count tables order =
    let p : Listed → Bool = λ (e : Listed). is_used tables e.0 in
    length-map (filter p order) (λ (e : Listed). e.0) ∙ length-filter p order

-- each is declared, and listed once
pub uses_few : (names : List (Option (List ℕ))) (tables : List Table) (order : List Listed) → IsListing names order
    → length (used_names tables order) ≤ length (distinct (declared_names tables))
uses_few names tables order l =
    let p : Listed → Bool = λ (e : Listed). is_used tables e.0 in
    at_most (used_names tables order) (declared_names tables)
    (names_apart (filter p order) (distinct_filtered (λ (x y : Listed). bytes_eq x.0 y.0) p order l.once))
    (λ q m. used_declared tables q (kept_used tables q order m))
