-- The entries of names that a change does not touch, and the cases after it.
use Rattle.symres_decisions.proofs.Common.{All, All-head, All-tail, AreCases, AreDone, Bool, CanGo, Case, Declaration}
use Rattle.symres_decisions.proofs.Common.{HasCase, HasName, IsCase, IsCleared, KeepsCases, List, NamedSymbol, None}
use Rattle.symres_decisions.proofs.Common.{ObjectAt, ObjectKey, Option, Some, State, Statement, Table, [], ap, bytes_eq}
use Rattle.symres_decisions.proofs.Common.{case_at, cases_lt, cond, decided, declaration, declarations_in}
use Rattle.symres_decisions.proofs.Common.{declarations_of, declared_in, declares, drop, entries_of, enumerate_from}
use Rattle.symres_decisions.proofs.Common.{eqb, false, filter, filter-append, get_or_past, insert, is_assigned}
use Rattle.symres_decisions.proofs.Common.{is_local, is_member, is_of_name, is_provided, length, map, not, put_in, refl}
use Rattle.symres_decisions.proofs.Common.{slot, sym, symbols_at, symbols_or, take, take-append-drop, taken_out}
use Rattle.symres_decisions.proofs.Common.{touches, true, without, ℕ, ⊎_elim, ◌++◌, ◌+◌, ◌<◌, ◌||◌, ◌∙◌, ◌∷◌, ◌≡◌}
use Rattle.std.proofs.lemmas.List.Concat.{flat_map-append}
use Rattle.symres_decisions.proofs.Distinct.{member_append}
use Rattle.symres_decisions.proofs.Tables.{only_there}

-- ---- entries

abbrev own_of : List ℕ → ℕ → ℕ → List NamedSymbol → List Declaration
own_of name key n ss =
    filter (is_of_name name) (filter (λ (d : Declaration). not (is_local d.symbol.binding))
    (map (declaration key) (enumerate_from n ss)))

none_own : (name : List ℕ) (key n : ℕ) (ss : List NamedSymbol) → is_member bytes_eq (declared_in ss) name ≡ false
    → own_of name key n ss ≡ []
none_own name key n [] h = refl
none_own name key n (s ∷ ss) h =
    local_or (is_local s.symbol.binding) refl h (none_own name key (n + 1) ss)
  where
    same_or : (b : Bool) → bytes_eq name s.name ≡ b
        → (bytes_eq name s.name || is_member bytes_eq (declared_in ss) name) ≡ false
        → (is_member bytes_eq (declared_in ss) name ≡ false → own_of name key (n + 1) ss ≡ [])
        → cond (bytes_eq name s.name) (declaration key (n, s) ∷ own_of name key (n + 1) ss) (own_of name key (n + 1) ss)
        ≡ []
    same_or true e h f =
        let yes : (bytes_eq name s.name || is_member bytes_eq (declared_in ss) name) ≡ true =
        ap (λ (b : Bool). b || is_member bytes_eq (declared_in ss) name) e in
        absurd (cc)
    same_or false e h f =
        ap (λ (b : Bool).
        cond b (declaration key (n, s) ∷ own_of name key (n + 1) ss) (own_of name key (n + 1) ss)) e
        ∙ f (sym (ap (λ (b : Bool). b || is_member bytes_eq (declared_in ss) name) e) ∙ h)

    local_or : (b : Bool) → is_local s.symbol.binding ≡ b
        → is_member bytes_eq (map (λ (s : NamedSymbol). s.name) (cond (not (is_local s.symbol.binding)) (s
        ∷ filter (λ (s : NamedSymbol). not (is_local s.symbol.binding)) ss)
        (filter (λ (s : NamedSymbol). not (is_local s.symbol.binding)) ss))) name ≡ false
        → (is_member bytes_eq (declared_in ss) name ≡ false → own_of name key (n + 1) ss ≡ [])
        → filter (is_of_name name) (cond (not (is_local s.symbol.binding)) (declaration key (n, s)
        ∷ filter (λ (d : Declaration). not (is_local d.symbol.binding))
        (map (declaration key) (enumerate_from (n + 1) ss)))
        (filter (λ (d : Declaration). not (is_local d.symbol.binding))
        (map (declaration key) (enumerate_from (n + 1) ss))))
        ≡ []
    local_or true e h f =
        ap (λ (b : Bool). filter (is_of_name name) (cond (not b) (declaration key (n, s)
        ∷ filter (λ (d : Declaration). not (is_local d.symbol.binding))
        (map (declaration key) (enumerate_from (n + 1) ss)))
        (filter (λ (d : Declaration). not (is_local d.symbol.binding))
        (map (declaration key) (enumerate_from (n + 1) ss))))) e
        ∙ f (sym (ap (λ (b : Bool). is_member bytes_eq (map (λ (s : NamedSymbol). s.name) (cond (not b) (s
        ∷ filter (λ (s : NamedSymbol). not (is_local s.symbol.binding)) ss)
        (filter (λ (s : NamedSymbol). not (is_local s.symbol.binding)) ss))) name) e) ∙ h)
    local_or false e h f =
        ap (λ (b : Bool). filter (is_of_name name) (cond (not b) (declaration key (n, s)
        ∷ filter (λ (d : Declaration). not (is_local d.symbol.binding))
        (map (declaration key) (enumerate_from (n + 1) ss)))
        (filter (λ (d : Declaration). not (is_local d.symbol.binding))
        (map (declaration key) (enumerate_from (n + 1) ss))))) e
        ∙ same_or (bytes_eq name s.name) refl
        (sym (ap (λ (b : Bool). is_member bytes_eq (map (λ (s : NamedSymbol). s.name) (cond (not b) (s
        ∷ filter (λ (s : NamedSymbol). not (is_local s.symbol.binding)) ss)
        (filter (λ (s : NamedSymbol). not (is_local s.symbol.binding)) ss))) name) e) ∙ h) f

none_declared : (name : List ℕ) (t : Table) → declares t.1 name ≡ false
    → filter (is_of_name name) (declarations_in t) ≡ []
none_declared name t h = none_own name t.0 0 t.1 h

entries_cons : (name : List ℕ) (t : Table) (ts : List Table)
    → entries_of name (t ∷ ts) ≡ filter (is_of_name name) (declarations_in t) ++ entries_of name ts
unfolding declarations_of
entries_cons name t ts = filter-append (is_of_name name) (declarations_in t) (declarations_of ts)

entries_append : (name : List ℕ) (xs ys : List Table) → entries_of name (xs ++ ys)
    ≡ entries_of name xs ++ entries_of name ys
unfolding declarations_of
entries_append name xs ys =
    ap (filter (is_of_name name)) (flat_map-append declarations_in xs ys)
    ∙ filter-append (is_of_name name) (declarations_of xs) (declarations_of ys)

-- a table that does not declare the name
entries_skip : (name : List ℕ) (t : Table) (ts : List Table) → declares t.1 name ≡ false
    → entries_of name (t ∷ ts) ≡ entries_of name ts
entries_skip name t ts h =
    entries_cons name t ts ∙ ap (λ (ds : List Declaration). ds ++ entries_of name ts) (none_declared name t h)

entries_put : (name : List ℕ) (at : ℕ) (t : Table) (ts : List Table) → declares t.1 name ≡ false
    → entries_of name (insert ts at t) ≡ entries_of name ts
entries_put name at t ts h =
    entries_append name (take at ts) (t ∷ drop at ts)
    ∙ ap (λ (ds : List Declaration). entries_of name (take at ts) ++ ds) (entries_skip name t (drop at ts) h)
    ∙ sym (entries_append name (take at ts) (drop at ts)) ∙ ap (entries_of name) (take-append-drop at ts)

entries_without : (name : List ℕ) (key : ℕ) (ts : List Table)
    → All (λ (t : Table). eqb t.0 key ≡ true → declares t.1 name ≡ false) ts
    → entries_of name (without key ts) ≡ entries_of name ts
entries_without name key [] h = refl
entries_without name key (t ∷ ts) h =
    go (eqb t.0 key) refl (All-head (λ (t : Table). eqb t.0 key ≡ true → declares t.1 name ≡ false) t ts h)
    (entries_without name key ts (All-tail (λ (t : Table). eqb t.0 key ≡ true → declares t.1 name ≡ false) t ts h))
  where
    go : (b : Bool) → eqb t.0 key ≡ b → (eqb t.0 key ≡ true → declares t.1 name ≡ false)
        → entries_of name (without key ts) ≡ entries_of name ts
        → entries_of name (cond (not (eqb t.0 key)) (t ∷ without key ts) (without key ts)) ≡ entries_of name (t ∷ ts)
    go true e f r =
        ap (λ (b : Bool). entries_of name (cond (not b) (t ∷ without key ts) (without key ts))) e ∙ r
        ∙ sym (entries_skip name t ts (f e))
    go false e f r =
        ap (λ (b : Bool). entries_of name (cond (not b) (t ∷ without key ts) (without key ts))) e
        ∙ entries_cons name t (without key ts)
        ∙ ap (λ (ds : List Declaration). filter (is_of_name name) (declarations_in t) ++ ds) r
        ∙ sym (entries_cons name t ts)

-- the name has the same entries where neither what goes nor what comes declares it
entries_out : (name : List ℕ) (key : ℕ) (out : Option ObjectAt) (ts : List Table) → CanGo ts key out
    → declares (symbols_or out) name ≡ false → entries_of name (taken_out ts key out) ≡ entries_of name ts
entries_out name key None ts g h = refl
entries_out name key (Some x) ts g h =
    entries_without name key ts (λ j t l e.
    ap (λ (u : Table). declares u.1 name) (only_there key j x ts t g l e) ∙ h)

entries_in : (name : List ℕ) (key : ℕ) (into : Option ObjectAt) (ts : List Table)
    → declares (symbols_or into) name ≡ false → entries_of name (put_in ts key into) ≡ entries_of name ts
entries_in name key None ts h = refl
entries_in name key (Some x) ts h = entries_put name x.place (key, symbols_at x) ts h

pub entries_same : (name : List ℕ) (key : ℕ) (out into : Option ObjectAt) (ts : List Table) → CanGo ts key out
    → declares (symbols_or out) name ≡ false → declares (symbols_or into) name ≡ false
    → entries_of name (put_in (taken_out ts key out) key into) ≡ entries_of name ts
entries_same name key out into ts g h i =
    entries_in name key into (taken_out ts key out) i ∙ entries_out name key out ts g h

-- ---- the cases

some_none : (c : Case ObjectKey) → None ≡ Some c → ⊥
some_none c h = absurd (cc)

-- a case that was not cleared
pub record Untouched (names : List (Option (List ℕ))) (symbols : List NamedSymbol)
    (old : List (Option (Case ObjectKey))) (k : ℕ)
    (c : Case ObjectKey) : Type 0 where
  pub out : touches symbols (slot names k) ≡ false
  pub was : case_at old k ≡ Some c

untouched : (names : List (Option (List ℕ))) (symbols : List NamedSymbol) (old new : List (Option (Case ObjectKey)))
    (k : ℕ)
    (c : Case ObjectKey)
    → IsCleared names symbols old new → case_at new k ≡ Some c → Untouched names symbols old k c
untouched names symbols old new k c h at = go (touches symbols (slot names k)) refl (sym (h.at k) ∙ at)
  where
    go : (b : Bool) → touches symbols (slot names k) ≡ b
        → cond (touches symbols (slot names k)) None (case_at old k) ≡ Some c → Untouched names symbols old k c
    go true e q = absurd (some_none c (sym (ap (λ (b : Bool). cond b None (case_at old k)) e) ∙ q))
    go false e q = record {
      out = e;
      was = sym (ap (λ (b : Bool). cond b None (case_at old k)) e) ∙ q;
    }

-- the cases that stay are right after the change
pub sound_after : (script : List Statement) (s0 s2 : State) (os ns : List NamedSymbol)
    (cases0 casesA casesB : List (Option (Case ObjectKey))) → s2.names ≡ s0.names
    → ((name : List ℕ) → declares os name ≡ false → declares ns name ≡ false
    → entries_of name s2.objects ≡ entries_of name s0.objects)
    → IsCleared s0.names os cases0 casesA → IsCleared s2.names ns casesA casesB → AreCases script s0 cases0
    → AreCases script s2 casesB
sound_after script s0 s2 os ns cases0 casesA casesB same entries a b kept k c h =
    let ub : Untouched s2.names ns casesA k c = untouched s2.names ns casesA casesB k c b h in
    let ua : Untouched s0.names os cases0 k c = untouched s0.names os cases0 casesA k c a ub.was in
    let is : IsCase script s0 k c = kept k c ua.was in
    let at : slot s2.names k ≡ slot s0.names k = ap (λ (ns : List (Option (List ℕ))). slot ns k) same in
    record {
      named = (is.named.0, at ∙ is.named.1);
      case = λ name n.
          is.case name (sym at ∙ n)
          ∙ ap (λ (ds : List Declaration). decided (is_assigned script name) (is_provided script name) ds)
          (sym (entries name (sym (ap (touches os) (sym at ∙ n)) ∙ ua.out) (sym (ap (touches ns) n) ∙ ub.out)));
    }

or_left : (a b : Bool) → (a || b) ≡ false → a ≡ false
or_left true b h = absurd (cc)
or_left false b h = refl

or_right : (a b : Bool) → (a || b) ≡ false → b ≡ false
or_right true b h = absurd (cc)
or_right false b h = h

-- each known name has a case after the change
pub complete_after : (s0 s2 : State) (os ns : List NamedSymbol)
    (cases0 casesA casesB casesD : List (Option (Case ObjectKey)))
    → s2.names ≡ s0.names → ((k : ℕ) → HasName s0.names k → HasCase cases0 k)
    → IsCleared s0.names os cases0 casesA → IsCleared s2.names ns casesA casesB → KeepsCases casesB casesD
    → AreDone s2.names casesD (declared_in os ++ declared_in ns) → (k : ℕ) → HasName s2.names k → HasCase casesD k
complete_after s0 s2 os ns cases0 casesA casesB casesD same complete a b kept done k h =
    go (is_member bytes_eq (declared_in os ++ declared_in ns) h.0) refl
  where
    at : slot s2.names k ≡ slot s0.names k
    at = ap (λ (ns : List (Option (List ℕ))). slot ns k) same

    left : (is_member bytes_eq (declared_in os) h.0 || is_member bytes_eq (declared_in ns) h.0) ≡ false
        → HasCase casesD k
    left e =
        let was : HasCase cases0 k = complete k (h.0, sym at ∙ h.1) in
        let out : touches os (slot s0.names k) ≡ false =
        ap (touches os) (sym at ∙ h.1)
        ∙ or_left (is_member bytes_eq (declared_in os) h.0) (is_member bytes_eq (declared_in ns) h.0) e in
        let in_new : touches ns (slot s2.names k) ≡ false =
        ap (touches ns) h.1
        ∙ or_right (is_member bytes_eq (declared_in os) h.0) (is_member bytes_eq (declared_in ns) h.0) e in (
          was.0,
          kept k was.0
              (b.at k ∙ ap (λ (t : Bool). cond t None (case_at casesA k)) in_new ∙ a.at k
              ∙ ap (λ (t : Bool). cond t None (case_at cases0 k)) out ∙ was.1),
        )

    go : (b : Bool) → is_member bytes_eq (declared_in os ++ declared_in ns) h.0 ≡ b → HasCase casesD k
    go true e = done h.0 e k h.1
    go false e = left (sym (member_append (declared_in os) (declared_in ns) h.0) ∙ e)

-- a case stands within the list
pub case_within : (cases : List (Option (Case ObjectKey))) (k : ℕ) → HasCase cases k → k < length cases
case_within cases k h =
    ⊎_elim (λ lt. lt) (λ ge. absurd (some_none h.0 (sym (get_or_past cases k None ge) ∙ h.1)))
    (cases_lt k (length cases))
