-- Cases of names that a symbol table declares are cleared.
use Rattle.symres_decisions.proofs.Common.{AreDistinct, Bool, Case, IsCleared, IsListing, IsNamed, List, NamedSymbol}
use Rattle.symres_decisions.proofs.Common.{None, ObjectKey, Option, Some, [], ap, append-nil, arith, bytes_eq}
use Rattle.symres_decisions.proofs.Common.{bytes_eq-Decides, case_at, cases_eq, cond, declared_in, declares, false}
use Rattle.symres_decisions.proofs.Common.{filter, filter-append, get_or, get_or-set_other, get_or-set_same, is_local}
use Rattle.symres_decisions.proofs.Common.{is_member, length, length-set, map, map-append, not, refl, set, slot, suc}
use Rattle.symres_decisions.proofs.Common.{sym, take, take-suc, touches, true, zero, ℕ, ⊎_elim, ◌++◌, ◌+◌, ◌<◌, ◌||◌}
use Rattle.symres_decisions.proofs.Common.{◌∙◌, ◌∷◌, ◌≡◌}
use Rattle.symres_decisions.proofs.Distinct.{member_pushed}

abbrev pub Slots : Type 0
Slots = List (Option (List ℕ))

-- ---- one more symbol

declared_more : (ss : List NamedSymbol) (x : NamedSymbol) (b : Bool) → is_local x.symbol.binding ≡ b
    → declared_in (ss ++ x ∷ []) ≡ declared_in ss ++ cond b [] (x.name ∷ [])
declared_more ss x b e =
    ap (map (λ (s : NamedSymbol). s.name))
    (filter-append (λ (s : NamedSymbol). not (is_local s.symbol.binding)) ss (x ∷ []))
    ∙ map-append (λ (s : NamedSymbol). s.name) (filter (λ (s : NamedSymbol). not (is_local s.symbol.binding)) ss)
    (filter (λ (s : NamedSymbol). not (is_local s.symbol.binding)) (x ∷ []))
    ∙ ap (λ (ns : List (List ℕ)). declared_in ss ++ ns) (one b e)
  where
    one : (b : Bool) → is_local x.symbol.binding ≡ b
        → map (λ (s : NamedSymbol). s.name) (cond (not (is_local x.symbol.binding)) (x ∷ []) [])
        ≡ cond b [] (x.name ∷ [])
    one true e = ap (λ (b : Bool). map (λ (s : NamedSymbol). s.name) (cond (not b) (x ∷ []) [])) e
    one false e = ap (λ (b : Bool). map (λ (s : NamedSymbol). s.name) (cond (not b) (x ∷ []) [])) e

pub declared_local : (ss : List NamedSymbol) (x : NamedSymbol) → is_local x.symbol.binding ≡ true
    → declared_in (ss ++ x ∷ []) ≡ declared_in ss
declared_local ss x e = declared_more ss x true e ∙ append-nil (declared_in ss)

pub declared_seen : (ss : List NamedSymbol) (x : NamedSymbol) → is_local x.symbol.binding ≡ false
    → declared_in (ss ++ x ∷ []) ≡ declared_in ss ++ x.name ∷ []
declared_seen ss x e = declared_more ss x false e

pub next_symbols : (xs : List NamedSymbol) (i : ℕ) (d : NamedSymbol) → i < length xs
    → take i xs ++ get_or xs i d ∷ [] ≡ take (i + 1) xs
next_symbols xs i d l =
    let suc_is : suc i ≡ i + 1 = omega arith in
    sym (ap (λ (n : ℕ). take n xs) (sym suc_is) ∙ take-suc xs i d l)

-- ---- no two keys have one name

some_same : (m n : ℕ) → Some m ≡ Some n → m ≡ n
some_same m n h = cc

pub listed_apart : (names : Slots) (order : List (List ℕ × ℕ)) → IsListing names order → AreDistinct names
listed_apart names order l = λ m n name a b. some_same m n (sym (l.complete m name a) ∙ l.complete n name b)

-- ---- which names are touched

touches_local : (ss : List NamedSymbol) (x : NamedSymbol) (o : Option (List ℕ)) → is_local x.symbol.binding ≡ true
    → touches (ss ++ x ∷ []) o ≡ touches ss o
touches_local ss x None e = refl
touches_local ss x (Some name) e =
    ap (λ (ns : List (List ℕ)). is_member bytes_eq ns name) (declared_local ss x e)

or_true : (b : Bool) → (b || true) ≡ true
or_true true = refl
or_true false = refl

or_false : (b : Bool) → (b || false) ≡ b
or_false true = refl
or_false false = refl

pub declares_seen : (ss : List NamedSymbol) (x : NamedSymbol) (name : List ℕ) → is_local x.symbol.binding ≡ false
    → declares (ss ++ x ∷ []) name ≡ (declares ss name || bytes_eq name x.name)
declares_seen ss x name e =
    ap (λ (ns : List (List ℕ)). is_member bytes_eq ns name) (declared_seen ss x e)
    ∙ member_pushed (declared_in ss) x.name name

touches_here : (ss : List NamedSymbol) (x : NamedSymbol) (o : Option (List ℕ)) → is_local x.symbol.binding ≡ false
    → o ≡ Some x.name → touches (ss ++ x ∷ []) o ≡ true
touches_here ss x o e h =
    ap (touches (ss ++ x ∷ [])) h ∙ declares_seen ss x x.name e
    ∙ ap (λ (b : Bool). declares ss x.name || b) ((bytes_eq-Decides x.name x.name).1 refl)
    ∙ or_true (declares ss x.name)

touches_other : (ss : List NamedSymbol) (x : NamedSymbol) (o : Option (List ℕ)) → is_local x.symbol.binding ≡ false
    → (o ≡ Some x.name → ⊥) → touches (ss ++ x ∷ []) o ≡ touches ss o
touches_other ss x None e h = refl
touches_other ss x (Some name) e h =
    declares_seen ss x name e ∙ ap (λ (b : Bool). declares ss name || b) (apart (bytes_eq name x.name) refl)
    ∙ or_false (declares ss name)
  where
    apart : (b : Bool) → bytes_eq name x.name ≡ b → bytes_eq name x.name ≡ false
    apart true q = absurd (h (ap Some ((bytes_eq-Decides name x.name).0 q)))
    apart false q = q

-- a symbol that isn't local declares its name
pub declares_at : (ss : List NamedSymbol) (i : ℕ) (d : NamedSymbol) → i < length ss
    → is_local (get_or ss i d).symbol.binding ≡ false → declares ss (get_or ss i d).name ≡ true
declares_at [] i d l seen = absurd (omega (arith, l))
declares_at (s ∷ ss) zero d l seen =
    ap (λ (b : Bool). is_member bytes_eq (map (λ (s : NamedSymbol). s.name)
    (cond (not b) (s ∷ filter (λ (s : NamedSymbol). not (is_local s.symbol.binding)) ss)
    (filter (λ (s : NamedSymbol). not (is_local s.symbol.binding)) ss))) s.name) seen
    ∙ ap (λ (b : Bool). b || declares ss s.name) ((bytes_eq-Decides s.name s.name).1 refl)
declares_at (s ∷ ss) (suc i) d l seen =
    go (is_local s.symbol.binding) (declares_at ss i d (omega (arith, l)) seen)
  where
    go : (b : Bool) → declares ss (get_or ss i d).name ≡ true
        → is_member bytes_eq (map (λ (s : NamedSymbol). s.name)
        (cond (not b) (s ∷ filter (λ (s : NamedSymbol). not (is_local s.symbol.binding)) ss)
        (filter (λ (s : NamedSymbol). not (is_local s.symbol.binding)) ss))) (get_or ss i d).name ≡ true
    go true h = h
    go false h = ap (λ (b : Bool). bytes_eq (get_or ss i d).name s.name || b) h
        ∙ or_true (bytes_eq (get_or ss i d).name s.name)

-- ---- clearing

pub none_cleared : (names : Slots) (cases : List (Option (Case ObjectKey))) → IsCleared names [] cases cases
none_cleared names cases = record { long = refl; at = λ k. go k (slot names k) }
  where
    go : (k : ℕ) (o : Option (List ℕ)) → case_at cases k ≡ cond (touches [] o) None (case_at cases k)
    go k None = refl
    go k (Some name) = refl

pub cleared_local : (names : Slots) (ss : List NamedSymbol) (x : NamedSymbol) (old new : List (Option (Case ObjectKey)))
    → is_local x.symbol.binding ≡ true → IsCleared names ss old new → IsCleared names (ss ++ x ∷ []) old new
cleared_local names ss x old new e h = record {
  long = h.long;
  at = λ k.
      h.at k ∙ ap (λ (b : Bool). cond b None (case_at old k)) (sym (touches_local ss x (slot names k) e));
}

pub cleared_seen : (names : Slots) (ss : List NamedSymbol) (x : NamedSymbol) (n : ℕ)
    (old new : List (Option (Case ObjectKey)))
    → AreDistinct names → is_local x.symbol.binding ≡ false → IsNamed names n x.name → n < length new
    → IsCleared names ss old new → IsCleared names (ss ++ x ∷ []) old (set new n None)
cleared_seen names ss x n old new d e here l h = record {
  long = length-set new n None ∙ h.long;
  at = λ k.
      ⊎_elim
      (λ same.
      ap (case_at (set new n None)) same ∙ get_or-set_same new n None None l
      ∙ ap (λ (b : Bool). cond b None (case_at old k))
      (sym (touches_here ss x (slot names k) e (ap (slot names) same ∙ here))))
      (λ ne.
      get_or-set_other new n k None None ne ∙ h.at k
      ∙ ap (λ (b : Bool). cond b None (case_at old k))
      (sym (touches_other ss x (slot names k) e (λ (q : slot names k ≡ Some x.name). ne (d k n x.name q here)))))
      (cases_eq k n);
}
