-- What is kept under keys, seen by place.
use Rattle.symres.proofs.Common.{AreDecisionsOf, Case, DecisionsState, HasCase, IsCaseNamed, IsNameAt, IsNamed}
use Rattle.symres.proofs.Common.{IsSeenAt, IsSymbolTable, List, NamedSymbol, None, ObjectPlace, Option, Project, Some}
use Rattle.symres.proofs.Common.{Statement, [], ap, arith, case_at, decided, decision, decision_in, decision_of}
use Rattle.symres.proofs.Common.{decision_under_keys, entries_of, enumerate_from, false, get_or, get_or-enumerate_from}
use Rattle.symres.proofs.Common.{get_or-map, inl, inr, is_assigned, is_local, is_provided, keys_of, length}
use Rattle.symres.proofs.Common.{length-enumerate_from, length-map, map, option_map, place_case, place_or_0, refl}
use Rattle.symres.proofs.Common.{state_of, subst, suc, sym, symbol_tables, zero, ℕ, ◌<◌, ◌∙◌, ◌∷◌, ◌≡◌}
use Rattle.ldmodel_laws.specs.Renumbering.{renumbered_decision}
use Rattle.ldmodel.specs.declared.names.Case.TheVariants as case
use Rattle.ldmodel.specs.declared.names.ObjectKey.{ObjectKey}
use Rattle.symres_table.specs.State as keyed
use Rattle.symres.specs.Placed.{by_place}
use Rattle.symres.proofs.Entering.{Table, seconds}

-- ---- tables

length-by_place : (tables : List Table) → length (by_place tables) ≡ length tables
length-by_place tables =
    length-enumerate_from 0 (map (λ (t : Table). t.1) tables) ∙ length-map tables (λ (t : Table). t.1)

-- the symbols of an object
same_symbols : (tables : List Table) (place : ℕ) (t : Table) → place < length tables
    → (get_or (by_place tables) place t).1 ≡ (get_or tables place t).1
same_symbols tables place t within =
    ap (λ (u : Table). u.1)
    (get_or-enumerate_from 0 (map (λ (t : Table). t.1) tables) place t
    (omega (arith, within, length-map tables (λ (t : Table). t.1))))
    ∙ get_or-map (λ (t : Table). t.1) tables place t t.1 within

pub seen_by_key : (tables : List Table) (place number : ℕ) → IsSeenAt (by_place tables) place number
    → keyed.IsSeenAt tables place number
seen_by_key tables place number h =
    let within : place < length tables = omega (arith, h.within, length-by_place tables) in
    record {
      within = within;
      symbol = λ t.
          subst (λ (ss : List NamedSymbol). number < length ss) (same_symbols tables place t within) (h.symbol t);
      seen = λ t d.
          subst (λ (ss : List NamedSymbol). is_local (get_or ss number d).symbol.binding ≡ false)
          (same_symbols tables place t within) (h.seen t d);
    }

pub named_by_place : (d : DecisionsState) (order : List ℕ) (place number k : ℕ) → place < length d.names.objects
    → keyed.IsNameAt d.names.names d.names.objects place number k → IsNameAt (state_of d order) place number k
named_by_place d order place number k within h t s =
    subst (λ (ss : List NamedSymbol). IsNamed d.names.names k (get_or ss number s).name)
    (sym (same_symbols d.names.objects place t within)) (h t s)

-- the objects of a project
pub same_tables : (p : Project) (d : DecisionsState) (order : List ℕ) → IsSymbolTable p (state_of d order)
    → map (λ (t : Table). t.1) d.names.objects ≡ symbol_tables p.objects
same_tables p d order symbol_table =
    sym (seconds 0 (map (λ (t : Table). t.1) d.names.objects))
    ∙ ap (map (λ (t : Table). t.1)) symbol_table.objects ∙ seconds 0 (symbol_tables p.objects)

-- ---- cases

pub case_placed : (f : Case ObjectKey → Case ObjectPlace) (cases : List (Option (Case ObjectKey))) (k : ℕ)
    → case_at (map (option_map f) cases) k ≡ option_map f (case_at cases k)
case_placed f [] zero = refl
case_placed f [] (suc k) = refl
case_placed f (c ∷ cs) zero = refl
case_placed f (c ∷ cs) (suc k) = case_placed f cs k

pub some_placed : (f : Case ObjectKey → Case ObjectPlace) (cases : List (Option (Case ObjectKey))) (k : ℕ)
    (c : Case ObjectKey) → case_at cases k ≡ Some c
    → case_at (map (option_map f) cases) k ≡ Some (f c)
some_placed f cases k c h = case_placed f cases k ∙ ap (option_map f) h

pub has_placed : (f : Case ObjectKey → Case ObjectPlace) (cases : List (Option (Case ObjectKey))) (k : ℕ)
    → HasCase cases k
    → HasCase (map (option_map f) cases) k
has_placed f cases k h = (f h.0, some_placed f cases k h.0 h.1)

some_same : (c d : Case ObjectPlace) → Some c ≡ Some d → c ≡ d
some_same c d h = cc

none_some : (c : Case ObjectPlace) → None ≡ Some c → ⊥
none_some c h = absurd (cc)

-- where a case was placed from
record PlacedFrom (f : Case ObjectKey → Case ObjectPlace) (cases : List (Option (Case ObjectKey))) (k : ℕ)
    (c : Case ObjectPlace) : Type 0 where
  from : Case ObjectKey
  there : case_at cases k ≡ Some from
  is : f from ≡ c

placed_from : (f : Case ObjectKey → Case ObjectPlace) (cases : List (Option (Case ObjectKey))) (k : ℕ)
    (c : Case ObjectPlace)
    → case_at (map (option_map f) cases) k ≡ Some c → PlacedFrom f cases k c
placed_from f cases k c h = go (case_at cases k) refl (sym (case_placed f cases k) ∙ h)
  where
    go : (o : Option (Case ObjectKey)) → case_at cases k ≡ o → option_map f o ≡ Some c → PlacedFrom f cases k c
    go None e h = absurd (none_some c h)
    go (Some x) e h = record { from = x; there = e; is = some_same (f x) c h }

decision_placed : (keys : List ℕ) (c : Case ObjectKey)
    → decision_of (λ key. key) (place_case keys c) ≡ renumbered_decision (place_or_0 keys) (decision_under_keys c)
decision_placed keys (case.Strong e) = refl
decision_placed keys case.Script = refl
decision_placed keys (case.Common owner size align) = refl
decision_placed keys (case.Weak e) = refl
decision_placed keys case.Provided = refl
decision_placed keys case.Undefined = refl
decision_placed keys case.Duplicate = refl

-- what a name stands for by place is decided by keys
abbrev pub ByKeys : Project → DecisionsState → List ℕ → Type 0
ByKeys p d name =
    symbol_tables p.objects ≡ map (λ (t : Table). t.1) d.names.objects
    → decision p name ≡ renumbered_decision (place_or_0 (keys_of d.names.objects)) (decision_in p.script d.names name)

-- kept cases of the objects of a project are what its names stand for
pub kept_naming : (p : Project) (d : DecisionsState) (order : List ℕ) → keys_of d.names.objects ≡ order
    → ((name : List ℕ) → ByKeys p d name) → AreDecisionsOf p.script d
    → symbol_tables p.objects ≡ map (λ (t : Table). t.1) d.names.objects → IsSymbolTable p (state_of d order)
kept_naming p d order keys by kept same = record {
  objects = ap (λ (ts : List (List NamedSymbol)). enumerate_from 0 ts) (sym same);
  sound = λ k c h.
      let from = placed_from (place_case order) d.cases k c h in
      let is = kept k from.from from.there in record {
        named = is.named;
        case = λ name n.
            ap (decision_of (λ key. key)) (sym from.is)
            ∙ decision_placed order from.from
            ∙ ap (renumbered_decision (place_or_0 order)) (is.case name n)
            ∙ ap (λ (ks : List ℕ). renumbered_decision (place_or_0 ks) (decision_in p.script d.names name)) (sym keys)
            ∙ sym (by name same);
      };
}

-- the case of any name
pub named_decision : (p : Project) (script : List Statement) (d : DecisionsState) (order name : List ℕ)
    (c : Case ObjectKey)
    → keys_of d.names.objects ≡ order → ByKeys p d name → IsCaseNamed script d name c
    → IsSymbolTable p (state_of d order)
    → p.script ≡ script → decision_of (λ key. key) (place_case order c) ≡ decision p name
named_decision p script d order name c keys by (inl h) symbol_table same =
    (symbol_table.sound h.0 (place_case order c) (some_placed (place_case order) d.cases h.0 c h.2)).case name h.1
named_decision p script d order name c keys by (inr h) symbol_table same =
    decision_placed order c
    ∙ ap (renumbered_decision (place_or_0 order))
    (h.1 ∙ ap (decided (is_assigned script name) (is_provided script name)) (sym h.0)
    ∙ ap (λ (st : List Statement).
    decided (is_assigned st name) (is_provided st name) (entries_of name d.names.objects)) (sym same))
    ∙ ap (λ (ks : List ℕ). renumbered_decision (place_or_0 ks) (decision_in p.script d.names name)) (sym keys)
    ∙ sym (by (sym (same_tables p d order symbol_table)))
