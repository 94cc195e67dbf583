-- The keys of the names of symbols.
use Rattle.symres_decisions.proofs.Common.{AreFound, AreKnown, AreNoted, Bool, HasName, IfNone, IfSome, IsKeyOf}
use Rattle.symres_decisions.proofs.Common.{IsNameAt, IsNamed, IsNotedFor, IsSeenAt, List, NamedSymbol, None, Option}
use Rattle.symres_decisions.proofs.Common.{Some, State, [], ap, arith, cases_lt, false, get_or, get_or-map}
use Rattle.symres_decisions.proofs.Common.{get_or_append_left, get_or_push, is_local, length, length_push, map, not}
use Rattle.symres_decisions.proofs.Common.{refl, slice_get, subst, sym, true, ℕ, ⊎_elim, ◌++◌, ◌<◌, ◌∙◌, ◌∷◌, ◌≡◌}
use Rattle.std.specs.Option.{option_map}
use Rattle.std.proofs.lemmas.Option.{slice_get-get_or, slice_get-map}
use Rattle.elfobj.specs.declared.symbol.Symbol.{Symbol}
use Rattle.ldmodel.specs.declared.names.NameKey.{NameKey}
use Rattle.ldmodel.specs.declared.names.ObjectPlace.{ObjectPlace}
use Rattle.symres_decisions.specs.declared.texts.KeySource.{KeySource}
use Rattle.symres_decisions.specs.declared.texts.KeySource.TheVariants as sources

abbrev Table : Type 0
Table = ℕ × List NamedSymbol

shown_at : (symbols : List NamedSymbol) (shown : List Symbol) (n : ℕ) (x : Symbol) (d : NamedSymbol)
    → shown ≡ map (λ (s : NamedSymbol). s.symbol) symbols → n < length symbols
    → get_or shown n x ≡ (get_or symbols n d).symbol
shown_at symbols shown n x d same within =
    ap (λ (ss : List Symbol). get_or ss n x) same
    ∙ get_or-map (λ (s : NamedSymbol). s.symbol) symbols n d x within

not_true : (b : Bool) → true ≡ not b → b ≡ false
not_true true h = absurd (cc)
not_true false h = refl

not_false : (b : Bool) → false ≡ not b → b ≡ true
not_false true h = refl
not_false false h = absurd (cc)

-- a symbol that other objects see
pub is_seen : (symbols : List NamedSymbol) (shown : List Symbol) (n : ℕ) (x : Symbol) (d : NamedSymbol)
    → shown ≡ map (λ (s : NamedSymbol). s.symbol) symbols → n < length symbols
    → true ≡ not (is_local (get_or shown n x).binding) → is_local (get_or symbols n d).symbol.binding ≡ false
is_seen symbols shown n x d same within h =
    not_true (is_local (get_or symbols n d).symbol.binding)
    (h ∙ ap (λ (s : Symbol). not (is_local s.binding)) (shown_at symbols shown n x d same within))

-- one that they do not see
pub is_hidden : (symbols : List NamedSymbol) (shown : List Symbol) (n : ℕ) (x : Symbol) (d : NamedSymbol)
    → shown ≡ map (λ (s : NamedSymbol). s.symbol) symbols → n < length symbols
    → false ≡ not (is_local (get_or shown n x).binding) → is_local (get_or symbols n d).symbol.binding ≡ true
is_hidden symbols shown n x d same within h =
    not_false (is_local (get_or symbols n d).symbol.binding)
    (h ∙ ap (λ (s : Symbol). not (is_local s.binding)) (shown_at symbols shown n x d same within))

-- where the object stands
pub record Stands (s : State) (place : ℕ) (symbols : List NamedSymbol) : Type 0 where
  pub within : place < length s.objects
  pub is : (t : Table) → (get_or s.objects place t).1 ≡ symbols

pub stands : (s : State) (o : KeySource) (place : ObjectPlace) (symbols : List NamedSymbol) → o ≡ sources.Entered place
    → AreFound s o symbols → Stands s place.0 symbols
stands s o place symbols e h =
    let there : AreFound s (sources.Entered place) symbols = subst (λ (o : KeySource). AreFound s o symbols) e h in
    record { within = there.0; is = there.1 }

pub seen_at : (s : State) (place number : ℕ) (symbols : List NamedSymbol) → Stands s place symbols
    → number < length symbols → ((d : NamedSymbol) → is_local (get_or symbols number d).symbol.binding ≡ false)
    → IsSeenAt s.objects place number
seen_at s place number symbols h l seen = record {
  within = h.within;
  symbol = λ t. subst (λ (ss : List NamedSymbol). number < length ss) (sym (h.is t)) l;
  seen = λ t d.
      subst (λ (ss : List NamedSymbol). is_local (get_or ss number d).symbol.binding ≡ false) (sym (h.is t)) (seen d);
}

pub name_at : (s : State) (place number n : ℕ) (symbols : List NamedSymbol) (d : NamedSymbol) → Stands s place symbols
    → IsNameAt s.names s.objects place number n → IsNamed s.names n (get_or symbols number d).name
name_at s place number n symbols d h named =
    subst (λ (ss : List NamedSymbol). IsNamed s.names n (get_or ss number d).name) (h.is (0, [])) (named (0, []) d)

some_same : (x y : List ℕ) → Some x ≡ Some y → x ≡ y
some_same x y h = cc

-- what a look-up by the bytes of a name finds
pub key_by_bytes : (names : List (Option (List ℕ))) (symbols : List NamedSymbol) (number : ℕ) (name : List ℕ)
    (d : NamedSymbol) (r : Option NameKey) → number < length symbols
    → slice_get (map (λ (s : NamedSymbol). s.name) symbols) number ≡ Some name → AreKnown names symbols
    → is_local (get_or symbols number d).symbol.binding ≡ false
    → IfSome r (λ (k : NameKey). IsNamed names k.0 name) → IfNone r ((k : ℕ) → IsNamed names k name → ⊥)
    → IsKeyOf names (get_or symbols number d) r
key_by_bytes names symbols number name d r l is known seen =
    let same : (get_or symbols number d).name ≡ name =
    some_same (get_or symbols number d).name name
    (sym (slice_get-map (λ (s : NamedSymbol). s.name) symbols number
    ∙ ap (λ (o : Option NamedSymbol). option_map (λ (s : NamedSymbol). s.name) o)
    (slice_get-get_or symbols number d l)) ∙ is) in
    go r same
  where
    go : (r : Option NameKey) → (get_or symbols number d).name ≡ name
        → IfSome r (λ (k : NameKey). IsNamed names k.0 name) → IfNone r ((k : ℕ) → IsNamed names k name → ⊥)
        → IsKeyOf names (get_or symbols number d) r
    go None same some none =
        let k = known number d l seen in
        absurd (none k.0 (subst (IsNamed names k.0) same k.1))
    go (Some k) same some none = (seen, subst (IsNamed names k.0) (sym same) some)

pub has_name : (names : List (Option (List ℕ))) (x : NamedSymbol) (k : NameKey) → IsKeyOf names x (Some k)
    → HasName names k.0
has_name names x k h = (x.name, h.1)

-- ---- keys that are noted

pub one_noted : (names : List (Option (List ℕ))) (symbols : List NamedSymbol) (keys : List NameKey) (key : NameKey)
    (number : ℕ) → length keys ≡ number
    → ((d : NamedSymbol) → IsNotedFor names (get_or symbols number d) key) → AreNoted names symbols keys
    → AreNoted names symbols (keys ++ key ∷ [])
one_noted names symbols keys key number long is noted i k d l =
    ⊎_elim
    (λ lt.
    subst (IsNotedFor names (get_or symbols i d)) (sym (get_or_append_left keys (key ∷ []) k i lt)) (noted i k d lt))
    (λ ge.
    let at : length keys ≡ i = omega (arith, ge, l, length_push keys key) in
    subst (IsNotedFor names (get_or symbols i d)) (sym (get_or_push keys key k i at))
    (subst (λ (j : ℕ). IsNotedFor names (get_or symbols j d) key) (sym long ∙ at) (is d)))
    (cases_lt i (length keys))
