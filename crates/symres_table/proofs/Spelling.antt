-- Symbol tables as numbers of names spell them.
use Rattle.symres_table.proofs.Common.{AddsNames, All, All-append, All-cons, All-head, All-nil, All-tail, AreCounted}
use Rattle.symres_table.proofs.Common.{AreDistinct, Bool, Entered, HasName, IsNamed, IsSpellable, KeepsNames}
use Rattle.symres_table.proofs.Common.{KnownNames, List, NamedSymbol, Numbered, Option, Some, Spells, SpellsSeen}
use Rattle.symres_table.proofs.Common.{Symbol, [], ap, append-nil, append_assoc, arith, bytes_eq, bytes_eq-Decides}
use Rattle.symres_table.proofs.Common.{cases_eq, cond, declaration_of, declared, entries, entries_of, enumerate_from}
use Rattle.symres_table.proofs.Common.{eq-eqb, eqb, false, filter, filter-append, get_or, get_or_default, inl, inr}
use Rattle.symres_table.proofs.Common.{is_local, is_named, is_seen, length, length-map, map, map-append, named, ne_eqb}
use Rattle.symres_table.proofs.Common.{not, own, refl, slice_get, slice_get_cases, slot, spell, spell_symbol, subst}
use Rattle.symres_table.proofs.Common.{sym, text, true, true≢false, ℕ, ⊎_elim, ◌&&◌, ◌++◌, ◌+◌, ◌<◌, ◌∙◌, ◌∷◌, ◌≡◌, ◌≢◌}
use Rattle.std.proofs.lemmas.List.{get_or-map}
use Rattle.elfobj.specs.Profile.{IsNameOf}
use Rattle.elfobj.specs.declared.symbol.Binding.{Binding}
use Rattle.elfobj.specs.declared.symbol.Binding.TheVariants.{Local, Global, Weak}
use Rattle.ldmodel.specs.Names.{Declaration, declaration, declarations_of, is_of_name}
use Rattle.symres_table.specs.State.{naming}
use Rattle.symres_table.proofs.Naming.{nothing, named_local}

abbrev Names : Type 0
Names = List (Option (List ℕ))

pub seen_name : (names : Names) (s : Numbered) → is_local s.symbol.binding ≡ false → (spell_symbol names s).name
    ≡ text (slot names s.name)
seen_name names s e = ap (λ b. cond b [] (text (slot names s.name))) e

-- a symbol has the name exactly if it has the number
same_name : (names : Names) (k : ℕ) (name : List ℕ) (n : ℕ) → AreDistinct names → IsNamed names k name
    → ((x : List ℕ) × IsNamed names n x) → bytes_eq name (text (slot names n)) ≡ eqb n k
same_name names k name n d h t = ⊎_elim
    (λ same. (bytes_eq-Decides name (text (slot names n))).1 (sym (ap text (ap (slot names) same ∙ h)))
    ∙ sym (eq-eqb n k same))
    (λ ne. apart (bytes_eq name (text (slot names n))) refl ne ∙ sym (ne_eqb n k ne))
    (cases_eq n k)
  where
    apart : (b : Bool) → bytes_eq name (text (slot names n)) ≡ b → n ≢ k → bytes_eq name (text (slot names n)) ≡ false
    apart false e ne = e
    apart true e ne =
        let is : name ≡ t.0 = (bytes_eq-Decides name (text (slot names n))).0 e ∙ ap text t.1 in
        absurd (ne (d n k name (t.1 ∙ ap Some (sym is)) h))

seen_same : (names : Names) (k : ℕ) (name : List ℕ) (s : Numbered) → AreDistinct names → IsNamed names k name
    → HasName names s → is_local s.symbol.binding ≡ false → bytes_eq name (spell_symbol names s).name ≡ eqb s.name k
seen_same names k name s d h t v = ap (bytes_eq name) (seen_name names s v) ∙ same_name names k name s.name d h (t v)

test_same : (names : Names) (k : ℕ) (name : List ℕ) (s : Numbered) → AreDistinct names → IsNamed names k name
    → HasName names s → (not (is_local s.symbol.binding) && bytes_eq name (spell_symbol names s).name) ≡ is_named k s
test_same names k name s d h t = go (is_local s.symbol.binding) refl
  where
    go : (b : Bool) → is_local s.symbol.binding ≡ b
        → (not (is_local s.symbol.binding) && bytes_eq name (spell_symbol names s).name) ≡ is_named k s
    go true e = ap (λ b. not b && bytes_eq name (spell_symbol names s).name) e ∙ sym (named_local k s e)
    go false e = ap (λ b. not (is_local s.symbol.binding) && b) (seen_same names k name s d h t e)

naming_spelled : (names : Names) (k : ℕ) (name : List ℕ) (ss : List Numbered) → AreDistinct names
    → IsNamed names k name → All (HasName names) ss
    → naming name (map (spell_symbol names) ss) ≡ map (spell_symbol names) (named k ss)
naming_spelled names k name [] d h a = refl
naming_spelled names k name (s ∷ ss) d h a =
    ap (λ b. cond b (spell_symbol names s ∷ naming name (map (spell_symbol names) ss))
    (naming name (map (spell_symbol names) ss))) (test_same names k name s d h (All-head (HasName names) s ss a))
    ∙ go (is_named k s) (naming_spelled names k name ss d h (All-tail (HasName names) s ss a))
  where
    go : (b : Bool) → naming name (map (spell_symbol names) ss) ≡ map (spell_symbol names) (named k ss)
        → cond b (spell_symbol names s ∷ naming name (map (spell_symbol names) ss))
        (naming name (map (spell_symbol names) ss))
        ≡ map (spell_symbol names) (cond b (s ∷ named k ss) (named k ss))
    go true r = ap (λ l. spell_symbol names s ∷ l) r
    go false r = r

pub length_naming : (names : Names) (k : ℕ) (name : List ℕ) (ss : List Numbered) → AreDistinct names
    → IsNamed names k name → All (HasName names) ss
    → length (naming name (map (spell_symbol names) ss)) ≡ length (named k ss)
length_naming names k name ss d h a = ap length (naming_spelled names k name ss d h a)
    ∙ length-map (named k ss) (spell_symbol names)

-- what one table declares of a name
table_spelled : (names : Names) (k : ℕ) (name : List ℕ) (key n : ℕ) (ss : List Numbered) → AreDistinct names
    → IsNamed names k name → AreCounted n ss → All (HasName names) ss
    → filter (is_of_name name)
    (filter (λ (d : Declaration). not (is_local d.symbol.binding))
    (map (declaration key) (enumerate_from n (map (spell_symbol names) ss))))
    ≡ map (declaration_of name) (own k key ss)
table_spelled names k name key n [] d h c a = refl
table_spelled names k name key n (s ∷ ss) d h c a =
    step (is_local s.symbol.binding) (bytes_eq name (spell_symbol names s).name) refl refl
    (test_same names k name s d h (All-head (HasName names) s ss a))
    (table_spelled names k name key (n + 1) ss d h c.1 (All-tail (HasName names) s ss a))
  where
    here : Declaration
    here = declaration key (n, spell_symbol names s)

    rest : List Declaration
    rest = filter (λ (d : Declaration). not (is_local d.symbol.binding))
        (map (declaration key) (enumerate_from (n + 1) (map (spell_symbol names) ss)))

    step : (b e : Bool) → is_local s.symbol.binding ≡ b → bytes_eq name (spell_symbol names s).name ≡ e
        → (not (is_local s.symbol.binding) && bytes_eq name (spell_symbol names s).name) ≡ is_named k s
        → filter (is_of_name name) rest ≡ map (declaration_of name) (own k key ss)
        → filter (is_of_name name) (cond (not (is_local s.symbol.binding)) (here ∷ rest) rest)
        ≡ map (declaration_of name) (map (declared key) (cond (is_named k s) (s ∷ named k ss) (named k ss)))
    step true e p q t r =
        let out : is_named k s ≡ false = sym t ∙ ap (λ b. not b && bytes_eq name (spell_symbol names s).name) p in
        ap (λ b. filter (is_of_name name) (cond (not b) (here ∷ rest) rest)) p ∙ r
        ∙ ap (λ b. map (declaration_of name) (map (declared key) (cond b (s ∷ named k ss) (named k ss)))) (sym out)
    step false false p q t r =
        let out : is_named k s ≡ false = sym t ∙ ap (λ b. not b && bytes_eq name (spell_symbol names s).name) p ∙ q in
        ap (λ b. filter (is_of_name name) (cond (not b) (here ∷ rest) rest)) p
        ∙ ap (λ b. cond b (here ∷ filter (is_of_name name) rest) (filter (is_of_name name) rest)) q
        ∙ r ∙ ap (λ b. map (declaration_of name) (map (declared key) (cond b (s ∷ named k ss) (named k ss)))) (sym out)
    step false true p q t r =
        let yes : is_named k s ≡ true = sym t ∙ ap (λ b. not b && bytes_eq name (spell_symbol names s).name) p ∙ q in
        let is : (spell_symbol names s).name ≡ name = sym ((bytes_eq-Decides name (spell_symbol names s).name).0 q) in
        ap (λ b. filter (is_of_name name) (cond (not b) (here ∷ rest) rest)) p
        ∙ ap (λ b. cond b (here ∷ filter (is_of_name name) rest) (filter (is_of_name name) rest)) q
        ∙ ap (λ l. here ∷ l) r
        ∙ ap (λ x. x ∷ map (declaration_of name) (own k key ss))
        (ap (λ m. make m (spell_symbol names s).name) (sym c.0) ∙ ap (make s.number) is)
        ∙ ap (λ b. map (declaration_of name) (map (declared key) (cond b (s ∷ named k ss) (named k ss)))) (sym yes)
      where
        make : ℕ → List ℕ → Declaration
        make m x = record { entry = record { object = key; symbol = m }; name = x; symbol = s.symbol }

abbrev pub AllSpellable : Names → List Entered → Type 0
AllSpellable names os = All (λ (o : Entered). IsSpellable names o.symbols) os

-- the entries by the bytes of a name are those by its number
pub entries_spelled : (names : Names) (k : ℕ) (name : List ℕ) (os : List Entered) → AreDistinct names
    → IsNamed names k name → AllSpellable names os
    → entries_of name (map (spell names) os) ≡ map (declaration_of name) (entries k os)
unfolding declarations_of
entries_spelled names k name [] d h a = refl
entries_spelled names k name (o ∷ os) d h a =
    let P : Entered → Type 0 = λ (o : Entered). IsSpellable names o.symbols in
    let mine : IsSpellable names o.symbols = All-head P o os a in
    filter-append (is_of_name name) _ _
    ∙ ap (λ l. l ++ entries_of name (map (spell names) os))
    (table_spelled names k name o.key 0 o.symbols d h mine.counted mine.named)
    ∙ ap (λ l. map (declaration_of name) (own k o.key o.symbols)
    ++ l) (entries_spelled names k name os d h (All-tail P o os a))
    ∙ sym (map-append (declaration_of name) (own k o.key o.symbols) (entries k os))

other_name : (names : Names) (name : List ℕ) (s : Numbered) → ((k : ℕ) → slot names k ≢ Some name) → HasName names s
    → is_local s.symbol.binding ≡ false → bytes_eq name (spell_symbol names s).name ≡ false
other_name names name s h t v = go (bytes_eq name (spell_symbol names s).name) refl
  where
    go : (b : Bool) → bytes_eq name (spell_symbol names s).name ≡ b → bytes_eq name (spell_symbol names s).name ≡ false
    go false e = e
    go true e =
        let x = t v in
        let is : name ≡ x.0 = (bytes_eq-Decides name (spell_symbol names s).name).0 e ∙ seen_name names s v
        ∙ ap text x.1 in
        absurd (h s.name (x.1 ∙ ap Some (sym is)))

table_unknown : (names : Names) (name : List ℕ) (key n : ℕ) (ss : List Numbered) → ((k : ℕ) → slot names k ≢ Some name)
    → All (HasName names) ss
    → filter (is_of_name name)
    (filter (λ (d : Declaration). not (is_local d.symbol.binding))
    (map (declaration key) (enumerate_from n (map (spell_symbol names) ss)))) ≡ []
table_unknown names name key n [] h a = refl
table_unknown names name key n (s ∷ ss) h a =
    step (is_local s.symbol.binding) refl (table_unknown names name key (n + 1) ss h (All-tail (HasName names) s ss a))
  where
    here : Declaration
    here = declaration key (n, spell_symbol names s)

    rest : List Declaration
    rest = filter (λ (d : Declaration). not (is_local d.symbol.binding))
        (map (declaration key) (enumerate_from (n + 1) (map (spell_symbol names) ss)))

    step : (b : Bool) → is_local s.symbol.binding ≡ b → filter (is_of_name name) rest ≡ []
        → filter (is_of_name name) (cond (not (is_local s.symbol.binding)) (here ∷ rest) rest) ≡ []
    step true p r = ap (λ b. filter (is_of_name name) (cond (not b) (here ∷ rest) rest)) p ∙ r
    step false p r = ap (λ b. filter (is_of_name name) (cond (not b) (here ∷ rest) rest)) p
        ∙ ap (λ b. cond b (here ∷ filter (is_of_name name) rest) (filter (is_of_name name) rest))
        (other_name names name s h (All-head (HasName names) s ss a) p) ∙ r

-- a name that is not known has no entries
pub entries_unknown : (names : Names) (name : List ℕ) (os : List Entered) → ((k : ℕ) → slot names k ≢ Some name)
    → AllSpellable names os → entries_of name (map (spell names) os) ≡ []
unfolding declarations_of
entries_unknown names name [] h a = refl
entries_unknown names name (o ∷ os) h a =
    let P : Entered → Type 0 = λ (o : Entered). IsSpellable names o.symbols in
    filter-append (is_of_name name) _ _
    ∙ ap (λ l. l ++ entries_of name (map (spell names) os))
    (table_unknown names name o.key 0 o.symbols h (All-head P o os a).named)
    ∙ entries_unknown names name os h (All-tail P o os a)

-- names that are added change no symbol
same_symbol : (old new : Names) (s : Numbered) → KeepsNames old new → HasName old s → spell_symbol old s
    ≡ spell_symbol new s
same_symbol old new s k h = go (is_local s.symbol.binding) refl
  where
    make : Bool → List ℕ → NamedSymbol
    make b t = record { name = cond b [] t; symbol = s.symbol }

    go : (b : Bool) → is_local s.symbol.binding ≡ b → spell_symbol old s ≡ spell_symbol new s
    go true e = ap (λ b. make b (text (slot old s.name))) e ∙ ap (λ b. make b (text (slot new s.name))) (sym e)
    go false e = let t = h e in ap (make (is_local s.symbol.binding)) (ap text t.1 ∙ sym (ap text (k s.name t.0 t.1)))

same_symbols : (old new : Names) (ss : List Numbered) → KeepsNames old new → All (HasName old) ss
    → map (spell_symbol old) ss ≡ map (spell_symbol new) ss
same_symbols old new [] k a = refl
same_symbols old new (s ∷ ss) k a =
    ap (λ x. x ∷ map (spell_symbol old) ss) (same_symbol old new s k (All-head (HasName old) s ss a))
    ∙ ap (λ l. spell_symbol new s ∷ l) (same_symbols old new ss k (All-tail (HasName old) s ss a))

pub same_objects : (old new : Names) (os : List Entered) → KeepsNames old new → AllSpellable old os
    → map (spell old) os ≡ map (spell new) os
same_objects old new [] k a = refl
same_objects old new (o ∷ os) k a =
    let P : Entered → Type 0 = λ (o : Entered). IsSpellable old o.symbols in
    ap (λ l. (o.key, l) ∷ map (spell old) os) (same_symbols old new o.symbols k (All-head P o os a).named)
    ∙ ap (λ l. spell new o ∷ l) (same_objects old new os k (All-tail P o os a))

pub spellable_kept : (old new : Names) (os : List Entered) → KeepsNames old new → AllSpellable old os
    → AllSpellable new os
spellable_kept old new os k a = λ j o l. record {
  named = λ i s m v. let t = (a j o l).named i s m v in (t.0, k _ t.0 t.1);
  counted = (a j o l).counted;
}

named_kept : (old new : Names) (ss : List Numbered) → KeepsNames old new → All (HasName old) ss → All (HasName new) ss
named_kept old new ss k a = λ i s m v. let t = a i s m v in (t.0, k _ t.0 t.1)

-- one symbol more
counted_push : (n : ℕ) (ss : List Numbered) (s : Numbered) → AreCounted n ss → s.number ≡ n + length ss
    → AreCounted n (ss ++ s ∷ [])
counted_push n [] s c e = (omega (arith, e), tt)
counted_push n (x ∷ ss) s c e = (c.0, counted_push (n + 1) ss s c.1 (omega (arith, e)))

pub spells_start : (names : Names) → Spells names [] []
spells_start names = record { spelled = refl; well = record { named = All-nil (HasName names); counted = tt } }

named_push : (names : Names) (ss : List Numbered) (s : Numbered) → All (HasName names) ss → HasName names s
    → All (HasName names) (ss ++ s ∷ [])
named_push names ss s a h =
    All-append (HasName names) ss (s ∷ []) a (All-cons (HasName names) s [] h (All-nil (HasName names)))

pub spells_push : (names : Names) (ss ss' : List Numbered) (xs xs' : List NamedSymbol) (s : Numbered) (x : NamedSymbol)
    → ss' ≡ ss ++ s ∷ [] → xs' ≡ xs ++ x ∷ [] → spell_symbol names s ≡ x → HasName names s → s.number ≡ length ss
    → Spells names ss xs → Spells names ss' xs'
spells_push names ss ss' xs xs' s x e f is h n p = record {
  spelled = ap (map (spell_symbol names)) e ∙ map-append (spell_symbol names) ss (s ∷ [])
      ∙ ap (λ l. l ++ spell_symbol names s ∷ []) p.spelled ∙ ap (λ y. xs ++ y ∷ []) is ∙ sym f;
  well = record {
    named = subst (All (HasName names)) (sym e) (named_push names ss s p.well.named h);
    counted = subst (AreCounted 0) (sym e) (counted_push 0 ss s p.well.counted (omega (arith, n)));
  };
}

pub seen_start : (names : Names) → SpellsSeen names [] []
seen_start names = record {
  spelled = refl;
  named = All-nil (HasName names);
  seen =
      All-nil (λ (s : Numbered). not (is_local s.symbol.binding) ≡ true);
}

-- a local symbol is passed over
pub seen_skip : (names : Names) (ss : List Numbered) (xs : List NamedSymbol) (x : NamedSymbol) → is_seen x ≡ false
    → SpellsSeen names ss xs → SpellsSeen names ss (xs ++ x ∷ [])
seen_skip names ss xs x e p = record {
  spelled = p.spelled ∙ sym (filter-append is_seen xs (x ∷ []) ∙ ap (λ b. filter is_seen xs ++ cond b (x ∷ []) []) e
      ∙ append-nil (filter is_seen xs));
  named = p.named;
  seen = p.seen;
}

pub seen_push : (old new : Names) (ss : List Numbered) (xs : List NamedSymbol) (s : Numbered) (x : NamedSymbol)
    → KeepsNames old new → is_seen x ≡ true → spell_symbol new s ≡ x → HasName new s → not (is_local s.symbol.binding)
    ≡ true
    → SpellsSeen old ss xs → SpellsSeen new (ss ++ s ∷ []) (xs ++ x ∷ [])
seen_push old new ss xs s x k e is h v p =
    let S : Numbered → Type 0 = λ (s : Numbered). not (is_local s.symbol.binding) ≡ true in
    record {
      spelled = map-append (spell_symbol new) ss (s ∷ [])
          ∙ ap (λ l. l ++ spell_symbol new s ∷ []) (sym (same_symbols old new ss k p.named) ∙ p.spelled)
          ∙ ap (λ y. filter is_seen xs ++ y ∷ []) is
          ∙ sym (filter-append is_seen xs (x ∷ []) ∙ ap (λ b. filter is_seen xs ++ cond b (x ∷ []) []) e);
      named = named_push new ss s (named_kept old new ss k p.named) h;
      seen = All-append S ss (s ∷ []) p.seen (All-cons S s [] v (All-nil S));
    }

-- a symbol to stand past the end of a table
abbrev pub no_symbol : NamedSymbol
no_symbol = record { name = []; symbol = nothing.symbol }

-- what the object says of the symbol at a place
pub local_name : (b : Binding) (name : List ℕ) → is_local b ≡ true → IsNameOf b name → name ≡ []
local_name Local name e h = h
local_name Global name e h = absurd (true≢false (sym e))
local_name Weak name e h = absurd (true≢false (sym e))

pub got : {X : Type 0} (xs : List X) (k : ℕ) (d x : X) → slice_get xs k ≡ Some x → get_or xs k d ≡ x
got xs k d x e = elim (slice_get_cases xs k).1 [
  | inl h ↦ let same : x ≡ h.0 = cc in get_or_default xs k d h.0 h.1 ∙ h.3 ∙ sym same
  | inr h ↦ absurd (cc)
]

pub symbol_is : (symbols : List Symbol) (xs : List NamedSymbol) (k : ℕ) (y : Symbol) (d : NamedSymbol) → symbols
    ≡ map (λ (s : NamedSymbol). s.symbol) xs → k < length xs → get_or symbols k y ≡ (get_or xs k d).symbol
symbol_is symbols xs k y d e h = ap (λ l. get_or l k y) e ∙ get_or-map (λ (s : NamedSymbol). s.symbol) xs k d y h

pub name_is : (xs : List NamedSymbol) (k : ℕ) (name : List ℕ) (d : NamedSymbol)
    → slice_get (map (λ (s : NamedSymbol). s.name) xs) k ≡ Some name → k < length xs → (get_or xs k d).name ≡ name
name_is xs k name d e h = sym (get_or-map (λ (s : NamedSymbol). s.name) xs k d [] h)
    ∙ got (map (λ (s : NamedSymbol). s.name) xs) k [] name e

pub spelled_local : (names : Names) (s : Numbered) (x : NamedSymbol) → s.symbol ≡ x.symbol → is_local x.symbol.binding
    ≡ true → x.name ≡ [] → spell_symbol names s ≡ x
spelled_local names s x e v n =
    let local : is_local s.symbol.binding ≡ true = ap (λ (y : Symbol). is_local y.binding) e ∙ v in
    ap (λ b. make (cond b [] (text (slot names s.name))) s.symbol) local ∙ ap (λ l. make l s.symbol) (sym n)
    ∙ ap (make x.name) e
  where
    make : List ℕ → Symbol → NamedSymbol
    make t y = record { name = t; symbol = y }

pub spelled_seen : (names : Names) (s : Numbered) (x : NamedSymbol) → s.symbol ≡ x.symbol → is_local x.symbol.binding
    ≡ false → IsNamed names s.name x.name → spell_symbol names s ≡ x
spelled_seen names s x e v n =
    let seen : is_local s.symbol.binding ≡ false = ap (λ (y : Symbol). is_local y.binding) e ∙ v in
    ap (λ b. make (cond b [] (text (slot names s.name))) s.symbol) seen ∙ ap (λ o. make (text o) s.symbol) n
    ∙ ap (make x.name) e
  where
    make : List ℕ → Symbol → NamedSymbol
    make t y = record { name = t; symbol = y }

pub adds_none : (k : KnownNames) → AddsNames k k
adds_none k = ([], sym (append-nil k.order))

pub adds_both : (a b c : KnownNames) → AddsNames a b → AddsNames b c → AddsNames a c
adds_both a b c p q = (p.0 ++ q.0, q.1 ∙ ap (λ l. l ++ q.0) p.1 ∙ append_assoc a.order p.0 q.0)
