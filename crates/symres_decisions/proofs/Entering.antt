-- The first objects of a list are entered.
use Rattle.symres_decisions.proofs.Common.{List, NamedSymbol, [], ap, arith, false, get_or, get_or-map, get_or-take}
use Rattle.symres_decisions.proofs.Common.{insert, length, length-map, length-take-le, ne_eqb, suc, sym, table_of}
use Rattle.symres_decisions.proofs.Common.{tables_of, take, take-suc, ℕ, ◌++◌, ◌+◌, ◌<◌, ◌==◌, ◌∙◌, ◌∷◌, ◌≡◌, ◌≤◌}
use Rattle.std.proofs.lemmas.List.Edits.{insert_end}
use Rattle.symres_decisions.specs.Keyed.{AreApart}
use Rattle.symres_decisions.specs.declared.keyed_object.KeyedObject.{KeyedObject}

abbrev pub Table : Type 0
Table = ℕ × List NamedSymbol

pub length-first : (xs : List KeyedObject) (n : ℕ) → n ≤ length xs → length (take n (tables_of xs)) ≡ n
length-first xs n h = length-take-le n (tables_of xs) (omega (arith, h, length-map xs table_of))

pub one_entered : (xs : List KeyedObject) (i : ℕ) (x : KeyedObject) → i < length xs → get_or xs i x ≡ x
    → insert (take i (tables_of xs)) i (table_of x) ≡ take (i + 1) (tables_of xs)
one_entered xs i x within here =
    let t : Table = table_of x in
    let tables : List Table = tables_of xs in
    let first : length (take i tables) ≡ i = length-first xs i (omega (arith, within)) in
    let at : get_or tables i t ≡ t = get_or-map table_of xs i x t within ∙ ap table_of here in
    let end : insert (take i tables) i t ≡ take i tables ++ t ∷ [] =
    ap (λ (n : ℕ). insert (take i tables) n t) (sym first) ∙ insert_end (take i tables) t in
    let more : take (suc i) tables ≡ take i tables ++ get_or tables i t ∷ [] =
    take-suc tables i t (omega (arith, within, length-map xs table_of)) in
    let suc_is : suc i ≡ i + 1 = omega arith in
    end
    ∙ (ap (λ (y : Table). take i tables ++ y ∷ []) (sym at)
    ∙ (sym more ∙ ap (λ (n : ℕ). take n tables) suc_is))

-- those before an object have other keys
pub fresh_at : (xs : List KeyedObject) (i k : ℕ) (x : KeyedObject) (d : Table) → AreApart xs → i < length xs
    → get_or xs i x ≡ x
    → k < length (take i (tables_of xs)) → ((get_or (take i (tables_of xs)) k d).0 == x.key.0) ≡ false
fresh_at xs i k x d apart within here h =
    let below : k < i = omega (arith, h, length-first xs i (omega (arith, within))) in
    let key : (get_or (take i (tables_of xs)) k d).0 ≡ (get_or xs k x).key.0 =
    ap (λ (t : Table). t.0)
    (get_or-take i (tables_of xs) k d below ∙ get_or-map table_of xs k x d (omega (arith, below, within))) in
    ap (λ (n : ℕ). n == x.key.0) key
    ∙ ne_eqb (get_or xs k x).key.0 x.key.0
    (λ e. apart k i x below within (e ∙ ap (λ (y : KeyedObject). y.key.0) (sym here)))
