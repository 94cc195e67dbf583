-- Tables of symbols under keys, from entries and by places.
use Rattle.ldmodel_project.proofs.Common.{AreKeysDistinct, IsAmong, List, Listed, NamedSymbol, None, Option, Some, ap}
use Rattle.ldmodel_project.proofs.Common.{arith, enumerate_from, eq-eqb, get_or, get_or-map, insert, is_other, length}
use Rattle.ldmodel_project.proofs.Common.{length-map, map, named_under, nat_eq, not, refl, same_lists, subst, sym}
use Rattle.ldmodel_project.proofs.Common.{unedited, unwrap_or, ℕ, ◌+◌, ◌<◌, ◌∙◌, ◌≡◌}
use Rattle.std.proofs.lemmas.List.FromFn.{length-enumerate_from, get_or-enumerate_from}
use Rattle.ldmodel_project.specs.Tables.{HasTableAt, place_or_0, symbols_under, tables_under, without_table}
use Rattle.ldmodel_project.proofs.Counts.{map-insert}
use Rattle.ldmodel_project.proofs.Noting.{once}
use Rattle.ldmodel_project.proofs.Placed.{filter-mapped}
use Rattle.ldmodel_project.proofs.Places.{position-some}

abbrev table_of : Listed → ℕ × List NamedSymbol
table_of e = (e.key, e.named.object.symbols)

-- the tables of the other entries are the other tables
tables-unedited : (key : ℕ) (entries : List Listed)
    → without_table key (tables_under entries) ≡ tables_under (unedited (Some key) entries)
tables-unedited key entries =
    filter-mapped (λ (e : Listed). is_other (Some key) e.key) (λ (t : ℕ × List NamedSymbol). not (nat_eq t.0 key))
    table_of (λ e. refl) entries

-- where an entry stands among others, its table does
pub table-among : (key : ℕ) (place : Option ℕ) (entries : List Listed) → IsAmong (Some key) place entries
    → HasTableAt key (symbols_under entries key) place (without_table key (tables_under entries)) (tables_under entries)
table-among key None entries h = ap tables_under h ∙ sym (tables-unedited key entries)
table-among key (Some place) entries h =
    let rest : List Listed = unedited (Some key) entries in
    let here : Listed = record { key = key; named = named_under entries key } in
    let others : without_table key (tables_under entries) ≡ tables_under rest = tables-unedited key entries in
    let long : length (without_table key (tables_under entries)) ≡ length rest =
    ap (λ (ts : List (ℕ × List NamedSymbol)). length ts) others ∙ length-map rest table_of in (
      omega (arith, long, h.0),
      ap tables_under h.1
          ∙ (map-insert table_of rest place here
          ∙ ap (λ (ts : List (ℕ × List NamedSymbol)). insert ts place (table_of here)) (sym others)),
    )

-- an edit leaves the other tables
pub tables-others : (entries next : List Listed) (edited : Option ℕ) (key : ℕ) → edited ≡ Some key
    → unedited edited next ≡ unedited edited entries
    → without_table key (tables_under next) ≡ without_table key (tables_under entries)
tables-others entries next edited key e others =
    tables-unedited key next
    ∙ (ap tables_under (subst (λ (t : Option ℕ). unedited t next ≡ unedited t entries) e others)
    ∙ sym (tables-unedited key entries))

-- the place of the key at a place
place_at : (keys : List ℕ) (k key : ℕ) → AreKeysDistinct keys → k < length keys → get_or keys k 0 ≡ key
    → place_or_0 keys key ≡ k
place_at keys k key distinct within here =
    ap (λ (o : Option ℕ). unwrap_or o 0)
    (position-some (nat_eq key) keys k 0 within (λ j q. once keys key j k distinct q within here)
    (eq-eqb key (get_or keys k 0) (sym here)))

-- where each table goes from its key to the key's place, the places are those in the list
pub tables-placed : (keys : List ℕ) (tables : List (ℕ × List NamedSymbol)) → AreKeysDistinct keys
    → map (λ (t : ℕ × List NamedSymbol). t.0) tables ≡ keys
    → map (λ (t : ℕ × List NamedSymbol). (place_or_0 keys t.0, t.1)) tables
    ≡ enumerate_from 0 (map (λ (t : ℕ × List NamedSymbol). t.1) tables)
tables-placed keys tables distinct keyed =
    same_lists (map by_place tables) (enumerate_from 0 (map (λ (t : ℕ × List NamedSymbol). t.1) tables)) long
    (λ k d h. at k d (omega (arith, h, length-map tables by_place)))
  where
    by_place : ℕ × List NamedSymbol → ℕ × List NamedSymbol
    by_place t = (place_or_0 keys t.0, t.1)

    long : length (map by_place tables)
        ≡ length (enumerate_from 0 (map (λ (t : ℕ × List NamedSymbol). t.1) tables))
    long =
        length-map tables by_place
        ∙ sym (length-enumerate_from 0 (map (λ (t : ℕ × List NamedSymbol). t.1) tables)
        ∙ length-map tables (λ (t : ℕ × List NamedSymbol). t.1))

    at : (k : ℕ) (d : ℕ × List NamedSymbol) → k < length tables
        → get_or (map by_place tables) k d
        ≡ get_or (enumerate_from 0 (map (λ (t : ℕ × List NamedSymbol). t.1) tables)) k d
    at k d h =
        let here : ℕ × List NamedSymbol = get_or tables k d in
        let many : length keys ≡ length tables =
        ap (λ (ks : List ℕ). length ks) (sym keyed) ∙ length-map tables (λ (t : ℕ × List NamedSymbol). t.0) in
        let key : get_or keys k 0 ≡ here.0 =
        ap (λ (ks : List ℕ). get_or ks k 0) (sym keyed)
        ∙ get_or-map (λ (t : ℕ × List NamedSymbol). t.0) tables k d 0 h in
        let placed : place_or_0 keys here.0 ≡ 0 + k =
        place_at keys k here.0 distinct (omega (arith, many)) key ∙ omega arith in
        let symbols : get_or (map (λ (t : ℕ × List NamedSymbol). t.1) tables) k d.1 ≡ here.1 =
        get_or-map (λ (t : ℕ × List NamedSymbol). t.1) tables k d d.1 h in
        get_or-map by_place tables k d d h
        ∙ (ap (λ (n : ℕ). let t : ℕ × List NamedSymbol = (n, here.1) in t) placed
        ∙ (ap (λ (ss : List NamedSymbol). let t : ℕ × List NamedSymbol = (0 + k, ss) in t) (sym symbols)
        ∙ sym (get_or-enumerate_from 0 (map (λ (t : ℕ × List NamedSymbol). t.1) tables) k d
        (omega (arith, h, length-map tables (λ (t : ℕ × List NamedSymbol). t.1))))))
