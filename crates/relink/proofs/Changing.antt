-- What goes and what comes under the key of the object that an edit touches.
use Rattle.relink.proofs.Common.{Bool, CanGo, ChangesOneObject, IsChange, List, Listed, NamedObject, NamedSymbol, None}
use Rattle.relink.proofs.Common.{ObjectAt, ObjectChange, Option, Some, StagedObjects, Table, [], ap, arith, beside}
use Rattle.relink.proofs.Common.{changed_tables, declared_by, declared_in, edited_key, eqb, false, found_under, get_or}
use Rattle.relink.proofs.Common.{get_or-insert_at, insert, is_some, keys_of, length, length-insert, names_at, nat_eq}
use Rattle.relink.proofs.Common.{next_entries, not, option_map, place_at, place_in, position, refl, remove, reversed}
use Rattle.relink.proofs.Common.{shown_at, subst, sym, tables_under, true, unnamed, unwrap_or, ℕ, ◌∙◌, ◌≡◌}
use Rattle.std.proofs.lemmas.List.Elements.{filter_passes}
use Rattle.elfobj.specs.Object.{ObjectData}
use Rattle.symres.specs.decisions.Change.{CanCome, Fits, put_in, taken_out}
use Rattle.ldmodel_project.specs.Tables.{HasTableAt, symbols_under, without_table}
use Rattle.symres.specs.table.State.{IsFresh}
use Rattle.relink.proofs.Lists.{remove_insert}

abbrev pair : ℕ → ObjectData → ℕ × ObjectData
pair i o = (i, o)

abbrev pub object_or : Option NamedObject → Option ObjectData
object_or f = option_map (λ (o : NamedObject). o.object) f

abbrev pub symbols_or_none : Option NamedObject → List NamedSymbol
symbols_or_none f = (unwrap_or f unnamed).object.symbols

-- the names that an object declares, where it stands at a place
abbrev pub names_or : Option ℕ → Option NamedObject → List (List ℕ)
names_or None f = []
names_or (Some i) f = declared_in (symbols_or_none f)

not_true : (b : Bool) → not b ≡ true → b ≡ false
not_true true h = absurd (cc)
not_true false h = refl

fresh_without : (key : ℕ) (ts : List Table) → IsFresh key (without_table key ts)
fresh_without key ts = λ j t l.
    not_true (eqb (get_or (without_table key ts) j t).0 key)
    (filter_passes (λ (t : Table). not (eqb t.0 key)) ts j t l)

-- what goes stands among the tables
pub record Goes (key : ℕ) (b : Option ℕ) (f : Option NamedObject) (ts : List Table) (x : Option ObjectAt) : Type 0 where
  pub can : CanGo ts key x
  pub rest : taken_out ts key x ≡ without_table key ts
  pub place : place_at x ≡ b
  pub names : declared_by x ≡ names_or b f

pub goes : (key : ℕ) (b : Option ℕ) (f : Option NamedObject) (ts : List Table) (x : Option ObjectAt)
    → is_some b ≡ is_some f → shown_at x ≡ beside b (object_or f)
    → HasTableAt key (symbols_or_none f) b (without_table key ts) ts → Goes key b f ts x
goes key None f ts None e s h = record {
  can = subst (IsFresh key) (sym h) (fresh_without key ts);
  rest = h;
  place = refl;
  names = refl;
}
goes key None f ts (Some y) e s h = absurd (cc)
goes key (Some i) None ts x e s h = absurd (cc)
goes key (Some i) (Some o) ts None e s h = absurd (cc)
goes key (Some i) (Some o) ts (Some y) e s h =
    let both : pair y.place y.object.now ≡ pair i o.object = cc in
    let place : y.place ≡ i = ap (λ (p : ℕ × ObjectData). p.0) both in
    let object : y.object.now ≡ o.object = ap (λ (p : ℕ × ObjectData). p.1) both in
    let rest : List Table = without_table key ts in
    let table : Table = (key, o.object.symbols) in
    record {
      can = record {
        within = omega (arith, place, ap (λ (l : List Table). length l) h.1, length-insert rest i table h.0);
        is = λ t.
            ap (λ (l : List Table). get_or l y.place t) h.1
            ∙ (ap (λ (k : ℕ). get_or (insert rest i table) k t) place
            ∙ (get_or-insert_at rest i table t h.0
            ∙ ap (λ (d : ObjectData). let u : Table = (key, d.symbols) in u) (sym object)));
        only = subst (IsFresh key)
            (sym (ap (λ (l : List Table). remove l y.place) h.1
            ∙ (ap (λ (k : ℕ). remove (insert rest i table) k) place ∙ remove_insert rest i table h.0)))
            (fresh_without key ts);
      };
      rest = refl;
      place = ap (λ (k : ℕ). let p : Option ℕ = Some k in p) place;
      names = ap (λ (d : ObjectData). declared_in d.symbols) object;
    }

-- what comes stands among those that follow
pub record Comes (key : ℕ) (a : Option ℕ) (f : Option NamedObject) (rest ts : List Table) (x : Option ObjectAt)
    : Type 0 where
  pub can : CanCome rest x
  pub tables : put_in rest key x ≡ ts
  pub place : place_at x ≡ a
  pub names : declared_by x ≡ names_or a f

pub comes : (key : ℕ) (a : Option ℕ) (f : Option NamedObject) (rest ts : List Table) (x : Option ObjectAt)
    → is_some a ≡ is_some f → shown_at x ≡ beside a (object_or f) → HasTableAt key (symbols_or_none f) a rest ts
    → Comes key a f rest ts x
comes key None f rest ts None e s h = record {
  can = tt;
  tables = sym h;
  place = refl;
  names = refl;
}
comes key None f rest ts (Some y) e s h = absurd (cc)
comes key (Some i) None rest ts x e s h = absurd (cc)
comes key (Some i) (Some o) rest ts None e s h = absurd (cc)
comes key (Some i) (Some o) rest ts (Some y) e s h =
    let both : pair y.place y.object.now ≡ pair i o.object = cc in
    let place : y.place ≡ i = ap (λ (p : ℕ × ObjectData). p.0) both in
    let object : y.object.now ≡ o.object = ap (λ (p : ℕ × ObjectData). p.1) both in
    record {
      can = omega (arith, place, h.0);
      tables = ap (λ (k : ℕ). insert rest k (let u : Table = (key, y.object.now.symbols) in u)) place
          ∙ (ap (λ (d : ObjectData). insert rest i (let u : Table = (key, d.symbols) in u)) object ∙ sym h.1);
      place = ap (λ (k : ℕ). let p : Option ℕ = Some k in p) place;
      names = ap (λ (d : ObjectData). declared_in d.symbols) object;
    }

names_where : (b : Option ℕ) (entries : List Listed) (key : ℕ) → names_or b (found_under entries key)
    ≡ names_at b entries key
names_where None entries key = refl
names_where (Some i) entries key = refl

-- the change of an edit
pub is_change : (entries : List Listed) (s : StagedObjects) (key : ℕ) (c : ObjectChange) → c.key.0 ≡ key
    → ChangesOneObject entries s → edited_key s.step ≡ Some key
    → ((es : List Listed) → is_some (position (nat_eq key) (keys_of es)) ≡ is_some (found_under es key))
    → shown_at c.out ≡ beside s.places.before (object_or (found_under entries key))
    → shown_at c.into ≡ beside s.places.after (object_or (found_under (next_entries entries s) key))
    → HasTableAt key (symbols_under entries key) s.places.before (without_table key (tables_under entries))
    (tables_under entries)
    → HasTableAt key (symbols_under (next_entries entries s) key) s.places.after
    (without_table key (tables_under entries)) (tables_under (next_entries entries s))
    → ((ts : List Table) → Fits ts c → changed_tables (changed_tables ts c) (reversed c) ≡ ts)
    → IsChange entries s key c
is_change entries s key c is arranged edited found out into before after back =
    let next : List Listed = next_entries entries s in
    let ts : List Table = tables_under entries in
    let rest : List Table = without_table key ts in
    let placed_before : is_some s.places.before ≡ is_some (found_under entries key) =
    ap is_some (arranged.place_before ∙ ap (place_in (keys_of entries)) edited) ∙ found entries in
    let placed_after : is_some s.places.after ≡ is_some (found_under next key) =
    ap is_some (arranged.place_after ∙ ap (place_in (keys_of next)) edited) ∙ found next in
    let g = goes key s.places.before (found_under entries key) ts c.out placed_before out before in
    let m = comes key s.places.after (found_under next key) rest (tables_under next) c.into placed_after into after in
    let fits : Fits ts c = record {
      out = subst (λ (k : ℕ). CanGo ts k c.out) (sym is) g.can;
      into = subst (λ (k : ℕ). CanCome (taken_out ts k c.out) c.into) (sym is)
          (subst (λ (l : List Table). CanCome l c.into) (sym g.rest) m.can);
    } in
    let tables : changed_tables ts c ≡ tables_under next =
    ap (λ (k : ℕ). put_in (taken_out ts k c.out) k c.into) is
    ∙ (ap (λ (l : List Table). put_in l key c.into) g.rest ∙ m.tables) in
    record {
      is = is;
      fits = fits;
      tables = tables;
      back = ap (λ (l : List Table). changed_tables l (reversed c)) (sym tables) ∙ back ts fits;
      before = g.place;
      after = m.place;
      out = g.names ∙ names_where s.places.before entries key;
      into = m.names ∙ names_where s.places.after next key;
      there = placed_after;
    }
