-- What names are in the output.
use Rattle.emit_relocate.proofs.Common.{Bool, Case, Decision, Entry, InTable, IsLinkView, KnownLink, Layout, LinkView}
use Rattle.emit_relocate.proofs.Common.{List, ObjectPlace, Option, Part, PlacedOutput, PlacedPiece, Project}
use Rattle.emit_relocate.proofs.Common.{SectionIndex, Some, Symbol, [], ap, arith, cond, decided_value, decision}
use Rattle.emit_relocate.proofs.Common.{decision_of, definer_of, false, find, flat_map, get_or, length, list_any}
use Rattle.emit_relocate.proofs.Common.{name_value, object_name, option_map, option_map_or, placed_part, refl}
use Rattle.emit_relocate.proofs.Common.{slice_get, subst, suc, sym, true, zero, ℕ, ◌++◌, ◌+◌, ◌<◌, ◌||◌, ◌∙◌, ◌∷◌, ◌≡◌}
use Rattle.std.proofs.Common.{position, None}
use Rattle.std.proofs.lemmas.List.Quantifiers.{position-Some}
use Rattle.elfobj.specs.file.declared.constants.TheConstants.{SHN_ABS, STT_NOTYPE}
use Rattle.elfobj.specs.declared.symbol.SymbolPlace.{SymbolPlace}
use Rattle.elfobj.specs.declared.symbol.SymbolPlace.TheVariants as place
use Rattle.ldmodel.specs.Each.{Each}
use Rattle.ldmodel.specs.SymbolValues.{SymbolValue, address_in, is_part, own_value, symbol_of_entry}
use Rattle.ldmodel.specs.SymbolValues as model
use Rattle.ldmodel.specs.Tail.{header_of_part, header_of_place, kind_number}
use Rattle.ldmodel_laws.proofs.EachOf.{all_of_each}
use Rattle.emit_relocate.specs.Values.{address_from, value_of}
use Rattle.emit_relocate.specs.declared.value.SymbolValue as code_value
use Rattle.emit_text.specs.declared.definer.Definer.{Definer}
use Rattle.emit_relocate.specs.NameRows.{IsPlaceIn, IsPlaceOf, NameRow, decided_row, entry_row, facts, AreResolvedBelow}
use Rattle.emit_relocate.specs.NameRows.{AreValuesBelow, IsCaseUnder, IsRowUnder, Resolved, resolved, row_of, shown_in}
use Rattle.emit_relocate.specs.NameRows.{shown_resolved}
use Rattle.emit_relocate.specs.SymbolRows.{definer_in, value_in}
use Rattle.emit_relocate.specs.declared.symbol_row.SymbolRow as code_rows
use Rattle.emit_relocate.specs.declared.name_row.Standing.{Standing}

-- ---- the header of the output section that a part of an object stands in

find_split : {X : Type 0} (t : X → Bool) (xs ys : List X) → find t (xs ++ ys) ≡ None
    → (list_any t xs ≡ false) × (find t ys ≡ None)
find_split t [] ys e = (refl, e)
find_split t (x ∷ xs) ys e = go (t x) e (find_split t xs ys)
  where
    go : (b : Bool) → cond b (Some x) (find t (xs ++ ys)) ≡ None
        → (find t (xs ++ ys) ≡ None → (list_any t xs ≡ false) × (find t ys ≡ None))
        → ((b || list_any t xs) ≡ false) × (find t ys ≡ None)
    go true f rest = absurd (let none : ⊥ = cc in none)
    go false f rest = rest f

none_in : (t : PlacedPiece → Bool) (qs : List PlacedOutput) → find t (flat_map (λ (q : PlacedOutput). q.pieces) qs)
    ≡ None → Each (λ (q : PlacedOutput). list_any t q.pieces ≡ false) qs
none_in t [] e = tt
none_in t (q ∷ qs) e =
    let split = find_split t q.pieces (flat_map (λ (r : PlacedOutput). r.pieces) qs) e in
    (split.0, none_in t qs split.1)

no_position : (t : PlacedPiece → Bool) (qs : List PlacedOutput)
    → find t (flat_map (λ (q : PlacedOutput). q.pieces) qs) ≡ None
    → position (λ (q : PlacedOutput). list_any t q.pieces) qs ≡ None
no_position t [] e = refl
no_position t (q ∷ qs) e = go (position (λ (r : PlacedOutput). list_any t r.pieces) (q ∷ qs)) refl
  where
    go : (o : Option ℕ) → position (λ (r : PlacedOutput). list_any t r.pieces) (q ∷ qs) ≡ o → o ≡ None
    go None at = refl
    go (Some i) at =
        let found = position-Some (λ (r : PlacedOutput). list_any t r.pieces) (q ∷ qs) i q at in
        let missed = all_of_each (λ (r : PlacedOutput). list_any t r.pieces ≡ false) (q ∷ qs) (none_in t (q ∷ qs) e) i q
        found.0 in
        let yes : list_any t ((get_or (q ∷ qs) i q).pieces) ≡ true = found.1 in
        absurd (let none : ⊥ = cc in none)

pub header_none : (s : Layout) (o : List ℕ) (part : Part) → placed_part s o part ≡ None → header_of_part s o part
    ≡ SHN_ABS
header_none s o part e = ap (λ n. option_map_or (λ k. k + 1) n SHN_ABS) (no_position (is_part o part) s.sections e)

pub header_some : (s : Layout) (o : List ℕ) (part : Part) (n : ℕ)
    → position (λ (q : PlacedOutput). list_any (is_part o part) q.pieces) s.sections ≡ Some n
    → header_of_part s o part ≡ n + 1
header_some s o part n e = ap (λ k. option_map_or (λ i. i + 1) k SHN_ABS) e

-- ---- where symbols stand

pub address_is : (a : Option PlacedPiece) (n : ℕ) → address_from (option_map (λ (x : PlacedPiece). x.start) a) n
    ≡ address_in a n
address_is None n = refl
address_is (Some x) n = refl

-- a symbol of a section stands where that does
pub in_section : (s : Layout) (o : List ℕ) (y : Symbol) (n : SectionIndex) (x : Standing)
    → y.place ≡ place.Section n → IsPlaceIn s o (InTable n) y.value x → IsPlaceOf s o y x
in_section s o y n x e h = record {
  value = h.value ∙ ap (λ (p : SymbolPlace). own_value s o p y.value) (sym e);
  section = h.section ∙ ap (header_of_place s o) (sym e);
}

-- another is a number
pub in_none : (s : Layout) (o : List ℕ) (y : Symbol) (p : SymbolPlace) (x : Standing) → y.place ≡ p
    → value_of x.value ≡ own_value s o p y.value → x.section ≡ header_of_place s o p → IsPlaceOf s o y x
in_none s o y p x e value section = record {
  value = value ∙ ap (λ (q : SymbolPlace). own_value s o q y.value) (sym e);
  section = section ∙ ap (header_of_place s o) (sym e);
}

-- ---- rows

pub same_row : (v w : SymbolValue) (n m : ℕ) (k size : ℕ) → v ≡ w → n ≡ m
    → (let x : NameRow = record { value = v; facts = record { type = k; section = n; size = size } } in x)
    ≡ record { value = w; facts = record { type = k; section = m; size = size } }
same_row v w n m k size e f =
    ap (λ (u : SymbolValue). let x : NameRow =
    record { value = u; facts = record { type = k; section = n; size = size } } in x) e
    ∙ ap (λ (i : ℕ). let x : NameRow =
    record { value = w; facts = record { type = k; section = i; size = size } } in x) f

module _ (p : Project) (s : Layout) (e : Entry) where
  abbrev pub with_symbol : Option Symbol → NameRow
  with_symbol a = record {
    value = option_map_or (λ (x : Symbol). own_value s (object_name p e.object) x.place x.value) a model.NotDefined;
    facts = record {
      type = option_map_or (λ (x : Symbol). kind_number x.kind) a STT_NOTYPE;
      section = option_map_or (λ (x : Symbol). header_of_place s (object_name p e.object) x.place) a SHN_ABS;
      size = option_map_or (λ (x : Symbol). x.size) a 0;
    };
  }

  -- an entry that is not there
  pub entry_lost : None ≡ symbol_of_entry p e → with_symbol None ≡ entry_row p s e
  entry_lost h = ap with_symbol h

  -- an entry of a symbol
  pub entry_found : (y : Symbol) (x : Standing) → IsPlaceOf s (object_name p e.object) y x
      → Some y ≡ symbol_of_entry p e
      → (let z : NameRow = record {
        value = value_of x.value;
        facts = record { type = kind_number y.kind; section = x.section; size = y.size };
      } in z) ≡ entry_row p s e
  entry_found y x at h =
      same_row (value_of x.value) (own_value s (object_name p e.object) y.place y.value) x.section
      (header_of_place s (object_name p e.object) y.place) (kind_number y.kind) y.size at.value at.section
      ∙ ap with_symbol h

-- the row of a name, by what it stands for
row_by_decision : (p : Project) (s : Layout) (name : List ℕ) (d : Decision) → d ≡ decision p name
    → decided_row p s name d ≡ row_of p s name
unfolding name_value
row_by_decision p s name d e =
    ap (λ (c : Decision). let x : NameRow =
    record { value = decided_value p s name c; facts = facts p s c } in x) e

module _ (l : KnownLink) (v : LinkView) (h : IsLinkView l v) where
  decided_same : (c : Case ObjectPlace) (name : List ℕ) → decision_of l.number c ≡ decision l.project name
      → decision_of (λ key. key) c ≡ decision l.project name
  decided_same c name e =
      sym (ap (λ (f : ℕ → ℕ). decision_of f c) (ap (λ (m : KnownLink). m.number) h.link)) ∙ e

  -- the row of a name, by what its key stands for
  pub row_named : (c : Case ObjectPlace) (name : List ℕ) (x : code_rows.SymbolRow)
      → decision_of l.number c ≡ decision l.project name
      → shown_in x ≡ decided_row l.project l.layout name (decision_of (λ key. key) c)
      → shown_in x ≡ row_of l.project l.layout name
  row_named c name x e is =
      is ∙ row_by_decision l.project l.layout name (decision_of (λ key. key) c) (decided_same c name e)

  -- a name, by its key
  resolved_named : (k : ℕ) (c : Case ObjectPlace) (x : code_rows.SymbolRow) → IsCaseUnder l k c
      → definer_in x ≡ definer_of (decision_of (λ key. key) c) → IsRowUnder l k x
      → (name : List ℕ) → l.name k ≡ Some name → shown_resolved x ≡ resolved l.project l.layout name
  resolved_named k c x case definer row name named =
      ap (λ (d : Definer). let y : Resolved = record { definer = d; row = shown_in x } in y)
      (definer ∙ ap definer_of (decided_same c name (case name named)))
      ∙ ap (λ (r : NameRow). let y : Resolved = record { definer = definer_of (decision l.project name); row = r } in y)
      (row name named)

-- ---- one more in a table

pushed : {X Y : Type 0} (f : X → Y) (xs : List X) (x : X) (k : ℕ) (y : Y)
    → (k < length xs → option_map f (slice_get xs k) ≡ Some y) → (k ≡ length xs → f x ≡ y) → k < length xs + 1
    → option_map f (slice_get (xs ++ x ∷ []) k) ≡ Some y
pushed f [] x zero y below last l = ap (λ z. Some z) (last refl)
pushed f [] x (suc k) y below last l = absurd (omega (arith, l))
pushed f (z ∷ zs) x zero y below last l = below (omega arith)
pushed f (z ∷ zs) x (suc k) y below last l =
    pushed f zs x k y (λ m. below (omega (arith, m))) (λ e. last (ap suc e)) (omega (arith, l))

one_more : {X Y : Type 0} (l : KnownLink) (f : X → Y) (g : List ℕ → Y) (n : ℕ) (old new : List X) (x : X)
    → length old ≡ n → new ≡ old ++ x ∷ [] → ((name : List ℕ) → l.name n ≡ Some name → f x ≡ g name)
    → ((k : ℕ) (name : List ℕ) → k < n → l.name k ≡ Some name → option_map f (slice_get old k) ≡ Some (g name))
    → (k : ℕ) (name : List ℕ) → k < n + 1 → l.name k ≡ Some name → option_map f (slice_get new k) ≡ Some (g name)
one_more l f g n old new x long e one all k name below is =
    ap (λ xs. option_map f (slice_get xs k)) e
    ∙ pushed f old x k (g name) (λ m. all k name (omega (arith, m, long)) is)
    (λ last. one name (subst (λ i. l.name i ≡ Some name) (last ∙ long) is)) (omega (arith, below, long))

module _ (l : KnownLink) (v : LinkView) (h : IsLinkView l v) (n : ℕ) (c : Case ObjectPlace) (x : code_rows.SymbolRow)
    (case : IsCaseUnder l n c) (definer : definer_in x ≡ definer_of (decision_of (λ key. key) c))
    (row : IsRowUnder l n x) where
  pub rows_more : (old new : List code_rows.SymbolRow) → length old ≡ n → new ≡ old ++ x ∷ []
      → AreResolvedBelow l n old → AreResolvedBelow l (n + 1) new
  rows_more old new long e all =
      one_more l shown_resolved (resolved l.project l.layout) n old new x long e
      (resolved_named l v h n c x case definer row) all

  pub values_more : (old new : List code_value.SymbolValue) → length old ≡ n → new ≡ old ++ (value_in x) ∷ []
      → AreValuesBelow l n old → AreValuesBelow l (n + 1) new
  values_more old new long e all =
      one_more l value_of (name_value l.project l.layout) n old new (value_in x) long e
      (λ name named. ap (λ (r : NameRow). r.value) (row name named)) all
