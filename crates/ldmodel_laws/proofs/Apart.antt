-- Fields of an input section share no byte and lie in it.
use Rattle.ldmodel_laws.proofs.Common.{All, Bool, Each, EachLater, Err, IsWithin, Layout, LinkedSection, List}
use Rattle.ldmodel_laws.proofs.Common.{NamedObject, None, NotDefined, NotInOutput, Number, Ok, Option, Patch, Project}
use Rattle.ldmodel_laws.proofs.Common.{Relocation, Site, Some, SymbolValue, [], ap, arith, cond, cons_option, false}
use Rattle.ldmodel_laws.proofs.Common.{field_of, fields_of, filter, filter_map, is_evaluated, length, little_bytes, map}
use Rattle.ldmodel_laws.proofs.Common.{max, min, nat_lt, patch_end, patch_of, refl, site_field, site_field_with}
use Rattle.ldmodel_laws.proofs.Common.{site_value, subst, true, width, ℕ, ◌<◌, ◌∙◌, ◌∷◌, ◌≡◌, ◌≤◌}
use Rattle.elfobj.specs.Profile as object
use Rattle.elfobj.specs.Relocations.{meets, field_end}
use Rattle.elfobj.specs.declared.relocation.RelocationKind.{RelocationKind}
use Rattle.elfobj.specs.declared.relocation.RelocationKind.TheVariants as kind
use Rattle.emit_fields.specs.Fields.{fits, relocation_value}
use Rattle.emit_fields.specs.Patches as patches
use Rattle.ldmodel.specs.Relocations.{site_place, field_or_overflow}
use Rattle.ldmodel_laws.proofs.EachOf.{each_of_all, all_of_each, later_of_pairs, pairs_of_later}

-- where a field stands
pub record Stands (r : Relocation) (a : Patch) : Type 0 where
  pub offset : a.offset ≡ r.offset
  pub wide : length a.field ≡ width r.kind
  pub some : 0 < width r.kind

bytes_wide : (k : RelocationKind) (v : ℕ) → length (little_bytes (width k) v) ≡ width k
bytes_wide kind.None v = refl
bytes_wide kind.Abs64 v = refl
bytes_wide kind.Pc32 v = refl
bytes_wide kind.Plt32 v = refl
bytes_wide kind.Abs32 v = refl
bytes_wide kind.Abs32Signed v = refl
bytes_wide kind.Abs16 v = refl
bytes_wide kind.Pc16 v = refl
bytes_wide kind.Abs8 v = refl
bytes_wide kind.Pc8 v = refl
bytes_wide kind.Pc64 v = refl

pub some_width : (k : RelocationKind) → is_evaluated k ≡ true → 0 < width k
some_width kind.None e = absurd (let none : ⊥ = cc in none)
some_width kind.Abs64 e = omega arith
some_width kind.Pc32 e = omega arith
some_width kind.Plt32 e = omega arith
some_width kind.Abs32 e = omega arith
some_width kind.Abs32Signed e = omega arith
some_width kind.Abs16 e = omega arith
some_width kind.Pc16 e = omega arith
some_width kind.Abs8 e = omega arith
some_width kind.Pc8 e = omega arith
some_width kind.Pc64 e = omega arith

patch_stands : (t : Site) (field : List ℕ) (a : Patch) → length field ≡ width t.relocation.kind
    → 0 < width t.relocation.kind → patch_of t (Ok field) ≡ Some a → Stands t.relocation a
patch_stands t field a l w e =
    let same : record { offset = t.relocation.offset; field = field } ≡ a = cc in
    subst (Stands t.relocation) same (record { offset = refl; wide = l; some = w })

value_stands : (t : Site) (x : ℕ) (a : Patch) → 0 < width t.relocation.kind
    → patch_of t (field_or_overflow t (field_of t.relocation x (site_place t))) ≡ Some a → Stands t.relocation a
unfolding field_of
value_stands t x a w e = go (fits t.relocation.kind (relocation_value t.relocation x (site_place t))) e
  where
    go : (b : Bool) → patch_of t
        (field_or_overflow t (cond b
        (Ok (little_bytes (width t.relocation.kind) (relocation_value t.relocation x (site_place t))))
        (Err (record { value = relocation_value t.relocation x (site_place t) })))) ≡ Some a → Stands t.relocation a
    go true k = patch_stands t _ a (bytes_wide t.relocation.kind (relocation_value t.relocation x (site_place t))) w k
    go false k = absurd (let none : ⊥ = cc in none)

site_stands : (t : Site) (v : SymbolValue) (a : Patch) → 0 < width t.relocation.kind → patch_of t (site_field_with t v)
    ≡ Some a → Stands t.relocation a
site_stands t (Number x) a w e = value_stands t x a w e
site_stands t NotDefined a w e = absurd (let none : ⊥ = cc in none)
site_stands t NotInOutput a w e = absurd (let none : ⊥ = cc in none)

module _ (p : Project) (s : Layout) (o : NamedObject) (x : LinkedSection) (start : ℕ) where
  abbrev site : Relocation → Site
  site r = record { object = o; section = x; start = start; relocation = r }

  abbrev patch : Site → Option Patch
  patch t = patch_of t (site_field p s t)

  abbrev fields : List Relocation → List Patch
  fields rs = filter_map patch (map site (filter (λ (r : Relocation). is_evaluated r.kind) rs))

  pub stands : (r : Relocation) (a : Patch) → is_evaluated r.kind ≡ true → patch (site r) ≡ Some a → Stands r a
  unfolding site_field
  stands r a e k = site_stands (site r) (site_value p s (site r)) a (some_width r.kind e) k

  -- what holds of each relocation holds of its field
  each_field : (P : Relocation → Type 0) (Q : Patch → Type 0) → ((r : Relocation) (a : Patch) → P r → Stands r a → Q a)
      → (rs : List Relocation) → Each P rs → Each Q (fields rs)
  each_field P Q f [] h = tt
  each_field P Q f (r ∷ rs) h = go (is_evaluated r.kind) refl (each_field P Q f rs h.1)
    where
      on : is_evaluated r.kind ≡ true → (m : Option Patch) → patch (site r) ≡ m → Each Q (fields rs)
          → Each Q (cons_option m (fields rs))
      on e (Some a) k rest = (f r a h.0 (stands r a e k), rest)
      on e None k rest = rest

      go : (b : Bool) → is_evaluated r.kind ≡ b → Each Q (fields rs)
          → Each Q (filter_map patch
          (map site (cond b (r ∷ filter (λ (q : Relocation). is_evaluated q.kind) rs)
          (filter (λ (q : Relocation). is_evaluated q.kind) rs))))
      go true e rest = on e (patch (site r)) refl rest
      go false e rest = rest

  abbrev Clear : Relocation → Relocation → Type 0
  Clear r q = meets r q ≡ false

  abbrev ClearFields : Patch → Patch → Type 0
  ClearFields a b = patches.patches_meet a b ≡ false

  clear : (r q : Relocation) (a b : Patch) → Clear r q → Stands r a → Stands q b → ClearFields a b
  clear r q a b h k l =
      let end_a : patch_end a ≡ field_end r =
      (let i : a.offset ≡ r.offset = k.offset in let j : length a.field ≡ width r.kind = k.wide in
      omega (arith, i, j)) in
      let end_b : patch_end b ≡ field_end q =
      (let i : b.offset ≡ q.offset = l.offset in let j : length b.field ≡ width q.kind = l.wide in
      omega (arith, i, j)) in
      ap (λ n. nat_lt (max n b.offset) (min (patch_end a) (patch_end b))) k.offset
      ∙ ap (λ n. nat_lt (max r.offset n) (min (patch_end a) (patch_end b))) l.offset
      ∙ ap (λ n. nat_lt (max r.offset q.offset) (min n (patch_end b))) end_a
      ∙ ap (λ n. nat_lt (max r.offset q.offset) (min (field_end r) n)) end_b ∙ h

  later_fields : (rs : List Relocation) → EachLater Clear rs → EachLater ClearFields (fields rs)
  later_fields [] h = tt
  later_fields (r ∷ rs) h = go (is_evaluated r.kind) refl (later_fields rs h.1)
    where
      on : is_evaluated r.kind ≡ true → (m : Option Patch) → patch (site r) ≡ m → EachLater ClearFields (fields rs)
          → EachLater ClearFields (cons_option m (fields rs))
      on e (Some a) k rest =
          (each_field (Clear r) (ClearFields a) (λ q b c l. clear r q a b c (stands r a e k) l) rs h.0, rest)
      on e None k rest = rest

      go : (b : Bool) → is_evaluated r.kind ≡ b → EachLater ClearFields (fields rs)
          → EachLater ClearFields
          (filter_map patch (map site
          (cond b (r ∷ filter (λ (q : Relocation). is_evaluated q.kind) rs)
          (filter (λ (q : Relocation). is_evaluated q.kind) rs))))
      go true e rest = on e (patch (site r)) refl rest
      go false e rest = rest

pub fields_apart : (p : Project) (s : Layout) (o : NamedObject) (x : LinkedSection) (start : ℕ)
    → object.AreApart x.relocations → patches.AreApart (fields_of p s o x start)
fields_apart p s o x start h =
    pairs_of_later (λ (a b : Patch). patches.patches_meet a b ≡ false) (fields_of p s o x start)
    (later_fields p s o x start x.relocations
    (later_of_pairs (λ (r q : Relocation). meets r q ≡ false) x.relocations h))

pub fields_within : (p : Project) (s : Layout) (o : NamedObject) (x : LinkedSection) (start : ℕ)
    → All (λ (r : Relocation). field_end r ≤ x.size) x.relocations → All (IsWithin x.size) (fields_of p s o x start)
fields_within p s o x start h =
    all_of_each (IsWithin x.size) (fields_of p s o x start)
    (each_field p s o x start (λ (r : Relocation). field_end r ≤ x.size) (IsWithin x.size) within x.relocations
    (each_of_all (λ (r : Relocation). field_end r ≤ x.size) x.relocations h))
  where
    within : (r : Relocation) (a : Patch) → field_end r ≤ x.size → Stands r a → IsWithin x.size a
    within r a l k =
        let i : a.offset ≡ r.offset = k.offset in
        let j : length a.field ≡ width r.kind = k.wide in
        let w : 0 < width r.kind = k.some in
        record { some = omega (arith, j, w); end = omega (arith, i, j, l) }
