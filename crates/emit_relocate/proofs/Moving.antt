-- Sites of sections that stayed, of which those are evaluated whose symbol has another value.
use Rattle.emit_relocate.proofs.Common.{AreRetargetedFiled, Counts, FileRange, GoodLink, HasSameValues, InTable}
use Rattle.emit_relocate.proofs.Common.{IsCounted, IsFiled, IsPlacedAt, KnownLink, LinkedSection, List, NamedObject}
use Rattle.emit_relocate.proofs.Common.{NotInOutput, Number, ObjectPlace, ObjectSection, Option, Patch, PlacedInput}
use Rattle.emit_relocate.proofs.Common.{PlacedPiece, Relocation, Site, Some, [], ap, append-nil, append_assoc, arith}
use Rattle.emit_relocate.proofs.Common.{eq-eqb, false, file_patch_at, filter, filter-append, filter_map}
use Rattle.emit_relocate.proofs.Common.{filter_map-append, get_or, has_new_value, is_evaluated, is_same_value, length}
use Rattle.emit_relocate.proofs.Common.{map, named_object, not, option_map_or, own_sites, placed_part, refl, site_value}
use Rattle.emit_relocate.proofs.Common.{sites_among, sites_at_hand, subst, sym, take, take-length, true, ℕ, ◌++◌, ◌+◌}
use Rattle.emit_relocate.proofs.Common.{◌<◌, ◌^◌, ◌∙◌, ◌∷◌, ◌≡◌, ◌≤◌}
use Rattle.std.proofs.Common.{None}
use Rattle.ldmodel.specs.Relocations.{sites_at}
use Rattle.ldmodel.specs.SymbolValues.{SymbolValue, NotDefined}
use Rattle.ldmodel.specs.declared.fault.Fault as code
use Rattle.emit_relocate.specs.Links.{IsPlaceOf}
use Rattle.emit_relocate.proofs.Added.{among_more, counted_more, tried_nothing}

-- a value is the same as itself
same_self : (v : SymbolValue) → is_same_value v v ≡ true
same_self (Number a) = eq-eqb a a refl
same_self NotDefined = refl
same_self NotInOutput = refl

module _ (old : GoodLink) (l : KnownLink) where
  pub unmoved : (t : Site) → site_value old.project old.layout t ≡ site_value l.project l.layout t
      → has_new_value old l t ≡ false
  unmoved t e =
      ap (λ v. not (is_same_value v (site_value l.project l.layout t))) e
      ∙ ap not (same_self (site_value l.project l.layout t))

  module _ (r : FileRange) where
    -- by the list of those that were evaluated
    moved_by : (ts fs : List Site) (p0 p1 : List Patch) (g0 g1 : List code.Fault) (m0 m1 : Counts)
        → filter (has_new_value old l) ts ≡ fs → p1 ≡ p0 ++ filter_map (file_patch_at l r) fs
        → IsCounted l fs g0 g1 m0 m1 → AreRetargetedFiled old l r ts p0 p1 g0 g1 m0 m1
    moved_by ts fs p0 p1 g0 g1 m0 m1 e patches counts = record {
      patches = patches ∙ ap (λ xs. p0 ++ filter_map (file_patch_at l r) xs) (sym e);
      counts = subst (λ xs. IsCounted l xs g0 g1 m0 m1) (sym e) counts;
    }

    -- nothing was evaluated
    pub moved_nothing : (ps : List Patch) (gs : List code.Fault) (m : Counts) → m.fields < 2 ^ 64
        → AreRetargetedFiled old l r [] ps ps gs gs m m
    moved_nothing ps gs m h = record {
      patches = sym (append-nil ps);
      counts = (tried_nothing l ps gs m h).counts;
    }

    pub moved_none : (o : NamedObject) (x : LinkedSection) (start : ℕ) (a : Relocation) (ps : List Patch)
        (gs : List code.Fault) (m : Counts) → is_evaluated a.kind ≡ false → m.fields < 2 ^ 64
        → AreRetargetedFiled old l r (sites_among o x start (a ∷ [])) ps ps gs gs m m
    moved_none o x start a ps gs m e h = rw e (moved_nothing ps gs m h)

    module _ (o : NamedObject) (x : LinkedSection) (start : ℕ) (a : Relocation) (own : is_evaluated a.kind ≡ true) where
      abbrev site : Site
      site = record { object = o; section = x; start = start; relocation = a }

      pub moved_same : (ps : List Patch) (gs : List code.Fault) (m : Counts) → has_new_value old l site ≡ false
          → m.fields < 2 ^ 64 → AreRetargetedFiled old l r (sites_among o x start (a ∷ [])) ps ps gs gs m m
      moved_same ps gs m e h =
          let none = moved_nothing ps gs m h in
          rw own (moved_by (site ∷ []) [] ps ps gs gs m m (rw e refl) none.patches none.counts)

      -- it was evaluated, since its symbol has another value
      pub moved_filed : has_new_value old l site ≡ true
          → (p0 p1 : List Patch) (g0 g1 : List code.Fault) (m0 m1 : Counts)
          → IsFiled l r (sites_among o x start (a ∷ [])) p0 p1 g0 g1 m0 m1
          → AreRetargetedFiled old l r (sites_among o x start (a ∷ [])) p0 p1 g0 g1 m0 m1
      moved_filed differs p0 p1 g0 g1 m0 m1 h =
          let one : sites_among o x start (a ∷ []) ≡ site ∷ [] = rw own refl in
          let filed : IsFiled l r (site ∷ []) p0 p1 g0 g1 m0 m1 =
          subst (λ ts. IsFiled l r ts p0 p1 g0 g1 m0 m1) one h in
          rw own (moved_by (site ∷ []) (site ∷ []) p0 p1 g0 g1 m0 m1 (rw differs refl) filed.patches filed.counts)

    -- first some sites, then others
    pub moved_more : (a b : List Site) (p0 p1 p2 : List Patch) (g0 g1 g2 : List code.Fault) (m0 m1 m2 : Counts)
        → AreRetargetedFiled old l r a p0 p1 g0 g1 m0 m1 → AreRetargetedFiled old l r b p1 p2 g1 g2 m1 m2
        → AreRetargetedFiled old l r (a ++ b) p0 p2 g0 g2 m0 m2
    moved_more a b p0 p1 p2 g0 g1 g2 m0 m1 m2 h k =
        let first : List Site = filter (has_new_value old l) a in
        let second : List Site = filter (has_new_value old l) b in
        moved_by (a ++ b) (first ++ second) p0 p2 g0 g2 m0 m2 (filter-append (has_new_value old l) a b)
        (k.patches ∙ ap (λ ps. ps ++ filter_map (file_patch_at l r) second) h.patches
        ∙ append_assoc p0 (filter_map (file_patch_at l r) first) (filter_map (file_patch_at l r) second)
        ∙ ap (λ ps. p0 ++ ps) (sym (filter_map-append (file_patch_at l r) first second)))
        (counted_more l first second g0 g1 g2 m0 m1 m2 h.counts k.counts)

    module _ (o : NamedObject) (x : LinkedSection) (start : ℕ) (rs : List Relocation) (i : ℕ) where
      pub moved_next : (d : Relocation) → i < length rs
          → (p0 p1 p2 : List Patch) (g0 g1 g2 : List code.Fault) (m0 m1 m2 : Counts)
          → AreRetargetedFiled old l r (sites_among o x start (take i rs)) p0 p1 g0 g1 m0 m1
          → AreRetargetedFiled old l r (sites_among o x start (get_or rs i d ∷ [])) p1 p2 g1 g2 m1 m2
          → AreRetargetedFiled old l r (sites_among o x start (take (i + 1) rs)) p0 p2 g0 g2 m0 m2
      moved_next d low p0 p1 p2 g0 g1 g2 m0 m1 m2 h k =
          rw (among_more o x start rs i d low)
          (moved_more (sites_among o x start (take i rs)) (sites_among o x start (get_or rs i d ∷ [])) p0 p1 p2 g0 g1
          g2 m0 m1 m2 h k)

      pub moved_all : length rs ≤ i → i ≤ length rs → (p0 p1 : List Patch) (g0 g1 : List code.Fault) (m0 m1 : Counts)
          → AreRetargetedFiled old l r (sites_among o x start (take i rs)) p0 p1 g0 g1 m0 m1
          → AreRetargetedFiled old l r (sites_among o x start rs) p0 p1 g0 g1 m0 m1
      moved_all low high p0 p1 g0 g1 m0 m1 h =
          let e : i ≡ length rs = omega arith in
          subst (λ ys. AreRetargetedFiled old l r (sites_among o x start ys) p0 p1 g0 g1 m0 m1) (ap (λ n. take n rs) e
          ∙ take-length rs) h

  -- a section of an object whose symbols are all worth what they were
  module _ (s : ObjectSection) (key : ObjectPlace) (named : named_object l key ≡ Some s.object)
      (same : HasSameValues old l key) where
    none_of : (start : ℕ) (rs : List Relocation)
        → filter (has_new_value old l)
        (map (λ a. record { object = s.object; section = s.section; start = start; relocation = a }) rs)
        ≡ []
    none_of start [] = refl
    none_of start (a ∷ rs) =
        let t : Site = record { object = s.object; section = s.section; start = start; relocation = a } in
        let e : has_new_value old l t ≡ false = unmoved t (same t named) in
        rw e (none_of start rs)

    none_at : (a : Option PlacedPiece)
        → filter (has_new_value old l) (option_map_or (λ (y : PlacedPiece). sites_at s.object s.section y.start) a [])
        ≡ []
    none_at None = refl
    none_at (Some y) = none_of y.start (filter (λ (r : Relocation). is_evaluated r.kind) s.section.relocations)

    pub moved_in_none : (r : FileRange) (ps : List Patch) (gs : List code.Fault) (m : Counts) → m.fields < 2 ^ 64
        → AreRetargetedFiled old l r (own_sites l s) ps ps gs gs m m
    moved_in_none r ps gs m h =
        let none = moved_nothing r ps gs m h in
        moved_by r (own_sites l s) [] ps ps gs gs m m
        (none_at (placed_part l.layout s.object.name (InTable s.section.number))) none.patches none.counts

  -- a section by where it starts, if it is in the output
  module _ (r : FileRange) (s : ObjectSection) where
    abbrev sites_in : Option PlacedPiece → List Site
    sites_in a = option_map_or (λ (y : PlacedPiece). sites_at s.object s.section y.start) a []

    pub moved_unplaced : IsPlaceOf l s None → (ps : List Patch) (gs : List code.Fault) (m : Counts)
        → m.fields < 2 ^ 64 → AreRetargetedFiled old l r (own_sites l s) ps ps gs gs m m
    moved_unplaced gone ps gs m h =
        subst (λ a. AreRetargetedFiled old l r (sites_in a) ps ps gs gs m m) (sym gone) (moved_nothing r ps gs m h)

    pub moved_placed : (m : PlacedInput) → IsPlacedAt l s m
        → (p0 p1 : List Patch) (g0 g1 : List code.Fault) (m0 m1 : Counts)
        → AreRetargetedFiled old l r (sites_at_hand m s m.relocations.now) p0 p1 g0 g1 m0 m1
        → AreRetargetedFiled old l r (own_sites l s) p0 p1 g0 g1 m0 m1
    moved_placed m p p0 p1 g0 g1 m0 m1 h =
        subst (λ a. AreRetargetedFiled old l r (sites_in a) p0 p1 g0 g1 m0 m1) (sym p.piece_is)
        (subst (λ n. AreRetargetedFiled old l r (sites_at s.object s.section n) p0 p1 g0 g1 m0 m1) p.start_is
        (subst (λ rs. AreRetargetedFiled old l r (sites_at_hand m s rs) p0 p1 g0 g1 m0 m1) p.section_is.relocations_are
        h))
