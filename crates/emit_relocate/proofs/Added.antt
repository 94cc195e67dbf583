-- Sites that were evaluated one after another.
use Rattle.emit_relocate.proofs.Common.{All, AreAdded, AreFieldsOf, Counts, Err, IsAdded, IsCounted, IsNonDecreasingBy}
use Rattle.emit_relocate.proofs.Common.{IsPermutation-refl, IsPlaced, IsSiteAt, IsTried, KnownLink, LinkedSection, List}
use Rattle.emit_relocate.proofs.Common.{NamedObject, Ok, Patch, PlacedInput, Relocation, Site, Some, [], add-one, ap}
use Rattle.emit_relocate.proofs.Common.{append-nil, append_assoc, append_cancel_left, arith, capped, cons_option}
use Rattle.emit_relocate.proofs.Common.{evaluations, false, fault_at, fault_of, faults_of, field_at, filter}
use Rattle.emit_relocate.proofs.Common.{filter-append, filter_map, filter_map-append, get_or, is_evaluated, length, map}
use Rattle.emit_relocate.proofs.Common.{map-append, raised, refl, site_field, site_value, sites_among, slice_get, subst}
use Rattle.emit_relocate.proofs.Common.{sum_by-append, sym, take, take-length, take-suc, true, work_of, ℕ, ◌++◌, ◌+◌}
use Rattle.emit_relocate.proofs.Common.{◌<◌, ◌^◌, ◌∙◌, ◌∷◌, ◌≡◌, ◌≤◌}
use Rattle.elfobj.specs.Profile as elf
use Rattle.emit_fields.specs.Patches.{AreInOrder, IsWithin, patched_byte}
use Rattle.emit_fields.proofs.Order.{in_order_sorted}
use Rattle.ldmodel.specs.declared.fault.Fault as code
use Rattle.elfobj.specs.declared.meter.Count.TheVariants as count
use Rattle.emit_relocate.proofs.Runs.{within}

-- a relocation of a section, as a site
abbrev site_of : NamedObject → LinkedSection → ℕ → Relocation → Site
site_of o x start a = record { object = o; section = x; start = start; relocation = a }

pub at_entry : (l : KnownLink) (m : PlacedInput) (o : NamedObject) (x : LinkedSection) (a : Relocation) (i : ℕ)
    → IsPlaced l m o x → slice_get m.relocations.now i ≡ Some a → IsSiteAt l m i (site_of o x m.start a)
at_entry l m o x a i h is = record { site = record { placed = h; start_is = refl }; entry_is = is }

pub raise_none : (m : Counts) → m.fields < 2 ^ 64 → m ≡ raised m count.Fields 0
raise_none m h =
    let e : m.fields ≡ capped m.fields 0 = omega arith in
    ap (λ n. record m { fields = n }) e

raise_both : (m : Counts) (a b : ℕ) → raised (raised m count.Fields a) count.Fields b ≡ raised m count.Fields (a + b)
raise_both m a b =
    let e : capped (capped m.fields a) b ≡ capped m.fields (a + b) = omega arith in
    ap (λ n. record m { fields = n }) e

module _ (l : KnownLink) where
  -- nothing was evaluated
  pub tried_nothing : (fs : List Patch) (gs : List code.Fault) (m : Counts) → m.fields < 2 ^ 64
      → IsTried l [] fs fs gs gs m m
  tried_nothing fs gs m h = record {
    fields = sym (append-nil fs);
    counts = record { faults = sym (append-nil (faults_of l gs)); counted = raise_none m h };
  }

  pub tried_none : (o : NamedObject) (x : LinkedSection) (start : ℕ) (r : Relocation) (fs : List Patch)
      (gs : List code.Fault) (m : Counts) → is_evaluated r.kind ≡ false → m.fields < 2 ^ 64
      → IsTried l (sites_among o x start (r ∷ [])) fs fs gs gs m m
  tried_none o x start r fs gs m e h = rw e (tried_nothing fs gs m h)

  module _ (o : NamedObject) (x : LinkedSection) (start : ℕ) (a : Relocation) (own : is_evaluated a.kind ≡ true) where
    abbrev site : Site
    site = record { object = o; section = x; start = start; relocation = a }

    -- the field of one relocation was added
    pub tried_field : (f0 f1 : List Patch) (q : Patch) (gs : List code.Fault) (m0 m1 : Counts)
        → site_field l.project l.layout site ≡ Ok q.field → q.offset ≡ a.offset → f1 ≡ f0 ++ q ∷ []
        → m1 ≡ raised m0 count.Fields (evaluations l (site ∷ []))
        → IsTried l (sites_among o x start (a ∷ [])) f0 f1 gs gs m0 m1
    tried_field f0 f1 q gs m0 m1 is at e n = rw own (record {
      fields = e ∙ ap (λ ms. f0 ++ ms) (sym (ap (λ b. cons_option b []) placed));
      counts = record { faults = rw is (sym (append-nil (faults_of l gs))); counted = n };
    })
      where
        placed : field_at l site ≡ Some q
        placed = rw is (ap (λ k. Some (record { offset = k; field = q.field })) (sym at))

    -- or its fault
    pub tried_fault : (fs : List Patch) (f : code.Fault) (gs hs : List code.Fault) (m0 m1 : Counts)
        → site_field l.project l.layout site ≡ Err (fault_of l.project l.number f) → hs ≡ gs ++ f ∷ []
        → m1 ≡ raised m0 count.Fields (evaluations l (site ∷ []))
        → IsTried l (sites_among o x start (a ∷ [])) fs fs gs hs m0 m1
    tried_fault fs f gs hs m0 m1 is e n = rw own (record {
      fields = rw is (sym (append-nil fs));
      counts = record {
        faults = rw is (ap (faults_of l) e ∙ map-append (fault_of l.project l.number) gs (f ∷ []));
        counted = n;
      };
    })

  -- first some sites, then others
  pub counted_more : (a b : List Site) (g0 g1 g2 : List code.Fault) (m0 m1 m2 : Counts) → IsCounted l a g0 g1 m0 m1
      → IsCounted l b g1 g2 m1 m2 → IsCounted l (a ++ b) g0 g2 m0 m2
  counted_more a b g0 g1 g2 m0 m1 m2 p q = record {
    faults =
        q.faults ∙ ap (λ fs. fs ++ filter_map (fault_at l) b) p.faults
        ∙ append_assoc (faults_of l g0) (filter_map (fault_at l) a) (filter_map (fault_at l) b)
        ∙ ap (λ fs. faults_of l g0 ++ fs) (sym (filter_map-append (fault_at l) a b));
    counted =
        q.counted ∙ ap (λ m. raised m count.Fields (evaluations l b)) p.counted
        ∙ raise_both m0 (evaluations l a) (evaluations l b)
        ∙ ap (raised m0 count.Fields)
        (sym (sum_by-append (λ (t : Site). work_of (site_value l.project l.layout t)) a b));
  }

  pub tried_more : (a b : List Site) (f0 f1 f2 : List Patch) (g0 g1 g2 : List code.Fault) (m0 m1 m2 : Counts)
      → IsTried l a f0 f1 g0 g1 m0 m1 → IsTried l b f1 f2 g1 g2 m1 m2 → IsTried l (a ++ b) f0 f2 g0 g2 m0 m2
  tried_more a b f0 f1 f2 g0 g1 g2 m0 m1 m2 p q = record {
    fields =
        q.fields ∙ ap (λ fs. fs ++ filter_map (field_at l) b) p.fields
        ∙ append_assoc f0 (filter_map (field_at l) a) (filter_map (field_at l) b)
        ∙ ap (λ fs. f0 ++ fs) (sym (filter_map-append (field_at l) a b));
    counts = counted_more a b g0 g1 g2 m0 m1 m2 p.counts q.counts;
  }

-- the sites among one relocation more
pub among_more : (o : NamedObject) (x : LinkedSection) (start : ℕ) (rs : List Relocation) (i : ℕ) (d : Relocation)
    → i < length rs
    → sites_among o x start (take (i + 1) rs) ≡ sites_among o x start (take i rs)
    ++ sites_among o x start (get_or rs i d ∷ [])
among_more o x start rs i d low =
    ap (λ n. sites_among o x start (take n rs)) (add-one i)
    ∙ ap (sites_among o x start) (take-suc rs i d low)
    ∙ ap (map (λ r. record { object = o; section = x; start = start; relocation = r }))
    (filter-append (λ (r : Relocation). is_evaluated r.kind) (take i rs) (get_or rs i d ∷ []))
    ∙ map-append (λ r. record { object = o; section = x; start = start; relocation = r })
    (filter (λ (r : Relocation). is_evaluated r.kind) (take i rs))
    (filter (λ (r : Relocation). is_evaluated r.kind) (get_or rs i d ∷ []))

module _ (l : KnownLink) (o : NamedObject) (x : LinkedSection) (start : ℕ) (rs : List Relocation) (i : ℕ) where
  pub tried_next : (d : Relocation) → i < length rs
      → (f0 f1 f2 : List Patch) (g0 g1 g2 : List code.Fault) (m0 m1 m2 : Counts)
      → IsTried l (sites_among o x start (take i rs)) f0 f1 g0 g1 m0 m1
      → IsTried l (sites_among o x start (get_or rs i d ∷ [])) f1 f2 g1 g2 m1 m2
      → IsTried l (sites_among o x start (take (i + 1) rs)) f0 f2 g0 g2 m0 m2
  tried_next d low f0 f1 f2 g0 g1 g2 m0 m1 m2 p q =
      rw (among_more o x start rs i d low)
      (tried_more l (sites_among o x start (take i rs)) (sites_among o x start (get_or rs i d ∷ [])) f0 f1 f2 g0 g1 g2
      m0 m1 m2 p q)

  pub tried_all : length rs ≤ i → i ≤ length rs → (f0 f1 : List Patch) (g0 g1 : List code.Fault) (m0 m1 : Counts)
      → IsTried l (sites_among o x start (take i rs)) f0 f1 g0 g1 m0 m1
      → IsTried l (sites_among o x start rs) f0 f1 g0 g1 m0 m1
  tried_all low high f0 f1 g0 g1 m0 m1 p =
      let e : i ≡ length rs = omega arith in
      subst (λ ys. IsTried l (sites_among o x start ys) f0 f1 g0 g1 m0 m1) (ap (λ n. take n rs) e ∙ take-length rs) p

-- the fields of a section are put in order and added
pub added : (l : KnownLink) (m : PlacedInput) (o : NamedObject) (x : LinkedSection) → IsPlaced l m o x
    → (f0 f1 old new own run : List Patch) (g0 g1 : List code.Fault) (m0 m1 : Counts)
    → IsTried l (sites_among o x m.start m.relocations.now) old new g0 g1 m0 m1 → new ≡ old ++ own
    → AreFieldsOf m.relocations.now (length m.relocations.now) own
    → ((bytes : List ℕ) (i : ℕ) → patched_byte bytes run i ≡ patched_byte bytes own i)
    → ((n : ℕ) → All (IsWithin n) own → AreInOrder 0 n run)
    → f1 ≡ f0 ++ run
    → IsAdded l o x m.start f0 f1 g0 g1 m0 m1
added l m o x h f0 f1 old new own run g0 g1 m0 m1 tried part of same order e =
    let own_is : own ≡ filter_map (field_at l) (sites_among o x m.start x.relocations) =
    append_cancel_left old own (filter_map (field_at l) (sites_among o x m.start m.relocations.now))
    (sym part ∙ tried.fields)
    ∙ ap (λ rs. filter_map (field_at l) (sites_among o x m.start rs)) h.relocations_are in
    record {
      run = run;
      fields = e;
      is_run = record {
        same = λ bytes i. same bytes i ∙ ap (λ ps. patched_byte bytes ps i) own_is;
        order = λ n ends. order n
            (within m.relocations.now n (length m.relocations.now) own of (rw h.relocations_are ends));
      };
      counts = subst (λ rs. IsCounted l (sites_among o x m.start rs) g0 g1 m0 m1) h.relocations_are tried.counts;
    }

-- those of relocations in the order of their offsets are in order as they come
pub added_as_they_are : (l : KnownLink) (m : PlacedInput) (o : NamedObject) (x : LinkedSection) → IsPlaced l m o x
    → (f0 f1 : List Patch) (g0 g1 : List code.Fault) (m0 m1 : Counts)
    → IsTried l (sites_among o x m.start m.relocations.now) f0 f1 g0 g1 m0 m1
    → AreAdded m.relocations.now (length m.relocations.now) f0 f1 → elf.AreApart m.relocations.now
    → IsNonDecreasingBy (λ (r : Relocation). r.offset) m.relocations.now
    → IsAdded l o x m.start f0 f1 g0 g1 m0 m1
added_as_they_are l m o x h f0 f1 g0 g1 m0 m1 tried a apart up =
    added l m o x h f0 f1 f0 f1 a.own a.own g0 g1 m0 m1 tried a.fields a.of (λ bytes i. refl)
    (in_order_sorted a.own a.own (IsPermutation-refl a.own) (a.of.order up) (a.of.apart apart)) a.fields
