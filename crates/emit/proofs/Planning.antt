-- What is planned for each section of an object.
use Rattle.emit.proofs.Common.{All, All-append, AllPairs, AllZip, AreInOrder, Counts, HasRelocationsOfProfile, IsAdded}
use Rattle.emit.proofs.Common.{IsAtHand, IsFaultlessRun, IsNothing, IsPlanned, IsPlannedAt, IsRefused, IsRun}
use Rattle.emit.proofs.Common.{IsSectionOfProfile, IsWhole, IsWithin, KnownLink, LinkedSection, List, LocatedSection}
use Rattle.emit.proofs.Common.{NamedObject, Nobits, None, ObjectData, ObjectPlace, Option, Patch, PlannedSection}
use Rattle.emit.proofs.Common.{Relocation, Section, SectionKind, Site, Some, Written, [], add-one, ap, append-nil}
use Rattle.emit.proofs.Common.{arith, bytes_of, capped, cond, count_of, drop, drop-cons, drop_all, eq-eqb, evaluations}
use Rattle.emit.proofs.Common.{fault_at, fault_of, faults_of, filter_map, find, get_or, get_or_from_slice_get, length}
use Rattle.emit.proofs.Common.{length-map, map, map-append, ne_eqb, option_map, option_map_or, patch_end, raised, refl}
use Rattle.emit.proofs.Common.{same_Some, section_of, site_value, sites_at, sites_in_all, sites_there, size_in_file}
use Rattle.emit.proofs.Common.{slice_get, slice_get-map, slice_get_within, subst, suc, sum_by, sum_by-append}
use Rattle.emit.proofs.Common.{sum_by-cons, sym, take, take_more, work_of, written, written_all, zero, zip_more, ℕ}
use Rattle.emit.proofs.Common.{⊎_elim, ◌++◌, ◌+◌, ◌<◌, ◌==◌, ◌^◌, ◌∙◌, ◌∷◌, ◌≡◌, ◌≢◌, ◌≤◌}
use Rattle.std.proofs.lemmas.Grind.{flat_map-append}
use Rattle.elfobj.specs.Relocations.{field_end}
use Rattle.elfobj.specs.declared.meter.Count.TheVariants as count
use Rattle.ldmodel.specs.Fault.{Fault}
use Rattle.ldmodel.specs.declared.fault.Fault as code
use Rattle.emit_relocate.specs.Sites.{IsPlaced, IsSectionOf}
use Rattle.emit_relocate.specs.SymbolValues.{IsRow}
use Rattle.emit_relocate.specs.declared.site.PlacedInput.{PlacedInput}
use Rattle.emit_relocate.specs.declared.value.SymbolValue.{SymbolValue}

-- ---- the order of fields

module _ (ps : List Patch) (i : ℕ) where
  pub order_more : (end n next : ℕ) (d : Patch) → i < length ps → d ≡ get_or ps i d → end ≤ d.offset
      → next ≡ patch_end d → AreInOrder next n (drop (i + 1) ps) → AreInOrder end n (drop i ps)
  order_more end n next d low is from to h =
      let all : drop i ps ≡ d ∷ drop (suc i) ps = drop-cons ps i d low ∙ ap (λ q. q ∷ drop (suc i) ps) (sym is) in
      let rest : AreInOrder (patch_end d) n (drop (suc i) ps) =
      subst (λ m. AreInOrder m n (drop (suc i) ps)) to
      (subst (λ k. AreInOrder next n (drop k ps)) (add-one i) h) in
      subst (λ qs. AreInOrder end n qs) (sym all) (from, rest)

  pub order_first : (end n : ℕ) (d : Patch) → i < length ps → d ≡ get_or ps i d → AreInOrder end n (drop i ps)
      → (end ≤ d.offset) × AreInOrder (patch_end d) n (drop (i + 1) ps)
  order_first end n d low is h =
      let all : drop i ps ≡ d ∷ drop (suc i) ps = drop-cons ps i d low ∙ ap (λ q. q ∷ drop (suc i) ps) (sym is) in
      let both = subst (λ qs. AreInOrder end n qs) all h in
      (both.0, subst (λ k. AreInOrder (patch_end d) n (drop k ps)) (sym (add-one i)) both.1)

  pub order_end : (end n : ℕ) → length ps ≤ i → AreInOrder end n (drop i ps) → end ≤ n
  order_end end n long h = subst (λ qs. AreInOrder end n qs) (drop_all i ps long) h

  pub order_all : (end n : ℕ) → length ps ≤ i → end ≤ n → AreInOrder end n (drop i ps)
  order_all end n long low = subst (λ qs. AreInOrder end n qs) (sym (drop_all i ps long)) low

-- fields in order end at the limit at the latest
pub order_low : (ps : List Patch) (from n : ℕ) → AreInOrder from n ps → from ≤ n
order_low [] from n h = h
order_low (p ∷ ps) from n h =
    let rest : patch_end p ≤ n = order_low ps (patch_end p) n h.1 in
    let own : p.offset ≤ patch_end p = omega arith in
    omega (arith, h.0, rest, own)

-- ---- a section of an object

pub there : (xs : List LinkedSection) (i : ℕ) → i < length xs → slice_get xs i ≡ None → ⊥
there [] i low e = absurd (omega (arith, low))
there (x ∷ xs) zero low e = cc
there (x ∷ xs) (suc i) low e = there xs i (omega (arith, low)) e

-- a place below the length has a section
pub record Has (xs : List LinkedSection) (i : ℕ) : Type 0 where
  pub section : LinkedSection
  pub is : slice_get xs i ≡ Some section

pub has : (xs : List LinkedSection) (i : ℕ) → i < length xs → Has xs i
has xs i low = go (slice_get xs i) refl
  where
    go : (m : Option LinkedSection) → slice_get xs i ≡ m → Has xs i
    go None e = absurd (there xs i low e)
    go (Some x) e = record { section = x; is = e }

-- what is seen of it
pub at_index : (xs : List LinkedSection) (i : ℕ) (d : Section) (ss : List Section) → ss ≡ map section_of xs
    → (x : LinkedSection) → slice_get xs i ≡ Some x → get_or ss i d ≡ section_of x
at_index xs i d ss are x is =
    ap (λ zs. get_or zs i d) are
    ∙ get_or_from_slice_get (map section_of xs) i (section_of x) d
    (slice_get-map section_of xs i ∙ ap (λ o. option_map section_of o) is)

-- a section that ends below 2^64 has its fields below
pub below : (xs : List LinkedSection) (i start : ℕ) (rs : List Relocation)
    → ((x : LinkedSection) → slice_get xs i ≡ Some x → All (λ r. field_end r ≤ x.size) rs)
    → ((x : LinkedSection) → slice_get xs i ≡ Some x → start + x.size < 2 ^ 64) → i < length xs
    → All (λ r. start + r.offset < 2 ^ 64) rs
below xs i start rs h short low = λ k e long.
    let own = has xs i low in
    let end = h own.section own.is k e long in
    let whole = short own.section own.is in
    omega (arith, end, whole)

all_at : {X : Type 0} (P : X → Type 0) (xs : List X) (i : ℕ) (x : X) → All P xs → slice_get xs i ≡ Some x → P x
all_at P xs i x h e = subst P (get_or_from_slice_get xs i x x e) (h i x (slice_get_within xs i x e))

-- the fields of a section lie in its bytes
fields_within : (n : ℕ) (x : LinkedSection) → IsSectionOfProfile x → HasRelocationsOfProfile n x
    → All (λ r. field_end r ≤ length x.bytes) x.relocations
fields_within n x s h = go x.kind refl
  where
    go : (kind : SectionKind) → x.kind ≡ kind → All (λ r. field_end r ≤ length x.bytes) x.relocations
    go Nobits e =
        subst (All (λ r. field_end r ≤ length x.bytes)) (sym (h.none e)) (λ k d low. absurd (omega (arith, low)))
    go _ e = λ k d low.
        let long : length x.bytes ≡ x.size = s.bytes ∙ ap (λ kind. size_in_file kind x.size) e in
        let end = (h.each k d low).field in
        omega (arith, end, long)

-- the fields of a link are in order within the bytes of their section
pub order_of : (l : KnownLink) (o : NamedObject) (xs : List LinkedSection) (i start n : ℕ) (x : LinkedSection)
    (run : List Patch) (bytes : List ℕ) → All IsSectionOfProfile xs → All (HasRelocationsOfProfile n) xs
    → slice_get xs i ≡ Some x → bytes ≡ x.bytes → IsFaultlessRun l o x start run → AreInOrder 0 (length bytes) run
order_of l o xs i start n x run bytes sections relocations is same h =
    let within = fields_within n x (all_at IsSectionOfProfile xs i x sections is)
    (all_at (HasRelocationsOfProfile n) xs i x relocations is) in
    subst (λ b. AreInOrder 0 (length b) run) (sym same) (h.is_run.order (length x.bytes) within)

-- a section of an object of the link
pub placed_of : (l : KnownLink) (place : ObjectPlace) (read : ObjectData) (values : List SymbolValue) (m : PlacedInput)
    (o : NamedObject) (x : LinkedSection) → IsAtHand l place read values o → IsSectionOf read x place m
    → m.values.now ≡ values → IsPlaced l m o x
placed_of l place read values m o x h is same = record {
  object_is = rw is.place_is h.named;
  section_is = rw h.same is.number_is;
  symbols_are = rw h.same is.symbols_are;
  values_are = subst (IsRow l o) (sym same) h.row;
  relocations_are = is.relocations_are;
}

-- ---- the count

pub none_raised : (m : Counts) → m.fields < 2 ^ 64 → m ≡ raised m count.Fields 0
none_raised m h =
    let e : m.fields ≡ capped m.fields 0 = omega arith in
    ap (λ n. record m { fields = n }) e

pub both_raised : (m : Counts) (a b : ℕ) → raised (raised m count.Fields a) count.Fields b
    ≡ raised m count.Fields (a + b)
both_raised m a b =
    let e : capped (capped m.fields a) b ≡ capped m.fields (a + b) = omega arith in
    ap (λ n. record m { fields = n }) e

-- ---- one section after another

pub count_more : (l : KnownLink) (o : NamedObject) (ts : List LocatedSection) (t : LocatedSection) (m : Counts)
    → raised (raised m count.Fields (evaluations l (sites_in_all o ts))) count.Fields (evaluations l (sites_there o t))
    ≡ raised m count.Fields (evaluations l (sites_in_all o (ts ++ t ∷ [])))
count_more l o ts t m =
    let one : Site → ℕ = λ (u : Site). work_of (site_value l.project l.layout u) in
    let last : sites_in_all o (t ∷ []) ≡ sites_there o t = append-nil (sites_there o t) in
    both_raised m (evaluations l (sites_in_all o ts)) (evaluations l (sites_there o t))
    ∙ ap (raised m count.Fields)
    (ap (λ n. evaluations l (sites_in_all o ts) + n) (ap (evaluations l) (sym last))
    ∙ sym (sum_by-append one (sites_in_all o ts) (sites_in_all o (t ∷ [])))
    ∙ ap (evaluations l) (sym (flat_map-append (sites_there o) ts (t ∷ []))))

-- ---- what was evaluated of a section

module _ (l : KnownLink) (o : NamedObject) (x : LinkedSection) (start : ℕ) (old new : List Patch)
    (gs hs : List code.Fault) (m0 m1 : Counts) (h : IsAdded l o x start old new gs hs m0 m1) where
  abbrev faults : List Fault
  faults = filter_map (fault_at l) (sites_at o x start)

  pub faultless : old ≡ [] → gs ≡ [] → hs ≡ [] → IsFaultlessRun l o x start new
  faultless none nogs nohs = record {
    is_run = subst (IsRun l o x start) (sym (h.fields ∙ ap (λ fs. fs ++ h.run) none)) h.is_run;
    faultless = sym (ap (λ fs. faults_of l fs ++ faults) nogs) ∙ sym h.counts.faults ∙ ap (faults_of l) nohs;
  }

  -- some fault was added
  pub refused : gs ≡ [] → length hs ≢ 0 → IsRefused l (sites_at o x start) m0 m1
  refused nogs some = record {
    evaluated = evaluations l (sites_at o x start);
    counted = h.counts.counted;
    faulty = λ none.
        some
        (sym (length-map hs (fault_of l.project l.number))
        ∙ ap length (h.counts.faults ∙ ap (λ fs. faults_of l fs ++ faults) nogs ∙ none));
  }

-- ---- a number stands for one section

found : (xs : List LinkedSection) (i : ℕ) (x : LinkedSection)
    → AllPairs (λ (s t : Section). s.number.0 < t.number.0) (map section_of xs) → slice_get xs i ≡ Some x
    → find (λ (y : LinkedSection). y.number.0 == x.number.0) xs ≡ Some x
found [] i x pairs e = absurd (let no : ⊥ = cc in no)
found (y ∷ ys) zero x pairs e =
    let same : y ≡ x = same_Some _ _ e in
    ap (λ b. cond b (Some y) (find (λ (z : LinkedSection). z.number.0 == x.number.0) ys))
    (eq-eqb y.number.0 x.number.0 (ap (λ (s : LinkedSection). s.number.0) same)) ∙ e
found (y ∷ ys) (suc i) x pairs e =
    let low : i < length ys = slice_get_within ys i x e in
    let many : i < length (map section_of ys) = omega (arith, low, length-map ys section_of) in
    let at : get_or (map section_of ys) i (section_of y) ≡ section_of x =
    at_index ys i (section_of y) (map section_of ys) refl x e in
    let under = pairs zero (suc i) (section_of y) (omega arith) (omega (arith, many)) in
    let number : (get_or (map section_of ys) i (section_of y)).number.0 ≡ x.number.0 =
    ap (λ (s : Section). s.number.0) at in
    let differ : y.number.0 ≡ x.number.0 → ⊥ = λ is. omega (arith, under, number, is) in
    ap (λ b. cond b (Some y) (find (λ (z : LinkedSection). z.number.0 == x.number.0) ys))
    (ne_eqb y.number.0 x.number.0 differ)
    ∙ found ys i x (λ a b d before short. pairs (suc a) (suc b) d (omega (arith, before)) (omega (arith, short))) e

pub found_by_number : (xs : List LinkedSection) (ss : List Section) → ss ≡ map section_of xs
    → AllPairs (λ (s t : Section). s.number.0 < t.number.0) ss → (i : ℕ) (x : LinkedSection) → slice_get xs i ≡ Some x
    → find (λ (y : LinkedSection). y.number.0 == x.number.0) xs ≡ Some x
found_by_number xs ss are pairs i x is =
    found xs i x (subst (λ zs. AllPairs (λ (s t : Section). s.number.0 < t.number.0) zs) are pairs) is

-- ---- how many bytes are written

size_kept : (k : SectionKind) (n : ℕ) → k ≢ Nobits → size_in_file k n ≡ n
size_kept Nobits n h = absurd (h refl)
size_kept _ n h = refl

none_kept : (k : SectionKind) → size_in_file k 0 ≡ 0
none_kept Nobits = refl
none_kept _ = refl

one_count : (l : KnownLink) (o : NamedObject) (t : LocatedSection) (w : Written) → IsPlannedAt l o t w → count_of w
    ≡ bytes_of o.object t
one_count l o t w h =
    ⊎_elim
    (λ (n : IsNothing h.section.kind t.range w). ap length n.bytes ∙ sym (ap (λ m. sized m) h.section_is
    ∙ ⊎_elim (λ zero_long. ap (size_in_file h.section.kind) zero_long ∙ none_kept h.section.kind)
    (λ nobits. ap (λ k. size_in_file k t.range.length) nobits) n.none))
    (λ (m : IsWhole h.section.kind h.section.bytes t.range h.run w). ap (λ (z : Written). length z.bytes) m.is
    ∙ sym m.long ∙ sym (ap (λ n. sized n) h.section_is ∙ size_kept h.section.kind t.range.length m.own))
    h.planned
  where
    sized : Option LinkedSection → ℕ
    sized m = option_map_or (λ (x : LinkedSection). size_in_file x.kind t.range.length) m 0

pub all_count : (l : KnownLink) (o : NamedObject) (ts : List LocatedSection) (ws : List Written)
    → AllZip (IsPlannedAt l o) ts ws → sum_by count_of ws ≡ sum_by (bytes_of o.object) ts
all_count l o [] [] h = refl
all_count l o [] (w ∷ ws) h = absurd h
all_count l o (t ∷ ts) [] h = absurd h
all_count l o (t ∷ ts) (w ∷ ws) h =
    sum_by-cons count_of w ws ∙ ap (λ n. n + sum_by count_of ws) (one_count l o t w h.0)
    ∙ ap (λ n. bytes_of o.object t + n) (all_count l o ts ws h.1) ∙ sym (sum_by-cons (bytes_of o.object) t ts)

-- ---- what was planned

-- the bytes of a section
pub bytes_at : (xs : List LinkedSection) (i : ℕ) (bytes : List ℕ)
    → slice_get (map (λ (s : LinkedSection). s.bytes) xs) i ≡ Some bytes → (x : LinkedSection) → slice_get xs i ≡ Some x
    → bytes ≡ x.bytes
bytes_at xs i bytes of x is =
    same_Some _ _ (sym of ∙ slice_get-map (λ (s : LinkedSection). s.bytes) xs i
    ∙ ap (λ o. option_map (λ (s : LinkedSection). s.bytes) o) is)

pub planned_at : (l : KnownLink) (o : NamedObject) (t : LocatedSection) (x : LinkedSection)
    → slice_get o.object.sections t.index.0 ≡ Some x → (run : List Patch) → IsFaultlessRun l o x t.start run
    → (kind : SectionKind) (bytes : List ℕ) → kind ≡ x.kind → bytes ≡ x.bytes → (w : Written)
    → IsPlanned kind bytes t.range run w → IsPlannedAt l o t w
planned_at l o t x is run clear kind bytes of_kind of_bytes w h = record {
  section = x;
  section_is = is;
  run = run;
  faultless = clear;
  planned = subst (λ k. IsPlanned k x.bytes t.range run w) of_kind
      (subst (λ b. IsPlanned kind b t.range run w) of_bytes h);
}

pub sites_at_spot : (o : NamedObject) (t : LocatedSection) (x : LinkedSection)
    → slice_get o.object.sections t.index.0 ≡ Some x → sites_at o x t.start ≡ sites_there o t
sites_at_spot o t x is =
    sym (ap (λ m. option_map_or (λ (y : LinkedSection). sites_at o y t.start) m []) is)

pub within_more : (limit : ℕ) (rs : List PlannedSection) (r : PlannedSection) → All (IsWithin limit) (written_all rs)
    → IsWithin limit (written r) → All (IsWithin limit) (written_all (rs ++ r ∷ []))
within_more limit rs r h k =
    subst (All (IsWithin limit)) (sym (map-append written rs (r ∷ [])))
    (All-append (IsWithin limit) (written_all rs) (written r ∷ []) h (one k))
  where
    one : IsWithin limit (written r) → All (IsWithin limit) (written r ∷ [])
    one own zero d low = own
    one own (suc j) d low = absurd (omega (arith, low))

pub planned_more : (l : KnownLink) (o : NamedObject) (ts : List LocatedSection) (i : ℕ) (d : LocatedSection)
    (rs : List PlannedSection) (r : PlannedSection) → i < length ts
    → AllZip (IsPlannedAt l o) (take i ts) (written_all rs)
    → IsPlannedAt l o (get_or ts i d) (written r)
    → AllZip (IsPlannedAt l o) (take (i + 1) ts) (written_all (rs ++ r ∷ []))
planned_more l o ts i d rs r low h k =
    subst (λ us. AllZip (IsPlannedAt l o) us (written_all (rs ++ r ∷ []))) (sym (take_more ts i d low))
    (subst (AllZip (IsPlannedAt l o) (take i ts ++ get_or ts i d ∷ [])) (sym (map-append written rs (r ∷ [])))
    (zip_more (IsPlannedAt l o) (take i ts) (written_all rs) (get_or ts i d) (written r) h k))
