-- What was evaluated of input sections, one after another.
use Rattle.emit_relocate.proofs.Common.{Adds, AllZip, AreChanged, AreRetargetedFiled, Evaluated, FileRange, GoodLink}
use Rattle.emit_relocate.proofs.Common.{HasRetargetedFields, HasSomeStayed, HasStayedAt, IfSome, IsCounted}
use Rattle.emit_relocate.proofs.Common.{IsEvaluatedAt, IsEvaluatedOf, IsFoundStayed, IsFoundStayedAt, IsSome, KnownLink}
use Rattle.emit_relocate.proofs.Common.{LinkedSection, List, NamedObject, ObjectPlace, ObjectSection, Option, Patch}
use Rattle.emit_relocate.proofs.Common.{Results, SectionRef, Site, Some, [], add-one, ap, append-nil, append_assoc}
use Rattle.emit_relocate.proofs.Common.{arith, ends_of, false, false≢true, faults_of, file_patch_at, filter, filter_map}
use Rattle.emit_relocate.proofs.Common.{flat_map, flat_map-append, get_or_from_slice_get, has_new_value, is_some}
use Rattle.emit_relocate.proofs.Common.{length, length-append, map, map-append, named_object, own_sites, refl}
use Rattle.emit_relocate.proofs.Common.{section_ref, sections_in, sections_of, slice_get, slice_get_within, subst, sym}
use Rattle.emit_relocate.proofs.Common.{take, take-length, take-suc, take_all, ℕ, ◌++◌, ◌+◌, ◌<◌, ◌^◌, ◌∙◌, ◌∷◌, ◌≡◌}
use Rattle.emit_relocate.proofs.Common.{◌≤◌}
use Rattle.std.proofs.Common.{None}
use Rattle.emit_relocate.proofs.Added.{counted_more, raise_none}
use Rattle.emit_relocate.proofs.Found.{there}

abbrev pub run_of : Evaluated → List Patch
run_of c = c.run

abbrev pub patches_of : Evaluated → List Patch
patches_of c = c.patches

abbrev pub sites_of : Evaluated → List Site
sites_of c = c.sites

pub flat_runs : (cs : List Evaluated) → flat_map (λ run. run) (map run_of cs) ≡ flat_map run_of cs
flat_runs [] = refl
flat_runs (c ∷ cs) = ap (λ r. c.run ++ r) (flat_runs cs)

-- a section that is known to have stayed is one of its object
pub kept_by : (range : SectionRef → Option FileRange) (key : SectionRef) (r : FileRange) → Some r ≡ range key
    → HasSomeStayed range key.object
kept_by range key r e = (key.part, ap is_some (sym e))

pub not_some : (known : Option FileRange) → is_some known ≡ false → None ≡ known
not_some None e = refl
not_some (Some r) e = absurd (false≢true (sym e))

module _ (old : GoodLink) (l : KnownLink) (range : SectionRef → Option FileRange) where
  -- those sites of a section that stayed were evaluated whose symbol has another value
  pub retained : (s : ObjectSection) (key : SectionRef) (r : FileRange) (a b : Results) → HasStayedAt old l key r
      → b.fields ≡ a.fields → b.ends ≡ a.ends
      → AreRetargetedFiled old l r (own_sites l s) a.patches b.patches a.faults b.faults a.counts b.counts
      → Adds l (HasRetargetedFields old l key r s) a b
  retained s key r a b stays fields ends h =
      let ts : List Site = filter (has_new_value old l) (own_sites l s) in
      record {
        evaluated = record { run = []; patches = filter_map (file_patch_at l r) ts; sites = ts };
        is_done = record { stayed = λ t d. stays; run = refl; patches = refl; sites = refl };
        fields = fields ∙ sym (append-nil a.fields);
        ends = ends;
        patches = h.patches;
        counts = h.counts;
      }

  -- by what is known of the section
  pub known_as : (s : ObjectSection) (place : ObjectPlace) → named_object l place ≡ Some s.object
      → (r : Option FileRange) → r ≡ range (section_ref place s) → (a b : Results)
      → Adds l (λ c. IsEvaluatedAt old l (section_ref place s) r s c) a b → Adds l (IsEvaluatedOf old l range s) a b
  known_as s place named r e a b h = record {
    evaluated = h.evaluated;
    is_done = record {
      key = place;
      named = named;
      outcome = subst (λ q. IsEvaluatedAt old l (section_ref place s) q s h.evaluated) e h.is_done;
    };
    fields = h.fields;
    ends = h.ends;
    patches = h.patches;
    counts = h.counts;
  }

  -- beside what is known to have stayed
  pub retained_as : (s : ObjectSection) (place : ObjectPlace) → named_object l place ≡ Some s.object
      → IsFoundStayed old l range (section_ref place s) → (a b : Results)
      → ((r : FileRange) → IsFoundStayedAt old l range (section_ref place s) r
      → Adds l (HasRetargetedFields old l (section_ref place s) r s) a b)
      → Adds l (IsEvaluatedOf old l range s) a b
  retained_as s place named h a b each = go (range (section_ref place s)) refl h.known h.stayed
    where
      go : (known : Option FileRange) → known ≡ range (section_ref place s) → IsSome known
          → IfSome known (HasStayedAt old l (section_ref place s)) → Adds l (IsEvaluatedOf old l range s) a b
      go None e some stayed = absurd (false≢true some)
      go (Some r) e some stayed =
          known_as s place named (Some r) e a b (each r (record { known = e; stayed = stayed }))

  -- lists of input sections

  -- what was evaluated of a section was added, and then the end of its fields
  pub changed_one : (s : ObjectSection) (a b : Results) → Adds l (IsEvaluatedOf old l range s) a b
      → (ends : List ℕ) (n : ℕ) → n ≡ length b.fields → ends ≡ b.ends ++ n ∷ []
      → AreChanged old l range (s ∷ []) a (record b { ends = ends })
  changed_one s a b h ends n many e = record {
    sections = h.evaluated ∷ [];
    each = (h.is_done, tt);
    fields = h.fields ∙ ap (λ r. a.fields ++ r) (sym (append-nil h.evaluated.run));
    ends = e ∙ ap (λ r. r ++ n ∷ []) h.ends
        ∙ ap (λ k. a.ends ++ k ∷ []) (many ∙ ap length h.fields ∙ length-append a.fields h.evaluated.run);
    patches = h.patches ∙ ap (λ r. a.patches ++ r) (sym (append-nil h.evaluated.patches));
    counts = subst (λ ts. IsCounted l ts a.faults b.faults a.counts b.counts) (sym (append-nil h.evaluated.sites))
        h.counts;
  }

  pub changed_none : (a b : Results) → b.fields ≡ a.fields → b.ends ≡ a.ends → b.patches ≡ a.patches
      → b.faults ≡ a.faults → b.counts ≡ a.counts → a.counts.fields < 2 ^ 64 → AreChanged old l range [] a b
  changed_none a b fields ends patches faults counts h = record {
    sections = [];
    each = tt;
    fields = fields ∙ sym (append-nil a.fields);
    ends = ends ∙ sym (append-nil a.ends);
    patches = patches ∙ sym (append-nil a.patches);
    counts = record {
      faults = ap (faults_of l) faults ∙ sym (append-nil (faults_of l a.faults));
      counted = counts ∙ raise_none a.counts h;
    };
  }

  ends_append : (n : ℕ) (a b : List (List Patch)) → ends_of n (a ++ b) ≡ ends_of n a
      ++ ends_of (n + length (flat_map (λ run. run) a)) b
  ends_append n [] b = let e : n ≡ n + 0 = omega arith in ap (λ k. ends_of k b) e
  ends_append n (r ∷ a) b =
      let e : n + length r + length (flat_map (λ run. run) a) ≡ n + length (r ++ flat_map (λ run. run) a) =
      omega (arith, length-append r (flat_map (λ run. run) a)) in
      ap (λ rest. (n + length r) ∷ rest) (ends_append (n + length r) a b
      ∙ ap (λ k. ends_of (n + length r) a ++ ends_of k b) e)

  zip_append : (a b : List ObjectSection) (r q : List Evaluated) → AllZip (IsEvaluatedOf old l range) a r
      → AllZip (IsEvaluatedOf old l range) b q → AllZip (IsEvaluatedOf old l range) (a ++ b) (r ++ q)
  zip_append [] b [] q h k = k
  zip_append [] b (x ∷ r) q h k = absurd h
  zip_append (s ∷ a) b [] q h k = absurd h
  zip_append (s ∷ a) b (x ∷ r) q h k = (h.0, zip_append a b r q h.1 k)

  pub changed_more : (ss ts : List ObjectSection) (a b c : Results) → AreChanged old l range ss a b
      → AreChanged old l range ts b c → AreChanged old l range (ss ++ ts) a c
  changed_more ss ts a b c h k = record {
    sections = h.sections ++ k.sections;
    each = zip_append ss ts h.sections k.sections h.each k.each;
    fields = k.fields ∙ ap (λ r. r ++ flat_map run_of k.sections) h.fields
        ∙ append_assoc a.fields (flat_map run_of h.sections) (flat_map run_of k.sections)
        ∙ ap (λ r. a.fields ++ r) (sym (flat_map-append run_of h.sections k.sections));
    ends =
        let hs : List (List Patch) = map run_of h.sections in
        let ks : List (List Patch) = map run_of k.sections in
        let many : length b.fields ≡ length a.fields + length (flat_map (λ run. run) hs) =
        ap length h.fields ∙ length-append a.fields (flat_map run_of h.sections)
        ∙ ap (λ r. length a.fields + length r) (sym (flat_runs h.sections)) in
        k.ends ∙ ap (λ r. r ++ ends_of (length b.fields) ks) h.ends
        ∙ append_assoc a.ends (ends_of (length a.fields) hs) (ends_of (length b.fields) ks)
        ∙ ap (λ n. a.ends ++ (ends_of (length a.fields) hs ++ ends_of n ks)) many
        ∙ ap (λ r. a.ends ++ r) (sym (ends_append (length a.fields) hs ks)
        ∙ ap (ends_of (length a.fields)) (sym (map-append run_of h.sections k.sections)));
    patches = k.patches ∙ ap (λ r. r ++ flat_map patches_of k.sections) h.patches
        ∙ append_assoc a.patches (flat_map patches_of h.sections) (flat_map patches_of k.sections)
        ∙ ap (λ r. a.patches ++ r) (sym (flat_map-append patches_of h.sections k.sections));
    counts = subst (λ ts. IsCounted l ts a.faults c.faults a.counts c.counts)
        (sym (flat_map-append sites_of h.sections k.sections))
        (counted_more l (flat_map sites_of h.sections) (flat_map sites_of k.sections) a.faults b.faults c.faults
        a.counts b.counts c.counts h.counts k.counts);
  }

  module _ (a b c : Results) where
    -- one section more of an object
    section_at : (o : NamedObject) (xs : List LinkedSection) (i : ℕ) (m : Option LinkedSection) → slice_get xs i ≡ m
        → i < length xs → AreChanged old l range (sections_of o (take i xs)) a b
        → ((x : LinkedSection) → slice_get xs i ≡ Some x
        → AreChanged old l range (record { object = o; section = x } ∷ []) b c)
        → AreChanged old l range (sections_of o (take (i + 1) xs)) a c
    section_at o xs i None is low h k = absurd (there xs i low is)
    section_at o xs i (Some x) is low h k =
        let more : take (i + 1) xs ≡ take i xs ++ x ∷ [] =
        ap (λ n. take n xs) (add-one i) ∙ take-suc xs i x low
        ∙ ap (λ y. take i xs ++ y ∷ []) (get_or_from_slice_get xs i x x is) in
        let both : sections_of o (take (i + 1) xs) ≡ sections_of o (take i xs)
        ++ record { object = o; section = x } ∷ [] =
        ap (sections_of o) more ∙ map-append (λ y. record { object = o; section = y }) (take i xs) (x ∷ []) in
        rw both (changed_more (sections_of o (take i xs)) (record { object = o; section = x } ∷ []) a b c h (k x is))

    pub next_section : (o : NamedObject) (xs : List LinkedSection) (i : ℕ) → i < length xs
        → AreChanged old l range (sections_of o (take i xs)) a b
        → ((x : LinkedSection) → slice_get xs i ≡ Some x
        → AreChanged old l range (record { object = o; section = x } ∷ []) b c)
        → AreChanged old l range (sections_of o (take (i + 1) xs)) a c
    next_section o xs i low h k = section_at o xs i (slice_get xs i) refl low h k

    -- one object more
    pub object_at : (os : List NamedObject) (i : ℕ) (o : NamedObject) → slice_get os i ≡ Some o
        → AreChanged old l range (sections_in (take i os)) a b
        → AreChanged old l range (sections_of o o.object.sections) b c
        → AreChanged old l range (sections_in (take (i + 1) os)) a c
    object_at os i o is h k =
        let low : i < length os = slice_get_within os i o is in
        let more : take (i + 1) os ≡ take i os ++ o ∷ [] =
        ap (λ n. take n os) (add-one i) ∙ take-suc os i o low
        ∙ ap (λ y. take i os ++ y ∷ []) (get_or_from_slice_get os i o o is) in
        let both : sections_in (take (i + 1) os) ≡ sections_in (take i os) ++ sections_of o o.object.sections =
        ap sections_in more ∙ flat_map-append (λ (y : NamedObject). sections_of y y.object.sections) (take i os)
        (o ∷ [])
        ∙ ap (λ r. sections_in (take i os) ++ r) (append-nil (sections_of o o.object.sections)) in
        rw both (changed_more (sections_in (take i os)) (sections_of o o.object.sections) a b c h k)

  pub whole_object : (o : NamedObject) (xs : List LinkedSection) (i : ℕ) → length xs ≤ i → i ≤ length xs
      → (a b : Results) → AreChanged old l range (sections_of o (take i xs)) a b
      → AreChanged old l range (sections_of o xs) a b
  whole_object o xs i low high a b h =
      let e : i ≡ length xs = omega arith in
      subst (λ ys. AreChanged old l range (sections_of o ys) a b) (ap (λ n. take n xs) e ∙ take-length xs) h

  -- all objects
  pub whole_link : (i : ℕ) → length l.project.objects ≤ i
      → (a b : Results) → AreChanged old l range (sections_in (take i l.project.objects)) a b
      → AreChanged old l range (sections_in l.project.objects) a b
  whole_link i high a b h =
      subst (λ os. AreChanged old l range (sections_in os) a b) (take_all i l.project.objects high) h
