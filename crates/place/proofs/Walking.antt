-- The walk over output sections and segments finds where each output section begins in the file.
use Rattle.place.proofs.Common.{AllZip, AreNamed, AreSegments, Bool, Each, EachLater, IsOffset, IsSegment, Layout, List}
use Rattle.place.proofs.Common.{Placed, PlacedOutput, Some, [], and_parts, ap, append-nil, arith, bytes_eq}
use Rattle.place.proofs.Common.{bytes_eq-Decides, cond, drop, drop_all, each_by, each_filter, each_of_map, each_parts}
use Rattle.place.proofs.Common.{eq-eqb, eqb-true, false, false_from_ne_true, flat_map, fold, is_last, later_filter}
use Rattle.place.proofs.Common.{later_of_map, leb-true, length, map, map-append, nat_le, nat_lt, nonempty, not}
use Rattle.place.proofs.Common.{offset_at, offsets_in, option_map_or, placed_of, refl, same_Some, segments, slice_get}
use Rattle.place.proofs.Common.{subst, suc, sym, true, zero, ℕ, ◌&&◌, ◌++◌, ◌+◌, ◌-◌, ◌<◌, ◌==◌, ◌∙◌, ◌∷◌, ◌≡◌, ◌≤◌}
use Rattle.std.specs.Bool.{beq}
use Rattle.ldmodel_laws.specs.FileLayout.{IsFileLayout, IsTogether, Neighbours, Shares, last_from}
use Rattle.ldmodel.specs.Placement.{difference_of}
use Rattle.ldmodel.specs.Segments.{Group, SectionInFile, Segment, end_of, file_offset, in_file, in_segment, page_size}
use Rattle.ldmodel.specs.Segments.{reach, group_sections, segment_start}
use Rattle.ldmodel.specs.declared.segment.Segment as code
use Rattle.place.proofs.Lists.{each_at, find_at, find_none}

-- sections of nonzero size, and where they begin in the file, in the segments from one on
data Ahead : List code.Segment → List PlacedOutput → List ℕ → Type 0 where
  over : Ahead [] [] []
  last : {x : code.Segment} {xs : List code.Segment} {q : PlacedOutput} {qs : List PlacedOutput} {o : ℕ}
      {os : List ℕ} → is_last x (placed_of q) ≡ true → offset_at x (placed_of q) ≡ o → Ahead xs qs os
      → Ahead (x ∷ xs) (q ∷ qs) (o ∷ os)
  inner : {x : code.Segment} {xs : List code.Segment} {q : PlacedOutput} {qs : List PlacedOutput} {o : ℕ}
      {os : List ℕ} → is_last x (placed_of q) ≡ false → offset_at x (placed_of q) ≡ o → Ahead (x ∷ xs) qs os
      → Ahead (x ∷ xs) (q ∷ qs) (o ∷ os)

-- offsets of the sections of nonzero size, and 0 for the others
abbrev spread : List PlacedOutput → List ℕ → List ℕ
spread [] os = []
spread (q ∷ qs) [] = cond (q.size == 0) (0 ∷ spread qs []) []
spread (q ∷ qs) (o ∷ os) = cond (q.size == 0) (0 ∷ spread qs (o ∷ os)) (o ∷ spread qs os)

walk_zero : (q : Placed) (qs : List Placed) (xs : List code.Segment) → (q.size == 0) ≡ true
    → offsets_in (q ∷ qs) xs ≡ 0 ∷ offsets_in qs xs
walk_zero q qs [] e = refl
walk_zero q qs (x ∷ xs) e =
    ap (λ b. cond b (0 ∷ offsets_in qs (x ∷ xs))
    (offset_at x q ∷ cond (is_last x q) (offsets_in qs xs) (offsets_in qs (x ∷ xs)))) e

walk_more : (q : Placed) (qs : List Placed) (x : code.Segment) (xs : List code.Segment) (b : Bool)
    → (q.size == 0) ≡ false → is_last x q ≡ b
    → offsets_in (q ∷ qs) (x ∷ xs) ≡ offset_at x q ∷ cond b (offsets_in qs xs) (offsets_in qs (x ∷ xs))
walk_more q qs x xs b e l =
    ap (λ t. cond t (0 ∷ offsets_in qs (x ∷ xs))
    (offset_at x q ∷ cond (is_last x q) (offsets_in qs xs) (offsets_in qs (x ∷ xs)))) e
    ∙ ap (λ t. offset_at x q ∷ cond t (offsets_in qs xs) (offsets_in qs (x ∷ xs))) l

spread_zero : (q : PlacedOutput) (qs : List PlacedOutput) (os : List ℕ) → (q.size == 0) ≡ true
    → spread (q ∷ qs) os ≡ 0 ∷ spread qs os
spread_zero q qs [] e = ap (λ b. cond b (0 ∷ spread qs []) []) e
spread_zero q qs (o ∷ os) e = ap (λ b. cond b (0 ∷ spread qs (o ∷ os)) (o ∷ spread qs os)) e

spread_more : (q : PlacedOutput) (qs : List PlacedOutput) (o : ℕ) (os : List ℕ) → (q.size == 0) ≡ false
    → spread (q ∷ qs) (o ∷ os) ≡ o ∷ spread qs os
spread_more q qs o os e = ap (λ b. cond b (0 ∷ spread qs (o ∷ os)) (o ∷ spread qs os)) e

walk_full : (q : PlacedOutput) (qs ns : List PlacedOutput) (xs : List code.Segment) (os : List ℕ)
    → (q.size == 0) ≡ false
    → ((xs : List code.Segment) (os : List ℕ) → Ahead xs ns os → offsets_in (map placed_of qs) xs ≡ spread qs os)
    → Ahead xs (q ∷ ns) os → offsets_in (placed_of q ∷ map placed_of qs) xs ≡ spread (q ∷ qs) os
walk_full q qs ns [] os e rest h = elim h [ ]
walk_full q qs ns (x ∷ xs) [] e rest h = elim h [ ]
walk_full q qs ns (x ∷ xs) (o ∷ os) e rest (last l a r) =
    walk_more (placed_of q) (map placed_of qs) x xs true e l
    ∙ ap (λ n. n ∷ offsets_in (map placed_of qs) xs) a ∙ ap (λ vs. o ∷ vs) (rest xs os r)
    ∙ sym (spread_more q qs o os e)
walk_full q qs ns (x ∷ xs) (o ∷ os) e rest (inner l a r) =
    walk_more (placed_of q) (map placed_of qs) x xs false e l
    ∙ ap (λ n. n ∷ offsets_in (map placed_of qs) (x ∷ xs)) a ∙ ap (λ vs. o ∷ vs) (rest (x ∷ xs) os r)
    ∙ sym (spread_more q qs o os e)

walk : (qs : List PlacedOutput) (xs : List code.Segment) (os : List ℕ) → Ahead xs (nonempty qs) os
    → offsets_in (map placed_of qs) xs ≡ spread qs os
walk [] xs os h = refl
walk (q ∷ qs) xs os h = go (q.size == 0) refl h (walk qs)
  where
    go : (b : Bool) → (q.size == 0) ≡ b → Ahead xs (cond (not b) (q ∷ nonempty qs) (nonempty qs)) os
        → ((xs : List code.Segment) (os : List ℕ) → Ahead xs (nonempty qs) os
        → offsets_in (map placed_of qs) xs ≡ spread qs os)
        → offsets_in (map placed_of (q ∷ qs)) xs ≡ spread (q ∷ qs) os
    go true e k rest =
        walk_zero (placed_of q) (map placed_of qs) xs e ∙ ap (λ vs. 0 ∷ vs) (rest xs os k)
        ∙ sym (spread_zero q qs os e)
    go false e k rest = walk_full q qs (nonempty qs) xs os e rest k

-- ---- the segments are ahead of all sections of nonzero size

abbrev Sized : PlacedOutput → Type 0
Sized q = (q.size == 0) ≡ false

no_zero : (n : ℕ) → (n == 0) ≡ false → 0 < n
no_zero zero h = absurd (let none : ⊥ = cc in none)
no_zero (suc n) h = omega arith

follows : (p q : PlacedOutput) → Shares p q → end_of p ≤ q.start
follows p q h =
    let flags : Bool = beq p.writable q.writable && beq p.executable q.executable in
    let one = and_parts (flags && (difference_of p == difference_of q) && nat_le (end_of p) q.start
    && nat_lt q.start (end_of p + page_size)) (not (q.has_file_bytes && not p.has_file_bytes)) h in
    let two = and_parts (flags && (difference_of p == difference_of q) && nat_le (end_of p) q.start)
    (nat_lt q.start (end_of p + page_size)) one.0 in
    let three = and_parts (flags && (difference_of p == difference_of q)) (nat_le (end_of p) q.start) two.0 in
    leb-true (end_of p) q.start three.1

last_after : (p : PlacedOutput) (ps : List PlacedOutput) → Neighbours Shares (p ∷ ps)
    → end_of p ≤ end_of (last_from p ps)
last_after p [] h = omega arith
last_after p (q ∷ qs) h =
    let next : end_of p ≤ q.start = follows p q h.0 in
    let rest : end_of q ≤ end_of (last_from q qs) = last_after q qs h.1 in
    omega (arith, next, rest)

same_number : (m n : ℕ) → m ≡ n → (m == n) ≡ true
same_number m n e = eq-eqb m n e

other_number : (m n : ℕ) → m < n → (m == n) ≡ false
other_number m n l = false_from_ne_true (m == n) (λ t. absurd (omega (arith, l, eqb-true m n t)))

module _ (g : Segment) (x : code.Segment) (xs : List code.Segment) (ns : List PlacedOutput) (os : List ℕ)
    (offset : x.offset ≡ g.offset) (start : x.start ≡ segment_start g) (rest : Ahead xs ns os) where
  offset_is : (p : PlacedOutput) → offset_at x (placed_of p) ≡ g.offset + (p.start - segment_start g)
  offset_is p = ap (λ n. n + (p.start - x.start)) offset ∙ ap (λ n. g.offset + (p.start - n)) start

  ahead_group : (p : PlacedOutput) (ps : List PlacedOutput) → x.memory_size ≡ reach g.group (last_from p ps)
      → segment_start g ≤ p.start → Neighbours Shares (p ∷ ps) → Each Sized (p ∷ ps)
      → Ahead (x ∷ xs) ((p ∷ ps) ++ ns) (map (λ y. y.offset) (map (in_segment g) (p ∷ ps)) ++ os)
  ahead_group p [] size from together sized =
      last
      (same_number ((p.start + p.size) - x.start) x.memory_size
      (ap (λ n. (p.start + p.size) - n) start ∙ sym size))
      (offset_is p) rest
  ahead_group p (q ∷ qs) size from together sized =
      let next : end_of p ≤ q.start = follows p q together.0 in
      let after : end_of q ≤ end_of (last_from q qs) = last_after q qs together.1 in
      let some : 0 < q.size = no_zero q.size sized.1.0 in
      inner
      (other_number ((p.start + p.size) - x.start) x.memory_size (omega (arith, start, size, next, after, some, from)))
      (offset_is p)
      (ahead_group q qs size (omega (arith, from, next)) together.1 sized.1)

fold_last : (g : Group) (n : ℕ) (p : PlacedOutput) (ps : List PlacedOutput)
    → fold (λ m (q : PlacedOutput). reach g q) n (p ∷ ps) ≡ reach g (last_from p ps)
fold_last g n p [] = refl
fold_last g n p (q ∷ qs) = fold_last g (reach g p) q qs

abbrev parts_of : List Segment → List PlacedOutput
parts_of gs = flat_map group_sections (map (λ (g : Segment). g.group) gs)

ahead_all : (sections : List PlacedOutput) (gs : List Segment) (xs : List code.Segment)
    → AllZip (IsSegment sections) gs xs → Each IsTogether (map (λ (g : Segment). g.group) gs)
    → Each Sized (parts_of gs) → Ahead xs (parts_of gs) (map (λ y. y.offset) (in_file gs))
ahead_all sections [] [] z t h = over
ahead_all sections [] (x ∷ xs) z t h = absurd z
ahead_all sections (g ∷ gs) [] z t h = absurd z
ahead_all sections (g ∷ gs) (x ∷ xs) z t h =
    let sized = each_parts Sized (group_sections g.group) (parts_of gs) h in
    let here = z.0 in
    subst (λ os. Ahead (x ∷ xs) (group_sections g.group ++ parts_of gs) os)
    (sym (map-append (λ (y : SectionInFile). y.offset) (map (in_segment g) (group_sections g.group)) (in_file gs)))
    (ahead_group g x xs (parts_of gs) (map (λ y. y.offset) (in_file gs)) here.offset here.start
    (ahead_all sections gs xs z.1 t.1 sized.1) g.group.first g.group.others
    (here.in_memory ∙ fold_last g.group 0 g.group.first g.group.others) (omega arith) t.0 sized.0)

-- ---- what is found under a name

map_sections : (g : Segment) (qs : List PlacedOutput)
    → map (λ (y : SectionInFile). y.section) (map (in_segment g) qs) ≡ qs
map_sections g [] = refl
map_sections g (q ∷ qs) = ap (λ l. q ∷ l) (map_sections g qs)

pub sections_in_file : (gs : List Segment) → map (λ (y : SectionInFile). y.section) (in_file gs) ≡ parts_of gs
sections_in_file [] = refl
sections_in_file (g ∷ gs) =
    map-append (λ (y : SectionInFile). y.section) (map (in_segment g) (group_sections g.group)) (in_file gs)
    ∙ ap (λ l. l ++ map (λ (y : SectionInFile). y.section) (in_file gs)) (map_sections g (group_sections g.group))
    ∙ ap (λ l. group_sections g.group ++ l) (sections_in_file gs)

map_at : {X Y : Type 0} (f g : X → Y) (xs : List X) → ((k : ℕ) (x : X) → slice_get xs k ≡ Some x → f x ≡ g x)
    → map f xs ≡ map g xs
map_at f g [] h = refl
map_at f g (x ∷ xs) h =
    ap (λ y. y ∷ map f xs) (h 0 x refl) ∙ ap (λ l. g x ∷ l) (map_at f g xs (λ k y e. h (suc k) y e))

map_map : {X Y Z : Type 0} (f : Y → Z) (g : X → Y) (xs : List X) → map f (map g xs) ≡ map (λ x. f (g x)) xs
map_map f g [] = refl
map_map f g (x ∷ xs) = ap (λ l. f (g x) ∷ l) (map_map f g xs)

abbrev same_name : SectionInFile → SectionInFile → Bool
same_name x y = bytes_eq x.section.name y.section.name

own_name : (n : List ℕ) → bytes_eq n n ≡ true
own_name n = (bytes_eq-Decides n n).1 refl

name_back : (n m : List ℕ) → bytes_eq n m ≡ false → bytes_eq m n ≡ false
name_back n m h = false_from_ne_true (bytes_eq m n) (λ t.
    let same : n ≡ m = sym ((bytes_eq-Decides m n).0 t) in
    let is : bytes_eq n m ≡ true = (bytes_eq-Decides n m).1 same in
    absurd (let none : ⊥ = cc in none))

-- no section of nonzero size has the name of one of size 0
none_named : (qs : List PlacedOutput) → AreNamed qs → (k : ℕ) (q : PlacedOutput) → slice_get qs k ≡ Some q
    → (q.size == 0) ≡ true → Each (λ (r : PlacedOutput). bytes_eq r.name q.name ≡ false) (nonempty qs)
none_named [] h k q e z = tt
none_named (r ∷ rs) h zero q e z =
    let is : r ≡ q = same_Some _ _ e in
    subst (λ l. Each (λ (x : PlacedOutput). bytes_eq x.name q.name ≡ false) l)
    (sym (ap (λ b. cond (not b) (r ∷ nonempty rs) (nonempty rs)) (ap (λ (x : PlacedOutput). x.size == 0) is ∙ z)))
    (each_filter (λ (x : PlacedOutput). bytes_eq x.name q.name ≡ false) (λ (x : PlacedOutput). not (x.size == 0)) rs
    (each_by (λ (x : PlacedOutput). bytes_eq x.name q.name ≡ false) rs
    (λ k x at. name_back q.name x.name
    (subst (λ (y : PlacedOutput). bytes_eq y.name x.name ≡ false) is
    (each_at (λ (y : PlacedOutput). bytes_eq r.name y.name ≡ false) rs k x h.0 at)))))
none_named (r ∷ rs) h (suc k) q e z = go (r.size == 0) (none_named rs h.1 k q e z)
  where
    go : (b : Bool) → Each (λ (x : PlacedOutput). bytes_eq x.name q.name ≡ false) (nonempty rs)
        → Each (λ (x : PlacedOutput). bytes_eq x.name q.name ≡ false) (cond (not b) (r ∷ nonempty rs) (nonempty rs))
    go true rest = rest
    go false rest = (each_at (λ (y : PlacedOutput). bytes_eq r.name y.name ≡ false) rs k q h.0 e, rest)

module _ (s : List PlacedOutput) (gs : List Segment) (named : AreNamed s) (parts : parts_of gs ≡ nonempty s) where
  names_differ : EachLater (λ x y. same_name x y ≡ false) (in_file gs)
  names_differ =
      later_of_map (λ (q r : PlacedOutput). bytes_eq q.name r.name ≡ false) (λ (y : SectionInFile). y.section)
      (in_file gs)
      (subst (EachLater (λ (q r : PlacedOutput). bytes_eq q.name r.name ≡ false))
      (sym (sections_in_file gs ∙ parts))
      (later_filter (λ (q r : PlacedOutput). bytes_eq q.name r.name ≡ false) (λ (q : PlacedOutput). not (q.size == 0))
      s named))

  found_at : (k : ℕ) (x : SectionInFile) → slice_get (in_file gs) k ≡ Some x → file_offset gs x.section ≡ x.offset
  found_at k x e =
      ap (λ o. option_map_or (λ (y : SectionInFile). y.offset) o 0)
      (find_at same_name (λ y. own_name y.section.name) (in_file gs) names_differ k x e)

  -- each section in the file with where it begins
  pub in_file_are : in_file gs ≡ map (λ (q : PlacedOutput). record { offset = file_offset gs q; section = q })
      (nonempty s)
  in_file_are =
      sym (map_at (λ (x : SectionInFile). record { offset = file_offset gs x.section; section = x.section })
      (λ (x : SectionInFile). x) (in_file gs)
      (λ k x e. ap (λ n. record { offset = n; section = x.section }) (found_at k x e)) ∙ map_own (in_file gs))
      ∙ sym (map_map (λ (q : PlacedOutput). record { offset = file_offset gs q; section = q })
      (λ (x : SectionInFile). x.section) (in_file gs))
      ∙ ap (map (λ (q : PlacedOutput). record { offset = file_offset gs q; section = q }))
      (sections_in_file gs ∙ parts)
    where
      map_own : (xs : List SectionInFile) → map (λ (x : SectionInFile). x) xs ≡ xs
      map_own [] = refl
      map_own (x ∷ xs) = ap (λ l. x ∷ l) (map_own xs)

  offsets_are : map (λ (y : SectionInFile). y.offset) (in_file gs) ≡ map (file_offset gs) (nonempty s)
  offsets_are =
      ap (map (λ (y : SectionInFile). y.offset)) in_file_are
      ∙ map_map (λ (y : SectionInFile). y.offset)
      (λ (q : PlacedOutput). record { offset = file_offset gs q; section = q }) (nonempty s)

  none_at : (k : ℕ) (q : PlacedOutput) → slice_get s k ≡ Some q → (q.size == 0) ≡ true → file_offset gs q ≡ 0
  none_at k q e z =
      ap (λ o. option_map_or (λ (y : SectionInFile). y.offset) o 0)
      (find_none (λ (x : SectionInFile). bytes_eq x.section.name q.name) (in_file gs)
      (each_of_map (λ (r : PlacedOutput). bytes_eq r.name q.name ≡ false) (λ (x : SectionInFile). x.section)
      (in_file gs)
      (subst (Each (λ (r : PlacedOutput). bytes_eq r.name q.name ≡ false)) (sym (sections_in_file gs ∙ parts))
      (none_named s named k q e z))))

spread_are : (f : PlacedOutput → ℕ) (qs : List PlacedOutput)
    → ((k : ℕ) (q : PlacedOutput) → slice_get qs k ≡ Some q → (q.size == 0) ≡ true → f q ≡ 0)
    → AllZip (λ q o. o ≡ f q) qs (spread qs (map f (nonempty qs)))
spread_are f [] h = tt
spread_are f (q ∷ qs) h = go (q.size == 0) refl (spread_are f qs (λ k r e. h (suc k) r e))
  where
    go : (b : Bool) → (q.size == 0) ≡ b → AllZip (λ r o. o ≡ f r) qs (spread qs (map f (nonempty qs)))
        → AllZip (λ r o. o ≡ f r) (q ∷ qs) (spread (q ∷ qs) (map f (cond (not b) (q ∷ nonempty qs) (nonempty qs))))
    go true e rest =
        subst (λ l. AllZip (λ r o. o ≡ f r) (q ∷ qs) l) (sym (spread_zero q qs (map f (nonempty qs)) e))
        (sym (h 0 q refl e), rest)
    go false e rest =
        subst (λ l. AllZip (λ r o. o ≡ f r) (q ∷ qs) l) (sym (spread_more q qs (f q) (map f (nonempty qs)) e))
        (refl, rest)

each_sized : (qs : List PlacedOutput) → Each Sized (nonempty qs)
each_sized [] = tt
each_sized (q ∷ qs) = go (q.size == 0) refl (each_sized qs)
  where
    go : (b : Bool) → (q.size == 0) ≡ b → Each Sized (nonempty qs)
        → Each Sized (cond (not b) (q ∷ nonempty qs) (nonempty qs))
    go true e rest = rest
    go false e rest = (e, rest)

-- the walk over all sections and segments
pub walked_are : (s : Layout) (xs : List code.Segment) → AreNamed s.sections
    → AreSegments s.sections (segments s.sections) xs → IsFileLayout s.sections (segments s.sections)
    → AllZip (IsOffset s) s.sections (offsets_in (map placed_of s.sections) xs)
walked_are s xs named are file =
    let gs : List Segment = segments s.sections in
    let parts : parts_of gs ≡ nonempty s.sections = file.grouping.parts in
    let ahead : Ahead xs (nonempty s.sections) (map (file_offset gs) (nonempty s.sections)) =
    subst (λ os. Ahead xs (nonempty s.sections) os) (offsets_are s.sections gs named parts)
    (subst (λ qs. Ahead xs qs (map (λ (y : SectionInFile). y.offset) (in_file gs))) parts
    (ahead_all s.sections gs xs are file.grouping.together
    (subst (Each Sized) (sym parts) (each_sized s.sections)))) in
    subst (λ vs. AllZip (IsOffset s) s.sections vs) (sym (walk s.sections xs _ ahead))
    (spread_are (file_offset gs) s.sections (none_at s.sections gs named parts))

-- what is found where nothing is left
pub walked_all : (s : Layout) (ps : List Placed) (gs hs : List code.Segment) (vs : List ℕ) (k : ℕ) → AreNamed s.sections
    → map placed_of s.sections ≡ ps → AreSegments s.sections (segments s.sections) gs
    → IsFileLayout s.sections (segments s.sections) → length ps ≤ k
    → vs ++ offsets_in (drop k ps) hs ≡ offsets_in ps gs → AllZip (IsOffset s) s.sections vs
walked_all s ps gs hs vs k named same are file past e =
    let none : offsets_in (drop k ps) hs ≡ [] = ap (λ l. offsets_in l hs) (drop_all k ps past) in
    let all : vs ≡ offsets_in ps gs = sym (append-nil vs) ∙ ap (λ l. vs ++ l) (sym none) ∙ e in
    subst (λ l. AllZip (IsOffset s) s.sections l) (sym (all ∙ ap (λ l. offsets_in l gs) (sym same)))
    (walked_are s gs named are file)
