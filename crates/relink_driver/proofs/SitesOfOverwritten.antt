-- Of two links at one layout of which one object differs, the input sections of all others stayed, and no symbol has
-- another value: the sites outside of what stayed are those of the object, and its bytes lie outside of what stayed.
use Rattle.relink_driver.proofs.Common.{AreNamesDistinct, Bool, Contains, DiffersInContents, Each, EachLater, GoodLink}
use Rattle.relink_driver.proofs.Common.{HasSameFrame, InCommon, InTable, Layout, LinkedSection, List, NamedObject}
use Rattle.relink_driver.proofs.Common.{NamedSymbol, None, Option, Part, PlacedOutput, PlacedPiece, Project, Relocation}
use Rattle.relink_driver.proofs.Common.{SectionKind, Some, [], and_from, and_parts, any_in, ap, arith, bytes_eq}
use Rattle.relink_driver.proofs.Common.{bytes_eq-Decides, bytes_to_write, cond, eq-eqb, eqb-true, false, false≢true}
use Rattle.relink_driver.proofs.Common.{filter, filter_in, find, first_or_later, flat_map, flat_map_in, has_part_stayed}
use Rattle.relink_driver.proofs.Common.{here, if◌then◌else◌, image_length, in_any, in_map, inl, inr, is_linked_part}
use Rattle.relink_driver.proofs.Common.{is_local, is_part, is_same_part, is_weak_binding, later, length, length-map}
use Rattle.relink_driver.proofs.Common.{lies_in_stayed, map, map_in, none_in_nil, not, object_named, object_outline}
use Rattle.relink_driver.proofs.Common.{option_map_or, or_weak, own_value, placed_part, referenced_value, refl}
use Rattle.relink_driver.proofs.Common.{same_Some, segments, sites_to_evaluate, slice_get, subst, suc, sum_by}
use Rattle.relink_driver.proofs.Common.{sum_by-cons, sym, true, zero, ℕ, ◌&&◌, ◌+◌, ◌==◌, ◌∙◌, ◌∷◌, ◌≡◌, ◌≤◌, ◌⊎◌}
use Rattle.std.specs.List.Sorted.{IsPermutation}
use Rattle.std.proofs.lemmas.List.Filters.{sum_by-filter_both}
use Rattle.std.proofs.lemmas.List.Sorted.{length_permutation}
use Rattle.elfobj.specs.Profile.{size_in_file}
use Rattle.elfobj.specs.declared.section.SectionKind.TheVariants.{Progbits, Nobits, Note, InitArray, FiniArray}
use Rattle.elfobj.specs.declared.section.SectionKind.TheVariants.{PreinitArray, Unwind}
use Rattle.ldmodel.specs.Relocations.{Site, is_evaluated, site_symbol, site_value, sites, sites_at, sites_of_section}
use Rattle.ldmodel.specs.Stayed.{LinkedPiece, has_stayed, has_other_value, linked_piece, link_pieces, linked_pieces}
use Rattle.ldmodel.specs.Stayed.{retargeted, same_piece, same_range, sites_in, stayed, text_of}
use Rattle.ldmodel.specs.SymbolValues.{SymbolValue, name_value, number_or_0, placed_pieces}
use Rattle.ldmodel.specs.SymbolValues as symbol
use Rattle.ldmodel.specs.WorkBound.{bytes_stayed, sites_outside}
use Rattle.ldmodel_laws.proofs.Finding.{ComesOf, NotBoth, find_only, in_flat_map}
use Rattle.ldmodel_laws.proofs.Joined.{filter_joined, found_joined, joined_same}
use Rattle.ldmodel_laws.proofs.Once.{names_later}
use Rattle.ldmodel_laws.proofs.PieceBytes.{one_name, same_name}
use Rattle.ldmodel_laws.proofs.Untouched.{linked_text, same}
use Rattle.ldmodel_laws.proofs.EachOf.{later_imply}
use Rattle.ldmodel_laws.proofs.SameParts.{same_part}

-- ---- lists

got : {X : Type 0} (xs : List X) (k : ℕ) (x : X) → slice_get xs k ≡ Some x → Contains xs x
got [] k x e = absurd (let none : ⊥ = cc in none)
got (y ∷ ys) zero x e = subst (λ z. Contains (y ∷ ys) z) (same_Some _ _ e) (here y ys)
got (y ∷ ys) (suc k) x e = later y ys x (got ys k x e)

place_of : {X : Type 0} (xs : List X) (x : X) → Contains xs x → (k : ℕ) × (slice_get xs k ≡ Some x)
place_of [] x c = absurd (none_in_nil x c)
place_of (y ∷ ys) x c = go (first_or_later y ys x c) (λ d. place_of ys x d)
  where
    go : (y ≡ x) ⊎ Contains ys x → (Contains ys x → (k : ℕ) × (slice_get ys k ≡ Some x))
        → (k : ℕ) × (slice_get (y ∷ ys) k ≡ Some x)
    go (inl is) rest = (0, ap Some is)
    go (inr d) rest = (suc (rest d).0, (rest d).1)

-- names that differ one way round
turned : (a b : List ℕ) → bytes_eq b a ≡ false → bytes_eq a b ≡ false
turned a b e = go (bytes_eq a b) refl
  where
    go : (t : Bool) → bytes_eq a b ≡ t → t ≡ false
    go false f = refl
    go true f = absurd (false≢true (sym e ∙ (bytes_eq-Decides b a).1 (sym ((bytes_eq-Decides a b).0 f))))

-- what a test finds in two lists that agree where it may hold
find_same : {X : Type 0} (test : X → Bool) (xs ys : List X) → length xs ≡ length ys
    → ((j : ℕ) → (slice_get xs j ≡ slice_get ys j)
    ⊎ ((option_map_or test (slice_get xs j) false ≡ false) × (option_map_or test (slice_get ys j) false ≡ false)))
    → find test xs ≡ find test ys
find_same test [] [] long h = refl
find_same test [] (y ∷ ys) long h = absurd (omega (arith, long))
find_same test (x ∷ xs) [] long h = absurd (omega (arith, long))
find_same {X} test (x ∷ xs) (y ∷ ys) long h = go (h 0) (find_same test xs ys (omega (arith, long)) (λ j. h (suc j)))
  where
    go : (Some x ≡ Some y) ⊎ ((test x ≡ false) × (test y ≡ false)) → find test xs ≡ find test ys
        → cond (test x) (Some x) (find test xs) ≡ cond (test y) (Some y) (find test ys)
    go (inl e) rest =
        let is : x ≡ y = same_Some _ _ e in
        ap (λ z. cond (test z) (Some z) (find test xs)) is ∙ ap (cond (test y) (Some y)) rest
    go (inr both) rest =
        ap (λ b. cond b (Some x) (find test xs)) both.0 ∙ rest ∙ sym (ap (λ b. cond b (Some y) (find test ys)) both.1)

pub find_got : {X : Type 0} (test : X → Bool) (xs : List X) (x : X) → find test xs ≡ Some x
    → Contains xs x × (test x ≡ true)
find_got test [] x e = absurd (let none : ⊥ = cc in none)
find_got {X} test (y ∷ ys) x e = go (test y) refl (find_got test ys x) e
  where
    go : (b : Bool) → test y ≡ b → (find test ys ≡ Some x → Contains ys x × (test x ≡ true))
        → cond b (Some y) (find test ys) ≡ Some x → Contains (y ∷ ys) x × (test x ≡ true)
    go true f rest g =
        let is : y ≡ x = same_Some _ _ g in
        (subst (λ z. Contains (y ∷ ys) z) is (here y ys), ap test (sym is) ∙ f)
    go false f rest g = (later y ys x (rest g).0, (rest g).1)

pub found_some : {X : Type 0} (test : X → Bool) (xs : List X) (x : X) → Contains xs x → test x ≡ true
    → (y : X) × (find test xs ≡ Some y)
found_some test [] x c e = absurd (none_in_nil x c)
found_some {X} test (z ∷ zs) x c e = go (test z) refl (first_or_later z zs x c) (λ d. found_some test zs x d e)
  where
    go : (b : Bool) → test z ≡ b → (z ≡ x) ⊎ Contains zs x → (Contains zs x → (y : X) × (find test zs ≡ Some y))
        → (y : X) × (cond b (Some z) (find test zs) ≡ Some y)
    go true f either rest = (z, refl)
    go false f (inl is) rest = absurd (false≢true (sym f ∙ ap test is ∙ e))
    go false f (inr d) rest = rest d

-- a test that gives one answer on a list
filter_one : {X : Type 0} (test : X → Bool) (b : Bool) (xs : List X) → ((x : X) → Contains xs x → test x ≡ b)
    → filter test xs ≡ cond b xs []
filter_one test true [] h = refl
filter_one test false [] h = refl
filter_one test true (x ∷ xs) h =
    ap (λ c. cond c (x ∷ filter test xs) (filter test xs)) (h x (here x xs))
    ∙ ap (λ l. x ∷ l) (filter_one test true xs (λ y c. h y (later x xs y c)))
filter_one test false (x ∷ xs) h =
    ap (λ c. cond c (x ∷ filter test xs) (filter test xs)) (h x (here x xs))
    ∙ filter_one test false xs (λ y c. h y (later x xs y c))

abbrev number_in : Part → ℕ
number_in (InTable k) = k.0
number_in (InCommon k) = 0

-- a member is no more than the sum
member_below : {X : Type 0} (f : X → ℕ) (xs : List X) (x : X) → Contains xs x → f x ≤ sum_by f xs
member_below f [] x c = absurd (none_in_nil x c)
member_below f (y ∷ ys) x c = go (first_or_later y ys x c) (λ d. member_below f ys x d)
  where
    go : (y ≡ x) ⊎ Contains ys x → (Contains ys x → f x ≤ sum_by f ys) → f x ≤ sum_by f (y ∷ ys)
    go (inl is) rest = (let first = ap f is in let split = sum_by-cons f y ys in omega (arith, first, split))
    go (inr d) rest = (let less = rest d in let split = sum_by-cons f y ys in omega (arith, less, split))

-- parts of a list that do not meet have no more than the list
module _ {Z X : Type 0} (is_of : Z → X → Bool) (f : X → ℕ) where
  abbrev part_sum : List X → Z → ℕ
  part_sum xs z = sum_by f (filter (is_of z) xs)

  abbrev Apart : Z → Z → Type 0
  Apart a b = (x : X) → (is_of a x && is_of b x) ≡ false

  nothing_more : (x : X) (xs : List X) (z : Z) → is_of z x ≡ false → part_sum (x ∷ xs) z ≡ part_sum xs z
  nothing_more x xs z e = ap (λ b. sum_by f (cond b (x ∷ filter (is_of z) xs) (filter (is_of z) xs))) e

  one_more : (x : X) (xs : List X) (z : Z) → part_sum (x ∷ xs) z ≤ part_sum xs z + f x
  one_more x xs z = go (is_of z x) refl
    where
      go : (b : Bool) → is_of z x ≡ b → part_sum (x ∷ xs) z ≤ part_sum xs z + f x
      go true e =
          let is : part_sum (x ∷ xs) z ≡ sum_by f (x ∷ filter (is_of z) xs) =
          ap (λ b. sum_by f (cond b (x ∷ filter (is_of z) xs) (filter (is_of z) xs))) e in
          let split = sum_by-cons f x (filter (is_of z) xs) in
          omega (arith, is, split)
      go false e = (let is = nothing_more x xs z e in omega (arith, is))

  -- where no part has it, nothing is added
  none_added : (x : X) (xs : List X) (zs : List Z) → Each (λ z. is_of z x ≡ false) zs
      → sum_by (part_sum (x ∷ xs)) zs ≡ sum_by (part_sum xs) zs
  none_added x xs [] h = refl
  none_added x xs (z ∷ zs) h =
      let a = sum_by-cons (part_sum (x ∷ xs)) z zs in
      let b = sum_by-cons (part_sum xs) z zs in
      let c = nothing_more x xs z h.0 in
      let d = none_added x xs zs h.1 in
      omega (arith, a, b, c, d)

  others : (x : X) (z : Z) → is_of z x ≡ true → (zs : List Z) → Each (Apart z) zs → Each (λ y. is_of y x ≡ false) zs
  others x z e [] h = tt
  others x z e (y ∷ ys) h = (
    sym (ap (λ b. b && is_of y x) e) ∙ h.0 x,
    others x z e ys h.1,
  )

  -- at most one part has it
  few_added : (x : X) (xs : List X) (zs : List Z) → EachLater Apart zs
      → sum_by (part_sum (x ∷ xs)) zs ≤ sum_by (part_sum xs) zs + f x
  few_added x xs [] h = omega arith
  few_added x xs (z ∷ zs) h = go (is_of z x) refl (few_added x xs zs h.1)
    where
      go : (b : Bool) → is_of z x ≡ b → sum_by (part_sum (x ∷ xs)) zs ≤ sum_by (part_sum xs) zs + f x
          → sum_by (part_sum (x ∷ xs)) (z ∷ zs) ≤ sum_by (part_sum xs) (z ∷ zs) + f x
      go true e rest =
          let a = sum_by-cons (part_sum (x ∷ xs)) z zs in
          let b = sum_by-cons (part_sum xs) z zs in
          let c = one_more x xs z in
          let d = none_added x xs zs (others x z e zs h.0) in
          omega (arith, a, b, c, d)
      go false e rest =
          let a = sum_by-cons (part_sum (x ∷ xs)) z zs in
          let b = sum_by-cons (part_sum xs) z zs in
          let c = nothing_more x xs z e in
          omega (arith, a, b, c, rest)

  no_parts : (zs : List Z) → sum_by (part_sum []) zs ≡ 0
  no_parts [] = refl
  no_parts (z ∷ zs) = (let a = sum_by-cons (part_sum []) z zs in let b = no_parts zs in omega (arith, a, b))

  parts_below : (xs : List X) (zs : List Z) → EachLater Apart zs → sum_by (part_sum xs) zs ≤ sum_by f xs
  parts_below [] zs h = (let none = no_parts zs in omega (arith, none))
  parts_below (x ∷ xs) zs h =
      let more = few_added x xs zs h in
      let rest = parts_below xs zs h in
      let split = sum_by-cons f x xs in
      omega (arith, more, rest, split)

sum_least : {X : Type 0} (f g : X → ℕ) (xs : List X) → ((x : X) → Contains xs x → f x ≤ g x)
    → sum_by f xs ≤ sum_by g xs
sum_least f g [] h = omega arith
sum_least f g (x ∷ xs) h =
    let a = sum_by-cons f x xs in
    let b = sum_by-cons g x xs in
    let c = h x (here x xs) in
    let d = sum_least f g xs (λ y e. h y (later x xs y e)) in
    omega (arith, a, b, c, d)

-- ---- two links

module _ (p q : Project) (s : Layout) (i : ℕ) (h : DiffersInContents p q i) (frame : HasSameFrame p q s)
    (names : AreNamesDistinct q.objects) (a b : NamedObject) (was : slice_get p.objects i ≡ Some a)
    (is : slice_get q.objects i ≡ Some b) (name : b.name ≡ a.name)
    (fresh : (y : NamedObject) → Contains p.objects y → y.name ≡ b.name → y.object.text ≡ b.object.text → ⊥) where
  abbrev old : GoodLink
  old = record { project = p; layout = s }

  abbrev new : GoodLink
  new = record { project = q; layout = s }

  abbrev of_old : PlacedOutput → PlacedPiece → LinkedPiece
  of_old r w = linked_piece p (segments s.sections) r w

  abbrev of_new : PlacedOutput → PlacedPiece → LinkedPiece
  of_new r w = linked_piece q (segments s.sections) r w

  -- the piece of an input section
  record In (x : LinkedPiece) : Type 0 where
    section : PlacedOutput
    among : Contains s.sections section
    piece : PlacedPiece
    there : Contains section.pieces piece
    gives : of_new section piece ≡ x

  in_new : (x : LinkedPiece) → Contains (link_pieces new) x → In x
  unfolding linked_pieces
  in_new x c =
      let k = in_flat_map (λ (r : PlacedOutput). map (of_new r) r.pieces) s.sections x c in
      let m = in_map (of_new k.origin) (k.origin).pieces x k.gives in
      record { section = k.origin; among = k.among; piece = m.origin; there = m.among; gives = m.gives }

  old_in : (r : PlacedOutput) (w : PlacedPiece) → Contains s.sections r → Contains r.pieces w
      → Contains (link_pieces old) (of_old r w)
  unfolding linked_pieces
  old_in r w c d =
      flat_map_in (λ (r : PlacedOutput). map (of_old r) r.pieces) s.sections r (of_old r w) c
      (map_in (of_old r) r.pieces w d)

  new_in : (r : PlacedOutput) (w : PlacedPiece) → Contains s.sections r → Contains r.pieces w
      → Contains (link_pieces new) (of_new r w)
  unfolding linked_pieces
  new_in r w c d =
      flat_map_in (λ (r : PlacedOutput). map (of_new r) r.pieces) s.sections r (of_new r w) c
      (map_in (of_new r) r.pieces w d)

  -- ---- texts

  many : length p.objects ≡ length q.objects
  many =
      sym (length-map p.objects object_outline) ∙ ap length h.outlines ∙ length-map q.objects object_outline

  other_object : (n : List ℕ) → bytes_eq b.name n ≡ false → object_named p n ≡ object_named q n
  other_object n other = find_same (λ (o : NamedObject). bytes_eq o.name n) p.objects q.objects many go
    where
      test : NamedObject → Bool
      test o = bytes_eq o.name n

      at : (j : ℕ) (t : Bool) → (j == i) ≡ t → (slice_get p.objects j ≡ slice_get q.objects j)
          ⊎ ((option_map_or test (slice_get p.objects j) false ≡ false)
          × (option_map_or test (slice_get q.objects j) false ≡ false))
      at j true e =
          let here_is : j ≡ i = eqb-true j i e in
          inr (
            ap (λ k. option_map_or test (slice_get p.objects k) false) here_is
                ∙ ap (λ m. option_map_or test m false) was ∙ ap (λ l. bytes_eq l n) (sym name) ∙ other,
            ap (λ k. option_map_or test (slice_get q.objects k) false) here_is
                ∙ ap (λ m. option_map_or test m false) is ∙ other,
          )
      at j false e =
          inl (h.others j (λ same. false≢true (sym e ∙ eq-eqb j i same)))

      go : (j : ℕ) → (slice_get p.objects j ≡ slice_get q.objects j)
          ⊎ ((option_map_or test (slice_get p.objects j) false ≡ false)
          × (option_map_or test (slice_get q.objects j) false ≡ false))
      go j = at j (j == i) refl

  other_text : (n : List ℕ) → bytes_eq b.name n ≡ false → text_of p n ≡ text_of q n
  other_text n other = ap (λ m. option_map_or (λ (o : NamedObject). o.object.text) m []) (other_object n other)

  -- ---- what stayed

  same_self : (x y : LinkedPiece) → x.object ≡ y.object → x.text ≡ y.text → x.part ≡ y.part → x.start ≡ y.start
      → x.size ≡ y.size → x.range ≡ y.range → same_piece x y ≡ true
  same_self x y object text part start size range =
      and_from _ (same_range x.range y.range)
      (and_from _ (x.size == y.size)
      (and_from _ (x.start == y.start)
      (and_from _ (is_same_part x.part y.part)
      (and_from (bytes_eq x.object y.object) (bytes_eq x.text y.text)
      ((bytes_eq-Decides x.object y.object).1 object) ((bytes_eq-Decides x.text y.text).1 text))
      (ap (λ k. is_same_part k y.part) part ∙ own_part y.part))
      (eq-eqb x.start y.start start))
      (eq-eqb x.size y.size size))
      (and_from (x.range.offset == y.range.offset) (x.range.length == y.range.length)
      (eq-eqb x.range.offset y.range.offset (ap (λ r. r.offset) range))
      (eq-eqb x.range.length y.range.length (ap (λ r. r.length) range)))
    where
      own_part : (part : Part) → is_same_part part part ≡ true
      own_part (InTable k) = eq-eqb k.0 k.0 refl
      own_part (InCommon x) = eq-eqb x.0 x.0 refl

  other_stayed : (x : LinkedPiece) → Contains (link_pieces new) x → bytes_eq b.name x.object ≡ false
      → has_stayed old x ≡ true
  other_stayed x c other =
      let k = in_new x c in
      let y = of_old k.section k.piece in
      any_in (same_piece x) (link_pieces old) y (old_in k.section k.piece k.among k.there)
      (same_self x y (sym (ap (λ (v : LinkedPiece). v.object) k.gives))
      (sym (ap (λ (v : LinkedPiece). v.text) k.gives) ∙ sym (other_text k.piece.piece.object
      (ap (λ (v : LinkedPiece). bytes_eq b.name v.object) k.gives ∙ other)))
      (sym (ap (λ (v : LinkedPiece). v.part) k.gives)) (sym (ap (λ (v : LinkedPiece). v.start) k.gives))
      (sym (ap (λ (v : LinkedPiece). v.size) k.gives)) (sym (ap (λ (v : LinkedPiece). v.range) k.gives)))

  -- the object of its name
  own_object : object_named q b.name ≡ Some b
  own_object =
      find_only (λ (o : NamedObject). bytes_eq o.name b.name) q.objects b
      (later_imply (λ (a c : NamedObject). bytes_eq a.name c.name ≡ false)
      (NotBoth (λ (o : NamedObject). bytes_eq o.name b.name)) (λ a c e. one_name a.name c.name b.name e) q.objects
      (names_later q.objects names)) (got q.objects i b is) (same_name b.name)

  own_changed : (x : LinkedPiece) → Contains (link_pieces new) x → x.object ≡ b.name → has_stayed old x ≡ false
  own_changed x c own = go (has_stayed old x) refl
    where
      text : x.text ≡ b.object.text
      text =
          linked_text new x c ∙ ap (text_of q) own
          ∙ ap (λ m. option_map_or (λ (o : NamedObject). o.object.text) m []) own_object

      never : (y : LinkedPiece) → Contains (link_pieces old) y → same_piece x y ≡ true → ⊥
      never y d e =
          let e = same x y e in
          let test : NamedObject → Bool = λ o. bytes_eq o.name b.name in
          let o = found_some test p.objects a (got p.objects i a was)
          ((bytes_eq-Decides a.name b.name).1 (sym name)) in
          let there = find_got test p.objects o.0 o.1 in
          fresh o.0 there.0 ((bytes_eq-Decides (o.0).name b.name).0 there.1)
          (sym (ap (λ m. option_map_or (λ (o : NamedObject). o.object.text) m []) o.1)
          ∙ sym (linked_text old y d ∙ ap (text_of p) (sym e.object ∙ own)) ∙ sym e.text ∙ text)

      go : (t : Bool) → has_stayed old x ≡ t → t ≡ false
      go false e = refl
      go true e =
          let k = in_any (same_piece x) (link_pieces old) e in
          absurd (never k.member k.among k.passes)

  -- ---- sites

  module _ (piece : (x : LinkedPiece) → Contains (link_pieces new) x
      → has_part_stayed old new x.object x.part ≡ has_stayed old x) where
    abbrev is_outside : Site → Bool
    is_outside t = not (lies_in_stayed old new t)

    -- of a section in the output
    outside_of : (o : NamedObject) (z : LinkedSection) (w : PlacedPiece)
        → placed_part s o.name (InTable z.number) ≡ Some w
        → not (has_part_stayed old new o.name (InTable z.number)) ≡ bytes_eq o.name b.name
    outside_of o z w e = go (bytes_eq o.name b.name) refl
      where
        there : Contains (placed_pieces s) w × (is_part o.name (InTable z.number) w ≡ true)
        there = find_got (is_part o.name (InTable z.number)) (placed_pieces s) w e

        both : (bytes_eq w.piece.object o.name ≡ true) × (is_same_part w.piece.part (InTable z.number) ≡ true)
        both = and_parts _ _ there.1

        k : ComesOf (λ (r : PlacedOutput). r.pieces) s.sections w
        k = in_flat_map (λ (r : PlacedOutput). r.pieces) s.sections w there.0

        x : LinkedPiece
        x = of_new k.origin w

        among : Contains (link_pieces new) x
        among = new_in k.origin w k.among k.gives

        object : x.object ≡ o.name
        object = (bytes_eq-Decides w.piece.object o.name).0 both.0

        stayed_sections : has_part_stayed old new o.name (InTable z.number) ≡ has_stayed old x
        stayed_sections =
            ap (λ n. has_part_stayed old new n (InTable z.number)) (sym object)
            ∙ ap (has_part_stayed old new x.object) (sym (same_part w.piece.part (InTable z.number) both.1))
            ∙ piece x among

        go : (t : Bool) → bytes_eq o.name b.name ≡ t → not (has_part_stayed old new o.name (InTable z.number)) ≡ t
        go true f =
            ap not (stayed_sections ∙ own_changed x among (object ∙ (bytes_eq-Decides o.name b.name).0 f))
        go false f =
            ap not (stayed_sections ∙ other_stayed x among (ap (bytes_eq b.name) object ∙ turned b.name o.name f))

    outside_section : (o : NamedObject) (z : LinkedSection)
        → filter is_outside (sites_of_section s o z) ≡ cond (bytes_eq o.name b.name) (sites_of_section s o z) []
    outside_section o z = go (placed_part s o.name (InTable z.number)) refl
      where
        site : ℕ → Relocation → Site
        site start r = record { object = o; section = z; start = start; relocation = r }

        nothing : (t : Bool) → [] ≡ cond {A = List Site} t [] []
        nothing true = refl
        nothing false = refl

        go : (m : Option PlacedPiece) → placed_part s o.name (InTable z.number) ≡ m
            → filter is_outside (option_map_or (λ (w : PlacedPiece). sites_at o z w.start) m [])
            ≡ cond (bytes_eq o.name b.name) (option_map_or (λ (w : PlacedPiece). sites_at o z w.start) m []) []
        go None e = nothing (bytes_eq o.name b.name)
        go (Some w) e =
            filter_one is_outside (bytes_eq o.name b.name) (sites_at o z w.start) (λ t c.
            let comes = in_map (site w.start) (filter (λ (r : Relocation). is_evaluated r.kind) z.relocations) t c in
            ap is_outside (sym comes.gives) ∙ outside_of o z w e)

    outside_object : (o : NamedObject) → filter is_outside (flat_map (sites_of_section s o) o.object.sections)
        ≡ cond (bytes_eq o.name b.name) (flat_map (sites_of_section s o) o.object.sections) []
    outside_object o =
        filter_joined is_outside (sites_of_section s o) o.object.sections
        ∙ joined_same _ _ o.object.sections (λ z c. outside_section o z)
        ∙ go (bytes_eq o.name b.name)
      where
        nothing : (zs : List LinkedSection) → flat_map {A = Site} (λ z. []) zs ≡ []
        nothing [] = refl
        nothing (z ∷ zs) = nothing zs

        go : (t : Bool) → flat_map (λ z. cond t (sites_of_section s o z) []) o.object.sections
            ≡ cond t (flat_map (sites_of_section s o) o.object.sections) []
        go true = refl
        go false = nothing o.object.sections

    outside_sites : filter is_outside (sites q s) ≡ flat_map (sites_of_section s b) b.object.sections
    unfolding sites
    outside_sites =
        filter_joined is_outside (λ (o : NamedObject). flat_map (sites_of_section s o) o.object.sections) q.objects
        ∙ joined_same _ _ q.objects (λ o c. outside_object o)
        ∙ sym (found_joined (λ (o : NamedObject). bytes_eq o.name b.name)
        (λ o. flat_map (sites_of_section s o) o.object.sections) q.objects
        (later_imply (λ (a c : NamedObject). bytes_eq a.name c.name ≡ false)
        (NotBoth (λ (o : NamedObject). bytes_eq o.name b.name)) (λ a c e. one_name a.name c.name b.name e) q.objects
        (names_later q.objects names)))
        ∙ ap (λ m. option_map_or (λ (o : NamedObject). flat_map (sites_of_section s o) o.object.sections) m [])
        own_object

  -- ---- values

  module _ (worth : (name : List ℕ) → name_value p s name ≡ name_value q s name) where
    same_referenced : (o : NamedObject) (v : NamedSymbol) → referenced_value p s o v ≡ referenced_value q s o v
    unfolding referenced_value
    same_referenced o v =
        ap (λ (x : SymbolValue). if is_local v.symbol.binding
        then own_value s o.name v.symbol.place v.symbol.value
        else or_weak (is_weak_binding v.symbol.binding) x) (worth v.name)

    same_value : (t : Site) → site_value p s t ≡ site_value q s t
    same_value t = go (site_symbol t)
      where
        go : (m : Option NamedSymbol) → option_map_or (referenced_value p s t.object) m symbol.NotDefined
            ≡ option_map_or (referenced_value q s t.object) m symbol.NotDefined
        go None = refl
        go (Some v) = same_referenced t.object v

    unmoved : (t : Site) → has_other_value old new t ≡ false
    unmoved t = ap not (eq-eqb _ _ (ap number_or_0 (same_value t)))

    none_moved : retargeted old new ≡ []
    unfolding retargeted
    none_moved = filter_one (has_other_value old new) false (flat_map (sites_in q) (stayed old new)) (λ t c. unmoved t)

    -- the sites that are evaluated are those of the object
    pub touched_sites : ((x : LinkedPiece) → Contains (link_pieces new) x
        → has_part_stayed old new x.object x.part ≡ has_stayed old x)
        → IsPermutation (filter (λ t. not (lies_in_stayed old new t)) (sites q s)) (sites_outside old new)
        → sites_to_evaluate old new ≡ length (flat_map (sites_of_section s b) b.object.sections)
    touched_sites piece permuted =
        let long = length_permutation _ _ permuted in
        let own = ap length (outside_sites piece) in
        let none = ap length none_moved in
        omega (arith, long, own, none)

  -- ---- bytes

  abbrev range_length : LinkedPiece → ℕ
  range_length x = x.range.length

  abbrev own_of : LinkedSection → ℕ
  own_of z =
      option_map_or (λ (y : LinkedPiece). size_in_file z.kind y.range.length)
      (find (is_linked_part b.name (InTable z.number)) (link_pieces new)) 0

  abbrev outside : List LinkedPiece
  outside = filter (λ (x : LinkedPiece). not (has_stayed old x)) (link_pieces new)

  abbrev is_piece : LinkedSection → LinkedPiece → Bool
  is_piece z x = is_linked_part b.name (InTable z.number) x

  size_below : (kind : SectionKind) (n : ℕ) → size_in_file kind n ≤ n
  size_below Progbits n = omega arith
  size_below Nobits n = omega arith
  size_below Note n = omega arith
  size_below InitArray n = omega arith
  size_below FiniArray n = omega arith
  size_below PreinitArray n = omega arith
  size_below Unwind n = omega arith

  own_below : (z : LinkedSection) → own_of z ≤ part_sum is_piece range_length outside z
  own_below z = go (find (is_piece z) (link_pieces new)) refl
    where
      go : (m : Option LinkedPiece) → find (is_piece z) (link_pieces new) ≡ m
          → option_map_or (λ (y : LinkedPiece). size_in_file z.kind y.range.length) m 0
          ≤ part_sum is_piece range_length outside z
      go None e = omega arith
      go (Some x) e =
          let there = find_got (is_piece z) (link_pieces new) x e in
          let both = and_parts (bytes_eq x.object b.name) (is_same_part x.part (InTable z.number)) there.1 in
          let changed = own_changed x there.0 ((bytes_eq-Decides x.object b.name).0 both.0) in
          let among = filter_in (is_piece z) outside x
          (filter_in (λ (y : LinkedPiece). not (has_stayed old y)) (link_pieces new) x there.0 (ap not changed))
          there.1 in
          let least = size_below z.kind x.range.length in
          let less = member_below range_length (filter (is_piece z) outside) x among in
          omega (arith, least, less)

  sections_apart : EachLater (λ (x y : LinkedSection). (x.number.0 == y.number.0) ≡ false) b.object.sections
      → EachLater (Apart is_piece range_length) b.object.sections
  sections_apart numbers =
      later_imply (λ (x y : LinkedSection). (x.number.0 == y.number.0) ≡ false) (Apart is_piece range_length)
      (λ y z differ x. go y z differ x (is_piece y x) (is_piece z x) refl refl) b.object.sections numbers
    where
      go : (y z : LinkedSection) → (y.number.0 == z.number.0) ≡ false → (x : LinkedPiece) → (t u : Bool)
          → is_piece y x ≡ t → is_piece z x ≡ u → (t && u) ≡ false
      go y z differ x false u e f = refl
      go y z differ x true false e f = refl
      go y z differ x true true e f =
          let first = same_part x.part (InTable y.number)
          (and_parts (bytes_eq x.object b.name) (is_same_part x.part (InTable y.number)) e).1 in
          let second = same_part x.part (InTable z.number)
          (and_parts (bytes_eq x.object b.name) (is_same_part x.part (InTable z.number)) f).1 in
          let same : y.number.0 ≡ z.number.0 = ap number_in (sym first ∙ second) in
          absurd (false≢true (sym differ ∙ eq-eqb y.number.0 z.number.0 same))

  whole : (bytes_stayed new new ≤ image_length q s) → sum_by range_length (link_pieces new) ≤ image_length q s
  unfolding stayed
  whole most =
      let all : filter (has_stayed new) (link_pieces new) ≡ link_pieces new =
      filter_one (has_stayed new) true (link_pieces new) (λ x c.
      any_in (same_piece x) (link_pieces new) x c (same_self x x refl refl refl refl refl refl)) in
      let same = ap (sum_by range_length) all in
      omega (arith, same, most)

  pub touched_bytes : EachLater (λ (x y : LinkedSection). (x.number.0 == y.number.0) ≡ false) b.object.sections
      → (bytes_stayed new new ≤ image_length q s) → sum_by own_of b.object.sections ≤ bytes_to_write old new
  unfolding stayed
  touched_bytes numbers most =
      let few = sum_least own_of (part_sum is_piece range_length outside) b.object.sections (λ z c. own_below z) in
      let parts = parts_below is_piece range_length outside b.object.sections (sections_apart numbers) in
      let both = sum_by-filter_both (has_stayed old) (λ (x : LinkedPiece). not (has_stayed old x)) (λ x. refl)
      range_length (link_pieces new) in
      let all = whole most in
      omega (arith, few, parts, both, all)
