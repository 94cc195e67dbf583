-- No two entries of the rows are of one input section.
use Rattle.ldmodel_laws.proofs.Common.{AreNamesDistinct, AreNumbered, Bool, Contains, Differ, Each, EachLater}
use Rattle.ldmodel_laws.proofs.Common.{InDiscard, InSection, InputSection, InputStatementAt, List, None, Option, Part}
use Rattle.ldmodel_laws.proofs.Common.{Piece, Project, Some, [], and_from, and_parts, ap, arith, below, bytes_eq}
use Rattle.ldmodel_laws.proofs.Common.{bytes_eq-Decides, cond, enumerate_from, eqb-true, false, filter, first_match}
use Rattle.ldmodel_laws.proofs.Common.{flat_map, inl, input_statements, inr, is_in_section, is_same_part, length, live}
use Rattle.ldmodel_laws.proofs.Common.{map, option_map_or, output_sections, piece_of, range_with_len, refl, rows}
use Rattle.ldmodel_laws.proofs.Common.{sorted_pieces, subst, suc, sym, taken, true, true≢false, zero, ℕ, ◌&&◌, ◌++◌}
use Rattle.ldmodel_laws.proofs.Common.{◌+◌, ◌<◌, ◌==◌, ◌∙◌, ◌∷◌, ◌≡◌, ◌≤◌, ◌⊎◌}
use Rattle.ldscript.specs.statements.declared.place.InputPlace.{InputPlace}
use Rattle.ldmodel.specs.Rows.{is_taken_by, pieces_in, row}
use Rattle.ldmodel_laws.proofs.Finding.{each_member, in_flat_map, in_map, member_of}
use Rattle.ldmodel_laws.proofs.Members.{first_or_later, in_filter, none_in_nil}
use Rattle.ldmodel_laws.proofs.Once.{Apart, later_flat_map, later_map, live_apart, rising, sorted, sorted_in}
use Rattle.ldmodel_laws.proofs.EachOf.{later_filter, later_imply}
use Rattle.ldmodel_laws.proofs.SameParts.{same_part, own_part}

-- members that a relation of earlier and later ones holds of in neither way are one
pub unique : {X : Type 0} (R : X → X → Type 0) (xs : List X) (s t : X) → EachLater R xs → Contains xs s → Contains xs t
    → (R s t → ⊥) → (R t s → ⊥) → s ≡ t
unique R [] s t h c d m n = absurd (none_in_nil s c)
unique {X} R (x ∷ xs) s t h c d m n =
    go (first_or_later x xs s c) (first_or_later x xs t d) (λ a b. unique R xs s t h.1 a b m n)
  where
    go : (x ≡ s) ⊎ Contains xs s → (x ≡ t) ⊎ Contains xs t → (Contains xs s → Contains xs t → s ≡ t) → s ≡ t
    go (inl e) (inl f) rest = sym e ∙ f
    go (inl e) (inr b) rest = absurd (m (subst (λ z. R z t) e (member_of (R x) xs t h.0 b)))
    go (inr a) (inl f) rest = absurd (n (subst (λ z. R z s) f (member_of (R x) xs s h.0 a)))
    go (inr a) (inr b) rest = rest a b

-- two entries of one name and part
abbrev pub is_one : (object other : List ℕ) → (a b : Part) → Bool
is_one object other a b = bytes_eq object other && is_same_part a b

pub turned : (object other : List ℕ) (a b : Part) → is_one object other a b ≡ false → is_one other object b a ≡ false
turned object other a b h = go (is_one other object b a) refl
  where
    go : (t : Bool) → is_one other object b a ≡ t → is_one other object b a ≡ false
    go false e = e
    go true e =
        let k = and_parts (bytes_eq other object) (is_same_part b a) e in
        let names : object ≡ other = sym ((bytes_eq-Decides other object).0 k.0) in
        let parts : a ≡ b = sym (same_part b a k.1) in
        let one : is_one object other a b ≡ true =
        and_from (bytes_eq object other) (is_same_part a b) ((bytes_eq-Decides object other).1 names)
        (ap (λ m. is_same_part m b) parts ∙ own_part b) in
        absurd (true≢false (sym one ∙ h))

ranging : (a n : ℕ) → Each (λ k. a ≤ k) (range_with_len a n)
ranging a zero = tt
ranging a (suc n) = (
  omega arith,
  each_member (λ k. a ≤ k) (range_with_len (a + 1) n) (λ k c. let l =
      member_of (λ m. a + 1 ≤ m) (range_with_len (a + 1) n) k (ranging (a + 1) n) c in omega (arith, l)),
)

range_rising : (a n : ℕ) → EachLater (λ j k. j < k) (range_with_len a n)
range_rising a zero = tt
range_rising a (suc n) = (
  each_member (λ k. a < k) (range_with_len (a + 1) n) (λ k c. let l =
      member_of (λ m. a + 1 ≤ m) (range_with_len (a + 1) n) k (ranging (a + 1) n) c in omega (arith, l)),
  range_rising (a + 1) n,
)

pub joined_map : {X Y : Type 0} (f : X → List Y) (xs : List X) → flat_map (λ r. r) (map f xs) ≡ flat_map f xs
joined_map f [] = refl
joined_map f (x ∷ xs) = ap (λ l. f x ++ l) (joined_map f xs)

in_section : (j k : ℕ) (place : InputPlace) → is_in_section j place ≡ true → is_in_section k place ≡ true → j ≡ k
in_section j k (InSection n) e f = sym (eqb-true n j e) ∙ eqb-true n k f
in_section j k InDiscard e f = absurd (true≢false (sym e))

module _ (p : Project) (names : AreNamesDistinct p.objects) (numbers : AreNumbered p) where
  -- the section that an entry of a statement comes of
  record Origin (n : ℕ) (x : Piece) : Type 0 where
    pub section : InputSection
    pub among : Contains (live p) section
    pub takes : is_taken_by p n section ≡ true
    pub gives : piece_of n section ≡ x

  origin : (n : ℕ) (i : InputStatementAt) (x : Piece) → Contains (sorted_pieces p n i) x → Origin n x
  origin n i x c =
      let k = in_map (piece_of n) (filter (is_taken_by p n) (live p)) x
      (sorted_in (below i.input.sort) (taken p n) x c) in
      let m = in_filter (is_taken_by p n) (live p) k.origin k.among in
      record { section = k.origin; among = m.0; takes = m.1; gives = k.gives }

  one_taker : (n m : ℕ) (s : InputSection) → is_taken_by p n s ≡ true → is_taken_by p m s ≡ true → n ≡ m
  one_taker n m s e f = go (first_match p.script s.object s.name) e f
    where
      go : (o : Option ℕ) → option_map_or (λ k. k == n) o false ≡ true → option_map_or (λ k. k == m) o false ≡ true → n
          ≡ m
      go None a b = absurd (true≢false (sym a))
      go (Some k) a b = sym (eqb-true k n a) ∙ eqb-true k m b

  one_section : (s t : InputSection) → Contains (live p) s → Contains (live p) t
      → is_one s.object t.object s.id.part t.id.part ≡ true → s ≡ t
  one_section s t c d e =
      unique Apart (live p) s t (live_apart p names numbers) c d (λ h. true≢false (sym e ∙ h)) (λ h.
      true≢false (sym e ∙ turned t.object s.object t.id.part s.id.part h))

  -- entries of different statements
  across : (n m : ℕ) (x y : Piece) → Origin n x → Origin m y → (n ≡ m → ⊥) → Differ x y
  across n m x y a b h = go (is_one x.object y.object x.part y.part) refl
    where
      go : (t : Bool) → is_one x.object y.object x.part y.part ≡ t → is_one x.object y.object x.part y.part ≡ false
      go false e = e
      go true e =
          let left : is_one a.section.object y.object a.section.id.part y.part ≡ true =
          ap (λ (z : Piece). is_one z.object y.object z.part y.part) a.gives ∙ e in
          let both : is_one a.section.object b.section.object a.section.id.part b.section.id.part ≡ true =
          ap (λ (z : Piece). is_one a.section.object z.object a.section.id.part z.part) b.gives ∙ left in
          let same : a.section ≡ b.section = one_section a.section b.section a.among b.among both in
          absurd (h (one_taker n m a.section a.takes (ap (is_taken_by p m) same ∙ b.takes)))

  own_entries : (n : ℕ) (i : InputStatementAt) → EachLater Differ (sorted_pieces p n i)
  own_entries n i =
      sorted Differ (λ x y h. turned x.object y.object x.part y.part h) (below i.input.sort) (taken p n)
      (later_map (piece_of n) Differ (filter (is_taken_by p n) (live p))
      (later_filter Apart (is_taken_by p n) (live p) (live_apart p names numbers)))

  abbrev statements : List (ℕ × InputStatementAt)
  statements = enumerate_from 0 (input_statements p.script)

  entries_in : (k : ℕ) (i : ℕ × InputStatementAt) → EachLater Differ (pieces_in p k i)
  entries_in k i = go (is_in_section k i.1.place)
    where
      go : (t : Bool) → EachLater Differ (cond t (sorted_pieces p i.0 i.1) [])
      go true = own_entries i.0 i.1
      go false = tt

  in_pieces : (k : ℕ) (i : ℕ × InputStatementAt) (x : Piece) → Contains (pieces_in p k i) x
      → (is_in_section k i.1.place ≡ true) × Origin i.0 x
  in_pieces k i x c = go (is_in_section k i.1.place) refl c
    where
      go : (t : Bool) → is_in_section k i.1.place ≡ t → Contains (cond t (sorted_pieces p i.0 i.1) []) x
          → (is_in_section k i.1.place ≡ true) × Origin i.0 x
      go true e d = (e, origin i.0 i.1 x d)
      go false e d = absurd (none_in_nil x d)

  row_apart : (k : ℕ) → EachLater Differ (row p k)
  row_apart k =
      later_flat_map Differ (pieces_in p k) statements
      (each_member (λ i. EachLater Differ (pieces_in p k i)) statements (λ i c. entries_in k i))
      (later_imply (λ (a b : ℕ × InputStatementAt). a.0 < b.0) (λ a b. (u v : Piece) → Contains (pieces_in p k a) u
      → Contains (pieces_in p k b) v → Differ u v)
      (λ a b l u v c d. across a.0 b.0 u v (in_pieces k a u c).1 (in_pieces k b v d).1 (λ e. omega (arith, l, e)))
      statements (rising 0 (input_statements p.script)))

  -- entries of different rows
  rows_differ : (j k : ℕ) → j < k → (u v : Piece) → Contains (row p j) u → Contains (row p k) v → Differ u v
  rows_differ j k l u v c d =
      let a = in_flat_map (pieces_in p j) statements u c in
      let b = in_flat_map (pieces_in p k) statements v d in
      let first = in_pieces j a.origin u a.gives in
      let second = in_pieces k b.origin v b.gives in
      across (a.origin.0) (b.origin.0) u v first.1 second.1 (λ e.
      let same : a.origin ≡ b.origin =
      unique (λ (x y : ℕ × InputStatementAt). x.0 < y.0) statements a.origin b.origin
      (rising 0 (input_statements p.script)) a.among b.among (λ m. omega (arith, m, e)) (λ m.
      omega (arith, m, e)) in
      let sections : j ≡ k =
      in_section j k b.origin.1.place (ap (λ (x : ℕ × InputStatementAt). is_in_section j x.1.place) (sym same)
      ∙ first.0) second.0 in
      omega (arith, l, sections))

  pub once_in_rows : EachLater Differ (flat_map (λ r. r) (rows p))
  unfolding rows
  once_in_rows =
      subst (EachLater Differ) (sym (joined_map (row p) (range_with_len 0 (length (output_sections p.script)))))
      (later_flat_map Differ (row p) (range_with_len 0 (length (output_sections p.script)))
      (each_member (λ k. EachLater Differ (row p k)) (range_with_len 0 (length (output_sections p.script))) (λ k c.
      row_apart k))
      (later_imply (λ j k. j < k) (λ j k. (u v : Piece) → Contains (row p j) u → Contains (row p k) v
      → Differ u v) rows_differ (range_with_len 0 (length (output_sections p.script)))
      (range_rising 0 (length (output_sections p.script)))))
