-- The flags of a column are those of the sections that stayed.
use Rattle.relink_driver.proofs.Common.{Bool, IndexedLayout, LinkLayout, List, None, Option, PreviousState}
use Rattle.relink_driver.proofs.Common.{SectionAddress, SectionLocation, SectionRef, Some, [], ap, arith, cases_lt}
use Rattle.relink_driver.proofs.Common.{cond, false, false≢true, flag_of, get_or_append_left, get_or_past, get_or_push}
use Rattle.relink_driver.proofs.Common.{has_stayed_number, inl, inr, is_some, key_at, last_place, length, length-append}
use Rattle.relink_driver.proofs.Common.{location_in, location_of, location_with, ltb-false, ltb-true, nat_lt, no_flags}
use Rattle.relink_driver.proofs.Common.{option_and_then, option_map, previous_location, range_at, range_if_same, refl}
use Rattle.relink_driver.proofs.Common.{same_location, slice_index_or, stayed_between, stayed_range, sym, true, ℕ, ◌++◌}
use Rattle.relink_driver.proofs.Common.{◌+◌, ◌<◌, ◌∙◌, ◌∷◌, ◌≡◌, ◌≤◌, ◌⊎◌}
use Rattle.place.specs.IndexedLayout.{address_in}
use Rattle.emit.specs.relocate.declared.previous_link_info.FileRange.{FileRange}
use Rattle.relink_driver.specs.PreviousLink.{address_from, previous_address, standing_from}
use Rattle.relink_driver.specs.StayedColumn.{AreFlagsAdded, slice_of}
use Rattle.relink_driver.specs.declared.stayed_column.FlagSlice.{FlagSlice}

abbrev flag_at : List Bool → ℕ → Bool
flag_at flags i = slice_index_or flags i false

-- past the end there is no flag
past : (flags : List Bool) (i : ℕ) → length flags ≤ i → flag_at flags i ≡ false
past flags i h = get_or_past flags i false h

-- ---- one object

-- the flags of the first n numbers were added
pub record RowSoFar (stays : ℕ → Bool) (old new : List Bool) (n : ℕ) : Type 0 where
  pub long : length new ≡ length old + n
  pub kept : (i : ℕ) → i < length old → flag_at new i ≡ flag_at old i
  pub are : (k : ℕ) → k < n → flag_at new (length old + k) ≡ stays k

pub row_begun : (stays : ℕ → Bool) (old new : List Bool) → new ≡ old → RowSoFar stays old new 0
row_begun stays old new e = record {
  long = omega (arith, ap length e);
  kept = λ i l. ap (λ v. flag_at v i) e;
  are = λ k l. absurd (omega (arith, l));
}

pub row_more : (stays : ℕ → Bool) (old new after : List Bool) (n : ℕ) (b : Bool) → after ≡ new ++ b ∷ []
    → b ≡ stays n → RowSoFar stays old new n → RowSoFar stays old after (n + 1)
row_more stays old new after n b e is h = record {
  long = omega (arith, ap length e, length-append new (b ∷ []), h.long);
  kept = λ i l.
      ap (λ v. flag_at v i) e ∙ get_or_append_left new (b ∷ []) false i (omega (arith, l, h.long)) ∙ h.kept i l;
  are = λ k l. go k l (cases_lt k n);
}
  where
    go : (k : ℕ) → k < n + 1 → (k < n) ⊎ (n ≤ k) → flag_at after (length old + k) ≡ stays k
    go k l (inl below) =
        ap (λ v. flag_at v (length old + k)) e
        ∙ get_or_append_left new (b ∷ []) false (length old + k) (omega (arith, below, h.long)) ∙ h.are k below
    go k l (inr above) =
        let same : n ≡ k = omega (arith, above, l) in
        ap (λ v. flag_at v (length old + k)) e
        ∙ get_or_push new b false (length old + k) (omega (arith, h.long, same)) ∙ is ∙ ap stays same

pub row_done : (stays : ℕ → Bool) (old new : List Bool) (n : ℕ) → ((k : ℕ) → n ≤ k → false ≡ stays k)
    → RowSoFar stays old new n → AreFlagsAdded stays old new
row_done stays old new n none h = record {
  long = omega (arith, h.long);
  kept = h.kept;
  are = λ k. go k (cases_lt k n);
}
  where
    go : (k : ℕ) → (k < n) ⊎ (n ≤ k) → flag_at new (length old + k) ≡ stays k
    go k (inl below) = h.are k below
    go k (inr above) = past new (length old + k) (omega (arith, h.long, above)) ∙ none k above

pub row_as : (these those : ℕ → Bool) (old new : List Bool) → ((k : ℕ) → these k ≡ those k)
    → AreFlagsAdded these old new → AreFlagsAdded those old new
row_as these those old new same h = record {
  long = h.long;
  kept = h.kept;
  are = λ k. h.are k ∙ same k;
}

pub no_row : (stays : ℕ → Bool) (old : List Bool) → ((k : ℕ) → false ≡ stays k) → AreFlagsAdded stays old old
no_row stays old none = record {
  long = omega arith;
  kept = λ i l. refl;
  are = λ k. past old (length old + k) (omega arith) ∙ none k;
}

-- ---- all objects

-- those of the first n objects
pub record ColumnSoFar (stays : ℕ → ℕ → Bool) (slices : List FlagSlice) (flags : List Bool) (n : ℕ) : Type 0 where
  pub long : length slices ≡ n
  pub within : (i : ℕ) → i < n → (slice_of slices i).begin + (slice_of slices i).count ≤ length flags
  pub are : (i k : ℕ) → i < n → flag_of flags (slice_of slices i) k ≡ stays i k

pub column_begun : (stays : ℕ → ℕ → Bool) → ColumnSoFar stays [] [] 0
column_begun stays = record {
  long = refl;
  within = λ i l. absurd (omega (arith, l));
  are = λ i k l. absurd (omega (arith, l));
}

-- the flags of a row that was there are as they were
same_flag : (old new : List Bool) (row : FlagSlice) (k : ℕ) → row.begin + row.count ≤ length old
    → ((i : ℕ) → i < length old → flag_at new i ≡ flag_at old i) → flag_of new row k ≡ flag_of old row k
same_flag old new row k within kept = go (nat_lt k row.count) refl
  where
    go : (b : Bool) → nat_lt k row.count ≡ b
        → cond b (flag_at new (row.begin + k)) false ≡ cond b (flag_at old (row.begin + k)) false
    go true e = kept (row.begin + k) (omega (arith, within, ltb-true k row.count e))
    go false e = refl

own_flag : (stays : ℕ → Bool) (old new : List Bool) (row : FlagSlice) (k : ℕ) → row.begin ≡ length old
    → row.begin + row.count ≡ length new → AreFlagsAdded stays old new → flag_of new row k ≡ stays k
own_flag stays old new row k begin end h = go (nat_lt k row.count) refl
  where
    here : flag_at new (row.begin + k) ≡ stays k
    here = ap (λ n. flag_at new (n + k)) begin ∙ h.are k

    go : (b : Bool) → nat_lt k row.count ≡ b → cond b (flag_at new (row.begin + k)) false ≡ stays k
    go true e = here
    go false e =
        sym (past new (row.begin + k) (omega (arith, end, ltb-false k row.count e))) ∙ here

module _ (stays : ℕ → ℕ → Bool) (slices after : List FlagSlice) (old new : List Bool) (n : ℕ) (row : FlagSlice)
    (push : after ≡ slices ++ row ∷ []) (begin : row.begin ≡ length old)
    (end : row.begin + row.count ≡ length new) (added : AreFlagsAdded (stays n) old new)
    (before : ColumnSoFar stays slices old n) where
  was : (i : ℕ) → i < n → slice_of after i ≡ slice_of slices i
  was i l =
      ap (λ v. slice_of v i) push ∙ get_or_append_left slices (row ∷ []) no_flags i (omega (arith, l, before.long))

  is : (i : ℕ) → i ≡ n → slice_of after i ≡ row
  is i e = ap (λ v. slice_of v i) push ∙ get_or_push slices row no_flags i (before.long ∙ sym e)

  within : (i : ℕ) → i < n + 1 → (slice_of after i).begin + (slice_of after i).count ≤ length new
  within i l = go (cases_lt i n)
    where
      go : (i < n) ⊎ (n ≤ i) → (slice_of after i).begin + (slice_of after i).count ≤ length new
      go (inl below) =
          let b : (slice_of after i).begin
          ≡ (slice_of slices i).begin = ap (λ (r : FlagSlice). r.begin) (was i below) in
          let c : (slice_of after i).count
          ≡ (slice_of slices i).count = ap (λ (r : FlagSlice). r.count) (was i below) in
          let earlier = before.within i below in
          omega (arith, b, c, earlier, added.long)
      go (inr above) =
          let same : i ≡ n = omega (arith, above, l) in
          let b : (slice_of after i).begin ≡ row.begin = ap (λ (r : FlagSlice). r.begin) (is i same) in
          let c : (slice_of after i).count ≡ row.count = ap (λ (r : FlagSlice). r.count) (is i same) in
          omega (arith, b, c, end)

  are : (i k : ℕ) → i < n + 1 → flag_of new (slice_of after i) k ≡ stays i k
  are i k l = go (cases_lt i n)
    where
      go : (i < n) ⊎ (n ≤ i) → flag_of new (slice_of after i) k ≡ stays i k
      go (inl below) =
          ap (λ r. flag_of new r k) (was i below)
          ∙ same_flag old new (slice_of slices i) k (before.within i below) added.kept ∙ before.are i k below
      go (inr above) =
          let same : i ≡ n = omega (arith, above, l) in
          ap (λ r. flag_of new r k) (is i same) ∙ own_flag (stays n) old new row k begin end added
          ∙ ap (λ j. stays j k) (sym same)

  pub column_more : ColumnSoFar stays after new (n + 1)
  column_more = record {
    long = omega (arith, ap length push, length-append slices (row ∷ []), before.long);
    within = within;
    are = are;
  }

no_flag : (flags : List Bool) (k : ℕ) → flag_of flags no_flags k ≡ false
no_flag flags k = go (nat_lt k 0) refl
  where
    go : (b : Bool) → nat_lt k 0 ≡ b → cond b (flag_at flags (0 + k)) false ≡ false
    go true e = absurd (omega (arith, ltb-true k 0 e))
    go false e = refl

no_row_past : (slices : List FlagSlice) (i : ℕ) → length slices ≤ i → slice_of slices i ≡ no_flags
no_row_past slices i h = get_or_past slices i no_flags h

pub column_done : (stays : ℕ → ℕ → Bool) (slices : List FlagSlice) (flags : List Bool) (n i k : ℕ)
    → (n ≤ i → false ≡ stays i k) → ColumnSoFar stays slices flags n → flag_of flags (slice_of slices i) k ≡ stays i k
column_done stays slices flags n i k none h = go (cases_lt i n)
  where
    go : (i < n) ⊎ (n ≤ i) → flag_of flags (slice_of slices i) k ≡ stays i k
    go (inl below) = h.are i k below
    go (inr above) =
        ap (λ r. flag_of flags r k) (no_row_past slices i (omega (arith, h.long, above))) ∙ no_flag flags k ∙ none above

-- ---- what stayed

pub nothing_kept : (x : Option SectionLocation) → range_if_same x None ≡ None
nothing_kept None = refl
nothing_kept (Some b) = refl

-- by the addresses in both links
module _ (x : PreviousState) (t : IndexedLayout) (key : SectionRef) where
  standing : (p : Option ℕ) → option_and_then (standing_from x key.part) p
      ≡ option_and_then (location_of x.snapshot.indexed_layout.link_layout)
      (option_and_then (address_from x key.part) p)
  unfolding location_in
  standing None = refl
  standing (Some i) = refl

  pub kept_by_addresses : stayed_range (Some x) t key
      ≡ stayed_between x.snapshot.indexed_layout.link_layout (previous_address x key) t.link_layout (address_in t key)
  unfolding stayed_range previous_location location_in
  kept_by_addresses = ap (λ b. range_if_same b (location_in t key)) (standing (last_place x key.object))

  pub none_where_new : last_place x key.object ≡ None → false ≡ is_some (stayed_range (Some x) t key)
  none_where_new e =
      ap (λ p. is_some (stayed_between x.snapshot.indexed_layout.link_layout
      (option_and_then (address_from x key.part) p) t.link_layout (address_in t key))) (sym e)
      ∙ ap is_some (sym kept_by_addresses)

-- the flag of a section whose addresses are at hand
pub same_number : (x : PreviousState) (t : IndexedLayout) (n k j : ℕ) (before now : Option SectionAddress)
    → Some j ≡ last_place x (record { 0 = n })
    → before ≡ address_in x.snapshot.indexed_layout (key_at j k) → now ≡ address_in t (key_at n k)
    → is_some (stayed_between x.snapshot.indexed_layout.link_layout before t.link_layout now)
    ≡ has_stayed_number x t n k
same_number x t n k j before now from was is =
    let l = x.snapshot.indexed_layout.link_layout in
    ap (λ b. is_some (stayed_between l b t.link_layout now)) was
    ∙ ap (λ a. is_some (stayed_between l (address_in x.snapshot.indexed_layout (key_at j k)) t.link_layout a)) is
    ∙ ap (λ p. is_some (stayed_between l (option_and_then (address_from x (key_at n k).part) p) t.link_layout
    (address_in t (key_at n k)))) from
    ∙ ap is_some (sym (kept_by_addresses x t (key_at n k)))

-- the bytes of a section that stayed are those where it lies now
pub range_now : (before : Option SectionLocation) (l : LinkLayout) (now : Option SectionAddress)
    → is_some (range_if_same before (option_and_then (location_of l) now)) ≡ true
    → option_and_then (range_at l) now ≡ range_if_same before (option_and_then (location_of l) now)
range_now before l None e = absurd (false≢true (sym (ap is_some (nothing_kept before)) ∙ e))
range_now before l (Some a) e = go before (range_at l a) e
  where
    pick : (r : FileRange) (t : Bool) → is_some (cond t (Some r) None) ≡ true → Some r ≡ cond t (Some r) None
    pick r true e = refl
    pick r false e = absurd (false≢true e)

    go : (b : Option SectionLocation) (r : Option FileRange)
        → is_some (range_if_same b (option_map (location_with a) r)) ≡ true
        → r ≡ range_if_same b (option_map (location_with a) r)
    go None r e = absurd (false≢true e)
    go (Some b) None e = absurd (false≢true e)
    go (Some b) (Some r) e = pick r (same_location b (location_with a r)) e

-- that which is known to have stayed, and is found now
pub range_found : (m : Option PreviousState) (t : IndexedLayout) (key : SectionRef)
    → is_some (stayed_range m t key) ≡ true
    → option_and_then (range_at t.link_layout) (address_in t key) ≡ stayed_range m t key
unfolding stayed_range location_in
range_found None t key e = absurd (false≢true e)
range_found (Some x) t key e = range_now (previous_location x key) t.link_layout (address_in t key) e

pub not_found : (known : Option FileRange) → is_some known ≡ false → None ≡ known
not_found None e = refl
not_found (Some r) e = absurd (false≢true (sym e))

-- without a previous link
pub empty_column : (t : IndexedLayout) (key : SectionRef) (flags : List Bool) (k : ℕ)
    → flag_of flags no_flags k ≡ is_some (stayed_range None t key)
unfolding stayed_range
empty_column t key flags k = no_flag flags k
