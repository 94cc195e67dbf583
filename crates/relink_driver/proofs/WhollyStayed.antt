-- Objects whose sections all stayed, but for those that are not in the output.
use Rattle.relink_driver.proofs.Common.{Bool, IndexedLayout, IsIndexedLayout, IsSectionAddress, KnownLink, List, None}
use Rattle.relink_driver.proofs.Common.{Option, PlacedPiece, PreviousState, SectionAddress, SectionRef, Some, []}
use Rattle.relink_driver.proofs.Common.{and_parts, ap, arith, cases_lt, false, false≢true, get_or_append_left}
use Rattle.relink_driver.proofs.Common.{get_or_past, get_or_push, inl, inr, is_some, length, length-append, location_in}
use Rattle.relink_driver.proofs.Common.{location_of, not, object_name, option_and_then, option_map, placed_part}
use Rattle.relink_driver.proofs.Common.{previous_location, range_if_same, refl, slice_index_or, stayed_range, subst}
use Rattle.relink_driver.proofs.Common.{sym, true, ℕ, ◌&&◌, ◌++◌, ◌+◌, ◌<◌, ◌||◌, ◌∙◌, ◌∷◌, ◌≡◌, ◌≤◌, ◌⊎◌}
use Rattle.place.specs.IndexedLayout.{address_in}
use Rattle.emit.specs.relocate.KnownLink.{start_of}
use Rattle.relink_driver.specs.StayedColumn.{HasStayedOrIsOut, HasWhollyStayedIn}
use Rattle.relink_driver.proofs.Columns.{nothing_kept}

pub still_as : (a b : Bool) (x y : Option SectionAddress) → a ≡ b → x ≡ y → HasStayedOrIsOut a x → HasStayedOrIsOut b y
still_as a b x y e f h = ap (λ c. c || not (is_some y)) (sym e) ∙ (ap (λ z. a || not (is_some z)) (sym f) ∙ h)

-- ---- one object

-- if it is so of the first n sections of an object
abbrev pub StillSoFar : (ℕ → Bool) → List (Option SectionAddress) → Bool → ℕ → Type 0
StillSoFar stays now all_stayed n = all_stayed ≡ true → (k : ℕ) → k < n
    → HasStayedOrIsOut (stays k) (slice_index_or now k None)

pub still_begun : (stays : ℕ → Bool) (now : List (Option SectionAddress)) (all_stayed : Bool)
    → StillSoFar stays now all_stayed 0
still_begun stays now all_stayed so k l = absurd (omega (arith, l))

absent : (x : Option SectionAddress) → not (is_some x) ≡ true → x ≡ None
absent None e = refl
absent (Some x) e = absurd (false≢true e)

-- it stayed, or is not in the output
pub by_cases : (stayed : Bool) (lies : Option SectionAddress) → HasStayedOrIsOut stayed lies → (stayed ≡ true)
    ⊎ (lies ≡ None)
by_cases true lies e = inl refl
by_cases false lies e = inr (absent lies e)

none_at : (stayed : Bool) (lies : Option SectionAddress) → lies ≡ None → HasStayedOrIsOut stayed lies
none_at true lies e = refl
none_at false lies e = ap (λ x. not (is_some x)) e

pub still_more : (stays : ℕ → Bool) (now : List (Option SectionAddress)) (all_stayed after stayed : Bool)
    (lies : Option SectionAddress) (n : ℕ) → after ≡ (all_stayed && (stayed || not (is_some lies))) → stayed ≡ stays n
    → lies ≡ slice_index_or now n None → StillSoFar stays now all_stayed n → StillSoFar stays now after (n + 1)
still_more stays now all_stayed after stayed lies n e is at h so k l = go (cases_lt k n)
  where
    both : (all_stayed ≡ true) × ((stayed || not (is_some lies)) ≡ true)
    both = and_parts all_stayed (stayed || not (is_some lies)) (sym e ∙ so)

    go : (k < n) ⊎ (n ≤ k) → HasStayedOrIsOut (stays k) (slice_index_or now k None)
    go (inl below) = h both.0 k below
    go (inr above) =
        let same : n ≡ k = omega (arith, above, l) in
        subst (λ j. HasStayedOrIsOut (stays j) (slice_index_or now j None)) same
        (still_as stayed (stays n) lies (slice_index_or now n None) is at both.1)

pub still_done : (stays : ℕ → Bool) (now : List (Option SectionAddress)) (all_stayed : Bool) (n : ℕ) → length now ≤ n
    → StillSoFar stays now all_stayed n → all_stayed ≡ true → (k : ℕ)
    → HasStayedOrIsOut (stays k) (slice_index_or now k None)
still_done stays now all_stayed n long h so k = go (cases_lt k n)
  where
    go : (k < n) ⊎ (n ≤ k) → HasStayedOrIsOut (stays k) (slice_index_or now k None)
    go (inl below) = h so k below
    go (inr above) = none_at (stays k) (slice_index_or now k None) (get_or_past now k None (omega (arith, long, above)))

-- ---- all objects

-- those of the first n objects
pub record StillRows (previous : PreviousState) (now : IndexedLayout) (all_stayed : List Bool) (n : ℕ) : Type 0 where
  pub long : length all_stayed ≡ n
  pub are : (i : ℕ) → i < n → slice_index_or all_stayed i false ≡ true → HasWhollyStayedIn previous now i

pub rows_begun : (previous : PreviousState) (now : IndexedLayout) → StillRows previous now [] 0
rows_begun previous now = record { long = refl; are = λ i l so. absurd (omega (arith, l)) }

pub rows_more : (previous : PreviousState) (now : IndexedLayout) (all_stayed after : List Bool) (n : ℕ) (b : Bool)
    → after ≡ all_stayed ++ b ∷ [] → (b ≡ true → HasWhollyStayedIn previous now n) → StillRows previous now all_stayed n
    → StillRows previous now after (n + 1)
rows_more previous now all_stayed after n b push is h = record {
  long = omega (arith, ap length push, length-append all_stayed (b ∷ []), h.long);
  are = λ i l so. go i l so (cases_lt i n);
}
  where
    go : (i : ℕ) → i < n + 1 → slice_index_or after i false ≡ true → (i < n) ⊎ (n ≤ i)
        → HasWhollyStayedIn previous now i
    go i l so (inl below) =
        h.are i below
        (sym (ap (λ v. slice_index_or v i false) push
        ∙ get_or_append_left all_stayed (b ∷ []) false i (omega (arith, below, h.long))) ∙ so)
    go i l so (inr above) =
        let same : i ≡ n = omega (arith, above, l) in
        subst (λ j. HasWhollyStayedIn previous now j) (sym same)
        (is (sym (ap (λ v. slice_index_or v i false) push ∙ get_or_push all_stayed b false i (h.long ∙ sym same)) ∙ so))

pub rows_done : (previous : PreviousState) (now : IndexedLayout) (all_stayed : List Bool) (n i : ℕ)
    → StillRows previous now all_stayed n → slice_index_or all_stayed i false ≡ true → HasWhollyStayedIn previous now i
rows_done previous now all_stayed n i h so = go (cases_lt i n)
  where
    go : (i < n) ⊎ (n ≤ i) → HasWhollyStayedIn previous now i
    go (inl below) = h.are i below so
    go (inr above) =
        absurd (false≢true (sym (get_or_past all_stayed i false (omega (arith, h.long, above))) ∙ so))

pub no_row_is_still : (all_stayed : List Bool) (i : ℕ) → all_stayed ≡ [] → slice_index_or all_stayed i false ≡ true → ⊥
no_row_is_still all_stayed i e so =
    false≢true (sym (get_or_past all_stayed i false (omega (arith, ap length e))) ∙ so)

-- ---- what is not in the output

pub unknown : (m : Option PreviousState) (t : IndexedLayout) (key : SectionRef) → address_in t key ≡ None
    → stayed_range m t key ≡ None
unfolding stayed_range location_in
unknown None t key e = refl
unknown (Some x) t key e =
    ap (λ a. range_if_same (previous_location x key) (option_and_then (location_of t.link_layout) a)) e
    ∙ nothing_kept (previous_location x key)

pub no_start : (l : KnownLink) (t : IndexedLayout) → ((k : ℕ) → l.number k ≡ k)
    → IsIndexedLayout l.project l.layout t → (key : SectionRef) → address_in t key ≡ None → start_of l key ≡ None
no_start l t keys is key e =
    let gone : placed_part l.layout (object_name l.project key.object.0) key.part ≡ None =
    subst (IsSectionAddress l.project l.layout key) e (is.places key) in
    ap (λ n. option_map (λ (x : PlacedPiece). x.start) (placed_part l.layout (object_name l.project n) key.part))
    (keys key.object.0)
    ∙ ap (option_map (λ (x : PlacedPiece). x.start)) gone
