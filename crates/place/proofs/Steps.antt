-- One more output section for the groups so far.
use Rattle.place.proofs.Common.{AllZip, Bool, Current, Grouped, IsGroup, List, None, Option, Placed, PlacedOutput, Some}
use Rattle.place.proofs.Common.{Takes, [], add-one, ap, append-nil, append_assoc, arith, drop, drop_all, extended}
use Rattle.place.proofs.Common.{false, false_from_ne_true, get_or, groups, groups_after, groups_from, if◌then◌else◌}
use Rattle.place.proofs.Common.{length, length-map, map, nonempty, not, placed_of, refl, single, slice_get, subst, suc}
use Rattle.place.proofs.Common.{sym, true, zero, zip_more, ℕ, ◌++◌, ◌+◌, ◌-◌, ◌<◌, ◌==◌, ◌∙◌, ◌∷◌, ◌≡◌, ◌≤◌}
use Rattle.std.proofs.lemmas.Grind.{fold-append}
use Rattle.std.proofs.lemmas.Bool.Decides.{Decides-eqb}
use Rattle.ldmodel.specs.Segments.{Group, file_size, reach, shares_segment}
use Rattle.ldmodel.specs.declared.placed.OutputIndex.{OutputIndex}
use Rattle.place.specs.declared.group.Group as code
use Rattle.place.specs.declared.group.Running.{Running}
use Rattle.place.specs.Grouping.{IsRunning, bare, begun, joined}
use Rattle.place.proofs.Grouped.{from_none}
use Rattle.place_terms.proofs.FoundSections.{last_or_push}

-- an output section alone
pub begun_is : (s : List PlacedOutput) (q : PlacedOutput) (number : OutputIndex) → slice_get s number.0 ≡ Some q
    → IsGroup s (single q) (begun number (placed_of q))
begun_is s q number at = record {
  start = refl;
  load = refl;
  in_file = in_file q.has_file_bytes;
  in_memory = omega arith;
  writable = refl;
  executable = refl;
  first = at;
  last = at;
} where
  in_file : (b : Bool) → (if b then q.size else 0) ≡ (if b then ((q.start + q.size) - q.start) else 0)
  in_file true = omega arith
  in_file false = refl

-- the reach of a section with file bytes, else as before
abbrev farther : Group → ℕ → PlacedOutput → ℕ
farther g n q = if q.has_file_bytes then reach g q else n

-- a group and one more
pub joined_is : (s : List PlacedOutput) (g : Group) (x : code.Group) (q : PlacedOutput) (number : OutputIndex)
    → slice_get s number.0 ≡ Some q → IsGroup s g x → IsGroup s (extended g q) (joined x number (placed_of q))
joined_is s g x q number at is = record {
  start = is.start;
  load = is.load;
  in_file = in_file q.has_file_bytes ∙ sym (fold-append (farther g) (farther g 0 g.first) g.others (q ∷ []));
  in_memory =
      ap (λ n. (q.start + q.size) - n) is.start
      ∙ sym (fold-append (λ n (r : PlacedOutput). reach g r) (reach g g.first) g.others (q ∷ []));
  writable = is.writable;
  executable = is.executable;
  first = is.first;
  last = at ∙ sym (last_or_push (Some g.first) g.others q);
} where
  in_file : (b : Bool)
      → (if b then ((q.start + q.size) - x.start) else x.file_size) ≡ (if b then reach g q else file_size g)
  in_file true = ap (λ n. (q.start + q.size) - n) is.start
  in_file false = is.in_file

pub starts : (s : List PlacedOutput) → Grouped s s [] None
starts s = record { complete = []; current = None; are = tt; is = tt; same = from_none (nonempty s) }

-- a section of size 0 is in no group
pub skips : (s rest : List PlacedOutput) (q : PlacedOutput) (done : List code.Group) (running : Option Running)
    → (q.size == 0) ≡ true → Grouped s (q ∷ rest) done running → Grouped s rest done running
skips s rest q done running empty h = record {
  complete = h.complete;
  current = h.current;
  are = h.are;
  is = h.is;
  same = h.same ∙ ap (λ b. h.complete ++ groups_from h.current (if not b then q ∷ nonempty rest else nonempty rest))
      empty;
}

-- a section of nonzero size is the first of those left
filled_is : (q : PlacedOutput) (rest : List PlacedOutput) → (q.size == 0) ≡ false
    → nonempty (q ∷ rest) ≡ q ∷ nonempty rest
filled_is q rest filled = ap (λ b. if not b then q ∷ nonempty rest else nonempty rest) filled

-- the first group begins
pub begins : (s rest : List PlacedOutput) (q : PlacedOutput) (number : OutputIndex) (done : List code.Group)
    → slice_get s number.0 ≡ Some q → (q.size == 0) ≡ false → Grouped s (q ∷ rest) done None
    → Grouped s rest done (Some (record { group = begun number (placed_of q); last = placed_of q }))
unfolding groups_from
begins s rest q number done at filled h = with_none h.current h.is h.same where
  with_none : (current : Option Current) → IsRunning s current None
      → groups (nonempty s) ≡ h.complete ++ groups_from current (nonempty (q ∷ rest))
      → Grouped s rest done (Some (record { group = begun number (placed_of q); last = placed_of q }))
  with_none None is same = record {
    complete = h.complete;
    current = Some (record { group = single q; last = q });
    are = h.are;
    is = record { group = begun_is s q number at; last = refl };
    same = same ∙ ap (λ l. h.complete ++ groups_from None l) (filled_is q rest filled);
  }
  with_none (Some c) is same = absurd is

-- a group goes on
pub goes_on : (s rest : List PlacedOutput) (q : PlacedOutput) (number : OutputIndex) (done : List code.Group)
    (x : Running)
    → slice_get s number.0 ≡ Some q → (q.size == 0) ≡ false → Grouped s (q ∷ rest) done (Some x)
    → ((p : PlacedOutput) → placed_of p ≡ x.last → shares_segment p q ≡ true)
    → Grouped s rest done (Some (record { group = joined x.group number (placed_of q); last = placed_of q }))
unfolding groups_from groups_after
goes_on s rest q number done x at filled h shared = with_some h.current h.is h.same where
  with_some : (current : Option Current) → IsRunning s current (Some x)
      → groups (nonempty s) ≡ h.complete ++ groups_from current (nonempty (q ∷ rest))
      → Grouped s rest done (Some (record { group = joined x.group number (placed_of q); last = placed_of q }))
  with_some None is same = absurd is
  with_some (Some c) is same = record {
    complete = h.complete;
    current = Some (record { group = extended c.group q; last = q });
    are = h.are;
    is = record { group = joined_is s c.group x.group q number at is.group; last = refl };
    same =
        same ∙ ap (λ l. h.complete ++ groups_after c l) (filled_is q rest filled)
        ∙ ap (λ b. h.complete
        ++ (if b then groups_after (record { group = extended c.group q; last = q }) (nonempty rest)
        else (c.group ∷ groups_after (record { group = single q; last = q }) (nonempty rest))))
        (shared c.last is.last);
  }

-- a group ends, and the next one begins
pub ends : (s rest : List PlacedOutput) (q : PlacedOutput) (number : OutputIndex) (done : List code.Group)
    (x : Running)
    → slice_get s number.0 ≡ Some q → (q.size == 0) ≡ false → Grouped s (q ∷ rest) done (Some x)
    → ((p : PlacedOutput) → placed_of p ≡ x.last → shares_segment p q ≡ false)
    → Grouped s rest (done ++ x.group ∷ []) (Some (record { group = begun number (placed_of q); last = placed_of q }))
unfolding groups_from groups_after
ends s rest q number done x at filled h apart = with_some h.current h.is h.same where
  with_some : (current : Option Current) → IsRunning s current (Some x)
      → groups (nonempty s) ≡ h.complete ++ groups_from current (nonempty (q ∷ rest))
      → Grouped s rest (done ++ x.group ∷ []) (Some (record { group = begun number (placed_of q); last = placed_of q }))
  with_some None is same = absurd is
  with_some (Some c) is same =
      let next : List Group = groups_after (record { group = single q; last = q }) (nonempty rest) in
      record {
        complete = h.complete ++ c.group ∷ [];
        current = Some (record { group = single q; last = q });
        are = zip_more (IsGroup s) h.complete done c.group x.group h.are is.group;
        is = record { group = begun_is s q number at; last = refl };
        same =
            same ∙ ap (λ l. h.complete ++ groups_after c l) (filled_is q rest filled)
            ∙ ap (λ b. h.complete
            ++ (if b then groups_after (record { group = extended c.group q; last = q }) (nonempty rest)
            else (c.group ∷ next)))
            (apart c.last is.last)
            ∙ sym (append_assoc h.complete (c.group ∷ []) next);
      }

pub none_left : (s : List PlacedOutput) (done : List code.Group) → Grouped s [] done None
    → AllZip (IsGroup s) (groups (nonempty s)) done
unfolding groups_from
none_left s done h = with_none h.current h.is h.same where
  with_none : (current : Option Current) → IsRunning s current None
      → groups (nonempty s) ≡ h.complete ++ groups_from current [] → AllZip (IsGroup s) (groups (nonempty s)) done
  with_none None is same =
      subst (λ gs. AllZip (IsGroup s) gs done) (sym (same ∙ append-nil h.complete)) h.are
  with_none (Some c) is same = absurd is

pub last_left : (s : List PlacedOutput) (done : List code.Group) (x : Running) → Grouped s [] done (Some x)
    → AllZip (IsGroup s) (groups (nonempty s)) (done ++ x.group ∷ [])
unfolding groups_from groups_after
last_left s done x h = with_some h.current h.is h.same where
  with_some : (current : Option Current) → IsRunning s current (Some x)
      → groups (nonempty s) ≡ h.complete ++ groups_from current []
      → AllZip (IsGroup s) (groups (nonempty s)) (done ++ x.group ∷ [])
  with_some None is same = absurd is
  with_some (Some c) is same =
      subst (λ gs. AllZip (IsGroup s) gs (done ++ x.group ∷ [])) (sym same)
      (zip_more (IsGroup s) h.complete done c.group x.group h.are is.group)

abbrev running_at : code.Group → Placed → Running
running_at g last = record { group = g; last = last }

-- whether two share a segment is a question of their numbers
shared_by_numbers : (p q : PlacedOutput) (x y : Placed) (b : Bool) → placed_of p ≡ x → placed_of q ≡ y
    → shares_segment (bare x) (bare y) ≡ b → shares_segment p q ≡ b
shared_by_numbers p q x y b px qy same =
    ap (λ a. shares_segment (bare a) (bare (placed_of q))) px ∙ ap (λ a. shares_segment (bare x) (bare a)) qy ∙ same

no_zero : (n : ℕ) → (n ≡ 0 → ⊥) → (n == 0) ≡ false
no_zero n other = false_from_ne_true (n == 0) (λ t. other ((Decides-eqb n 0).0 t))

pub take_begins : (done : List code.Group) (k : ℕ) (placed : Placed) (number : OutputIndex) (g : code.Group)
    → number.0 ≡ k → (placed.size ≡ 0 → ⊥) → g ≡ begun number placed
    → Takes done None k placed done (Some (record { group = g; last = placed }))
take_begins done k placed number g same filled made = record {
  at = λ s rest q at is h.
      subst (λ r. Grouped s rest done (Some r))
      (ap (λ (x : Placed). running_at (begun number x) x) is ∙ ap (λ x. running_at x placed) (sym made))
      (begins s rest q number done (ap (λ n. slice_get s n) same ∙ at) (ap (λ (x : Placed). x.size == 0) is
      ∙ no_zero placed.size filled) h);
}

pub take_goes_on : (done : List code.Group) (x : Running) (k : ℕ) (placed : Placed) (number : OutputIndex)
    (g : code.Group)
    → number.0 ≡ k → (placed.size ≡ 0 → ⊥) → g ≡ joined x.group number placed
    → shares_segment (bare x.last) (bare placed) ≡ true
    → Takes done (Some x) k placed done (Some (record { group = g; last = placed }))
take_goes_on done x k placed number g same filled made shared = record {
  at = λ s rest q at is h.
      subst (λ r. Grouped s rest done (Some r))
      (ap (λ (y : Placed). running_at (joined x.group number y) y) is ∙ ap (λ y. running_at y placed) (sym made))
      (goes_on s rest q number done x (ap (λ n. slice_get s n) same ∙ at) (ap (λ (y : Placed). y.size == 0) is
      ∙ no_zero placed.size filled) h
      (λ p px. shared_by_numbers p q x.last placed true px is shared));
}

pub take_ends : (done : List code.Group) (x : Running) (k : ℕ) (placed : Placed) (number : OutputIndex) (g : code.Group)
    → number.0 ≡ k → (placed.size ≡ 0 → ⊥) → g ≡ begun number placed
    → shares_segment (bare x.last) (bare placed) ≡ false
    → Takes done (Some x) k placed (done ++ x.group ∷ []) (Some (record { group = g; last = placed }))
take_ends done x k placed number g same filled made apart = record {
  at = λ s rest q at is h.
      subst (λ r. Grouped s rest (done ++ x.group ∷ []) (Some r))
      (ap (λ (y : Placed). running_at (begun number y) y) is ∙ ap (λ y. running_at y placed) (sym made))
      (ends s rest q number done x (ap (λ n. slice_get s n) same ∙ at) (ap (λ (y : Placed). y.size == 0) is
      ∙ no_zero placed.size filled) h
      (λ p px. shared_by_numbers p q x.last placed false px is apart));
}

-- what stands at a place of the output sections whose numbers these are
pub record At (s : List PlacedOutput) (k : ℕ) (placed : Placed) : Type 0 where
  pub section : PlacedOutput
  pub at : slice_get s k ≡ Some section
  pub numbers : placed_of section ≡ placed
  pub front : drop k s ≡ section ∷ drop (suc k) s

at_next : (q : PlacedOutput) (s : List PlacedOutput) (k : ℕ) (placed : Placed) → At s k placed
    → At (q ∷ s) (suc k) placed
at_next q s k placed h = record {
  section = h.section;
  at = h.at;
  numbers = h.numbers;
  front = h.front;
}

pub stands_at : (s : List PlacedOutput) (k : ℕ) (d : Placed) → k < length (map placed_of s)
    → At s k (get_or (map placed_of s) k d)
stands_at [] k d below = absurd (omega (arith, below))
stands_at (q ∷ s) zero d below = record { section = q; at = refl; numbers = refl; front = refl }
stands_at (q ∷ s) (suc k) d below = at_next q s k _ (stands_at s k d (omega (arith, below)))

-- the step over the section at a place
pub take_at : (s : List PlacedOutput) (sections : List Placed) (k : ℕ) (d : Placed)
    (done new_done : List code.Group) (running new_running : Option Running)
    → map placed_of s ≡ sections → k < length sections
    → Takes done running k (get_or sections k d) new_done new_running
    → Grouped s (drop k s) done running → Grouped s (drop (k + 1) s) new_done new_running
take_at s sections k d done new_done running new_running same below takes h =
    let here : At s k (get_or sections k d) =
    subst (λ l. At s k (get_or l k d)) same (stands_at s k d (omega (arith, below, ap (λ l. length l) same))) in
    subst (λ n. Grouped s (drop n s) new_done new_running) (sym (add-one k))
    (takes.at s (drop (suc k) s) here.section here.at here.numbers
    (subst (λ l. Grouped s l done running) here.front h))

-- after the last one no section is left
pub at_end : (s : List PlacedOutput) (sections : List Placed) (k : ℕ) (done : List code.Group)
    (running : Option Running)
    → map placed_of s ≡ sections → length sections ≤ k → Grouped s (drop k s) done running → Grouped s [] done running
at_end s sections k done running same past h =
    let long : length s ≤ k =
    omega (arith, past, ap (λ l. length l) same, length-map s placed_of) in
    subst (λ l. Grouped s l done running) (drop_all k s long) h
