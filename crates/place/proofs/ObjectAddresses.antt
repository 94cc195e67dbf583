-- The addresses of the sections of an object: a part of the column of all.
use Rattle.place.proofs.Common.{Bool, List, None, Option, SectionAddress, Some, [], address_in, ap, arith, cases_lt}
use Rattle.place.proofs.Common.{cond, drop, false, get_or, get_or-drop, get_or-take, get_or_past, inl, inr, length}
use Rattle.place.proofs.Common.{ltb-false, ltb-true, min, nat_lt, option_and_then, refl, slots_at, sym, table_key, take}
use Rattle.place.proofs.Common.{true, ℕ, ◌+◌, ◌-◌, ◌<◌, ◌∙◌, ◌≡◌, ◌≤◌, ◌⊎◌}
use Rattle.elfobj.specs.declared.section.SectionIndex.{SectionIndex}
use Rattle.ldmodel.specs.declared.names.ObjectPlace.{ObjectPlace}
use Rattle.place.specs.declared.indexed_layout.IndexedLayout.{IndexedLayout}

module _ {X : Type 0} (xs : List (Option X)) (first count : ℕ) where
  abbrev pub end : ℕ
  end = min (first + count) (length xs)

  -- what stands under the number that is k past the first, if it is one of these
  abbrev pub under : ℕ → Bool → Option X
  under k b = option_and_then (λ (at : ℕ). get_or xs at None) (cond b (Some (first + k)) None)

  in_part : (k : ℕ) (ys : List (Option X)) → ys ≡ take (end - first) (drop first xs) → length ys + first ≡ end
      → get_or ys k None ≡ under k (nat_lt k count)
  in_part k ys is long = go (nat_lt k count) refl
    where
      there : (k < length ys) ⊎ (length ys ≤ k) → k < count → get_or ys k None ≡ get_or xs (first + k) None
      there (inl h) l =
          ap (λ (l : List (Option X)). get_or l k None) is
          ∙ get_or-take (end - first) (drop first xs) k None (omega (arith, long, h)) ∙ get_or-drop first xs k None
      there (inr h) l =
          get_or_past ys k None h ∙ sym (get_or_past xs (first + k) None (omega (arith, long, h, l)))

      go : (b : Bool) → nat_lt k count ≡ b → get_or ys k None ≡ under k b
      go true e = there (cases_lt k (length ys)) (ltb-true k count e)
      go false e = get_or_past ys k None (let past : count ≤ k = ltb-false k count e in omega (arith, long, past))

  in_none : (k : ℕ) → end < first → get_or {A = Option X} [] k None ≡ under k (nat_lt k count)
  in_none k short = go (nat_lt k count)
    where
      none : get_or {A = Option X} [] k None ≡ None
      none = get_or_past [] k None (omega arith)

      go : (b : Bool) → get_or {A = Option X} [] k None ≡ under k b
      go true = none ∙ sym (get_or_past xs (first + k) None (omega (arith, short)))
      go false = none

-- the part of the column from the first number of the object to the last
module _ (x : IndexedLayout) (object : ObjectPlace) (number : SectionIndex) where
  abbrev first : ℕ
  first = (slots_at x.table object.0).begin

  abbrev count : ℕ
  count = (slots_at x.table object.0).count

  pub in_range : (from to : ℕ) (s ys : List (Option SectionAddress)) → s ≡ x.addresses.items → from ≡ first
      → to ≡ end x.addresses.items first count → ys ≡ take (to - from) (drop from s) → length ys + from ≡ to
      → get_or ys number.0 None ≡ address_in x (table_key object number)
  in_range from to s ys same begin stop is long =
      in_part x.addresses.items first count number.0 ys
      (is ∙ ap (λ (l : List (Option SectionAddress)). take (to - from) (drop from l)) same
      ∙ ap (λ (n : ℕ). take (to - n) (drop n x.addresses.items)) begin
      ∙ ap (λ (n : ℕ). take (n - first) (drop first x.addresses.items)) stop)
      (omega (arith, long, begin, stop))

  -- it is empty where the column ends before it begins
  pub out_of_range : (from to : ℕ) (s : List (Option SectionAddress)) → s ≡ x.addresses.items → from ≡ first
      → to ≡ end x.addresses.items first count → (to < from) ⊎ (length s < to)
      → get_or {A = Option SectionAddress} [] number.0 None ≡ address_in x (table_key object number)
  out_of_range from to s same begin stop (inl h) =
      in_none x.addresses.items first count number.0 (omega (arith, h, begin, stop))
  out_of_range from to s same begin stop (inr h) =
      absurd (let long : length s ≡ length x.addresses.items = ap length same in omega (arith, h, long, stop))
