-- What the code's table of output sections finds.
use Rattle.place_terms.proofs.Common.{All-push, AreInOrder, Bool, Closed, IsOutput, IsSound, KeyedSection, List, None}
use Rattle.place_terms.proofs.Common.{Option, OutputSection, Outputs, PlacedOutput, PreviousOutputs, ReusedOutput, Some}
use Rattle.place_terms.proofs.Common.{Statement, [], all_data_in, ap, append-nil, append_assoc, arith, both, bytes_eq}
use Rattle.place_terms.proofs.Common.{difference_in, difference_of, eqb-false, eqb-true, false, filter-append, find}
use Rattle.place_terms.proofs.Common.{get_or, get_or-replicate, get_or-set_at, get_or-set_other, get_or_at}
use Rattle.place_terms.proofs.Common.{if◌then◌else◌, keyed, keyed_taken, last_or, length, length-append, length-map}
use Rattle.place_terms.proofs.Common.{length-replicate, length-set, map, map-append, minus_modulo, option_and_then}
use Rattle.place_terms.proofs.Common.{option_map, refl, region_number, replicate, same_region, section_number}
use Rattle.place_terms.proofs.Common.{section_of, set, slice_get, slice_get-map, starts_in, subst, suc, sym, take}
use Rattle.place_terms.proofs.Common.{take_more, true, zero, ℕ, ◌++◌, ◌+◌, ◌<◌, ◌==◌, ◌∙◌, ◌∷◌, ◌≡◌, ◌≢◌, ◌≤◌}
use Rattle.std.proofs.Math.ListN.{get_or-append}
use Rattle.std.proofs.lemmas.Option.{get_or_from_slice_get, slice_get_within}
use Rattle.ldmodel.specs.declared.placed.Placed.{Placed}
use Rattle.place_terms.proofs.Lists.{same_name, is_same_name}
use Rattle.place_terms.proofs.Numbers.{sections_told, regions_told}
use Rattle.place_terms.proofs.Ordered.{output_number}
use Rattle.place_terms.proofs.TablesByNumber.{found_under}
use Rattle.place_terms.proofs.Counting.{data_grow, starts_grow}
use Rattle.place_terms.specs.SectionTable.{section_names, nameless, difference_by, AreSectionsOf, Fits}
use Rattle.place_terms.specs.SectionTable.{IsDifferenceSlot}
use Rattle.place_terms.specs.declared.sections.DifferenceSlot.{DifferenceSlot}
use Rattle.place_terms.specs.declared.sections.DifferenceSlot.TheVariants.{Elsewhere, At, Nowhere}

abbrev placed_under : List KeyedSection → List ℕ → Option Placed
placed_under xs name =
    option_map (λ (x : KeyedSection). x.placed) (find (λ (x : KeyedSection). bytes_eq x.name name) xs)

-- what is found by name stands under the number of the name
module _ (script : List Statement) (xs : List KeyedSection) (name : List ℕ)
    (order : AreInOrder (section_number script) (section_names xs)) where
  under : placed_under xs name
      ≡ option_map (λ (x : KeyedSection). x.placed)
      (option_and_then (λ k. slice_get xs k) (section_number script name))
  under = ap (option_map (λ (x : KeyedSection). x.placed))
      (found_under (λ (x : KeyedSection). x.name) (section_number script) (sections_told script) name xs order)

  pub section_there : (k : ℕ) → section_number script name ≡ Some k
      → option_map (λ (x : KeyedSection). x.placed) (find (λ (x : KeyedSection). bytes_eq x.name name) xs)
      ≡ option_map (λ (x : KeyedSection). x.placed) (slice_get xs k)
  section_there k n =
      under ∙ ap (option_map (λ (x : KeyedSection). x.placed)) (ap (option_and_then (λ j. slice_get xs j)) n)

  pub section_unknown : section_number script name ≡ None
      → option_map (λ (x : KeyedSection). x.placed) (find (λ (x : KeyedSection). bytes_eq x.name name) xs) ≡ None
  section_unknown n =
      under ∙ ap (option_map (λ (x : KeyedSection). x.placed)) (ap (option_and_then (λ j. slice_get xs j)) n)

-- those that were placed follow those that are taken over
pub after_taken : (ts : List ReusedOutput) (xs : List Closed) (k j : ℕ) → k ≡ length ts + j
    → slice_get (both ts xs) k ≡ option_map keyed (slice_get xs j)
after_taken [] xs k j e =
    let same : k ≡ j = omega (arith, e) in
    ap (slice_get (map keyed xs)) same ∙ slice_get-map keyed xs j
after_taken (t ∷ ts) xs zero j e = absurd (omega (arith, e))
after_taken (t ∷ ts) xs (suc k) j e = after_taken ts xs k j (omega (arith, e))

-- an output section that has the name is the one of its number
pub guessed_right : (number : List ℕ → Option ℕ) (ts : List ReusedOutput) (xs : List Closed) (j : ℕ) (r : Closed)
    (name : List ℕ) → AreInOrder number (section_names (both ts xs)) → slice_get xs j ≡ Some r
    → r.output.now.name ≡ name → number name ≡ Some (length ts + j)
guessed_right number ts xs j r name o e same =
    let k : ℕ = length ts + j in
    let at : slice_get (both ts xs) k ≡ Some (keyed r) = after_taken ts xs k j refl ∙ ap (option_map keyed) e in
    let names : get_or (section_names (both ts xs)) k [] ≡ r.output.now.name =
    get_or_from_slice_get (section_names (both ts xs)) k r.output.now.name []
    (slice_get-map (λ (x : KeyedSection). x.name) (both ts xs) k
    ∙ ap (option_map (λ (x : KeyedSection). x.name)) at) in
    let inside : k < length (both ts xs) = slice_get_within (both ts xs) k (keyed r) at in
    ap number (sym (names ∙ same))
    ∙ o k (omega (arith, inside, length-map (both ts xs) (λ (x : KeyedSection). x.name)))

-- one more
pub both_pushed : (ts : List ReusedOutput) (xs : List Closed) (x : Closed) → both ts (xs ++ x ∷ [])
    ≡ both ts xs ++ keyed x ∷ []
both_pushed ts xs x =
    ap (λ l. map keyed_taken ts ++ l) (map-append keyed xs (x ∷ []))
    ∙ sym (append_assoc (map keyed_taken ts) (map keyed xs) (keyed x ∷ []))

pub both_taken : (ts : List ReusedOutput) (xs : List Closed) (t : ReusedOutput) → xs ≡ [] → both (ts ++ t ∷ []) xs
    ≡ both ts xs ++ keyed_taken t ∷ []
both_taken ts xs t e = rw e
    (append-nil (map keyed_taken (ts ++ t ∷ []))
    ∙ (map-append keyed_taken ts (t ∷ [])
    ∙ ap (λ l. l ++ keyed_taken t ∷ []) (sym (append-nil (map keyed_taken ts)))))

pub no_sections : (script : List Statement) (ts : List ReusedOutput) (xs : List Closed) (ds : List ℕ) (n : ℕ) → ts ≡ []
    → xs ≡ [] → ds ≡ replicate n 0 → AreSectionsOf script (both ts xs) ds 0 0 0
unfolding difference_by difference_in
no_sections script ts xs ds n a b c = rw (a, b, c) (record {
  order = λ k l. absurd (omega arith);
  differences_of = λ name k e l. get_or-replicate n k 0 0 (omega (arith, length-replicate {A = ℕ} n 0));
  elsewhere_of = refl;
  ends = λ k d l. absurd (omega arith);
  counted = refl;
  data_counted = refl;
})

pub last_or_push : {X : Type 0} (o : Option X) (xs : List X) (x : X) → last_or o (xs ++ x ∷ []) ≡ Some x
last_or_push o [] x = refl
last_or_push o (y ∷ ys) x = last_or_push (Some y) ys x

-- one more output section counts for its own region alone
difference_same : (xs : List KeyedSection) (x : KeyedSection) (region : Option (List ℕ)) → same_region x.region region
    ≡ true → difference_by (xs ++ x ∷ []) region ≡ difference_of (section_of nameless x)
unfolding difference_by difference_in
difference_same xs x region e =
    rw (
      map-append (section_of nameless) xs (x ∷ []),
      filter-append (λ (q : PlacedOutput). same_region q.region region) (map (section_of nameless) xs)
          (section_of nameless x ∷ []),
      e,
      last_or_push,
    ) refl

difference_other : (xs : List KeyedSection) (x : KeyedSection) (region : Option (List ℕ)) → same_region x.region region
    ≡ false → difference_by (xs ++ x ∷ []) region ≡ difference_by xs region
unfolding difference_by difference_in
difference_other xs x region e =
    rw (
      map-append (section_of nameless) xs (x ∷ []),
      filter-append (λ (q : PlacedOutput). same_region q.region region) (map (section_of nameless) xs)
          (section_of nameless x ∷ []),
      e,
      append-nil,
    ) refl

pub difference_next : (xs : List KeyedSection) (x : KeyedSection) (region : Option (List ℕ))
    → difference_by (xs ++ x ∷ []) region
    ≡ (if same_region x.region region then difference_of (section_of nameless x) else difference_by xs region)
difference_next xs x region = go (same_region x.region region) refl
  where
    go : (b : Bool) → same_region x.region region ≡ b
        → difference_by (xs ++ x ∷ []) region
        ≡ (if b then difference_of (section_of nameless x) else difference_by xs region)
    go true e = difference_same xs x region e
    go false e = difference_other xs x region e

pub difference_none : (region : Option (List ℕ)) → difference_by [] region ≡ 0
unfolding difference_by difference_in
difference_none region = refl

first_more : {X : Type 0} (xs : List X) (k : ℕ) (x : X) → k < length xs → x ≡ get_or xs k x
    → take (k + 1) xs ≡ take k xs ++ x ∷ []
first_more xs k x l at = take_more xs k x l ∙ ap (λ y. take k xs ++ y ∷ []) (sym at)

pub taken_next : (ts : List ReusedOutput) (k : ℕ) (t : ReusedOutput) (region : Option (List ℕ)) → k < length ts
    → t ≡ get_or ts k t
    → difference_by (map keyed_taken (take (k + 1) ts)) region
    ≡ (if same_region t.output.now.region region then minus_modulo t.placed.now.start t.placed.now.load
    else difference_by (map keyed_taken (take k ts)) region)
taken_next ts k t region l at =
    ap (λ xs. difference_by xs region)
    (ap (map keyed_taken) (first_more ts k t l at) ∙ map-append keyed_taken (take k ts) (t ∷ []))
    ∙ difference_next (map keyed_taken (take k ts)) (keyed_taken t) region

pub placed_next : (before : List KeyedSection) (xs : List Closed) (k : ℕ) (x : Closed) (region : Option (List ℕ))
    → k < length xs → x ≡ get_or xs k x
    → difference_by (before ++ map keyed (take (k + 1) xs)) region
    ≡ (if same_region x.output.now.region region then minus_modulo x.placed.start x.placed.load
    else difference_by (before ++ map keyed (take k xs)) region)
placed_next before xs k x region l at =
    ap (λ ys. difference_by ys region)
    (ap (λ ys. before ++ ys) (ap (map keyed) (first_more xs k x l at) ∙ map-append keyed (take k xs) (x ∷ []))
    ∙ sym (append_assoc before (map keyed (take k xs)) (keyed x ∷ [])))
    ∙ difference_next (before ++ map keyed (take k xs)) (keyed x) region

-- the number of the next one
pub next_number : (script : List Statement) (e : PreviousOutputs) (xs : List KeyedSection) (placed : ℕ) (v : Outputs)
    (output : OutputSection) → record { script = script; earlier = e; list = xs; placed = placed } ≡ v → IsSound script
    → IsOutput v.script (length v.list) output
    → section_number script output.name ≡ Some (length xs)
next_number script before xs placed v output e sound next =
    output_number script (length xs) output sound
    (subst (λ (w : Outputs). IsOutput w.script (length w.list) output) (sym e) next)

kept_elsewhere : (script : List Statement) (n : ℕ) (region : Option (List ℕ))
    → IsDifferenceSlot script n region Elsewhere
    → region ≡ None
kept_elsewhere script n None at = refl
kept_elsewhere script n (Some name) at = absurd at

record KeptIn (script : List Statement) (n : ℕ) (region : Option (List ℕ)) (j : ℕ) : Type 0 where
  name : List ℕ
  region_is : region ≡ Some name
  number_is : region_number script name ≡ Some j
  within : j < n

kept_in : (script : List Statement) (n : ℕ) (region : Option (List ℕ)) (j : ℕ) → IsDifferenceSlot script n region (At j)
    → KeptIn script n region j
kept_in script n None j at = absurd at
kept_in script n (Some name) j at = record { name = name; region_is = refl; number_is = at.0; within = at.1 }

record KeptNowhere (script : List Statement) (n : ℕ) (region : Option (List ℕ)) : Type 0 where
  name : List ℕ
  region_is : region ≡ Some name
  past : (k : ℕ) → region_number script name ≡ Some k → n ≤ k

kept_nowhere : (script : List Statement) (n : ℕ) (region : Option (List ℕ)) → IsDifferenceSlot script n region Nowhere
    → KeptNowhere script n region
kept_nowhere script n None at = absurd at
kept_nowhere script n (Some name) at = record { name = name; region_is = refl; past = at }

-- one more output section, the next one of the script
module _ (script : List Statement) (xs : List KeyedSection) (x : KeyedSection) (ds : List ℕ) (elsewhere : ℕ)
    (count more commands more_data : ℕ) (o : AreSectionsOf script xs ds elsewhere count commands)
    (next : section_number script x.name ≡ Some (length xs)) (fits : Fits x) (grown : more ≡ count + length x.pieces)
    (data_grown : more_data ≡ commands + length x.data_commands)
  where
    data_more : more_data ≡ length (all_data_in 0 (xs ++ x ∷ []))
    data_more = data_grown ∙ (ap (λ n. n + length x.data_commands) o.data_counted ∙ sym (data_grow 0 xs x))

    counted_more : more ≡ length (starts_in (xs ++ x ∷ []))
    counted_more = grown ∙ (ap (λ n. n + length x.pieces) o.counted ∙ sym (starts_grow xs x))

    order_more : AreInOrder (section_number script) (section_names (xs ++ x ∷ []))
    order_more k l = rw names (go (k == length xs) refl)
      where
        names : section_names (xs ++ x ∷ []) ≡ section_names xs ++ x.name ∷ []
        names = map-append (λ (y : KeyedSection). y.name) xs (x ∷ [])

        long : length (section_names xs) ≡ length xs
        long = length-map xs (λ (y : KeyedSection). y.name)

        whole : length (section_names (xs ++ x ∷ [])) ≡ length xs + 1
        whole = length-map (xs ++ x ∷ []) (λ (y : KeyedSection). y.name) ∙ length-append xs (x ∷ [])

        go : (b : Bool) → (k == length xs) ≡ b → section_number script (get_or (section_names xs ++ x.name ∷ []) k [])
            ≡ Some k
        go true e =
            let k_is : k ≡ length xs = eqb-true k (length xs) e in
            let at : get_or (section_names xs ++ x.name ∷ []) k [] ≡ x.name =
            get_or_at (section_names xs) x.name [] [] k (long ∙ sym k_is) in
            ap (section_number script) at ∙ (next ∙ ap Some (sym k_is))
        go false e =
            let ne = eqb-false k (length xs) e in
            let below : k < length (section_names xs) = omega (arith, whole, long, ne) in
            ap (section_number script) (get_or-append (section_names xs) (x.name ∷ []) [] k below) ∙ o.order k below

    -- a section that names no region
    pub pushed_elsewhere : (n : ℕ) (p : DifferenceSlot) → n ≡ length ds → p ≡ Elsewhere
        → IsDifferenceSlot script n x.region p
        → AreSectionsOf script (xs ++ x ∷ []) ds (difference_of (section_of nameless x)) more more_data
    pushed_elsewhere n p long is at =
        let none = kept_elsewhere script n x.region (subst (IsDifferenceSlot script n x.region) is at) in record {
          order = order_more;
          differences_of = λ name k e l. o.differences_of name k e l
              ∙ sym (difference_other xs x (Some name) (ap (λ r. same_region r (Some name)) none));
          elsewhere_of = sym (difference_same xs x None (ap (λ r. same_region r None) none));
          ends = All-push (λ (y : KeyedSection). Fits y) xs x o.ends fits;
          counted = counted_more;
          data_counted = data_more;
        }

    -- a section that names a region which the table has no place for
    named_nowhere : (region : List ℕ) → x.region ≡ Some region
        → ((k : ℕ) → region_number script region ≡ Some k → length ds ≤ k)
        → AreSectionsOf script (xs ++ x ∷ []) ds elsewhere more more_data
    named_nowhere region some past = record {
      order = order_more;
      differences_of = λ name k e l. go name k e l (bytes_eq region name) refl;
      elsewhere_of = o.elsewhere_of ∙ sym (difference_other xs x None (ap (λ r. same_region r None) some));
      ends = All-push (λ (y : KeyedSection). Fits y) xs x o.ends fits;
      counted = counted_more;
      data_counted = data_more;
    }
      where
        go : (name : List ℕ) (k : ℕ) → region_number script name ≡ Some k → k < length ds → (b : Bool)
            → bytes_eq region name ≡ b → get_or ds k 0 ≡ difference_by (xs ++ x ∷ []) (Some name)
        go name k e h true same =
            absurd (omega (arith, h, past k (ap (region_number script) (same_name region name same) ∙ e)))
        go name k e h false other =
            o.differences_of name k e h
            ∙ sym (difference_other xs x (Some name) (ap (λ r. same_region r (Some name)) some ∙ other))

    pub pushed_nowhere : (n : ℕ) (p : DifferenceSlot) → n ≡ length ds → p ≡ Nowhere
        → IsDifferenceSlot script n x.region p
        → AreSectionsOf script (xs ++ x ∷ []) ds elsewhere more more_data
    pushed_nowhere n p long is at =
        let u = kept_nowhere script n x.region (subst (IsDifferenceSlot script n x.region) is at) in
        named_nowhere u.name u.region_is (λ k e. subst (λ m. m ≤ k) long (u.past k e))

    -- a section that names a region
    named_in : (region : List ℕ) (j : ℕ) → x.region ≡ Some region → region_number script region ≡ Some j
        → j < length ds
        → AreSectionsOf script (xs ++ x ∷ []) (set ds j (difference_of
        (section_of nameless x))) elsewhere more more_data
    named_in region j some number l = record {
      order = order_more;
      differences_of = λ name k e h.
          go name k e (omega (arith, h, length-set ds j (difference_of (section_of nameless x)))) (bytes_eq region name)
          refl;
      elsewhere_of = o.elsewhere_of ∙ sym (difference_other xs x None (ap (λ r. same_region r None) some));
      ends = All-push (λ (y : KeyedSection). Fits y) xs x o.ends fits;
      counted = counted_more;
      data_counted = data_more;
    }
      where
        go : (name : List ℕ) (k : ℕ) → region_number script name ≡ Some k → k < length ds → (b : Bool)
            → bytes_eq region name ≡ b → get_or (set ds j (difference_of (section_of nameless x))) k 0
            ≡ difference_by (xs ++ x ∷ []) (Some name)
        go name k e h true same =
            let n = same_name region name same in
            let f = ap (region_number script) n in
            let k_is : k ≡ j = cc in
            get_or-set_at ds j k (difference_of (section_of nameless x)) 0 k_is l
            ∙ sym (difference_same xs x (Some name) (ap (λ r. same_region r (Some name)) some ∙ same))
        go name k e h false other =
            let ne : k ≢ j = (λ s. let n = (regions_told script).apart region name j number (e ∙ ap Some s) in let y =
            is_same_name region name n in let no : ⊥ = cc in no) in
            get_or-set_other ds j k (difference_of (section_of nameless x)) 0 ne
            ∙ (o.differences_of name k e h
            ∙ sym (difference_other xs x (Some name) (ap (λ r. same_region r (Some name)) some ∙ other)))

    pub pushed_in : (j n : ℕ) (p : DifferenceSlot) → n ≡ length ds → p ≡ At j → IsDifferenceSlot script n x.region p
        → AreSectionsOf script (xs ++ x ∷ []) (set ds j (difference_of
        (section_of nameless x))) elsewhere more more_data
    pushed_in j n p long is at =
        let k = kept_in script n x.region j (subst (IsDifferenceSlot script n x.region) is at) in
        named_in k.name j k.region_is k.number_is (subst (λ m. j < m) long k.within)
