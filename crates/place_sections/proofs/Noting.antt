-- Where a layout has come to is noted before each output section.
use Rattle.place_sections.proofs.Common.{AreNoted, Boundary, Err, Gives, IsAt, IsBoundary, Item, Layout, LayoutCursor}
use Rattle.place_sections.proofs.Common.{LayoutStop, List, Naming, Ok, PlacedOutputs, Result, Some, Statement, [], ap}
use Rattle.place_sections.proofs.Common.{arith, get_or, inl, inr, item_sections, item_step, layout_of, length}
use Rattle.place_sections.proofs.Common.{length-append, length-map, option_map_or, refl, run, section_of, sections_at}
use Rattle.place_sections.proofs.Common.{sections_in, slice_get, slice_get_read, subst, suc, sym, take, take_all, zero}
use Rattle.place_sections.proofs.Common.{ℕ, ◌++◌, ◌+◌, ◌<◌, ◌∙◌, ◌∷◌, ◌≡◌, ◌≤◌, ◌⊎◌}
use Rattle.ldmodel.specs.Rows.{Piece}
use Rattle.place_sections.proofs.Following.{grown_by, more_to_come, next_at}
use Rattle.place_sections.proofs.Runs.{run_more, run_stops}
use Rattle.place_sections.specs.Next.{AreFirst, IsNext}
use Rattle.place_sections.specs.State.{fault_of}
use Rattle.place_sections.specs.declared.stop.LayoutStop.TheVariants as stop
use Rattle.growth.specs.Memory.{no_memory}

-- an element of a list with one more
among_more : {X : Type 0} (xs : List X) (x : X) (k : ℕ) (y : X) → slice_get (xs ++ x ∷ []) k ≡ Some y
    → (slice_get xs k ≡ Some y) ⊎ ((k ≡ length xs) × (x ≡ y))
among_more [] x zero y e = inr (refl, let same : x ≡ y = cc in same)
among_more [] x (suc k) y e = absurd (let no : ⊥ = cc in no)
among_more (z ∷ zs) x zero y e = inl e
among_more (z ∷ zs) x (suc k) y e = elim (among_more zs x k y e) [
  | inl h ↦ inl h
  | inr h ↦ inr (ap suc h.0, h.1)
]

module _ (n : Naming) (rows : List (List Piece)) (provided : List (List ℕ)) (start : Layout) (items : List Item)
    (h : LayoutCursor) (d : PlacedOutputs) (k : ℕ) (x : Item)
    (comes : run (item_step rows provided) start (take k items) ≡ Ok (layout_of n h d))
    (l : k < length items) (at : x ≡ get_or items k x) where
  there : slice_get items k ≡ Some x
  there = slice_get_read items (length items) k x refl l at

  -- where a statement stops, all do
  pub stops_there : {T : Type 0} (s : Layout) (f : LayoutStop) (r : Result T LayoutStop)
      → (item_step rows provided (layout_of n h d) x ≡ Err (fault_of f)) ⊎ (f ≡ stop.NoMemory no_memory) → r ≡ Err f
      → Gives (run (item_step rows provided) start items) s r
  stops_there s f r (inl e) is =
      subst (Gives (run (item_step rows provided) start items) s) (sym is)
      (inl (run_stops (item_step rows provided) items k x start (layout_of n h d) (fault_of f) comes there e))
  stops_there s f r (inr m) is = subst (Gives (run (item_step rows provided) start items) s) (sym is) (inr m)

  module _ (h' : LayoutCursor) (d' : PlacedOutputs) (step : item_step rows provided (layout_of n h d) x
      ≡ Ok (layout_of n h' d')) where
    pub comes_on : run (item_step rows provided) start (take (k + 1) items) ≡ Ok (layout_of n h' d')
    comes_on =
        let e : suc k ≡ k + 1 = omega arith in
        ap (λ j. run (item_step rows provided) start (take j items)) (sym e)
        ∙ run_more (item_step rows provided) items k x start (layout_of n h d) (layout_of n h' d') comes there step

    -- as many output sections are placed as the statement is
    pub more_by : length d'.sections.list ≡ length d.sections.list + length (item_sections x.line x.command)
    more_by =
        let g = grown_by rows provided (layout_of n h d) (layout_of n h' d') x step in
        let b = length-map d.sections.list (section_of n) in
        let c = length-map d'.sections.list (section_of n) in
        omega (arith, g, b, c)

  -- the statement is the next output section, if it is one
  pub is_next : (script : List Statement) → start.sections ≡ [] → AreFirst script items
      → IsNext script (length d.sections.list) x.command
  is_next script none first =
      subst (λ m. IsNext script m x.command) (length-map d.sections.list (section_of n))
      (next_at rows provided script items start none first k (layout_of n h d) comes x there)

  -- there are no fewer in SECTIONS than up to the end of the statement
  pub more_sections : (script : List Statement) → start.sections ≡ [] → AreFirst script items
      → length d.sections.list + length (item_sections x.line x.command) ≤ length (sections_in items)
  more_sections script none first =
      let m = more_to_come rows provided script items start none first k (layout_of n h d) comes x there in
      let b = length-map d.sections.list (section_of n) in
      omega (arith, m, b)

  -- where it stands
  pub stands_at : sections_at items k ≡ item_sections x.line x.command
  stands_at = ap (λ o. option_map_or (λ (y : Item). item_sections y.line y.command) o []) there

-- where all statements have come to
pub all_there : (n : Naming) (rows : List (List Piece)) (provided : List (List ℕ)) (start : Layout) (items : List Item)
    (h : LayoutCursor) (d : PlacedOutputs) (k : ℕ) → run (item_step rows provided) start (take k items)
    ≡ Ok (layout_of n h d)
    → length items ≤ k → run (item_step rows provided) start (take (length items) items) ≡ Ok (layout_of n h d)
all_there n rows provided start items h d k comes l =
    ap (run (item_step rows provided) start) (take_all (length items) items (omega arith) ∙ sym (take_all k items l))
    ∙ comes

-- one boundary more
pub noted_more : (n : Naming) (rows : List (List Piece)) (provided : List (List ℕ)) (start : Layout) (items : List Item)
    (h : LayoutCursor) (d : PlacedOutputs) (k : ℕ) → run (item_step rows provided) start (take k items)
    ≡ Ok (layout_of n h d)
    → (bs more : List Boundary) (b : Boundary) → AreNoted rows provided start items bs (length d.sections.list)
    → b.items ≡ k → IsAt b (layout_of n h d) → (length (sections_at items k) ≡ 1) ⊎ (k ≡ length items)
    → more ≡ bs ++ b ∷ [] → AreNoted rows provided start items more (length d.sections.list + 1)
noted_more n rows provided start items h d k comes bs more b a items_is is next e = record {
  all = λ j y there'. elim (among_more bs b j y (ap (λ z. slice_get z j) (sym e) ∙ there')) [
    | inl old ↦ a.all j y old
    | inr new ↦ subst (λ z. IsBoundary rows provided start items z j) new.1 (record {
      state = layout_of n h d;
      comes = ap (λ z. run (item_step rows provided) start (take z items)) items_is ∙ comes;
      many = let m = a.many in let q = new.0 in length-map d.sections.list (section_of n) ∙ omega (arith, m, q);
      at = is;
      next = subst (λ z. (length (sections_at items z) ≡ 1) ⊎ (z ≡ length items)) (sym items_is) next;
    })
  ];
  many = let m = a.many in let f = ap length e ∙ length-append bs (b ∷ []) in omega (arith, m, f);
}
