-- A layout that takes over the first output sections of an earlier one comes to where that one had come to after them.
use Rattle.place_sections.proofs.Common.{AreNoted, Begins, Boundary, HasSection, Input, IsBoundary, Item, ItemCommand}
use Rattle.place_sections.proofs.Common.{Layout, LayoutCursor, Leads, List, Naming, None, Ok, Option, OutputSection}
use Rattle.place_sections.proofs.Common.{Placed, PlacedOutputs, PreviousOutputs, PreviousPlacement, Same, Some}
use Rattle.place_sections.proofs.Common.{Statement, [], ap, arith, drop, earlier_of, freed_from, get_or, inl, inr}
use Rattle.place_sections.proofs.Common.{item_command_step, item_sections, item_step, layout_of, length, length-append}
use Rattle.place_sections.proofs.Common.{length-map, length-take, load_region, map, map-append, next_row, noted}
use Rattle.place_sections.proofs.Common.{option_map_or, refl, row_named, rows_of, run, section_of, section_step}
use Rattle.place_sections.proofs.Common.{sections_at, slice_get, slice_get_within, starts_in, subst, suc, sym}
use Rattle.place_sections.proofs.Common.{symbol_of, take, take-map, take_all, zero, ℕ, ◌++◌, ◌+◌, ◌<◌, ◌^◌, ◌∙◌, ◌∷◌}
use Rattle.place_sections.proofs.Common.{◌≡◌, ◌≤◌}
use Rattle.std.proofs.Math.ListN.{get_or-map}
use Rattle.ldscript.specs.statements.declared.statement.ItemCommand.TheVariants as item
use Rattle.ldmodel.specs.Rows.{Piece}
use Rattle.ldmodel.specs.declared.rows.Piece as rows
use Rattle.place_sections.proofs.Adding.{section_grows}
use Rattle.place_sections.proofs.Beginning.{first_part}
use Rattle.place_sections.proofs.Ending.{chained}
use Rattle.place_sections.proofs.Following.{next_at}
use Rattle.place_sections.proofs.Grows.{given_is}
use Rattle.place_sections.proofs.Onward.{fewer, items_on, leads_before}
use Rattle.place_sections.proofs.Runs.{drop_at, run_first, run_more, run_none, run_rest}
use Rattle.place_sections.proofs.NoOutputPlaced.{still_two}
use Rattle.place_sections.proofs.Taking.{data_begun, data_within, grown, has_section, placed_is, section_taken}
use Rattle.place_sections.specs.Boundaries.{data_in}
use Rattle.place_sections.specs.Next.{AreFirst, IsNextAt}
use Rattle.place_sections.specs.Taken.{IsSection, MayBeTaken, Takes}

-- a step looks at one row at most, that of an output section
command_same : (provided : List (List ℕ)) (first : ℕ) (earlier rows : List (List Piece)) (line : ℕ) (s : Layout)
    (c : ItemCommand) (t : Layout) → Same first earlier rows → item_command_step earlier provided line s c ≡ Ok t
    → length t.sections ≤ first → item_command_step rows provided line s c ≡ Ok t
unfolding item_command_step
command_same provided first earlier rows line s (item.Dot c) t a e l = e
command_same provided first earlier rows line s (item.Directive c) t a e l = e
command_same provided first earlier rows line s (item.Section o) t a e l =
    let g = section_grows provided (next_row earlier s) s line o t e in
    let m = ap length g.added ∙ length-append s.sections (g.section ∷ []) in
    ap (λ row. section_step provided row s line o) (sym (a (length s.sections) (omega (arith, m, l)))) ∙ e
command_same provided first earlier rows line s (item.Discard inputs) t a e l = e

items_same : (provided : List (List ℕ)) (first : ℕ) (earlier rows : List (List Piece)) (xs : List Item) (s t : Layout)
    → Same first earlier rows → run (item_step earlier provided) s xs ≡ Ok t → length t.sections ≤ first
    → run (item_step rows provided) s xs ≡ Ok t
unfolding run
items_same provided first earlier rows [] s t a e l = e
items_same provided first earlier rows (x ∷ xs) s t a e l =
    let h = chained (item_step earlier provided s x) (λ u. run (item_step earlier provided) u xs) t e in
    let f = fewer h.value t (items_on earlier provided xs h.value t h.second) in
    let one = command_same provided first earlier rows x.line (noted s) x.command h.value a h.first
    (omega (arith, f, l)) in
    let more = items_same provided first earlier rows xs h.value t a h.second l in
    rw one more

boundary_same : (provided : List (List ℕ)) (first : ℕ) (earlier rows : List (List Piece)) (items : List Item)
    (s : Layout) (b : Boundary) (k : ℕ) → Same first earlier rows → k ≤ first
    → IsBoundary earlier provided s items b k → IsBoundary rows provided s items b k
boundary_same provided first earlier rows items s b k a l i = record {
  state = i.state;
  comes = items_same provided first earlier rows (take b.items items) s i.state a i.comes
      (let m = i.many in omega (arith, m, l));
  many = i.many;
  at = i.at;
  next = i.next;
}

-- this many output sections are taken over, as earlier rows had them
pub record Reached (n : Naming) (i : Input) (s : Layout) (items : List Item) (rows : List (List Piece))
    (d : PlacedOutputs)
    (count : ℕ) : Type 0 where
  pub place : ℕ
  pub state : Layout
  pub comes : run (item_step rows i.provided.now) s (take place items) ≡ Ok state
  pub sections : map (section_of n) d.sections.list ≡ state.sections
  pub regions : d.regions ≡ state.regions
  pub many : length d.sections.list ≡ count

pub none_reached : (n : Naming) (i : Input) (h : LayoutCursor) (items : List Item) (rows : List (List Piece))
    (d : PlacedOutputs)
    → d.sections.list ≡ [] → Reached n i (layout_of n h d) items rows d 0
none_reached n i h items rows d none = record {
  place = 0;
  state = layout_of n h d;
  comes = run_none (item_step rows i.provided.now) (layout_of n h d);
  sections = refl;
  regions = refl;
  many = ap length none;
}

step_is : (rows : List (List Piece)) (provided : List (List ℕ)) (s t : Layout) (x : Item) (line : ℕ)
    (o : OutputSection) → x ≡ record { line = line; command = item.Section o } → item_step rows provided s x ≡ Ok t
    → section_step provided (next_row rows s) (noted s) line o ≡ Ok t
unfolding item_command_step
step_is rows provided s t x line o same e = sym (ap (item_step rows provided s) same) ∙ e

-- an output section at a place
one_section : (items : List Item) (place : ℕ) → length (sections_at items place) ≡ 1
    → (o : OutputSection) × IsSection items place o
one_section items place one = at_place (slice_get items place) refl one
  where
    by_command : (x : Item) (c : ItemCommand) → x.command ≡ c → slice_get items place ≡ Some x
        → length (item_sections x.line c) ≡ 1 → (o : OutputSection) × IsSection items place o
    by_command x (item.Section o) e there l =
        (o, record { line = x.line; there = there ∙ ap (λ c. Some (record { line = x.line; command = c })) e })
    by_command x (item.Dot c) e there l = absurd (omega (arith, l))
    by_command x (item.Directive c) e there l = absurd (omega (arith, l))
    by_command x (item.Discard inputs) e there l = absurd (omega (arith, l))

    at_place : (r : Option Item) → slice_get items place ≡ r
        → length (option_map_or (λ (x : Item). item_sections x.line x.command) r []) ≡ 1
        → (o : OutputSection) × IsSection items place o
    at_place None e l = absurd (omega (arith, l))
    at_place (Some x) e l = by_command x x.command refl e l

-- the output section at a boundary, from a layout on, where the previous layout had come to after it
record Stepped (script : List Statement) (i : Input) (rows : List (List Piece)) (s : Layout) (items : List Item)
    (b : Boundary) (row : List Piece) (state : Layout) (line : ℕ) (o : OutputSection) : Type 0 where
  after : Layout
  comes : run (item_step rows i.provided.now) s (take (suc b.items) items) ≡ Ok after
  step : section_step i.provided.now row (noted state) line o ≡ Ok after
  leads : Leads script i.kept (section_step i.provided.now row (noted state) line o)

module _ (n : Naming) (i : Input) (script : List Statement) (s : Layout) (items : List Item)
    (e : PreviousPlacement n i script s items) (b : Boundary) (k : ℕ) (there : slice_get i.kept.boundaries.now k
    ≡ Some b) where
  abbrev at : IsBoundary e.rows i.provided.now s items b k
  at = e.boundaries k b there

  goes : run (item_step e.rows i.provided.now) at.state (drop b.items items) ≡ Ok e.leads.layout
  goes = run_rest (item_step e.rows i.provided.now) items b.items s at.state e.leads.layout at.comes e.leads.comes

  state_leads : Leads script i.kept (Ok at.state)
  state_leads =
      leads_before script i.kept at.state e.leads.layout (Ok at.state) (run (item_step e.rows i.provided.now) s items)
      (items_on e.rows i.provided.now (drop b.items items) at.state e.leads.layout goes) refl e.leads refl

  -- the output section there, in its row
  module _ (line : ℕ) (o : OutputSection)
      (stands : slice_get items b.items ≡ Some (record { line = line; command = item.Section o })) (row : List Piece)
      (row_is : next_row e.rows at.state ≡ row) where
    stepped : Stepped script i e.rows s items b row at.state line o
    stepped =
        let provided : List (List ℕ) = i.provided.now in
        let x : Item = record { line = line; command = item.Section o } in
        let h = chained (item_step e.rows provided at.state x)
        (λ u. run (item_step e.rows provided) u (drop (suc b.items) items)) e.leads.layout
        (sym (run_first (item_step e.rows provided) x (drop (suc b.items) items) at.state)
        ∙ (ap (run (item_step e.rows provided) at.state) (sym (drop_at items b.items x stands)) ∙ goes)) in
        let step : section_step provided row (noted at.state) line o ≡ Ok h.value =
        ap (λ z. section_step provided z (noted at.state) line o) (sym row_is)
        ∙ step_is e.rows provided at.state h.value x line o refl h.first in
        record {
          after = h.value;
          comes = run_more (item_step e.rows provided) items b.items x s at.state h.value at.comes stands h.first;
          step = step;
          leads = leads_before script i.kept h.value e.leads.layout (section_step provided row (noted at.state) line o)
              (run (item_step e.rows provided) s items)
              (items_on e.rows provided (drop (suc b.items) items) h.value e.leads.layout h.second) step e.leads refl;
        }

    -- its data commands end at the next boundary
    module _ (next : Boundary) (there_next : slice_get i.kept.boundaries.now (k + 1) ≡ Some next) where
      abbrev at_next : IsBoundary e.rows i.provided.now s items next (k + 1)
      at_next = e.boundaries (k + 1) next there_next

      next_sections : stepped.after.sections ≡ at_next.state.sections
      next_sections =
          let g = section_grows i.provided.now row (noted at.state) line o stepped.after stepped.step in
          let long : length stepped.after.sections ≡ length at_next.state.sections =
          (let p = ap length g.added ∙ length-append at.state.sections (g.section ∷ []) in
          let z = at.many in let w = at_next.many in omega (arith, p, z, w)) in
          let two = still_two e.rows i.provided.now items s (suc b.items) next.items stepped.after at_next.state
          stepped.comes at_next.comes long in
          two.0

      data_end : next.data_commands ≡ length (data_in stepped.leads.layout.sections)
      data_end =
          at_next.at.data_commands
          ∙ (ap (λ z. length (data_in z)) (sym next_sections)
          ∙ ap (λ (u : Layout). length (data_in u.sections))
          (sym (given_is stepped.leads.layout stepped.after (sym stepped.leads.comes ∙ stepped.step))))

  -- one more, the data commands of which end at the next boundary
  pub reached_on : (next : Boundary) → slice_get i.kept.boundaries.now (k + 1) ≡ Some next → k < i.kept.first
      → (old new : PlacedOutputs) → Reached n i s items e.rows old k → Takes i items b next old new
      → Reached n i s items e.rows new (k + 1)
  reached_on next there_next l old new r t =
      let provided : List (List ℕ) = i.provided.now in
      let o : OutputSection = t.output in
      let row : List rows.Piece = get_or (map (λ v. v.items) i.rows.now) (length old.sections.list) [] in
      let long : length r.state.sections ≡ length at.state.sections =
      (let p = ap length r.sections in let q = length-map old.sections.list (section_of n) in
      let z = r.many in let w = at.many in omega (arith, p, q, z, w)) in
      let two = still_two e.rows provided items s r.place b.items r.state at.state r.comes at.comes long in
      let row_is : next_row e.rows at.state ≡ row_named n row =
      ap (λ j. get_or e.rows j []) at.many
      ∙ (e.same k l
      ∙ (get_or-map (row_named n) (map (λ v. v.items) i.rows.now) k []
      ∙ ap (λ j. row_named n (get_or (map (λ v. v.items) i.rows.now) j [])) (sym r.many))) in
      let st = stepped t.at.line o t.at.there (row_named n row) row_is in
      let same : st.leads.layout ≡ st.after = given_is st.leads.layout st.after (sym st.leads.comes ∙ st.step) in
      let sections : at.state.sections ≡ map (section_of n) old.sections.list = sym (r.sections ∙ two.0) in
      let g = grown n script i.kept provided row (noted at.state) t.at.line o old.sections.list sections st.leads in
      let y = section_taken n script i.kept provided row
      (noted at.state) t.at.line o old.sections.list sections st.leads
      t.section next.data_commands t.taken (data_end t.at.line o t.at.there (row_named n row) row_is next there_next) in
      record {
        place = suc b.items;
        state = st.after;
        comes = st.comes;
        sections = ap (map (section_of n)) t.pushed
            ∙ (map-append (section_of n) old.sections.list (t.section ∷ [])
            ∙ (ap (λ z. z ++ section_of n t.section ∷ []) (sym sections)
            ∙ (ap (λ z. at.state.sections ++ z ∷ []) y.0
            ∙ (sym g.added ∙ ap (λ (u : Layout). u.sections) same))));
        regions = t.regions
            ∙ (ap (λ (p : Placed). freed_from (load_region o.load) (p.load + p.load_size)
            (freed_from o.region (p.start + p.size) old.regions)) y.1
            ∙ (ap (λ z. freed_from (load_region o.load) (g.section.load + g.section.load_size)
            (freed_from o.region (g.section.start + g.section.size) z)) (r.regions ∙ two.1)
            ∙ (sym g.regions ∙ ap (λ (u : Layout). u.regions) same)));
        many = let m = ap length t.pushed ∙ length-append old.sections.list (t.section ∷ []) in let z = r.many in
            omega (arith, m, z);
      }

  -- the statement there is an output section
  section_there : (next : Boundary) → slice_get i.kept.boundaries.now (k + 1) ≡ Some next
      → length (sections_at items b.items) ≡ 1
  section_there next there_next =
      elim at.next [
        | inl one ↦ one
        | inr end ↦
            let at_next = e.boundaries (k + 1) next there_next in
            let last = run_rest (item_step e.rows i.provided.now) items next.items s at_next.state e.leads.layout
            at_next.comes e.leads.comes in
            let few = fewer at_next.state e.leads.layout
            (items_on e.rows i.provided.now (drop next.items items) at_next.state e.leads.layout last) in
            let whole : at.state ≡ e.leads.layout =
            given_is at.state e.leads.layout
            (sym at.comes
            ∙ (ap (run (item_step e.rows i.provided.now) s) (take_all b.items items (omega (arith, end)))
            ∙ e.leads.comes)) in
            let same = ap (λ (u : Layout). length u.sections) whole in
            let m = at.many in
            let w = at_next.many in
            absurd (omega (arith, few, same, m, w))
      ]

  -- no boundary is past all statements
  pub items_within : b.items ≤ length items
  items_within =
      elim at.next [
        | inl one ↦
            let o = one_section items b.items one in
            let l = slice_get_within items b.items (record { line = o.1.line; command = item.Section o.0 }) o.1.there in
            omega (arith, l)
        | inr end ↦ omega (arith, end)
      ]

  -- the previous layout has it
  pub may_be_taken : (next : Boundary) → slice_get i.kept.boundaries.now (k + 1) ≡ Some next → k < i.kept.first
      → (d : PlacedOutputs) → Reached n i s items e.rows d k → d.sections.placed ≡ 0
      → d.sections.earlier ≡ earlier_of i.kept.previous → MayBeTaken i items b next d
  may_be_taken next there_next l d r fresh kept =
      let one = section_there next there_next in
      let o = one_section items b.items one in
      let provided : List (List ℕ) = i.provided.now in
      let row : List rows.Piece = get_or (map (λ v. v.items) i.rows.now) (length d.sections.list) [] in
      let long : length r.state.sections ≡ length at.state.sections =
      (let p = ap length r.sections in let q = length-map d.sections.list (section_of n) in
      let z = r.many in let w = at.many in omega (arith, p, q, z, w)) in
      let two = still_two e.rows provided items s r.place b.items r.state at.state r.comes at.comes long in
      let row_is : next_row e.rows at.state ≡ row_named n row =
      ap (λ j. get_or e.rows j []) at.many
      ∙ (e.same k l
      ∙ (get_or-map (row_named n) (map (λ v. v.items) i.rows.now) k []
      ∙ ap (λ j. row_named n (get_or (map (λ v. v.items) i.rows.now) j [])) (sym r.many))) in
      let st = stepped o.1.line o.0 o.1.there (row_named n row) row_is in
      let sections : at.state.sections ≡ map (section_of n) d.sections.list = sym (r.sections ∙ two.0) in
      let end = data_end o.1.line o.0 o.1.there (row_named n row) row_is next there_next in
      let has = has_section n script i.kept provided row (noted at.state) o.1.line o.0 d.sections.list sections
      st.leads in
      let g = grown n script i.kept provided row (noted at.state) o.1.line o.0 d.sections.list sections st.leads in
      record {
        section = one;
        there = record {
          first = fresh;
          section = subst (λ z. HasSection z (length d.sections.list) (length (starts_in d.sections.list)) row)
              (sym kept) has;
          begun = data_begun n script i.kept provided row (noted at.state) o.1.line o.0 d.sections.list sections
              st.leads next.data_commands end;
          within = subst (λ (z : PreviousOutputs). next.data_commands ≤ length z.data_commands) (sym kept)
              (data_within n script i.kept provided row (noted at.state) o.1.line o.0 d.sections.list sections st.leads
              next.data_commands end);
        };
        within = slice_get_within i.kept.previous.sections.now (length d.sections.list) has.placed has.there;
        ends = λ p at_p.
            let known = has.there in
            let same : p ≡ has.placed = cc in
            let own = placed_is n script i.kept provided row (noted at.state) o.1.line o.0 d.sections.list sections
            st.leads p at_p in (
              subst (λ (z : Placed). z.start + z.size < 2 ^ 64) (sym same) has.fits,
              subst (λ (z : Placed). z.load + z.load_size < 2 ^ 64) (sym own) g.load_end,
            );
      }

  -- where the previous layout had come to
  state_is : (h : LayoutCursor) (d : PlacedOutputs) → Reached n i s items e.rows d k → h.symbols.script ≡ script → h.dot
      ≡ b.dot
      → h.dots.items ≡ take b.dots i.kept.dots.now → h.inputs ≡ b.inputs
      → h.symbols.list ≡ take b.symbols i.kept.symbols.now → layout_of n h d ≡ at.state
  state_is h d r same dot dots inputs symbols =
      let long : length r.state.sections ≡ length at.state.sections =
      (let x = ap length r.sections in let y = length-map d.sections.list (section_of n) in
      let z = r.many in let w = at.many in omega (arith, x, y, z, w)) in
      let two = still_two e.rows i.provided.now items s r.place b.items r.state at.state r.comes at.comes long in
      let leads = state_leads in
      let ended : leads.layout ≡ at.state = given_is leads.layout at.state (sym leads.comes) in
      let dots_are : h.dots.items ≡ at.state.dots =
      dots ∙ first_part at.state.dots i.kept.dots.now b.dots
      (subst (λ (u : Layout). Begins u.dots i.kept.dots.now) ended leads.dots) at.at.dots in
      let names : map (symbol_of h.symbols.script) h.symbols.list ≡ at.state.symbols =
      ap (λ z. map (symbol_of z) h.symbols.list) same
      ∙ (ap (map (symbol_of script)) symbols
      ∙ (sym (take-map (symbol_of script) b.symbols i.kept.symbols.now)
      ∙ first_part at.state.symbols (map (symbol_of script) i.kept.symbols.now) b.symbols
      (subst (λ (u : Layout). Begins u.symbols (map (symbol_of script) i.kept.symbols.now)) ended leads.symbols)
      at.at.symbols)) in
      rw (dot ∙ at.at.dot, dots_are, inputs ∙ at.at.inputs, names, r.regions ∙ two.1, r.sections ∙ two.0) refl

  pub goes_on : (h : LayoutCursor) (d : PlacedOutputs) → k ≤ i.kept.first → Reached n i s items e.rows d k
      → h.symbols.script ≡ script
      → h.dot ≡ b.dot → h.dots.items ≡ take b.dots i.kept.dots.now → h.inputs ≡ b.inputs
      → h.symbols.list ≡ take b.symbols i.kept.symbols.now
      → run (item_step (rows_of n i) i.provided.now) s (take b.items items) ≡ Ok (layout_of n h d)
  goes_on h d l r same dot dots inputs symbols =
      items_same i.provided.now i.kept.first e.rows (rows_of n i) (take b.items items) s at.state e.same
      at.comes (let m = at.many in omega (arith, m, l))
      ∙ ap Ok (sym (state_is h d r same dot dots inputs symbols))

  -- the statement there is the next output section of the script, if it is one
  pub taken_next : (outputs : List Statement) → s.sections ≡ [] → AreFirst outputs items → (d : PlacedOutputs)
      → Reached n i s items e.rows d k → d.sections.script ≡ outputs
      → IsNextAt d.sections.script (length d.sections.list) items b.items
  taken_next outputs none first d r same =
      let long : length at.state.sections ≡ length d.sections.list = at.many ∙ sym r.many in
      subst (λ z. IsNextAt z (length d.sections.list) items b.items) (sym same)
      (subst (λ z. IsNextAt outputs z items b.items) long
      (next_at e.rows i.provided.now outputs items s none first b.items at.state at.comes))

-- the first ones of a list
pub among_first : {X : Type 0} (m : ℕ) (xs : List X) (k : ℕ) (x : X) → slice_get (take m xs) k ≡ Some x
    → (k < m) × (slice_get xs k ≡ Some x)
among_first zero xs k x e = absurd (let no : ⊥ = cc in no)
among_first (suc m) [] k x e = absurd (let no : ⊥ = cc in no)
among_first (suc m) (y ∷ ys) zero x e = (omega arith, e)
among_first (suc m) (y ∷ ys) (suc k) x e = let h = among_first m ys k x e in (omega (arith, h.0), h.1)

-- what is taken over up to a boundary
module _ (n : Naming) (i : Input) (script : List Statement) (s : Layout) (items : List Item)
    (e : PreviousPlacement n i script s items) (count : ℕ) (few : count ≤ i.kept.first) where
  pub all_noted : (boundaries : List Boundary) (complete : ℕ) → boundaries ≡ take count i.kept.boundaries.now
      → count < length i.kept.boundaries.now → complete ≡ count
      → AreNoted (rows_of n i) i.provided.now s items boundaries complete
  all_noted boundaries complete taken l done = record {
    all = λ j x at.
        let h = among_first count i.kept.boundaries.now j x (ap (λ z. slice_get z j) (sym taken) ∙ at) in
        boundary_same i.provided.now i.kept.first e.rows (rows_of n i) items s x j e.same
        (let m = h.0 in omega (arith, m, few)) (e.boundaries j x h.1);
    many =
        let m = length-take count i.kept.boundaries.now in
        let f = ap length taken in
        omega (arith, m, f, l, done);
  }
