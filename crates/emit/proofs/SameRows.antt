-- Rows and the faults of gathering turn on input sections without their relocations; where sections are dropped that
-- nothing refers to, also on the symbols that relocations name.
use Rattle.emit.proofs.Common.{Bool, DiffersInContents, InputSection, InputStatementAt, List, None, Option, Orphan}
use Rattle.emit.proofs.Common.{Piece, Project, Relocation, Some, [], ap, cond, enumerate_from, false, filter, flat_map}
use Rattle.emit.proofs.Common.{gathering_faults, if◌then◌else◌, input_statements, is_none, length, list_any, live, map}
use Rattle.emit.proofs.Common.{map-map, not, option_and_then, option_map_or, output_sections, range_with_len, refl}
use Rattle.emit.proofs.Common.{rows, slice_get, sort_by, sym, true, ℕ, ◌==◌, ◌||◌, ◌∙◌, ◌≡◌}
use Rattle.ldmodel.specs.Fault.{Fault}
use Rattle.ldmodel.specs.FirstMatch.{first_match}
use Rattle.ldmodel.specs.Gathering.{are_discarded, candidates, is_discarded, is_out_under, taken_by}
use Rattle.ldmodel.specs.InputSections.{input_sections}
use Rattle.ldmodel.specs.Live.{is_kept, is_root, is_section, orphans, refers_to, target_section}
use Rattle.ldmodel.specs.Reach.{reached}
use Rattle.ldmodel.specs.Rows.{below, is_in_section, is_taken_by, piece_of, taken}
use Rattle.emit.proofs.MappedGraph.{list_any-mapped, map-filter, map-reached}
use Rattle.emit.proofs.SameInputs.{bare, naming, same_inputs}
use Rattle.emit.proofs.SameReferences.{same_entry_section, same_refers_to}

-- ---- of one project

-- an input section refers to the same where nothing is known of its relocations but their symbols
refers_bare : (p : Project) (a b : InputSection) → refers_to p a b ≡ refers_to p (bare true a) (bare true b)
unfolding target_section
refers_bare p a b =
    list_any-mapped (λ (r : Relocation). naming r.symbol) (λ r. is_section (target_section p a.id.object r) b)
    (λ r. is_section (target_section p a.id.object r) b) (λ r. refl) a.relocations
    ∙ ap (list_any (λ r. is_section (target_section p a.id.object r) b))
    (sym (map-map naming (λ (r : Relocation). r.symbol) a.relocations))

-- the live ones of some input sections
abbrev live_among : (gc : Bool) → Project → List InputSection → List InputSection
live_among true p xs = reached (is_root p) (refers_to p) (filter (λ x. not (is_discarded p x)) xs)
live_among false p xs = filter (λ x. not (is_discarded p x)) xs

module _ (gc : Bool) (p : Project) where
  out_bare : (x : InputSection) → is_discarded p x ≡ is_discarded p (bare gc x)
  unfolding is_discarded
  out_bare x = go (taken_by p x)
    where
      go : (m : Option InputStatementAt) → is_out_under p x m ≡ is_out_under p (bare gc x) m
      go None = refl
      go (Some y) = refl

  candidates_bare : map (bare gc) (candidates p)
      ≡ filter (λ x. not (is_discarded p x)) (map (bare gc) (input_sections p))
  candidates_bare =
      map-filter (bare gc) (λ x. not (is_discarded p x)) (λ x. not (is_discarded p x)) (λ x. ap not (out_bare x))
      (input_sections p)

live_bare : (gc : Bool) (p : Project) → p.options.gc ≡ gc
    → map (bare gc) (live p) ≡ live_among gc p (map (bare gc) (input_sections p))
unfolding live
live_bare true p on =
    ap (λ b. map (bare true) (cond b (reached (is_root p) (refers_to p) (candidates p)) (candidates p))) on
    ∙ (map-reached (bare true) (is_root p) (refers_to p) (is_root p) (refers_to p) (λ x. refl) (refers_bare p)
    (candidates p)
    ∙ ap (reached (is_root p) (refers_to p)) (candidates_bare true p))
live_bare false p off =
    ap (λ b. map (bare false) (cond b (reached (is_root p) (refers_to p) (candidates p)) (candidates p))) off
    ∙ candidates_bare false p

abbrev numbered : Project → ℕ → List InputSection → List Piece
numbered p n xs = map (piece_of n) (filter (is_taken_by p n) xs)

abbrev orphan : InputSection → Fault
orphan x = Orphan x.object x.name

abbrev unplaced : Project → List InputSection → List Fault
unplaced p xs = map orphan (filter (λ x. is_none (taken_by p x)) xs)

module _ (gc : Bool) (p : Project) where
  taken_bare : (n : ℕ) → taken p n ≡ numbered p n (map (bare gc) (live p))
  taken_bare n =
      sym (map-map (piece_of n) (bare gc) (filter (is_taken_by p n) (live p)))
      ∙ ap (map (piece_of n)) (map-filter (bare gc) (is_taken_by p n) (is_taken_by p n) (λ x. refl) (live p))

  faults_bare : gathering_faults p ≡ unplaced p (map (bare gc) (live p))
  unfolding gathering_faults orphans
  faults_bare =
      sym (map-map orphan (bare gc) (filter (λ x. is_none (taken_by p x)) (live p)))
      ∙ ap (map orphan)
      (map-filter (bare gc) (λ x. is_none (taken_by p x)) (λ x. is_none (taken_by p x)) (λ x. refl) (live p))

-- ---- of two projects

module _ {p q : Project} {place : ℕ} (h : DiffersInContents p q place) where
  same_taker : taken_by p ≡ taken_by q
  same_taker =
      λ i x. option_and_then (slice_get (input_statements (h.script i))) (first_match (h.script i) x.object x.name)

  same_out_under : (x : InputSection) (m : Option InputStatementAt) → is_out_under p x m ≡ is_out_under q x m
  same_out_under x None = λ i. (x.size == 0) || are_discarded (h.options i).orphans
  same_out_under x (Some y) = refl

  same_out : is_discarded p ≡ is_discarded q
  unfolding is_discarded
  same_out = λ i x. same_out_under x (same_taker i x) i

  same_root : is_root p ≡ is_root q
  same_root = λ i x. is_section (same_entry_section h i) x || is_kept (same_taker i x)

  same_live_among : (gc : Bool) → live_among gc p ≡ live_among gc q
  same_live_among true = λ i xs. reached (same_root i) (same_refers_to h i) (filter (λ x. not (same_out i x)) xs)
  same_live_among false = λ i xs. filter (λ x. not (same_out i x)) xs

  same_live : (gc : Bool) → p.options.gc ≡ gc → map (bare gc) (live p) ≡ map (bare gc) (live q)
  same_live gc is =
      live_bare gc p is
      ∙ ((λ i. same_live_among gc i (same_inputs h gc is i))
      ∙ sym (live_bare gc q (sym (ap (λ o. o.gc) h.options) ∙ is)))

  same_taken_in : (n : ℕ) → is_taken_by p n ≡ is_taken_by q n
  same_taken_in n = λ i x. option_map_or (λ k. k == n) (first_match (h.script i) x.object x.name) false

  same_taken : (n : ℕ) → taken p n ≡ taken q n
  same_taken n =
      taken_bare p.options.gc p n
      ∙ ((λ i. map (piece_of n) (filter (same_taken_in n i) (same_live p.options.gc refl i)))
      ∙ sym (taken_bare p.options.gc q n))

  pub same_rows : rows p ≡ rows q
  unfolding rows
  same_rows =
      λ i. map
      (λ k. flat_map
      (λ (x : ℕ × InputStatementAt).
      if is_in_section k x.1.place then sort_by (below x.1.input.sort) (same_taken x.0 i) else [])
      (enumerate_from 0 (input_statements (h.script i))))
      (range_with_len 0 (length (output_sections (h.script i))))

  pub same_gathering_faults : gathering_faults p ≡ gathering_faults q
  same_gathering_faults =
      faults_bare p.options.gc p
      ∙ ((λ i. map orphan (filter (λ x. is_none (same_taker i x)) (same_live p.options.gc refl i)))
      ∙ sym (faults_bare p.options.gc q))
