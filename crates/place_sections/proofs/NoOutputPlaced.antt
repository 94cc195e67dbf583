-- Steps that place no output section: the complete ones stay, and so do the regions.
use Rattle.place_sections.proofs.Common.{Add, DotCommand, Item, ItemCommand, Layout, List, Ok, Set, [], ap, arith}
use Rattle.place_sections.proofs.Common.{cases_lt, drop, free_dot_step, inl, inr, item_command_step, item_step, length}
use Rattle.place_sections.proofs.Common.{length-append, next_row, noted, number, plus_modulo, refl, run, suc, sym, take}
use Rattle.place_sections.proofs.Common.{zero, ℕ, ◌∙◌, ◌∷◌, ◌≡◌, ◌≤◌}
use Rattle.ldscript.specs.statements.declared.statement.ItemCommand.TheVariants as item
use Rattle.ldmodel.specs.Rows.{Piece}
use Rattle.place_sections.proofs.Adding.{section_grows}
use Rattle.place_sections.proofs.Ending.{chained}
use Rattle.place_sections.proofs.Grows.{directive_keeps, directive_leaves, given_is}
use Rattle.place_sections.proofs.Onward.{fewer, item_on, items_on}
use Rattle.place_sections.proofs.Outputs.{free_dot_keeps}
use Rattle.place_sections.proofs.Runs.{run_rest}

record Stays (s t : Layout) : Type 0 where
  pub sections : t.sections ≡ s.sections
  pub regions : t.regions ≡ s.regions

free_dot_regions : (s : Layout) (line : ℕ) (c : DotCommand) (t : Layout) → free_dot_step s line c ≡ Ok t → t.regions
    ≡ s.regions
free_dot_regions s line (Set e) t h = let k = chained (number s line e) _ t h in
    ap (λ (u : Layout). u.regions) (sym (given_is (record s { dot = k.value }) t k.second))
free_dot_regions s line (Add e) t h = let k = chained (number s line e) _ t h in
    ap (λ (u : Layout). u.regions) (sym (given_is (record s { dot = plus_modulo s.dot k.value }) t k.second))

-- a statement of SECTIONS
command_still : (rows : List (List Piece)) (provided : List (List ℕ)) (line : ℕ) (s : Layout) (c : ItemCommand)
    (t : Layout) → item_command_step rows provided line s c ≡ Ok t → length t.sections ≡ length s.sections → Stays s t
unfolding item_command_step
command_still rows provided line s (item.Dot c) t e l =
    record { sections = free_dot_keeps s line c t e; regions = free_dot_regions s line c t e }
command_still rows provided line s (item.Directive c) t e l = record {
  sections = directive_keeps provided s line c t e;
  regions = directive_leaves (λ (u : Layout). u.regions) (λ u n x. refl) provided s line c t e;
}
command_still rows provided line s (item.Section o) t e l =
    let g = section_grows provided (next_row rows s) s line o t e in
    let a = ap length g.added ∙ length-append s.sections (g.section ∷ []) in
    absurd (omega (arith, a, l))
command_still rows provided line s (item.Discard inputs) t e l =
    let d = sym (given_is _ t e) in
    record { sections = ap (λ (u : Layout). u.sections) d; regions = ap (λ (u : Layout). u.regions) d }

still : (rows : List (List Piece)) (provided : List (List ℕ)) (xs : List Item) (s t : Layout)
    → run (item_step rows provided) s xs ≡ Ok t → length t.sections ≡ length s.sections → Stays s t
unfolding run
still rows provided [] s t e l =
    let d = sym (given_is s t e) in
    record { sections = ap (λ (u : Layout). u.sections) d; regions = ap (λ (u : Layout). u.regions) d }
still rows provided (x ∷ xs) s t e l =
    let h = chained (item_step rows provided s x) (λ u. run (item_step rows provided) u xs) t e in
    let a = fewer s h.value (item_on rows provided s x h.value h.first) in
    let b = fewer h.value t (items_on rows provided xs h.value t h.second) in
    let one = command_still rows provided x.line (noted s) x.command h.value h.first (omega (arith, a, b, l)) in
    let more = still rows provided xs h.value t h.second (omega (arith, a, b, l)) in
    record { sections = more.sections ∙ one.sections; regions = more.regions ∙ one.regions }

-- two places in a list of statements, between which no output section is placed
module _ (rows : List (List Piece)) (provided : List (List ℕ)) (items : List Item) (start : Layout) where
  onward : (j k : ℕ) (s t : Layout) → j ≤ k → run (item_step rows provided) start (take j items) ≡ Ok s
      → run (item_step rows provided) start (take k items) ≡ Ok t → length s.sections ≡ length t.sections → Stays s t
  onward j k s t le e f l =
      still rows provided (drop j (take k items)) s t
      (run_rest (item_step rows provided) (take k items) j start s t
      (ap (run (item_step rows provided) start) (take_less items j k le) ∙ e) f) (sym l)
    where
      take_less : (xs : List Item) (i m : ℕ) → i ≤ m → take i (take m xs) ≡ take i xs
      take_less xs zero m h = refl
      take_less xs (suc i) zero h = absurd (omega (arith, h))
      take_less [] (suc i) (suc m) h = refl
      take_less (x ∷ xs) (suc i) (suc m) h = ap (λ l. x ∷ l) (take_less xs i m (omega (arith, h)))

  pub still_two : (j k : ℕ) (s t : Layout) → run (item_step rows provided) start (take j items) ≡ Ok s
      → run (item_step rows provided) start (take k items) ≡ Ok t → length s.sections ≡ length t.sections
      → (s.sections ≡ t.sections) × (s.regions ≡ t.regions)
  still_two j k s t e f l = elim (cases_lt k j) [
    | inl h ↦ let a = onward k j t s (omega (arith, h)) f e (sym l) in (a.sections, a.regions)
    | inr h ↦ let a = onward j k s t (omega (arith, h)) e f l in (sym a.sections, sym a.regions)
  ]
