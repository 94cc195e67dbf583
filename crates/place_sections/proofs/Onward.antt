-- A layout goes on: output sections, symbols and values of `.` are added to it.
use Rattle.place_sections.proofs.Common.{Add, Begins, Command, Directive, DotCommand, Fault, Item, ItemCommand, Layout}
use Rattle.place_sections.proofs.Common.{Leads, List, Ok, OutputSection, PlacedOutput, Region, Result}
use Rattle.place_sections.proofs.Common.{ReusablePlacement, Set, Statement, [], ap, command_step, counts_of, data_of}
use Rattle.place_sections.proofs.Common.{directive_step, enumerate_from, flat_map, flat_map-append, free_dot_step}
use Rattle.place_sections.proofs.Common.{item_command_step, item_step, length, map, next_row, noted, number, numbered}
use Rattle.place_sections.proofs.Common.{placed_of, plus_modulo, refl, region_step, run, section_step, starts_of}
use Rattle.place_sections.proofs.Common.{statement_step, subst, sym, symbol_of, with_region, ℕ, ◌+◌, ◌∙◌, ◌∷◌, ◌≡◌, ◌≤◌}
use Rattle.ldscript.specs.statements.declared.statement.Command.TheVariants as top
use Rattle.ldscript.specs.statements.declared.statement.ItemCommand.TheVariants as item
use Rattle.ldmodel.specs.Rows.{Piece}
use Rattle.place_sections.proofs.Adding.{enumerate_more, section_grows}
use Rattle.place_sections.proofs.Beginning.{begins_flat, begins_mapped, begins_on, begins_same, fewer_begin}
use Rattle.place_sections.proofs.Ending.{chained}
use Rattle.place_sections.proofs.Grows.{directive_adds, directive_keeps, directive_leaves, given_is}
use Rattle.place_sections.specs.Boundaries.{data_in}

-- output sections, symbols and values of `.`, and more of each
pub record On (s t : Layout) : Type 0 where
  pub sections : Begins s.sections t.sections
  pub symbols : Begins s.symbols t.symbols
  pub dots : Begins s.dots t.dots

on_on : (s t u : Layout) → On s t → On t u → On s u
on_on s t u a b = record {
  sections = begins_on s.sections t.sections u.sections a.sections b.sections;
  symbols = begins_on s.symbols t.symbols u.symbols a.symbols b.symbols;
  dots = begins_on s.dots t.dots u.dots a.dots b.dots;
}

on_same : (s t : Layout) → t.sections ≡ s.sections → t.symbols ≡ s.symbols → t.dots ≡ s.dots → On s t
on_same s t a b c = record {
  sections = begins_same s.sections t.sections a;
  symbols = begins_same s.symbols t.symbols b;
  dots = begins_same s.dots t.dots c;
}

on_given : (s t : Layout) → ◌≡◌ {A = Result Layout Fault} (Ok s) (Ok t) → On s t
on_given s t e = let d = sym (given_is s t e) in
    on_same s t (ap (λ (u : Layout). u.sections) d) (ap (λ (u : Layout). u.symbols) d) (ap (λ (u : Layout). u.dots) d)

directive_on : (provided : List (List ℕ)) (s : Layout) (line : ℕ) (c : Directive) (t : Layout)
    → directive_step provided s line c ≡ Ok t → On s t
directive_on provided s line c t e = record {
  sections = begins_same s.sections t.sections (directive_keeps provided s line c t e);
  symbols = directive_adds provided s line c t e;
  dots = begins_same s.dots t.dots (directive_leaves (λ (u : Layout). u.dots) (λ u n x. refl) provided s line c t e);
}

free_dot_on : (s : Layout) (line : ℕ) (c : DotCommand) (t : Layout) → free_dot_step s line c ≡ Ok t → On s t
free_dot_on s line (Set e) t h = let k = chained (number s line e) _ t h in
    let d = sym (given_is (record s { dot = k.value }) t k.second) in
    on_same s t (ap (λ (u : Layout). u.sections) d) (ap (λ (u : Layout). u.symbols) d) (ap (λ (u : Layout). u.dots) d)
free_dot_on s line (Add e) t h = let k = chained (number s line e) _ t h in
    let d = sym (given_is (record s { dot = plus_modulo s.dot k.value }) t k.second) in
    on_same s t (ap (λ (u : Layout). u.sections) d) (ap (λ (u : Layout). u.symbols) d) (ap (λ (u : Layout). u.dots) d)

section_on : (provided : List (List ℕ)) (row : List Piece) (s : Layout) (line : ℕ) (o : OutputSection) (t : Layout)
    → section_step provided row s line o ≡ Ok t → On s t
section_on provided row s line o t e =
    let g = section_grows provided row s line o t e in
    record {
      sections = record { later = g.section ∷ []; is = g.added };
      symbols = g.symbols_are;
      dots = g.dots_are;
    }

item_command_on : (rows : List (List Piece)) (provided : List (List ℕ)) (line : ℕ) (s : Layout) (c : ItemCommand)
    (t : Layout) → item_command_step rows provided line s c ≡ Ok t → On s t
unfolding item_command_step
item_command_on rows provided line s (item.Dot c) t e = free_dot_on s line c t e
item_command_on rows provided line s (item.Directive c) t e = directive_on provided s line c t e
item_command_on rows provided line s (item.Section o) t e = section_on provided (next_row rows s) s line o t e
item_command_on rows provided line s (item.Discard inputs) t e = let d = sym (given_is _ t e) in
    on_same s t (ap (λ (u : Layout). u.sections) d) (ap (λ (u : Layout). u.symbols) d) (ap (λ (u : Layout). u.dots) d)

pub item_on : (rows : List (List Piece)) (provided : List (List ℕ)) (s : Layout) (x : Item) (t : Layout)
    → item_step rows provided s x ≡ Ok t → On s t
item_on rows provided s x t e =
    on_on s (noted s) t
    (record {
      sections = begins_same s.sections s.sections refl;
      symbols = begins_same s.symbols s.symbols refl;
      dots = record { later = s.dot ∷ []; is = refl };
    })
    (item_command_on rows provided x.line (noted s) x.command t e)

region_on : (s : Layout) (r : Region) (t : Layout) → region_step s r ≡ Ok t → On s t
unfolding region_step
region_on s r t e =
    let a = chained (number s r.line r.origin) _ t e in
    let b = chained (number s r.line r.extent) _ t a.second in
    let d = sym (given_is (with_region s r.name a.value b.value) t b.second) in
    on_same s t (ap (λ (u : Layout). u.sections) d) (ap (λ (u : Layout). u.symbols) d) (ap (λ (u : Layout). u.dots) d)

pub fewer : (s t : Layout) → On s t → length s.sections ≤ length t.sections
fewer s t o = fewer_begin s.sections t.sections o.sections

-- several steps
module _ {X : Type 0} (step : Layout → X → Result Layout Fault)
    (on : (s : Layout) (x : X) (t : Layout) → step s x ≡ Ok t → On s t) where
  run_on : (xs : List X) (s t : Layout) → run step s xs ≡ Ok t → On s t
  unfolding run
  run_on [] s t e = on_given s t e
  run_on (x ∷ xs) s t e =
      let h = chained (step s x) (λ u. run step u xs) t e in
      on_on s h.value t (on s x h.value h.first) (run_on xs h.value t h.second)

pub items_on : (rows : List (List Piece)) (provided : List (List ℕ)) (xs : List Item) (s t : Layout)
    → run (item_step rows provided) s xs ≡ Ok t → On s t
items_on rows provided = run_on (item_step rows provided) (item_on rows provided)

command_on : (rows : List (List Piece)) (provided : List (List ℕ)) (line : ℕ) (s : Layout) (c : Command) (t : Layout)
    → command_step rows provided line s c ≡ Ok t → On s t
unfolding command_step
command_on rows provided line s (top.Entry name) t e = on_given s t e
command_on rows provided line s (top.Memory regions) t e = run_on region_step region_on regions s t e
command_on rows provided line s (top.Sections xs) t e = items_on rows provided xs s t e
command_on rows provided line s (top.Directive c) t e = directive_on provided s line c t e

pub statements_on : (rows : List (List Piece)) (provided : List (List ℕ)) (xs : List Statement) (s t : Layout)
    → run (statement_step rows provided) s xs ≡ Ok t → On s t
statements_on rows provided =
    run_on (statement_step rows provided) (λ s x t e. command_on rows provided x.line s x.command t e)

-- what leads to a later layout leads to an earlier one
pub leads_before : (script : List Statement) (k : ReusablePlacement) (s t : Layout) (r q : Result Layout Fault) → On s t
    → r ≡ Ok s
    → (l : Leads script k q) → l.layout ≡ t
    → Leads script k r
leads_before script k s t r q o e l m =
    let v : On s l.layout = subst (λ u. On s u) (sym m) o in
    record {
      layout = s;
      comes = e;
      sections = begins_on (map placed_of s.sections) (map placed_of l.layout.sections) k.previous.sections.now
          (begins_mapped placed_of s.sections l.layout.sections v.sections) l.sections;
      counts = begins_on (counts_of s.sections) (counts_of l.layout.sections) k.previous.counts.now
          (begins_mapped (λ (x : PlacedOutput). length x.pieces) s.sections l.layout.sections v.sections) l.counts;
      starts = begins_on (flat_map starts_of s.sections) (flat_map starts_of l.layout.sections) k.previous.starts.now
          (begins_flat starts_of s.sections l.layout.sections v.sections) l.starts;
      data_commands = begins_on (data_in s.sections) (data_in l.layout.sections)
          (map data_of k.previous.data_commands.now)
          (begins_data s.sections l.layout.sections v.sections) l.data_commands;
      dots = begins_on s.dots l.layout.dots k.dots.now v.dots l.dots;
      symbols = begins_on s.symbols l.layout.symbols (map (symbol_of script) k.symbols.now) v.symbols l.symbols;
      found = l.found;
      rises = l.rises;
      ends = l.ends;
    }
  where
    begins_data : (xs ys : List PlacedOutput) → Begins xs ys → Begins (data_in xs) (data_in ys)
    begins_data xs ys b = record {
      later = flat_map numbered (enumerate_from (0 + length xs) b.later);
      is = ap data_in b.is
          ∙ (ap (flat_map numbered) (enumerate_more 0 xs b.later)
          ∙ flat_map-append numbered (enumerate_from 0 xs) (enumerate_from (0 + length xs) b.later));
    }
