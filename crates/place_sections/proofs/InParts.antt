-- The layout of a script, before its SECTIONS, in it and after it.
use Rattle.place_sections.proofs.Common.{Command, Err, Fault, Item, Layout, List, Ok, Result, Statement, []}
use Rattle.place_sections.proofs.Common.{after_sections, and_then, ap, before_sections, command_step, if_sections}
use Rattle.place_sections.proofs.Common.{item_step, items_within, refl, run, statement_step, ℕ, ◌∙◌, ◌∷◌, ◌≡◌}
use Rattle.ldscript.specs.statements.declared.statement.Command.TheVariants as top
use Rattle.ldmodel.specs.Rows.{Piece}

and_then_on : (r : Result Layout Fault) (f g : Layout → Result Layout Fault) → and_then (and_then r f) g
    ≡ and_then r (λ s. and_then (f s) g)
and_then_on (Ok s) f g = refl
and_then_on (Err e) f g = refl

module _ (rows : List (List Piece)) (provided : List (List ℕ)) where
  abbrev pub whole : Layout → List Statement → List Item → List Statement → Result Layout Fault
  whole s before items after =
      and_then (run (statement_step rows provided) s before) (λ t.
      and_then (run (item_step rows provided) t items) (λ u.
      run (statement_step rows provided) u after))

  -- a statement outside SECTIONS
  outside : (x : Statement) (xs : List Statement) (s : Layout)
      → ((t : Layout) → run (statement_step rows provided) t xs
      ≡ whole t (before_sections xs) (items_within xs) (after_sections xs))
      → run (statement_step rows provided) s (x ∷ xs)
      ≡ whole s (x ∷ before_sections xs) (items_within xs) (after_sections xs)
  unfolding run
  outside x xs s later = go (statement_step rows provided s x)
    where
      go : (r : Result Layout Fault) → and_then r (λ t. run (statement_step rows provided) t xs)
          ≡ and_then (and_then r (λ t. run (statement_step rows provided) t (before_sections xs))) (λ t.
          and_then (run (item_step rows provided) t (items_within xs)) (λ u.
          run (statement_step rows provided) u (after_sections xs)))
      go (Ok t) = later t
      go (Err f) = refl

  -- SECTIONS
  inside : (line : ℕ) (items : List Item) (xs : List Statement) (s : Layout)
      → run (statement_step rows provided) s (record { line = line; command = top.Sections items } ∷ xs)
      ≡ whole s [] items xs
  unfolding run command_step
  inside line items xs s = refl

  none : (s : Layout) → run (statement_step rows provided) s [] ≡ whole s [] [] []
  unfolding run
  none s = refl

  first_in_parts : (line : ℕ) (c : Command) (xs : List Statement) (s : Layout)
      → ((t : Layout) → run (statement_step rows provided) t xs
      ≡ whole t (before_sections xs) (items_within xs) (after_sections xs))
      → run (statement_step rows provided) s (record { line = line; command = c } ∷ xs)
      ≡ whole s (if_sections c (λ items. []) (record { line = line; command = c } ∷ before_sections xs))
      (if_sections c (λ items. items) (items_within xs)) (if_sections c (λ items. xs) (after_sections xs))
  first_in_parts line (top.Sections items) xs s later = inside line items xs s
  first_in_parts line (top.Entry name) xs s later =
      outside (record { line = line; command = top.Entry name }) xs s later
  first_in_parts line (top.Memory regions) xs s later =
      outside (record { line = line; command = top.Memory regions }) xs s later
  first_in_parts line (top.Directive c) xs s later = outside (record { line = line; command = top.Directive c }) xs s
      later

  pub in_parts : (script : List Statement) (s : Layout) → run (statement_step rows provided) s script
      ≡ whole s (before_sections script) (items_within script) (after_sections script)
  in_parts [] s = none s
  in_parts (x ∷ xs) s = first_in_parts x.line x.command xs s (in_parts xs)

-- no row counts before SECTIONS
module _ (rows earlier : List (List Piece)) (provided : List (List ℕ)) where
  first_same : (x : Statement) (xs : List Statement) (s : Layout)
      → statement_step rows provided s x ≡ statement_step earlier provided s x
      → ((t : Layout) → run (statement_step rows provided) t xs ≡ run (statement_step earlier provided) t xs)
      → run (statement_step rows provided) s (x ∷ xs) ≡ run (statement_step earlier provided) s (x ∷ xs)
  unfolding run
  first_same x xs s same later = go (statement_step rows provided s x) (statement_step earlier provided s x) same
    where
      go : (r q : Result Layout Fault) → r ≡ q → and_then r (λ t. run (statement_step rows provided) t xs)
          ≡ and_then q (λ t. run (statement_step earlier provided) t xs)
      go (Ok t) q e = later t ∙ ap (λ z. and_then z (λ u. run (statement_step earlier provided) u xs)) e
      go (Err f) q e = ap (λ z. and_then z (λ u. run (statement_step earlier provided) u xs)) e

  nothing_same : (s : Layout) → run (statement_step rows provided) s [] ≡ run (statement_step earlier provided) s []
  unfolding run
  nothing_same s = refl

  command_same : (line : ℕ) (c : Command) (xs : List Statement) (s : Layout)
      → ((t : Layout) → run (statement_step rows provided) t xs ≡ run (statement_step earlier provided) t xs)
      → run (statement_step rows provided) s (if_sections c (λ items. []) (record { line = line; command = c } ∷ xs))
      ≡ run (statement_step earlier provided) s (if_sections c (λ items. []) (record { line = line; command = c } ∷ xs))
  unfolding command_step
  command_same line (top.Sections items) xs s later = nothing_same s
  command_same line (top.Entry name) xs s later =
      first_same (record { line = line; command = top.Entry name }) xs s refl later
  command_same line (top.Memory regions) xs s later =
      first_same (record { line = line; command = top.Memory regions }) xs s refl later
  command_same line (top.Directive c) xs s later =
      first_same (record { line = line; command = top.Directive c }) xs s refl later

  pub before_same : (script : List Statement) (s : Layout)
      → run (statement_step rows provided) s (before_sections script)
      ≡ run (statement_step earlier provided) s (before_sections script)
  before_same [] s = nothing_same s
  before_same (x ∷ xs) s = command_same x.line x.command (before_sections xs) s (before_same xs)
