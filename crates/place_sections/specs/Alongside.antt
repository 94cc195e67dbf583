-- A previous layout alongside the present one, whose rows are the same before a number. Other PROVIDEs may have been
-- in force in it: so it differs in symbols alone.
use Rattle.std.specs.Prelude.{◌≡◌, ℕ, ◌+◌, ◌<◌, List, [], ◌∷◌, ◌++◌, ⊤, true, false, ◌==◌, drop, length, map, Ok}
use Rattle.std.specs.Prelude.{IfSome, slice_index_or}
use Rattle.ldscript.specs.statements.Numbering.{all_directives, directives_in, items_directives}
use Rattle.ldscript.specs.statements.declared.section.BodyCommand.{BodyCommand}
use Rattle.ldscript.specs.statements.declared.section.BodyCommand.TheVariants as body
use Rattle.ldscript.specs.statements.declared.section.BodyStatement.{BodyStatement}
use Rattle.ldscript.specs.statements.declared.section.OutputSection.{OutputSection}
use Rattle.ldscript.specs.statements.declared.statement.Item.{Item}
use Rattle.ldscript.specs.statements.declared.statement.ItemCommand.{ItemCommand}
use Rattle.ldscript.specs.statements.declared.statement.ItemCommand.TheVariants as item
use Rattle.ldscript.specs.statements.declared.statement.Statement.{Statement}
use Rattle.ldmodel.specs.Placement.{Body, body_step, piece_start}
use Rattle.ldmodel.specs.Chain.{run}
use Rattle.ldmodel.specs.Layout.{Layout, PlacedPiece, PlacedOutput}
use Rattle.ldmodel.specs.PlacementView.{starts_of}
use Rattle.ldmodel.specs.Placement.{item_step, section_step, statement_step}
use Rattle.ldmodel.specs.Rows.{Piece}
use Rattle.ldmodel_laws.specs.Alike.{AreAlike, AreBodiesAlike, names_given}
use Rattle.place_terms.specs.PreviousLayout.{AreStartsOf, HasStarts, earlier_of}
use Rattle.place_terms.specs.Keyed.{KeyedSection}
use Rattle.place_terms.specs.Naming.{Naming, row_named}
use Rattle.place_terms.specs.Wholes.{starts_in}
use Rattle.place_sections.specs.PreviousPlacement.{Same}
use Rattle.place_sections.specs.Inputs.{rows_of}
use Rattle.place_sections.specs.Leads.{Leads}
use Rattle.place_sections.specs.declared.script.Input.{Input}
use Rattle.place_sections.specs.declared.state.CurrentOutput.{CurrentOutput}
use Rattle.place_sections.specs.declared.state.LayoutCursor.{LayoutCursor}

-- the entries of an input statement, with which a row begins, start at these, where `.` is at a number
abbrev pub StartAt : ℕ → ℕ → List Piece → List ℕ → Type 0
StartAt statement dot [] starts = ⊤
StartAt statement dot (p ∷ rest) [] = (p.statement == statement) ≡ false
StartAt statement dot (p ∷ rest) (x ∷ starts) =
    (p.statement == statement) ≡ true → (x ≡ piece_start dot p) × StartAt statement (x + p.size) rest starts

-- the entries of the next input statement start where they did, if it is known where that is
abbrev pub StartsThere : Naming → LayoutCursor → CurrentOutput → Type 0
StartsThere n h f =
    IfSome f.starts (λ s.
    StartAt h.inputs h.dot (row_named n (drop (length h.pieces.items) f.row.now)) (drop (length h.pieces.items) s.now))

abbrev pub IfInput : BodyCommand → Type 0 → Type 0
IfInput (body.Input i) fact = fact
IfInput (body.Dot c) fact = ⊤
IfInput (body.Directive c) fact = ⊤
IfInput (body.Data w e) fact = ⊤

-- an earlier body, which differs in symbols alone, goes on with these statements to its end, where its input sections
-- have these starts
pub record BodyAlongside (starts : List ℕ) (b : Body) (xs : List BodyStatement) : Type 0 where
  pub provided : List (List ℕ)
  pub names : List (List ℕ)
  pub body : Body
  pub alike : AreBodiesAlike (names_given (directives_in xs) ++ names) body b
  pub last : Body
  pub comes : run (body_step provided) body xs ≡ Ok last
  pub starts_are : map (λ (placed : PlacedPiece). placed.start) last.pieces ≡ starts

-- a previous layout, which differs in symbols alone, goes on with this output section, whose input sections have these
-- starts
pub record SectionAlongside (row : List Piece) (layout : Layout) (line : ℕ) (o : OutputSection) (starts : List ℕ)
    : Type 0 where
  pub provided : List (List ℕ)
  pub names : List (List ℕ)
  pub state : Layout
  pub alike : AreAlike (names_given (directives_in o.body) ++ names) state layout
  pub after : Layout
  pub comes : section_step provided row state line o ≡ Ok after
  pub section : PlacedOutput
  pub added : after.sections ≡ state.sections ++ section ∷ []
  pub starts_are : starts_of section ≡ starts

-- where an output section is the next statement, and its row is as it was, a previous layout goes on with it
abbrev pub IsAlongside : Naming → Input → Layout → List KeyedSection → ℕ → ItemCommand → Type 0
IsAlongside n i layout sections line (item.Section o) =
    (starts : List ℕ) → i.kept.same_provided ≡ false → length sections < i.kept.first
    → AreStartsOf i.kept.previous (length sections) (length (starts_in sections)) starts
    → SectionAlongside (slice_index_or (rows_of n i) (length sections) []) layout line o starts
IsAlongside n i layout sections line (item.Dot c) = ⊤
IsAlongside n i layout sections line (item.Directive c) = ⊤
IsAlongside n i layout sections line (item.Discard inputs) = ⊤

-- a fact, where a statement is an output section
abbrev pub IfSection : ItemCommand → Type 0 → Type 0
IfSection (item.Section o) fact = fact
IfSection (item.Dot c) fact = ⊤
IfSection (item.Directive c) fact = ⊤
IfSection (item.Discard inputs) fact = ⊤

-- where the row of the next output section is as it was, other PROVIDEs were in force, and the previous layout has it
abbrev pub HasKept : Input → List KeyedSection → Type 0
HasKept i sections =
    length sections < i.kept.first
    → (i.kept.same_provided ≡ false)
    × HasStarts (earlier_of i.kept.previous) (length sections) (length (starts_in sections))

-- a previous layout, which differs in symbols alone, goes on with these statements of SECTIONS to one with which the
-- kept one begins
pub record ItemsAlongside (n : Naming) (i : Input) (script : List Statement) (layout : Layout) (xs : List Item)
    : Type 0 where
  pub rows : List (List Piece)
  pub same : Same i.kept.first rows (rows_of n i)
  pub provided : List (List ℕ)
  pub names : List (List ℕ)
  pub state : Layout
  pub alike : AreAlike (names_given (items_directives xs) ++ names) state layout
  pub leads : Leads script i.kept (run (item_step rows provided) state xs)

-- the same of all statements of a script
pub record ScriptAlongside (n : Naming) (i : Input) (script : List Statement) (layout : Layout)
    (statements : List Statement)
    : Type 0 where
  pub rows : List (List Piece)
  pub same : Same i.kept.first rows (rows_of n i)
  pub provided : List (List ℕ)
  pub state : Layout
  pub alike : AreAlike (names_given (all_directives statements)) state layout
  pub leads : Leads script i.kept (run (statement_step rows provided) state statements)
