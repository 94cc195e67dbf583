-- Layouts of one script that differ in symbols alone, as they do where other PROVIDEs are in force.
use Rattle.std.specs.Prelude.{◌≡◌, ℕ, ◌+◌, ◌<◌, ◌≤◌, List, [], ◌∷◌, ◌++◌, ⊤, length, slice_index_or, Option, Some, None}
use Rattle.std.specs.Prelude.{Ok, false, bytes_eq}
use Rattle.std.specs.List.{list_any}
use Rattle.std.specs.Option.{option_map}
use Rattle.ldscript.specs.statements.Numbering.{
  DirectiveAt,
  all_directives,
  directives_of,
  item_directives,
  items_directives,
}
use Rattle.ldscript.specs.statements.declared.directive.Directive.{Directive}
use Rattle.ldscript.specs.statements.declared.directive.Directive.TheVariants as directive
use Rattle.ldscript.specs.statements.declared.section.BodyStatement.{BodyStatement}
use Rattle.ldscript.specs.statements.declared.section.OutputSection.{OutputSection}
use Rattle.ldscript.specs.statements.declared.statement.Command.TheVariants as top
use Rattle.ldscript.specs.statements.declared.statement.Item.{Item}
use Rattle.ldscript.specs.statements.declared.statement.Statement.{Statement}
use Rattle.ldmodel.specs.Placement.{Body, body_step}
use Rattle.ldmodel.specs.Chain.{run}
use Rattle.ldmodel.specs.Layout.{Layout, ScriptSymbol, nothing_placed, symbol_named}
use Rattle.ldmodel.specs.Placement.{item_step, statement_step}
use Rattle.ldmodel.specs.Rows.{Piece}
use Rattle.ldmodel.specs.Placement.{Head, head_of}

-- the name that a command gives a value, if it gives one
abbrev pub given_names : Directive → List (List ℕ)
given_names (directive.Assign a) = a.name ∷ []
given_names (directive.Provide a) = a.name ∷ []
given_names (directive.Assert a) = []

-- the names that commands give values
abbrev pub names_given : List DirectiveAt → List (List ℕ)
names_given [] = []
names_given (c ∷ cs) = given_names c.command ++ names_given cs

-- the value that symbols give a name
abbrev pub value_in : List ScriptSymbol → List ℕ → Option ℕ
value_in symbols name = option_map (λ (symbol : ScriptSymbol). symbol.value) (symbol_named symbols name)

-- names that differ, and that neither of two lists of symbols has
abbrev pub AreNew : List (List ℕ) → List ScriptSymbol → List ScriptSymbol → Type 0
AreNew [] xs ys = ⊤
AreNew (n ∷ ns) xs ys =
    (symbol_named xs n ≡ None) × (symbol_named ys n ≡ None) × (list_any (bytes_eq n) ns ≡ false) × AreNew ns xs ys

-- symbols that are in both lists have the same values, and the names to come are in neither
pub record AreSymbolsAlike (names : List (List ℕ)) (xs ys : List ScriptSymbol) : Type 0 where
  pub values : (name : List ℕ) (x y : ℕ) → value_in xs name ≡ Some x → value_in ys name ≡ Some y → x ≡ y
  pub new : AreNew names xs ys

-- two layouts, after which these names are given values, differ in symbols alone
pub record AreAlike (names : List (List ℕ)) (layout t : Layout) : Type 0 where
  pub same : t ≡ record layout { symbols = t.symbols }
  pub symbols : AreSymbolsAlike names layout.symbols t.symbols

abbrev pub with_symbols : Body → List ScriptSymbol → Body
with_symbols body symbols = record body { layout = record body.layout { symbols = symbols } }

-- so do two bodies
pub record AreBodiesAlike (names : List (List ℕ)) (body c : Body) : Type 0 where
  pub same : c ≡ with_symbols body c.layout.symbols
  pub symbols : AreSymbolsAlike names body.layout.symbols c.layout.symbols

-- rows are the same before a number
abbrev pub AreSameBefore : ℕ → List (List Piece) → List (List Piece) → Type 0
AreSameBefore first earlier rows = (k : ℕ) → k < first → slice_index_or earlier k [] ≡ slice_index_or rows k []

-- the head of an output section is the same
abbrev pub HeadsAgree : Type 0
HeadsAgree = (names : List (List ℕ)) (row : List Piece) (layout t : Layout) (line : ℕ) (o : OutputSection) (h g : Head)
    → AreAlike names layout t → head_of layout row line o ≡ Ok h → head_of t row line o ≡ Ok g → h ≡ g

-- a statement of a body leads to bodies that are alike
abbrev pub BodiesStayAlike : Type 0
BodiesStayAlike = (earlier provided names : List (List ℕ)) (x : BodyStatement) (body c d e : Body)
    → AreBodiesAlike (names_given (directives_of x.line x.command) ++ names) body c
    → body_step earlier body x ≡ Ok d → body_step provided c x ≡ Ok e → AreBodiesAlike names d e

-- a statement of SECTIONS leads to layouts that are alike, as long as the rows of their output sections are the same
abbrev pub ItemsStayAlike : Type 0
ItemsStayAlike = (first : ℕ) (old rows : List (List Piece)) (earlier provided names : List (List ℕ)) (x : Item)
    (layout t u v : Layout) → AreSameBefore first old rows
    → AreAlike (names_given (item_directives x.line x.command) ++ names) layout t
    → item_step old earlier layout x ≡ Ok u → item_step rows provided t x ≡ Ok v → length v.sections ≤ first
    → AreAlike names u v

-- so do the statements of a script
abbrev pub StatementsStayAlike : Type 0
StatementsStayAlike = (first : ℕ) (old rows : List (List Piece)) (earlier provided names : List (List ℕ))
    (xs : List Statement) (layout t u v : Layout) → AreSameBefore first old rows
    → AreAlike (names_given (all_directives xs) ++ names) layout t
    → run (statement_step old earlier) layout xs ≡ Ok u → run (statement_step rows provided) t xs ≡ Ok v
    → length v.sections ≤ first → AreAlike names u v

-- statements of a script up to one of SECTIONS, and those from there on
pub record IsPartedAt (script before : List Statement) (items : List Item) : Type 0 where
  pub line : ℕ
  pub more : List Item
  pub after : List Statement
  pub parts : script ≡ before ++ record { line = line; command = top.Sections (items ++ more) } ∷ after

-- they lead to a layout
pub record LeadTo (rows : List (List Piece)) (provided : List (List ℕ)) (before : List Statement) (items : List Item)
    (t : Layout) : Type 0 where
  pub state : Layout
  pub first : run (statement_step rows provided) nothing_placed before ≡ Ok state
  pub goes : run (item_step rows provided) state items ≡ Ok t
