-- A script before its SECTIONS, in it and after it. It has at most one.
use Rattle.std.specs.Prelude.{List, [], ◌∷◌, ⊤}
use Rattle.std.specs.List.{All}
use Rattle.ldscript.specs.statements.declared.statement.Command.{Command}
use Rattle.ldscript.specs.statements.declared.statement.Command.TheVariants as top
use Rattle.ldscript.specs.statements.declared.statement.Item.{Item}
use Rattle.ldscript.specs.statements.declared.statement.Statement.{Statement}

-- what is found of a SECTIONS, or something else for another command
abbrev pub if_sections : {X : Type 0} → Command → (List Item → X) → X → X
if_sections (top.Sections items) found other = found items
if_sections (top.Entry name) found other = other
if_sections (top.Memory regions) found other = other
if_sections (top.Directive c) found other = other

-- a command that is not SECTIONS
abbrev pub IsOutside : Command → Type 0
IsOutside (top.Sections items) = ⊥
IsOutside (top.Entry name) = ⊤
IsOutside (top.Memory regions) = ⊤
IsOutside (top.Directive c) = ⊤

-- none of these is SECTIONS
abbrev pub AreOutside : List Statement → Type 0
AreOutside statements = All (λ (x : Statement). IsOutside x.command) statements

abbrev pub before_sections : List Statement → List Statement
before_sections [] = []
before_sections (x ∷ xs) = if_sections x.command (λ items. []) (x ∷ before_sections xs)

abbrev pub items_within : List Statement → List Item
items_within [] = []
items_within (x ∷ xs) = if_sections x.command (λ items. items) (items_within xs)

abbrev pub after_sections : List Statement → List Statement
after_sections [] = []
after_sections (x ∷ xs) = if_sections x.command (λ items. xs) (after_sections xs)
