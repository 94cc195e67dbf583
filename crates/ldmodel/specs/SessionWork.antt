-- How much an incremental link may do, by count (this project's own), where neither the link before an edit nor the one
-- after it has faults: the row of each count is in `IsWork`.
use Rattle.std.specs.Prelude.{◌≡◌, ℕ, suc, ◌+◌, ◌-◌, ◌≤◌, ◌==◌, Bool, true, false, ◌&&◌, if◌then◌else◌, bytes_eq}
use Rattle.std.specs.Prelude.{List, [], ◌∷◌, ◌++◌, flat_map, length, drop, Option, Ok, option_to_list}
use Rattle.std.specs.Option.{option_map_or}
use Rattle.elfobj.specs.declared.section.SectionKind.{SectionKind}
use Rattle.elfobj.specs.declared.section.SectionKind.TheVariants.{Progbits, Nobits, Note, InitArray, FiniArray}
use Rattle.elfobj.specs.declared.section.SectionKind.TheVariants.{PreinitArray, Unwind}
use Rattle.elfobj.specs.Counts.{Counts}
use Rattle.ldscript.specs.terms.Expressions.{Expr, Number, Dot, Name, Unary, Binary, Choice, OfRegion, OfSection}
use Rattle.ldscript.specs.terms.Expressions.{AlignDot}
use Rattle.ldscript.specs.terms.Expressions.{Align}
use Rattle.ldscript.specs.statements.Numbering.{AssertionAt, asserts}
use Rattle.ldscript.specs.statements.declared.statement.Statement.{Statement}
use Rattle.ldmodel.specs.Edits.{Change, Add, Replace, Move, Remove, SetScript}
use Rattle.ldmodel.specs.Image.{object_named}
use Rattle.ldmodel.specs.Layout.{Layout}
use Rattle.ldmodel.specs.Link.{layout, link}
use Rattle.ldmodel.specs.Names.{distinct, entry_symbol, names_in_objects}
use Rattle.ldmodel.specs.Project.{NamedObject, Project}
use Rattle.ldmodel.specs.Rows.{Piece, rows}
use Rattle.ldmodel.specs.ScriptNames.{assigned_names, provided_names}
use Rattle.ldmodel.specs.SectionHeaders.{image_length}
use Rattle.ldmodel.specs.Sections.{is_same_part}
use Rattle.ldmodel.specs.Stayed.{GoodLink, retargeted}
use Rattle.ldmodel.specs.WorkBound.{bytes_stayed, retargeted_bytes, sites_outside}

-- an object is read where one is added or takes another's place
abbrev pub objects_read : Change → ℕ
objects_read (Add name at bytes) = 1
objects_read (Replace name bytes) = 1
objects_read _ = 0

-- the names that the object of a name declares; none where there is no such object
abbrev pub names_of : Project → List ℕ → List (List ℕ)
names_of project object =
    option_map_or (λ (object : NamedObject). names_in_objects (object ∷ [])) (object_named project object) []

-- the symbols that an expression names
abbrev pub symbols_named : Expr → List (List ℕ)
symbols_named (Number value) = []
symbols_named Dot = []
symbols_named (Name name) = name ∷ []
symbols_named (Unary operator a) = symbols_named a
symbols_named (Binary operator a b) = symbols_named a ++ symbols_named b
symbols_named (Choice test a b) = symbols_named test ++ symbols_named a ++ symbols_named b
symbols_named (OfRegion query name) = []
symbols_named (OfSection query name) = []
symbols_named (AlignDot a) = symbols_named a
symbols_named (Align a b) = symbols_named a ++ symbols_named b

abbrev pub asserted_names : List Statement → List (List ℕ)
asserted_names script = flat_map (λ (entry : AssertionAt). symbols_named entry.assertion.condition) (asserts script)

-- the names that a script assigns, provides or names in an ASSERT, and the entry symbol
abbrev pub names_by_script : Project → List (List ℕ)
names_by_script project =
    assigned_names project.script ++ provided_names project.script ++ asserted_names project.script
    ++ option_to_list (entry_symbol project)

-- the names that an edit touches: those that the object declares before it and after it; for a script those of all
-- objects and of both scripts
abbrev pub named_by : Project → Change → Project → List (List ℕ)
named_by project (Add name at bytes) next = names_of project name ++ names_of next name
named_by project (Replace name bytes) next = names_of project name ++ names_of next name
named_by project (Move name to) next = names_of project name ++ names_of next name
named_by project (Remove name) next = names_of project name ++ names_of next name
named_by project (SetScript text) next =
    names_in_objects project.objects ++ names_by_script project ++ names_by_script next

-- each of them once
unfoldable pub touched_names : Project → Change → Project → List (List ℕ)
touched_names project change next = distinct (named_by project change next)

-- the entries of rows from a row on
abbrev pub entries_from : ℕ → List (List Piece) → ℕ
entries_from k rows = length (flat_map (λ (row : List Piece). row) (drop k rows))

-- a number for each kind of section, so that kinds can be compared
abbrev pub kind_place : SectionKind → ℕ
kind_place Progbits = 0
kind_place Nobits = 1
kind_place Note = 2
kind_place InitArray = 3
kind_place FiniArray = 4
kind_place PreinitArray = 5
kind_place Unwind = 6

-- two entries of rows are the same
abbrev pub same_entry : Piece → Piece → Bool
same_entry one other =
    (one.statement == other.statement) && bytes_eq one.object other.object && is_same_part one.part other.part
    && bytes_eq one.name other.name
    && (kind_place one.kind == kind_place other.kind) && (one.flags == other.flags) && (one.size == other.size)
    && (one.alignment == other.alignment)

abbrev pub same_row : List Piece → List Piece → Bool
same_row [] [] = true
same_row [] (y ∷ ys) = false
same_row (x ∷ xs) [] = false
same_row (x ∷ xs) (y ∷ ys) = same_entry x y && same_row xs ys

-- the number of the first row that differs; where none does, the number past the last row that both have
abbrev pub first_changed : (old_rows new_rows : List (List Piece)) → ℕ
first_changed [] new_rows = 0
first_changed (x ∷ xs) [] = 0
first_changed (x ∷ xs) (y ∷ ys) = if same_row x y then suc (first_changed xs ys) else 0

-- the entries of the new rows from the first one on that differs; for a script those of all rows
abbrev pub entries_to_place : Change → (old_rows new_rows : List (List Piece)) → ℕ
entries_to_place (SetScript text) old_rows new_rows = entries_from 0 new_rows
entries_to_place _ old_rows new_rows = entries_from (first_changed old_rows new_rows) new_rows

-- the relocations outside of input sections that stayed, and those in them whose symbol has another value
abbrev pub sites_to_evaluate : GoodLink → GoodLink → ℕ
sites_to_evaluate old new = length (sites_outside old new) + length (retargeted old new)

-- the bytes of the image outside of input sections that stayed, which are no more than the image has, and the fields in
-- them of symbols of another value
abbrev pub bytes_to_write : GoodLink → GoodLink → ℕ
bytes_to_write old new = (image_length new.project new.layout - bytes_stayed old new) + retargeted_bytes old new

-- a count rose, by no more than this
pub record Rises (before after most : ℕ) : Type 0 where
  pub onward : before ≤ after
  pub within : after ≤ before + most

-- what the counts may rise by between two links without faults
pub record IsWork (old : GoodLink) (change : Change) (new : GoodLink) (before after : Counts) : Type 0 where
  pub objects : Rises before.objects after.objects (objects_read change)
  pub names : Rises before.names after.names (length (touched_names old.project change new.project))
  pub pieces : Rises before.pieces after.pieces (entries_to_place change (rows old.project) (rows new.project))
  pub relocations : Rises before.fields after.fields (sites_to_evaluate old new)
  pub bytes : Rises before.bytes after.bytes (bytes_to_write old new)

-- the bound of an incremental linker: where either link has faults, it says nothing
abbrev pub IsSessionWork : Project → Change → Project → Counts → Counts → Type 0
IsSessionWork project change next before after =
    (old new : Layout) → (link project).status ≡ 0 → (link next).status ≡ 0 → layout project ≡ Ok old
    → layout next ≡ Ok new
    → IsWork (record { project = project; layout = old }) change (record { project = next; layout = new }) before after
