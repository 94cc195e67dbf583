-- What the values that layers hand one another stand for. A layer knows an object by its key; `number` says which place
-- in the project the object of a key has (this project's own).
use Rattle.std.specs.Prelude.{ℕ, List}
use Rattle.ldmodel.specs.Names.{Entry, Decision, Strong, Script, Common, Weak, Provided, Undefined, Duplicate}
use Rattle.ldmodel.specs.Rows.{Piece}
use Rattle.ldmodel.specs.Sections.{SectionId}
use Rattle.ldmodel.specs.declared.names.Case.{Case}
use Rattle.ldmodel.specs.declared.names.Case.TheVariants as case
use Rattle.ldmodel.specs.declared.names.Entry as names
use Rattle.ldmodel.specs.declared.names.ObjectKey.{ObjectKey}
use Rattle.ldmodel.specs.declared.names.ObjectPlace.{ObjectPlace}
use Rattle.ldmodel.specs.declared.rows.Piece as rows
use Rattle.ldmodel.specs.declared.sections.SectionRef.{SectionRef}

-- an entry, where `number` says which place in the project an object has
abbrev pub entry_by : {O : Type 0} → (number : O → ℕ) → names.Entry O → Entry
entry_by number e = record { object = number e.object; symbol = e.symbol.0 }

abbrev pub decision_by : {O : Type 0} → (number : O → ℕ) → Case O → Decision
decision_by number (case.Strong e) = Strong (entry_by number e)
decision_by number case.Script = Script
decision_by number (case.Common owner size align) = Common (entry_by number owner) size align
decision_by number (case.Weak e) = Weak (entry_by number e)
decision_by number case.Provided = Provided
decision_by number case.Undefined = Undefined
decision_by number case.Duplicate = Duplicate

abbrev pub entry_of : (number : ℕ → ℕ) → names.Entry ObjectPlace → Entry
entry_of number e = entry_by (λ (object : ObjectPlace). number object.0) e

abbrev pub decision_of : (number : ℕ → ℕ) → Case ObjectPlace → Decision
decision_of number c = decision_by (λ (object : ObjectPlace). number object.0) c

-- a case under keys, which stand for themselves
abbrev pub decision_under_keys : Case ObjectKey → Decision
decision_under_keys c = decision_by (λ (object : ObjectKey). object.0) c

abbrev pub section_id : (number : ℕ → ℕ) → SectionRef → SectionId
section_id number k = record { object = number k.object.0; part = k.part }

-- an entry of a row, where objects and sections have these names
abbrev pub piece_of : (object : ℕ → List ℕ) → (section : SectionRef → List ℕ) → rows.Piece → Piece
piece_of object section x = record {
  statement = x.statement.0;
  object = object x.section.object.0;
  part = x.section.part;
  name = section x.section;
  kind = x.kind;
  flags = x.flags;
  size = x.size;
  alignment = x.alignment;
}
