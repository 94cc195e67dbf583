-- What the layout of a script is, and its first fault, as equations between neighbours: statement by statement of the
-- script, of SECTIONS, and of the body of an output section, and entry by entry of an input statement. Each begins
-- where the one before it ended, and a fault comes at the first of them that has one (this project's own).
use Rattle.std.specs.Prelude.{◌≡◌, ℕ, ◌+◌, ◌%◌, ◌^◌, ◌<◌, ◌≤◌, List, [], ◌∷◌, ◌++◌, Ok, Err, ◌==◌, true, false}
use Rattle.ldscript.specs.statements.declared.section.BodyCommand.{BodyCommand}
use Rattle.ldscript.specs.statements.declared.section.BodyCommand.TheVariants as body
use Rattle.ldscript.specs.statements.declared.section.BodyStatement.{BodyStatement}
use Rattle.ldscript.specs.statements.declared.section.OutputSection.{OutputSection}
use Rattle.ldscript.specs.statements.declared.statement.Command.{Command}
use Rattle.ldscript.specs.statements.declared.statement.Command.TheVariants as top
use Rattle.ldscript.specs.statements.declared.statement.Item.{Item}
use Rattle.ldscript.specs.statements.declared.statement.ItemCommand.{ItemCommand}
use Rattle.ldscript.specs.statements.declared.statement.ItemCommand.TheVariants as item
use Rattle.ldscript.specs.statements.declared.statement.Region.{Region}
use Rattle.ldscript.specs.statements.declared.statement.Statement.{Statement}
use Rattle.ldmodel.specs.Placement.{Body, body_command_step, with_dot}
use Rattle.ldmodel.specs.Fault.{Fault, PastAddressSpace}
use Rattle.ldmodel.specs.Layout.{Layout, noted, nothing_placed}
use Rattle.ldmodel.specs.Placement.{command_step, item_command_step, next_row, opened, region_step}
use Rattle.ldmodel.specs.Rows.{Piece, piece_alignment}
use Rattle.ldmodel.specs.Placement.{section_end, Head, head_of}

-- statements lead from one state to another, where `To s x t` says that x leads from s to t
pub data Leads {S X : Type 0} (To : S → X → S → Type 0) : S → List X → S → Type 0 where
  ended : {s : S} → Leads To s [] s
  next : {s t u : S} {x : X} {xs : List X} → To s x t → Leads To t xs u → Leads To s (x ∷ xs) u

-- statements lead from a state to one of them that has a fault, where `At s x f` says that x has the fault f in s
pub data Fails {S X : Type 0} (To : S → X → S → Type 0) (At : S → X → Fault → Type 0)
    : S → List X → Fault → Type 0 where
  here : {s : S} {x : X} {xs : List X} {fault : Fault} → At s x fault → Fails To At s (x ∷ xs) fault
  later : {s t : S} {x : X} {xs : List X} {fault : Fault} → To s x t → Fails To At t xs fault
      → Fails To At s (x ∷ xs) fault

-- the least multiple of a number not below another
pub record IsLeastMultiple (of from x : ℕ) : Type 0 where
  pub above : from ≤ x
  pub multiple : x % of ≡ 0
  pub least : (n : ℕ) → from ≤ n → n % of ≡ 0 → x ≤ n

-- an entry stands at an address, `.` is at its end, and the other entries of the row are left
abbrev pub with_piece : Body → Piece → List Piece → ℕ → Body
with_piece body p rest start =
    record (with_dot body (start + p.size)) {
      rest = rest;
      pieces = body.pieces ++ record { start = start; piece = p }
          ∷ [];
    }

-- an entry starts at the least multiple of its alignment not below `.`, and ends below 2^64
pub record PieceTo (body : Body) (p : Piece) (rest : List Piece) (c : Body) : Type 0 where
  pub start : ℕ
  pub aligned : IsLeastMultiple (piece_alignment p) body.layout.dot start
  pub fits : start + p.size < 2 ^ 64
  pub after : with_piece body p rest start ≡ c

-- it would end at 2^64 or past it
pub record PieceAt (line : ℕ) (body : Body) (p : Piece) (f : Fault) : Type 0 where
  pub start : ℕ
  pub aligned : IsLeastMultiple (piece_alignment p) body.layout.dot start
  pub past : 2 ^ 64 ≤ start + p.size
  pub fault : PastAddressSpace line ≡ f

-- the entries of input statement number n, with which a row begins, take their places one after the other
pub data Pieces (line n : ℕ) : Body → List Piece → Body → Type 0 where
  none : {body : Body} → Pieces line n body [] body
  other : {body : Body} {p : Piece} {rest : List Piece} → (p.statement == n) ≡ false
      → Pieces line n body (p ∷ rest) body
  one_more : {body c d : Body} {p : Piece} {rest : List Piece} → (p.statement == n) ≡ true
      → PieceTo body p rest c → Pieces line n c rest d → Pieces line n body (p ∷ rest) d

-- one of these entries has a fault
pub data PieceFails (line n : ℕ) : Body → List Piece → Fault → Type 0 where
  first : {body : Body} {p : Piece} {rest : List Piece} {fault : Fault} → (p.statement == n) ≡ true
      → PieceAt line body p fault → PieceFails line n body (p ∷ rest) fault
  after_one : {body c : Body} {p : Piece} {rest : List Piece} {fault : Fault} → (p.statement == n) ≡ true
      → PieceTo body p rest c → PieceFails line n c rest fault → PieceFails line n body (p ∷ rest) fault

-- the next input statement has the next number
abbrev pub past_inputs : Body → Body → Body
past_inputs body c = record c { layout = record c.layout { inputs = body.layout.inputs + 1 } }

pub record InputsTo (line : ℕ) (body t : Body) : Type 0 where
  pub last : Body
  pub pieces : Pieces line body.layout.inputs body body.rest last
  pub after : past_inputs body last ≡ t

-- a statement of a body
abbrev pub BodyCommandTo : List (List ℕ) → ℕ → Body → BodyCommand → Body → Type 0
BodyCommandTo provided line b (body.Input i) t = InputsTo line b t
BodyCommandTo provided line body c t = body_command_step provided line body c ≡ Ok t

abbrev pub BodyCommandAt : List (List ℕ) → ℕ → Body → BodyCommand → Fault → Type 0
BodyCommandAt provided line b (body.Input i) fault = PieceFails line b.layout.inputs b b.rest fault
BodyCommandAt provided line body c fault = body_command_step provided line body c ≡ Err fault

abbrev pub BodyTo : List (List ℕ) → Body → BodyStatement → Body → Type 0
BodyTo provided body s t = BodyCommandTo provided s.line (record body { layout = noted body.layout }) s.command t

abbrev pub BodyAt : List (List ℕ) → Body → BodyStatement → Fault → Type 0
BodyAt provided body s fault =
    BodyCommandAt provided s.line (record body { layout = noted body.layout }) s.command fault

-- an output section: its head, the statements of its body, and its end
pub record SectionTo (provided : List (List ℕ)) (row : List Piece) (layout : Layout) (line : ℕ) (o : OutputSection)
    (t : Layout) : Type 0 where
  pub head : Head
  pub last : Body
  pub begun : head_of layout row line o ≡ Ok head
  pub body : Leads (BodyTo provided) (opened layout row head) o.body last
  pub ended : section_end line o head last ≡ Ok t

-- it has a fault in its head, in a statement of its body, or at its end
pub data SectionAt (provided : List (List ℕ)) (row : List Piece) (layout : Layout) (line : ℕ) (o : OutputSection)
    (fault : Fault) : Type 0 where
  in_head : head_of layout row line o ≡ Err fault → SectionAt provided row layout line o fault
  in_body : (h : Head) → head_of layout row line o ≡ Ok h
      → Fails (BodyTo provided) (BodyAt provided) (opened layout row h) o.body fault
      → SectionAt provided row layout line o fault
  at_end : (h : Head) (body : Body) → head_of layout row line o ≡ Ok h
      → Leads (BodyTo provided) (opened layout row h) o.body body → section_end line o h body ≡ Err fault
      → SectionAt provided row layout line o fault

-- a statement of SECTIONS
abbrev pub ItemCommandTo : List (List Piece) → List (List ℕ) → ℕ → Layout → ItemCommand → Layout → Type 0
ItemCommandTo rows provided line layout (item.Section o) t = SectionTo provided (next_row rows layout) layout line o t
ItemCommandTo rows provided line layout c t = item_command_step rows provided line layout c ≡ Ok t

abbrev pub ItemCommandAt : List (List Piece) → List (List ℕ) → ℕ → Layout → ItemCommand → Fault → Type 0
ItemCommandAt rows provided line layout (item.Section o) fault =
    SectionAt provided (next_row rows layout) layout line o fault
ItemCommandAt rows provided line layout c fault = item_command_step rows provided line layout c ≡ Err fault

abbrev pub ItemTo : List (List Piece) → List (List ℕ) → Layout → Item → Layout → Type 0
ItemTo rows provided layout i t = ItemCommandTo rows provided i.line (noted layout) i.command t

abbrev pub ItemAt : List (List Piece) → List (List ℕ) → Layout → Item → Fault → Type 0
ItemAt rows provided layout i fault = ItemCommandAt rows provided i.line (noted layout) i.command fault

-- a region of MEMORY
abbrev pub RegionTo : Layout → Region → Layout → Type 0
RegionTo layout r t = region_step layout r ≡ Ok t

abbrev pub RegionAt : Layout → Region → Fault → Type 0
RegionAt layout r fault = region_step layout r ≡ Err fault

-- a statement of the script
abbrev pub CommandTo : List (List Piece) → List (List ℕ) → ℕ → Layout → Command → Layout → Type 0
CommandTo rows provided line layout (top.Memory regions) t = Leads RegionTo layout regions t
CommandTo rows provided line layout (top.Sections items) t = Leads (ItemTo rows provided) layout items t
CommandTo rows provided line layout command t = command_step rows provided line layout command ≡ Ok t

abbrev pub CommandAt : List (List Piece) → List (List ℕ) → ℕ → Layout → Command → Fault → Type 0
CommandAt rows provided line layout (top.Memory regions) fault = Fails RegionTo RegionAt layout regions fault
CommandAt rows provided line layout (top.Sections items) fault =
    Fails (ItemTo rows provided) (ItemAt rows provided) layout items fault
CommandAt rows provided line layout command fault = command_step rows provided line layout command ≡ Err fault

abbrev pub StatementTo : List (List Piece) → List (List ℕ) → Layout → Statement → Layout → Type 0
StatementTo rows provided layout x t = CommandTo rows provided x.line layout x.command t

abbrev pub StatementAt : List (List Piece) → List (List ℕ) → Layout → Statement → Fault → Type 0
StatementAt rows provided layout x fault = CommandAt rows provided x.line layout x.command fault

-- the statements of a script lead from nothing to this layout
pub record IsPlacement (script : List Statement) (rows : List (List Piece)) (provided : List (List ℕ)) (layout : Layout)
    : Type 0 where
  pub leads : Leads (StatementTo rows provided) nothing_placed script layout

-- they lead from nothing to one, at whatever depth, that has this fault
pub record IsFirstFault (script : List Statement) (rows : List (List Piece)) (provided : List (List ℕ)) (fault : Fault)
    : Type 0 where
  pub fails : Fails (StatementTo rows provided) (StatementAt rows provided) nothing_placed script fault
