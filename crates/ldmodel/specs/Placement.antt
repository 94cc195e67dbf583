-- The layout of a script: one pass over its statements in the order of the text, each of which begins where the one
-- before ended. `.` is 0 at the start of SECTIONS: nothing before it sets `.`, and a script has one SECTIONS.
--
-- A word stands below the words that it is made of, so the whole is read from the end of the file up:
--
--   `placement`     the statements of the script, one after the other: `statement_step`
--   `item_step`     a statement of SECTIONS: `.`, an assignment, an output section, or `/DISCARD/`
--   `section_step`  an output section: its head, its body, its end
--   `section_end`   its size, load size and flags, and whether its regions have room
--   `body_step`     a statement of its body: `.`, an assignment, a data command, or an input statement
--   `head_of`       its alignment, then its start, then its load address, each with its fault
--   `directive_step`  an assignment of a symbol, a PROVIDE, an ASSERT
--
-- The first fault ends the pass. `Layout` has what a layout is, and `number` and `address`, which give most faults.
use Rattle.std.specs.Prelude.{ℕ, ◌+◌, ◌-◌, max, List, [], ◌∷◌, ◌++◌, length, map, filter, slice_index_or, Option, Some}
use Rattle.std.specs.Prelude.{None, Result, Ok, Err, Bool, true, false, not, ◌&&◌, ◌||◌, ◌==◌, nat_lt, nat_le, bit_and}
use Rattle.std.specs.Prelude.{bytes_eq, if◌then◌else◌}
use Rattle.std.specs.Int.{is_power_of_two, next_multiple_of}
use Rattle.std.specs.List.{list_any, last_or}
use Rattle.std.specs.Option.{option_map_or, option_and_then}
use Rattle.byteorder.specs.Endian.{little_bytes}
use Rattle.elfobj.specs.declared.section.SectionKind.{SectionKind}
use Rattle.elfobj.specs.declared.section.SectionKind.TheVariants.{Nobits}
use Rattle.elfobj.specs.file.declared.constants.TheConstants.{SHF_WRITE, SHF_EXECINSTR}
use Rattle.ldscript.specs.statements.Widths.{byte_count}
use Rattle.ldscript.specs.statements.declared.directive.Assignment.{Assignment}
use Rattle.ldscript.specs.statements.declared.directive.Directive.{Directive}
use Rattle.ldscript.specs.statements.declared.directive.Directive.TheVariants as directive
use Rattle.ldscript.specs.statements.declared.directive.DotCommand.{DotCommand}
use Rattle.ldscript.specs.statements.declared.directive.DotCommand.TheVariants.{Set, Add}
use Rattle.ldscript.specs.statements.declared.section.BodyCommand.{BodyCommand}
use Rattle.ldscript.specs.statements.declared.section.BodyCommand.TheVariants as body
use Rattle.ldscript.specs.statements.declared.section.BodyStatement.{BodyStatement}
use Rattle.ldscript.specs.statements.declared.section.Load.{Load}
use Rattle.ldscript.specs.statements.declared.section.Load.TheVariants.{Unstated, At, InRegion}
use Rattle.ldscript.specs.statements.declared.section.OutputSection.{OutputSection}
use Rattle.ldscript.specs.statements.declared.section.Width.{Width}
use Rattle.ldscript.specs.statements.declared.statement.Command.{Command}
use Rattle.ldscript.specs.statements.declared.statement.Command.TheVariants as top
use Rattle.ldscript.specs.statements.declared.statement.Item.{Item}
use Rattle.ldscript.specs.statements.declared.statement.ItemCommand.{ItemCommand}
use Rattle.ldscript.specs.statements.declared.statement.ItemCommand.TheVariants as item
use Rattle.ldscript.specs.statements.declared.statement.Region.{Region}
use Rattle.ldscript.specs.statements.declared.statement.Statement.{Statement}
use Rattle.ldscript.specs.terms.DotForms.{DotForm, Advance, Align, Offset, dot_form}
use Rattle.ldscript.specs.terms.Expressions.{Expr}
use Rattle.ldscript.specs.terms.Expressions as expression
use Rattle.ldmodel.specs.Arithmetic.{minus_modulo, plus_modulo}
use Rattle.ldmodel.specs.Chain.{and_then, run}
use Rattle.ldmodel.specs.Fault.{Fault, NoValue, MovedBack, RegionFull}
use Rattle.ldmodel.specs.Layout.{Layout, number, with_symbol, MemoryRegion, PlacedOutput, address, region_named}
use Rattle.ldmodel.specs.Layout.{PlacedPiece, PlacedData, noted, nothing_placed}
use Rattle.ldmodel.specs.Rows.{Piece, piece_alignment}

-- ASSIGNMENTS (GNU ld manual, "Simple Assignments" and "The PROVIDE Command")

-- NAME = e
abbrev pub assigned : Layout → ℕ → Assignment → Result Layout Fault
assigned layout line assignment =
    and_then (number layout line assignment.value) (λ x. Ok (with_symbol layout assignment.name x))

-- NAME = e; PROVIDE(NAME = e), which does nothing where it is not in force; ASSERT, which is tested at the end of the
-- link
unfoldable pub directive_step : List (List ℕ) → Layout → ℕ → Directive → Result Layout Fault
directive_step provided layout line (directive.Assign assignment) = assigned layout line assignment
directive_step provided layout line (directive.Provide assignment) =
    if list_any (bytes_eq assignment.name) provided then assigned layout line assignment
    else Ok layout
directive_step provided layout line (directive.Assert assertion) = Ok layout

-- THE HEAD of an output section: its alignment, start and load address (GNU ld manual, "Output Section Address",
-- "Output Section LMA" and "Forced Output Alignment"). In its expressions `.` is the value before the section. That an
-- address given is taken as it is, even where it goes back, the difference between start and load address modulo 2^64,
-- and which fault comes first, are this project's own.

-- the numbers that the expressions of a head give
pub record Given : Type 0 where
  pub address : Option ℕ
  pub load : Option ℕ
  pub alignment : ℕ

-- the alignment, start and load address of an output section
pub record Head : Type 0 where
  pub alignment : ℕ
  pub start : ℕ
  pub load : ℕ

-- the number of an expression that may be absent
abbrev pub number_if_given : Layout → ℕ → Option Expr → Result (Option ℕ) Fault
number_if_given layout line None = Ok None
number_if_given layout line (Some e) = and_then (number layout line e) (λ x. Ok (Some x))

-- the expression of AT(e)
abbrev pub given_load : Load → Option Expr
given_load Unstated = None
given_load (At e) = Some e
given_load (InRegion region) = None

-- ALIGN(e): a power of two; without one it is 1
abbrev pub given_alignment : ℕ → Option ℕ → Result ℕ Fault
given_alignment line None = Ok 1
given_alignment line (Some alignment) = if is_power_of_two alignment then Ok alignment else Err (NoValue line)

-- the expressions of a head, in the order of the text
unfoldable pub given : Layout → ℕ → OutputSection → Result Given Fault
given layout line o =
    and_then (number_if_given layout line o.address) (λ at.
    and_then (number_if_given layout line (given_load o.load)) (λ load.
    and_then (number_if_given layout line o.alignment) (λ align.
    and_then (given_alignment line align) (λ alignment.
    Ok (record { address = at; load = load; alignment = alignment })))))

-- the greatest of a number and the alignments of a row
abbrev pub widest : ℕ → List Piece → ℕ
widest alignment [] = alignment
widest alignment (piece ∷ row) = widest (max alignment (piece_alignment piece)) row

-- the next free address of a region
abbrev pub next_free : Layout → List ℕ → ℕ
next_free layout name = option_map_or (λ (region : MemoryRegion). region.next) (region_named layout.regions name) 0

-- where a section without an address may begin: at the next free address of its region, or at `.`
abbrev pub first_free : Layout → Option (List ℕ) → ℕ
first_free layout None = layout.dot
first_free layout (Some name) = next_free layout name

-- an address that is given is taken as it is
unfoldable pub section_start : Layout → ℕ → Option (List ℕ) → Option ℕ → ℕ → Result ℕ Fault
section_start layout line region (Some x) alignment = Ok x
section_start layout line region None alignment = address line (next_multiple_of (first_free layout region) alignment)

abbrev pub same_region : Option (List ℕ) → Option (List ℕ) → Bool
same_region None None = true
same_region (Some one) (Some other) = bytes_eq one other
same_region _ _ = false

-- start less load address, modulo 2^64
abbrev pub difference_of : PlacedOutput → ℕ
difference_of output = minus_modulo output.start output.load

-- that of the last earlier output section of a region, 0 without one; sections that name no region count as one region
unfoldable pub difference_in : List PlacedOutput → Option (List ℕ) → ℕ
difference_in sections region =
    option_map_or difference_of (last_or None
    (filter (λ (output : PlacedOutput). same_region output.region region) sections)) 0

-- without AT(e) or AT>region: the start, where an address is given; else as far from the start as in the last section
-- of the same region
abbrev pub unstated_load : Layout → Option (List ℕ) → Option ℕ → ℕ → ℕ
unstated_load layout region (Some x) start = start
unstated_load layout region None start = minus_modulo start (difference_in layout.sections region)

unfoldable pub load_address : Layout → ℕ → OutputSection → Given → ℕ → ℕ → Result ℕ Fault
load_address layout line output stated alignment start = load_by output.load stated.load where
  load_by : Load → Option ℕ → Result ℕ Fault
  load_by (InRegion region) load = address line (next_multiple_of (next_free layout region) alignment)
  load_by rule (Some x) = Ok x
  load_by rule None = Ok (unstated_load layout output.region stated.address start)

-- faults come in this order: the expressions, the start, the load address
unfoldable pub head_of : Layout → List Piece → ℕ → OutputSection → Result Head Fault
head_of layout row line output =
    and_then (given layout line output) (λ stated.
    let alignment : ℕ = widest stated.alignment row in
    and_then (section_start layout line output.region stated.address alignment) (λ start.
    and_then (load_address layout line output stated alignment start) (λ load.
    Ok (record { alignment = alignment; start = start; load = load }))))

-- THE BODY of an output section (GNU ld manual, "Output Section Description", "Output Section Data" and "The Location
-- Counter"): each input section starts at the least multiple of its alignment not below `.`, and `.` goes on to its
-- end; inside an output section `.` does not go back. `. = e` counts from the section's start, `. += e` and
-- `. = . + e` from `.`, and `. = ALIGN(e)` is an address. That the sums are whole numbers, and one of 2^64 or more a
-- fault, is this project's own.

-- an output section whose body is being placed: the layout, in which `.` and the symbols go on; where the section
-- starts; the entries of its row that are still to be placed, and what has been placed
pub record Body : Type 0 where
  pub layout : Layout
  pub start : ℕ
  pub rest : List Piece
  pub pieces : List PlacedPiece
  pub data_commands : List PlacedData

-- `.` goes on to a number
abbrev pub with_dot : Body → ℕ → Body
with_dot body x = record body { layout = record body.layout { dot = x } }

-- the least multiple of its alignment not below `.`
abbrev pub piece_start : ℕ → Piece → ℕ
piece_start dot piece = next_multiple_of dot (piece_alignment piece)

-- the next entry of the row takes its place
unfoldable pub piece_placed : ℕ → Body → Piece → List Piece → Result Body Fault
piece_placed line body piece rest =
    let start : ℕ = piece_start body.layout.dot piece in
    and_then (address line (start + piece.size)) (λ end.
    Ok (record (with_dot body end) {
      rest = rest;
      pieces = body.pieces ++ record { start = start; piece = piece } ∷ [];
    }))

-- the entries of input statement number n: those with this number that the row begins with. In the rows of `Rows` these
-- are all entries of the statement, since a row goes statement by statement
unfoldable pub pieces_placed : ℕ → ℕ → Body → List Piece → Result Body Fault
pieces_placed line n body [] = Ok body
pieces_placed line n body (piece ∷ rest) =
    if piece.statement == n
    then and_then (piece_placed line body piece rest) (λ next. pieces_placed line n next rest)
    else Ok body

-- an input statement; input statements are numbered from 0 in the order of the script
abbrev pub input_step : ℕ → Body → Result Body Fault
input_step line body =
    and_then (pieces_placed line body.layout.inputs body body.rest) (λ next.
    Ok (record next { layout = record next.layout { inputs = body.layout.inputs + 1 } }))

abbrev pub with_data : Body → List ℕ → Body
with_data body bytes =
    record body { data_commands = body.data_commands ++ record { start = body.layout.dot; bytes = bytes } ∷ [] }

-- BYTE, SHORT, LONG, QUAD: the lowest bytes of a number, the lowest of them first, where `.` stands
abbrev pub data_step : ℕ → Body → Width → Expr → Result Body Fault
data_step line body width e =
    and_then (number body.layout line e) (λ x.
    and_then (address line (body.layout.dot + byte_count width)) (λ end.
    Ok (with_dot (with_data body (little_bytes (byte_count width) x)) end)))

-- `.` goes on to a whole number, and not back
abbrev pub moved_on : ℕ → Body → ℕ → Result Body Fault
moved_on line body to =
    if nat_lt to body.layout.dot then Err (MovedBack line) else and_then (address line to) (λ x. Ok (with_dot body x))

-- `. = . + e`, also spelled `. += e`
abbrev pub advanced : ℕ → Body → Expr → Result Body Fault
advanced line body e = and_then (number body.layout line e) (λ x. moved_on line body (body.layout.dot + x))

-- `. = ALIGN(e)`, a value modulo 2^64; `. = e`, which counts from the section's start
abbrev pub set_to : ℕ → Body → Option DotForm → Result Body Fault
set_to line body (Some (Advance e)) = advanced line body e
set_to line body (Some (Align e)) =
    and_then (number body.layout line (expression.AlignDot e)) (λ x. moved_on line body x)
set_to line body (Some (Offset e)) = and_then (number body.layout line e) (λ x. moved_on line body (body.start + x))
-- no script has another form
set_to line body None = Ok body

abbrev pub dot_step : ℕ → Body → DotCommand → Result Body Fault
dot_step line body (Add e) = advanced line body e
dot_step line body (Set e) = set_to line body (dot_form e)

unfoldable pub body_command_step : List (List ℕ) → ℕ → Body → BodyCommand → Result Body Fault
body_command_step provided line state (body.Dot command) = dot_step line state command
body_command_step provided line state (body.Directive command) =
    and_then (directive_step provided state.layout line command) (λ layout. Ok (record state { layout = layout }))
body_command_step provided line state (body.Data width e) = data_step line state width e
body_command_step provided line state (body.Input input) = input_step line state

-- a statement of the body
abbrev pub body_step : List (List ℕ) → Body → BodyStatement → Result Body Fault
body_step provided body statement =
    body_command_step provided statement.line (record body { layout = noted body.layout }) statement.command

-- THE END of an output section: its size, load size and flags, whether its memory regions have room for it, and where
-- they go on (GNU ld manual, "Output Section Region"; gABI, "Sections": SHF_WRITE and SHF_EXECINSTR). That a region
-- goes on at the end of the last section in it, even where that is further back, and the order of the faults, are this
-- project's own.

abbrev pub is_nobits : SectionKind → Bool
is_nobits Nobits = true
is_nobits _ = false

abbrev pub is_empty : PlacedPiece → Bool
is_empty placed = placed.piece.size == 0

-- an input section that brings bytes into the file
abbrev pub is_in_file : PlacedPiece → Bool
is_in_file placed = not (is_nobits placed.piece.kind) && not (is_empty placed)

-- a data command is in a body, or such an input section
abbrev pub has_contents : Body → Bool
has_contents body = not (length body.data_commands == 0) || list_any is_in_file body.pieces

-- an input section of nonzero size has a flag
abbrev pub has_flag : ℕ → Body → Bool
has_flag flag body =
    list_any (λ (placed : PlacedPiece). not (bit_and placed.piece.flags flag == 0) && not (is_empty placed)) body.pieces

-- it has file bytes if there is something of that kind in it. The flags are the union over the input sections of
-- nonzero size; a section that takes memory but no file bytes may be written
unfoldable pub placed_section : OutputSection → Head → Body → PlacedOutput
placed_section o h body =
    let size : ℕ = body.layout.dot - h.start in
    let in_file : Bool = not (size == 0) && has_contents body in
    record {
      name = o.name;
      region = o.region;
      alignment = h.alignment;
      start = h.start;
      size = size;
      load = h.load;
      has_file_bytes = in_file;
      load_size = if in_file then size else 0;
      writable = has_flag SHF_WRITE body || (not (size == 0) && not in_file);
      executable = has_flag SHF_EXECINSTR body;
      fill = o.fill;
      pieces = body.pieces;
      data_commands = body.data_commands;
    }

-- a range of addresses of nonzero size lies in a region
abbrev pub is_within : MemoryRegion → ℕ → ℕ → Bool
is_within region at size =
    (size == 0) || (nat_le region.origin at && nat_le (at + size) (region.origin + region.extent))

-- a section, where the region that it names, if any, has room for a range
abbrev pub with_room : Option MemoryRegion → ℕ → ℕ → PlacedOutput → Result PlacedOutput Fault
with_room None at size output = Ok output
with_room (Some region) at size output =
    if is_within region at size then Ok output else Err (RegionFull output.name region.name)

-- the region of AT>region
abbrev pub load_region : Load → Option (List ℕ)
load_region Unstated = None
load_region (At e) = None
load_region (InRegion region) = Some region

abbrev pub find_region : Layout → Option (List ℕ) → Option MemoryRegion
find_region layout name = option_and_then (region_named layout.regions) name

-- a region's next free address, where it is the one that is named
abbrev pub freed_from : Option (List ℕ) → ℕ → List MemoryRegion → List MemoryRegion
freed_from None next regions = regions
freed_from (Some name) next regions =
    map (λ (region : MemoryRegion). if bytes_eq region.name name then record region { next = next } else region) regions

-- after a section its region goes on at its end, then that of AT>region at its load end
abbrev pub with_section : Layout → OutputSection → PlacedOutput → Layout
with_section layout section output = record layout {
  regions = freed_from (load_region section.load) (output.load + output.load_size)
      (freed_from section.region (output.start + output.size) layout.regions);
  sections = layout.sections ++ output ∷ [];
}

-- faults come in this order: the region, the region of load addresses, the load end
unfoldable pub section_end : ℕ → OutputSection → Head → Body → Result Layout Fault
section_end line section head body =
    let output : PlacedOutput = placed_section section head body in
    and_then (with_room (find_region body.layout section.region) output.start output.size output) (λ _.
    and_then (with_room (find_region body.layout (load_region section.load)) output.load output.load_size output) (λ _.
    and_then (address line (output.load + output.load_size)) (λ _.
    Ok (with_section body.layout section output))))

-- THE WHOLE (GNU ld manual, "SECTIONS Command", "MEMORY Command" and "The Location Counter"). What `.` is after each
-- statement is this project's own where the manual leaves it open.

abbrev pub with_region : Layout → List ℕ → ℕ → ℕ → Layout
with_region layout name origin extent =
    record layout {
      regions = layout.regions ++ record { name = name; origin = origin; extent = extent; next = origin }
          ∷ [];
    }

-- a region of MEMORY, whose next free address is at first where it begins
unfoldable pub region_step : Layout → Region → Result Layout Fault
region_step layout region =
    and_then (number layout region.line region.origin) (λ origin.
    and_then (number layout region.line region.extent) (λ extent.
    Ok (with_region layout region.name origin extent)))

-- outside output sections `.` may go back, and a sum is one of expressions, modulo 2^64
abbrev pub free_dot_step : Layout → ℕ → DotCommand → Result Layout Fault
free_dot_step layout line (Set e) = and_then (number layout line e) (λ x. Ok (record layout { dot = x }))
free_dot_step layout line (Add e) =
    and_then (number layout line e) (λ x. Ok (record layout { dot = plus_modulo layout.dot x }))

-- a section begins to be placed
abbrev pub opened : Layout → List Piece → Head → Body
opened layout row head = record {
  layout = record layout { dot = head.start };
  start = head.start;
  rest = row;
  pieces = [];
  data_commands = [];
}

-- head, body and end of an output section; after it `.` is its end
unfoldable pub section_step : List (List ℕ) → List Piece → Layout → ℕ → OutputSection → Result Layout Fault
section_step provided row layout line section =
    and_then (head_of layout row line section) (λ head.
    and_then (run (body_step provided) (opened layout row head) section.body) (λ body.
    section_end line section head body))

-- the row of the next output section: its number is how many sections are complete, since each output section statement
-- adds one, and `/DISCARD/` none and has no row
abbrev pub next_row : List (List Piece) → Layout → List Piece
next_row rows layout = slice_index_or rows (length layout.sections) []

unfoldable pub item_command_step : List (List Piece) → List (List ℕ) → ℕ → Layout → ItemCommand → Result Layout Fault
item_command_step rows provided line layout (item.Dot command) = free_dot_step layout line command
item_command_step rows provided line layout (item.Directive command) = directive_step provided layout line command
item_command_step rows provided line layout (item.Section section) =
    section_step provided (next_row rows layout) layout line section
item_command_step rows provided line layout (item.Discard inputs) =
    Ok (record layout { inputs = layout.inputs + length inputs })

-- a statement of SECTIONS
abbrev pub item_step : List (List Piece) → List (List ℕ) → Layout → Item → Result Layout Fault
item_step rows provided layout entry = item_command_step rows provided entry.line (noted layout) entry.command

unfoldable pub command_step : List (List Piece) → List (List ℕ) → ℕ → Layout → Command → Result Layout Fault
command_step rows provided line layout (top.Entry name) = Ok layout
command_step rows provided line layout (top.Memory regions) = run region_step layout regions
command_step rows provided line layout (top.Sections items) = run (item_step rows provided) layout items
command_step rows provided line layout (top.Directive command) = directive_step provided layout line command

-- a statement of the script
abbrev pub statement_step : List (List Piece) → List (List ℕ) → Layout → Statement → Result Layout Fault
statement_step rows provided layout statement = command_step rows provided statement.line layout statement.command

-- the layout of a script with these rows, in which the PROVIDEs of these names are in force; or its first fault
unfoldable pub placement : List Statement → List (List Piece) → List (List ℕ) → Result Layout Fault
placement script rows provided = run (statement_step rows provided) nothing_placed script
