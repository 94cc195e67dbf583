-- Output sections that are taken over from a previous layout.
use Rattle.std.specs.Prelude.{◌≡◌, ℕ, ◌+◌, ◌^◌, ◌<◌, ◌≤◌, List, [], ◌∷◌, ◌++◌, length, map, take, drop, Some, slice_get}
use Rattle.ldscript.specs.statements.declared.section.OutputSection.{OutputSection}
use Rattle.ldmodel.specs.declared.placed.Placed.{Placed}
use Rattle.ldmodel.specs.declared.placed.PlacedData.{PlacedData}
use Rattle.ldmodel.specs.declared.rows.Piece.{Piece}
use Rattle.place_terms.specs.Keyed.{KeyedSection, data_at_of}
use Rattle.place_terms.specs.SectionTable.{keyed_taken, taken_pieces}
use Rattle.place_terms.specs.Wholes.{all_data_in, counts_in, placed_in, starts_in}
use Rattle.place_terms.specs.declared.previous_layout.PreviousLayout.{PreviousLayout}
use Rattle.place_terms.specs.declared.previous_layout.ReusedOutput.{ReusedOutput}

-- what a previous layout had of its output sections
pub record PreviousOutputs : Type 0 where
  pub sections : List Placed
  pub counts : List ℕ
  pub starts : List ℕ
  pub data_commands : List PlacedData

abbrev pub earlier_of : PreviousLayout → PreviousOutputs
earlier_of e = record {
  sections = e.sections.now;
  counts = e.counts.now;
  starts = e.starts.now;
  data_commands = e.data_commands.now;
}

-- a part of a list
abbrev pub part_of : {X : Type 0} → List X → ℕ → ℕ → List X
part_of xs from count = take count (drop from xs)

-- these are the starts of the input sections of an output section, before which this many come
pub record AreStartsOf (e : PreviousLayout) (number from : ℕ) (starts : List ℕ) : Type 0 where
  pub counted : slice_get e.counts.now number ≡ Some (length starts)
  pub are : starts ≡ part_of e.starts.now from (length starts)

-- there are the starts of the input sections of an output section, before which this many come
pub record HasStarts (e : PreviousOutputs) (number from : ℕ) : Type 0 where
  pub count : ℕ
  pub counted : slice_get e.counts number ≡ Some count
  pub within : from + count ≤ length e.starts

-- there is an output section of this number, which ends at an address, and as many of its input sections are entries of
-- the row
pub record HasSection (e : PreviousOutputs) (number start : ℕ) (row : List Piece) : Type 0 where
  pub placed : Placed
  pub there : slice_get e.sections number ≡ Some placed
  pub fits : placed.start + placed.size < 2 ^ 64
  pub starts : HasStarts e number start
  pub enough : starts.count ≤ length row

-- it is the one of this number, its input sections are the previous layout's from this one on, and it has these data
-- commands
pub record IsSectionOf (e : PreviousLayout) (number start : ℕ) (o : OutputSection) (row : List Piece)
    (commands : List PlacedData) (t : ReusedOutput) : Type 0 where
  pub output : t.output.now ≡ o
  pub placed : slice_get e.sections.now number ≡ Some t.placed.now
  pub fits : t.placed.now.start + t.placed.now.size < 2 ^ 64
  pub counted : slice_get e.counts.now number ≡ Some (length t.starts.now)
  pub starts : t.starts.now ≡ part_of e.starts.now start (length t.starts.now)
  pub row_is : t.row.now ≡ row
  pub enough : length t.starts.now ≤ length row
  pub data_commands : t.data_commands.now ≡ commands

-- it is the next one of the previous layout, after these; its input sections are entries of the row, and there are this
-- many data commands with its own
pub record IsTaken (e : PreviousOutputs) (before : List KeyedSection) (row : List Piece) (o : OutputSection)
    (data_end : ℕ) (x : KeyedSection) : Type 0 where
  pub name : x.name ≡ o.name
  pub region : x.region ≡ o.region
  pub fill : x.fill ≡ o.fill
  pub placed : slice_get e.sections (length before) ≡ Some x.placed
  pub count : ℕ
  pub counted : slice_get e.counts (length before) ≡ Some count
  pub pieces : x.pieces ≡ taken_pieces (part_of e.starts (length (starts_in before)) count) row
  pub data_count : ℕ
  pub data_counted : length (all_data_in 0 before) + data_count ≡ data_end
  pub data_commands : x.data_commands
      ≡ map data_at_of (part_of e.data_commands (length (all_data_in 0 before)) data_count)

-- there is one more, which is taken over
pub record IsWithTaken (e : PreviousOutputs) (old : List KeyedSection) (row : List Piece) (o : OutputSection)
    (data_end : ℕ) (new : List KeyedSection) : Type 0 where
  pub section : KeyedSection
  pub taken : IsTaken e old row o data_end section
  pub pushed : new ≡ old ++ section ∷ []

-- these are the first ones of the previous layout, with as many input sections as the count says
pub record AreTaken (e : PreviousOutputs) (taken : List ReusedOutput) (count : ℕ) : Type 0 where
  pub placed : placed_in (map keyed_taken taken) ≡ take (length taken) e.sections
  pub counts : counts_in (map keyed_taken taken) ≡ take (length taken) e.counts
  pub starts : starts_in (map keyed_taken taken) ≡ take count e.starts
  pub counted : count ≡ length (starts_in (map keyed_taken taken))
