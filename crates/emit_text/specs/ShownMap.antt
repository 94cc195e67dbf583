-- The map by the values that the code has for it.
use Rattle.std.specs.Prelude.{ℕ, List, [], ◌∷◌, ◌++◌, drop, flat_map, length, map, replicate, codes, Bool}
use Rattle.std.specs.Prelude.{if◌then◌else◌}
use Rattle.std.specs.Prelude.{Option, Some, None}
use Rattle.std.specs.Vec.{vec_items}
use Rattle.ldscript.specs.Numbered.{shown_sections}
use Rattle.ldscript.specs.Numbering.{OutputSectionAt}
use Rattle.ldmodel.specs.FaultCode.{name_of_part}
use Rattle.ldmodel.specs.Lines.{line_of, hex}
use Rattle.ldmodel.specs.NameFaults.{object_name}
use Rattle.ldmodel.specs.Project.{Project}
use Rattle.ldmodel.specs.declared.placed.Placed.{Placed}
use Rattle.ldmodel.specs.declared.rows.Piece.{Piece}
use Rattle.emit_text.specs.Definer.{defines, owner_in}
use Rattle.emit_text.specs.declared.maps.MapParts.{MapParts}
use Rattle.emit_text.specs.declared.symbols.MapSymbol.{MapSymbol}

abbrev pub letters : (writable executable : Bool) → List ℕ
letters writable executable =
    codes "r" ++ (if writable then codes "w" else codes "-") ++ (if executable then codes "x" else codes "-")

abbrev pub section_text : List ℕ → Placed → List ℕ
section_text name x =
    line_of (codes "section" ∷ name ∷ hex x.start ∷ hex x.load ∷ hex x.size ∷ letters x.writable x.executable ∷ [])

-- the line of a piece, part by part
abbrev pub piece_parts : (start size : ℕ) → (object section : List ℕ) → List ℕ
piece_parts start size object section =
    codes "piece " ++ (hex start ++ 32 ∷ []) ++ (hex size ++ 32 ∷ []) ++ (object ++ 32 ∷ [] ++ section ++ 10 ∷ [])

abbrev pub piece_text : Project → Piece → ℕ → List ℕ
piece_text project x start =
    line_of (codes "piece" ∷ hex start ∷ hex x.size ∷ object_name project x.section.object.0
    ∷ name_of_part project x.section.object.0 x.section.part ∷ [])

-- the pieces of a row, whose addresses are the first of these
abbrev pub pieces_text : Project → List Piece → List ℕ → List ℕ
pieces_text project [] starts = []
pieces_text project (x ∷ xs) [] = []
pieces_text project (x ∷ xs) (start ∷ starts) = piece_text project x start ++ pieces_text project xs starts

-- output sections with their names and rows, and the addresses of all pieces
abbrev pub sections_text : Project → List Placed → List OutputSectionAt → List (List Piece) → List ℕ → List ℕ
sections_text project [] os rows starts = []
sections_text project (q ∷ qs) [] rows starts = []
sections_text project (q ∷ qs) (o ∷ os) [] starts = []
sections_text project (q ∷ qs) (o ∷ os) (row ∷ rows) starts =
    section_text o.section.name q ++ (pieces_text project row starts
    ++ sections_text project qs os rows (drop (length row) starts))

abbrev pub value_text : Option ℕ → List ℕ
value_text (Some x) = hex x
value_text None = replicate 16 45

-- the line of a symbol, part by part
abbrev pub symbol_parts : Option ℕ → (name owner : List ℕ) → List ℕ
symbol_parts value name owner =
    codes "symbol " ++ (value_text value ++ 32 ∷ []) ++ (name ++ 32 ∷ [] ++ owner ++ 10 ∷ [])

-- nothing for a name that nothing defines
abbrev pub symbol_text : Project → MapSymbol → List ℕ
symbol_text project x =
    if defines x.definer
    then line_of (codes "symbol" ∷ value_text x.value ∷ x.name.now ∷ owner_in project x.definer ∷ [])
    else []

abbrev pub symbols_text : Project → List MapSymbol → List ℕ
symbols_text project xs = flat_map (symbol_text project) xs

unfoldable pub shown_map : Project → MapParts → List MapSymbol → List ℕ
shown_map project m symbols =
    line_of (codes "entry" ∷ hex m.entry ∷ [])
    ++ (sections_text project m.placement.sections.now (shown_sections m.sections.now) (map vec_items m.rows.now)
    m.placement.starts.now
    ++ symbols_text project symbols)
