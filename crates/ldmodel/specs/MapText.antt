-- The map: where everything stands, for people and tools (this project's own format). The entry point; the output
-- sections in the order of the script, after each the input sections in it; and the symbols in byte order of their
-- names.
use Rattle.std.specs.Prelude.{ℕ, List, [], ◌∷◌, ◌++◌, flat_map, replicate, codes, if◌then◌else◌}
use Rattle.ldmodel.specs.Layout.{Layout, PlacedPiece, PlacedOutput}
use Rattle.ldmodel.specs.Lines.{line_of, hex}
use Rattle.ldmodel.specs.OutputSymbols.{OutputSymbol, output_symbols, owner}
use Rattle.ldmodel.specs.Project.{Project}
use Rattle.ldmodel.specs.SymbolValues.{SymbolValue, Number, NotDefined, NotInOutput, entry_point, number_or_0}

-- `entry ADDRESS`
abbrev pub entry_line : Project → Layout → List ℕ
entry_line project layout = line_of (codes "entry" ∷ hex (number_or_0 (entry_point project layout)) ∷ [])

-- `rwx`, with a hyphen for what a section may not be: it may always be read
abbrev pub flag_letters : PlacedOutput → List ℕ
flag_letters output =
    codes "r" ++ (if output.writable then codes "w" else codes "-")
    ++ (if output.executable then codes "x" else codes "-")

-- `piece ADDRESS SIZE OBJECT SECTION`
abbrev pub piece_line : PlacedPiece → List ℕ
piece_line placed =
    line_of (codes "piece" ∷ hex placed.start ∷ hex placed.piece.size ∷ placed.piece.object ∷ placed.piece.name ∷ [])

-- `section NAME START LOAD SIZE FLAGS`, and its input sections
abbrev pub section_lines : PlacedOutput → List ℕ
section_lines output =
    line_of (codes "section" ∷ output.name ∷ hex output.start ∷ hex output.load ∷ hex output.size
    ∷ flag_letters output ∷ [])
    ++ flat_map piece_line output.pieces

-- 16 hyphens where the symbol's section is not in the output; every symbol that the map lists is defined, so that
-- `NotDefined` does not come up
abbrev pub value_word : SymbolValue → List ℕ
value_word (Number x) = hex x
value_word NotDefined = replicate 16 45
value_word NotInOutput = replicate 16 45

-- `symbol VALUE NAME OWNER`
abbrev pub symbol_line : Project → OutputSymbol → List ℕ
symbol_line project symbol =
    line_of (codes "symbol" ∷ value_word symbol.value ∷ symbol.name ∷ owner project symbol.decision ∷ [])

unfoldable pub map_text : Project → Layout → List ℕ
map_text project layout = entry_line project layout ++ flat_map section_lines layout.sections
    ++ flat_map (symbol_line project) (output_symbols project layout)
