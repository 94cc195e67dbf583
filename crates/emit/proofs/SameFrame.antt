-- The map, the headers, the tail and the assertions turn on the layout, on what names stand for, and on their values.
use Rattle.emit.proofs.Common.{AssertionAt, AssertionFailed, DiffersInContents, HasSameFrame, InCommon, Layout, Project}
use Rattle.emit.proofs.Common.{Symbol, [], asserts, codes, enumerate_from, file_headers, filter, filter_map, flat_map}
use Rattle.emit.proofs.Common.{header_name_table, header_part, image_length, length, loaded_end, map, not, number_or_0}
use Rattle.emit.proofs.Common.{option_map_or, refl, replicate, segments, symbol_index, tail, ℕ, ◌++◌, ◌∷◌, ◌≡◌}
use Rattle.std.specs.Int.{next_multiple_of}
use Rattle.elfobj.specs.file.declared.constants.TheConstants.{SHN_ABS, STT_NOTYPE}
use Rattle.ldmodel.specs.Assertions.{assertion_faults, final_scope, is_true_value, number_if_any}
use Rattle.ldmodel.specs.Headers.{elf_header, program_headers}
use Rattle.ldmodel.specs.Layout.{region_numbers, section_numbers}
use Rattle.ldmodel.specs.Lines.{hex, line_of}
use Rattle.ldmodel.specs.MapText.{map_text, section_lines, symbol_line, value_word}
use Rattle.ldmodel.specs.Names.{Common, Decision, Duplicate, Provided, Script, Strong, Undefined, Weak}
use Rattle.ldmodel.specs.OutputSymbols.{OutputSymbol, in_byte_order, is_defined, output_symbol, output_symbols, owner}
use Rattle.ldmodel.specs.SectionHeaders.{end_of_part, header_bytes, header_count, header_names, header_names_number}
use Rattle.ldmodel.specs.SectionHeaders.{output_header, part_at, section_headers, table_headers, tables}
use Rattle.ldmodel.specs.Tail.{ValuedSymbol, entry_header, entry_size, entry_type, header_of_part, header_of_place}
use Rattle.ldmodel.specs.Tail.{kind_number, name_offset, output_symbol_table, st_binding, st_shndx, st_size, st_type_of}
use Rattle.ldmodel.specs.Tail.{string_table, symbol_bytes, symbol_entry, symbol_name_table, symbol_names, table_symbols}
use Rattle.ldmodel.specs.Tail.{with_value}
use Rattle.ldmodel.specs.Value.{value}
use Rattle.emit.proofs.Objects.{same_object_name}
use Rattle.emit.proofs.SameNames.{same_decision, same_declared_names}
use Rattle.emit.proofs.SameValues.{same_entry_point, same_name_value, same_referenced, same_symbol_of_entry}

module _ {p q : Project} {place : ℕ} (h : DiffersInContents p q place) where
  same_owner : (d : Decision) → owner p d ≡ owner q d
  same_owner (Strong e) = same_object_name h e.object
  same_owner (Weak e) = same_object_name h e.object
  same_owner (Common e size alignment) = same_object_name h e.object
  same_owner Script = refl
  same_owner Provided = refl
  same_owner Undefined = refl
  same_owner Duplicate = refl

  same_entry_type : entry_type p ≡ entry_type q
  same_entry_type = λ i e. option_map_or (λ (x : Symbol). kind_number x.kind) (same_symbol_of_entry h i e) STT_NOTYPE

  same_type : (d : Decision) → st_type_of p d ≡ st_type_of q d
  same_type (Strong e) = λ i. same_entry_type i e
  same_type (Weak e) = λ i. same_entry_type i e
  same_type (Common owner size alignment) = refl
  same_type Script = refl
  same_type Provided = refl
  same_type Undefined = refl
  same_type Duplicate = refl

  same_entry_size : entry_size p ≡ entry_size q
  same_entry_size = λ i e. option_map_or (λ (x : Symbol). x.size) (same_symbol_of_entry h i e) 0

  same_size : (d : Decision) → st_size p d ≡ st_size q d
  same_size (Strong e) = λ i. same_entry_size i e
  same_size (Weak e) = λ i. same_entry_size i e
  same_size (Common owner size alignment) = refl
  same_size Script = refl
  same_size Provided = refl
  same_size Undefined = refl
  same_size Duplicate = refl

  module _ (s : Layout) where
    -- symbols of the output

    same_output_symbol : output_symbol p s ≡ output_symbol q s
    same_output_symbol =
        λ i name. record { name = name; decision = same_decision h i name; value = same_name_value h s i name }

    same_output_symbols : output_symbols p s ≡ output_symbols q s
    unfolding output_symbols
    same_output_symbols =
        λ i. filter (λ (x : OutputSymbol). is_defined x.decision)
        (map (same_output_symbol i) (in_byte_order (same_declared_names h i)))

    -- the map

    same_symbol_line : symbol_line p ≡ symbol_line q
    same_symbol_line =
        λ i x. line_of (codes "symbol" ∷ value_word x.value ∷ x.name ∷ same_owner x.decision i ∷ [])

    pub same_map : map_text p s ≡ map_text q s
    unfolding map_text
    same_map =
        λ i. line_of (codes "entry" ∷ hex (number_or_0 (same_entry_point h s i)) ∷ [])
        ++ flat_map section_lines s.sections ++ flat_map (same_symbol_line i) (same_output_symbols i)

    -- the symbol table

    same_entry_header : entry_header p s ≡ entry_header q s
    same_entry_header =
        λ i e. option_map_or (λ (x : Symbol). header_of_place s (same_object_name h e.object i) x.place)
        (same_symbol_of_entry h i e) SHN_ABS

    same_section : (d : Decision) → st_shndx p s d ≡ st_shndx q s d
    same_section (Strong e) = λ i. same_entry_header i e
    same_section (Weak e) = λ i. same_entry_header i e
    same_section (Common owner size alignment) =
        λ i. header_of_part s (same_object_name h owner.object i) (InCommon (symbol_index owner))
    same_section Script = refl
    same_section Provided = refl
    same_section Undefined = refl
    same_section Duplicate = refl

    same_table_symbols : table_symbols p s ≡ table_symbols q s
    same_table_symbols = λ i. filter_map (λ (x : OutputSymbol). with_value x x.value) (same_output_symbols i)

    same_symbol_names : symbol_names p s ≡ symbol_names q s
    same_symbol_names = λ i. map (λ (x : ValuedSymbol). x.name) (same_table_symbols i)

    same_symbol_entry : symbol_entry p s ≡ symbol_entry q s
    same_symbol_entry =
        λ i x. record {
          name = name_offset (same_symbol_names i) x.0;
          binding = st_binding x.1.decision;
          type = same_type x.1.decision i;
          section = same_section x.1.decision i;
          value = x.1.value;
          size = same_size x.1.decision i;
        }

    same_symbol_table : output_symbol_table p s ≡ output_symbol_table q s
    unfolding output_symbol_table
    same_symbol_table =
        λ i. replicate 24 0
        ++ flat_map (λ (x : ℕ × ValuedSymbol). symbol_bytes (same_symbol_entry i x))
        (enumerate_from 0 (same_table_symbols i))

    same_name_table : symbol_name_table p s ≡ symbol_name_table q s
    unfolding symbol_name_table
    same_name_table = λ i. string_table (same_symbol_names i)

    -- headers and tail

    same_tables : tables p s ≡ tables q s
    unfolding tables
    same_tables =
        λ i.
        let symbols = part_at (next_multiple_of (loaded_end (segments s.sections)) 8) (same_symbol_table i) in
        let symbol_names = part_at (end_of_part symbols) (same_name_table i) in
        record {
          symbols = symbols;
          symbol_names = symbol_names;
          header_names = part_at (end_of_part symbol_names) (header_name_table s);
        }

    same_section_headers : section_headers p s ≡ section_headers q s
    unfolding section_headers
    same_section_headers =
        λ i. replicate 64 0
        ++ flat_map (λ x. header_bytes (output_header s (segments s.sections) x)) (enumerate_from 0 s.sections)
        ++ flat_map header_bytes (table_headers (length s.sections) (header_names s) (same_tables i))

    same_header_part : header_part p s ≡ header_part q s
    unfolding header_part
    same_header_part =
        λ i. part_at (next_multiple_of (end_of_part ((same_tables i).header_names)) 8) (same_section_headers i)

    pub same_tail : tail p s ≡ tail q s
    same_tail =
        λ i.
        let t = same_tables i in
        t.symbols ∷ t.symbol_names ∷ t.header_names ∷ same_header_part i ∷ []

    pub same_length : image_length p s ≡ image_length q s
    unfolding image_length
    same_length = λ i. end_of_part (same_header_part i)

    pub same_headers : file_headers p s ≡ file_headers q s
    unfolding file_headers
    same_headers =
        λ i.
        elf_header (number_or_0 (same_entry_point h s i)) (length (segments s.sections))
        ((same_header_part i).offset) (header_count s) (header_names_number s)
        ++ program_headers (segments s.sections)

    pub same_frame : HasSameFrame p q s
    same_frame = record {
      headers = same_headers;
      tail = same_tail;
      length = same_length;
      entry = same_entry_point h s;
      references = λ j a b x e f. same_referenced h s j a b e f x;
    }

    -- assertions

    same_scope : final_scope p s ≡ final_scope q s
    same_scope =
        λ i. record {
          symbol = λ name. number_if_any (same_name_value h s i name);
          section = section_numbers s;
          region = region_numbers s;
        }

    pub same_assertion_faults : assertion_faults p s ≡ assertion_faults q s
    unfolding assertion_faults
    same_assertion_faults =
        λ i. map (λ (a : AssertionAt). AssertionFailed a.line a.assertion.message)
        (filter (λ (a : AssertionAt). not (is_true_value (value (same_scope i) 0 a.assertion.condition)))
        (asserts (h.script i)))
