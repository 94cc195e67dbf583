-- Each link is computed.
use Rattle.ldmodel_laws.proofs.Common.{assertion_faults, assigned_names, byte_at, duplicates, entry_point}
use Rattle.ldmodel_laws.proofs.Common.{entry_section, fault_of, fault_text, field_of, file_headers, first_match}
use Rattle.ldmodel_laws.proofs.Common.{gathering_faults, groups, hex, image, image_length, input_sections, is_discarded}
use Rattle.ldmodel_laws.proofs.Common.{is_match, layout, line_of, link, linked_pieces, live, map_text, mentioned_names}
use Rattle.ldmodel_laws.proofs.Common.{name_faults, name_value, number, orphans, output_symbol_table, output_symbols}
use Rattle.ldmodel_laws.proofs.Common.{overlaps, provided_names, reached, referenced_value, refl, relocation_faults}
use Rattle.ldmodel_laws.proofs.Common.{rows, run, segments, site_field, sites, sort_by, symbol_name_table}
use Rattle.ldmodel_laws.proofs.Common.{target_number, target_section, undefined_entry, value, word_of}
use Rattle.ldmodel.specs.Placement.{directive_step, body_command_step, piece_placed, pieces_placed, command_step}
use Rattle.ldmodel.specs.Placement.{item_command_step, placement, region_step, section_step, placed_section}
use Rattle.ldmodel.specs.Placement.{section_end, difference_in, given, head_of, load_address, section_start}
use Rattle.ldmodel.specs.Commands.{line}
use Rattle.ldmodel.specs.Headers.{elf_header, program_header}
use Rattle.ldmodel.specs.Names.{decided, decision, declarations_of, declared_names, entry_symbol, provided}
use Rattle.ldmodel.specs.SectionHeaders.{header_name_table, header_part, section_headers, tables}
use Rattle.ldmodel_laws.proofs.links.link_by_example.Goals as goal

pub returns-clause-empty_status : goal.returns-clause-empty_status
unfolding assertion_faults assigned_names body_command_step byte_at command_step directive_step decided decision
    declarations_of declared_names difference_in duplicates elf_header entry_point entry_section entry_symbol fault_of
    fault_text field_of first_match gathering_faults given groups head_of header_name_table header_part file_headers hex
    image image_length input_sections is_match is_discarded item_command_step layout line line_of link linked_pieces
    live
    load_address map_text mentioned_names name_faults name_value number orphans output_symbols overlaps piece_placed
    pieces_placed placed_section placement program_header provided provided_names reached referenced_value region_step
    relocation_faults rows run section_end section_headers section_step segments site_field sites sort_by section_start
    symbol_name_table output_symbol_table tables target_number target_section undefined_entry value word_of
returns-clause-empty_status c = refl

pub returns-clause-empty_map : goal.returns-clause-empty_map
unfolding assertion_faults assigned_names body_command_step byte_at command_step directive_step decided decision
    declarations_of declared_names difference_in duplicates elf_header entry_point entry_section entry_symbol fault_of
    fault_text field_of first_match gathering_faults given groups head_of header_name_table header_part file_headers hex
    image image_length input_sections is_match is_discarded item_command_step layout line line_of link linked_pieces
    live
    load_address map_text mentioned_names name_faults name_value number orphans output_symbols overlaps piece_placed
    pieces_placed placed_section placement program_header provided provided_names reached referenced_value region_step
    relocation_faults rows run section_end section_headers section_step segments site_field sites sort_by section_start
    symbol_name_table output_symbol_table tables target_number target_section undefined_entry value word_of
returns-clause-empty_map c = refl

pub returns-clause-empty_length : goal.returns-clause-empty_length
unfolding assertion_faults assigned_names body_command_step byte_at command_step directive_step decided decision
    declarations_of declared_names difference_in duplicates elf_header entry_point entry_section entry_symbol fault_of
    fault_text field_of first_match gathering_faults given groups head_of header_name_table header_part file_headers hex
    image image_length input_sections is_match is_discarded item_command_step layout line line_of link linked_pieces
    live
    load_address map_text mentioned_names name_faults name_value number orphans output_symbols overlaps piece_placed
    pieces_placed placed_section placement program_header provided provided_names reached referenced_value region_step
    relocation_faults rows run section_end section_headers section_step segments site_field sites sort_by section_start
    symbol_name_table output_symbol_table tables target_number target_section undefined_entry value word_of
returns-clause-empty_length c = refl

pub returns-clause-orphan_status : goal.returns-clause-orphan_status
unfolding assertion_faults assigned_names body_command_step byte_at command_step directive_step decided decision
    declarations_of declared_names difference_in duplicates elf_header entry_point entry_section entry_symbol fault_of
    fault_text field_of first_match gathering_faults given groups head_of header_name_table header_part file_headers hex
    image image_length input_sections is_match is_discarded item_command_step layout line line_of link linked_pieces
    live
    load_address map_text mentioned_names name_faults name_value number orphans output_symbols overlaps piece_placed
    pieces_placed placed_section placement program_header provided provided_names reached referenced_value region_step
    relocation_faults rows run section_end section_headers section_step segments site_field sites sort_by section_start
    symbol_name_table output_symbol_table tables target_number target_section undefined_entry value word_of
returns-clause-orphan_status c = refl

pub returns-clause-orphan_faults : goal.returns-clause-orphan_faults
unfolding assertion_faults assigned_names body_command_step byte_at command_step directive_step decided decision
    declarations_of declared_names difference_in duplicates elf_header entry_point entry_section entry_symbol fault_of
    fault_text field_of first_match gathering_faults given groups head_of header_name_table header_part file_headers hex
    image image_length input_sections is_match is_discarded item_command_step layout line line_of link linked_pieces
    live
    load_address map_text mentioned_names name_faults name_value number orphans output_symbols overlaps piece_placed
    pieces_placed placed_section placement program_header provided provided_names reached referenced_value region_step
    relocation_faults rows run section_end section_headers section_step segments site_field sites sort_by section_start
    symbol_name_table output_symbol_table tables target_number target_section undefined_entry value word_of
returns-clause-orphan_faults c = refl

pub returns-clause-duplicate_faults : goal.returns-clause-duplicate_faults
unfolding assertion_faults assigned_names body_command_step byte_at command_step directive_step decided decision
    declarations_of declared_names difference_in duplicates elf_header entry_point entry_section entry_symbol fault_of
    fault_text field_of first_match gathering_faults given groups head_of header_name_table header_part file_headers hex
    image image_length input_sections is_match is_discarded item_command_step layout line line_of link linked_pieces
    live
    load_address map_text mentioned_names name_faults name_value number orphans output_symbols overlaps piece_placed
    pieces_placed placed_section placement program_header provided provided_names reached referenced_value region_step
    relocation_faults rows run section_end section_headers section_step segments site_field sites sort_by section_start
    symbol_name_table output_symbol_table tables target_number target_section undefined_entry value word_of
returns-clause-duplicate_faults c = refl

pub returns-clause-call_status : goal.returns-clause-call_status
unfolding assertion_faults assigned_names body_command_step byte_at command_step directive_step decided decision
    declarations_of declared_names difference_in duplicates elf_header entry_point entry_section entry_symbol fault_of
    fault_text field_of first_match gathering_faults given groups head_of header_name_table header_part file_headers hex
    image image_length input_sections is_match is_discarded item_command_step layout line line_of link linked_pieces
    live
    load_address map_text mentioned_names name_faults name_value number orphans output_symbols overlaps piece_placed
    pieces_placed placed_section placement program_header provided provided_names reached referenced_value region_step
    relocation_faults rows run section_end section_headers section_step segments site_field sites sort_by section_start
    symbol_name_table output_symbol_table tables target_number target_section undefined_entry value word_of
returns-clause-call_status c = refl

pub returns-clause-call_map : goal.returns-clause-call_map
unfolding assertion_faults assigned_names body_command_step byte_at command_step directive_step decided decision
    declarations_of declared_names difference_in duplicates elf_header entry_point entry_section entry_symbol fault_of
    fault_text field_of first_match gathering_faults given groups head_of header_name_table header_part file_headers hex
    image image_length input_sections is_match is_discarded item_command_step layout line line_of link linked_pieces
    live
    load_address map_text mentioned_names name_faults name_value number orphans output_symbols overlaps piece_placed
    pieces_placed placed_section placement program_header provided provided_names reached referenced_value region_step
    relocation_faults rows run section_end section_headers section_step segments site_field sites sort_by section_start
    symbol_name_table output_symbol_table tables target_number target_section undefined_entry value word_of
returns-clause-call_map c = refl

pub returns-clause-call_bytes : goal.returns-clause-call_bytes
unfolding assertion_faults assigned_names body_command_step byte_at command_step directive_step decided decision
    declarations_of declared_names difference_in duplicates elf_header entry_point entry_section entry_symbol fault_of
    fault_text field_of first_match gathering_faults given groups head_of header_name_table header_part file_headers hex
    image image_length input_sections is_match is_discarded item_command_step layout line line_of link linked_pieces
    live
    load_address map_text mentioned_names name_faults name_value number orphans output_symbols overlaps piece_placed
    pieces_placed placed_section placement program_header provided provided_names reached referenced_value region_step
    relocation_faults rows run section_end section_headers section_step segments site_field sites sort_by section_start
    symbol_name_table output_symbol_table tables target_number target_section undefined_entry value word_of
returns-clause-call_bytes c = refl

pub returns-clause-call_length : goal.returns-clause-call_length
unfolding assertion_faults assigned_names body_command_step byte_at command_step directive_step decided decision
    declarations_of declared_names difference_in duplicates elf_header entry_point entry_section entry_symbol fault_of
    fault_text field_of first_match gathering_faults given groups head_of header_name_table header_part file_headers hex
    image image_length input_sections is_match is_discarded item_command_step layout line line_of link linked_pieces
    live
    load_address map_text mentioned_names name_faults name_value number orphans output_symbols overlaps piece_placed
    pieces_placed placed_section placement program_header provided provided_names reached referenced_value region_step
    relocation_faults rows run section_end section_headers section_step segments site_field sites sort_by section_start
    symbol_name_table output_symbol_table tables target_number target_section undefined_entry value word_of
returns-clause-call_length c = refl

pub returns-clause-common_map : goal.returns-clause-common_map
unfolding assertion_faults assigned_names body_command_step byte_at command_step directive_step decided decision
    declarations_of declared_names difference_in duplicates elf_header entry_point entry_section entry_symbol fault_of
    fault_text field_of first_match gathering_faults given groups head_of header_name_table header_part file_headers hex
    image image_length input_sections is_match is_discarded item_command_step layout line line_of link linked_pieces
    live
    load_address map_text mentioned_names name_faults name_value number orphans output_symbols overlaps piece_placed
    pieces_placed placed_section placement program_header provided provided_names reached referenced_value region_step
    relocation_faults rows run section_end section_headers section_step segments site_field sites sort_by section_start
    symbol_name_table output_symbol_table tables target_number target_section undefined_entry value word_of
returns-clause-common_map c = refl

pub returns-clause-common_length : goal.returns-clause-common_length
unfolding assertion_faults assigned_names body_command_step byte_at command_step directive_step decided decision
    declarations_of declared_names difference_in duplicates elf_header entry_point entry_section entry_symbol fault_of
    fault_text field_of first_match gathering_faults given groups head_of header_name_table header_part file_headers hex
    image image_length input_sections is_match is_discarded item_command_step layout line line_of link linked_pieces
    live
    load_address map_text mentioned_names name_faults name_value number orphans output_symbols overlaps piece_placed
    pieces_placed placed_section placement program_header provided provided_names reached referenced_value region_step
    relocation_faults rows run section_end section_headers section_step segments site_field sites sort_by section_start
    symbol_name_table output_symbol_table tables target_number target_section undefined_entry value word_of
returns-clause-common_length c = refl

pub returns-clause-common_symbol : goal.returns-clause-common_symbol
unfolding assertion_faults assigned_names body_command_step byte_at command_step directive_step decided decision
    declarations_of declared_names difference_in duplicates elf_header entry_point entry_section entry_symbol fault_of
    fault_text field_of first_match gathering_faults given groups head_of header_name_table header_part file_headers hex
    image image_length input_sections is_match is_discarded item_command_step layout line line_of link linked_pieces
    live
    load_address map_text mentioned_names name_faults name_value number orphans output_symbols overlaps piece_placed
    pieces_placed placed_section placement program_header provided provided_names reached referenced_value region_step
    relocation_faults rows run section_end section_headers section_step segments site_field sites sort_by section_start
    symbol_name_table output_symbol_table tables target_number target_section undefined_entry value word_of
returns-clause-common_symbol c = refl
