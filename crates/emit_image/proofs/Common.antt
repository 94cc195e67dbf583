-- The names that most proofs of this crate cite, passed on from one place. Declares nothing.
pub use Rattle.elfobj.specs.Counts.{Counts, capped}
pub use Rattle.elfobj.specs.Raised.{raised}
pub use Rattle.elfobj.specs.RelocationKinds.{width}
pub use Rattle.elfobj.specs.declared.meter.Count.TheVariants.{Bytes}
pub use Rattle.emit_fields.specs.Patches.{AreInOrder, patch_end, patched_byte}
pub use Rattle.emit_fields.specs.declared.patch.Patch.{Patch}
pub use Rattle.emit_image.specs.Drawing.{AreParts, ArePieces, AreSections, IsDrawing, IsOrderly, covers_data}
pub use Rattle.emit_image.specs.Drawing.{covers_part, covers_piece, covers_section, drawing_end, end_of_parts}
pub use Rattle.emit_image.specs.Drawing.{end_of_sections, last_end, part_end, piece_byte, spot_among, spot_past_headers}
unfoldable pub use Rattle.emit_image.specs.Drawing.{drawing_spot, section_spot}
pub use Rattle.emit_image.specs.Drawn.{IsDrawnFor, count_unstayed}
pub use Rattle.emit_image.specs.HeaderRecord.{header_of}
pub use Rattle.emit_image.specs.OfLink.{IsDrawingOf, IsImageData, IsImagePart, IsImagePiece, IsImageSection, loaded}
pub use Rattle.emit_image.specs.Painted.{IsPainted, IsReady, count_from}
pub use Rattle.emit_image.specs.Reached.{ArePartsReached, AreSectionsReached, DataFrom, IsReached, PiecesFrom}
pub use Rattle.emit_image.specs.Reached.{after_zeros, file_offset_of, part_image, section_image}
pub use Rattle.emit_image.specs.Redrawings.{EachPiece, HasStayed, IsMarkedIfStayed, linked_in}
pub use Rattle.emit_image.specs.SegmentBytes.{file_end_of, starts_before}
unfoldable pub use Rattle.emit_image.specs.SegmentBytes.{segment_bytes}
pub use Rattle.emit_image.specs.Stretches.{EndsBy, IsPatchOf, Spot, is_patched, patch_bytes}
pub use Rattle.emit_image.specs.Tables.{entry_of, header_names_of, names_of, section_header_of}
unfoldable pub use Rattle.emit_image.specs.Tables.{output_headers_of, symbol_table_of}
pub use Rattle.emit_image.specs.declared.section.Drawing.{Drawing}
pub use Rattle.emit_image.specs.declared.section.ImagePart.{ImagePart}
pub use Rattle.emit_image.specs.declared.section.ImagePiece.{ImagePiece}
pub use Rattle.emit_image.specs.declared.section.ImageSection.{ImageSection}
pub use Rattle.emit_image.specs.declared.sections.Header.{Header}
pub use Rattle.emit_image.specs.declared.sections.TableSection.{TableSection}
pub use Rattle.emit_image.specs.declared.symbols.TableSymbol.{TableSymbol}
pub use Rattle.ldmodel.specs.Each.{Each}
pub use Rattle.ldmodel.specs.Image.{covering_data, covering_piece, covers, file_section_at, fill_byte, tail_at}
unfoldable pub use Rattle.ldmodel.specs.Image.{byte_at, file_headers, image}
pub use Rattle.ldmodel.specs.Layout.{Layout, PlacedOutput, PlacedPiece}
pub use Rattle.ldmodel.specs.Project.{Project}
pub use Rattle.ldmodel.specs.SectionHeaders.{FilePart, SectionHeader, end_of_part, header_bytes, part_at, table_headers}
pub use Rattle.ldmodel.specs.SectionHeaders.{tail}
unfoldable pub use Rattle.ldmodel.specs.SectionHeaders.{header_part, image_length, tables}
pub use Rattle.ldmodel.specs.Segments.{SectionInFile, end_of, file_offset, in_file, loaded_end, nonempty, segment_start}
unfoldable pub use Rattle.ldmodel.specs.Segments.{segments}
pub use Rattle.ldmodel.specs.Sorting.{IsOrdered, insert_by}
unfoldable pub use Rattle.ldmodel.specs.Sorting.{sort_by}
pub use Rattle.ldmodel.specs.Stayed.{FileRange, GoodLink, range_in}
pub use Rattle.ldmodel.specs.Tail.{SymbolEntry, name_offset, string_table, symbol_bytes}
pub use Rattle.ldmodel.specs.WorkBound.{bytes_stayed, retargeted_bytes}
pub use Rattle.ldmodel_laws.proofs.Members.{any_in, here, in_filter, later}
pub use Rattle.ldmodel_laws.specs.FileLayout.{BeginFrom, IsFileLayout, IsTogether, Neighbours, Shares}
pub use Rattle.ldmodel_laws.specs.Spread.{IsSpread}
pub use Rattle.ldmodel_laws.specs.Untouched.{HasField, IsGood, IsOutside}
pub use Rattle.ldscript.specs.statements.Widths.{byte_count}
pub use Rattle.ldscript.specs.statements.declared.section.Width.{Width}
pub use Rattle.ldscript.specs.statements.declared.section.Width.TheVariants.{Byte, Long, Quad, Short}
pub use Rattle.std.proofs.Common.{Bool, Bor, Err, List, None, Ok, OnOk, Option, Result, Some, [], ap, append-nil}
pub use Rattle.std.proofs.Common.{append_assoc, arith, cond, drop, false, filter, flat_map, get_or, inl, inr, length}
pub use Rattle.std.proofs.Common.{map, max, min, not, refl, rules, subst, suc, sym, take, true, zero, ℕ, ◌%◌, ◌*◌, ◌++◌}
pub use Rattle.std.proofs.Common.{◌+◌, ◌-◌, ◌<◌, ◌^◌, ◌↔◌, ◌∙◌, ◌∷◌, ◌≡◌, ◌≤◌, ◌⊎◌}
pub use Rattle.std.proofs.Math.Nat.{add-zero, zero-add}
pub use Rattle.std.proofs.lemmas.Bool.{cases_lt, true≢false}
pub use Rattle.std.proofs.lemmas.Bool.Decides.{leb_tells, nat_tests}
pub use Rattle.std.proofs.lemmas.List.{get_or-append-add, get_or-map, get_or_append_left, length-append, length-map}
pub use Rattle.std.proofs.lemmas.List.{length-take-le, map-append, take_all}
pub use Rattle.std.proofs.lemmas.List.Concat.{flat_map-cons, length-flat_map}
pub use Rattle.std.proofs.lemmas.List.Elements.{filter-append}
pub use Rattle.std.proofs.lemmas.List.Sums.{fold-append, sum_by-append, sum_by-cons, sum_by_more}
pub use Rattle.std.proofs.lemmas.Slice.Zip.{AllZip-long}
pub use Rattle.std.specs.Cmp.{IsStrictWeakOrder, nat_cmp_total}
pub use Rattle.std.specs.Int.{next_multiple_of}
pub use Rattle.std.specs.List.{All, AllZip, Contains, enumerate_from, find, fold}
pub use Rattle.std.specs.Option.{option_map, option_or}
pub use Rattle.std.specs.Prelude.{codes, nat_le, nat_lt, replicate, slice_index, slice_set, sum_by, ◌&&◌, ◌==◌, ◌||◌}
