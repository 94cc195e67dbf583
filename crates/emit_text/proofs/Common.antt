-- The names that most proofs of this crate cite, passed on from one place. Declares nothing.
pub use Rattle.elfobj.specs.declared.section.Section.{Section}
pub use Rattle.emit_text.specs.LineWords.{shown, spaced_words}
pub use Rattle.emit_text.specs.Naming.{line_of_fault, numbered, shown_assertions}
pub use Rattle.emit_text.specs.ShownMap.{piece_text, pieces_text, section_text, sections_text, symbols_text, value_text}
unfoldable pub use Rattle.emit_text.specs.ShownMap.{shown_map}
pub use Rattle.emit_text.specs.declared.symbols.MapSymbol.{MapSymbol}
pub use Rattle.ldmodel.specs.Each.{Each}
unfoldable pub use Rattle.ldmodel.specs.FaultText.{fault_text}
unfoldable pub use Rattle.ldmodel.specs.Lines.{hex, line_of}
pub use Rattle.ldmodel.specs.OutputSymbols.{is_before, is_defined, owner}
pub use Rattle.ldmodel.specs.Project.{Project}
pub use Rattle.ldmodel.specs.declared.rows.Piece.{Piece}
pub use Rattle.ldmodel_project.specs.ByPlace.{faults_in, piece_in}
pub use Rattle.ldscript.specs.Numbered.{shown_directives, shown_sections}
pub use Rattle.ldscript.specs.Numbering.{OutputSectionAt, asserted_in, output_sections}
pub use Rattle.std.proofs.Common.{Bool, List, Option, [], ap, append-nil, append_assoc, arith, codes, cond, drop, false}
pub use Rattle.std.proofs.Common.{filter, flat_map, get_or, inl, inr, length, map, min, nat_lt, not, refl, rules}
pub use Rattle.std.proofs.Common.{slice_get, subst, suc, sym, take, true, zero, ℕ, ⊎_elim, ◌%◌, ◌*◌, ◌++◌, ◌+◌, ◌-◌}
pub use Rattle.std.proofs.Common.{◌/◌, ◌<◌, ◌==◌, ◌^◌, ◌∙◌, ◌∷◌, ◌≡◌, ◌≢◌, ◌≤◌, ◌⊎◌}
pub use Rattle.std.proofs.lemmas.List.{at_drop_all, at_drop_more, drop_min, drop_more, get_or_default, length-append}
pub use Rattle.std.proofs.lemmas.List.{length-drop, length-take-le, take-append-drop, take-take, take_all}
pub use Rattle.std.specs.Prelude.{All, AllPairs, Contains, IfNone, IfSome, MatchOption, None, Some, bytes_eq}
pub use Rattle.std.specs.Vec.{vec_items}
