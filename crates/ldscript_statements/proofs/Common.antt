-- The names that most proofs of this crate cite, passed on from one place. Declares nothing.
pub use Rattle.ldscript_statements.specs.Fill.{hex_bytes, hex_pair, with_pair}
pub use Rattle.ldscript_statements.specs.Given.{assigned_from, provided_from, region_from, section_from}
pub use Rattle.ldscript_statements.specs.Listed.{HasClashIn, Holds, IsOnce, Meets, mention_of, shown}
pub use Rattle.ldscript_statements.specs.Mentions.{Clashes, EntryGiven, HasClash, MemoryGiven, Mention, RegionDeclared}
pub use Rattle.ldscript_statements.specs.Mentions.{RegionUsed, SectionNamed, SectionsGiven, SymbolGiven, in_body}
pub use Rattle.ldscript_statements.specs.Mentions.{in_expression, in_items, in_regions, mentions, regions_of, used}
pub use Rattle.ldscript_statements.specs.NameKinds.{kind_of}
unfoldable pub use Rattle.ldscript_statements.specs.NameKinds.{has_kind}
pub use Rattle.ldscript_statements.specs.NumberTables.{number_at}
pub use Rattle.ldscript_statements.specs.Numbered.{shown_directives, shown_inputs, shown_items, shown_regions}
pub use Rattle.ldscript_statements.specs.Numbered.{shown_sections}
pub use Rattle.ldscript_statements.specs.Numbering.{all_directives, directives_in, discarded_inputs, entry_of}
pub use Rattle.ldscript_statements.specs.Numbering.{inputs_from, inputs_in, items, items_directives, regions}
pub use Rattle.ldscript_statements.specs.Numbering.{sections_in}
pub use Rattle.std.proofs.Common.{Bool, Bor, Err, IfOk, List, MatchBool, None, Ok, Option, Result, Some, [], ap}
pub use Rattle.std.proofs.Common.{append_assoc, arith, cond, drop, false, get_or, inl, inr, length, length-append, not}
pub use Rattle.std.proofs.Common.{refl, rules, subst, suc, sym, take, true, zero, ℕ, ◌%◌, ◌++◌, ◌+◌, ◌-◌, ◌<◌, ◌==◌}
pub use Rattle.std.proofs.Common.{◌^◌, ◌∙◌, ◌∷◌, ◌≡◌, ◌≢◌, ◌≤◌, ◌⊎◌}
pub use Rattle.std.proofs.lemmas.Bool.{false≢true, true≢false}
pub use Rattle.std.proofs.lemmas.Nat.Bits.{bit_at-lt, bit_at-zero, bit_at_or, bit_at_set_same, shr_and_one}
pub use Rattle.std.proofs.lemmas.Slice.Eq.{bytes_eq-Decides}
pub use Rattle.std.specs.Cmp.Lexicographic.{slice_cmp}
pub use Rattle.std.specs.Int.{bit_at, w64}
pub use Rattle.std.specs.Int.Bits.{bit_or}
pub use Rattle.std.specs.Map.{lookup}
pub use Rattle.std.specs.Ordering.{is_eq, match_ordering, nat_cmp}
pub use Rattle.std.specs.Prelude.{OnErr, OnOk, bytes_eq, is_some, max, slice_index, ◌*◌, ◌||◌}
pub use Rattle.std.specs.declared.cmp.Ordering.{Ordering}
