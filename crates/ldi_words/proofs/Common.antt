-- The names that most proofs of this crate cite, passed on from one place. Declares nothing.
pub use Rattle.clap.proofs.WalkLemmas.{both, first_value-rows, list_any-map, one_text-rows, raw_values-rows}
pub use Rattle.clap.specs.Kinds.{HasKind, IsAmong, Kinds, or_else, range_kinds, request_kinds}
pub use Rattle.clap.specs.Simple.{Shape, built, entered, is_simple, label_of, names_of, new_shape, rows_at}
pub use Rattle.clap.specs.Takes.{is_given, value_passes}
pub use Rattle.clap.specs.Words.{App, Text, found_of, new_app, rows_of, subcommand_of, takes}
pub use Rattle.clap.specs.declared.builder.value_parser.Reading.{Reading}
pub use Rattle.clap.specs.declared.error.kind.ErrorKind.TheVariants.{OutOfMemory, TooManyValues}
pub use Rattle.clap.specs.declared.parser.matches.ValueSource.{ValueSource}
pub use Rattle.clap.specs.declared.parser.matches.ValueSource.TheVariants.{CommandLine, DefaultValue}
pub use Rattle.ldi_words.specs.Call.{HasOptions, IsCallOf, IsFlag, NamesOrphans, StatesCall, StatesFiles, StatesOptions}
pub use Rattle.ldi_words.specs.Command.{Choices, IsApp, ListsOrphans, ldi}
pub use Rattle.std.proofs.Common.{Bool, Err, IsErrAnd, IsSome, IsTrue, List, MatchResult, None, Ok, Option, Result}
pub use Rattle.std.proofs.Common.{Some, [], ap, ap₂, arith, codes, drop, false, inl, inr, is_some, length, lt-ltb, map}
pub use Rattle.std.proofs.Common.{ne_eqb, not, refl, rules, string_bytes, subst, suc, sym, take, true, true≢false}
pub use Rattle.std.proofs.Common.{unwrap_or, zero, ℕ, ◌&&◌, ◌++◌, ◌<◌, ◌||◌, ◌↔◌, ◌∙◌, ◌∷◌, ◌≡◌, ◌≢◌}
pub use Rattle.std.proofs.lemmas.Result.{IfOk-weaker}
pub use Rattle.std.specs.List.{find, fold, list_all, list_any}
pub use Rattle.std.specs.Option.{option_map_or}
pub use Rattle.std.specs.Prelude.{cond, encode_utf8, if◌then◌else◌, nat_lt, option_and_then, option_map, slice_get}
pub use Rattle.std.specs.Str.{bytes_eq}
