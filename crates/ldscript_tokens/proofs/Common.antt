-- The names that most proofs of this crate cite, passed on from one place. Declares nothing.
pub use Rattle.ldscript_tokens.specs.CodeTokens.{IsInText, IsShallow, lexeme_of, token_of}
pub use Rattle.ldscript_tokens.specs.Limits.{HasShortSpelling, moded}
pub use Rattle.ldscript_tokens.specs.Modes.{IsCut, at_start, line_at, line_feeds}
unfoldable pub use Rattle.ldscript_tokens.specs.Modes.{state_after}
pub use Rattle.ldscript_tokens.specs.Numbers.{digit_value, value_in}
pub use Rattle.ldscript_tokens.specs.declared.token.CodeToken.{CodeToken}
pub use Rattle.ldscript_tokens.specs.declared.token.LexState.{LexState}
pub use Rattle.ldscript_tokens.specs.declared.token.Mode.{Mode}
pub use Rattle.std.proofs.Common.{Bool, List, None, Option, Some, [], add-one, ap, append-nil, append_assoc, arith}
pub use Rattle.std.proofs.Common.{cond, drop, drop-cons, false, fold, get_or, if◌then◌else◌, inr, length, map, nat_le}
pub use Rattle.std.proofs.Common.{refl, rules, slice_index, subst, suc, sym, take, true, ℕ, ◌&&◌, ◌*◌, ◌++◌, ◌+◌, ◌-◌}
pub use Rattle.std.proofs.Common.{◌<◌, ◌==◌, ◌^◌, ◌∙◌, ◌∷◌, ◌≡◌, ◌≤◌}
pub use Rattle.std.proofs.lemmas.List.{drop-drop, drop_all, get_or-map, length-map, map-append, take_all}
pub use Rattle.std.proofs.lemmas.List.Elements.{All-map, All-more, All-tail}
pub use Rattle.std.proofs.lemmas.List.Sums.{sum_by-append, sum_by-cons}
pub use Rattle.std.specs.List.{All, count_by, list_any, slice_range}
pub use Rattle.std.specs.Option.{option_map, option_or}
