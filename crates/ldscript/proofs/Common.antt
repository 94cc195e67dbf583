-- The names that most proofs of this crate cite, passed on from one place. Declares nothing.
pub use Rattle.ldscript.specs.Grammar.{asserted, body_statement, directive, dot_command, ended, in_parentheses}
pub use Rattle.ldscript.specs.Grammar.{input_statement, item_statement, provided_assignment, region, top_statement}
pub use Rattle.ldscript.specs.Readings.{EndsSection, Follows, IsOfParts, Maybe, NoneAt, NoneUntil, Reads, Takes}
pub use Rattle.ldscript.specs.Readings.{TakesOnly, TakesTail, data_part, discard_head, excluded_files, head_part}
pub use Rattle.ldscript.specs.Readings.{opened_part, selected, tail_part, width_part, word_part}
pub use Rattle.ldscript.specs.Steps.{Rule, each, expression, key, mark, pattern, some, statements, string, token, ◌▸◌}
pub use Rattle.ldscript.specs.declared.read_section.SectionTail.{SectionTail}
pub use Rattle.ldscript_statements.specs.declared.directive.Directive.{Directive}
pub use Rattle.ldscript_statements.specs.declared.directive.DotCommand.TheVariants.{Add, Set}
pub use Rattle.ldscript_statements.specs.declared.input.Input.{Input}
pub use Rattle.ldscript_statements.specs.declared.input.InputStatement.{InputStatement}
pub use Rattle.ldscript_statements.specs.declared.section.BodyStatement.{BodyStatement}
pub use Rattle.ldscript_terms.specs.Expressions.{Expr}
pub use Rattle.ldscript_terms.specs.Grammar.{Sign, Whole}
pub use Rattle.ldscript_terms.specs.Reading.{OneTree, Stops, StopsAt}
pub use Rattle.ldscript_tokens.specs.Tokens.{Discard, Lexeme, Name, Punctuation, first_line, lexeme}
unfoldable pub use Rattle.ldscript_tokens.specs.Words.{is_free_name, is_free_word, is_reserved}
pub use Rattle.ldscript_tokens.specs.declared.token.Mark.{Mark}
pub use Rattle.ldscript_tokens.specs.declared.token.Mark.TheVariants.{AddAssign, Assign, CloseBrace, CloseParenthesis}
pub use Rattle.ldscript_tokens.specs.declared.token.Mark.TheVariants.{Colon, Comma, Greater, OpenBrace, OpenParenthesis}
pub use Rattle.ldscript_tokens.specs.declared.token.Mark.TheVariants.{Semicolon}
pub use Rattle.ldscript_tokens.specs.declared.token.Mode.{Mode}
pub use Rattle.ldscript_tokens.specs.declared.token.Mode.TheVariants.{Expression, Pattern}
pub use Rattle.std.proofs.Common.{Bool, Err, List, None, Ok, Option, Result, Some, [], ap, append_assoc, arith, false}
pub use Rattle.std.proofs.Common.{inl, inr, length, refl, rules, subst, sym, true, ℕ, ◌&&◌, ◌++◌, ◌<◌, ◌∙◌, ◌∷◌, ◌≡◌}
pub use Rattle.std.proofs.Common.{◌≤◌, ◌⊎◌}
pub use Rattle.std.proofs.lemmas.Bool.{false≢true}
pub use Rattle.std.proofs.lemmas.List.{append-nil}
pub use Rattle.std.specs.Prelude.{IfOk, IfSome, IsTrue, bytes_eq, codes, if◌then◌else◌}
