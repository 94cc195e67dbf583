-- The names that most proofs of this crate cite, passed on from one place. Declares nothing.
pub use Rattle.ldscript_terms.specs.CodeTerms.{IsSingle, code_byte, exact_name, expr_of, part_of}
pub use Rattle.ldscript_terms.specs.Expressions.{Expr, Name}
pub use Rattle.ldscript_terms.specs.Forms.{IsForm, parts_in, spelled}
pub use Rattle.ldscript_terms.specs.Matching.{Matches, Meets}
pub use Rattle.ldscript_terms.specs.Parts.{AnyByte, AnyRun, Byte, OneOf, Part, is_in_any, ranges_of}
pub use Rattle.ldscript_terms.specs.Spelling.{SpellsPart, SpellsPattern, is_plain}
pub use Rattle.ldscript_terms.specs.Trying.{BeginsWith, EndsHere, IsSpelled, Passed}
pub use Rattle.ldscript_terms.specs.declared.expression.SectionQuery.{SectionQuery}
pub use Rattle.ldscript_terms.specs.declared.operator.BinaryOperator.{BinaryOperator}
pub use Rattle.ldscript_terms.specs.declared.operator.UnaryOperator.{UnaryOperator}
pub use Rattle.ldscript_terms.specs.declared.part.CodePart.{CodePart}
pub use Rattle.ldscript_tokens.specs.Tokens.{Lexeme, Punctuation, Token, lexeme}
pub use Rattle.ldscript_tokens.specs.declared.token.Mark.{Mark}
pub use Rattle.ldscript_tokens.specs.declared.token.Mark.TheVariants.{CloseParenthesis, Colon, Comma, OpenParenthesis}
pub use Rattle.ldscript_tokens.specs.declared.token.Mark.TheVariants.{Question}
pub use Rattle.std.proofs.Common.{Bool, Err, IfSome, IsTrue, List, MatchOption, None, Ok, Option, Result, Some, [], ap}
pub use Rattle.std.proofs.Common.{append-nil, append_assoc, arith, cond, drop, eqb, false, get_or, inl, inr, length}
pub use Rattle.std.proofs.Common.{length-append, ltb, map, refl, rules, subst, suc, sym, take, true, zero, ℕ, ◌&&◌, ◌*◌}
pub use Rattle.std.proofs.Common.{◌++◌, ◌+◌, ◌-◌, ◌<◌, ◌^◌, ◌||◌, ◌↔◌, ◌∙◌, ◌∷◌, ◌≡◌, ◌≢◌, ◌≤◌, ◌⊎◌}
pub use Rattle.std.proofs.Math.Seq.{drop-append_seam}
pub use Rattle.std.proofs.lemmas.Bool.{eq-eqb, eqb-true, false≢true}
pub use Rattle.std.specs.Option.{option_map}
