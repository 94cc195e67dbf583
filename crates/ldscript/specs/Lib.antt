pub use Rattle.ldscript_statements.specs as statements
pub use Rattle.ldscript_terms.specs as terms
pub use Rattle.ldscript_tokens.specs as tokens
pub use Rattle.ldscript_tokens.specs.Limits
pub use Rattle.ldscript_tokens.specs.Tokens
pub use Rattle.ldscript_tokens.specs.CodeTokens
pub use Rattle.ldscript_terms.specs.Operators
pub use Rattle.ldscript_terms.specs.Expressions
pub use Rattle.ldscript_terms.specs.DotForms
pub use Rattle.ldscript_terms.specs.Parts
pub use Rattle.ldscript_terms.specs.Matching
pub use Rattle.ldscript_terms.specs.CodeTerms
pub use Rattle.ldscript_statements.specs.Dots
pub use Rattle.ldscript_statements.specs.Fill
pub use Rattle.ldscript_statements.specs.Given
pub use Rattle.ldscript_statements.specs.Mentions
pub use Rattle.ldscript_statements.specs.Numbered
pub use Rattle.ldscript_statements.specs.Numbering
pub use Rattle.ldscript_statements.specs.Tables
pub use Rattle.ldscript_statements.specs.Widths
pub mod RefusalNumber
pub mod Steps
pub mod Grammar
pub mod Readings
pub mod Script
