-- What the order of mentions says of two that it takes for equal.
use Rattle.ldscript_statements.proofs.Common.{Bool, arith, bytes_eq-Decides, is_eq, mention_of, true, ◌≡◌}
use Rattle.std.proofs.lemmas.Map.Text.{is_eq-slice_cmp}
use Rattle.ldscript_statements.specs.declared.mention.Mention as code
use Rattle.ldscript_statements.specs.contracts.mention.MentionOrd.TheImpl as derived

abbrev pub same : code.Mention → code.Mention → Bool
same x y = is_eq (derived.cmp-value.it x y)

pub same_shown : (x y : code.Mention) → same x y ≡ true → mention_of x ≡ mention_of y
same_shown x y h = grind (arith, bytes_eq-Decides, is_eq-slice_cmp)

pub shown_same : (x y : code.Mention) → mention_of x ≡ mention_of y → same x y ≡ true
shown_same x y h = grind (arith, bytes_eq-Decides, is_eq-slice_cmp)
