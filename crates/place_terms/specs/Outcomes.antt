-- What an evaluation of the code gives.
use Rattle.std.specs.Prelude.{ℕ, Option, Some, None, Result, Ok, Err}
use Rattle.ldmodel.specs.Value.{ValueFault, NotReady, NoValue}
use Rattle.place_terms.specs.declared.value.ValueFault as code
use Rattle.place_terms.specs.declared.value.ValueFault.TheVariants as variant

abbrev pub fault_of : code.ValueFault → ValueFault
fault_of (variant.NotReady name) = NotReady name.now
fault_of variant.NoValue = NoValue

abbrev pub outcome_of : Result ℕ code.ValueFault → Result ℕ ValueFault
outcome_of (Ok x) = Ok x
outcome_of (Err f) = Err (fault_of f)

-- a value, or none
abbrev pub value_if_any : Option ℕ → Result ℕ ValueFault
value_if_any (Some x) = Ok x
value_if_any None = Err NoValue
