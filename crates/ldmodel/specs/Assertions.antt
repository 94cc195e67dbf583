-- ASSERT (GNU ld manual, "Other Linker Script Commands"): each condition is evaluated at the end of the link, where
-- every name has what it stands for and every output section stands, those after the ASSERT too. One that has no value
-- does not hold: where it names a symbol that is undefined or not in the output, or a section that the script does not
-- have, divides by 0, or aligns to no power of two.
use Rattle.std.specs.Prelude.{ℕ, List, filter, map, Option, Some, None, Result, Ok, Err, Bool, false, not}
use Rattle.ldscript.specs.terms.Expressions.{Expr}
use Rattle.ldscript.specs.statements.Numbering.{AssertionAt, asserts}
use Rattle.ldmodel.specs.Fault.{Fault, AssertionFailed}
use Rattle.ldmodel.specs.Layout.{Layout, section_numbers, region_numbers}
use Rattle.ldmodel.specs.Project.{Project}
use Rattle.ldmodel.specs.SymbolValues.{SymbolValue, Number, NotDefined, NotInOutput, name_value}
use Rattle.ldmodel.specs.Value.{Scope, ValueFault, value, is_true}

abbrev pub number_if_any : SymbolValue → Option ℕ
number_if_any (Number x) = Some x
number_if_any NotDefined = None
number_if_any NotInOutput = None

-- what a condition may name
abbrev pub final_scope : Project → Layout → Scope
final_scope project layout = record {
  symbol = λ name. number_if_any (name_value project layout name);
  section = section_numbers layout;
  region = region_numbers layout;
}

abbrev pub is_true_value : Result ℕ ValueFault → Bool
is_true_value (Ok x) = is_true x
is_true_value (Err f) = false

-- no condition has `.`, so its value may be any
abbrev pub condition_holds : Project → Layout → Expr → Bool
condition_holds project layout e = is_true_value (value (final_scope project layout) 0 e)

abbrev pub fails : Project → Layout → AssertionAt → Bool
fails project layout entry = not (condition_holds project layout entry.assertion.condition)

-- the faults of ASSERTs, in the order of the text
unfoldable pub assertion_faults : Project → Layout → List Fault
assertion_faults project layout =
    map (λ (entry : AssertionAt). AssertionFailed entry.line entry.assertion.message)
    (filter (fails project layout) (asserts project.script))
