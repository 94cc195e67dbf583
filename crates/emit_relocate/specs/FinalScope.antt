-- What the conditions of ASSERTs may name, as the code finds it, and the faults of those that do not hold.
use Rattle.std.specs.Prelude.{ℕ, Bool, List, [], ◌∷◌, Option, filter, if◌then◌else◌, map, not, slice_get}
use Rattle.std.specs.Option.{option_and_then, option_map}
use Rattle.ldscript.specs.terms.Expressions.{Expr}
use Rattle.ldscript.specs.statements.Given.{region_number, section_number}
use Rattle.ldscript.specs.statements.Numbering.{AssertionAt}
use Rattle.ldmodel.specs.Assertions.{is_true_value, number_if_any}
use Rattle.ldmodel.specs.Fault.{Fault, AssertionFailed}
use Rattle.ldmodel.specs.Value.{Scope, value}
use Rattle.ldmodel.specs.declared.fault.Fault as code
use Rattle.ldmodel.specs.declared.fault.Fault.TheVariants as variant
use Rattle.place.specs.terms.Scopes.{region_numbers, section_numbers}
use Rattle.emit_relocate.specs.AssertedSymbols.{found_symbol, value_found}
use Rattle.emit_relocate.specs.declared.final_scope.FinalScope.{FinalScope}

-- the member of a number
abbrev pub numbered : {A : Type 0} → List A → Option ℕ → Option A
numbered xs k = option_and_then (λ (i : ℕ). slice_get xs i) k

abbrev pub meaning_of : FinalScope → Scope
meaning_of f = record {
  symbol = λ name. number_if_any (value_found (found_symbol f.symbols.list.now name));
  section = λ name. option_map section_numbers (numbered f.placement.sections.now (section_number f.script.now name));
  region = λ name. option_map region_numbers (numbered f.placement.regions.now (region_number f.script.now name));
}

abbrev pub holds_in : Scope → Expr → Bool
holds_in scope condition = is_true_value (value scope 0 condition)

-- the fault of an ASSERT, by its number
abbrev pub fault_unless : Bool → ℕ → List code.Fault
fault_unless holds number = if holds then [] else variant.AssertionFailed (record { 0 = number }) ∷ []

-- the faults of these ASSERTs
abbrev pub failures : Scope → List AssertionAt → List Fault
failures scope xs =
    map (λ (a : AssertionAt). AssertionFailed a.line a.assertion.message)
    (filter (λ (a : AssertionAt). not (holds_in scope a.assertion.condition)) xs)
