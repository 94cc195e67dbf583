use Rattle.ldscript_terms.proofs.Common.{arith, expr_of, subst, suc, ◌-◌, ◌≡◌}
use Rattle.ldscript_terms.specs.Reading.{Reads}
use Rattle.ldscript_terms.specs.Grammar.{Within}
use Rattle.ldscript_terms.proofs.Readings.{number_reading, dot_reading, name_reading, of_region_reading}
use Rattle.ldscript_terms.proofs.Readings.{of_section_reading}
use Rattle.ldscript_terms.proofs.Readings.{group_reading, one_reading, two_reading, unary_reading, level_start}
use Rattle.ldscript_terms.proofs.Readings.{level_end}
use Rattle.ldscript_terms.proofs.Readings.{level_step, operators_reading, choice_reading}
use Rattle.ldscript_terms.proofs.Refusals.{group_none, group_open, of_region_none, of_section_none, align_reads}
use Rattle.ldscript_terms.proofs.Refusals.{arguments_unopened, first_argument_none, arguments_unclosed}
use Rattle.ldscript_terms.proofs.Refusals.{second_argument_none}
use Rattle.ldscript_terms.proofs.Refusals.{second_argument_unclosed, primary_reads, unary_none, level_none, level_stuck}
use Rattle.ldscript_terms.proofs.Refusals.{whole_none, first_choice_none, no_colon, second_choice_none}
use Rattle.ldscript_terms.proofs.reader.+reader.Goals as goal

pub arguments-returns-in_default : goal.arguments-returns-in_default
arguments-returns-in_default t c = arguments_unopened c.in_default.ensures

pub arguments-returns-in_default-2 : goal.arguments-returns-in_default-2
arguments-returns-in_default-2 t c =
    first_argument_none c.in-Some.ensures (rw c.in_default-2.is at c.in_ok-first.ensures)

pub arguments-returns-in-Some-after : goal.arguments-returns-in-Some-after
arguments-returns-in-Some-after t c =
    rw c.in_ok-new.ensures.ok (one_reading c.in-Some.ensures
    (rw c.in-Some-2.is at c.in_ok-first.ensures) c.in-Some-after.ensures)

pub arguments-returns-in_default-after-2 : goal.arguments-returns-in_default-after-2
arguments-returns-in_default-after-2 t c =
    arguments_unclosed c.in-Some.ensures
    (rw c.in-Some-2.is at c.in_ok-first.ensures) c.in_default-after.ensures c.in_default-after-2.ensures

pub arguments-returns-in_default-3 : goal.arguments-returns-in_default-3
arguments-returns-in_default-3 t c =
    second_argument_none c.in-Some.ensures (rw c.in-Some-2.is at c.in_ok-first.ensures) c.in-Some-after-2.ensures
    (rw c.in_default-3.is at c.in_ok-second.ensures)

pub arguments-returns-in_default-after-3 : goal.arguments-returns-in_default-after-3
arguments-returns-in_default-after-3 t c =
    second_argument_unclosed c.in-Some.ensures (rw c.in-Some-2.is at c.in_ok-first.ensures) c.in-Some-after-2.ensures
    (rw c.in-Some-3.is at c.in_ok-second.ensures) c.in_default-after-3.ensures

pub arguments-returns : goal.arguments-returns
arguments-returns t c =
    rw (c.in_ok-new-2.ensures.ok, c.in_ok-new-3.ensures.ok)
    (two_reading c.in-Some.ensures (rw c.in-Some-2.is at c.in_ok-first.ensures) c.in-Some-after-2.ensures
    (rw c.in-Some-3.is at c.in_ok-second.ensures) c.in-Some-after-3.ensures)

pub binary-returns-in_default : goal.binary-returns-in_default
binary-returns-in_default t c = level_none (rw c.in_default.is at c.in_ok-tree.ensures)

pub binary-loop-operator-init : goal.binary-loop-operator-init
binary-loop-operator-init t c = level_start (rw c.in-Some.is at c.in_ok-tree.ensures)

pub binary-returns-in_default-binary_ahead : goal.binary-returns-in_default-binary_ahead
binary-returns-in_default-binary_ahead t c = level_end c.loop-operator.invariant c.in_default-binary_ahead.ensures

pub binary-returns-in_default-2 : goal.binary-returns-in_default-2
binary-returns-in_default-2 t c =
    level_stuck c.loop-operator.invariant c.in-Some-binary_ahead.ensures (rw c.in_default-2.is at c.in_ok-right.ensures)

pub binary-loop-operator-preserved : goal.binary-loop-operator-preserved
binary-loop-operator-preserved t c =
    rw (c.in_ok-new.ensures.ok, c.in_ok-new-2.ensures.ok)
    (level_step c.loop-operator.invariant c.in-Some-binary_ahead.ensures
    (rw c.in-Some-2.is at c.in_ok-right.ensures))

pub primary-returns-in_default-name_in_parentheses : goal.primary-returns-in_default-name_in_parentheses
primary-returns-in_default-name_in_parentheses t c =
    of_region_none (rw c.in-OfRegion.is at c.in-Some.ensures) c.in_default-name_in_parentheses.ensures

pub primary-returns-in_default-name_in_parentheses-2 : goal.primary-returns-in_default-name_in_parentheses-2
primary-returns-in_default-name_in_parentheses-2 t c =
    of_section_none (rw c.in-OfSection.is at c.in-Some.ensures) c.in_default-name_in_parentheses-2.ensures

pub primary-returns-in_default-2 : goal.primary-returns-in_default-2
primary-returns-in_default-2 t c =
    group_none (rw c.in-Group.is at c.in-Some.ensures) (rw c.in_default-2.is at c.in_ok-tree-in-Group.ensures)

pub primary-returns-in_default-after : goal.primary-returns-in_default-after
primary-returns-in_default-after t c =
    group_open (rw c.in-Group.is at c.in-Some.ensures)
    (rw c.in-Some-2.is at c.in_ok-tree-in-Group.ensures) c.in_default-after.ensures

pub primary-returns-in-Number : goal.primary-returns-in-Number
primary-returns-in-Number t c = let h = rw c.in-Number.is at c.in-Some.ensures in number_reading h.0 h.1

pub primary-returns-in-Dot : goal.primary-returns-in-Dot
primary-returns-in-Dot t c = dot_reading (rw c.in-Dot.is at c.in-Some.ensures)

pub primary-returns-in_ok-name-in-Name : goal.primary-returns-in_ok-name-in-Name
primary-returns-in_ok-name-in-Name t c =
    rw c.in_ok-name-in-Name.ensures (name_reading (rw c.in-Name.is at c.in-Some.ensures))

pub primary-returns-in_ok-name-in-OfRegion : goal.primary-returns-in_ok-name-in-OfRegion
primary-returns-in_ok-name-in-OfRegion t c =
    rw c.in_ok-name-in-OfRegion.ensures
    (of_region_reading (rw c.in-OfRegion.is at c.in-Some.ensures) c.in-Some-name_in_parentheses.ensures)

pub primary-returns-in_ok-name-in-OfSection : goal.primary-returns-in_ok-name-in-OfSection
primary-returns-in_ok-name-in-OfSection t c =
    rw c.in_ok-name-in-OfSection.ensures
    (of_section_reading (rw c.in-OfSection.is at c.in-Some.ensures) c.in-Some-name_in_parentheses-2.ensures)

pub primary-returns-in-Align : goal.primary-returns-in-Align
primary-returns-in-Align t c =
    align_reads (λ x. expr_of x.0) (λ x. x.1) c.arguments.result
    (rw c.in-Align.is at c.in-Some.ensures) c.arguments.ensures

pub primary-returns-in-Some-after : goal.primary-returns-in-Some-after
primary-returns-in-Some-after t c =
    group_reading (rw c.in-Group.is at c.in-Some.ensures)
    (rw c.in-Some-2.is at c.in_ok-tree-in-Group.ensures) c.in-Some-after.ensures

pub unary-returns-in_default : goal.unary-returns-in_default
unary-returns-in_default t c =
    primary_reads (λ x. expr_of x.0) (λ x. x.1) c.primary.result c.in_default.ensures c.primary.ensures

pub unary-returns-in_default-2 : goal.unary-returns-in_default-2
unary-returns-in_default-2 t c = unary_none c.in-Some.ensures (rw c.in_default-2.is at c.in_ok-operand.ensures)

pub unary-returns : goal.unary-returns
unary-returns t c = rw c.in_ok-new.ensures.ok
    (unary_reading c.in-Some.ensures (rw c.in-Some-2.is at c.in_ok-operand.ensures))

pub whole-returns-in_default : goal.whole-returns-in_default
whole-returns-in_default t c = whole_none (rw c.in_default.is at c.in_ok-test.ensures)

pub whole-returns-in_default-after : goal.whole-returns-in_default-after
whole-returns-in_default-after t c =
    operators_reading (rw c.in-Some.is at c.in_ok-test.ensures) c.in_default-after.ensures

pub whole-returns-in_default-2 : goal.whole-returns-in_default-2
whole-returns-in_default-2 t c =
    first_choice_none (rw c.in-Some.is at c.in_ok-test.ensures) c.in-Some-after.ensures
    (rw c.in_default-2.is at c.in_ok-first.ensures)

pub whole-returns-in_default-after-2 : goal.whole-returns-in_default-after-2
whole-returns-in_default-after-2 t c =
    no_colon (rw c.in-Some.is at c.in_ok-test.ensures) c.in-Some-after.ensures
    (rw c.in-Some-2.is at c.in_ok-first.ensures) c.in_default-after-2.ensures

pub whole-returns-in_default-3 : goal.whole-returns-in_default-3
whole-returns-in_default-3 t c =
    second_choice_none (rw c.in-Some.is at c.in_ok-test.ensures) c.in-Some-after.ensures
    (rw c.in-Some-2.is at c.in_ok-first.ensures) c.in-Some-after-2.ensures
    (rw c.in_default-3.is at c.in_ok-second.ensures)

pub whole-returns : goal.whole-returns
whole-returns t c =
    rw c.in_ok-new.ensures.ok (choice_reading (rw c.in-Some.is at c.in_ok-test.ensures) c.in-Some-after.ensures
    (rw c.in-Some-2.is at c.in_ok-first.ensures) c.in-Some-after-2.ensures
    (rw c.in-Some-3.is at c.in_ok-second.ensures))

pub operand-returns-else-level-eq0 : goal.operand-returns-else-level-eq0
operand-returns-else-level-eq0 t c =
    let level-is : suc (c.args.level - 1) ≡ c.args.level = omega arith in
    subst (λ n. Reads (Within n) c.args.tokens (λ x. expr_of x.0) (λ x. x.1) c.binary.result) level-is c.binary.ensures
