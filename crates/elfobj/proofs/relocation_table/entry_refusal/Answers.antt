use Rattle.elfobj.proofs.Common.{refl, sym, ◌∙◌}
use Rattle.elfobj.proofs.RelocationReads.{any_passes, any_sorted, bounds_holds, first_bounds, first_kind, first_none}
use Rattle.elfobj.proofs.RelocationReads.{first_symbol, kind_holds, sorted_tables, symbol_holds}
use Rattle.elfobj.proofs.relocation_table.entry_refusal.Goals as goal

pub is_any_refused-requires-clause-tables : goal.is_any_refused-requires-clause-tables
is_any_refused-requires-clause-tables c =
    sorted_tables c.args.bytes.now c.args.tables.now _ _ c.deref.ensures.value c.in_ok-sorted.ensures.same
    c.requires.tables.each

pub is_any_refused-requires-2-clause-tables : goal.is_any_refused-requires-2-clause-tables
is_any_refused-requires-2-clause-tables c =
    sorted_tables c.args.bytes.now c.args.tables.now _ _ c.deref-2.ensures.value c.in_ok-sorted.ensures.same
    c.requires.tables.each

pub is_any_refused-requires-3-clause-tables : goal.is_any_refused-requires-3-clause-tables
is_any_refused-requires-3-clause-tables c =
    sorted_tables c.args.bytes.now c.args.tables.now _ _ c.deref-3.ensures.value c.in_ok-sorted.ensures.same
    c.requires.tables.each

pub is_any_refused-requires-4-clause-tables : goal.is_any_refused-requires-4-clause-tables
is_any_refused-requires-4-clause-tables c =
    sorted_tables c.args.bytes.now c.args.tables.now _ _ c.deref-4.ensures.value c.in_ok-sorted.ensures.same
    c.requires.tables.each

pub returns-then-not-branch : goal.returns-then-not-branch
returns-then-not-branch c =
    sym (any_passes c.args.bytes.now c.args.symbols _ _ c.requires.right c.requires.symbols refl
    (any_sorted _ _ c.args.tables.now _ _ _ c.deref.ensures.value c.in_ok-sorted.ensures.same c.requires.tables.same
    c.in_ok-is_any_refused.ensures) c.if-not-branch.true)

pub returns-then-branch : goal.returns-then-branch
returns-then-branch c =
    let s = symbol_holds c.args.bytes.now c.args.symbols _ _ c.requires.right c.requires.symbols refl
    (any_sorted _ _ c.args.tables.now _ _ _ c.deref-2.ensures.value c.in_ok-sorted.ensures.same c.requires.tables.same
    c.in_ok-is_any_refused-2.ensures) in
    sym (first_symbol c.args.bytes.now (s ∙ c.if-branch.true))

pub returns-then-branch-2 : goal.returns-then-branch-2
returns-then-branch-2 c =
    let s = symbol_holds c.args.bytes.now c.args.symbols _ _ c.requires.right c.requires.symbols refl
    (any_sorted _ _ c.args.tables.now _ _ _ c.deref-2.ensures.value c.in_ok-sorted.ensures.same c.requires.tables.same
    c.in_ok-is_any_refused-2.ensures) in
    let k = kind_holds c.args.bytes.now c.args.symbols _ _ refl
    (any_sorted _ _ c.args.tables.now _ _ _ c.deref-3.ensures.value c.in_ok-sorted.ensures.same c.requires.tables.same
    c.in_ok-is_any_refused-3.ensures) in
    sym (first_kind c.args.bytes.now (s ∙ c.if-branch.false) (k ∙ c.if-branch-2.true))

pub returns-then-branch-3 : goal.returns-then-branch-3
returns-then-branch-3 c =
    let s = symbol_holds c.args.bytes.now c.args.symbols _ _ c.requires.right c.requires.symbols refl
    (any_sorted _ _ c.args.tables.now _ _ _ c.deref-2.ensures.value c.in_ok-sorted.ensures.same c.requires.tables.same
    c.in_ok-is_any_refused-2.ensures) in
    let k = kind_holds c.args.bytes.now c.args.symbols _ _ refl
    (any_sorted _ _ c.args.tables.now _ _ _ c.deref-3.ensures.value c.in_ok-sorted.ensures.same c.requires.tables.same
    c.in_ok-is_any_refused-3.ensures) in
    let b = bounds_holds c.args.bytes.now c.args.symbols _ _ refl
    (any_sorted _ _ c.args.tables.now _ _ _ c.deref-4.ensures.value c.in_ok-sorted.ensures.same c.requires.tables.same
    c.in_ok-is_any_refused-4.ensures) in
    sym (first_bounds c.args.bytes.now (s ∙ c.if-branch.false) (k ∙ c.if-branch-2.false) (b ∙ c.if-branch-3.true))

pub returns : goal.returns
returns c =
    let s = symbol_holds c.args.bytes.now c.args.symbols _ _ c.requires.right c.requires.symbols refl
    (any_sorted _ _ c.args.tables.now _ _ _ c.deref-2.ensures.value c.in_ok-sorted.ensures.same c.requires.tables.same
    c.in_ok-is_any_refused-2.ensures) in
    let k = kind_holds c.args.bytes.now c.args.symbols _ _ refl
    (any_sorted _ _ c.args.tables.now _ _ _ c.deref-3.ensures.value c.in_ok-sorted.ensures.same c.requires.tables.same
    c.in_ok-is_any_refused-3.ensures) in
    let b = bounds_holds c.args.bytes.now c.args.symbols _ _ refl
    (any_sorted _ _ c.args.tables.now _ _ _ c.deref-4.ensures.value c.in_ok-sorted.ensures.same c.requires.tables.same
    c.in_ok-is_any_refused-4.ensures) in
    sym (first_none c.args.bytes.now (s ∙ c.if-branch.false) (k ∙ c.if-branch-2.false) (b ∙ c.if-branch-3.false))
