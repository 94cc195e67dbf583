use Rattle.elfobj.proofs.Common.{arith, count_of, false, get_or, header_of, inr, length, null_header, refl, rules, sym}
use Rattle.elfobj.proofs.Common.{table_of, true, ◌<◌, ◌∙◌}
use Rattle.elfobj.proofs.SymbolTables.{count_told, entry_told, named_all, named_same, names_told, right_header}
use Rattle.elfobj.proofs.SymbolTables.{right_table, several_told, string_table_below, string_table_type}
use Rattle.elfobj.proofs.SymbolTables.{strings_in_file, symbol_refused, symbols_pass, table_in_file, table_refused}
use Rattle.elfobj.proofs.SymbolTables.{table_same, wrong_by_entries, wrong_symbol, wrong_table}
use Rattle.elfobj.proofs.symbol_table.read_tested.Goals as goal

pub read_entries-requires : goal.read_entries-requires
read_entries-requires c = (table_in_file c.args.bytes.now c.args.table.now c.requires.tests c.requires.found).end

pub has_misplaced_entry-requires-clause-within : goal.has_misplaced_entry-requires-clause-within
has_misplaced_entry-requires-clause-within c =
    let right = (right_header c.args.headers.now c.args.table.now c.requires.right) in
    let count = count_told c.args.bytes.now c.args.table.now c.deref.result.now
    (c.deref.ensures.value ∙ c.in_ok-entries.ensures) in
    omega (arith, right.high)

pub returns-then-has_misplaced_entry-clause-refused : goal.returns-then-has_misplaced_entry-clause-refused
returns-then-has_misplaced_entry-clause-refused c =
    inr (table_refused c.args.bytes.now
    (wrong_table c.args.bytes.now c.args.table.now true
    (several_told c.args.bytes.now c.args.headers.now _ false c.requires.headers refl c.requires.one)
    c.requires.found
    (wrong_by_entries c.args.bytes.now c.args.table.now c.deref.result.now
    (c.deref.ensures.value ∙ c.in_ok-entries.ensures)
    (sym c.has_misplaced_entry.ensures ∙ c.if-has_misplaced_entry.true))))

pub bounds-headers-table : goal.bounds-headers-table
bounds-headers-table c = string_table_below c.args.headers.now c.args.table.now.sh_link
    (right_header c.args.headers.now c.args.table.now c.requires.right).strings

pub overflow_cast-count : goal.overflow_cast-count
overflow_cast-count c =
    let count = count_of c.args.bytes.now c.args.headers.now c.requires.headers in
    let few = c.requires.table.count.few in
    let below : length c.args.headers.now < 65536 = omega arith in
    search rules

pub of_header-requires : goal.of_header-requires
of_header-requires c =
    let strings = (right_header c.args.headers.now c.args.table.now c.requires.right).strings in
    let below = string_table_below c.args.headers.now c.args.table.now.sh_link strings in
    (strings_in_file c.args.bytes.now c.args.table.now.sh_link
    (get_or c.args.headers.now c.args.table.now.sh_link null_header) c.requires.tests
    (omega (arith, count_of c.args.bytes.now c.args.headers.now c.requires.headers))
    (header_of c.args.bytes.now c.args.headers.now c.args.table.now.sh_link null_header c.requires.headers below)
    (string_table_type c.args.headers.now c.args.table.now.sh_link null_header strings)).end

pub is_any_wrong-requires : goal.is_any_wrong-requires
is_any_wrong-requires c =
    let right = (right_header c.args.headers.now c.args.table.now c.requires.right) in
    let count = count_told c.args.bytes.now c.args.table.now c.deref-2.result.now
    (c.deref-2.ensures.value ∙ c.in_ok-entries.ensures) in
    omega (arith, right.some)

pub returns-then-is_any_wrong-clause-refused : goal.returns-then-is_any_wrong-clause-refused
returns-then-is_any_wrong-clause-refused c =
    let below = string_table_below c.args.headers.now c.args.table.now.sh_link
    (right_header c.args.headers.now c.args.table.now c.requires.right).strings in
    inr (symbol_refused c.args.bytes.now
    (wrong_table c.args.bytes.now c.args.table.now false
    (several_told c.args.bytes.now c.args.headers.now _ false c.requires.headers refl c.requires.one)
    c.requires.found
    (right_table c.args.bytes.now c.args.headers.now c.args.table.now c.deref.result.now c.requires.headers
    (c.deref.ensures.value ∙ c.in_ok-entries.ensures) c.requires.right
    (sym c.has_misplaced_entry.ensures ∙ c.if-has_misplaced_entry.false)))
    (wrong_symbol c.args.bytes.now c.args.table.now true c.requires.found
    (entry_told c.args.bytes.now c.args.table.now (get_or c.args.headers.now c.args.table.now.sh_link null_header)
    (length c.args.headers.now) (table_of c.in_ok-names.names) c.deref-2.result.now true
    (count_of c.args.bytes.now c.args.headers.now c.requires.headers)
    (header_of c.args.bytes.now c.args.headers.now c.args.table.now.sh_link null_header c.requires.headers below)
    (table_same c.args.bytes.now c.in_ok-names.names.file.now c.in_ok-names.names.header
    (get_or c.args.headers.now c.args.table.now.sh_link null_header) c.in_ok-names.ensures.file
    c.in_ok-names.ensures.header)
    (c.deref-2.ensures.value ∙ c.in_ok-entries.ensures) (sym c.is_any_wrong.ensures ∙ c.if-is_any_wrong.true))))

pub named_symbols-requires-clause-some : goal.named_symbols-requires-clause-some
named_symbols-requires-clause-some c =
    let right = (right_header c.args.headers.now c.args.table.now c.requires.right) in
    let count = count_told c.args.bytes.now c.args.table.now c.deref-3.result.now
    (c.deref-3.ensures.value ∙ c.in_ok-entries.ensures) in
    omega (arith, right.some)

pub named_symbols-requires-clause-names : goal.named_symbols-requires-clause-names
named_symbols-requires-clause-names c =
    names_told (length c.args.headers.now) (table_of c.in_ok-names.names)
    (table_of c.in_ok-names.names) c.deref-2.result.now c.deref-3.result.now refl
    (c.deref-2.ensures.value ∙ sym c.deref-3.ensures.value)
    (sym c.is_any_wrong.ensures ∙ c.if-is_any_wrong.false)

pub returns-clause-ok : goal.returns-clause-ok
returns-clause-ok c =
    let below = string_table_below c.args.headers.now c.args.table.now.sh_link
    (right_header c.args.headers.now c.args.table.now c.requires.right).strings in
    symbols_pass c.args.bytes.now
    (wrong_table c.args.bytes.now c.args.table.now false
    (several_told c.args.bytes.now c.args.headers.now _ false c.requires.headers refl c.requires.one)
    c.requires.found
    (right_table c.args.bytes.now c.args.headers.now c.args.table.now c.deref.result.now c.requires.headers
    (c.deref.ensures.value ∙ c.in_ok-entries.ensures) c.requires.right
    (sym c.has_misplaced_entry.ensures ∙ c.if-has_misplaced_entry.false)))
    (wrong_symbol c.args.bytes.now c.args.table.now false c.requires.found
    (entry_told c.args.bytes.now c.args.table.now (get_or c.args.headers.now c.args.table.now.sh_link null_header)
    (length c.args.headers.now) (table_of c.in_ok-names.names) c.deref-2.result.now false
    (count_of c.args.bytes.now c.args.headers.now c.requires.headers)
    (header_of c.args.bytes.now c.args.headers.now c.args.table.now.sh_link null_header c.requires.headers below)
    (table_same c.args.bytes.now c.in_ok-names.names.file.now c.in_ok-names.names.header
    (get_or c.args.headers.now c.args.table.now.sh_link null_header) c.in_ok-names.ensures.file
    c.in_ok-names.ensures.header)
    (c.deref-2.ensures.value ∙ c.in_ok-entries.ensures) (sym c.is_any_wrong.ensures ∙ c.if-is_any_wrong.false)))

pub returns-clause-symbols : goal.returns-clause-symbols
returns-clause-symbols c =
    let below = string_table_below c.args.headers.now c.args.table.now.sh_link
    (right_header c.args.headers.now c.args.table.now c.requires.right).strings in
    named_all c.args.bytes.now c.args.table.now
    (get_or c.args.headers.now c.args.table.now.sh_link null_header) c.deref-3.result.now _ _ c.requires.found
    (header_of c.args.bytes.now c.args.headers.now c.args.table.now.sh_link null_header c.requires.headers below)
    (c.deref-3.ensures.value ∙ c.in_ok-entries.ensures)
    (named_same c.args.bytes.now c.in_ok-names.names.file.now c.in_ok-names.names.header
    (get_or c.args.headers.now c.args.table.now.sh_link null_header) c.deref-3.result.now _ _
    c.in_ok-names.ensures.file c.in_ok-names.ensures.header c.in_ok-named_symbols.ensures)
