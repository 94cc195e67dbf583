use Rattle.elfobj.proofs.Common.{None, Some, arith, count_of, false, get_or, header_of, inr, length, null_header, refl}
use Rattle.elfobj.proofs.Common.{rules, sym, true, ◌<◌, ◌∙◌}
use Rattle.elfobj.proofs.OrderedTables.{told}
use Rattle.elfobj.proofs.PassingSymbols.{passing_none}
use Rattle.elfobj.proofs.SymbolTables.{named_all, named_none, no_table, right_header, several_told, string_table_below}
use Rattle.elfobj.proofs.SymbolTables.{string_table_type, strings_in_file, table_in_file, table_refused, table_told}
use Rattle.elfobj.proofs.SymbolTables.{wrong_by_header, wrong_several, wrong_table}
use Rattle.elfobj.proofs.symbol_table.read_symbols.Goals as goal

pub returns-then-are_several-clause-refused : goal.returns-then-are_several-clause-refused
returns-then-are_several-clause-refused c =
    inr (table_refused c.args.bytes.now
    (wrong_several c.args.bytes.now
    (several_told c.args.bytes.now c.args.headers.now c.are_several.result true c.requires.headers
    c.are_several.ensures c.if-are_several.true)))

pub returns-in_default-clause-ok : goal.returns-in_default-clause-ok
returns-in_default-clause-ok c =
    no_table c.args.bytes.now
    (several_told c.args.bytes.now c.args.headers.now c.are_several.result false c.requires.headers
    c.are_several.ensures c.if-are_several.false)
    (table_told c.args.bytes.now c.args.headers.now c.symbol_table_header.result None c.requires.headers
    c.symbol_table_header.ensures c.in_default.is)

pub returns-in_default-clause-symbols : goal.returns-in_default-clause-symbols
returns-in_default-clause-symbols c =
    rw (c.new.ensures.items, c.new-in_default.ensures.items)
    (named_none c.args.bytes.now
    (table_told c.args.bytes.now c.args.headers.now c.symbol_table_header.result None c.requires.headers
    c.symbol_table_header.ensures c.in_default.is))

pub returns-then-has_wrong_header-clause-refused : goal.returns-then-has_wrong_header-clause-refused
returns-then-has_wrong_header-clause-refused c =
    inr (table_refused c.args.bytes.now
    (wrong_table c.args.bytes.now c.in-Some.table true
    (several_told c.args.bytes.now c.args.headers.now c.are_several.result false c.requires.headers
    c.are_several.ensures c.if-are_several.false)
    (table_told c.args.bytes.now c.args.headers.now c.symbol_table_header.result
    (Some c.in-Some.table) c.requires.headers c.symbol_table_header.ensures c.in-Some.is)
    (wrong_by_header c.args.bytes.now c.args.headers.now c.in-Some.table c.requires.headers
    (sym c.has_wrong_header.ensures ∙ c.if-has_wrong_header.true))))

pub bounds-headers-table : goal.bounds-headers-table
bounds-headers-table c = string_table_below c.args.headers.now c.in-Some.table.sh_link
    (right_header c.args.headers.now c.in-Some.table
    (sym c.has_wrong_header.ensures ∙ c.if-has_wrong_header.false)).strings

pub overflow_cast-count : goal.overflow_cast-count
overflow_cast-count c =
    let count = count_of c.args.bytes.now c.args.headers.now c.requires.headers in
    let few = c.requires.table.count.few in
    let below : length c.args.headers.now < 65536 = omega arith in
    search rules

pub read_passing-requires-clause-within : goal.read_passing-requires-clause-within
read_passing-requires-clause-within c =
    (table_in_file c.args.bytes.now c.in-Some.table c.requires.tests
    (table_told c.args.bytes.now c.args.headers.now c.symbol_table_header.result
    (Some c.in-Some.table) c.requires.headers c.symbol_table_header.ensures c.in-Some.is)).end

pub read_passing-requires-clause-strings : goal.read_passing-requires-clause-strings
read_passing-requires-clause-strings c =
    let strings = (right_header c.args.headers.now c.in-Some.table
    (sym c.has_wrong_header.ensures ∙ c.if-has_wrong_header.false)).strings in
    let below = string_table_below c.args.headers.now c.in-Some.table.sh_link strings in
    (strings_in_file c.args.bytes.now c.in-Some.table.sh_link
    (get_or c.args.headers.now c.in-Some.table.sh_link null_header) c.requires.tests
    (omega (arith, count_of c.args.bytes.now c.args.headers.now c.requires.headers))
    (header_of c.args.bytes.now c.args.headers.now c.in-Some.table.sh_link null_header c.requires.headers below)
    (string_table_type c.args.headers.now c.in-Some.table.sh_link null_header strings)).end

pub read_tested-requires-clause-found : goal.read_tested-requires-clause-found
read_tested-requires-clause-found c =
    table_told c.args.bytes.now c.args.headers.now c.symbol_table_header.result
    (Some c.in-Some.table) c.requires.headers c.symbol_table_header.ensures c.in-Some.is

pub returns-in-Some-2-clause-ok : goal.returns-in-Some-2-clause-ok
returns-in-Some-2-clause-ok c =
    let right = sym c.has_wrong_header.ensures ∙ c.if-has_wrong_header.false in
    let below = string_table_below c.args.headers.now c.in-Some.table.sh_link
    (right_header c.args.headers.now c.in-Some.table right).strings in
    passing_none c.args.bytes.now c.args.headers.now c.in-Some.table
    (get_or c.args.headers.now c.in-Some.table.sh_link null_header) (length c.args.headers.now) c.requires.headers
    (several_told c.args.bytes.now c.args.headers.now c.are_several.result false c.requires.headers
    c.are_several.ensures c.if-are_several.false)
    (table_told c.args.bytes.now c.args.headers.now c.symbol_table_header.result
    (Some c.in-Some.table) c.requires.headers c.symbol_table_header.ensures c.in-Some.is) right
    (count_of c.args.bytes.now c.args.headers.now c.requires.headers)
    (header_of c.args.bytes.now c.args.headers.now c.in-Some.table.sh_link null_header c.requires.headers below)
    (told _ _ c.in-Some-2.symbols c.in-Some-2.is c.in_ok-symbols.ensures.placed)
    (told _ _ c.in-Some-2.symbols c.in-Some-2.is c.in_ok-symbols.ensures.right)

pub returns-in-Some-2-clause-symbols : goal.returns-in-Some-2-clause-symbols
returns-in-Some-2-clause-symbols c =
    let right = sym c.has_wrong_header.ensures ∙ c.if-has_wrong_header.false in
    let below = string_table_below c.args.headers.now c.in-Some.table.sh_link
    (right_header c.args.headers.now c.in-Some.table right).strings in
    named_all c.args.bytes.now c.in-Some.table (get_or c.args.headers.now c.in-Some.table.sh_link null_header) _ _ _
    (table_told c.args.bytes.now c.args.headers.now c.symbol_table_header.result
    (Some c.in-Some.table) c.requires.headers c.symbol_table_header.ensures c.in-Some.is)
    (header_of c.args.bytes.now c.args.headers.now c.in-Some.table.sh_link null_header c.requires.headers below) refl
    (told _ _ c.in-Some-2.symbols c.in-Some-2.is c.in_ok-symbols.ensures.symbols)
