-- The sizes of the tail of a link.
use Rattle.emit.proofs.Common.{AreValues, Layout, List, NotDefined, OutputSectionAt, PlacedOutput, Project}
use Rattle.emit.proofs.Common.{SymbolTableState, TailSizes, Values, [], ap, arith, codes, cons_option, filter_map}
use Rattle.emit.proofs.Common.{flat_map, header_name_table, length, length-append, length-map, map, names_size}
use Rattle.emit.proofs.Common.{output_sections, refl, shown_sections, shown_symbol, suc, sum_by-append, sum_by-cons}
use Rattle.emit.proofs.Common.{sym, value_in, value_of, valued, valued_in, ℕ, ◌++◌, ◌+◌, ◌∙◌, ◌∷◌, ◌≡◌}
use Rattle.ldmodel.specs.OutputSymbols as model
use Rattle.ldmodel.specs.SectionHeaders as headings
use Rattle.ldmodel.specs.SymbolValues.{SymbolValue, Number, NotInOutput}
use Rattle.ldmodel.specs.Tail.{ValuedSymbol, string_table, symbol_name_table, table_symbols, with_value}
use Rattle.ldmodel.specs.Tail as tail
use Rattle.place.specs.sections.OverlapFaults.{AreOutputs}
use Rattle.place.specs.Length.{AreTailSizes}
use Rattle.ldscript.specs.statements.declared.numbering.OutputSectionAt as code_section
use Rattle.emit_relocate.specs.Sizes.{plus_symbol, plus_symbols, plus_value}
use Rattle.emit_relocate.specs.declared.sizes.SymbolSizes.{SymbolSizes}
use Rattle.emit_relocate.specs.declared.values.OutputSymbol.{OutputSymbol}

abbrev pub tree_names : List code_section.OutputSectionAt → List (List ℕ)
tree_names xs = map (λ (o : OutputSectionAt). o.section.name) (shown_sections xs)

abbrev names_of : List ValuedSymbol → List (List ℕ)
names_of xs = map (λ (x : ValuedSymbol). x.name) xs

abbrev plus : SymbolSizes → List ValuedSymbol → SymbolSizes
plus t xs = record { count = t.count + length xs; names = t.names + names_size (names_of xs) }

plus_none : (t : SymbolSizes) → t ≡ plus t []
plus_none t =
    let e : t.count ≡ t.count + 0 = omega arith in
    let f : t.names ≡ t.names + 0 = omega arith in
    ap (λ n. let z : SymbolSizes = record { count = n; names = t.names } in z) e
    ∙ ap (λ n. let z : SymbolSizes = record { count = t.count + 0; names = n } in z) f

sizes_are : (p : Project) (t : SymbolSizes) (xs : List OutputSymbol) → plus_symbols t xs ≡ plus t (valued_in p xs)
sizes_are p t [] = plus_none t
sizes_are p t (x ∷ xs) = sizes_are p (plus_symbol t x) xs ∙ by_value (value_of (value_in x.row))
  where
    by_value : (v : SymbolValue)
        → plus (plus_value t x.name.now v) (valued_in p xs)
        ≡ plus t (cons_option (with_value (shown_symbol p x) v) (valued_in p xs))
    by_value NotDefined = refl
    by_value NotInOutput = refl
    by_value (Number v) =
        let own : ℕ = length x.name.now + 1 in
        let rest : ℕ = names_size (names_of (valued_in p xs)) in
        let e : t.count + 1 + length (valued_in p xs) ≡ t.count + suc (length (valued_in p xs)) = omega arith in
        let more : names_size (x.name.now ∷ names_of (valued_in p xs)) ≡ own + rest =
        sum_by-cons (λ name. length name + 1) x.name.now (names_of (valued_in p xs)) in
        let f : t.names + own + rest ≡ t.names + names_size (x.name.now ∷ names_of (valued_in p xs)) =
        omega (arith, more) in
        ap (λ n. let z : SymbolSizes = record { count = n; names = t.names + own + rest } in z) e
        ∙ ap (λ n. let z : SymbolSizes = record { count = t.count + suc (length (valued_in p xs)); names = n } in z) f

valued_same : (p : Project) (xs : List OutputSymbol)
    → filter_map (λ (x : model.OutputSymbol). with_value x x.value) (map (shown_symbol p) xs) ≡ valued_in p xs
valued_same p [] = refl
valued_same p (x ∷ xs) = ap (λ l. cons_option (valued p x) l) (valued_same p xs)

length_flat : (names : List (List ℕ)) → length (flat_map (λ name. name ++ 0 ∷ []) names) ≡ names_size names
length_flat [] = refl
length_flat (n ∷ ns) =
    let rest : length (flat_map (λ name. name ++ 0 ∷ []) ns) ≡ names_size ns = length_flat ns in
    let own : length (n ++ 0 ∷ []) ≡ length n + 1 = length-append n (0 ∷ []) in
    let all : length ((n ++ 0 ∷ []) ++ flat_map (λ name. name ++ 0 ∷ []) ns)
    ≡ length (n ++ 0 ∷ []) + length (flat_map (λ name. name ++ 0 ∷ []) ns) =
    length-append (n ++ 0 ∷ []) (flat_map (λ name. name ++ 0 ∷ []) ns) in
    let sum : names_size (n ∷ ns) ≡ length n + 1 + names_size ns = sum_by-cons (λ name. length name + 1) n ns in
    omega (arith, rest, own, all, sum)

length_strings : (names : List (List ℕ)) → length (string_table names) ≡ 1 + names_size names
length_strings names =
    let e : length (flat_map (λ name. name ++ 0 ∷ []) names) ≡ names_size names = length_flat names in
    omega (arith, e)

-- the names of the tables' own headers
abbrev own_names : List (List ℕ)
own_names = codes ".symtab" ∷ codes ".strtab" ∷ codes ".shstrtab" ∷ []

own_size : names_size own_names ≡ 26
own_size = refl

-- the symbols of the table are those that have a value
pub table_is : (p : Project) (s : Layout) (a : SymbolTableState) (v : Values) → AreValues p s a v
    → table_symbols p s ≡ valued_in p v.symbols.items
table_is p s a v values =
    sym (ap (filter_map (λ (x : model.OutputSymbol). with_value x x.value)) values.symbols)
    ∙ valued_same p v.symbols.items

-- what was counted is the tail of a link
pub sizes_of_tail : (p : Project) (s : Layout) (a : SymbolTableState) (v : Values) (t : TailSizes)
    (os : List code_section.OutputSectionAt) → AreOutputs p s.sections → AreValues p s a v
    → shown_sections os ≡ output_sections p.script
    → t.symbols ≡ v.sizes.count → t.symbol_names ≡ v.sizes.names + 1
    → t.header_names ≡ names_size (tree_names os) + 27 → t.sections ≡ length os
    → AreTailSizes p s t
unfolding symbol_name_table header_name_table
sizes_of_tail p s a v t os outputs values shown symbols symbol_names header_names sections =
    let all : table_symbols p s ≡ valued_in p v.symbols.items =
    table_is p s a v values in
    let zero_sizes : SymbolSizes = record { count = 0; names = 0 } in
    let total : v.sizes ≡ plus zero_sizes (valued_in p v.symbols.items) =
    values.sizes ∙ sizes_are p zero_sizes v.symbols.items in
    let count : v.sizes.count ≡ 0 + length (valued_in p v.symbols.items) = ap (λ (y : SymbolSizes). y.count) total in
    let size : v.sizes.names ≡ 0 + names_size (names_of (valued_in p v.symbols.items)) =
    ap (λ (y : SymbolSizes). y.names) total in
    let tree : tree_names os ≡ map (λ (q : PlacedOutput). q.name) s.sections =
    ap (map (λ (o : OutputSectionAt). o.section.name)) shown ∙ sym outputs in
    let long : length (table_symbols p s) ≡ length (valued_in p v.symbols.items) = ap length all in
    let strings : length (string_table (tail.symbol_names p s))
    ≡ 1 + names_size (names_of (valued_in p v.symbols.items)) =
    length_strings (tail.symbol_names p s) ∙ ap (λ xs. 1 + names_size (names_of xs)) all in
    let headings : length (string_table (headings.header_names s))
    ≡ 1 + (names_size (map (λ (q : PlacedOutput). q.name) s.sections) + 26) =
    length_strings (headings.header_names s)
    ∙ ap (λ n. 1 + n) (sum_by-append (λ name. length name + 1)
    (map (λ (q : PlacedOutput). q.name) s.sections) own_names
    ∙ ap (λ n. names_size (map (λ (q : PlacedOutput). q.name) s.sections) + n) own_size) in
    let named : names_size (tree_names os) ≡ names_size (map (λ (q : PlacedOutput). q.name) s.sections) =
    ap names_size tree in
    let many : length os ≡ length s.sections =
    sym (length-map (shown_sections os) (λ (o : OutputSectionAt). o.section.name)
    ∙ length-map os _) ∙ ap length tree ∙ length-map s.sections (λ (q : PlacedOutput). q.name) in
    record {
      symbols = omega (arith, symbols, count, long);
      symbol_names = omega (arith, symbol_names, size, strings);
      header_names = omega (arith, header_names, headings, named);
      sections = sections ∙ many;
    }
