use Rattle.emit_image.proofs.Common.{List, TableSection, [], add-zero, ap, arith, codes, get_or, header_names_of}
use Rattle.emit_image.proofs.Common.{length, string_table, sym, take, take_all, ℕ, ◌++◌, ◌+◌, ◌∙◌, ◌∷◌, ◌≡◌}
use Rattle.emit_image.proofs.HeaderNames.{begins, long, string_next, table_name}
use Rattle.emit_image.proofs.sections.add_tables.Goals as goal

-- the names after each of the three
record Added (ys : List TableSection) (zero one two three : List ℕ) : Type 0 where
  first : one ≡ string_table (take (length ys + 1) (header_names_of ys))
  second : two ≡ string_table (take (length ys + 2) (header_names_of ys))
  all : three ≡ string_table (header_names_of ys)

added : (ys : List TableSection) (a b c d : List ℕ) → a ≡ string_table (take (length ys) (header_names_of ys)) → b ≡ a
    ++ codes ".symtab" ++ 0 ∷ [] → c ≡ b ++ codes ".strtab" ++ 0 ∷ []
    → d ≡ c ++ codes ".shstrtab" ++ 0 ∷ [] → Added ys a b c d
added ys a b c d ea eb ec ed =
    let ns : List (List ℕ) = header_names_of ys in
    let k : ℕ = length ys in
    let size = long ys in
    let one : b ≡ string_table (take (k + 1) ns) =
    string_next ns k [] (codes ".symtab") a b (omega (arith, size))
    (ap (λ (n : ℕ). get_or ns n []) (sym (add-zero k)) ∙ table_name ys 0 []) ea eb in
    let two' : c ≡ string_table (take (k + 1 + 1) ns) =
    string_next ns (k + 1) [] (codes ".strtab") b c (omega (arith, size)) (table_name ys 1 []) one ec in
    let sum2 : k + 1 + 1 ≡ k + 2 = omega arith in
    let two : c ≡ string_table (take (k + 2) ns) = two' ∙ ap (λ (n : ℕ). string_table (take n ns)) sum2 in
    let three : d ≡ string_table (take (k + 2 + 1) ns) =
    string_next ns (k + 2) [] (codes ".shstrtab") c d (omega (arith, size)) (table_name ys 2 []) two ed in
    record {
      first = one;
      second = two;
      all = three ∙ ap (λ (xs : List (List ℕ)). string_table xs) (take_all (k + 2 + 1) ns (omega (arith, size)));
    }

module _ (c : goal.In_ok-header_names) where
  facts : Added c.args.sections.now c.args.names.now.items c.add_name.new.names.items c.add_name-2.new.names.items
      c.add_name-3.new.names.items
  facts = added c.args.sections.now c.args.names.now.items c.add_name.new.names.items c.add_name-2.new.names.items
      c.add_name-3.new.names.items
      c.requires c.in_ok-symbols.ensures.added c.in_ok-symbol_names.ensures.added c.in_ok-header_names.ensures.added

pub returns-clause-symbols : goal.returns-clause-symbols
returns-clause-symbols c = begins _ _ _ c.args.names.now.items c.in_ok-symbols.ensures.at c.requires

pub returns-clause-symbol_names : goal.returns-clause-symbol_names
returns-clause-symbol_names c = begins _ _ _ c.add_name.new.names.items c.in_ok-symbol_names.ensures.at (facts c).first

pub returns-clause-header_names : goal.returns-clause-header_names
returns-clause-header_names c =
    begins _ _ _ c.add_name-2.new.names.items c.in_ok-header_names.ensures.at (facts c).second

pub returns-clause-names : goal.returns-clause-names
returns-clause-names c = (facts c).all
