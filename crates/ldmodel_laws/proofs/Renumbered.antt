-- A decision doesn't depend on the numbers of objects.
use Rattle.ldmodel_laws.proofs.Common.{Bool, List, NamedObject, NamedSymbol, Project, [], ap, cond, enumerate_from}
use Rattle.ldmodel_laws.proofs.Common.{false, filter, length, list_any, map, map-append, max, nat_lt, not, refl, suc}
use Rattle.ldmodel_laws.proofs.Common.{sym, true, ℕ, ◌&&◌, ◌++◌, ◌+◌, ◌||◌, ◌∙◌, ◌∷◌, ◌≡◌}
use Rattle.ldmodel.specs.Names.{Declaration, Decision, Strong, Script, Common, Weak, Provided, Undefined, Duplicate}
use Rattle.ldmodel.specs.Names.{is_strong, is_common, is_weak, is_undefined, greatest, common_size, common_alignment}
use Rattle.ldmodel.specs.Names.{for_first, decided, is_local, declaration, all_entries, declarations_in}
use Rattle.ldmodel.specs.Names.{declarations_of, entries, is_of_name, decision}
use Rattle.ldmodel.specs.ScriptNames.{is_assigned, is_provided}
use Rattle.ldmodel_laws.specs.Renumbering.{renumbered, renumbered_decision, renumbered_table, AreTablesOf}

-- the cases, by what the kinds of declarations are
abbrev case_of : (several assigned provided : Bool) → (strong common weak : List Declaration) → Decision
case_of several assigned provided strong common weak =
    cond several Duplicate (for_first strong Strong (cond assigned Script
    (for_first common (λ owner. Common owner (greatest common_size common) (greatest common_alignment common))
    (for_first weak Weak (cond provided Provided Undefined)))))

module _ (number : ℕ → ℕ) where
  abbrev all : List Declaration → List Declaration
  all ds = map (renumbered number) ds

  filter_all : (t : Declaration → Bool) → ((d : Declaration) → t (renumbered number d) ≡ t d) → (ds : List Declaration)
      → filter t (all ds) ≡ all (filter t ds)
  filter_all t h [] = refl
  filter_all t h (d ∷ ds) = go (t (renumbered number d)) (t d) (h d) (filter_all t h ds)
    where
      go : (b c : Bool) → b ≡ c → filter t (all ds) ≡ all (filter t ds)
          → cond b (renumbered number d ∷ filter t (all ds)) (filter t (all ds))
          ≡ all (cond c (d ∷ filter t ds) (filter t ds))
      go true true e rest = ap (λ xs. renumbered number d ∷ xs) rest
      go true false e rest = cc
      go false true e rest = cc
      go false false e rest = rest

  any_all : (t : Declaration → Bool) → ((d : Declaration) → t (renumbered number d) ≡ t d) → (ds : List Declaration)
      → list_any t (all ds) ≡ list_any t ds
  any_all t h [] = refl
  any_all t h (d ∷ ds) = ap (λ b. b || list_any t (all ds)) (h d) ∙ ap (λ b. t d || b) (any_all t h ds)

  length_all : (ds : List Declaration) → length (all ds) ≡ length ds
  length_all [] = refl
  length_all (d ∷ ds) = ap suc (length_all ds)

  greatest_all : (of : Declaration → ℕ) → ((d : Declaration) → of (renumbered number d) ≡ of d)
      → (ds : List Declaration) → greatest of (all ds) ≡ greatest of ds
  greatest_all of h [] = refl
  greatest_all of h (d ∷ ds) = ap (λ n. max n (greatest of (all ds))) (h d)
      ∙ ap (λ n. max (of d) n) (greatest_all of h ds)

  case_all : (several assigned provided : Bool) → (strong common weak : List Declaration)
      → case_of several assigned provided (all strong) (all common) (all weak)
      ≡ renumbered_decision number (case_of several assigned provided strong common weak)
  case_all true assigned provided strong common weak = refl
  case_all false assigned provided (x ∷ xs) common weak = refl
  case_all false true provided [] common weak = refl
  case_all false false provided [] (x ∷ xs) weak =
      ap (λ n. Common (renumbered number x).entry n (greatest common_alignment (all (x ∷ xs))))
      (greatest_all common_size (λ d. refl) (x ∷ xs))
      ∙ ap (λ n. Common (renumbered number x).entry (greatest common_size (x ∷ xs)) n)
      (greatest_all common_alignment (λ d. refl) (x ∷ xs))
  case_all false false provided [] [] (x ∷ xs) = refl
  case_all false false true [] [] [] = refl
  case_all false false false [] [] [] = refl

  as_cases : (assigned provided : Bool) (ds : List Declaration)
      → decided assigned provided ds
      ≡ case_of (nat_lt 1 (length (filter is_strong ds) + cond assigned 1 0)) assigned (provided
      && list_any is_undefined ds) (filter is_strong ds) (filter is_common ds) (filter is_weak ds)
  unfolding decided
  as_cases assigned provided ds = refl

  pub decided_all : (assigned provided : Bool) (ds : List Declaration) → decided assigned provided (all ds)
      ≡ renumbered_decision number (decided assigned provided ds)
  decided_all assigned provided ds =
      let strong : filter is_strong (all ds) ≡ all (filter is_strong ds) = filter_all is_strong (λ d. refl) ds in
      let common : filter is_common (all ds) ≡ all (filter is_common ds) = filter_all is_common (λ d. refl) ds in
      let weak : filter is_weak (all ds) ≡ all (filter is_weak ds) = filter_all is_weak (λ d. refl) ds in
      let undefined : list_any is_undefined (all ds) ≡ list_any is_undefined ds = any_all is_undefined (λ d. refl) ds in
      as_cases assigned provided (all ds)
      ∙ ap (λ xs. case_of (nat_lt 1 (length xs + cond assigned 1 0)) assigned (provided
      && list_any is_undefined (all ds)) xs (filter is_common (all ds)) (filter is_weak (all ds))) strong
      ∙ ap (λ n. case_of (nat_lt 1 (n + cond assigned 1 0)) assigned (provided && list_any is_undefined (all ds))
      (all (filter is_strong ds)) (filter is_common (all ds)) (filter is_weak (all ds)))
      (length_all (filter is_strong ds))
      ∙ ap (λ xs. case_of (nat_lt 1 (length (filter is_strong ds) + cond assigned 1 0)) assigned (provided
      && list_any is_undefined (all ds)) (all (filter is_strong ds)) xs (filter is_weak (all ds))) common
      ∙ ap (λ xs. case_of (nat_lt 1 (length (filter is_strong ds) + cond assigned 1 0)) assigned (provided
      && list_any is_undefined (all ds)) (all (filter is_strong ds)) (all (filter is_common ds)) xs) weak
      ∙ ap (λ b. case_of (nat_lt 1 (length (filter is_strong ds) + cond assigned 1 0)) assigned (provided
      && b) (all (filter is_strong ds)) (all (filter is_common ds)) (all (filter is_weak ds))) undefined
      ∙ case_all (nat_lt 1 (length (filter is_strong ds) + cond assigned 1 0)) assigned (provided
      && list_any is_undefined ds) (filter is_strong ds) (filter is_common ds) (filter is_weak ds)
      ∙ ap (renumbered_decision number) (sym (as_cases assigned provided ds))

  entry_renumbered : (key : ℕ) (symbols : List (ℕ × NamedSymbol)) → map (declaration (number key)) symbols
      ≡ all (map (declaration key) symbols)
  entry_renumbered key [] = refl
  entry_renumbered key (s ∷ ss) = ap (λ ds. declaration (number key) s ∷ ds) (entry_renumbered key ss)

  table_renumbered : (table : ℕ × List NamedSymbol) → declarations_in (renumbered_table number table)
      ≡ all (declarations_in table)
  table_renumbered table =
      let visible : Declaration → Bool = λ d. not (is_local d.symbol.binding) in
      ap (filter visible) (entry_renumbered table.0 (enumerate_from 0 table.1))
      ∙ filter_all visible (λ d. refl) (all_entries table)

  tables_renumbered : (tables : List (ℕ × List NamedSymbol)) → declarations_of (map (renumbered_table number) tables)
      ≡ all (declarations_of tables)
  unfolding declarations_of
  tables_renumbered [] = refl
  tables_renumbered (t ∷ ts) =
      ap (λ ds. ds ++ declarations_of (map (renumbered_table number) ts)) (table_renumbered t)
      ∙ ap (λ ds. all (declarations_in t) ++ ds) (tables_renumbered ts)
      ∙ sym (map-append (renumbered number) (declarations_in t) (declarations_of ts))

  entries_renumbered : (objects : List NamedObject) (name : List ℕ) (tables : List (ℕ × List NamedSymbol))
      → AreTablesOf number objects tables
      → entries objects name ≡ all (filter (is_of_name name) (declarations_of tables))
  entries_renumbered objects name tables h =
      ap (λ ts. filter (is_of_name name) (declarations_of ts)) (sym h)
      ∙ ap (filter (is_of_name name)) (tables_renumbered tables)
      ∙ filter_all (is_of_name name) (λ d. refl) (declarations_of tables)

  pub decision_all : (p : Project) (name : List ℕ) (tables : List (ℕ × List NamedSymbol))
      → AreTablesOf number p.objects tables
      → decision p name ≡ renumbered_decision number
      (decided (is_assigned p.script name) (is_provided p.script name)
      (filter (is_of_name name) (declarations_of tables)))
  unfolding decision
  decision_all p name tables h =
      ap (decided (is_assigned p.script name) (is_provided p.script name)) (entries_renumbered p.objects name tables h)
      ∙ decided_all (is_assigned p.script name) (is_provided p.script name)
      (filter (is_of_name name) (declarations_of tables))
