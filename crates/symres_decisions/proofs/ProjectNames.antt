-- The names that the objects of a project declare.
use Rattle.symres_decisions.proofs.Common.{List, NamedSymbol, [], ap, append-nil, declared_in, declared_names}
use Rattle.symres_decisions.proofs.Common.{enumerate_from, flat_map, map, refl, sym, ℕ, ◌++◌, ◌+◌, ◌∙◌, ◌∷◌, ◌≡◌}
use Rattle.ldmodel.specs.Names.{names_in_objects, symbol_tables}
use Rattle.ldmodel.specs.Project.{NamedObject}
use Rattle.symres_decisions.proofs.Declared.{Table, names_declared}

of_tables : (tables : List Table)
    → declared_names tables ≡ flat_map declared_in (map (λ (t : Table). t.1) tables)
of_tables [] = refl
of_tables (t ∷ ts) = ap (λ (ns : List (List ℕ)). declared_in t.1 ++ ns) (of_tables ts)

numbered : (n : ℕ) (xs : List (List NamedSymbol)) → declared_names (enumerate_from n xs) ≡ flat_map declared_in xs
numbered n [] = refl
numbered n (x ∷ xs) = ap (λ (ns : List (List ℕ)). declared_in x ++ ns) (numbered (n + 1) xs)

pub all_names : (objects : List NamedObject) (tables : List Table)
    → map (λ (t : Table). t.1) tables ≡ symbol_tables objects → declared_names tables ≡ names_in_objects objects
all_names objects tables same =
    of_tables tables ∙ ap (flat_map declared_in) same
    ∙ sym (names_declared (enumerate_from 0 (symbol_tables objects)) ∙ numbered 0 (symbol_tables objects))

pub one_object : (o : NamedObject) → declared_in o.object.symbols ≡ names_in_objects (o ∷ [])
one_object o =
    sym (append-nil (declared_in o.object.symbols)) ∙ sym (names_declared ((0, o.object.symbols) ∷ []))
