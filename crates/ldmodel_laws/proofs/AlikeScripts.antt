-- The layouts of a script in which other PROVIDEs are in force differ in symbols alone, as far as the rows are the
-- same.
use Rattle.ldmodel_laws.proofs.Common.{DirectiveAt, EachLater, IsSound, Item, Layout, List, Ok, Piece, Region}
use Rattle.ldmodel_laws.proofs.Common.{Statement, [], all_directives, and_then, ap, append-nil, append_assoc, arith}
use Rattle.ldmodel_laws.proofs.Common.{bytes_eq, false, item_directives, items_directives, length, nothing_placed}
use Rattle.ldmodel_laws.proofs.Common.{number, refl, run, subst, sym, top_directives, ℕ, ◌++◌, ◌∙◌, ◌∷◌, ◌≡◌, ◌≢◌, ◌≤◌}
use Rattle.ldscript.specs.statements.declared.statement.Command.{Command}
use Rattle.ldscript.specs.statements.declared.statement.Command.TheVariants as top
use Rattle.ldmodel.specs.Placement.{directive_step, command_step, item_step, region_step, statement_step, with_region}
use Rattle.ldmodel_laws.specs.Alike.{AreAlike, AreNew, AreSameBefore, AreSymbolsAlike, IsPartedAt, LeadTo, given_names}
use Rattle.ldmodel_laws.specs.Alike.{names_given}
use Rattle.ldmodel_laws.proofs.Alike.{Both, IsSame, both_ok, both_then, directive_both, having, number_both}
use Rattle.ldmodel_laws.proofs.AlikeSections.{item_fewer, items_alike}
use Rattle.ldmodel_laws.proofs.Effects.{came, directive_named, kept_same, named_kept, region_kept, run_by}
use Rattle.ldmodel_laws.proofs.Mentioned.{names_on, names_of_both, symbols_differ, other_name}
use Rattle.ldmodel_laws.proofs.EachOf.{none_any, each_imply}

-- the statements of SECTIONS
module _ (first : ℕ) (old rows : List (List Piece)) (earlier provided : List (List ℕ))
    (rs : AreSameBefore first old rows)
  where
    fewer : (xs : List Item) (s t : Layout) → run (item_step rows provided) s xs ≡ Ok t → length s.sections
        ≤ length t.sections
    fewer xs s t e =
        run_by (item_step rows provided) (λ u ys. length s.sections ≤ length u.sections) (λ u y ys v f h.
        item_fewer rows provided (length s.sections) y u v f h) xs s t e (omega arith)

    pub run_items : (names : List (List ℕ)) (xs : List Item) (s t u v : Layout)
        → AreAlike (names_given (items_directives xs) ++ names) s t → run (item_step old earlier) s xs ≡ Ok u
        → run (item_step rows provided) t xs ≡ Ok v → length v.sections ≤ first → AreAlike names u v
    unfolding run
    run_items names [] s t u v a p q l =
        let one : s ≡ u = cc in let two : t ≡ v = cc in
        subst (λ z. AreAlike names u z) two (subst (λ z. AreAlike names z t) one a)
    run_items names (x ∷ xs) s t u v a p q l =
        let k = came (item_step old earlier s x) (λ z. run (item_step old earlier) z xs) u p in
        let m = came (item_step rows provided t x) (λ z. run (item_step rows provided) z xs) v q in
        let few = fewer xs m.value v m.gives in
        run_items names xs k.value m.value u v
        (items_alike first old rows earlier provided (names_given (items_directives xs)
        ++ names) x s t k.value m.value rs
        (subst (λ z. AreAlike z s t) (names_on (item_directives x.line x.command) (items_directives xs) names) a) k.is
        m.is
        (omega (arith, few, l))) k.gives m.gives l

    -- regions
    region_alike : (names : List (List ℕ)) (r : Region) (s t u v : Layout) → AreAlike names s t → region_step s r ≡ Ok u
        → region_step t r ≡ Ok v → AreAlike names u v
    unfolding region_step
    region_alike names r s t u v a p q = go u v p (ap (λ z. region_step z r) (sym a.same) ∙ q)
      where
        go : Both (AreAlike names) (and_then (number s r.line r.origin) (λ origin.
            and_then (number s r.line r.extent) (λ extent. Ok (with_region s r.name origin extent))))
            (and_then (number (having s t.symbols) r.line r.origin) (λ origin.
            and_then (number (having s t.symbols) r.line r.extent) (λ extent.
            Ok (with_region (having s t.symbols) r.name origin extent))))
        go =
            both_then IsSame (AreAlike names) (number s r.line r.origin)
            (number (having s t.symbols) r.line r.origin) _ _
            (number_both names s t.symbols a.symbols r.line r.origin) (λ x x' e.
            both_then IsSame (AreAlike names) (number s r.line r.extent)
            (number (having s t.symbols) r.line r.extent) _ _
            (number_both names s t.symbols a.symbols r.line r.extent) (λ y y' f.
            both_ok (AreAlike names) (with_region s r.name x y) (with_region (having s t.symbols) r.name x' y')
            (record { same = rw (e, f) refl; symbols = a.symbols })))

    regions_alike : (names : List (List ℕ)) (xs : List Region) (s t u v : Layout) → AreAlike names s t
        → run region_step s xs ≡ Ok u → run region_step t xs ≡ Ok v → AreAlike names u v
    unfolding run
    regions_alike names [] s t u v a p q =
        let one : s ≡ u = cc in let two : t ≡ v = cc in
        subst (λ z. AreAlike names u z) two (subst (λ z. AreAlike names z t) one a)
    regions_alike names (x ∷ xs) s t u v a p q =
        let k = came (region_step s x) (λ z. run region_step z xs) u p in
        let m = came (region_step t x) (λ z. run region_step z xs) v q in
        regions_alike names xs k.value m.value u v
        (region_alike names x s t k.value m.value a k.is m.is) k.gives m.gives

    -- statements
    command_alike : (names : List (List ℕ)) (line : ℕ) (c : Command) (s t u v : Layout)
        → AreAlike (names_given (top_directives line c) ++ names) s t → command_step old earlier line s c ≡ Ok u
        → command_step rows provided line t c ≡ Ok v → length v.sections ≤ first → AreAlike names u v
    unfolding command_step
    command_alike names line (top.Entry n) s t u v a p q l = both_ok (AreAlike names) s t a u v p q
    command_alike names line (top.Memory regions) s t u v a p q l = regions_alike names regions s t u v a p q
    command_alike names line (top.Sections xs) s t u v a p q l = run_items names xs s t u v a p q l
    command_alike names line (top.Directive c) s t u v a p q l =
        directive_both s t.symbols names earlier provided line c
        (subst (λ z. AreSymbolsAlike (z ++ names) s.symbols t.symbols) (append-nil (given_names c)) a.symbols) u v p
        (ap (λ z. directive_step provided z line c) (sym a.same) ∙ q)

    command_fewer : (n line : ℕ) (c : Command) (s t : Layout) → command_step rows provided line s c ≡ Ok t
        → n ≤ length s.sections → n ≤ length t.sections
    unfolding command_step
    command_fewer n line (top.Entry m) s t e h = subst (λ xs. n ≤ length xs) (kept_same s t cc).sections h
    command_fewer n line (top.Memory regions) s t e h =
        run_by region_step (λ (u : Layout) ys. n ≤ length u.sections) (λ u y ys v f g.
        subst (λ xs. n ≤ length xs) (region_kept u y v f).sections g) regions s t e h
    command_fewer n line (top.Sections xs) s t e h =
        run_by (item_step rows provided) (λ (u : Layout) ys. n ≤ length u.sections) (λ u y ys v f g.
        item_fewer rows provided n y u v f g) xs s t e h
    command_fewer n line (top.Directive c) s t e h =
        subst (λ xs. n ≤ length xs) (named_kept s t (directive_named provided s line c t e)).sections h

    fewer_after : (xs : List Statement) (s t : Layout) → run (statement_step rows provided) s xs ≡ Ok t
        → length s.sections ≤ length t.sections
    fewer_after xs s t e =
        run_by (statement_step rows provided) (λ u ys. length s.sections ≤ length u.sections) (λ u y ys v f h.
        command_fewer (length s.sections) y.line y.command u v f h) xs s t e (omega arith)

    pub run_statements : (names : List (List ℕ)) (xs : List Statement) (s t u v : Layout)
        → AreAlike (names_given (all_directives xs) ++ names) s t → run (statement_step old earlier) s xs ≡ Ok u
        → run (statement_step rows provided) t xs ≡ Ok v → length v.sections ≤ first → AreAlike names u v
    unfolding run
    run_statements names [] s t u v a p q l =
        let one : s ≡ u = cc in let two : t ≡ v = cc in
        subst (λ z. AreAlike names u z) two (subst (λ z. AreAlike names z t) one a)
    run_statements names (x ∷ xs) s t u v a p q l =
        let k = came (statement_step old earlier s x) (λ z. run (statement_step old earlier) z xs) u p in
        let m = came (statement_step rows provided t x) (λ z. run (statement_step rows provided) z xs) v q in
        let few = fewer_after xs m.value v m.gives in
        run_statements names xs k.value m.value u v
        (command_alike (names_given (all_directives xs) ++ names) x.line x.command s t k.value m.value
        (subst (λ z. AreAlike z s t) (names_on (top_directives x.line x.command) (all_directives xs) names) a) k.is m.is
        (omega (arith, few, l))) k.gives m.gives l

pub statements_alike : (first : ℕ) (old rows : List (List Piece)) (earlier provided names : List (List ℕ))
    (xs : List Statement) (s t u v : Layout) → AreSameBefore first old rows
    → AreAlike (names_given (all_directives xs) ++ names) s t → run (statement_step old earlier) s xs ≡ Ok u
    → run (statement_step rows provided) t xs ≡ Ok v → length v.sections ≤ first → AreAlike names u v
statements_alike first old rows earlier provided names xs s t u v rs a p q l =
    run_statements first old rows earlier provided rs names xs s t u v a p q l

-- ---- no name is given twice

all_new : (ns : List (List ℕ)) → EachLater (λ n k. n ≢ k) ns → AreNew ns [] []
all_new [] h = tt
all_new (n ∷ ns) h = (
  refl,
  refl,
  none_any (bytes_eq n) ns (each_imply (λ k. n ≢ k) (λ k. bytes_eq n k ≡ false) (other_name n) ns h.0),
  all_new ns h.1,
)

pub begun_alike : (script : List Statement) → IsSound script
    → AreAlike (names_given (all_directives script)) nothing_placed nothing_placed
begun_alike script sound = record {
  same = refl;
  symbols = record {
    values = λ name x y e f. absurd (let none : ⊥ = cc in none);
    new = all_new (names_given (all_directives script)) (symbols_differ script sound);
  };
}

-- ---- two layouts of a script
directives_on : (xs ys : List Statement) → all_directives (xs ++ ys) ≡ all_directives xs ++ all_directives ys
directives_on [] ys = refl
directives_on (x ∷ xs) ys =
    ap (λ l. top_directives x.line x.command ++ l) (directives_on xs ys)
    ∙ sym (append_assoc (top_directives x.line x.command) (all_directives xs) (all_directives ys))

items_directives_on : (xs ys : List Item) → items_directives (xs ++ ys) ≡ items_directives xs ++ items_directives ys
items_directives_on [] ys = refl
items_directives_on (x ∷ xs) ys =
    ap (λ l. item_directives x.line x.command ++ l) (items_directives_on xs ys)
    ∙ sym (append_assoc (item_directives x.line x.command) (items_directives xs) (items_directives ys))

-- the names that come after some statements
names_left : (script before : List Statement) (items : List Item) (p : IsPartedAt script before items)
    → names_given (all_directives script)
    ≡ names_given (all_directives before) ++ (names_given (items_directives items)
    ++ names_given (items_directives p.more ++ all_directives p.after))
names_left script before items p =
    let later : List DirectiveAt = items_directives p.more ++ all_directives p.after in
    ap (λ l. names_given (all_directives l)) p.parts
    ∙ (ap names_given (directives_on before (record { line = p.line; command = top.Sections (items ++ p.more) }
    ∷ p.after))
    ∙ (names_of_both (all_directives before) (items_directives (items ++ p.more) ++ all_directives p.after)
    ∙ ap (λ l. names_given (all_directives before) ++ l)
    (ap (λ l. names_given (l ++ all_directives p.after)) (items_directives_on items p.more)
    ∙ (ap names_given (append_assoc (items_directives items) (items_directives p.more) (all_directives p.after))
    ∙ names_of_both (items_directives items) later))))

pub placements_alike : (script before : List Statement) (items : List Item) (first : ℕ) (old rows : List (List Piece))
    (earlier provided : List (List ℕ)) (s t : Layout) → IsSound script → IsPartedAt script before items
    → AreSameBefore first old rows → LeadTo old earlier before items s → LeadTo rows provided before items t
    → length t.sections ≤ first → AreAlike [] s t
placements_alike script before items first old rows earlier provided s t sound p rs h k l =
    let later : List (List ℕ) = names_given (items_directives p.more ++ all_directives p.after) in
    let begun = subst (λ ns. AreAlike ns nothing_placed nothing_placed) (names_left script before items p)
    (begun_alike script sound) in
    let few = fewer first old rows earlier provided rs items k.state t k.goes in
    let one = run_statements first old rows earlier provided rs (names_given (items_directives items) ++ later) before
    nothing_placed nothing_placed h.state k.state begun h.first k.first (omega (arith, few, l)) in
    let all = run_items first old rows earlier provided rs later items h.state k.state s t one h.goes k.goes l in
    record { same = all.same; symbols = record { values = all.symbols.values; new = tt } }
