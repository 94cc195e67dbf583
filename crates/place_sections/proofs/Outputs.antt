-- The output sections of a whole layout are those of the script, in their order.
use Rattle.place_sections.proofs.Common.{Add, Body, Command, DotCommand, Head, Item, ItemCommand, Layout, List, Ok}
use Rattle.place_sections.proofs.Common.{OutputSection, OutputSectionAt, PlacedOutput, Region, Set, Statement, []}
use Rattle.place_sections.proofs.Common.{address, ap, append-nil, append_assoc, body_step, command_step, find_region}
use Rattle.place_sections.proofs.Common.{free_dot_step, head_of, item_command_step, item_sections, item_step}
use Rattle.place_sections.proofs.Common.{load_region, map, map-append, next_row, noted, nothing_placed, number, opened}
use Rattle.place_sections.proofs.Common.{output_sections, placed_section, placement, plus_modulo, refl, region_step}
use Rattle.place_sections.proofs.Common.{run, section_end, section_step, sections_append, sections_in, statement_step}
use Rattle.place_sections.proofs.Common.{sym, with_region, with_room, with_section, ℕ, ◌++◌, ◌+◌, ◌∙◌, ◌∷◌, ◌≡◌}
use Rattle.ldscript.specs.statements.Numbering.{items, items_of}
use Rattle.ldscript.specs.statements.declared.statement.Command.TheVariants as top
use Rattle.ldscript.specs.statements.declared.statement.ItemCommand.TheVariants as item
use Rattle.ldmodel.specs.Rows.{Piece}
use Rattle.place_sections.proofs.Ending.{chained}
use Rattle.place_sections.proofs.Grows.{body_grows, directive_keeps, given_is}

abbrev names_of : List PlacedOutput → List (List ℕ)
names_of sections = map (λ (q : PlacedOutput). q.name) sections

abbrev names_in : List OutputSectionAt → List (List ℕ)
names_in sections = map (λ (s : OutputSectionAt). s.section.name) sections

-- the end of a section adds it
pub end_adds : (line : ℕ) (o : OutputSection) (h : Head) (b : Body) (t : Layout) → section_end line o h b ≡ Ok t
    → t.sections ≡ b.layout.sections ++ placed_section o h b ∷ []
unfolding section_end
end_adds line o h b t e =
    let q : PlacedOutput = placed_section o h b in
    let x = chained (with_room (find_region b.layout o.region) q.start q.size q) _ t e in
    let y = chained (with_room (find_region b.layout (load_region o.load)) q.load q.load_size q) _ t x.second in
    let z = chained (address line (q.load + q.load_size)) _ t y.second in
    ap (λ (u : Layout). u.sections) (sym (given_is (with_section b.layout o q) t z.second))

section_name : (o : OutputSection) (h : Head) (b : Body) → (placed_section o h b).name ≡ o.name
unfolding placed_section
section_name o h b = refl

pub section_names_it : (provided : List (List ℕ)) (row : List Piece) (s : Layout) (line : ℕ) (o : OutputSection)
    (t : Layout) → section_step provided row s line o ≡ Ok t → names_of t.sections ≡ names_of s.sections ++ o.name ∷ []
unfolding section_step
section_names_it provided row s line o t e =
    let h = chained (head_of s row line o) _ t e in
    let b = chained (run (body_step provided) (opened s row h.value) o.body) (λ c. section_end line o h.value c) t
    h.second in
    let g = body_grows provided o.body (opened s row h.value) b.value b.first in
    let a = end_adds line o h.value b.value t b.second in
    ap names_of a ∙ (map-append (λ (q : PlacedOutput). q.name) b.value.layout.sections
    (placed_section o h.value b.value ∷ [])
    ∙ (ap (λ l. names_of l ++ (placed_section o h.value b.value).name ∷ []) g.sections
    ∙ ap (λ n. names_of s.sections ++ n ∷ []) (section_name o h.value b.value)))

pub free_dot_keeps : (s : Layout) (line : ℕ) (c : DotCommand) (t : Layout) → free_dot_step s line c ≡ Ok t → t.sections
    ≡ s.sections
free_dot_keeps s line (Set e) t h = let k = chained (number s line e) _ t h in
    ap (λ (u : Layout). u.sections) (sym (given_is (record s { dot = k.value }) t k.second))
free_dot_keeps s line (Add e) t h = let k = chained (number s line e) _ t h in
    ap (λ (u : Layout). u.sections) (sym (given_is (record s { dot = plus_modulo s.dot k.value }) t k.second))

unnamed : (xs ys : List PlacedOutput) → xs ≡ ys → names_of xs ≡ names_of ys ++ []
unnamed xs ys e = ap names_of e ∙ sym (append-nil (names_of ys))

pub item_names : (rows : List (List Piece)) (provided : List (List ℕ)) (line : ℕ) (s : Layout) (c : ItemCommand)
    (t : Layout) → item_command_step rows provided line s c ≡ Ok t → names_of t.sections ≡ names_of s.sections
    ++ names_in (item_sections line c)
unfolding item_command_step
item_names rows provided line s (item.Dot c) t e = unnamed t.sections s.sections (free_dot_keeps s line c t e)
item_names rows provided line s (item.Directive c) t e = unnamed t.sections s.sections (directive_keeps provided s line
    c t e)
item_names rows provided line s (item.Section o) t e = section_names_it provided (next_row rows s) s line o t e
item_names rows provided line s (item.Discard inputs) t e =
    unnamed t.sections s.sections (ap (λ (u : Layout). u.sections) (sym (given_is _ t e)))

pub items_names : (rows : List (List Piece)) (provided : List (List ℕ)) (xs : List Item) (s t : Layout)
    → run (item_step rows provided) s xs ≡ Ok t → names_of t.sections ≡ names_of s.sections ++ names_in (sections_in xs)
unfolding run
items_names rows provided [] s t e =
    unnamed t.sections s.sections (ap (λ (u : Layout). u.sections) (sym (given_is s t e)))
items_names rows provided (x ∷ xs) s t e =
    let h = chained (item_step rows provided s x) (λ u. run (item_step rows provided) u xs) t e in
    items_names rows provided xs h.value t h.second
    ∙ (ap (λ l. l ++ names_in (sections_in xs)) (item_names rows provided x.line (noted s) x.command h.value h.first)
    ∙ (append_assoc (names_of s.sections) (names_in (item_sections x.line x.command)) (names_in (sections_in xs))
    ∙ ap (λ l. names_of s.sections
    ++ l) (sym (map-append (λ (y : OutputSectionAt). y.section.name) (item_sections x.line x.command)
    (sections_in xs)))))

pub region_keeps : (s : Layout) (r : Region) (t : Layout) → region_step s r ≡ Ok t → t.sections ≡ s.sections
unfolding region_step
region_keeps s r t e =
    let a = chained (number s r.line r.origin) _ t e in
    let b = chained (number s r.line r.extent) _ t a.second in
    ap (λ (u : Layout). u.sections) (sym (given_is (with_region s r.name a.value b.value) t b.second))

pub regions_keep : (rs : List Region) (s t : Layout) → run region_step s rs ≡ Ok t → t.sections ≡ s.sections
unfolding run
regions_keep [] s t e = ap (λ (u : Layout). u.sections) (sym (given_is s t e))
regions_keep (r ∷ rs) s t e =
    let h = chained (region_step s r) (λ u. run region_step u rs) t e in
    regions_keep rs h.value t h.second ∙ region_keeps s r h.value h.first

pub command_names : (rows : List (List Piece)) (provided : List (List ℕ)) (line : ℕ) (s : Layout) (c : Command)
    (t : Layout) → command_step rows provided line s c ≡ Ok t → names_of t.sections ≡ names_of s.sections
    ++ names_in (sections_in (items_of c))
unfolding command_step
command_names rows provided line s (top.Entry name) t e =
    unnamed t.sections s.sections (ap (λ (u : Layout). u.sections) (sym (given_is s t e)))
command_names rows provided line s (top.Memory regions) t e = unnamed t.sections s.sections (regions_keep regions s t e)
command_names rows provided line s (top.Sections xs) t e = items_names rows provided xs s t e
command_names rows provided line s (top.Directive c) t e =
    unnamed t.sections s.sections (directive_keeps provided s line c t e)

pub statements_names : (rows : List (List Piece)) (provided : List (List ℕ)) (xs : List Statement) (s t : Layout)
    → run (statement_step rows provided) s xs ≡ Ok t → names_of t.sections ≡ names_of s.sections
    ++ names_in (sections_in (items xs))
unfolding run
statements_names rows provided [] s t e =
    unnamed t.sections s.sections (ap (λ (u : Layout). u.sections) (sym (given_is s t e)))
statements_names rows provided (x ∷ xs) s t e =
    let h = chained (statement_step rows provided s x) (λ u. run (statement_step rows provided) u xs) t e in
    statements_names rows provided xs h.value t h.second
    ∙ (ap (λ l. l ++ names_in (sections_in (items xs))) (command_names rows provided x.line s x.command h.value h.first)
    ∙ (append_assoc (names_of s.sections) (names_in (sections_in (items_of x.command)))
    (names_in (sections_in (items xs)))
    ∙ ap (λ l. names_of s.sections
    ++ l) (sym (ap names_in (sections_append (items_of x.command) (items xs))
    ∙ map-append (λ (y : OutputSectionAt). y.section.name) (sections_in (items_of x.command))
    (sections_in (items xs))))))

-- the sections of a layout are the script's
pub outputs_are : (script : List Statement) (rows : List (List Piece)) (provided : List (List ℕ)) (s : Layout)
    → placement script rows provided ≡ Ok s → map (λ (q : PlacedOutput). q.name) s.sections
    ≡ map (λ (x : OutputSectionAt). x.section.name) (output_sections script)
unfolding placement
outputs_are script rows provided s e = statements_names rows provided script nothing_placed s e
