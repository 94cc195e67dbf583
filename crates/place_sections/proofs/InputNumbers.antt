-- How far the number of the next input statement goes on.
use Rattle.place_sections.proofs.Common.{Add, AreOutside, Body, BodyCommand, BodyStatement, Bool, Command, Directive}
use Rattle.place_sections.proofs.Common.{DotCommand, Err, Expr, IsOutside, ItemCommand, Layout, List, MovedBack, None}
use Rattle.place_sections.proofs.Common.{Ok, Option, OutputSection, PlacedPiece, Region, Set, Some, Statement, []}
use Rattle.place_sections.proofs.Common.{address, advanced, and_then, ap, arith, body_command_step, body_step}
use Rattle.place_sections.proofs.Common.{byte_count, command_step, cond, directive_step, false, free_dot_step, head_of}
use Rattle.place_sections.proofs.Common.{inputs_at_most, item_command_step, length, moved_on, nat_lt, next_row, noted}
use Rattle.place_sections.proofs.Common.{number, opened, piece_placed, piece_start, pieces_placed, plus_modulo, refl}
use Rattle.place_sections.proofs.Common.{region_step, run, section_end, section_step, set_to, statement_step, sym, true}
use Rattle.place_sections.proofs.Common.{with_data, with_dot, with_region, ℕ, ◌++◌, ◌+◌, ◌==◌, ◌∙◌, ◌∷◌, ◌≡◌, ◌≤◌}
use Rattle.byteorder.specs.Endian.{little_bytes}
use Rattle.ldscript.specs.statements.declared.section.BodyCommand.TheVariants as body
use Rattle.ldscript.specs.statements.declared.statement.Command.TheVariants as top
use Rattle.ldscript.specs.statements.declared.statement.ItemCommand.TheVariants as item
use Rattle.ldscript.specs.terms.DotForms.{DotForm, Advance, Align, Offset, dot_form}
use Rattle.ldscript.specs.terms.Expressions as expression
use Rattle.ldmodel.specs.Rows.{Piece}
use Rattle.std.proofs.lemmas.List.Elements.{All-head, All-tail}
use Rattle.place_sections.proofs.Adding.{end_is}
use Rattle.place_sections.proofs.Ending.{chained}
use Rattle.place_sections.proofs.Grows.{directive_leaves, given_is}

piece_leaves : (line : ℕ) (b : Body) (p : Piece) (rest : List Piece) (c : Body) → piece_placed line b p rest ≡ Ok c
    → c.layout.inputs ≡ b.layout.inputs
unfolding piece_placed
piece_leaves line b p rest c e =
    let h = chained (address line (piece_start b.layout.dot p + p.size)) _ c e in
    let x : PlacedPiece = record { start = piece_start b.layout.dot p; piece = p } in
    let d = given_is (record (with_dot b h.value) { rest = rest; pieces = b.pieces ++ x ∷ [] }) c h.second in
    ap (λ (u : Body). u.layout.inputs) (sym d)

pieces_leave : (line n : ℕ) (ps : List Piece) (b c : Body) → pieces_placed line n b ps ≡ Ok c
    → c.layout.inputs ≡ b.layout.inputs
unfolding pieces_placed
pieces_leave line n [] b c e = ap (λ (u : Body). u.layout.inputs) (sym (given_is b c e))
pieces_leave line n (p ∷ ps) b c e = go (p.statement == n) e (λ d. pieces_leave line n ps d c)
  where
    go : (t : Bool) → cond t (and_then (piece_placed line b p ps) (λ d. pieces_placed line n d ps)) (Ok b) ≡ Ok c
        → ((d : Body) → pieces_placed line n d ps ≡ Ok c → c.layout.inputs ≡ d.layout.inputs)
        → c.layout.inputs ≡ b.layout.inputs
    go true k more =
        let h = chained (piece_placed line b p ps) (λ d. pieces_placed line n d ps) c k in
        more h.value h.second ∙ piece_leaves line b p ps h.value h.first
    go false k more = ap (λ (u : Body). u.layout.inputs) (sym (given_is b c k))

moved_leaves : (line to : ℕ) (b c : Body) → moved_on line b to ≡ Ok c → c.layout.inputs ≡ b.layout.inputs
moved_leaves line to b c e = go (nat_lt to b.layout.dot) e
  where
    go : (t : Bool) → cond t (Err (MovedBack line)) (and_then (address line to) (λ x. Ok (with_dot b x))) ≡ Ok c
        → c.layout.inputs ≡ b.layout.inputs
    go true k = absurd (let no : ⊥ = cc in no)
    go false k =
        let h = chained (address line to) (λ x. Ok (with_dot b x)) c k in
        ap (λ (u : Body). u.layout.inputs) (sym (given_is (with_dot b h.value) c h.second))

advanced_leaves : (line : ℕ) (x : Expr) (b c : Body) → advanced line b x ≡ Ok c → c.layout.inputs ≡ b.layout.inputs
advanced_leaves line x b c e =
    let h = chained (number b.layout line x) (λ y. moved_on line b (b.layout.dot + y)) c e in
    moved_leaves line (b.layout.dot + h.value) b c h.second

set_leaves : (line : ℕ) (f : Option DotForm) (b c : Body) → set_to line b f ≡ Ok c
    → c.layout.inputs ≡ b.layout.inputs
set_leaves line (Some (Advance x)) b c e = advanced_leaves line x b c e
set_leaves line (Some (Align x)) b c e =
    let h = chained (number b.layout line (expression.AlignDot x)) (λ y. moved_on line b y) c e in
    moved_leaves line h.value b c h.second
set_leaves line (Some (Offset x)) b c e =
    let h = chained (number b.layout line x) (λ y. moved_on line b (b.start + y)) c e in
    moved_leaves line (b.start + h.value) b c h.second
set_leaves line None b c e = ap (λ (u : Body). u.layout.inputs) (sym (given_is b c e))

-- a command of a body is one input statement at most
command_counts : (provided : List (List ℕ)) (line : ℕ) (x : BodyCommand) (b c : Body)
    → body_command_step provided line b x ≡ Ok c → c.layout.inputs ≤ b.layout.inputs + 1
unfolding body_command_step
command_counts provided line (body.Dot (Set x)) b c e = let h = set_leaves line (dot_form x) b c e in omega (arith, h)
command_counts provided line (body.Dot (Add x)) b c e = let h = advanced_leaves line x b c e in omega (arith, h)
command_counts provided line (body.Directive x) b c e =
    let h = chained (directive_step provided b.layout line x) (λ s. Ok (record b { layout = s })) c e in
    let d = ap (λ (u : Body). u.layout.inputs) (given_is (record b { layout = h.value }) c h.second) in
    let k = directive_leaves (λ (u : Layout). u.inputs) (λ u n v. refl) provided b.layout line x h.value h.first in
    omega (arith, d, k)
command_counts provided line (body.Data w x) b c e =
    let h = chained (number b.layout line x) _ c e in
    let k = chained (address line (b.layout.dot + byte_count w))
    (λ end. Ok (with_dot (with_data b (little_bytes (byte_count w) h.value)) end)) c h.second in
    let d = ap (λ (u : Body). u.layout.inputs)
    (given_is (with_dot (with_data b (little_bytes (byte_count w) h.value)) k.value) c k.second) in
    omega (arith, d)
command_counts provided line (body.Input i) b c e =
    let h = chained (pieces_placed line b.layout.inputs b b.rest) _ c e in
    let d = ap (λ (u : Body). u.layout.inputs)
    (given_is (record h.value { layout = record h.value.layout { inputs = b.layout.inputs + 1 } }) c h.second) in
    omega (arith, d)

pub statement_counts : (provided : List (List ℕ)) (x : BodyStatement) (b c : Body) → body_step provided b x ≡ Ok c
    → c.layout.inputs ≤ b.layout.inputs + 1
statement_counts provided x b c e =
    command_counts provided x.line x.command (record b { layout = noted b.layout }) c e

body_counts : (provided : List (List ℕ)) (xs : List BodyStatement) (b c : Body) → run (body_step provided) b xs ≡ Ok c
    → c.layout.inputs ≤ b.layout.inputs + length xs
unfolding run
body_counts provided [] b c e =
    let d = ap (λ (u : Body). u.layout.inputs) (given_is b c e) in omega (arith, d)
body_counts provided (x ∷ xs) b c e =
    let h = chained (body_step provided b x) (λ d. run (body_step provided) d xs) c e in
    let one = statement_counts provided x b h.value h.first in
    let more = body_counts provided xs h.value c h.second in
    omega (arith, one, more)

section_counts : (provided : List (List ℕ)) (row : List Piece) (s : Layout) (line : ℕ) (o : OutputSection) (t : Layout)
    → section_step provided row s line o ≡ Ok t → t.inputs ≤ s.inputs + length o.body
unfolding section_step
section_counts provided row s line o t e =
    let h = chained (head_of s row line o) _ t e in
    let b = chained (run (body_step provided) (opened s row h.value) o.body) (λ c. section_end line o h.value c) t
    h.second in
    let n = body_counts provided o.body (opened s row h.value) b.value b.first in
    let d = ap (λ (u : Layout). u.inputs) (end_is line o h.value b.value t b.second) in
    omega (arith, n, d)

free_dot_leaves : (s : Layout) (line : ℕ) (c : DotCommand) (t : Layout) → free_dot_step s line c ≡ Ok t
    → t.inputs ≡ s.inputs
free_dot_leaves s line (Set e) t h = let k = chained (number s line e) _ t h in
    ap (λ (u : Layout). u.inputs) (sym (given_is (record s { dot = k.value }) t k.second))
free_dot_leaves s line (Add e) t h = let k = chained (number s line e) _ t h in
    ap (λ (u : Layout). u.inputs) (sym (given_is (record s { dot = plus_modulo s.dot k.value }) t k.second))

-- a statement of SECTIONS has no more input statements than its own
pub item_counts : (rows : List (List Piece)) (provided : List (List ℕ)) (line : ℕ) (s : Layout) (c : ItemCommand)
    (t : Layout) → item_command_step rows provided line s c ≡ Ok t → t.inputs ≤ s.inputs + inputs_at_most c
unfolding item_command_step
item_counts rows provided line s (item.Dot c) t e = let h = free_dot_leaves s line c t e in omega (arith, h)
item_counts rows provided line s (item.Directive c) t e =
    let h = directive_leaves (λ (u : Layout). u.inputs) (λ u n v. refl) provided s line c t e in omega (arith, h)
item_counts rows provided line s (item.Section o) t e = section_counts provided (next_row rows s) s line o t e
item_counts rows provided line s (item.Discard inputs) t e =
    let d = ap (λ (u : Layout). u.inputs) (given_is _ t e) in omega (arith, d)

regions_leave : (rs : List Region) (s t : Layout) → run region_step s rs ≡ Ok t → t.inputs ≡ s.inputs
unfolding run region_step
regions_leave [] s t e = ap (λ (u : Layout). u.inputs) (sym (given_is s t e))
regions_leave (r ∷ rs) s t e =
    let h = chained (region_step s r) (λ u. run region_step u rs) t e in
    let a = chained (number s r.line r.origin) _ h.value h.first in
    let b = chained (number s r.line r.extent) _ h.value a.second in
    regions_leave rs h.value t h.second
    ∙ ap (λ (u : Layout). u.inputs) (sym (given_is (with_region s r.name a.value b.value) h.value b.second))

command_leaves : (rows : List (List Piece)) (provided : List (List ℕ)) (line : ℕ) (s : Layout) (c : Command)
    (t : Layout) → IsOutside c → command_step rows provided line s c ≡ Ok t → t.inputs ≡ s.inputs
unfolding command_step
command_leaves rows provided line s (top.Entry name) t out e = ap (λ (u : Layout). u.inputs) (sym (given_is s t e))
command_leaves rows provided line s (top.Memory regions) t out e = regions_leave regions s t e
command_leaves rows provided line s (top.Sections items) t out e = absurd out
command_leaves rows provided line s (top.Directive c) t out e =
    directive_leaves (λ (u : Layout). u.inputs) (λ u n v. refl) provided s line c t e

-- statements outside SECTIONS have none
pub outside_leave : (rows : List (List Piece)) (provided : List (List ℕ)) (xs : List Statement) (s t : Layout)
    → AreOutside xs → run (statement_step rows provided) s xs ≡ Ok t → t.inputs ≡ s.inputs
unfolding run
outside_leave rows provided [] s t out e = ap (λ (u : Layout). u.inputs) (sym (given_is s t e))
outside_leave rows provided (x ∷ xs) s t out e =
    let h = chained (statement_step rows provided s x) (λ u. run (statement_step rows provided) u xs) t e in
    outside_leave rows provided xs h.value t (All-tail (λ (y : Statement). IsOutside y.command) x xs out) h.second
    ∙ command_leaves rows provided x.line s x.command h.value
    (All-head (λ (y : Statement). IsOutside y.command) x xs out) h.first
