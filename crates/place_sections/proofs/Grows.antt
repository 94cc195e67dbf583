-- What a step of a layout leaves as it was, and what it adds to.
use Rattle.place_sections.proofs.Common.{Add, Begins, Body, BodyCommand, BodyStatement, Bool, Directive, Err, Expr}
use Rattle.place_sections.proofs.Common.{Fault, Layout, List, MovedBack, None, Ok, Option, PlacedPiece, Result, Set}
use Rattle.place_sections.proofs.Common.{Some, [], address, advanced, and_then, ap, append_assoc, arith, assigned}
use Rattle.place_sections.proofs.Common.{body_command_step, body_step, byte_count, bytes_eq, cond, directive_step}
use Rattle.place_sections.proofs.Common.{false, input_step, list_any, map, map-append, moved_on, nat_lt, noted, number}
use Rattle.place_sections.proofs.Common.{piece_placed, piece_start, pieces_placed, refl, run, set_to, subst, sym, true}
use Rattle.place_sections.proofs.Common.{with_data, with_dot, with_symbol, ℕ, ◌++◌, ◌+◌, ◌==◌, ◌∙◌, ◌∷◌, ◌≡◌, ◌≤◌}
use Rattle.byteorder.specs.Endian.{little_bytes}
use Rattle.ldscript.specs.terms.Expressions as expression
use Rattle.ldscript.specs.terms.DotForms.{DotForm, Advance, Align, Offset, dot_form}
use Rattle.ldscript.specs.statements.declared.directive.Assignment.{Assignment}
use Rattle.ldscript.specs.statements.declared.directive.Directive.TheVariants as directive
use Rattle.ldscript.specs.statements.declared.section.BodyCommand.TheVariants as body
use Rattle.ldmodel.specs.Rows.{Piece}
use Rattle.place_sections.proofs.Beginning.{begins_on, begins_one, begins_same}
use Rattle.place_sections.proofs.Ending.{address_is, chained}

-- a state that is given is that of the result
pub given_is : {X : Type 0} (s t : X) → ◌≡◌ {A = Result X Fault} (Ok s) (Ok t) → s ≡ t
given_is s t e = cc

-- a command of symbols changes nothing else
assigned_leaves : {X : Type 0} (f : Layout → X) → ((s : Layout) (name : List ℕ) (x : ℕ) → f
    (with_symbol s name x) ≡ f s)
    → (s : Layout) (line : ℕ) (a : Assignment) (t : Layout) → assigned s line a ≡ Ok t → f t ≡ f s
assigned_leaves f same s line a t e =
    let h = chained (number s line a.value) (λ x. Ok (with_symbol s a.name x)) t e in
    let d = given_is (with_symbol s a.name h.value) t h.second in
    ap f (sym d) ∙ same s a.name h.value

pub directive_leaves : {X : Type 0} (f : Layout → X) → ((s : Layout) (name : List ℕ) (x : ℕ) → f
    (with_symbol s name x) ≡ f s)
    → (provided : List (List ℕ)) (s : Layout) (line : ℕ) (c : Directive) (t : Layout)
    → directive_step provided s line c ≡ Ok t → f t ≡ f s
unfolding directive_step
directive_leaves f same provided s line (directive.Assign a) t e = assigned_leaves f same s line a t e
directive_leaves f same provided s line (directive.Provide a) t e = go (list_any (bytes_eq a.name) provided) e
  where
    go : (b : Bool) → cond b (assigned s line a) (Ok s) ≡ Ok t → f t ≡ f s
    go true h = assigned_leaves f same s line a t h
    go false h = ap f (sym (given_is s t h))
directive_leaves f same provided s line (directive.Assert a) t e = ap f (sym (given_is s t e))

pub directive_keeps : (provided : List (List ℕ)) (s : Layout) (line : ℕ) (c : Directive) (t : Layout)
    → directive_step provided s line c ≡ Ok t → t.sections ≡ s.sections
directive_keeps provided s line c t e = directive_leaves (λ (u : Layout). u.sections) (λ u n x. refl) provided s line c
    t e

-- an assignment adds a symbol
assigned_adds : (s : Layout) (line : ℕ) (a : Assignment) (t : Layout) → assigned s line a ≡ Ok t
    → Begins s.symbols t.symbols
assigned_adds s line a t e =
    let h = chained (number s line a.value) (λ x. Ok (with_symbol s a.name x)) t e in
    let d = given_is (with_symbol s a.name h.value) t h.second in
    begins_one s.symbols (record { name = a.name; value = h.value }) t.symbols (ap (λ (u : Layout). u.symbols) (sym d))

pub directive_adds : (provided : List (List ℕ)) (s : Layout) (line : ℕ) (c : Directive) (t : Layout)
    → directive_step provided s line c ≡ Ok t → Begins s.symbols t.symbols
unfolding directive_step
directive_adds provided s line (directive.Assign a) t e = assigned_adds s line a t e
directive_adds provided s line (directive.Provide a) t e = go (list_any (bytes_eq a.name) provided) e
  where
    go : (b : Bool) → cond b (assigned s line a) (Ok s) ≡ Ok t → Begins s.symbols t.symbols
    go true h = assigned_adds s line a t h
    go false h = begins_same s.symbols t.symbols (ap (λ (u : Layout). u.symbols) (sym (given_is s t h)))
directive_adds provided s line (directive.Assert a) t e =
    begins_same s.symbols t.symbols (ap (λ (u : Layout). u.symbols) (sym (given_is s t e)))

abbrev pub the_piece : PlacedPiece → Piece
the_piece x = x.piece

-- a body goes on: it takes entries from the front of the row, keeps the output sections that are complete and the
-- regions, and adds to the input sections, the values of `.` and the symbols
pub record Grown (b c : Body) : Type 0 where
  pub row : map the_piece c.pieces ++ c.rest ≡ map the_piece b.pieces ++ b.rest
  pub pieces : Begins b.pieces c.pieces
  pub dot : b.layout.dot ≤ c.layout.dot
  pub sections : c.layout.sections ≡ b.layout.sections
  pub regions : c.layout.regions ≡ b.layout.regions
  pub dots_are : Begins b.layout.dots c.layout.dots
  pub symbols_are : Begins b.layout.symbols c.layout.symbols

grown_none : (b : Body) → Grown b b
grown_none b = record {
  row = refl;
  pieces = begins_same b.pieces b.pieces refl;
  dot = omega arith;
  sections = refl;
  regions = refl;
  dots_are = begins_same b.layout.dots b.layout.dots refl;
  symbols_are = begins_same b.layout.symbols b.layout.symbols refl;
}

pub grown_on : (b c e : Body) → Grown b c → Grown c e → Grown b e
grown_on b c e g h = record {
  row = h.row ∙ g.row;
  pieces = begins_on b.pieces c.pieces e.pieces g.pieces h.pieces;
  dot = omega (arith, g.dot, h.dot);
  sections = h.sections ∙ g.sections;
  regions = h.regions ∙ g.regions;
  dots_are = begins_on b.layout.dots c.layout.dots e.layout.dots g.dots_are h.dots_are;
  symbols_are = begins_on b.layout.symbols c.layout.symbols e.layout.symbols g.symbols_are h.symbols_are;
}

grown_given : (b c : Body) → ◌≡◌ {A = Result Body Fault} (Ok b) (Ok c) → Grown b c
grown_given b c e = subst (Grown b) (given_is b c e) (grown_none b)

-- `.` goes on
grown_dot : (b : Body) (x : ℕ) → b.layout.dot ≤ x → Grown b (with_dot b x)
grown_dot b x l = record {
  row = refl;
  pieces = begins_same b.pieces b.pieces refl;
  dot = l;
  sections = refl;
  regions = refl;
  dots_are = begins_same b.layout.dots b.layout.dots refl;
  symbols_are = begins_same b.layout.symbols b.layout.symbols refl;
}

piece_grows : (line : ℕ) (b : Body) (p : Piece) (rest : List Piece) (c : Body) → b.rest ≡ p ∷ rest
    → piece_placed line b p rest ≡ Ok c
    → Grown b c × (c.rest ≡ rest)
unfolding piece_placed
piece_grows line b p rest c r e =
    let h = chained (address line (piece_start b.layout.dot p + p.size)) _ c e in
    let end = address_is line (piece_start b.layout.dot p + p.size) h.value h.first in
    let x : PlacedPiece = record { start = piece_start b.layout.dot p; piece = p } in
    let d = given_is (record (with_dot b h.value) { rest = rest; pieces = b.pieces ++ x ∷ [] }) c h.second in (
      subst (Grown b) d (record {
        row = ap (λ l. l ++ rest) (map-append the_piece b.pieces (x ∷ []))
            ∙ (append_assoc (map the_piece b.pieces) (p ∷ []) rest ∙ ap (λ l. map the_piece b.pieces ++ l) (sym r));
        pieces = begins_one b.pieces x (b.pieces ++ x ∷ []) refl;
        dot = omega (arith, end);
        sections = refl;
        regions = refl;
        dots_are = begins_same b.layout.dots b.layout.dots refl;
        symbols_are = begins_same b.layout.symbols b.layout.symbols refl;
      }),
      ap (λ (u : Body). u.rest) (sym d),
    )

pub pieces_grow : (line n : ℕ) (ps : List Piece) (b c : Body) → b.rest ≡ ps → pieces_placed line n b ps ≡ Ok c
    → Grown b c
unfolding pieces_placed
pieces_grow line n [] b c r e = grown_given b c e
pieces_grow line n (p ∷ ps) b c r e = go (p.statement == n) e (λ d. pieces_grow line n ps d c)
  where
    go : (t : Bool) → cond t (and_then (piece_placed line b p ps) (λ d. pieces_placed line n d ps)) (Ok b) ≡ Ok c
        → ((d : Body) → d.rest ≡ ps → pieces_placed line n d ps ≡ Ok c → Grown d c) → Grown b c
    go true k more =
        let h = chained (piece_placed line b p ps) (λ d. pieces_placed line n d ps) c k in
        let one = piece_grows line b p ps h.value r h.first in
        grown_on b h.value c one.0 (more h.value one.1 h.second)
    go false k more = grown_given b c k

input_grows : (line : ℕ) (b c : Body) → input_step line b ≡ Ok c → Grown b c
input_grows line b c e =
    let h = chained (pieces_placed line b.layout.inputs b b.rest) _ c e in
    let d = given_is (record h.value { layout = record h.value.layout { inputs = b.layout.inputs + 1 } }) c h.second in
    let g = pieces_grow line b.layout.inputs b.rest b h.value refl h.first in
    subst (Grown b) d (record {
      row = g.row;
      pieces = g.pieces;
      dot = g.dot;
      sections = g.sections;
      regions = g.regions;
      dots_are = g.dots_are;
      symbols_are = g.symbols_are;
    })

moved_grows : (line to : ℕ) (b c : Body) → moved_on line b to ≡ Ok c → Grown b c
moved_grows line to b c e = go (nat_lt to b.layout.dot) refl e
  where
    go : (t : Bool) → nat_lt to b.layout.dot ≡ t
        → cond t (Err (MovedBack line)) (and_then (address line to) (λ x. Ok (with_dot b x))) ≡ Ok c
        → Grown b c
    go true l k = absurd (let no : ⊥ = cc in no)
    go false l k =
        let h = chained (address line to) (λ x. Ok (with_dot b x)) c k in
        let d = given_is (with_dot b h.value) c h.second in
        let end = address_is line to h.value h.first in
        subst (Grown b) d (grown_dot b h.value (grind (arith, end, l)))

advanced_grows : (line : ℕ) (x : Expr) (b c : Body) → advanced line b x ≡ Ok c → Grown b c
advanced_grows line x b c e = let h = chained (number b.layout line x) (λ y. moved_on line b (b.layout.dot + y)) c e in
    moved_grows line (b.layout.dot + h.value) b c h.second

set_grows : (line : ℕ) (f : Option DotForm) (b c : Body) → set_to line b f ≡ Ok c → Grown b c
set_grows line (Some (Advance x)) b c e = advanced_grows line x b c e
set_grows line (Some (Align x)) b c e = let h =
    chained (number b.layout line (expression.AlignDot x)) (λ y. moved_on line b y) c e in
    moved_grows line h.value b c h.second
set_grows line (Some (Offset x)) b c e = let h =
    chained (number b.layout line x) (λ y. moved_on line b (b.start + y)) c e in
    moved_grows line (b.start + h.value) b c h.second
set_grows line None b c e = grown_given b c e

data_grows : (line w : ℕ) (bytes : List ℕ) (b c : Body)
    → and_then (address line (b.layout.dot + w)) (λ end. Ok (with_dot (with_data b bytes) end)) ≡ Ok c
    → Grown b c
data_grows line w bytes b c e =
    let k = chained (address line (b.layout.dot + w)) (λ end. Ok (with_dot (with_data b bytes) end)) c e in
    let end = address_is line (b.layout.dot + w) k.value k.first in
    let d = given_is (with_dot (with_data b bytes) k.value) c k.second in
    subst (Grown b) d (record {
      row = refl;
      pieces = begins_same b.pieces b.pieces refl;
      dot = omega (arith, end);
      sections = refl;
      regions = refl;
      dots_are = begins_same b.layout.dots b.layout.dots refl;
      symbols_are = begins_same b.layout.symbols b.layout.symbols refl;
    })

directive_grows : (provided : List (List ℕ)) (line : ℕ) (x : Directive) (b : Body) (s : Layout)
    → directive_step provided b.layout line x ≡ Ok s
    → Grown b (record b { layout = s })
directive_grows provided line x b s e = record {
  row = refl;
  pieces = begins_same b.pieces b.pieces refl;
  dot = let h = directive_leaves (λ (u : Layout). u.dot) (λ u n v. refl) provided b.layout line x s e in omega (
    arith,
    h,
  );
  sections = directive_keeps provided b.layout line x s e;
  regions = directive_leaves (λ (u : Layout). u.regions) (λ u n v. refl) provided b.layout line x s e;
  dots_are = begins_same b.layout.dots s.dots
      (directive_leaves (λ (u : Layout). u.dots) (λ u n v. refl) provided b.layout line x s e);
  symbols_are = directive_adds provided b.layout line x s e;
}

command_grows : (provided : List (List ℕ)) (line : ℕ) (x : BodyCommand) (b c : Body)
    → body_command_step provided line b x ≡ Ok c → Grown b c
unfolding body_command_step
command_grows provided line (body.Dot (Set x)) b c e = set_grows line (dot_form x) b c e
command_grows provided line (body.Dot (Add x)) b c e = advanced_grows line x b c e
command_grows provided line (body.Directive x) b c e =
    let h = chained (directive_step provided b.layout line x) (λ s. Ok (record b { layout = s })) c e in
    subst (Grown b) (given_is (record b { layout = h.value }) c h.second)
    (directive_grows provided line x b h.value h.first)
command_grows provided line (body.Data w x) b c e =
    let h = chained (number b.layout line x) _ c e in
    data_grows line (byte_count w) (little_bytes (byte_count w) h.value) b c h.second
command_grows provided line (body.Input i) b c e = input_grows line b c e

statement_grows : (provided : List (List ℕ)) (x : BodyStatement) (b c : Body) → body_step provided b x ≡ Ok c
    → Grown b c
statement_grows provided x b c e =
    let h = command_grows provided x.line x.command (record b { layout = noted b.layout }) c e in
    record {
      row = h.row;
      pieces = h.pieces;
      dot = h.dot;
      sections = h.sections;
      regions = h.regions;
      dots_are = begins_on b.layout.dots (noted b.layout).dots c.layout.dots
          (begins_one b.layout.dots b.layout.dot (noted b.layout).dots refl) h.dots_are;
      symbols_are = h.symbols_are;
    }

pub body_grows : (provided : List (List ℕ)) (xs : List BodyStatement) (b c : Body) → run (body_step provided) b xs
    ≡ Ok c → Grown b c
unfolding run
body_grows provided [] b c e = grown_given b c e
body_grows provided (x ∷ xs) b c e =
    let h = chained (body_step provided b x) (λ d. run (body_step provided) d xs) c e in
    grown_on b h.value c (statement_grows provided x b h.value h.first) (body_grows provided xs h.value c h.second)
