-- The body of an output section goes on alongside that of a previous layout.
use Rattle.place_sections.proofs.Common.{Begins, Body, BodyAlongside, BodyCommand, BodyStatement, Bool, Bor, Counted}
use Rattle.place_sections.proofs.Common.{Head, IfSome, Layout, LayoutCursor, List, Naming, None, Ok, Option}
use Rattle.place_sections.proofs.Common.{OutputSection, PlacedOutput, PlacedPiece, Result, SectionAlongside, Some}
use Rattle.place_sections.proofs.Common.{StartAt, [], address, and_then, ap, arith, body_command_step, body_of}
use Rattle.place_sections.proofs.Common.{body_step, cond, drop, drop_more, eq-eqb, false, get_or, head_of, input_step}
use Rattle.place_sections.proofs.Common.{keyed_piece, length, length-map, map, names_on, noted, opened, piece_at}
use Rattle.place_sections.proofs.Common.{piece_named, piece_placed, piece_start, pieces_placed, placed_section, refl}
use Rattle.place_sections.proofs.Common.{row_named, run, section_end, section_step, slice_get, starts_of, subst, suc}
use Rattle.place_sections.proofs.Common.{sym, true, with_dot, ℕ, ⊤, ◌++◌, ◌+◌, ◌<◌, ◌==◌, ◌∙◌, ◌∷◌, ◌≡◌}
use Rattle.ldscript.specs.statements.Numbering.{directives_in, directives_of}
use Rattle.ldscript.specs.statements.declared.section.BodyCommand.TheVariants as body
use Rattle.ldmodel.specs.Rows.{Piece}
use Rattle.ldmodel.specs.declared.rows.Piece as rows
use Rattle.ldmodel_laws.specs.Alike.{AreBodiesAlike, BodiesStayAlike, HeadsAgree, names_given}
use Rattle.place_sections.proofs.Counting.{along_none}
use Rattle.place_sections.proofs.Adding.{end_is}
use Rattle.place_sections.proofs.Beginning.{begins_mapped, begins_on, begins_same}
use Rattle.place_sections.proofs.Ending.{Chained, address_is, chained}
use Rattle.place_sections.proofs.Grows.{body_grows, given_is, pieces_grow}
use Rattle.place_sections.proofs.Runs.{drop_at}
use Rattle.place_sections.proofs.Taking.{after_first}
use Rattle.place_sections.proofs.Options.{for_some}
use Rattle.place_sections.specs.Alongside.{IfInput, StartsThere}
use Rattle.place_sections.specs.declared.state.CurrentOutput.{CurrentOutput}

-- a list from an element on
pub from_here : {X : Type 0} (xs : List X) (k : ℕ) (x : X) → k < length xs → x ≡ get_or xs k x
    → drop k xs ≡ x ∷ drop (k + 1) xs
from_here xs k x l at = drop_more xs k x l ∙ ap (λ y. y ∷ drop (k + 1) xs) (sym at)

abbrev pub starts : List PlacedPiece → List ℕ
starts pieces = map (λ (x : PlacedPiece). x.start) pieces

-- the start of the next input section, and those of the later ones
next_start : (before : List PlacedPiece) (q : PlacedPiece) (later : List ℕ)
    → drop (length before) (starts (before ++ q ∷ []) ++ later)
    ≡ q.start ∷ drop (length (before ++ q ∷ [])) (starts (before ++ q ∷ []) ++ later)
next_start [] q later = refl
next_start (p ∷ before) q later = next_start before q later

next_of : (before : List PlacedPiece) (q : PlacedPiece) (all : List ℕ) → Begins (starts (before ++ q ∷ [])) all
    → drop (length before) all ≡ q.start ∷ drop (length (before ++ q ∷ [])) all
next_of before q all b =
    subst (λ z. drop (length before) z ≡ q.start ∷ drop (length (before ++ q ∷ [])) z) (sym b.is)
    (next_start before q b.later)

-- no entry of the statement is next
starts_other : (n dot : ℕ) (p : Piece) (rest : List Piece) (all : List ℕ) → (p.statement == n) ≡ false
    → StartAt n dot (p ∷ rest) all
starts_other n dot p rest [] e = e
starts_other n dot p rest (x ∷ xs) e = λ is. absurd (let none : ⊥ = cc in none)

-- an entry takes its place
abbrev placed : Body → Piece → PlacedPiece
placed b p = record { start = piece_start b.layout.dot p; piece = p }

abbrev with_piece : Body → Piece → List Piece → Body
with_piece b p rest =
    record (with_dot b (piece_start b.layout.dot p + p.size)) { rest = rest; pieces = b.pieces ++ placed b p ∷ [] }

piece_is : (line : ℕ) (b : Body) (p : Piece) (rest : List Piece) (c : Body) → piece_placed line b p rest ≡ Ok c
    → with_piece b p rest ≡ c
unfolding piece_placed
piece_is line b p rest c e =
    let after : ℕ → Body = λ end.
    record (with_dot b end) { rest = rest; pieces = b.pieces ++ placed b p ∷ [] } in
    let h = chained (address line (piece_start b.layout.dot p + p.size)) (λ end. Ok (after end)) c e in
    ap after (sym (address_is line (piece_start b.layout.dot p + p.size) h.value h.first))
    ∙ given_is (after h.value) c h.second

-- where the entries of an input statement took their places
pub starts_kept : (line n : ℕ) (rest : List Piece) (b c : Body) (all : List ℕ) → b.rest ≡ rest
    → pieces_placed line n b rest ≡ Ok c → Begins (starts c.pieces) all
    → StartAt n b.layout.dot rest (drop (length b.pieces) all)
unfolding pieces_placed
starts_kept line n [] b c all r e begins = tt
starts_kept line n (p ∷ rest) b c all r e begins =
    go (p.statement == n) refl e (λ d. starts_kept line n rest d c all)
  where
    go : (t : Bool) → (p.statement == n) ≡ t
        → cond t (and_then (piece_placed line b p rest) (λ d. pieces_placed line n d rest)) (Ok b) ≡ Ok c
        → ((d : Body) → d.rest ≡ rest → pieces_placed line n d rest ≡ Ok c → Begins (starts c.pieces) all
        → StartAt n d.layout.dot rest (drop (length d.pieces) all))
        → StartAt n b.layout.dot (p ∷ rest) (drop (length b.pieces) all)
    go false is k later = starts_other n b.layout.dot p rest (drop (length b.pieces) all) is
    go true is k later =
        let h = chained (piece_placed line b p rest) (λ d. pieces_placed line n d rest) c k in
        let d = piece_is line b p rest h.value h.first in
        let left = ap (λ (z : Body). z.rest) (sym d) in
        let others = subst (λ z. StartAt n z.layout.dot rest (drop (length z.pieces) all)) (sym d)
        (later h.value left h.second begins) in
        let g = pieces_grow line n rest h.value c left h.second in
        let first = next_of b.pieces (placed b p) all
        (begins_on (starts (b.pieces ++ placed b p ∷ [])) (starts c.pieces) all
        (begins_mapped (λ (x : PlacedPiece). x.start) (b.pieces ++ placed b p ∷ []) c.pieces
        (subst (λ z. Begins z.pieces c.pieces) (sym d) g.pieces)) begins) in
        subst (λ z. StartAt n b.layout.dot (p ∷ rest) z) (sym first) (λ _. (refl, others))

-- where the next entry starts, and the later ones
pub start_next : (n : Naming) (number dot k : ℕ) (row : List rows.Piece) (all : List ℕ) (p : rows.Piece) (x : ℕ)
    → k < length row → p ≡ get_or row k p → slice_get all k ≡ Some x → p.statement.0 ≡ number
    → StartAt number dot (row_named n (drop k row)) (drop k all)
    → (x ≡ piece_start dot (piece_named n p))
    × StartAt number (x + p.size) (row_named n (drop (k + 1) row)) (drop (k + 1) all)
start_next n number dot k row all p x l at there same kept =
    let here : drop k row ≡ p ∷ drop (k + 1) row = from_here row k p l at in
    let start : drop k all ≡ x ∷ drop (k + 1) all =
    drop_at all k x there ∙ (let e : suc k ≡ k + 1 = omega arith in ap (λ j. x ∷ drop j all) e) in
    subst (λ ps. StartAt number dot (row_named n ps) (x ∷ drop (k + 1) all)) here
    (subst (StartAt number dot (row_named n (drop k row))) start kept) (eq-eqb p.statement.0 number same)

-- those of an input statement of the earlier body
input_kept : (line : ℕ) (b c : Body) (all : List ℕ) → input_step line b ≡ Ok c → Begins (starts c.pieces) all
    → StartAt b.layout.inputs b.layout.dot b.rest (drop (length b.pieces) all)
input_kept line b c all e begins =
    let past : Body → Body = λ z. record z { layout = record z.layout { inputs = b.layout.inputs + 1 } } in
    let h = chained (pieces_placed line b.layout.inputs b b.rest) (λ z. Ok (past z)) c e in
    let d = given_is (past h.value) c h.second in
    starts_kept line b.layout.inputs b.rest b h.value all refl h.first
    (subst (λ z. Begins (starts z.pieces) all) (sym d) begins)

module _ (all : List ℕ) (b : Body) (x : BodyStatement) (xs : List BodyStatement) (a : BodyAlongside all b (x ∷ xs))
  where
    first : Chained (body_step a.provided a.body x) (λ d. run (body_step a.provided) d xs) a.last
    unfolding run
    first = chained (body_step a.provided a.body x) (λ d. run (body_step a.provided) d xs) a.last a.comes

    -- the bodies stay alongside
    pub body_on : BodiesStayAlike → (provided : List (List ℕ)) (c : Body) → body_step provided b x ≡ Ok c
        → BodyAlongside all c xs
    body_on law provided c e = record {
      provided = a.provided;
      names = a.names;
      body = first.value;
      alike = law a.provided provided (names_given (directives_in xs) ++ a.names) x a.body b first.value c
          (subst (λ z. AreBodiesAlike z a.body b)
          (names_on (directives_of x.line x.command) (directives_in xs) a.names) a.alike)
          first.first e;
      last = a.last;
      comes = first.second;
      starts_are = a.starts_are;
    }

    -- an input statement's entries stand where they stood
    pub starts_stay : IfInput x.command (StartAt b.layout.inputs b.layout.dot b.rest (drop (length b.pieces) all))
    unfolding body_command_step
    starts_stay = by_command x.command refl
      where
        by_command : (y : BodyCommand) → x.command ≡ y
            → IfInput y (StartAt b.layout.inputs b.layout.dot b.rest (drop (length b.pieces) all))
        by_command (body.Dot c) e = tt
        by_command (body.Directive c) e = tt
        by_command (body.Data w f) e = tt
        by_command (body.Input i) e =
            let begun : Body = record a.body { layout = noted a.body.layout } in
            let is : input_step x.line begun ≡ Ok first.value =
            sym (ap (body_command_step a.provided x.line begun) e) ∙ first.first in
            let g = body_grows a.provided xs first.value a.last first.second in
            let begins = begins_on (starts first.value.pieces) (starts a.last.pieces) all
            (begins_mapped (λ (z : PlacedPiece). z.start) first.value.pieces a.last.pieces g.pieces)
            (begins_same (starts a.last.pieces) all (sym a.starts_are)) in
            subst (λ z. StartAt z.layout.inputs z.layout.dot z.rest (drop (length z.pieces) all)) (sym a.alike.same)
            (input_kept x.line begun first.value all is begins)

-- the entries of the next input statement of the present body start where they did
pub input_stays : (n : Naming) (h : LayoutCursor) (f : CurrentOutput) (xs : List BodyStatement) (k : ℕ)
    (x : BodyStatement)
    → k < length xs → x ≡ get_or xs k x
    → IfSome f.starts (λ s. BodyAlongside s.now (body_of n h f) (drop k xs)) → IfInput x.command (StartsThere n h f)
input_stays n h f xs k x l at alongside = by_starts f.starts alongside
  where
    nothing : (c : BodyCommand) → IfInput c ⊤
    nothing (body.Input i) = tt
    nothing (body.Dot c) = tt
    nothing (body.Directive c) = tt
    nothing (body.Data w e) = tt

    by_starts : (o : Option (Bor (List ℕ))) → IfSome o (λ s. BodyAlongside s.now (body_of n h f) (drop k xs))
        → IfInput x.command (IfSome o (λ s.
        StartAt h.inputs h.dot (row_named n (drop (length h.pieces.items) f.row.now))
        (drop (length h.pieces.items) s.now)))
    by_starts None a = nothing x.command
    by_starts (Some s) a =
        subst (λ j. IfInput x.command (StartAt h.inputs h.dot (row_named n (drop (length h.pieces.items) f.row.now))
        (drop j s.now)))
        (length-map (map keyed_piece h.pieces.items) (piece_at n) ∙ length-map h.pieces.items keyed_piece)
        (starts_stay s.now (body_of n h f) x (drop (k + 1) xs)
        (subst (BodyAlongside s.now (body_of n h f)) (from_here xs k x l at) a))

-- and the bodies stay alongside
pub alongside_on : BodiesStayAlike → (n : Naming) (old new : LayoutCursor) (f : CurrentOutput)
    (provided : List (List ℕ))
    (xs : List BodyStatement) (k : ℕ) (x : BodyStatement) → k < length xs → x ≡ get_or xs k x
    → body_step provided (body_of n old f) x ≡ Ok (body_of n new f)
    → IfSome f.starts (λ s. BodyAlongside s.now (body_of n old f) (drop k xs))
    → IfSome f.starts (λ s. BodyAlongside s.now (body_of n new f) (drop (k + 1) xs))
alongside_on law n old new f provided xs k x l at e alongside =
    for_some f.starts (λ s. BodyAlongside s.now (body_of n old f) (drop k xs))
    (λ s. BodyAlongside s.now (body_of n new f) (drop (k + 1) xs)) alongside
    (λ s a. body_on s.now (body_of n old f) x (drop (k + 1) xs)
    (subst (BodyAlongside s.now (body_of n old f)) (from_here xs k x l at) a) law provided (body_of n new f) e)

-- a run, by one step more
pub run_next : {S X F : Type 0} (step : S → X → Result S F) (s t u : S) (xs : List X) (k : ℕ) (x : X) → k < length xs
    → x ≡ get_or xs k x → run step s xs ≡ run step t (drop k xs) → step t x ≡ Ok u
    → run step s xs ≡ run step u (drop (k + 1) xs)
unfolding run
run_next step s t u xs k x l at h e =
    h ∙ (ap (run step t) (from_here xs k x l at)
    ∙ ap (λ r. and_then r (λ v. run step v (drop (k + 1) xs))) e)

pub counted_on : (a b c : LayoutCursor) (f : CurrentOutput) → Counted a b f → Counted b c f → Counted a c f
counted_on a b c f h k = record {
  script = k.script ∙ h.script;
  anew = omega (arith, h.anew, k.anew);
  within = λ l. k.within (h.within l);
  none = both f.starts h.none k.none;
  all = along_none f.starts a.anew b.anew c.anew (length a.pieces.items) (length b.pieces.items)
      (length c.pieces.items) h.all k.all;
}
  where
    both : (o : Option (Bor (List ℕ))) → IfSome o (λ s. b.anew ≡ a.anew) → IfSome o (λ s. c.anew ≡ b.anew)
        → IfSome o (λ s. c.anew ≡ a.anew)
    both None d e = tt
    both (Some s) d e = e ∙ d

-- the body of an output section begins alongside
pub section_opened : HeadsAgree → (row : List Piece) (s : Layout) (line : ℕ) (o : OutputSection) (all : List ℕ)
    → SectionAlongside row s line o all → (h : Head) → head_of s row line o ≡ Ok h
    → BodyAlongside all (opened s row h) o.body
unfolding section_step placed_section
section_opened law row s line o all a h e =
    let k = chained (head_of a.state row line o) (λ g.
    and_then (run (body_step a.provided) (opened a.state row g) o.body) (λ b. section_end line o g b))
    a.after a.comes in
    let same : k.value ≡ h = law (names_given (directives_in o.body) ++ a.names) row a.state s line o k.value h a.alike
    k.first e in
    let b = chained (run (body_step a.provided) (opened a.state row k.value) o.body) (λ b.
    section_end line o k.value b) a.after k.second in
    let after = end_is line o k.value b.value a.after b.second in
    let g = body_grows a.provided o.body (opened a.state row k.value) b.value b.first in
    let q : PlacedOutput = placed_section o k.value b.value in
    let lists : a.state.sections ++ q ∷ [] ≡ a.state.sections ++ a.section ∷ [] =
    ap (λ l. l ++ q ∷ []) (sym g.sections) ∙ (ap (λ (z : Layout). z.sections) after ∙ a.added) in
    let one : q ≡ a.section =
    given_some q a.section (sym (after_first a.state.sections q [])
    ∙ (ap (λ l. slice_get l (length a.state.sections)) lists ∙ after_first a.state.sections a.section [])) in
    record {
      provided = a.provided;
      names = a.names;
      body = opened a.state row h;
      alike = record { same = ap (λ z. opened z row h) a.alike.same; symbols = a.alike.symbols };
      last = b.value;
      comes = subst (λ z. run (body_step a.provided) (opened a.state row z) o.body ≡ Ok b.value) same b.first;
      starts_are = ap starts_of one ∙ a.starts_are;
    }
  where
    given_some : (x y : PlacedOutput) → Some x ≡ Some y → x ≡ y
    given_some x y f = cc
