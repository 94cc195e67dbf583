-- What one statement does to a layout and to the body of an output section.
use Rattle.ldmodel_laws.proofs.Common.{Advance, Align, BodyCommand, Bool, Directive, DotCommand, DotForm, Err, Expr}
use Rattle.ldmodel_laws.proofs.Common.{Fault, Layout, List, MovedBack, None, Offset, Ok, Option, OutputSection}
use Rattle.ldmodel_laws.proofs.Common.{PastAddressSpace, Piece, PieceTo, PlacedOutput, Region, Result, Some, Width, []}
use Rattle.ldmodel_laws.proofs.Common.{address, and_then, ap, arith, byte_count, bytes_eq, cond, dot_form, false}
use Rattle.ldmodel_laws.proofs.Common.{length, list_any, little_bytes, ltb-false, nat_lt, number, past_inputs, refl}
use Rattle.ldmodel_laws.proofs.Common.{run, subst, true, with_symbol, ℕ, ◌%◌, ◌+◌, ◌==◌, ◌^◌, ◌∙◌, ◌∷◌, ◌≡◌, ◌≤◌}
use Rattle.ldscript.specs.terms.Expressions as expression
use Rattle.ldscript.specs.statements.declared.directive.Directive.TheVariants as directive
use Rattle.ldscript.specs.statements.declared.directive.Assignment.{Assignment}
use Rattle.ldscript.specs.statements.declared.directive.DotCommand.TheVariants.{Set, Add}
use Rattle.ldscript.specs.statements.declared.section.BodyCommand.TheVariants as body
use Rattle.ldscript.specs.statements.declared.section.Width.TheVariants.{Byte, Short, Long, Quad}
use Rattle.ldmodel.specs.Placement.{assigned, directive_step, Body, piece_placed, pieces_placed, body_command_step}
use Rattle.ldmodel.specs.Placement.{with_dot, with_data, data_step, moved_on, advanced, set_to, dot_step, body_step}
use Rattle.ldmodel.specs.Placement.{free_dot_step, region_step, section_step, opened, with_region, section_end}
use Rattle.ldmodel.specs.Placement.{placed_section, with_section, with_room, find_region, load_region, Head, head_of}
use Rattle.ldmodel_laws.proofs.Placements.{piece_to}

-- a value comes of another
pub record Came {X Y F : Type 0} (r : Result X F) (go : X → Result Y F) (y : Y) : Type 0 where
  pub value : X
  pub is : r ≡ Ok value
  pub gives : go value ≡ Ok y

pub came : {X Y F : Type 0} (r : Result X F) (go : X → Result Y F) (y : Y) → and_then r go ≡ Ok y → Came r go y
came (Ok x) go y e = record { value = x; is = refl; gives = e }
came (Err f) go y e = absurd (let none : ⊥ = cc in none)

-- what each step keeps, all keep
pub run_by : {S X F : Type 0} (step : S → X → Result S F) (I : S → List X → Type 0)
    → ((s : S) (x : X) (xs : List X) (t : S) → step s x ≡ Ok t → I s (x ∷ xs) → I t xs)
    → (xs : List X) (s t : S) → run step s xs ≡ Ok t → I s xs → I t []
unfolding run
run_by step I each [] s t e h = let same : s ≡ t = cc in subst (λ u. I u []) same h
run_by step I each (x ∷ xs) s t e h =
    let first : Came (step s x) (λ u. run step u xs) t = came (step s x) (λ u. run step u xs) t e in
    run_by step I each xs first.value t first.gives (each s x xs first.value first.is h)

same_address : (line x y : ℕ) → address line x ≡ Ok y → x ≡ y
same_address line x y e = go (nat_lt x (2 ^ 64)) e
  where
    go : (b : Bool) → cond b (Ok x) (Err (PastAddressSpace line)) ≡ Ok y → x ≡ y
    go true k = cc
    go false k = absurd (let none : ⊥ = cc in none)

-- output sections, the number of the next input statement, and what was kept of `.` stay
pub record Kept (s t : Layout) : Type 0 where
  pub sections : s.sections ≡ t.sections
  pub inputs : s.inputs ≡ t.inputs
  pub dots : s.dots ≡ t.dots

pub kept_same : (s t : Layout) → s ≡ t → Kept s t
kept_same s t e = record {
  sections = ap (λ (u : Layout). u.sections) e;
  inputs = ap (λ (u : Layout). u.inputs) e;
  dots = ap (λ (u : Layout). u.dots) e;
}

pub kept_all : (s t u : Layout) → Kept s t → Kept t u → Kept s u
kept_all s t u h k = record { sections = h.sections ∙ k.sections; inputs = h.inputs ∙ k.inputs; dots = h.dots ∙ k.dots }

-- a command that gives a symbol a value, or nothing
pub data Named (s t : Layout) : Type 0 where
  unchanged : s ≡ t → Named s t
  named : (name : List ℕ) (x : ℕ) → with_symbol s name x ≡ t → Named s t

assigned_named : (s : Layout) (line : ℕ) (a : Assignment) (t : Layout) → assigned s line a ≡ Ok t → Named s t
assigned_named s line a t e =
    let k = came (number s line a.value) (λ x. Ok (with_symbol s a.name x)) t e in
    named a.name k.value (let f = k.gives in cc)

pub directive_named : (provided : List (List ℕ)) (s : Layout) (line : ℕ) (c : Directive) (t : Layout)
    → directive_step provided s line c ≡ Ok t → Named s t
unfolding directive_step
directive_named provided s line (directive.Assign a) t e = assigned_named s line a t e
directive_named provided s line (directive.Provide a) t e = go (list_any (bytes_eq a.name) provided) e
  where
    go : (b : Bool) → cond b (assigned s line a) (Ok s) ≡ Ok t → Named s t
    go true k = assigned_named s line a t k
    go false k = unchanged cc
directive_named provided s line (directive.Assert a) t e = unchanged cc

pub named_kept : (s t : Layout) → Named s t → Kept s t
named_kept s t (unchanged e) = kept_same s t e
named_kept s t (named name x e) = subst (Kept s) e (record { sections = refl; inputs = refl; dots = refl })

pub free_dot_kept : (s : Layout) (line : ℕ) (c : DotCommand) (t : Layout) → free_dot_step s line c ≡ Ok t → Kept s t
free_dot_kept s line (Set e) t h =
    let k = came (number s line e) (λ x. Ok (record s { dot = x })) t h in
    subst (Kept s) (let f : record s { dot = k.value } ≡ t = (let g = k.gives in cc) in
    f) (record { sections = refl; inputs = refl; dots = refl })
free_dot_kept s line (Add e) t h =
    let k = came (number s line e) (λ x. Ok (record s { dot = (s.dot + x) % 2 ^ 64 })) t h in
    subst (Kept s) (let f : record s { dot = (s.dot + k.value) % 2 ^ 64 } ≡ t = (let g = k.gives in cc) in
    f) (record { sections = refl; inputs = refl; dots = refl })

pub region_kept : (s : Layout) (r : Region) (t : Layout) → region_step s r ≡ Ok t → Kept s t
unfolding region_step
region_kept s r t e =
    let first = came (number s r.line r.origin) (λ origin.
    and_then (number s r.line r.extent) (λ extent. Ok (with_region s r.name origin extent))) t e in
    let second = came (number s r.line r.extent) (λ extent. Ok (with_region s r.name first.value extent)) t first.gives
    in
    subst (Kept s) (let f : with_region s r.name first.value second.value ≡ t = (let g = second.gives in cc) in
    f) (record { sections = refl; inputs = refl; dots = refl })

-- a statement of a body that is no input statement: it does nothing, gives a symbol a value, moves `.` on, or adds data
pub data Quiet (b c : Body) : Type 0 where
  still : b ≡ c → Quiet b c
  renamed : (s : Layout) → Named b.layout s → record b { layout = s } ≡ c → Quiet b c
  onward : (to : ℕ) → b.layout.dot ≤ to → with_dot b to ≡ c → Quiet b c
  added : (bytes : List ℕ) → with_dot (with_data b bytes) (b.layout.dot + length bytes) ≡ c → Quiet b c

moved_quiet : (line : ℕ) (b : Body) (to : ℕ) (c : Body) → moved_on line b to ≡ Ok c → Quiet b c
moved_quiet line b to c e = go (nat_lt to b.layout.dot) refl e
  where
    go : (t : Bool) → nat_lt to b.layout.dot ≡ t
        → cond t (Err (MovedBack line)) (and_then (address line to) (λ x. Ok (with_dot b x))) ≡ Ok c → Quiet b c
    go true h k = absurd (let none : ⊥ = cc in none)
    go false h k =
        let at = came (address line to) (λ x. Ok (with_dot b x)) c k in
        let same : to ≡ at.value = same_address line to at.value at.is in
        onward at.value (omega (arith, ltb-false to b.layout.dot h, same)) (let f = at.gives in cc)

advanced_quiet : (line : ℕ) (b : Body) (e : Expr) (c : Body) → advanced line b e ≡ Ok c → Quiet b c
advanced_quiet line b e c h =
    let k = came (number b.layout line e) (λ x. moved_on line b (b.layout.dot + x)) c h in
    moved_quiet line b (b.layout.dot + k.value) c k.gives

set_quiet : (line : ℕ) (b : Body) (f : Option DotForm) (c : Body) → set_to line b f ≡ Ok c → Quiet b c
set_quiet line b (Some (Advance e)) c h = advanced_quiet line b e c h
set_quiet line b (Some (Align e)) c h =
    let k = came (number b.layout line (expression.AlignDot e)) (λ x. moved_on line b x) c h in
    moved_quiet line b k.value c k.gives
set_quiet line b (Some (Offset e)) c h =
    let k = came (number b.layout line e) (λ x. moved_on line b (b.start + x)) c h in
    moved_quiet line b (b.start + k.value) c k.gives
set_quiet line b None c h = still cc

pub dot_quiet : (line : ℕ) (b : Body) (d : DotCommand) (c : Body) → dot_step line b d ≡ Ok c → Quiet b c
dot_quiet line b (Add e) c h = advanced_quiet line b e c h
dot_quiet line b (Set e) c h = set_quiet line b (dot_form e) c h

pub directive_quiet : (provided : List (List ℕ)) (line : ℕ) (b : Body) (d : Directive) (c : Body)
    → and_then (directive_step provided b.layout line d) (λ s. Ok (record b { layout = s })) ≡ Ok c → Quiet b c
directive_quiet provided line b d c h =
    let k = came (directive_step provided b.layout line d) (λ s. Ok (record b { layout = s })) c h in
    renamed k.value (directive_named provided b.layout line d k.value k.is) (let f = k.gives in cc)

pub bytes_of_width : (w : Width) (x : ℕ) → length (little_bytes (byte_count w) x) ≡ byte_count w
bytes_of_width Byte x = refl
bytes_of_width Short x = refl
bytes_of_width Long x = refl
bytes_of_width Quad x = refl

pub data_quiet : (line : ℕ) (b : Body) (w : Width) (e : Expr) (c : Body) → data_step line b w e ≡ Ok c → Quiet b c
data_quiet line b w e c h =
    let k = came (number b.layout line e) (λ x.
    and_then (address line (b.layout.dot + byte_count w)) (λ end.
    Ok (with_dot (with_data b (little_bytes (byte_count w) x)) end))) c h in
    let bytes : List ℕ = little_bytes (byte_count w) k.value in
    let l = came (address line (b.layout.dot + byte_count w)) (λ end. Ok (with_dot (with_data b bytes) end)) c k.gives
    in
    let end : b.layout.dot + length bytes ≡ l.value = ap (λ n. b.layout.dot + n) (bytes_of_width w k.value)
    ∙ same_address line (b.layout.dot + byte_count w) l.value l.is in
    let after : with_dot (with_data b bytes) l.value ≡ c = (let f = l.gives in cc) in
    added bytes (ap (with_dot (with_data b bytes)) end ∙ after)

-- an output section that was placed: its head, its body, and what is added
pub record SectionPlaced (provided : List (List ℕ)) (row : List Piece) (s : Layout) (o : OutputSection) (t : Layout) :
    Type 0 where
  pub head : Head
  pub last : Body
  pub body : run (body_step provided) (opened s row head) o.body ≡ Ok last
  pub after : with_section last.layout o (placed_section o head last) ≡ t

module _ (line : ℕ) (o : OutputSection) (b : Body) (q : PlacedOutput) where
  abbrev with_end : ℕ → Result Layout Fault
  with_end end = Ok (with_section b.layout o q)

  abbrev with_load : PlacedOutput → Result Layout Fault
  with_load p = and_then (address line (q.load + q.load_size)) with_end

  abbrev with_start : PlacedOutput → Result Layout Fault
  with_start p = and_then (with_room (find_region b.layout (load_region o.load)) q.load q.load_size q) with_load

  ended_after : (t : Layout) → and_then (with_room (find_region b.layout o.region) q.start q.size q) with_start ≡ Ok t
      → with_section b.layout o q ≡ t
  ended_after t e =
      let k = came (with_room (find_region b.layout o.region) q.start q.size q) with_start t e in
      let l = came (with_room (find_region b.layout (load_region o.load)) q.load q.load_size q) with_load t k.gives in
      let m = came (address line (q.load + q.load_size)) with_end t l.gives in
      let f = m.gives in cc

pub section_placed : (provided : List (List ℕ)) (row : List Piece) (s : Layout) (line : ℕ) (o : OutputSection)
    (t : Layout) → section_step provided row s line o ≡ Ok t → SectionPlaced provided row s o t
unfolding section_step section_end
section_placed provided row s line o t e =
    let h = came (head_of s row line o) (λ h.
    and_then (run (body_step provided) (opened s row h) o.body) (λ b. section_end line o h b)) t e in
    let b = came (run (body_step provided) (opened s row h.value) o.body) (λ b. section_end line o h.value b) t h.gives
    in
    record {
      head = h.value;
      last = b.value;
      body = b.is;
      after =
          ended_after line o b.value (placed_section o h.value b.value) t b.gives;
    }

-- what the placing of one entry keeps, that of an input statement keeps
pub pieces_by : (line n : ℕ) (I : Body → Type 0)
    → ((b : Body) (p : Piece) (rest : List Piece) (c : Body) → PieceTo b p rest c → I b → I c)
    → (ps : List Piece) (b c : Body) → pieces_placed line n b ps ≡ Ok c → I b → I c
unfolding pieces_placed
pieces_by line n I each [] b c e h = let same : b ≡ c = cc in subst I same h
pieces_by line n I each (p ∷ ps) b c e h = go (p.statement == n) e (λ d g i. pieces_by line n I each ps d c g i)
  where
    go : (t : Bool) → cond t (and_then (piece_placed line b p ps) (λ d. pieces_placed line n d ps)) (Ok b) ≡ Ok c
        → ((d : Body) → pieces_placed line n d ps ≡ Ok c → I d → I c) → I c
    go true k more =
        let d = came (piece_placed line b p ps) (λ d. pieces_placed line n d ps) c k in
        more d.value d.gives (each b p ps d.value (piece_to line b p ps d.value d.is) h)
    go false k more = let same : b ≡ c = cc in subst I same h

-- what quiet statements and entries keep, every statement of a body keeps
pub command_by : (provided : List (List ℕ)) (I : Body → Type 0) → ((b c : Body) → Quiet b c → I b → I c)
    → ((b : Body) (p : Piece) (rest : List Piece) (c : Body) → PieceTo b p rest c → I b → I c)
    → ((b c : Body) → I c → I (past_inputs b c))
    → (line : ℕ) (b : Body) (x : BodyCommand) (c : Body) → body_command_step provided line b x ≡ Ok c → I b → I c
unfolding body_command_step
command_by provided I quiet piece past line b (body.Dot d) c e h = quiet b c (dot_quiet line b d c e) h
command_by provided I quiet piece past line b (body.Directive d) c e h = quiet b c (directive_quiet provided line b d c
    e) h
command_by provided I quiet piece past line b (body.Data w x) c e h = quiet b c (data_quiet line b w x c e) h
command_by provided I quiet piece past line b (body.Input i) c e h =
    let d = came (pieces_placed line b.layout.inputs b b.rest) (λ d. Ok (past_inputs b d)) c e in
    let after : past_inputs b d.value ≡ c = (let f = d.gives in cc) in
    subst I after (past b d.value (pieces_by line b.layout.inputs I piece b.rest b d.value d.is h))
