-- The placement of a script is what the equations between neighbours say, at each depth.
use Rattle.ldmodel_laws.proofs.Common.{BodyCommand, Bool, Err, Fault, IsLeastMultiple, ItemCommand, Layout, List, Ok}
use Rattle.ldmodel_laws.proofs.Common.{OutputSection, PastAddressSpace, Piece, PieceTo, Result, Statement, [], and_then}
use Rattle.ldmodel_laws.proofs.Common.{ap, arith, cond, false, le-ltb, lt-ltb, ltb-false, ltb-true, nat_lt, noted}
use Rattle.ldmodel_laws.proofs.Common.{nothing_placed, past_inputs, piece_alignment, refl, run, subst, sym, true}
use Rattle.ldmodel_laws.proofs.Common.{with_piece, ℕ, ◌++◌, ◌+◌, ◌<◌, ◌==◌, ◌^◌, ◌↔◌, ◌∙◌, ◌∷◌, ◌≡◌, ◌≤◌}
use Rattle.ldscript.specs.statements.declared.section.BodyCommand.TheVariants as body
use Rattle.ldscript.specs.statements.declared.statement.Command.{Command}
use Rattle.ldscript.specs.statements.declared.statement.Command.TheVariants as top
use Rattle.ldscript.specs.statements.declared.statement.ItemCommand.TheVariants as item
use Rattle.ldmodel.specs.Placement.{Body, body_command_step, body_step, piece_placed, piece_start, pieces_placed}
use Rattle.ldmodel.specs.Placement.{with_dot, command_step, item_command_step, item_step, opened, placement}
use Rattle.ldmodel.specs.Placement.{region_step, section_step, statement_step, next_row, section_end, Head, head_of}
use Rattle.ldmodel_laws.specs.Placed.{Pieces, none, other, one_more, PieceFails, first, after_one, InputsTo, SectionTo}
use Rattle.ldmodel_laws.specs.Placed.{BodyCommandTo, BodyCommandAt, BodyTo, BodyAt, SectionAt, in_head, in_body, at_end}
use Rattle.ldmodel_laws.specs.Placed.{ItemCommandTo, ItemCommandAt, ItemTo, ItemAt, RegionTo, RegionAt, CommandTo}
use Rattle.ldmodel_laws.specs.Placed.{CommandAt, PieceAt, StatementTo, StatementAt, IsPlacement, IsFirstFault}
use Rattle.ldmodel_laws.proofs.Multiples.{least_multiple, one_least_multiple}
use Rattle.ldmodel_laws.proofs.Running.{IsStep, run_of, stop_of, runs_of, stops_of}

positive : (p : Piece) → 0 < piece_alignment p
positive p = omega arith

module _ (line : ℕ) (b : Body) (p : Piece) (rest : List Piece) where
  abbrev start : ℕ
  start = piece_start b.layout.dot p

  is_least : IsLeastMultiple (piece_alignment p) b.layout.dot start
  is_least = least_multiple (piece_alignment p) b.layout.dot (positive p)

  abbrev ended_at : Bool → Result Body Fault
  ended_at t = and_then (cond t (Ok (start + p.size)) (Err (PastAddressSpace line))) (λ end.
      Ok (record (with_dot b end) { rest = rest; pieces = b.pieces ++ record { start = start; piece = p } ∷ [] }))

  pub piece_to : (c : Body) → piece_placed line b p rest ≡ Ok c → PieceTo b p rest c
  unfolding piece_placed
  piece_to c e = go (nat_lt (start + p.size) (2 ^ 64)) refl e
    where
      go : (t : Bool) → nat_lt (start + p.size) (2 ^ 64) ≡ t → ended_at t ≡ Ok c → PieceTo b p rest c
      go true h e = record {
        start = start;
        aligned = is_least;
        fits = ltb-true (start + p.size) (2 ^ 64) h;
        after =
            cc;
      }
      go false h e = absurd (let no : ⊥ = cc in no)

  piece_at : (f : Fault) → piece_placed line b p rest ≡ Err f → PieceAt line b p f
  unfolding piece_placed
  piece_at f e = go (nat_lt (start + p.size) (2 ^ 64)) refl e
    where
      go : (t : Bool) → nat_lt (start + p.size) (2 ^ 64) ≡ t → ended_at t ≡ Err f → PieceAt line b p f
      go true h e = absurd (let no : ⊥ = cc in no)
      go false h e = record {
        start = start;
        aligned = is_least;
        past = ltb-false (start + p.size) (2 ^ 64) h;
        fault =
            cc;
      }

  piece_of : (c : Body) → PieceTo b p rest c → piece_placed line b p rest ≡ Ok c
  unfolding piece_placed
  piece_of c h =
      let same : h.start ≡ start =
      one_least_multiple (piece_alignment p) b.layout.dot h.start start h.aligned is_least in
      let fits : nat_lt (start + p.size) (2 ^ 64) ≡ true =
      lt-ltb (start + p.size) (2 ^ 64) (subst (λ n. n + p.size < 2 ^ 64) same h.fits) in
      let after : with_piece b p rest start ≡ c = ap (with_piece b p rest) (sym same) ∙ h.after in
      rw fits (rw after refl)

  piece_from : (f : Fault) → PieceAt line b p f → piece_placed line b p rest ≡ Err f
  unfolding piece_placed
  piece_from f h =
      let same : h.start ≡ start =
      one_least_multiple (piece_alignment p) b.layout.dot h.start start h.aligned is_least in
      let past : nat_lt (start + p.size) (2 ^ 64) ≡ false =
      le-ltb (start + p.size) (2 ^ 64) (subst (λ n. 2 ^ 64 ≤ n + p.size) same h.past) in
      rw past (rw (h.fault) refl)

module _ (line n : ℕ) where
  placed_of : (b c : Body) (ps : List Piece) → Pieces line n b ps c → pieces_placed line n b ps ≡ Ok c
  unfolding pieces_placed
  placed_of b c [] none = refl
  placed_of b c (p ∷ ps) (other e) = rw e refl
  placed_of b c (p ∷ ps) (one_more {c = d} e k more) = rw e (rw (piece_of line b p ps d k) (placed_of d c ps more))

  failed_of : (b : Body) (f : Fault) (ps : List Piece) → PieceFails line n b ps f → pieces_placed line n b ps ≡ Err f
  unfolding pieces_placed
  failed_of b f [] x' = elim x' [ ]
  failed_of b f (p ∷ ps) (first e k) = rw e (rw (piece_from line b p ps f k) refl)
  failed_of b f (p ∷ ps) (after_one {c = d} e k more) = rw e (rw (piece_of line b p ps d k) (failed_of d f ps more))

  pieces_of : (ps : List Piece) (b c : Body) → pieces_placed line n b ps ≡ Ok c → Pieces line n b ps c
  unfolding pieces_placed
  pieces_of [] b c e = let same : b ≡ c = cc in rw same none
  pieces_of (p ∷ ps) b c e = go (p.statement == n) refl (piece_placed line b p ps) refl e (λ d. pieces_of ps d c)
    where
      go : (t : Bool) → (p.statement == n) ≡ t → (r : Result Body Fault) → piece_placed line b p ps ≡ r
          → cond t (and_then r (λ d. pieces_placed line n d ps)) (Ok b) ≡ Ok c
          → ((d : Body) → pieces_placed line n d ps ≡ Ok c → Pieces line n d ps c) → Pieces line n b (p ∷ ps) c
      go true h (Ok d) k e more = one_more h (piece_to line b p ps d k) (more d e)
      go true h (Err f) k e more = absurd (let no : ⊥ = cc in no)
      go false h r k e more = let same : b ≡ c = cc in rw same (other h)

  fault_of : (ps : List Piece) (b : Body) (f : Fault) → pieces_placed line n b ps ≡ Err f → PieceFails line n b ps f
  unfolding pieces_placed
  fault_of [] b f e = absurd (let no : ⊥ = cc in no)
  fault_of (p ∷ ps) b f e = go (p.statement == n) refl (piece_placed line b p ps) refl e (λ d. fault_of ps d f)
    where
      go : (t : Bool) → (p.statement == n) ≡ t → (r : Result Body Fault) → piece_placed line b p ps ≡ r
          → cond t (and_then r (λ d. pieces_placed line n d ps)) (Ok b) ≡ Err f
          → ((d : Body) → pieces_placed line n d ps ≡ Err f → PieceFails line n d ps f) → PieceFails line n b (p ∷ ps) f
      go true h (Ok d) k e more = after_one h (piece_to line b p ps d k) (more d e)
      go true h (Err g) k e more = let same : g ≡ f = cc in first h (piece_at line b p ps f (rw (sym same) k))
      go false h r k e more = absurd (let no : ⊥ = cc in no)

module _ (line : ℕ) (b : Body) where
  abbrev inputs : Result Body Fault
  inputs = and_then (pieces_placed line b.layout.inputs b b.rest) (λ c. Ok (past_inputs b c))

  inputs_to : (t : Body) → inputs ≡ Ok t → InputsTo line b t
  inputs_to t e = go (pieces_placed line b.layout.inputs b b.rest) refl e
    where
      go : (r : Result Body Fault) → pieces_placed line b.layout.inputs b b.rest ≡ r
          → and_then r (λ c. Ok (past_inputs b c)) ≡ Ok t → InputsTo line b t
      go (Ok c) k e = record { last = c; pieces = pieces_of line b.layout.inputs b.rest b c k; after = cc }
      go (Err f) k e = absurd (let no : ⊥ = cc in no)

  inputs_of : (t : Body) → InputsTo line b t → inputs ≡ Ok t
  inputs_of t h =
      let after : past_inputs b h.last ≡ t = h.after in
      rw (placed_of line b.layout.inputs b h.last b.rest h.pieces) (rw after refl)

  inputs_at : (f : Fault) → inputs ≡ Err f → PieceFails line b.layout.inputs b b.rest f
  inputs_at f e = go (pieces_placed line b.layout.inputs b b.rest) refl e
    where
      go : (r : Result Body Fault) → pieces_placed line b.layout.inputs b b.rest ≡ r
          → and_then r (λ c. Ok (past_inputs b c)) ≡ Err f → PieceFails line b.layout.inputs b b.rest f
      go (Ok c) k e = absurd (let no : ⊥ = cc in no)
      go (Err g) k e = let same : g ≡ f = cc in fault_of line b.layout.inputs b.rest b f (rw (sym same) k)

  inputs_from : (f : Fault) → PieceFails line b.layout.inputs b b.rest f → inputs ≡ Err f
  inputs_from f h = rw (failed_of line b.layout.inputs b f b.rest h) refl

module _ (provided : List (List ℕ)) where
  body_to : (line : ℕ) (b : Body) (c : BodyCommand) (t : Body) → body_command_step provided line b c ≡ Ok t
      → BodyCommandTo provided line b c t
  unfolding body_command_step
  body_to line b (body.Input i) t e = inputs_to line b t e
  body_to line b (body.Dot d) t e = e
  body_to line b (body.Directive d) t e = e
  body_to line b (body.Data w x) t e = e

  body_of : (line : ℕ) (b : Body) (c : BodyCommand) (t : Body) → BodyCommandTo provided line b c t
      → body_command_step provided line b c ≡ Ok t
  unfolding body_command_step
  body_of line b (body.Input i) t e = inputs_of line b t e
  body_of line b (body.Dot d) t e = e
  body_of line b (body.Directive d) t e = e
  body_of line b (body.Data w x) t e = e

  body_at : (line : ℕ) (b : Body) (c : BodyCommand) (f : Fault) → body_command_step provided line b c ≡ Err f
      → BodyCommandAt provided line b c f
  unfolding body_command_step
  body_at line b (body.Input i) f e = inputs_at line b f e
  body_at line b (body.Dot d) f e = e
  body_at line b (body.Directive d) f e = e
  body_at line b (body.Data w x) f e = e

  body_from : (line : ℕ) (b : Body) (c : BodyCommand) (f : Fault) → BodyCommandAt provided line b c f
      → body_command_step provided line b c ≡ Err f
  unfolding body_command_step
  body_from line b (body.Input i) f e = inputs_from line b f e
  body_from line b (body.Dot d) f e = e
  body_from line b (body.Directive d) f e = e
  body_from line b (body.Data w x) f e = e

  abbrev before : Body → Body
  before b = record b { layout = noted b.layout }

  is_body_step : IsStep (body_step provided) (BodyTo provided) (BodyAt provided)
  is_body_step = record {
    to = λ b s t e. body_to s.line (before b) s.command t e;
    of = λ b s t e. body_of s.line (before b) s.command t e;
    at = λ b s f e. body_at s.line (before b) s.command f e;
    from = λ b s f e. body_from s.line (before b) s.command f e;
  }

  module _ (row : List Piece) (s : Layout) (line : ℕ) (o : OutputSection) where
    abbrev with_body : Head → Result Body Fault
    with_body h = run (body_step provided) (opened s row h) o.body

    abbrev rest_of : Head → Result Layout Fault
    rest_of h = and_then (with_body h) (λ b. section_end line o h b)

    section_to : (t : Layout) → section_step provided row s line o ≡ Ok t → SectionTo provided row s line o t
    unfolding section_step
    section_to t e = go (head_of s row line o) refl e
      where
        end : (h : Head) → head_of s row line o ≡ Ok h → (r : Result Body Fault) → with_body h ≡ r
            → and_then r (λ b. section_end line o h b) ≡ Ok t → SectionTo provided row s line o t
        end h k (Ok b) l e = record {
          head = h;
          last = b;
          begun = k;
          body = runs_of (body_step provided) (BodyTo provided) (BodyAt provided) is_body_step o.body (opened s row h)
              b l;
          ended = e;
        }
        end h k (Err f) l e = absurd (let no : ⊥ = cc in no)

        go : (r : Result Head Fault) → head_of s row line o ≡ r → and_then r rest_of ≡ Ok t
            → SectionTo provided row s line o t
        go (Ok h) k e = end h k (with_body h) refl e
        go (Err f) k e = absurd (let no : ⊥ = cc in no)

    section_of : (t : Layout) → SectionTo provided row s line o t → section_step provided row s line o ≡ Ok t
    unfolding section_step
    section_of t h =
        let body : with_body h.head ≡ Ok h.last =
        run_of (body_step provided) (BodyTo provided) (BodyAt provided) is_body_step (opened s row h.head) h.last
        o.body h.body in
        rw h.begun (rw body h.ended)

    section_at : (f : Fault) → section_step provided row s line o ≡ Err f → SectionAt provided row s line o f
    unfolding section_step
    section_at f e = go (head_of s row line o) refl e
      where
        end : (h : Head) → head_of s row line o ≡ Ok h → (r : Result Body Fault) → with_body h ≡ r
            → and_then r (λ b. section_end line o h b) ≡ Err f → SectionAt provided row s line o f
        end h k (Ok b) l e =
            at_end h b k (runs_of (body_step provided) (BodyTo provided) (BodyAt provided) is_body_step o.body
            (opened s row h) b l) e
        end h k (Err g) l e =
            let same : g ≡ f = cc in
            in_body h k (stops_of (body_step provided) (BodyTo provided) (BodyAt provided) is_body_step o.body
            (opened s row h) f (rw (sym same) l))

        go : (r : Result Head Fault) → head_of s row line o ≡ r → and_then r rest_of ≡ Err f
            → SectionAt provided row s line o f
        go (Ok h) k e = end h k (with_body h) refl e
        go (Err g) k e = let same : g ≡ f = cc in in_head (rw (sym same) k)

    section_from : (f : Fault) → SectionAt provided row s line o f → section_step provided row s line o ≡ Err f
    unfolding section_step
    section_from f (in_head e) = rw e refl
    section_from f (in_body h k e) =
        let body : with_body h ≡ Err f =
        stop_of (body_step provided) (BodyTo provided) (BodyAt provided) is_body_step (opened s row h) f o.body e in
        rw k (rw body refl)
    section_from f (at_end h b k l e) =
        let body : with_body h ≡ Ok b =
        run_of (body_step provided) (BodyTo provided) (BodyAt provided) is_body_step (opened s row h) b o.body l in
        rw k (rw body e)

is_region_step : IsStep region_step RegionTo RegionAt
is_region_step = record { to = λ s r t e. e; of = λ s r t e. e; at = λ s r f e. e; from = λ s r f e. e }

module _ (rows : List (List Piece)) (provided : List (List ℕ)) where
  item_to : (line : ℕ) (s : Layout) (c : ItemCommand) (t : Layout) → item_command_step rows provided line s c ≡ Ok t
      → ItemCommandTo rows provided line s c t
  unfolding item_command_step
  item_to line s (item.Section o) t e = section_to provided (next_row rows s) s line o t e
  item_to line s (item.Dot c) t e = e
  item_to line s (item.Directive c) t e = e
  item_to line s (item.Discard i) t e = e

  item_of : (line : ℕ) (s : Layout) (c : ItemCommand) (t : Layout) → ItemCommandTo rows provided line s c t
      → item_command_step rows provided line s c ≡ Ok t
  unfolding item_command_step
  item_of line s (item.Section o) t e = section_of provided (next_row rows s) s line o t e
  item_of line s (item.Dot c) t e = e
  item_of line s (item.Directive c) t e = e
  item_of line s (item.Discard i) t e = e

  item_fault : (line : ℕ) (s : Layout) (c : ItemCommand) (f : Fault) → item_command_step rows provided line s c ≡ Err f
      → ItemCommandAt rows provided line s c f
  unfolding item_command_step
  item_fault line s (item.Section o) f e = section_at provided (next_row rows s) s line o f e
  item_fault line s (item.Dot c) f e = e
  item_fault line s (item.Directive c) f e = e
  item_fault line s (item.Discard i) f e = e

  item_from : (line : ℕ) (s : Layout) (c : ItemCommand) (f : Fault) → ItemCommandAt rows provided line s c f
      → item_command_step rows provided line s c ≡ Err f
  unfolding item_command_step
  item_from line s (item.Section o) f e = section_from provided (next_row rows s) s line o f e
  item_from line s (item.Dot c) f e = e
  item_from line s (item.Directive c) f e = e
  item_from line s (item.Discard i) f e = e

  is_item_step : IsStep (item_step rows provided) (ItemTo rows provided) (ItemAt rows provided)
  is_item_step = record {
    to = λ s i t e. item_to i.line (noted s) i.command t e;
    of = λ s i t e. item_of i.line (noted s) i.command t e;
    at = λ s i f e. item_fault i.line (noted s) i.command f e;
    from = λ s i f e. item_from i.line (noted s) i.command f e;
  }

  command_to : (line : ℕ) (s : Layout) (c : Command) (t : Layout) → command_step rows provided line s c ≡ Ok t
      → CommandTo rows provided line s c t
  unfolding command_step
  command_to line s (top.Memory rs) t e = runs_of region_step RegionTo RegionAt is_region_step rs s t e
  command_to line s (top.Sections is) t e =
      runs_of (item_step rows provided) (ItemTo rows provided) (ItemAt rows provided) is_item_step is s t e
  command_to line s (top.Entry n) t e = e
  command_to line s (top.Directive c) t e = e

  command_of : (line : ℕ) (s : Layout) (c : Command) (t : Layout) → CommandTo rows provided line s c t
      → command_step rows provided line s c ≡ Ok t
  unfolding command_step
  command_of line s (top.Memory rs) t e = run_of region_step RegionTo RegionAt is_region_step s t rs e
  command_of line s (top.Sections is) t e =
      run_of (item_step rows provided) (ItemTo rows provided) (ItemAt rows provided) is_item_step s t is e
  command_of line s (top.Entry n) t e = e
  command_of line s (top.Directive c) t e = e

  command_at : (line : ℕ) (s : Layout) (c : Command) (f : Fault) → command_step rows provided line s c ≡ Err f
      → CommandAt rows provided line s c f
  unfolding command_step
  command_at line s (top.Memory rs) f e = stops_of region_step RegionTo RegionAt is_region_step rs s f e
  command_at line s (top.Sections is) f e =
      stops_of (item_step rows provided) (ItemTo rows provided) (ItemAt rows provided) is_item_step is s f e
  command_at line s (top.Entry n) f e = e
  command_at line s (top.Directive c) f e = e

  command_from : (line : ℕ) (s : Layout) (c : Command) (f : Fault) → CommandAt rows provided line s c f
      → command_step rows provided line s c ≡ Err f
  unfolding command_step
  command_from line s (top.Memory rs) f e = stop_of region_step RegionTo RegionAt is_region_step s f rs e
  command_from line s (top.Sections is) f e =
      stop_of (item_step rows provided) (ItemTo rows provided) (ItemAt rows provided) is_item_step s f is e
  command_from line s (top.Entry n) f e = e
  command_from line s (top.Directive c) f e = e

  is_statement_step : IsStep (statement_step rows provided) (StatementTo rows provided) (StatementAt rows provided)
  is_statement_step = record {
    to = λ s x t e. command_to x.line s x.command t e;
    of = λ s x t e. command_of x.line s x.command t e;
    at = λ s x f e. command_at x.line s x.command f e;
    from = λ s x f e. command_from x.line s x.command f e;
  }

module _ (script : List Statement) (rows : List (List Piece)) (provided : List (List ℕ)) where
  pub placed : (s : Layout) → (placement script rows provided ≡ Ok s) ↔ IsPlacement script rows provided s
  unfolding placement
  placed s = (
    (λ e. record {
      leads =
          runs_of (statement_step rows provided) (StatementTo rows provided) (StatementAt rows provided)
          (is_statement_step rows provided) script nothing_placed s e;
    }),
    (λ h. run_of (statement_step rows provided) (StatementTo rows provided) (StatementAt rows provided)
        (is_statement_step rows provided) nothing_placed s script h.leads),
  )

  pub faulty : (f : Fault) → (placement script rows provided ≡ Err f) ↔ IsFirstFault script rows provided f
  unfolding placement
  faulty f = (
    (λ e. record {
      fails =
          stops_of (statement_step rows provided) (StatementTo rows provided) (StatementAt rows provided)
          (is_statement_step rows provided) script nothing_placed f e;
    }),
    (λ h. stop_of (statement_step rows provided) (StatementTo rows provided) (StatementAt rows provided)
        (is_statement_step rows provided) nothing_placed f script h.fails),
  )
