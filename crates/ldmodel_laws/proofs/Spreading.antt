-- Input sections and data commands of a placement do not overlap.
use Rattle.ldmodel_laws.proofs.Common.{BodyStatement, Each, EachLater, IsSpread, ItemCommand, Layout, List, Ok}
use Rattle.ldmodel_laws.proofs.Common.{OutputSection, Piece, PieceTo, PlacedData, PlacedOutput, PlacedPiece, Statement}
use Rattle.ldmodel_laws.proofs.Common.{[], arith, inl, inr, length, noted, nothing_placed, past_inputs, piece_end, refl}
use Rattle.ldmodel_laws.proofs.Common.{subst, sym, ℕ, ◌++◌, ◌+◌, ◌-◌, ◌∷◌, ◌≡◌, ◌≤◌}
use Rattle.ldscript.specs.statements.declared.statement.Command.{Command}
use Rattle.ldscript.specs.statements.declared.statement.Command.TheVariants as top
use Rattle.ldscript.specs.statements.declared.statement.ItemCommand.TheVariants as item
use Rattle.ldmodel.specs.Placement.{Body, body_step, command_step, item_command_step, item_step, next_row, opened}
use Rattle.ldmodel.specs.Placement.{placement, region_step, statement_step, placed_section}
use Rattle.ldmodel_laws.specs.Spread.{AreApart, AreSpread, data_end}
use Rattle.ldmodel_laws.proofs.Effects.{run_by, Kept, kept_same, Named, unchanged, named, Quiet, still, renamed, onward}
use Rattle.ldmodel_laws.proofs.Effects.{added, named_kept, directive_named, free_dot_kept, region_kept, SectionPlaced}
use Rattle.ldmodel_laws.proofs.Effects.{section_placed, command_by}
use Rattle.ldmodel_laws.proofs.EachOf.{each_imply, each_and, each_append}

-- one more at the end, past all before it
pub later_append : {X : Type 0} (R : X → X → Type 0) (xs : List X) (y : X) → EachLater R xs → Each (λ x. R x y) xs
    → EachLater R (xs ++ y ∷ [])
later_append R [] y h k = (tt, tt)
later_append R (x ∷ xs) y h k = (each_append (R x) xs (y ∷ []) h.0 (k.0, tt), later_append R xs y h.1 k.1)

module _ (start end : ℕ) (pieces : List PlacedPiece) (data_commands : List PlacedData)
    (h : AreSpread start end pieces data_commands) where
  abbrev PieceInside : ℕ → PlacedPiece → Type 0
  PieceInside to x = (start ≤ x.start) × (piece_end x ≤ to)

  abbrev DataInside : ℕ → PlacedData → Type 0
  DataInside to d = (start ≤ d.start) × (data_end d ≤ to)

  pieces_up_to : (to : ℕ) → end ≤ to → Each (PieceInside to) pieces
  pieces_up_to to l = each_imply (PieceInside end) (PieceInside to) (λ x k. (k.0, omega (arith, k.1, l))) pieces
      h.pieces_inside

  data_up_to : (to : ℕ) → end ≤ to → Each (DataInside to) data_commands
  data_up_to to l = each_imply (DataInside end) (DataInside to) (λ d k. (k.0, omega (arith, k.1, l))) data_commands
      h.data_inside

  widened : (to : ℕ) → end ≤ to → AreSpread start to pieces data_commands
  widened to l = record {
    pieces_inside = pieces_up_to to l;
    data_inside = data_up_to to l;
    pieces_ascend = h.pieces_ascend;
    data_ascend = h.data_ascend;
    apart = h.apart;
  }

  with_one : (x : PlacedPiece) → start ≤ end → end ≤ x.start
      → AreSpread start (piece_end x) (pieces ++ x ∷ []) data_commands
  with_one x up l = record {
    pieces_inside = each_append (PieceInside (piece_end x)) pieces (x ∷ [])
        (pieces_up_to (piece_end x) (omega (arith, l))) ((omega (arith, up, l), omega arith), tt);
    data_inside = data_up_to (piece_end x) (omega (arith, l));
    pieces_ascend = later_append (λ (y z : PlacedPiece). piece_end y ≤ z.start) pieces x h.pieces_ascend
        (each_imply (PieceInside end) (λ y. piece_end y ≤ x.start) (λ y k. omega (arith, k.1, l)) pieces
        h.pieces_inside);
    data_ascend = h.data_ascend;
    apart = each_append (λ y. Each (AreApart y) data_commands) pieces (x ∷ []) h.apart
        (each_imply (DataInside end) (AreApart x) (λ d k. inr (omega (arith, k.1, l))) data_commands h.data_inside, tt);
  }

  with_bytes : (d : PlacedData) → start ≤ end → d.start ≡ end
      → AreSpread start (data_end d) pieces (data_commands ++ d ∷ [])
  with_bytes d up e = record {
    pieces_inside = pieces_up_to (data_end d) (omega (arith, e));
    data_inside = each_append (DataInside (data_end d)) data_commands (d ∷ [])
        (data_up_to (data_end d) (omega (arith, e))) ((omega (arith, up, e), omega arith), tt);
    pieces_ascend = h.pieces_ascend;
    data_ascend = later_append (λ (y z : PlacedData). data_end y ≤ z.start) data_commands d h.data_ascend
        (each_imply (DataInside end) (λ y. data_end y ≤ d.start) (λ y k. omega (arith, k.1, e)) data_commands
        h.data_inside);
    apart = each_and (λ x. Each (AreApart x) data_commands) (PieceInside end) (λ x.
        Each (AreApart x) (data_commands ++ d ∷ []))
        (λ x k l. each_append (AreApart x) data_commands (d ∷ []) k (inl (omega (arith, l.1, e)), tt)) pieces h.apart
        h.pieces_inside;
  }

-- ---- the body of an output section

module _ (start : ℕ) (sections : List PlacedOutput) where
  record Tidy (b : Body) : Type 0 where
    pub spread : AreSpread start b.layout.dot b.pieces b.data_commands
    pub forward : start ≤ b.layout.dot
    pub before : b.layout.sections ≡ sections

  named_tidy : (b : Body) (s : Layout) → Named b.layout s → Tidy b → Tidy (record b { layout = s })
  named_tidy b s (unchanged e) h =
      subst (λ t. Tidy (record b { layout = t })) e
      (record { spread = h.spread; forward = h.forward; before = h.before })
  named_tidy b s (named name x e) h =
      subst (λ t. Tidy (record b { layout = t })) e
      (record { spread = h.spread; forward = h.forward; before = h.before })

  quiet_tidy : (b c : Body) → Quiet b c → Tidy b → Tidy c
  quiet_tidy b c (still e) h = subst Tidy e h
  quiet_tidy b c (renamed s k e) h = subst Tidy e (named_tidy b s k h)
  quiet_tidy b c (onward to k e) h = subst Tidy e (record {
    spread = widened start b.layout.dot b.pieces b.data_commands h.spread to k;
    forward = (let f : start ≤ b.layout.dot = h.forward in omega (arith, f, k));
    before = h.before;
  })
  quiet_tidy b c (added bytes e) h = subst Tidy e (record {
    spread = with_bytes start b.layout.dot b.pieces b.data_commands h.spread
        (record { start = b.layout.dot; bytes = bytes }) h.forward refl;
    forward = (let f : start ≤ b.layout.dot = h.forward in omega (arith, f));
    before = h.before;
  })

  piece_tidy : (b : Body) (p : Piece) (rest : List Piece) (c : Body) → PieceTo b p rest c → Tidy b → Tidy c
  piece_tidy b p rest c k h =
      let above : b.layout.dot ≤ k.start = k.aligned.above in
      let f : start ≤ b.layout.dot = h.forward in
      subst Tidy k.after (record {
        spread = with_one start b.layout.dot b.pieces b.data_commands h.spread (record { start = k.start; piece = p })
            h.forward above;
        forward = omega (arith, f, above);
        before = h.before;
      })

  past_tidy : (b c : Body) → Tidy c → Tidy (past_inputs b c)
  past_tidy b c h = record { spread = h.spread; forward = h.forward; before = h.before }

  step_tidy : (provided : List (List ℕ)) (b : Body) (x : BodyStatement) (c : Body) → body_step provided b x ≡ Ok c
      → Tidy b → Tidy c
  step_tidy provided b x c e h =
      command_by provided Tidy quiet_tidy piece_tidy past_tidy x.line (record b { layout = noted b.layout }) x.command
      c e
      (record { spread = h.spread; forward = h.forward; before = h.before })

-- ---- a script

abbrev AllSpread : Layout → Type 0
AllSpread s = Each IsSpread s.sections

kept_spread : (s t : Layout) → Kept s t → AllSpread s → AllSpread t
kept_spread s t k h = subst (Each IsSpread) k.sections h

section_spread : (provided : List (List ℕ)) (row : List Piece) (s : Layout) (o : OutputSection) (t : Layout)
    → SectionPlaced provided row s o t → AllSpread s → AllSpread t
unfolding placed_section
section_spread provided row s o t h all =
    let start : ℕ = h.head.start in
    let b : Body = h.last in
    let q : PlacedOutput = placed_section o h.head b in
    let last : Tidy start s.sections b =
    run_by (body_step provided) (λ c xs. Tidy start s.sections c) (λ c x xs d e i.
    step_tidy start s.sections provided c x d e i) o.body (opened s row h.head) b h.body
    (record {
      spread = record {
        pieces_inside = tt;
        data_inside = tt;
        pieces_ascend = tt;
        data_ascend = tt;
        apart =
            tt;
      };
      forward = omega arith;
      before = refl;
    }) in
    let f : start ≤ b.layout.dot = last.forward in
    let end : b.layout.dot ≡ start + (b.layout.dot - start) = omega (arith, f) in
    let own : IsSpread q = subst (λ n. AreSpread start n b.pieces b.data_commands) end last.spread in
    let before : b.layout.sections ≡ s.sections = last.before in
    subst AllSpread h.after
    (each_append IsSpread b.layout.sections (q ∷ []) (subst (Each IsSpread) (sym before) all) (own, tt))

module _ (rows : List (List Piece)) (provided : List (List ℕ)) where
  command_spread : (line : ℕ) (s : Layout) (c : ItemCommand) (t : Layout) → item_command_step rows provided line s c
      ≡ Ok t → AllSpread s → AllSpread t
  unfolding item_command_step
  command_spread line s (item.Dot c) t e = kept_spread s t (free_dot_kept s line c t e)
  command_spread line s (item.Directive c) t e = kept_spread s t (named_kept s t (directive_named provided s line c t
      e))
  command_spread line s (item.Section o) t e =
      section_spread provided (next_row rows s) s o t (section_placed provided (next_row rows s) s line o t e)
  command_spread line s (item.Discard is) t e =
      subst AllSpread (let f : record s { inputs = s.inputs + length is } ≡ t = cc in f)

  statement_spread : (line : ℕ) (s : Layout) (c : Command) (t : Layout) → command_step rows provided line s c ≡ Ok t
      → AllSpread s → AllSpread t
  unfolding command_step
  statement_spread line s (top.Entry n) t e = kept_spread s t (kept_same s t cc)
  statement_spread line s (top.Directive c) t e = kept_spread s t (named_kept s t (directive_named provided s line c t
      e))
  statement_spread line s (top.Memory rs) t e =
      run_by region_step (λ u xs. AllSpread u) (λ u r xs v f. kept_spread u v (region_kept u r v f)) rs s t e
  statement_spread line s (top.Sections is) t e =
      run_by (item_step rows provided) (λ u xs. AllSpread u) (λ u i xs v f h.
      command_spread i.line (noted u) i.command v f h) is s t e

  pub script_spread : (script : List Statement) (t : Layout) → placement script rows provided ≡ Ok t
      → Each IsSpread t.sections
  unfolding placement
  script_spread script t e =
      run_by (statement_step rows provided) (λ u xs. AllSpread u) (λ u x xs v f.
      statement_spread x.line u x.command v f) script nothing_placed t e tt
