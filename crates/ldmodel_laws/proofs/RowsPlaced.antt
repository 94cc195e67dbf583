-- Each entry of every row is placed once, in the order of the row.
use Rattle.ldmodel_laws.proofs.Common.{BodyCommand, BodyStatement, Each, InSection, InputStatementAt, Item, ItemCommand}
use Rattle.ldmodel_laws.proofs.Common.{Layout, List, Ok, OutputSection, Piece, PlacedOutput, Statement, [], ap}
use Rattle.ldmodel_laws.proofs.Common.{append-nil, append_assoc, arith, entries_in, inputs_in, inputs_of, item_inputs}
use Rattle.ldmodel_laws.proofs.Common.{item_sections, items, items_of, length, length-append, length-map, map}
use Rattle.ldmodel_laws.proofs.Common.{map-append, noted, nothing_placed, past_inputs, refl, slice_index_or, subst, suc}
use Rattle.ldmodel_laws.proofs.Common.{sym, ℕ, ◌++◌, ◌+◌, ◌∙◌, ◌∷◌, ◌≡◌}
use Rattle.std.proofs.Math.Seq.{get_or-append_seam}
use Rattle.ldscript.specs.statements.declared.section.BodyCommand.TheVariants as body
use Rattle.ldscript.specs.statements.declared.statement.Command.{Command}
use Rattle.ldscript.specs.statements.declared.statement.Command.TheVariants as top
use Rattle.ldscript.specs.statements.declared.statement.ItemCommand.TheVariants as item
use Rattle.ldmodel.specs.Placement.{Body, body_step, body_command_step, pieces_placed, command_step, item_command_step}
use Rattle.ldmodel.specs.Placement.{item_step, next_row, opened, placement, region_step, statement_step, placed_section}
use Rattle.ldmodel_laws.proofs.Effects.{came, run_by, Kept, kept_same, Quiet, still, renamed, onward, added, named_kept}
use Rattle.ldmodel_laws.proofs.Effects.{
  directive_named,
  free_dot_kept,
  region_kept,
  dot_quiet,
  directive_quiet,
  data_quiet,
}
use Rattle.ldmodel_laws.proofs.Effects.{SectionPlaced, section_placed}
use Rattle.ldmodel_laws.proofs.RowParts.{entries, IsOf, Took, takes, of_all, later}

-- a statement that is no input statement keeps the row, what stands of it, and the layout but for `.` and symbols
record KeptBody (b c : Body) : Type 0 where
  pub layout : Kept b.layout c.layout
  pub rest : b.rest ≡ c.rest
  pub pieces : b.pieces ≡ c.pieces

same_body : (b c d : Body) → KeptBody b c → c ≡ d → KeptBody b d
same_body b c d h e = subst (KeptBody b) e h

quiet_kept : (b c : Body) → Quiet b c → KeptBody b c
quiet_kept b c (still e) =
    same_body b b c (record { layout = kept_same b.layout b.layout refl; rest = refl; pieces = refl }) e
quiet_kept b c (renamed s h e) =
    same_body b _ c (record { layout = named_kept b.layout s h; rest = refl; pieces = refl }) e
quiet_kept b c (onward to h e) =
    same_body b _ c (record {
      layout = record { sections = refl; inputs = refl; dots = refl };
      rest = refl;
      pieces =
          refl;
    }) e
quiet_kept b c (added bytes e) =
    same_body b _ c (record {
      layout = record { sections = refl; inputs = refl; dots = refl };
      rest = refl;
      pieces =
          refl;
    }) e

module _ (of : ℕ → InputStatementAt → List Piece) (mark : (n : ℕ) (i : InputStatementAt) → Each (IsOf n) (of n i)) where
  abbrev every : ℕ → List InputStatementAt → List Piece
  every n is = of_all of mark n is

  -- ---- a body

  module _ (k : ℕ) (row : List Piece) (sections : List PlacedOutput) (total : ℕ) where
    abbrev statements : List BodyStatement → List InputStatementAt
    statements ss = inputs_in (InSection k) ss

    -- what is left of the row is what the statements to come have
    record SoFar (b : Body) (ss : List BodyStatement) : Type 0 where
      pub whole : entries b.pieces ++ b.rest ≡ row
      pub rest : b.rest ≡ every b.layout.inputs (statements ss)
      pub inputs : b.layout.inputs + length (statements ss) ≡ total
      pub before : b.layout.sections ≡ sections

    kept_so_far : (b c : Body) (ss : List BodyStatement) → KeptBody b c → SoFar b ss → SoFar c ss
    kept_so_far b c ss h i = record {
      whole = ap (λ xs. entries xs ++ c.rest) (sym h.pieces) ∙ ap (λ xs. entries b.pieces ++ xs) (sym h.rest) ∙ i.whole;
      rest = sym h.rest ∙ i.rest ∙ ap (λ n. every n (statements ss)) h.layout.inputs;
      inputs = ap (λ n. n + length (statements ss)) (sym h.layout.inputs) ∙ i.inputs;
      before = sym h.layout.sections ∙ i.before;
    }

    took_so_far : (b c : Body) (i : InputStatementAt) (is : List InputStatementAt) → entries b.pieces ++ b.rest ≡ row
        → b.rest ≡ every b.layout.inputs (i ∷ is)
        → Took (of b.layout.inputs i) (every (b.layout.inputs + 1) is) b c → entries c.pieces ++ c.rest ≡ row
    took_so_far b c i is h r t =
        ap (λ xs. xs ++ c.rest) t.pieces ∙ append_assoc (entries b.pieces) (of b.layout.inputs i) c.rest
        ∙ ap (λ xs. entries b.pieces ++ (of b.layout.inputs i ++ xs)) t.rest
        ∙ ap (λ xs. entries b.pieces ++ xs) (sym r) ∙ h

    command_so_far : (provided : List (List ℕ)) (line : ℕ) (b : Body) (x : BodyCommand) (ss : List BodyStatement)
        (c : Body)
        → body_command_step provided line b x ≡ Ok c
        → entries b.pieces ++ b.rest ≡ row → b.rest
        ≡ every b.layout.inputs (inputs_of (InSection k) line x ++ statements ss)
        → b.layout.inputs + length (inputs_of (InSection k) line x ++ statements ss) ≡ total → b.layout.sections
        ≡ sections → SoFar c ss
    unfolding body_command_step
    command_so_far provided line b (body.Dot d) ss c e h r n s =
        kept_so_far b c ss (quiet_kept b c (dot_quiet line b d c e))
        (record { whole = h; rest = r; inputs = n; before = s })
    command_so_far provided line b (body.Directive d) ss c e h r n s =
        kept_so_far b c ss (quiet_kept b c (directive_quiet provided line b d c e))
        (record { whole = h; rest = r; inputs = n; before = s })
    command_so_far provided line b (body.Data w x) ss c e h r n s =
        kept_so_far b c ss (quiet_kept b c (data_quiet line b w x c e))
        (record { whole = h; rest = r; inputs = n; before = s })
    command_so_far provided line b (body.Input i) ss c e h r n s =
        let x : InputStatementAt = record { line = line; place = InSection k; input = i } in
        let m : ℕ = b.layout.inputs in
        let d = came (pieces_placed line m b b.rest) (λ d. Ok (past_inputs b d)) c e in
        let placed : pieces_placed line m b (of m x ++ every (m + 1) (statements ss)) ≡ Ok d.value =
        ap (pieces_placed line m b) (sym r) ∙ d.is in
        let took = takes line m (of m x) (every (m + 1) (statements ss)) (mark m x)
        (later of mark m (m + 1) (omega arith) (statements ss)) b d.value r placed in
        let after : past_inputs b d.value ≡ c = (let f = d.gives in cc) in
        subst (λ y. SoFar y ss) after (record {
          whole = took_so_far b d.value x (statements ss) h r took;
          rest = took.rest;
          inputs = (let l : m + 1 + length (statements ss) ≡ m + suc (length (statements ss)) = omega arith in l ∙ n);
          before = sym took.kept.sections ∙ s;
        })

    step_so_far : (provided : List (List ℕ)) (b : Body) (x : BodyStatement) (ss : List BodyStatement) (c : Body)
        → body_step provided b x ≡ Ok c → SoFar b (x ∷ ss) → SoFar c ss
    step_so_far provided b x ss c e h =
        command_so_far provided x.line (record b { layout = noted b.layout }) x.command ss c e h.whole h.rest h.inputs
        h.before

  -- ---- a section

  -- the rows of the output sections to come, the first of which has number k, where the next input statement has number
  -- n
  abbrev coming_of : ℕ → ℕ → ItemCommand → List (List Piece)
  coming_of k n (item.Section o) = every n (inputs_in (InSection k) o.body) ∷ []
  coming_of k n _ = []

  abbrev pub coming : ℕ → ℕ → List Item → List (List Piece)
  coming k n [] = []
  coming k n (i ∷ is) = coming_of k n i.command
      ++ coming (k + length (item_sections i.line i.command)) (n + length (item_inputs k i.command)) is

  -- what a statement of SECTIONS adds
  record Adds (line : ℕ) (c : ItemCommand) (s t : Layout) : Type 0 where
    pub rows : map entries_in t.sections ≡ map entries_in s.sections ++ coming_of (length s.sections) s.inputs c
    pub count : length t.sections ≡ length s.sections + length (item_sections line c)
    pub inputs : t.inputs ≡ s.inputs + length (item_inputs (length s.sections) c)

  adds_none : (line : ℕ) (c : ItemCommand) (s t : Layout) → Kept s t → item_sections line c ≡ []
      → item_inputs (length s.sections) c ≡ [] → coming_of (length s.sections) s.inputs c ≡ [] → Adds line c s t
  adds_none line c s t h a b d = record {
    rows = ap (map entries_in) (sym h.sections) ∙ sym (append-nil (map entries_in s.sections))
        ∙ ap (λ xs. map entries_in s.sections ++ xs) (sym d);
    count = (let e : length s.sections ≡ length t.sections = ap length h.sections in
        let f : length (item_sections line c) ≡ 0 = ap length a in omega (arith, e, f));
    inputs = (let f : length (item_inputs (length s.sections) c) ≡ 0 = ap length b in omega (arith, h.inputs, f));
  }

  adds_section : (provided : List (List ℕ)) (s : Layout) (line : ℕ) (o : OutputSection) (t : Layout) (row : List Piece)
      → row ≡ every s.inputs (inputs_in (InSection (length s.sections)) o.body) → SectionPlaced provided row s o t
      → Adds line (item.Section o) s t
  unfolding placed_section
  adds_section provided s line o t row r h =
      let k : ℕ = length s.sections in
      let n : ℕ = length (inputs_in (InSection k) o.body) in
      let b : Body = h.last in
      let q : PlacedOutput = placed_section o h.head b in
      let last : SoFar k row s.sections (s.inputs + n) b [] =
      run_by (body_step provided) (SoFar k row s.sections (s.inputs + n)) (λ c x ss d e i.
      step_so_far k row s.sections (s.inputs + n) provided c x ss d e i) o.body (opened s row h.head) b h.body
      (record { whole = refl; rest = r; inputs = refl; before = refl }) in
      let all : entries b.pieces ≡ row = sym (append-nil (entries b.pieces))
      ∙ ap (λ xs. entries b.pieces ++ xs) (sym last.rest) ∙ last.whole in
      let count : length (s.sections ++ q ∷ []) ≡ k + 1 = length-append s.sections (q ∷ []) in
      let more : map entries_in (s.sections ++ q ∷ []) ≡ map entries_in s.sections ++ entries b.pieces ∷ [] =
      map-append entries_in s.sections (q ∷ []) in
      subst (Adds line (item.Section o) s) h.after (record {
        rows = ap (λ xs. map entries_in (xs ++ q ∷ [])) last.before ∙ more
            ∙ ap (λ xs. map entries_in s.sections ++ xs ∷ []) (all ∙ r);
        count = ap (λ xs. length (xs ++ q ∷ [])) last.before ∙ count;
        inputs = (let e : b.layout.inputs + 0 ≡ s.inputs + n = last.inputs in omega (arith, e));
      })

  -- ---- a script

  module _ (rows : List (List Piece)) (provided : List (List ℕ)) where
    -- the rows are those of the output sections so far, and of those to come
    abbrev Whole : Layout → List Item → Type 0
    Whole s is = map entries_in s.sections ++ coming (length s.sections) s.inputs is ≡ rows

    added_whole : (s : Layout) (i : Item) (is : List Item) (t : Layout) → Adds i.line i.command s t → Whole s (i ∷ is)
        → Whole t is
    added_whole s i is t h w =
        let k : ℕ = length s.sections in
        let m : ℕ = k + length (item_sections i.line i.command) in
        let n : ℕ = s.inputs + length (item_inputs k i.command) in
        ap (λ xs. xs ++ coming (length t.sections) t.inputs is) h.rows
        ∙ ap (λ x. (map entries_in s.sections ++ coming_of k s.inputs i.command) ++ coming x t.inputs is) h.count
        ∙ ap (λ x. (map entries_in s.sections ++ coming_of k s.inputs i.command) ++ coming m x is) h.inputs
        ∙ append_assoc (map entries_in s.sections) (coming_of k s.inputs i.command) (coming m n is) ∙ w

    own_row : (s : Layout) (first : List Piece) (others : List (List Piece)) → map entries_in s.sections
        ++ first ∷ others ≡ rows → next_row rows s ≡ first
    own_row s first others w =
        ap (λ xs. slice_index_or xs (length s.sections) []) (sym w)
        ∙ ap (λ n. slice_index_or (map entries_in s.sections ++ first ∷ others) n [])
        (sym (length-map s.sections entries_in))
        ∙ get_or-append_seam (map entries_in s.sections) first others []

    command_adds : (line : ℕ) (s : Layout) (c : ItemCommand) (others : List (List Piece)) (t : Layout)
        → item_command_step rows provided line s c ≡ Ok t
        → map entries_in s.sections ++ (coming_of (length s.sections) s.inputs c ++ others) ≡ rows → Adds line c s t
    unfolding item_command_step
    command_adds line s (item.Dot c) others t e w =
        adds_none line (item.Dot c) s t (free_dot_kept s line c t e) refl refl refl
    command_adds line s (item.Directive c) others t e w =
        adds_none line (item.Directive c) s t (named_kept s t (directive_named provided s line c t e)) refl refl refl
    command_adds line s (item.Section o) others t e w =
        adds_section provided s line o t (next_row rows s) (own_row s _ others w)
        (section_placed provided (next_row rows s) s line o t e)
    command_adds line s (item.Discard is) others t e w =
        subst (Adds line (item.Discard is) s) (let f : record s { inputs = s.inputs + length is } ≡ t = cc in
        f) (record {
          rows = sym (append-nil (map entries_in s.sections));
          count = omega arith;
          inputs = ap (λ n. s.inputs + n) (sym (length-map is _));
        })

    item_whole : (s : Layout) (i : Item) (is : List Item) (t : Layout) → item_step rows provided s i ≡ Ok t
        → Whole s (i ∷ is) → Whole t is
    item_whole s i is t e w =
        added_whole (noted s) i is t (command_adds i.line (noted s) i.command (coming _ _ is) t e w) w

    kept_whole : (s t : Layout) (is : List Item) → Kept s t → Whole s is → Whole t is
    kept_whole s t is h w =
        ap (λ (xs : List PlacedOutput). map entries_in xs ++ coming (length xs) t.inputs is) (sym h.sections)
        ∙ ap (λ n. map entries_in s.sections ++ coming (length s.sections) n is) (sym h.inputs) ∙ w

    statement_whole : (line : ℕ) (s : Layout) (c : Command) (is : List Item) (t : Layout)
        → command_step rows provided line s c ≡ Ok t → Whole s (items_of c ++ is) → Whole t is
    unfolding command_step
    statement_whole line s (top.Entry n) is t e w = kept_whole s t is (kept_same s t cc) w
    statement_whole line s (top.Directive c) is t e w =
        kept_whole s t is (named_kept s t (directive_named provided s line c t e)) w
    statement_whole line s (top.Memory rs) is t e w =
        run_by region_step (λ u xs. Whole u is) (λ u r xs v f h. kept_whole u v is (region_kept u r v f) h) rs s t e w
    statement_whole line s (top.Sections js) is t e w =
        run_by (item_step rows provided) (λ u xs. Whole u (xs ++ is)) (λ u i xs v f h. item_whole u i (xs ++ is) v f h)
        js s t e w

    pub all_placed : (script : List Statement) (t : Layout) → placement script rows provided ≡ Ok t
        → coming 0 0 (items script) ≡ rows → map entries_in t.sections ≡ rows
    unfolding placement
    all_placed script t e w =
        sym (append-nil (map entries_in t.sections))
        ∙ run_by (statement_step rows provided) (λ u xs. Whole u (items xs)) (λ u x xs v f h.
        statement_whole x.line u x.command (items xs) v f h) script nothing_placed t e w
