-- `.` is kept before each statement of SECTIONS and of a body, once and in their order.
use Rattle.ldmodel_laws.proofs.Common.{BodyStatement, Item, ItemCommand, Layout, List, Ok, OutputSection, Piece}
use Rattle.ldmodel_laws.proofs.Common.{PieceTo, Statement, [], ap, append-nil, append_assoc, arith, items, items_of}
use Rattle.ldmodel_laws.proofs.Common.{length, length-append, noted, nothing_placed, refl, subst, suc, sym, ℕ, ◌++◌}
use Rattle.ldmodel_laws.proofs.Common.{◌+◌, ◌∙◌, ◌∷◌, ◌≡◌}
use Rattle.ldscript.specs.statements.declared.statement.Command.{Command}
use Rattle.ldscript.specs.statements.declared.statement.Command.TheVariants as top
use Rattle.ldscript.specs.statements.declared.statement.ItemCommand.TheVariants as item
use Rattle.ldmodel.specs.Placement.{Body, body_step, command_step, item_command_step, item_step, next_row, opened}
use Rattle.ldmodel.specs.Placement.{placement, region_step, statement_step}
use Rattle.ldmodel_laws.specs.Spread.{Notes, dots_of, dots_of_all, dots_of_command, dots_in}
use Rattle.ldmodel_laws.proofs.Effects.{run_by, Kept, kept_same, Quiet, still, renamed, onward, added, named_kept}
use Rattle.ldmodel_laws.proofs.Effects.{directive_named, free_dot_kept, region_kept, SectionPlaced, section_placed}
use Rattle.ldmodel_laws.proofs.Effects.{command_by}

-- what was kept of `.` in a body stays
abbrev Has : List ℕ → Body → Type 0
Has dots b = b.layout.dots ≡ dots

quiet_has : (dots : List ℕ) (b c : Body) → Quiet b c → Has dots b → Has dots c
quiet_has dots b c (still e) h = subst (Has dots) e h
quiet_has dots b c (renamed s k e) h = subst (Has dots) e (sym (named_kept b.layout s k).dots ∙ h)
quiet_has dots b c (onward to k e) h = subst (Has dots) e h
quiet_has dots b c (added bytes e) h = subst (Has dots) e h

piece_has : (dots : List ℕ) (b : Body) (p : Piece) (rest : List Piece) (c : Body) → PieceTo b p rest c → Has dots b
    → Has dots c
piece_has dots b p rest c k h = subst (Has dots) k.after h

pub body_dots : (provided : List (List ℕ)) (b : Body) (x : BodyStatement) (c : Body) → body_step provided b x ≡ Ok c
    → c.layout.dots ≡ b.layout.dots ++ b.layout.dot ∷ []
body_dots provided b x c e =
    let dots : List ℕ = b.layout.dots ++ b.layout.dot ∷ [] in
    command_by provided (Has dots) (quiet_has dots) (piece_has dots) (λ d f h.
    h) x.line (record b { layout = noted b.layout }) x.command c e refl

-- a statement of a body adds one
record Grown (dots : List ℕ) (total : ℕ) (b : Body) (xs : List BodyStatement) : Type 0 where
  pub more : List ℕ
  pub whole : b.layout.dots ≡ dots ++ more
  pub count : length more + length xs ≡ total

body_grown : (provided : List (List ℕ)) (dots : List ℕ) (total : ℕ) (b : Body) (x : BodyStatement)
    (xs : List BodyStatement) (c : Body) → body_step provided b x ≡ Ok c → Grown dots total b (x ∷ xs)
    → Grown dots total c xs
body_grown provided dots total b x xs c e h = record {
  more = h.more ++ b.layout.dot ∷ [];
  whole = body_dots provided b x c e ∙ ap (λ ys. ys ++ b.layout.dot ∷ []) h.whole
      ∙ append_assoc dots h.more (b.layout.dot ∷ []);
  count = (let l : length (h.more ++ b.layout.dot ∷ []) ≡ length h.more + 1 =
      length-append h.more (b.layout.dot ∷ []) in let k : length h.more + suc (length xs) ≡ total = h.count in
      omega (arith, l, k));
}

kept_notes : (s t : Layout) → Kept (noted s) t → Notes 1 s t
kept_notes s t h = record { more = []; dots = sym h.dots; count = refl }

section_notes : (provided : List (List ℕ)) (row : List Piece) (s : Layout) (o : OutputSection) (t : Layout)
    → SectionPlaced provided row (noted s) o t → Notes (suc (length o.body)) s t
section_notes provided row s o t h =
    let dots : List ℕ = s.dots ++ s.dot ∷ [] in
    let last : Grown dots (length o.body) h.last [] =
    run_by (body_step provided) (Grown dots (length o.body)) (λ b x xs c e g.
    body_grown provided dots (length o.body) b x xs c e g) o.body (opened (noted s) row h.head) h.last h.body
    (record { more = []; whole = sym (append-nil dots); count = omega arith }) in
    subst (Notes (suc (length o.body)) s) h.after (record {
      more = last.more;
      dots = last.whole ∙ append_assoc s.dots (s.dot ∷ []) last.more;
      count = (let c : length last.more + 0 ≡ length o.body = last.count in omega (arith, c));
    })

module _ (rows : List (List Piece)) (provided : List (List ℕ)) where
  command_notes : (line : ℕ) (s : Layout) (c : ItemCommand) (t : Layout)
      → item_command_step rows provided line (noted s) c ≡ Ok t → Notes (dots_of_command c) s t
  unfolding item_command_step
  command_notes line s (item.Dot c) t e = kept_notes s t (free_dot_kept (noted s) line c t e)
  command_notes line s (item.Directive c) t e =
      kept_notes s t (named_kept (noted s) t (directive_named provided (noted s) line c t e))
  command_notes line s (item.Section o) t e =
      section_notes provided (next_row rows (noted s)) s o t
      (section_placed provided (next_row rows (noted s)) (noted s) line o t e)
  command_notes line s (item.Discard is) t e =
      subst (Notes 1 s) (let f : record (noted s) { inputs = s.inputs + length is } ≡ t = cc in
      f) (record { more = []; dots = refl; count = refl })

  pub item_dots : (s : Layout) (i : Item) (t : Layout) → item_step rows provided s i ≡ Ok t → Notes (dots_of i) s t
  item_dots s i t e = command_notes i.line s i.command t e

  -- ---- how many there are
  module _ (total : ℕ) where
    abbrev Left : Layout → List Item → Type 0
    Left s is = length s.dots + dots_of_all is ≡ total

    item_left : (s : Layout) (i : Item) (is : List Item) (t : Layout) → item_step rows provided s i ≡ Ok t
        → Left s (i ∷ is) → Left t is
    item_left s i is t e h =
        let n : Notes (dots_of i) s t = item_dots s i t e in
        let l : length t.dots ≡ length s.dots + suc (length n.more) = ap length n.dots
        ∙ length-append s.dots (s.dot ∷ n.more) in
        let c : suc (length n.more) ≡ dots_of i = n.count in
        let k : length s.dots + (dots_of i + dots_of_all is) ≡ total = h in
        omega (arith, l, c, k)

    kept_left : (s t : Layout) (is : List Item) → Kept s t → Left s is → Left t is
    kept_left s t is k h = ap (λ (xs : List ℕ). length xs + dots_of_all is) (sym k.dots) ∙ h

    statement_left : (line : ℕ) (s : Layout) (c : Command) (is : List Item) (t : Layout)
        → command_step rows provided line s c ≡ Ok t → Left s (items_of c ++ is) → Left t is
    unfolding command_step
    statement_left line s (top.Entry n) is t e h = kept_left s t is (kept_same s t cc) h
    statement_left line s (top.Directive c) is t e h =
        kept_left s t is (named_kept s t (directive_named provided s line c t e)) h
    statement_left line s (top.Memory rs) is t e h =
        run_by region_step (λ u xs. Left u is) (λ u r xs v f g. kept_left u v is (region_kept u r v f) g) rs s t e h
    statement_left line s (top.Sections js) is t e h =
        run_by (item_step rows provided) (λ u xs. Left u (xs ++ is)) (λ u i xs v f g. item_left u i (xs ++ is) v f g)
        js s t e h

  pub script_dots : (script : List Statement) (t : Layout) → placement script rows provided ≡ Ok t → length t.dots
      ≡ dots_in script
  unfolding placement
  script_dots script t e =
      let last : length t.dots + 0 ≡ dots_in script =
      run_by (statement_step rows provided) (λ u xs. Left (dots_in script) u (items xs)) (λ u x xs v f h.
      statement_left (dots_in script) x.line u x.command (items xs) v f h) script nothing_placed t e (omega arith)
      in
      omega (arith, last)
