-- What a layout comes of, effect by effect in the order of the text: regions and output sections are added, each output
-- section when its body is filled, and all else changes neither (this project's own).
use Rattle.std.specs.Prelude.{◌≡◌, ℕ, ◌+◌, ◌^◌, ◌<◌, ◌≤◌, List, [], ◌∷◌, length}
use Rattle.ldscript.specs.statements.Numbering.{OutputSectionAt}
use Rattle.ldscript.specs.statements.declared.section.OutputSection.{OutputSection}
use Rattle.ldscript.specs.statements.declared.statement.Region.{Region}
use Rattle.ldmodel.specs.Placement.{Body, with_data, with_dot}
use Rattle.ldmodel.specs.Layout.{Layout, noted, with_symbol}
use Rattle.ldmodel.specs.Placement.{opened, with_region}
use Rattle.ldmodel.specs.Rows.{Piece, piece_alignment}
use Rattle.ldmodel.specs.Placement.{placed_section, with_section, Head}
use Rattle.ldmodel_laws.specs.Placed.{IsLeastMultiple, with_piece}

-- what a statement of a body does: `.` before it is kept, an input statement is counted, a symbol is given a value, `.`
-- goes on to an address, the next entry of the row takes its place, or a data command does
pub data BodyEffect : Body → Body → Type 0 where
  dot_noted : {body : Body} → BodyEffect body (record body { layout = noted body.layout })
  inputs_counted : {body : Body} (n : ℕ) → BodyEffect body (record body { layout = record body.layout { inputs = n } })
  symbol_given : {body : Body} (name : List ℕ) (x : ℕ)
      → BodyEffect body (record body { layout = with_symbol body.layout name x })
  dot_moved : {body : Body} (to : ℕ) → body.layout.dot ≤ to → to < 2 ^ 64 → BodyEffect body (with_dot body to)
  entry_placed : {body : Body} {p : Piece} {rest : List Piece} (start : ℕ) → body.rest ≡ p ∷ rest
      → IsLeastMultiple (piece_alignment p) body.layout.dot start → start + p.size < 2 ^ 64
      → BodyEffect body (with_piece body p rest start)
  data_added : {body : Body} (bytes : List ℕ) → body.layout.dot + length bytes < 2 ^ 64
      → BodyEffect body (with_dot (with_data body bytes) (body.layout.dot + length bytes))

-- effects one after the other
pub data BodyEffects : Body → Body → Type 0 where
  no_effect : {body : Body} → BodyEffects body body
  effect_then : {body c d : Body} → BodyEffect body c → BodyEffects c d → BodyEffects body d

-- output sections and regions stay as they are
pub record AddsNothing (layout t : Layout) : Type 0 where
  pub sections : t.sections ≡ layout.sections
  pub regions : t.regions ≡ layout.regions

-- an output section begins, its body is filled, which adds nothing else, and it is added
pub record AddsSection (layout : Layout) (o : OutputSection) (t : Layout) : Type 0 where
  pub row : List Piece
  pub head : Head
  pub last : Body
  pub body : BodyEffects (opened layout row head) last
  pub nothing : AddsNothing layout last.layout
  pub after : with_section last.layout o (placed_section o head last) ≡ t

-- a layout comes of another by these regions and output sections
pub data Trace : Layout → List Region → List OutputSectionAt → Layout → Type 0 where
  all_added : {layout : Layout} → Trace layout [] [] layout
  nothing_added : {layout t u : Layout} {rs : List Region} {os : List OutputSectionAt} → AddsNothing layout t
      → Trace t rs os u
      → Trace layout rs os u
  region_added : {layout u : Layout} {r : Region} {rs : List Region} {os : List OutputSectionAt} (origin extent : ℕ)
      → Trace (with_region layout r.name origin extent) rs os u → Trace layout (r ∷ rs) os u
  section_added : {layout t u : Layout} {rs : List Region} {o : OutputSectionAt} {os : List OutputSectionAt}
      → AddsSection layout o.section t → Trace t rs os u → Trace layout rs (o ∷ os) u
