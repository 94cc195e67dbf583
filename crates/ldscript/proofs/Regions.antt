-- Memory regions: no tokens are two of them.
use Rattle.ldscript.proofs.Common.{Assign, CloseBrace, Colon, Comma, Expr, Expression, Lexeme, List, Mark, Name}
use Rattle.ldscript.proofs.Common.{Punctuation, Stops, Whole, ap, codes, each, ended, expression, key, mark, region}
use Rattle.ldscript.proofs.Common.{subst, sym, token, ℕ, ◌∙◌, ◌≡◌, ◌▸◌}
use Rattle.ldscript.specs.Steps.{name}
use Rattle.ldscript.specs.Grammar.{region_head, region_middle}
use Rattle.ldscript_statements.specs.declared.statement.Region.{Region}
use Rattle.ldscript.proofs.Singles.{Fixed, Single, SingleUntil, tokens_same, mark_fixed, key_fixed, then_fixed}
use Rattle.ldscript.proofs.Singles.{end_single, behind, behind_tree, name_single, expression_single, ended_single}
use Rattle.ldscript.proofs.Singles.{stops_at}
use Rattle.ldscript.proofs.Each.{EachListed, each_single}

pub region_head_single : Single region_head
region_head_single = end_single name (mark Colon ▸ key Expression (codes "ORIGIN") ▸ mark Assign)
    (name_single Expression)
    (then_fixed (mark Colon) (key Expression (codes "ORIGIN") ▸ mark Assign) (mark_fixed Colon)
    (then_fixed (key Expression (codes "ORIGIN")) (mark Assign) (key_fixed Expression (codes "ORIGIN"))
    (mark_fixed Assign)))

pub region_middle_fixed : Fixed region_middle
region_middle_fixed = then_fixed (key Expression (codes "LENGTH")) (mark Assign) (key_fixed Expression (codes "LENGTH"))
    (mark_fixed Assign)

regions_same : (a b : Region) → a.line ≡ b.line → a.name ≡ b.name → a.origin ≡ b.origin → a.extent ≡ b.extent → a ≡ b
regions_same a b e f g h =
    let mk : ℕ → List ℕ → Expr → Expr → Region = λ l n o x. record { line = l; name = n; origin = o; extent = x } in
    ap (λ l. mk l a.name a.origin a.extent) e ∙ ap (λ n. mk b.line n a.origin a.extent) f
    ∙ ap (λ o. mk b.line b.name o a.extent) g ∙ ap (λ x. mk b.line b.name b.origin x) h

-- behind the head; behind ORIGIN's expression; behind `LENGTH =`
pub region_name : (b : Region) (ts us more : List Lexeme) (n : List ℕ) → region_head n ts us → region b ts more
    → (b.name ≡ n) × (ended Comma b.origin ▸ region_middle ▸ expression b.extent) us more
region_name b ts us more n h d =
    behind_tree region_head (ended Comma b.origin ▸ region_middle ▸ expression b.extent) region_head_single ts us more
    n b.name h d.1

pub region_origin : (b : Region) (us vs more : List Lexeme) (o : Expr) → ended Comma o us vs
    → (ended Comma b.origin ▸ region_middle ▸ expression b.extent) us more
    → (b.origin ≡ o) × (region_middle ▸ expression b.extent) vs more
region_origin b us vs more o h d =
    behind_tree (ended Comma) (region_middle ▸ expression b.extent) (ended_single Comma tt) us vs more o b.origin h d

pub region_extent : (b : Region) (vs ws more : List Lexeme) → region_middle vs ws
    → (region_middle ▸ expression b.extent) vs more → expression b.extent ws more
region_extent b vs ws more h d = behind region_middle (expression b.extent) region_middle_fixed vs ws more h d

pub region_only : (ts us vs ws rest : List Lexeme) (a b : Region) (more : List Lexeme) → region_head a.name ts us
    → ended Comma a.origin us vs → region_middle vs ws
    → ((f : Expr) (more : List Lexeme) → expression f ws more → Stops Whole more → (f ≡ a.extent) × (more ≡ rest))
    → a.line ≡ b.line → region b ts more → Stops Whole more → (b ≡ a) × (more ≡ rest)
region_only ts us vs ws rest a b more h i j only line d st =
    let e = region_name b ts us more a.name h d in
    let f = region_origin b us vs more a.origin i e.1 in
    let g = only b.extent more (region_extent b vs ws more j f.1) st in
    (regions_same b a (sym line) e.0 f.0 g.0, g.1)

pub region_until : SingleUntil (Stops Whole) region
region_until ts r s a b x y hr hs =
    let e = region_only ts x.1.0 x.1.2.0 x.1.2.2.0 r a b s x.1.1 x.1.2.1 x.1.2.2.1
    (λ f more d st. expression_single x.1.2.2.0 more r f a.extent d x.1.2.2.2 st hr) (x.0 ∙ sym y.0) y hs in
    (sym e.0, sym e.1)

name_no_mark : (n : List ℕ) (m : Mark) (ts r s : List Lexeme) → token (Name n) ts r → mark m ts s → ⊥
name_no_mark n m ts r s x y = let e = (tokens_same (Name n) (Punctuation m) ts r s x y).0 in cc

name_stops : (n : List ℕ) (ts r : List Lexeme) → token (Name n) ts r → Stops Whole ts
name_stops n ts r d = subst (Stops Whole) (sym d.1) tt

pub regions_listed : EachListed (Stops Whole) (mark CloseBrace) region
regions_listed = record {
  single = region_until;
  closes = mark_fixed CloseBrace;
  no_close = λ x ts r s d e. name_no_mark x.name CloseBrace ts d.1.1.0 s d.1.1.1.1 e;
  at_close = λ ts r d. stops_at CloseBrace tt ts r d;
  at_start = λ x ts r d. name_stops x.name ts d.1.1.0 d.1.1.1.1;
}

pub closed_regions_single : Single (λ rs. each region rs ▸ mark CloseBrace)
closed_regions_single ts r s a b x y = each_single regions_listed a b ts r s x y
