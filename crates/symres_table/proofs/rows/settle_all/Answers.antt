use Rattle.symres_table.proofs.Common.{List, Numbered, Settling, ap, drop, drop_all, drop_more, get_or, subst, sym}
use Rattle.symres_table.proofs.Common.{take, take-append-drop, ◌++◌, ◌+◌, ◌∙◌, ◌∷◌, ◌≡◌}
use Rattle.symres_table.proofs.Settling.{settling_start}
use Rattle.symres_table.proofs.Naming.{nothing}
use Rattle.symres_table.proofs.rows.settle_all.Goals as goal

pub loop-symbol-init : goal.loop-symbol-init
loop-symbol-init c = settling_start _ _ _ _ _

pub loop-symbol-preserved : goal.loop-symbol-preserved
loop-symbol-preserved c =
    let i = c.loop-symbol.symbol-index in
    let ss : List Numbered = c.args.symbols.now in
    let left : List Numbered = drop (i + 1) ss in
    let s : Numbered = get_or ss i nothing in
    let more : drop i ss ≡ s ∷ left = drop_more ss i nothing c.loop-symbol-test.true in
    let all : ss ≡ take i ss ++ s ∷ left = sym (take-append-drop i ss) ∙ ap (λ l. take i ss ++ l) more in
    subst (λ xs. Settling c.args.places.now c.args.at c.args.key.0 xs left c.args.table.now.items
    c.settle_visible.new.table.items) (sym all)
    (c.settle_visible.ensures (take i ss) left c.args.table.now.items
    (subst (λ xs. Settling c.args.places.now c.args.at c.args.key.0 xs (s ∷ left) c.args.table.now.items
    c.loop-symbol.table.items) all
    (subst (λ xs. Settling c.args.places.now c.args.at c.args.key.0 ss xs c.args.table.now.items
    c.loop-symbol.table.items) more c.loop-symbol.invariant)))

pub returns : goal.returns
returns c =
    subst (λ xs. Settling c.args.places.now c.args.at c.args.key.0 c.args.symbols.now xs c.args.table.now.items
    c.loop-symbol.table.items) (drop_all _ c.args.symbols.now c.loop-symbol-test.false) c.loop-symbol.invariant
