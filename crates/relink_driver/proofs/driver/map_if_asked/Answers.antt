use Rattle.relink_driver.proofs.Common.{AreValues, Bool, IfOk, IsLinkLayout, Layout, SymbolTableState, project_of}
use Rattle.relink_driver.proofs.Common.{shown_map, subst, sym, ◌≡◌}
use Rattle.ldmodel.specs.MapText as definition
use Rattle.relink_driver.proofs.driver.map_if_asked.Goals as goal

pub returns : goal.returns
returns c =
    let p = project_of c.args.context in
    subst (λ (b : Bool). IfOk c.map_text.result (λ text. (layout : Layout) → (a : SymbolTableState)
    → IsLinkLayout p layout c.args.indexed_layout.now.link_layout → AreValues p layout a c.args.name_values.now
    → text.items ≡ shown_map b (definition.map_text p layout)))
    (sym c.if-not-context.false) c.map_text.ensures
