use Rattle.symres_table.proofs.Common.{Declared, Vec, false, inl, inr, is_local, refl, with_items_is, ⊎_elim, ◌∙◌, ◌≡◌}
use Rattle.std.proofs.Common.{Global}
use Rattle.std.specs.Vec.{with_items}
use Rattle.symres_table.proofs.Settling.{Step, settling_step}
use Rattle.symres_table.proofs.Naming.{visible_is}
use Rattle.symres_table.proofs.rows.settle_visible.Goals as goal

pub returns-then-is_visible : goal.returns-then-is_visible
returns-then-is_visible c = λ ss left was r.
    let seen : is_local c.args.symbol.symbol.binding ≡ false =
    visible_is (is_local c.args.symbol.symbol.binding) c.if-is_visible.ensures in
    let v : Vec Declared Global = c.index_mut.result.now in
    let l : Vec Declared Global = with_items v c.settle_last.new.row in
    let is : c.deref_mut.result.now ≡ v.items = c.deref_mut.ensures.value in
    let now : l.items ≡ c.settle_last.new.row =
    with_items_is v c.settle_last.new.row (c.settle_last.auto.row ∙ c.deref_mut.ensures.len) in
    let step : Step c.args.places.now c.args.at c.args.key.0 c.args.symbol v l = record {
      last = λ fs bs os a e. now ∙ c.settle_last.ensures.last fs bs os a (is ∙ e);
      either = λ fs bs os a e. ⊎_elim (λ q. inl (now ∙ q ∙ is)) (λ q. inr (now ∙ q))
          (c.settle_last.ensures.either fs bs os a (is ∙ e));
      settled = λ fs bs os a e. now ∙ c.settle_last.ensures.settled fs bs os a (is ∙ e) ∙ is;
      len = refl;
      room = refl;
    } in
    settling_step c.args.places.now c.args.at c.args.key.0 ss left c.args.symbol was c.args.table.now.items v l
    seen (c.requires.known seen) c.index_mut.ensures.value step r
