-- The output sections are those of the layout.
use Rattle.emit.proofs.Common.{AllZip, Bool, IsJoinedRow, IsOutput, Layout, Option, SectionRef, SymbolTableState, ap}
use Rattle.emit.proofs.Common.{is_some, map, on_ok_weaker, subst, sym, vec_items}
use Rattle.emit_relocate.specs.declared.previous_link_info.FileRange.{FileRange}
use Rattle.emit.proofs.Staying.{all_said, only_said}
use Rattle.emit.proofs.drawing.draw_image.Goals as goal
use Rattle.emit.specs.Drawable.{AreOutputs, IsDrawableAt}

pub draw_outputs-requires-clause-outputs : goal.draw_outputs-requires-clause-outputs
draw_outputs-requires-clause-outputs g c =
    let p = c.args.sources.now.project.now in
    let stays : SectionRef → Bool = λ k. is_some (g.E.PreviousLinkInfo.range c.args.sources.now.previous.now k) in
    let r = c.requires.drawable in
    let s = r.layout in
    record {
      layout = s;
      stays = stays;
      are = record {
        names = r.names;
        indexed_layout = r.is.indexed_layout;
        values = r.is.values;
        short = r.is.short;
        outputs = subst (λ l. AllZip (IsOutput p s stays) s.sections l) (sym c.deref-2.ensures.value)
            (c.in_ok-outputs.ensures s stays r.is.indexed_layout.link_layout
            (subst (λ l. AllZip (IsJoinedRow p s stays) s.sections (map vec_items l)) (sym c.deref.ensures.value)
            (c.in_ok-pieces.ensures s r.names r.is.indexed_layout r.is.fields)));
      };
    }

pub returns : goal.returns
returns g c =
    let p = c.args.sources.now.project.now in
    let range : SectionRef → Option FileRange = g.E.PreviousLinkInfo.range c.args.sources.now.previous.now in
    let stays : SectionRef → Bool = λ k. is_some (range k) in
    let outputs : (s : Layout) (a : SymbolTableState)
    → IsDrawableAt p s a c.args.sources.now.indexed_layout.now c.args.values.now c.args.sources.now.relocated.now stays
    → AreOutputs p c.args.sources.now.indexed_layout.now c.args.values.now s stays c.deref-2.result.now =
    λ s a is. record {
      names = a;
      indexed_layout = is.indexed_layout;
      values = is.values;
      short = is.short;
      outputs = subst (λ l. AllZip (IsOutput p s stays) s.sections l) (sym c.deref-2.ensures.value)
          (c.in_ok-outputs.ensures s stays is.indexed_layout.link_layout
          (subst (λ l. AllZip (IsJoinedRow p s stays) s.sections (map vec_items l)) (sym c.deref.ensures.value)
          (c.in_ok-pieces.ensures s a is.indexed_layout is.fields)));
    } in
    record {
      image = on_ok_weaker c.draw_outputs.result
          (λ h s a is none. h s stays (outputs s a is) (λ k. ap is_some (none k))) c.draw_outputs.ensures.image;
      redrawn = on_ok_weaker c.draw_outputs.result
          (λ h old new a same is good_old good_new sound patches image.
          h old new stays same (outputs new.layout a is) good_old good_new
          (only_said old new a range sound) patches image)
          c.draw_outputs.ensures.redrawn;
      work = on_ok_weaker c.draw_outputs.result
          (λ h old new a same is good complete few.
          h old new stays same (outputs new.layout a is) good (all_said old new a range complete) few)
          c.draw_outputs.ensures.work;
      spent = on_ok_weaker c.draw_outputs.result
          (λ h old new a same is good complete sound.
          h old new stays same (outputs new.layout a is) good (all_said old new a range complete)
          (only_said old new a range sound))
          c.draw_outputs.ensures.spent;
      counted = c.draw_outputs.ensures.counted;
      unchanged = c.draw_outputs.ensures.unchanged;
    }
