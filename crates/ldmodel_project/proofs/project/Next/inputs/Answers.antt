use Rattle.ldmodel_project.proofs.Common.{InputObject, List, NamedObject, [], ap, arith, map-append, objects_of}
use Rattle.ldmodel_project.proofs.Common.{shown_input, shown_inputs, sym, take, ◌++◌, ◌∙◌, ◌∷◌}
use Rattle.ldmodel_project.proofs.Shown.{take_entry}
use Rattle.ldmodel_project.proofs.project.Next.inputs.Goals as goal

pub loop-at-preserved : goal.loop-at-preserved
loop-at-preserved c =
    let input : InputObject = c.input.result in
    let o : NamedObject = c.entry.result.1.now in
    record {
      shown = ap shown_inputs c.push_reserved.ensures.items
          ∙ (map-append shown_input c.loop-at.inputs.items (input ∷ [])
          ∙ (ap (λ (xs : List NamedObject). xs ++ shown_input input ∷ []) c.loop-at.invariant.shown
          ∙ (ap (λ (x : NamedObject). take c.loop-at.at (objects_of c.args.self.now.entries) ++ x ∷ []) c.input.ensures
          ∙ sym (take_entry c.args.self.now.entries c.loop-at.at c.entry.result.0.0 o c.entry.ensures))));
      long = omega (arith, c.push_reserved.ensures.len, c.loop-at.invariant.long);
      room = omega (arith, c.push_reserved.ensures.capacity, c.loop-at.invariant.room);
    }
