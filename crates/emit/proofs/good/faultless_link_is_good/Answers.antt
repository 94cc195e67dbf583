use Rattle.emit.proofs.Faultless.{short_layout}
use Rattle.emit.proofs.good.faultless_link_is_good.Goals as goal

pub returns : goal.returns
returns c =
    λ s link_layout short none.
    let p = c.args.project.now in
    c.faultless_is_good.ensures (record { project = p; layout = s }) (record {
      layout = short_layout p s link_layout.layout short;
      relocated = none;
      names = c.inputs-inputs.ensures.distinct;
      numbers = c.are_numbered.ensures;
      read = c.objects_are_read.ensures;
      named = link_layout.named;
    })
