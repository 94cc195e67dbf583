use Rattle.relink_driver.proofs.passes.compute_values.Goals as goal

pub check_length-requires : goal.check_length-requires
check_length-requires c =
    let k = c.requires.known in
    record {
      symbol_table = c.args.context.symbol_table.now;
      known = k;
      values = c.in_ok-name_values.ensures k.layout (c.requires.given.values k.layout k.link_layout) k.view;
    }
