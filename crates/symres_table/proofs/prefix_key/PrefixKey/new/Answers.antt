use Rattle.symres_table.proofs.Common.{rules, ◌∙◌}
use Rattle.symres_table.proofs.PrefixKeys.{from_bytes, same_prefix}
use Rattle.symres_table.proofs.prefix_key.PrefixKey.new.Goals as goal

pub returns : goal.returns
returns c = record {
  bytes = λ k. let h = c.type_inv.name k in search (rules, h);
  is = c.from_be_bytes.ensures ∙ from_bytes c.padded.result
      ∙ same_prefix 16 c.padded.result c.args.name.now c.padded.ensures;
}
