use Rattle.relink.proofs.Common.{arith}
use Rattle.relink.proofs.counts.counts_fit.Goals as goal

pub returns : goal.returns
returns c = record {
  objects = omega (arith, c.objects.type_inv, c.objects.ensures);
  names = omega (arith, c.names.type_inv, c.names.ensures);
  pieces = omega (arith, c.pieces.type_inv, c.pieces.ensures);
  fields = omega (arith, c.fields.type_inv, c.fields.ensures);
  bytes = omega (arith, c.bytes.type_inv, c.bytes.ensures);
}
