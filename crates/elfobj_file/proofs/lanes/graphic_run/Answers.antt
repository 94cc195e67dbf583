use Rattle.std.proofs.Common.{leb, cond, bit_or, refl, arith}
use Rattle.std.proofs.lemmas.Simd.{zip2_splat, length-chunk}
use lib.Lanes.{chunk}
use Rattle.elfobj_file.proofs.GraphicRuns.{graphic_from, itself, joined, splat_is}
use Rattle.elfobj_file.proofs.lanes.graphic_run.Goals as goal

pub returns : goal.returns
returns c =
    let v = chunk c.args.at 16 c.args.bytes.now in
    let long = length-chunk c.args.at 16 c.args.bytes.now c.requires in
    graphic_from c.args.bytes.now c.args.at 16 _ _ c.requires (omega arith) c.type_inv.bytes c.first_set.ensures _
    (joined bit_or _ _ v (zip2_splat _ v 16 33 long)
    (joined (λ a b. cond (leb a b) 255 0) _ _ v (splat_is v 16 127 long) (itself v))) refl
