-- Rows and room that only grow.
use Rattle.symres_table.proofs.Common.{GrowsRoom, ObjectsState, arith, refl, ◌∙◌}

pub grows_refl : (s : ObjectsState) → GrowsRoom s s
grows_refl s = record {
  objects = refl;
  rows = omega arith;
  room = λ k h. omega arith;
  order = omega arith;
  places =
      omega arith;
}

pub grows_trans : (a b c : ObjectsState) → GrowsRoom a b → GrowsRoom b c → GrowsRoom a c
grows_trans a b c g h = record {
  objects = h.objects ∙ g.objects;
  rows = omega (arith, g.rows, h.rows);
  room = λ k l. let x = g.room k l in let y = h.room k (omega (arith, g.rows)) in omega (arith, x, y);
  order = omega (arith, g.order, h.order);
  places = omega (arith, g.places, h.places);
}
