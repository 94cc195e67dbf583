use Rattle.ldmodel_project.proofs.Common.{length, objects_of, shown_inputs, take, vec_len, ◌≡◌, ◌≤◌}
use Rattle.std.specs.Vec.{vec_capacity}
use Rattle.ldmodel_project.proofs.project.Next.inputs.Given as goal

-- the objects so far, and room for all
abbrev pub invariant-loop-at : goal.invariant-loop-at
invariant-loop-at l = record {
  shown : shown_inputs l.inputs.items ≡ take l.at (objects_of l.self.entries);
  long : vec_len l.inputs ≡ l.at;
  room : length l.self.entries ≤ vec_capacity l.inputs;
}
