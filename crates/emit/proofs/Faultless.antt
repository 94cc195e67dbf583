-- Links without faults.
use Rattle.emit.proofs.Common.{Bool, Err, Layout, List, Ok, Project, Result, arith, cond, false, image_length, layout}
use Rattle.emit.proofs.Common.{ltb-true, max_image_length, nat_lt, of_length, refl, true, ℕ, ◌∙◌, ◌≡◌, ◌≤◌}
use Rattle.ldmodel.specs.Fault.{Fault}

not_longer : (b : Bool) (m n : ℕ) (faults : List Fault) (s : Layout) → nat_lt m n ≡ b → n ≤ m
    → (let r : Result Layout (List Fault) = cond b (Err faults) (Ok s) in r) ≡ Ok s
not_longer true m n faults s e h = absurd (omega (arith, ltb-true m n e, h))
not_longer false m n faults s e h = refl

-- an image that is not too long
pub short_layout : (p : Project) (s : Layout) → layout p ≡ of_length (image_length p s) s
    → image_length p s ≤ max_image_length → layout p ≡ Ok s
short_layout p s e h =
    e ∙ not_longer (nat_lt max_image_length (image_length p s)) max_image_length (image_length p s) _ s refl h
