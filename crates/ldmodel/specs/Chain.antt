-- A computation in steps, each of which may stop at a fault (this project's own).
use Rattle.std.specs.Prelude.{List, [], ◌∷◌, Result, Ok, Err}

-- go on with a value, or stop at the fault
abbrev pub and_then : {X Y F : Type 0} → Result X F → (X → Result Y F) → Result Y F
and_then (Ok x) go = go x
and_then (Err f) go = Err f

-- statements in their order, each from the state that the one before it left, up to the first fault
unfoldable pub run : {S X F : Type 0} → (S → X → Result S F) → S → List X → Result S F
run step s [] = Ok s
run step s (x ∷ xs) = and_then (step s x) (λ t. run step t xs)
