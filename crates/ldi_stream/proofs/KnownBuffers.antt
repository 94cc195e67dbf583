-- What std's buffered readers show when they are new.
use Rattle.ldi_stream.proofs.Common.{List, None, Option, Some, [], prepend_known, refl, ℕ, ◌≡◌}

pub rest_of_new : (known : Option (List ℕ)) → prepend_known [] known ≡ known
rest_of_new None = refl
rest_of_new (Some xs) = refl
