-- What is known of a value that may be there.
use Rattle.place_sections.proofs.Common.{IfNone, IfSome, None, Option, Some}

pub by_option : {K : Type 0} (o : Option K) (A B : K → Type 0) (N C : Type 0) → IfSome o A → IfSome o B → IfNone o N
    → ((k : K) → A k → B k → C) → (N → C) → C
by_option (Some k) A B N C a b n some none = some k a b
by_option None A B N C a b n some none = none n

pub for_some : {K : Type 0} (o : Option K) (A C : K → Type 0) → IfSome o A → ((k : K) → A k → C k) → IfSome o C
for_some (Some k) A C a go = go k a
for_some None A C a go = tt
