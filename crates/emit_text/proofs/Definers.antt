-- What defines a name says the same of it as how it is resolved.
use Rattle.emit_text.proofs.Common.{Project, is_defined, owner, refl, ◌≡◌}
use Rattle.ldmodel.specs.Names.{Decision, Strong, Script, Common, Weak, Provided, Undefined, Duplicate}
use Rattle.emit_text.specs.Definer.{definer_of, defines, owner_in}

pub defines_as : (d : Decision) → defines (definer_of d) ≡ is_defined d
defines_as (Strong entry) = refl
defines_as Script = refl
defines_as (Common owner size alignment) = refl
defines_as (Weak entry) = refl
defines_as Provided = refl
defines_as Undefined = refl
defines_as Duplicate = refl

pub owner_as : (p : Project) (d : Decision) → owner_in p (definer_of d) ≡ owner p d
owner_as p (Strong entry) = refl
owner_as p Script = refl
owner_as p (Common owner size alignment) = refl
owner_as p (Weak entry) = refl
owner_as p Provided = refl
owner_as p Undefined = refl
owner_as p Duplicate = refl
