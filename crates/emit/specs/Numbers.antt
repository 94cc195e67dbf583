-- Numbers of the sections of an object.
use Rattle.std.specs.Prelude.{◌≡◌, false, ◌==◌}
use Rattle.elfobj.specs.Object.{ObjectData}
use Rattle.elfobj.specs.Sections.{LinkedSection}
use Rattle.ldmodel_laws.specs.Spread.{EachLater}

-- the sections of an object have different numbers
abbrev pub HaveNumbers : ObjectData → Type 0
HaveNumbers o = EachLater (λ (section y : LinkedSection). (section.number.0 == y.number.0) ≡ false) o.sections
