-- How a link ends before its last phase.
use Rattle.std.specs.Prelude.{◌≡◌, ℕ, List, [], ⊤}
use Rattle.ldmodel.specs.Link.{Link}
use Rattle.relink_driver.specs.declared.pass_end.PassEnd.{PassEnd}
use Rattle.relink_driver.specs.declared.pass_end.PassEnd.TheVariants.{Faulty, NoMemory}

-- the link with these fault lines
abbrev pub faulty_link : List ℕ → Link
faulty_link lines = record { status = 1; image = []; map = []; faults = lines }

-- it ends with these lines, or memory ran out
abbrev pub IsPassEnd : Link → PassEnd → Type 0
IsPassEnd l (Faulty lines) = faulty_link lines.items ≡ l
IsPassEnd l (NoMemory _) = ⊤
