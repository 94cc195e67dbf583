-- Passes that read no object and decide no name.
use Rattle.std.specs.Prelude.{◌≡◌, ◌≤◌, ⊤}
use Rattle.ldmodel.specs.Counts.{Counts}
use Rattle.relink_driver.specs.declared.pass_end.PassEnd.{PassEnd}
use Rattle.relink_driver.specs.declared.pass_end.PassEnd.TheVariants.{Faulty, NoMemory}

-- the numbers of objects read and of names decided stay, and the others do not fall
pub record ReadsNothing (old new : Counts) : Type 0 where
  pub objects : new.objects ≡ old.objects
  pub names : new.names ≡ old.names
  pub pieces : old.pieces ≤ new.pieces
  pub fields : old.fields ≤ new.fields
  pub bytes : old.bytes ≤ new.bytes

-- so it is where faults end the link
abbrev pub EndsReadingNothing : (old new : Counts) → PassEnd → Type 0
EndsReadingNothing old new (Faulty o) = ReadsNothing old new
EndsReadingNothing old new (NoMemory _) = ⊤
