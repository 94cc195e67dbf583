-- Options of a link (GNU ld manual, "Command-line Options": `--gc-sections`, `--entry`, `--orphan-handling`).
use Rattle.std.specs.Prelude.{ℕ, List, Bool, false, Option, None}
use Rattle.ldmodel.specs.declared.options.Orphans.{Orphans}
use Rattle.ldmodel.specs.declared.options.Orphans.TheVariants.{Error}

-- `gc`: whether sections that the program cannot reach are left out;
-- `entry`: the name of the symbol at which the program starts, in place of the one that ENTRY names;
-- `orphans`: what becomes of sections that no statement of the script takes
pub record LinkOptions : Type 0 where
  pub gc : Bool
  pub entry : Option (List ℕ)
  pub orphans : Orphans

-- the options of a link that is given none
abbrev pub default_options : LinkOptions
default_options = record { gc = false; entry = None; orphans = Error }
