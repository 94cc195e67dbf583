-- The call that `clap` states for the words of a command line.
use Rattle.std.specs.Prelude.{◌≡◌, ◌↔◌, ◌⊎◌, List, Option, Some, None, IsSome, IsTrue, codes}
use Rattle.std.specs.Prelude.{map, option_map, unwrap_or, string_bytes, []}
use Rattle.clap.specs.Words.{App, Row, Text, all_of, first_of, one_of, subcommand_of}
use Rattle.clap.specs.Faults.{fault_of}
use Rattle.ldmodel.specs.Options.{LinkOptions}
use Rattle.ldmodel.specs.declared.options.Orphans.{Orphans}
use Rattle.ldmodel.specs.declared.options.Orphans.TheVariants.{Error, Discard}
use Rattle.ldi_words.specs.declared.call.Call.{Call}
use Rattle.ldi_words.specs.declared.call.Call.TheVariants.{Session, DeferredSession, Link}

-- the value of `--orphan-handling` that asks for this
abbrev pub word_of : Orphans → Text
word_of Error = codes "error"
word_of Discard = codes "discard"

-- the names of a link's files
pub record Files : Type 0 where
  pub script : Text
  pub image : Text
  pub map_file : Option Text
  pub objects : List Text

-- the options are those that `clap` states for a subcommand's arguments
pub record HasOptions (rows : List Row) (o : LinkOptions) : Type 0 where
  pub gc : IsTrue o.gc ↔ (one_of (codes "gc-sections") rows ≡ Some (codes "true"))
  pub entry : o.entry ≡ first_of (codes "entry") rows
  pub orphans : first_of (codes "orphan-handling") rows ≡ Some (word_of o.orphans)

-- the files are those that `clap` states for the arguments of `link`
pub record HasFiles (rows : List Row) (files : Files) : Type 0 where
  pub script : first_of (codes "script") rows ≡ Some files.script
  pub image : first_of (codes "image") rows ≡ Some files.image
  pub map_file : first_of (codes "map") rows ≡ files.map_file
  pub objects : unwrap_or (all_of (codes "objects") rows) [] ≡ files.objects

-- the call is the subcommand that `clap` states, with the values that it states
abbrev pub IsCallOf : Option (Text × List Row) → Call → Type 0
IsCallOf stated (Session options) =
    (rows : List Row) × (stated ≡ Some (codes "session", rows)) × HasOptions rows options
    × (one_of (codes "deferred") rows ≡ Some (codes "false"))
IsCallOf stated (DeferredSession options) =
    (rows : List Row) × (stated ≡ Some (codes "session", rows)) × HasOptions rows options
    × (one_of (codes "deferred") rows ≡ Some (codes "true"))
IsCallOf stated (Link script image map_file options objects) =
    (rows : List Row) × (stated ≡ Some (codes "link", rows)) × HasOptions rows options
    × HasFiles rows (record {
      script = string_bytes script;
      image = string_bytes image;
      map_file = option_map string_bytes map_file;
      objects = map string_bytes objects.items;
    })

-- the words have no fault, and the call is the one that `clap` states for them
abbrev pub IsCallAt : App → List Text → Call → Type 0
IsCallAt a words call = (fault_of a words ≡ []) × IsCallOf (subcommand_of a words) call

-- the value of `--orphan-handling` is one of the two
abbrev pub NamesOrphans : Option Text → Type 0
NamesOrphans word = (word ≡ Some (codes "error")) ⊎ (word ≡ Some (codes "discard"))

-- a flag is set or not
abbrev pub IsFlag : Option Text → Type 0
IsFlag word = (word ≡ Some (codes "true")) ⊎ (word ≡ Some (codes "false"))

-- the options that always have a value have one
pub record StatesOptions (rows : List Row) : Type 0 where
  pub gc : IsFlag (one_of (codes "gc-sections") rows)
  pub orphans : NamesOrphans (first_of (codes "orphan-handling") rows)

-- the files that a link must name are named
pub record StatesFiles (rows : List Row) : Type 0 where
  pub script : IsSome (first_of (codes "script") rows)
  pub image : IsSome (first_of (codes "image") rows)

-- one of the two subcommands, with all that it must be given
abbrev pub StatesCall : Option (Text × List Row) → Type 0
StatesCall None = ⊥
StatesCall (Some p) = StatesOptions p.1
    × (((p.0 ≡ codes "session") × IsFlag (one_of (codes "deferred") p.1)) ⊎ ((p.0 ≡ codes "link") × StatesFiles p.1))
