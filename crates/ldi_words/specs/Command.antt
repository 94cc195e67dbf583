-- The command lines of `ldi` as `clap` sees them: one rule for each argument, and the command with its two subcommands.
use Rattle.std.specs.Prelude.{◌≡◌, ◌∷◌, [], List, Some, true, false, codes}
use Rattle.std.specs.Borrow.{Bor}
use Rattle.clap.specs.Words.{App, Rule, Text, app_of, new_app, new_rule, with_rule}
use Rattle.clap.specs.Words.{with_subcommand}
use Rattle.clap.specs.Walk.{texts}
use Rattle.clap.specs.declared.builder.action.ArgAction.TheVariants.{Append, SetTrue}
use Rattle.clap.specs.declared.builder.command.Command.{Command}
use Rattle.clap.specs.declared.builder.command.Command.TheViews.{out-Command}
use Rattle.clap.specs.declared.builder.value_parser.ValueParser.TheVariants.{Names}

-- a reference to the values of `--orphan-handling`, which `clap`'s parser holds
abbrev pub Choices : Type 0
Choices = Bor (List (Bor Text))

-- the values are `error` and `discard`
abbrev pub ListsOrphans : Choices → Type 0
ListsOrphans choices = texts choices.now ≡ codes "error" ∷ codes "discard" ∷ []

-- --gc-sections, a flag
abbrev pub gc_rule : Rule
gc_rule = record (new_rule (codes "gc-sections")) {
  long = Some (codes "gc-sections");
  action = Some SetTrue;
}

-- -e SYMBOL
abbrev pub entry_rule : Rule
entry_rule = record (new_rule (codes "entry")) { short = Some 101; value_names = 1 }

-- --orphan-handling HANDLING, by default `error`
abbrev pub orphans_rule : Choices → Rule
orphans_rule choices = record (new_rule (codes "orphan-handling")) {
  long = Some (codes "orphan-handling");
  value_names = 1;
  defaults = codes "error" ∷ [];
  parser = Some (Names choices);
}

-- -T SCRIPT, required
abbrev pub script_rule : Rule
script_rule = record (new_rule (codes "script")) {
  short = Some 84;
  value_names = 1;
  required = true;
}

-- -o IMAGE, required
abbrev pub image_rule : Rule
image_rule = record (new_rule (codes "image")) {
  short = Some 111;
  value_names = 1;
  required = true;
}

-- --Map MAP
abbrev pub map_rule : Rule
map_rule = record (new_rule (codes "map")) { long = Some (codes "Map"); value_names = 1 }

-- the objects, any number of them
abbrev pub objects_rule : Rule
objects_rule = record (new_rule (codes "objects")) { action = Some Append; value_names = 1 }

-- --deferred, a flag
abbrev pub deferred_rule : Rule
deferred_rule = record (new_rule (codes "deferred")) {
  long = Some (codes "deferred");
  action = Some SetTrue;
}

-- a subcommand with the options that both take
abbrev pub with_options : Choices → App → App
with_options choices a =
    with_rule (with_rule (with_rule a gc_rule) entry_rule) (orphans_rule choices)

abbrev pub session_app : Choices → App
session_app choices = with_rule (with_options choices (new_app (codes "session"))) deferred_rule

abbrev pub link_app : Choices → App
link_app choices = with_rule
    (with_options choices
    (with_rule (with_rule (with_rule (new_app (codes "link")) script_rule) image_rule) map_rule))
    objects_rule

-- `ldi` has a version, must be given a subcommand, and has no subcommand `help`
abbrev pub top_app : App
top_app = record (new_app (codes "ldi")) {
  top = record (new_app (codes "ldi")).top {
    has_version = true;
    disable_help_subcommand = true;
    subcommand_required = true;
  };
}

abbrev pub ldi : Choices → App
ldi choices = with_subcommand (with_subcommand top_app (session_app choices).top)
    (link_app choices).top

-- the command is this one, and none of its arguments is global
pub record IsApp (a : App) (command : Command) : Type 0 where
  pub app : app_of command ≡ a
  pub local : (out-Command command).has_globals ≡ false
