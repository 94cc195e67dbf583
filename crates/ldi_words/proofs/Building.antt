-- What a command is after one more argument, or one more subcommand.
use Rattle.ldi_words.proofs.Common.{App, IsApp, ap, ap₂, false, ◌||◌, ◌∙◌, ◌≡◌}
use Rattle.clap.specs.Words.{AddsArg, AddsSubcommand, Rule, rule_of, with_rule, with_subcommand}
use Rattle.clap.specs.declared.builder.arg.Arg.{Arg}
use Rattle.clap.specs.declared.builder.command.Command.{Command}

pub with_arg : (a : App) (r : Rule) (old new : Command) (x : Arg) → IsApp a old → rule_of x ≡ r → x.global ≡ false
    → AddsArg old x new → IsApp (with_rule a r) new
with_arg a r old new x before rule local adds = record {
  app = adds.shape local ∙ ap₂ with_rule before.app rule;
  local = adds.globals ∙ ap₂ (λ p q. p || q) before.local local;
}

pub with_sub : (a b : App) (old sub new : Command) → IsApp a old → IsApp b sub → AddsSubcommand old sub new
    → IsApp (with_subcommand a b.top) new
with_sub a b old sub new before below adds = record {
  app = adds.shape below.local ∙ ap₂ with_subcommand before.app (ap (λ (x : App). x.top) below.app);
  local = adds.globals ∙ ap₂ (λ p q. p || q) before.local below.local;
}
