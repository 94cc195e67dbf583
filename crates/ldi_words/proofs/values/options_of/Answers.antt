use Rattle.ldi_words.proofs.Common.{HasOptions, NamesOrphans, codes, first_value-rows, found_of, one_text-rows, rows_of}
use Rattle.ldi_words.proofs.Common.{subst, sym, ◌∙◌}
use Rattle.ldi_words.proofs.Flag.{flag_says}
use Rattle.ldi_words.proofs.values.options_of.Goals as goal

pub orphans_of-requires : goal.orphans_of-requires
orphans_of-requires c =
    subst NamesOrphans (sym (first_value-rows (found_of c.args.matches.now) (codes "orphan-handling")))
    c.requires.orphans

pub returns : goal.returns
returns c =
    let found = found_of c.args.matches.now in
    let read = one_text-rows found (codes "gc-sections") in
    subst (HasOptions (rows_of found)) (sym c.new.ensures) (record {
      gc = flag_says _ _ c.requires.gc (λ e. c.get_flag-gc.ensures.value (read ∙ e))
          (λ e. c.get_flag-gc.ensures.other (read ∙ e));
      entry = c.in_ok-entry.ensures ∙ first_value-rows found (codes "entry");
      orphans = sym (first_value-rows found (codes "orphan-handling")) ∙ c.orphans_of.ensures;
    })
