use Rattle.ldscript_tokens.proofs.Common.{arith, refl, ◌∙◌}
use Rattle.ldscript_tokens.proofs.Runs.{runs_all, runs_not, run_passed, run_over, runs_end}
use Rattle.ldscript_tokens.proofs.Spellings.{nothing}
use Rattle.ldscript_tokens.proofs.limits.have_short_runs.Goals as goal

pub returns-then-signs-gt-MAX_SIGNS : goal.returns-then-signs-gt-MAX_SIGNS
returns-then-signs-gt-MAX_SIGNS c =
    let mode = rw c.bytes-spelled.ensures at c.counted_mode-mode.ensures in
    let signs = rw c.bytes-spelled.ensures at c.signs_after-signs.ensures in
    let over = run_over c.args.text.now c.args.tokens.now c.loop-token.token-index c.loop-token.signs
    c.signs_after-signs.result c.loop-token.state c.counted_mode-mode.result nothing c.loop-token-test.true
    (mode, signs) c.if-signs-gt-MAX_SIGNS.true in
    (λ f. absurd (cc), λ h. absurd (runs_not _ (c.loop-token.invariant.runs ∙ over) h))

pub loop-token-preserved : goal.loop-token-preserved
loop-token-preserved c =
    let i = c.loop-token.token-index in
    let mode = rw c.bytes-spelled.ensures at c.counted_mode-mode.ensures in
    let signs = rw c.bytes-spelled.ensures at c.signs_after-signs.ensures in
    let next = rw c.bytes-spelled.ensures at c.after-state.ensures.value in
    record {
      runs = c.loop-token.invariant.runs
          ∙ run_passed c.args.text.now c.args.tokens.now i c.loop-token.signs c.signs_after-signs.result
          c.loop-token.state c.after-state.result c.counted_mode-mode.result nothing c.loop-token-test.true
          (mode, signs) next c.if-signs-gt-MAX_SIGNS.false;
      few = c.if-signs-gt-MAX_SIGNS.false;
      shallow = c.after-state.ensures.shallow i _ c.loop-token.invariant.shallow (omega arith);
    }

pub returns : goal.returns
returns c =
    let ends = runs_end c.args.text.now c.args.tokens.now c.loop-token.token-index c.loop-token.signs c.loop-token.state
    c.loop-token-test.false in
    (λ _. runs_all _ (c.loop-token.invariant.runs ∙ ends), λ _. refl)
