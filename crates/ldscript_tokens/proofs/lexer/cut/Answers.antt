use Rattle.ldscript_tokens.proofs.Common.{[], arith, rules, state_after, sym, token_of, ◌++◌, ◌+◌, ◌∷◌, ◌≡◌}
use Rattle.ldscript_tokens.proofs.Cut.{cut_to_end, cut_to_nothing, cut_to_blank, cut_to_found, still_shallow, behind}
use Rattle.ldscript_tokens.proofs.Cut.{line_ahead}
use Rattle.ldscript_tokens.proofs.lexer.cut.Goals as goal

pub returns-in-Finished-clause-cut : goal.returns-in-Finished-clause-cut
returns-in-Finished-clause-cut c = cut_to_end c.loop-tokens.invariant.cut (sym c.in-Finished.ensures.value)

pub returns-in-Unknown-clause-refused : goal.returns-in-Unknown-clause-refused
returns-in-Unknown-clause-refused c =
    (omega arith, cut_to_nothing c.loop-tokens.invariant.cut (sym c.in-Unknown.ensures.value))

pub loop-tokens-preserved-in-Space : goal.loop-tokens-preserved-in-Space
loop-tokens-preserved-in-Space c =
    let text = c.args.text.now in
    let at = c.loop-tokens.at in
    let n = c.in-Space.n in
    record {
      cut = cut_to_blank c.loop-tokens.invariant.cut (sym c.in-Space.ensures.value);
      within = search rules;
      many = search rules;
      places = c.loop-tokens.invariant.places;
      shallow = still_shallow at (at + n) c.loop-tokens.state (omega arith) c.loop-tokens.invariant.shallow;
      lines = rw (line_ahead text at n) (search rules);
      few = search rules;
    }

pub loop-tokens-preserved : goal.loop-tokens-preserved
loop-tokens-preserved c =
    let text = c.args.text.now in
    let at = c.loop-tokens.at in
    let n = c.in-Found.n in
    let t = c.in-Found.piece in
    let old = c.loop-tokens.tokens.items in
    let b = behind at c.loop-tokens.line t in
    let pushed : c.push.new.list.items ≡ old ++ b ∷ [] = rw
    (c.in_default.is, c.behind-token.ensures) at c.push.ensures.items in
    let after : c.after-state.result ≡ state_after c.loop-tokens.state (token_of text b) = rw
    (c.bytes.ensures, c.behind-token.ensures) at c.after-state.ensures.value in
    record {
      cut = rw (pushed, after, c.loop-tokens.invariant.lines)
          (cut_to_found text old c.loop-tokens.state at n t c.loop-tokens.invariant.cut (sym c.in-Found.ensures.value));
      within = search rules;
      many = search rules;
      places = rw pushed (search rules);
      shallow = c.after-state.ensures.shallow at (at + n) c.loop-tokens.invariant.shallow (search rules);
      lines = rw (line_ahead text at n) (search rules);
      few = search rules;
    }
