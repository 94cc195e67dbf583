use Rattle.ldscript_tokens.proofs.Common.{All, All-map, All-more, HasShortSpelling, refl, subst, take_all, token_of}
use Rattle.ldscript_tokens.proofs.Spellings.{all_map_at, nothing}
use Rattle.ldscript_tokens.proofs.limits.have_short_spellings.Goals as goal

pub returns-then-not-has_short_spelling : goal.returns-then-not-has_short_spelling
returns-then-not-has_short_spelling c =
    let h = rw (c.bytes.ensures, c.if-not-has_short_spelling.true) at c.has_short_spelling.ensures in (
      λ f. absurd (cc),
      λ all. h.1 (all_map_at HasShortSpelling
          (token_of c.args.text.now) c.args.tokens.now c.loop-token.token-index nothing c.loop-token-test.true all),
    )

pub loop-token-preserved : goal.loop-token-preserved
loop-token-preserved c =
    let h = rw (c.bytes.ensures, c.if-not-has_short_spelling.false) at c.has_short_spelling.ensures in
    All-more (λ t. HasShortSpelling (token_of c.args.text.now t)) c.args.tokens.now c.loop-token.token-index nothing
    c.loop-token-test.true c.loop-token.invariant (h.0 refl)

pub returns : goal.returns
returns c = (
  λ _. All-map HasShortSpelling (token_of c.args.text.now) c.args.tokens.now
      (subst (λ ts. All (λ t. HasShortSpelling (token_of c.args.text.now t)) ts)
      (take_all c.loop-token.token-index c.args.tokens.now c.loop-token-test.false) c.loop-token.invariant),
  λ _. refl,
)
