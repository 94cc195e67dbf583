use Rattle.gather.proofs.Common.{first_match, subst, ◌∙◌, ◌≡◌}
use Rattle.gather.specs.Matches.{number_of}
use Rattle.gather.proofs.FirstTakers.{first_in_tables}
use Rattle.gather.proofs.matcher.Matcher.first_match.Goals as goal

pub returns : goal.returns
returns c =
    let file = c.args.file.now in
    let section = c.args.section.now in
    let by_words : number_of c.first_taker.result ≡ first_match c.self.inside.script.now file section =
    c.first_taker.ensures.taker
    ∙ first_in_tables file section c.self.inside.words c.self.inside.script.now c.self.invariant in
    subst (λ s. number_of c.first_taker.result ≡ first_match s file section) c.self.view_is by_words
