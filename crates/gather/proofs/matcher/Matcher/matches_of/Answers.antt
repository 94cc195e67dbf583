use Rattle.gather.proofs.Common.{IfOk-weaker, ap, map, matches_by, ◌∙◌, ◌≡◌}
use Rattle.gather.specs.Matches.{matches_of, number_of}
use Rattle.gather.proofs.FirstTakers.{matches_by_tables}
use Rattle.gather.proofs.matcher.Matcher.matches_of.Goals as goal

pub returns : goal.returns
returns c =
    let file = c.args.file.now in
    let sections = c.args.object.now.sections in
    IfOk-weaker c.matches_by.result
    (λ found. map number_of found.items ≡ matches_by c.self.inside.words file sections)
    (λ found. map number_of found.items ≡ matches_of c.args.self.now file sections)
    (λ found h. h
    ∙ matches_by_tables c.self.inside.words c.self.inside.script.now c.self.invariant file sections
    ∙ ap (λ s. matches_of s file sections) c.self.view_is) c.matches_by.ensures
