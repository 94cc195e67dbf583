use Rattle.relink.proofs.Common.{IsNowhereButAt, origin_of, subst}
use Rattle.relink.proofs.OriginsFollow.{none_of, of_one}
use Rattle.relink.proofs.previous.PreviousLink.is_new.Goals as goal

pub returns : goal.returns
returns c = λ ok old same since.
    none_of old c.args.self.now.names.names c.args.named.now c.place_of_other-place.result same
    (subst (λ n. IsNowhereButAt c.args.self.now.names.names n c.place_of_other-place.result) c.name.ensures
    (c.is_nowhere_but_at.ensures ok))
    (of_one old (origin_of c.args.self.now.origins.items) c.args.project.now.contents.entries c.args.named.now
    c.place_of_other-place.result c.place_of_other-place.ensures since)
