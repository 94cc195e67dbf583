use Rattle.ldmodel_project.proofs.Common.{NamedObject, Some, get, may_have, true, ℕ, ◌<◌, ◌≡◌}
use Rattle.ldmodel_project.proofs.keyed_objects.tagged.more_tags.Given as goal

-- the names under the keys so far are noted
abbrev pub invariant-loop-key : goal.invariant-loop-key
invariant-loop-key l =
    (k : ℕ) (o : NamedObject) → k < l.key → get l.objects k ≡ Some o → may_have l.tags o.name ≡ true
