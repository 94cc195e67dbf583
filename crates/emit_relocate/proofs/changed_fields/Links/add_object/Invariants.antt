use Rattle.emit_relocate.proofs.Common.{AreChanged, AreLinks, GoodLink, KnownLink, NamedObject, Some, named_object}
use Rattle.emit_relocate.proofs.Common.{results_of, sections_of, take, ◌≡◌}
use Rattle.emit_relocate.proofs.changed_fields.Links.add_object.Given as goal

abbrev pub invariant-loop-index : goal.invariant-loop-index
invariant-loop-index g l =
    (old : GoodLink) (k : KnownLink) (o : NamedObject)
    → AreLinks g.E.PreviousLinkInfo.knows l.self old k
    → named_object k l.place ≡ Some o → o.object ≡ l.object
    → AreChanged old k (g.E.PreviousLinkInfo.range l.self.previous.now) (sections_of o (take l.index l.object.sections))
    (results_of l.initial.fields l.initial.meter) (results_of l.fields l.meter)
