use Rattle.emit_relocate.proofs.Common.{AreChanged, EndBelow, GoodLink, IsLinkView, KnownLink, no_results, results_of}
use Rattle.emit_relocate.proofs.Common.{sections_in, take}
use Rattle.emit_relocate.specs.SymbolValues.{HasSymbolValues}
use Rattle.emit_relocate.proofs.changed_fields.changed_fields.Given as goal

abbrev pub invariant-loop-place : goal.invariant-loop-place
invariant-loop-place g l =
    (old : GoodLink) (k : KnownLink) → IsLinkView k l.link → g.E.PreviousLinkInfo.knows l.previous old k
    → HasSymbolValues k l.symbols → EndBelow k
    → AreChanged old k (g.E.PreviousLinkInfo.range l.previous) (sections_in (take l.place k.project.objects))
    (no_results l.initial.meter) (results_of l.fields l.meter)
