use Rattle.place.proofs.Common.{IsSectionAddress, subst, sym}
use Rattle.place.proofs.indexed_layout.IndexedLayout.find.Goals as goal

pub returns : goal.returns
returns c = record {
  is = c.part.ensures;
  place = λ p s h. subst (IsSectionAddress p s c.args.section) (sym c.part.ensures) (h.places c.args.section);
}
