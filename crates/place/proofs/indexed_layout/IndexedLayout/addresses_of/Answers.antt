use Rattle.place.proofs.Common.{IsSectionAddress, arith, subst, sym, table_key}
use Rattle.place.proofs.ObjectAddresses.{in_range, out_of_range}
use Rattle.place.proofs.indexed_layout.IndexedLayout.addresses_of.Goals as goal

pub returns-in-Some-clause-are : goal.returns-in-Some-clause-are
returns-in-Some-clause-are c = λ number.
    in_range c.args.self.now c.args.object number c.numbers_of-numbers.result.start c.min-end.result
    c.deref.result.now c.in-Some.addresses.now c.deref.ensures.value c.numbers_of-numbers.ensures.start
    (omega (arith, c.min-end.ensures, c.numbers_of-numbers.ensures.end, c.len.ensures))
    c.in-Some.ensures.lookup.0.2 c.in-Some.ensures.lookup.0.3

pub returns-in-Some-clause-places : goal.returns-in-Some-clause-places
returns-in-Some-clause-places c = λ p s number h.
    subst (IsSectionAddress p s (table_key c.args.object number)) (sym (returns-in-Some-clause-are c number))
    (h.places (table_key c.args.object number))

pub returns-in-None-clause-are : goal.returns-in-None-clause-are
returns-in-None-clause-are c = λ number.
    out_of_range c.args.self.now c.args.object number c.numbers_of-numbers.result.start c.min-end.result
    c.deref.result.now c.deref.ensures.value c.numbers_of-numbers.ensures.start
    (omega (arith, c.min-end.ensures, c.numbers_of-numbers.ensures.end, c.len.ensures))
    c.in-None.ensures.lookup.0

pub returns-in-None-clause-places : goal.returns-in-None-clause-places
returns-in-None-clause-places c = λ p s number h.
    subst (IsSectionAddress p s (table_key c.args.object number)) (sym (returns-in-None-clause-are c number))
    (h.places (table_key c.args.object number))
