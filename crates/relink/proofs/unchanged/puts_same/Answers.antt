use Rattle.relink.proofs.Common.{None, Some, objects_of, sym}
use Rattle.relink.proofs.Putting.{puts_other, staged_by_name}
use Rattle.relink.proofs.OriginsFollow.{puts_nothing}
use Rattle.relink.proofs.unchanged.puts_same.Goals as goal

pub returns-in_default-clause-other : goal.returns-in_default-clause-other
returns-in_default-clause-other c = λ no.
    puts_nothing (objects_of c.args.project.now.contents.entries) c.args.staged.now.objects.step
    c.in_default.ensures.none

pub returns-in_default-clause-named : goal.returns-in_default-clause-named
returns-in_default-clause-named c =
    staged_by_name c.args.project.now c.args.staged.now c.next-next.result c.keys-keys.result.now
    c.next-next.ensures.next c.next-next.ensures.found c.keys-keys.ensures.value c.keys-keys.ensures.distinct
    c.requires.fits

pub returns-in_default-named-clause-other : goal.returns-in_default-named-clause-other
returns-in_default-named-clause-other c = λ no.
    puts_other c.args.project.now.contents.entries c.args.staged.now.objects.step c.in-Some.key.0 c.in-Some.named.now
    None c.in-Some.ensures.some (sym c.in_default-named.ensures) tt
    (staged_by_name c.args.project.now c.args.staged.now c.next-next.result c.keys-keys.result.now
    c.next-next.ensures.next c.next-next.ensures.found c.keys-keys.ensures.value c.keys-keys.ensures.distinct
    c.requires.fits)

pub returns-in_default-named-clause-named : goal.returns-in_default-named-clause-named
returns-in_default-named-clause-named c =
    staged_by_name c.args.project.now c.args.staged.now c.next-next.result c.keys-keys.result.now
    c.next-next.ensures.next c.next-next.ensures.found c.keys-keys.ensures.value c.keys-keys.ensures.distinct
    c.requires.fits

pub returns-clause-other : goal.returns-clause-other
returns-clause-other c = λ no.
    puts_other c.args.project.now.contents.entries c.args.staged.now.objects.step c.in-Some.key.0 c.in-Some.named.now
    (Some c.in-Some-named.old.now) c.in-Some.ensures.some (sym c.in-Some-named.ensures) (c.are_same.ensures.other no)
    (staged_by_name c.args.project.now c.args.staged.now c.next-next.result c.keys-keys.result.now
    c.next-next.ensures.next c.next-next.ensures.found c.keys-keys.ensures.value c.keys-keys.ensures.distinct
    c.requires.fits)

pub returns-clause-named : goal.returns-clause-named
returns-clause-named c =
    staged_by_name c.args.project.now c.args.staged.now c.next-next.result c.keys-keys.result.now
    c.next-next.ensures.next c.next-next.ensures.found c.keys-keys.ensures.value c.keys-keys.ensures.distinct
    c.requires.fits
