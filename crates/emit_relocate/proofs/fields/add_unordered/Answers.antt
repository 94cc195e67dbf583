use Rattle.emit_relocate.proofs.Common.{ap, length, sym, ◌++◌}
use Rattle.emit_relocate.proofs.Added.{added}
use Rattle.emit_relocate.proofs.Runs.{whole_own}
use Rattle.emit_relocate.proofs.fields.add_unordered.Goals as goal

pub in_order-requires : goal.in_order-requires
in_order-requires c =
    (whole_own c.args.section.now.relocations.now (length c.args.section.now.relocations.now) _ _
    c.new-own.ensures.items c.in_ok-add_sites.ensures.fields).apart c.requires.apart

pub returns : goal.returns
returns c =
    λ l o x h.
    let of = whole_own c.args.section.now.relocations.now (length c.args.section.now.relocations.now) _ _
    c.new-own.ensures.items c.in_ok-add_sites.ensures.fields in
    added l c.args.section.now o x h c.args.fields.now.items _ c.new-own.result.items c.add_sites.new.fields.items
    c.add_sites.new.fields.items _ _ _ _ _
    (c.in_ok-add_sites.ensures.tried l o x h)
    (sym (ap (λ xs. xs ++ c.add_sites.new.fields.items) c.new-own.ensures.items)) of
    c.in_ok-own.ensures.same c.in_ok-own.ensures.order c.in_ok-append.ensures.items
