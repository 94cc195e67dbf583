use Rattle.elfobj.proofs.Common.{AreBelow, IsInside, length}
use Rattle.elfobj.proofs.FieldsBelow.{spans_sorted, told_sorted}
use Rattle.elfobj.proofs.relocation_table.is_any_overlap.Goals as goal

pub is_any_shared-requires-clause-within : goal.is_any_shared-requires-clause-within
is_any_shared-requires-clause-within c =
    spans_sorted (λ xs s. IsInside (length xs) s) _ _ _ _ _ _ c.deref-2.ensures.value c.deref.ensures.value
    c.deref-3.ensures.value c.in_ok-spans.ensures.same c.requires.within

pub is_any_shared-requires-clause-fields : goal.is_any_shared-requires-clause-fields
is_any_shared-requires-clause-fields c =
    spans_sorted (λ xs s. AreBelow xs s.start s.end c.args.size) _ _ _ _ _ _ c.deref-2.ensures.value
    c.deref.ensures.value c.deref-3.ensures.value c.in_ok-spans.ensures.same c.requires.fields

pub returns : goal.returns
returns c = told_sorted _ _ _ _ _ _ c.is_any_shared.result c.deref-2.ensures.value c.deref.ensures.value
    c.deref-3.ensures.value c.in_ok-spans.ensures.same c.is_any_shared.ensures
