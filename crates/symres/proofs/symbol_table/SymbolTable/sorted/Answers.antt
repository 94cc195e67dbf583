use Rattle.symres.proofs.Common.{AreInOrder, AreSorted, Global, IfOk-weaker, NamedKey, Vec, map, named_number, state_of}
use Rattle.symres.proofs.Sorting.{are_sorted, declared_key}
use Rattle.symres.proofs.symbol_table.SymbolTable.sorted.Goals as goal

pub returns : goal.returns
returns c =
    let d = c.self.inside.decisions in
    let order = c.self.inside.order in
    rw (← c.self.view_is)
    (IfOk-weaker c.in_byte_order.result (λ (x : Vec NamedKey Global). AreInOrder d.names.order
    (map named_number x.items))
    (λ (x : Vec NamedKey Global). AreSorted (state_of d order) x.items)
    (λ x e.
    are_sorted (state_of d order) d.names.order x.items
    (λ p name.
    declared_key p d order name c.names_of_objects.ensures.all (c.known-count.ensures.declared name))
    c.known-count.ensures.listing e.same e.up)
    c.in_byte_order.ensures)
