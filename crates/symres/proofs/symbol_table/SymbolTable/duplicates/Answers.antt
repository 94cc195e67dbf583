use Rattle.symres.proofs.Common.{AreFound, List, None, ObjectPlace, Option, [], ap, arith, declarations_of}
use Rattle.symres.proofs.Common.{duplicate_fault, faults_in, length, length-replicate, map, subst, sym, ◌∙◌}
use Rattle.ldmodel.specs.declared.fault.Fault.{Fault}
use Rattle.ldmodel.specs.declared.names.Entry.{Entry}
use Rattle.symres.proofs.Doubling.{is_table_at, none_found, object_more, objects_all}
use Rattle.symres.proofs.symbol_table.SymbolTable.duplicates.Goals as goal

pub returns-then-not-has_doubled : goal.returns-then-not-has_doubled
returns-then-not-has_doubled c =
    ap (faults_in c.args.project.now) c.new.ensures.items
    ∙ ap (map duplicate_fault) (sym (c.has_doubled.ensures c.if-not-has_doubled.true c.args.project.now c.requires))

pub loop-place-init : goal.loop-place-init
loop-place-init c = record {
  long = ap length c.in_ok-firsts.ensures ∙ (length-replicate c.limit.result nothing ∙ c.limit.ensures);
  found = subst (λ (fs : List Fault). AreFound c.args.project.now c.args.self.now.names (declarations_of [])
      c.in_ok-firsts.firsts.items fs) (sym c.new-faults.ensures.items)
      (none_found c.args.project.now c.args.self.now.names c.limit.result c.in_ok-firsts.firsts.items
      c.in_ok-firsts.ensures);
}
  where
    nothing : Option (Entry ObjectPlace)
    nothing = None

pub add_symbols-requires-clause-table : goal.add_symbols-requires-clause-table
add_symbols-requires-clause-table c =
    is_table_at c.args.project.now c.args.self.now c.inputs-input-items.result.now c.loop-place.place
    c.input-item.result c.requires c.inputs-input-items.ensures.same (omega (arith, c.loop-place-test.true))
    (sym c.input-item.is)

pub loop-place-preserved : goal.loop-place-preserved
loop-place-preserved c = record {
  long = c.add_symbols.ensures.long ∙ c.loop-place.invariant.long;
  found = object_more c.args.project.now c.args.self.now.names c.inputs-input-items.result.now c.loop-place.place
      c.input-item.result c.loop-place.firsts.items c.add_symbols.new.firsts.items c.loop-place.faults.items
      c.add_symbols.new.faults.items c.inputs-input-items.ensures.same (omega (arith, c.loop-place-test.true))
      (sym c.input-item.is)
      (λ ds. c.in_ok-add_symbols.ensures.found c.args.project.now ds c.requires (sym c.script.ensures))
      c.loop-place.invariant.found;
}

pub returns : goal.returns
returns c =
    objects_all c.args.project.now c.args.self.now.names c.inputs-input-items.result.now c.loop-place.place
    c.loop-place.firsts.items c.loop-place.faults.items c.inputs-input-items.ensures.same
    (omega (arith, c.loop-place-test.false)) c.loop-place.invariant.found
