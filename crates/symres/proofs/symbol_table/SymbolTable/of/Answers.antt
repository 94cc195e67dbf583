use Rattle.symres.proofs.Common.{AreDecisionsOf, AreKeysDistinct, KeyedObject, List, Statement, ap, keys_of, map}
use Rattle.symres.proofs.Common.{shown_inputs, subst, sym, symbol_tables, ◌∙◌, ◌≡◌}
use Rattle.symres_decisions.specs.Keyed.{tables_of}
use Rattle.symres.specs.Entered as entered
use Rattle.symres.proofs.Entering.{Table, keys_are, places_distinct, seconds}
use Rattle.symres.proofs.symbol_table.SymbolTable.of.Goals as goal

pub of-requires : goal.of-requires
of-requires c =
    subst AreKeysDistinct (sym c.deref-2.ensures.value)
    (places_distinct c.args.inputs.now c.in_ok-objects.objects.items c.in_ok-keys.keys.items
    c.in_ok-objects.ensures.tables
    (c.in_ok-keys.ensures ∙ ap (map (λ (x : KeyedObject). x.key.0)) c.deref.ensures.value))

pub invariant_of-symbol_table : goal.invariant_of-symbol_table
invariant_of-symbol_table c =
    ap keys_of c.in_ok-decisions.ensures.objects
    ∙ ap (λ (xs : List KeyedObject). keys_of (tables_of xs)) c.deref-3.ensures.value
    ∙ keys_are c.args.inputs.now c.in_ok-objects.objects.items c.in_ok-keys.keys.items
    (c.in_ok-keys.ensures ∙ ap (map (λ (x : KeyedObject). x.key.0)) c.deref.ensures.value)
    ∙ sym (c.index.ensures ∙ c.in_ok-order.ensures ∙ c.deref-2.ensures.value)

pub returns-clause-symbol_table : goal.returns-clause-symbol_table
returns-clause-symbol_table c =
    λ p objects same.
    let d = c.in_ok-decisions.decisions in
    let tables : d.names.objects ≡ entered.tables_of c.args.inputs.now =
    c.in_ok-decisions.ensures.objects ∙ ap tables_of c.deref-3.ensures.value ∙ c.in_ok-objects.ensures.tables in
    c.names_kept.ensures p (subst (λ (st : List Statement). AreDecisionsOf st d)
    (sym same) c.in_ok-decisions.ensures.kept)
    (ap symbol_tables objects ∙ sym (seconds 0 (symbol_tables (shown_inputs c.args.inputs.now)))
    ∙ sym (ap (map (λ (t : Table). t.1)) tables))
