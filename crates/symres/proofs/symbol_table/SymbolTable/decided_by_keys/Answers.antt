use Rattle.symres.proofs.Common.{AreKeysDistinct, keys_of, place_or_0, refl, subst, sym}
use Rattle.symres.proofs.symbol_table.SymbolTable.decided_by_keys.Goals as goal

pub returns : goal.returns
returns c =
    let tables = c.self.inside.decisions.names.objects in
    let distinct : AreKeysDistinct (keys_of tables) =
    subst AreKeysDistinct (sym c.self.invariant) c.keys-keys.ensures.distinct in
    rw (← c.self.view_is)
    (λ p name same.
    c.decision_by_keys.ensures (place_or_0 (keys_of tables)) p tables name
    (c.tables_by_place.ensures (keys_of tables) p.objects tables distinct refl (sym same)))
