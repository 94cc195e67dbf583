use Rattle.elfobj.proofs.Common.{All, IsSectionBelow, IsSymbolOfProfile, NamedSymbol, ObjectData, e_shnum, length}
use Rattle.elfobj.proofs.Common.{subst, ◌<◌}
use Rattle.elfobj.proofs.SymbolLimits.{few_symbols, symbol_limits_of, symbol_sections_of}
use Rattle.elfobj.proofs.object.Object.symbols.Goals as goal

pub returns-clause-limits : goal.returns-clause-limits
returns-clause-limits c = subst (λ (o : ObjectData). All IsSymbolOfProfile o.symbols) c.self.view_is
    (symbol_limits_of c.self.inside.bytes.items c.self.invariant.refusal)

pub returns-clause-few : goal.returns-clause-few
returns-clause-few c = subst (λ (o : ObjectData). length o.symbols < 4294967296) c.self.view_is
    (few_symbols c.self.inside.bytes.items c.self.invariant.refusal)

pub returns-clause-sections : goal.returns-clause-sections
returns-clause-sections c = subst
    (λ (o : ObjectData). All (λ (s : NamedSymbol). IsSectionBelow (e_shnum o.text) s.symbol.place) o.symbols)
    c.self.view_is (symbol_sections_of c.self.inside.bytes.items c.self.invariant.refusal)
