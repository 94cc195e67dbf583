use Rattle.std.specs.Prelude.{ℕ}
use Rattle.elfobj.specs.Counts.{Counts, capped}
use Rattle.elfobj.specs.declared.meter.Count.{Count}
use Rattle.elfobj.specs.declared.meter.Count.TheVariants.{Objects, Names, Pieces, Fields, Bytes}

abbrev pub raised : Counts → Count → ℕ → Counts
raised m Objects by = record m { objects = capped m.objects by }
raised m Names by = record m { names = capped m.names by }
raised m Pieces by = record m { pieces = capped m.pieces by }
raised m Fields by = record m { fields = capped m.fields by }
raised m Bytes by = record m { bytes = capped m.bytes by }
