use Rattle.emit_relocate.proofs.Common.{IsLinkView, KnownLink, vec_capacity, vec_len, ◌≡◌, ◌≤◌}
use Rattle.emit_relocate.specs.NameRows.{AreResolvedBelow, AreValuesBelow}
use Rattle.emit_relocate.proofs.name_rows.name_rows.Given as goal

-- the names below this key, and room for all
abbrev pub invariant-loop-key : goal.invariant-loop-key
invariant-loop-key l = record {
  rows_long : vec_len l.rows ≡ l.key;
  rows_room : l.limit ≤ vec_capacity l.rows;
  values_long : vec_len l.values ≡ l.key;
  values_room : l.limit ≤ vec_capacity l.values;
  rows : (k : KnownLink) → IsLinkView k l.link → AreResolvedBelow k l.key l.rows.items;
  values : (k : KnownLink) → IsLinkView k l.link → AreValuesBelow k l.key l.values.items;
}
