use Rattle.ldi_stream.proofs.Common.{Consumes, HasNo, take, ◌≡◌, ◌≤◌}
use Rattle.ldi_stream.proofs.line.read_line.Given as goal

abbrev pub invariant-loop-at : goal.invariant-loop-at
invariant-loop-at g l = record {
  within : l.at ≤ 512;
  read : Consumes (g.R.Source.rest l.fn.source) (g.R.Source.rest l.source) (take l.at l.line);
  no_feed : HasNo 10 (take l.at l.line);
  counted : g.R.Source.failed l.source ≡ g.R.Source.failed l.fn.source;
}
