use Rattle.std.proofs.Common.{◌≡◌, ◌≤◌}
use Rattle.lwkt_refusals.specs.Sayings.{SaysMore}
use Rattle.lwkt.proofs.folders.tried_all.Given as goal

-- as long as none failed, nothing is written
abbrev pub invariant-loop-file : goal.invariant-loop-file
invariant-loop-file g l = record {
  within : l.failed ≤ l.file-index;
  quiet : l.failed ≡ 0 → l.sink ≡ l.fn.sink;
  more : SaysMore l.fn.sink.failed l.sink.failed (g.O.Write.contents l.fn.sink.writer.writer) (g.O.Write.contents l.sink.writer.writer);
}
