use Rattle.std.proofs.Common.{◌≡◌, ◌+◌, ◌≤◌, ℕ, take, length}
use Rattle.std.specs.Io.KnownBytes.{Appends}
use Rattle.lwkt_report.proofs.sinks.write_whole.Given as goal

-- the bytes that are done stand, and each turn did one at least
abbrev pub invariant-loop-turn : goal.invariant-loop-turn
invariant-loop-turn g l = record {
  stands : Appends (g.K.Sink.contents l.initial.sink) (g.K.Sink.contents l.sink) (take l.done l.bytes);
  grown : l._turn ≤ l.done;
  within : l.done ≤ length l.bytes;
  unfailed : g.K.Sink.has_failed l.sink ≡ g.K.Sink.has_failed l.initial.sink;
  room : (more : ℕ) → g.K.Sink.has_room l.initial.sink (l.done + more) → g.K.Sink.has_room l.sink more;
}
