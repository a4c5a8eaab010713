use Rattle.std.proofs.Common.{◌≡◌, ◌≤◌, ◌<◌, vec_len}
use Rattle.std.specs.Io.KnownBytes.{Consumes}
use Rattle.lwkt_report.proofs.sources.read_up_to.Given as goal

-- the bytes so far are those that the source lost, and each turn brought one at least
abbrev pub invariant-loop-turn : goal.invariant-loop-turn
invariant-loop-turn g l = record {
  taken : Consumes (g.S.Source.left l.initial.source) (g.S.Source.left l.source) l.bytes.items;
  grown : l._turn ≤ vec_len l.bytes;
  below : vec_len l.bytes < l.most;
  unfailed : g.S.Source.has_failed l.source ≡ g.S.Source.has_failed l.initial.source;
}
