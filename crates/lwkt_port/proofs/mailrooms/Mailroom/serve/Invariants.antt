use Rattle.std.proofs.Common.{◌≡◌, false}
use Rattle.lwkt_port.specs.Hints.{OwesNone}
use Rattle.lwkt_port.proofs.Serving.{IsServing}
use Rattle.lwkt_port.proofs.mailrooms.Mailroom.serve.Given as goal

abbrev pub invariant-loop-turn : goal.invariant-loop-turn
invariant-loop-turn l = record {
  serving : IsServing l.thread l._turn l.initial.self l.initial.trace l.initial.port l.self l.trace l.port;
  hint : l.owing ≡ false → OwesNone l.self.mails.items;
}
