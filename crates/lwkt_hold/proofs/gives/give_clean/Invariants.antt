use Rattle.std.proofs.Common.{◌≡◌, ◌-◌, [], ◌++◌, take}
use Rattle.lwkt_base.specs.Holding.{holding_of}
use Rattle.lwkt_bank.specs.Seats.{holding}
use Rattle.lwkt_hold.specs.Fronts.{IsFront}
use Rattle.lwkt_hold.specs.Runs.{Ran}
use Rattle.lwkt_hold.specs.Rows.{IsAllClean}
use Rattle.lwkt_hold.specs.Givings.{gives_all}
use Rattle.lwkt_hold.proofs.gives.give_clean.Given as goal

abbrev pub invariant-loop-given : goal.invariant-loop-given
invariant-loop-given l = record {
  ran : Ran (IsFront l.refs) l.given l.initial.seat l.seat l.initial.trace l.trace;
  front : holding l.seat ≡ holding_of (take (l.count - l.given) l.refs);
  clean : IsAllClean l.seat;
  traced : l.trace.items ++ gives_all l.initial.seat.cpu [] (take (l.count - l.given) l.refs) ≡ l.initial.trace.items ++ gives_all l.initial.seat.cpu [] (take l.count l.refs);
}
