use Rattle.std.proofs.Common.{◌≡◌, [], ◌++◌, take}
use Rattle.lwkt_base.specs.Holding.{holding_of}
use Rattle.lwkt_bank.specs.Seats.{holding}
use Rattle.lwkt_hold.specs.Fronts.{IsFront}
use Rattle.lwkt_hold.specs.Runs.{Ran}
use Rattle.lwkt_hold.specs.Rows.{IsAllClean}
use Rattle.lwkt_core.specs.Takings.{takes_all}
use Rattle.lwkt_hold.proofs.holds.Hold.resume.Given as goal

abbrev pub invariant-loop-at : goal.invariant-loop-at
invariant-loop-at l = record {
  ran : Ran (IsFront l.refs) l.at l.initial.self.seat l.self.seat l.initial.trace l.trace;
  front : holding l.self.seat ≡ holding_of (take l.at l.refs);
  clean : IsAllClean l.self.seat;
  traced : l.trace.items ≡ l.initial.trace.items ++ takes_all l.initial.self.seat.cpu [] (take l.at l.refs);
}
