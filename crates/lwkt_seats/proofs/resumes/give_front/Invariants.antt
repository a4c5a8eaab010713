use Rattle.std.proofs.Common.{◌≡◌, ℕ, ◌-◌, List, take}
use Rattle.lwkt_base.specs.Holding.{holding_of}
use Rattle.lwkt_bank.specs.Seats.{holding}
use Rattle.lwkt_seats.specs.Lists.{DoneInTurn, GivesUnwritten, HoldsClean}
use Rattle.lwkt_seats.specs.Brief.{KeepsBankAndCpu}
use Rattle.lwkt_seats.proofs.resumes.give_front.Given as goal

abbrev pub invariant-loop-given : goal.invariant-loop-given
invariant-loop-given l = record {
  chain : (done : List ℕ) × DoneInTurn GivesUnwritten done l.initial.seat l.seat;
  front : holding l.seat ≡ holding_of (take (l.count - l.given) l.refs);
  clean : HoldsClean l.seat;
  same : KeepsBankAndCpu l.initial.seat l.seat;
}
