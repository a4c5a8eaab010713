use Rattle.std.proofs.Common.{◌≡◌, take}
use Rattle.lwkt_base.specs.Holding.{holding_of}
use Rattle.lwkt_bank.specs.Seats.{holding, references}
use Rattle.lwkt_seats.specs.Lists.{DoneInTurn, TakesOne, HoldsClean}
use Rattle.lwkt_seats.specs.Brief.{KeepsBankAndCpu}
use Rattle.lwkt_seats.proofs.resumes.take_each.Given as goal

abbrev pub invariant-loop-at : goal.invariant-loop-at
invariant-loop-at l = record {
  chain : DoneInTurn (TakesOne l.refs) (take l.at l.refs) l.initial.seat l.seat;
  front : holding l.seat ≡ holding_of (take l.at l.refs);
  counted : references l.seat ≡ l.at;
  clean : HoldsClean l.seat;
  same : KeepsBankAndCpu l.initial.seat l.seat;
}
