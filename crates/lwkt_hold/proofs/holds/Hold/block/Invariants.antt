use Rattle.std.proofs.Common.{◌≡◌, ◌-◌, ◌*◌, take}
use Rattle.lwkt_base.specs.Holding.{holding_of}
use Rattle.lwkt_bank.specs.Seats.{holding}
use Rattle.lwkt_hold.specs.Fronts.{IsFront}
use Rattle.lwkt_hold.specs.Runs.{Ran}
use Rattle.lwkt_hold.specs.Rows.{GivenUp, IsFirstSoFar}
use Rattle.lwkt_hold.proofs.EventMoves.{GivesSoFar}
use Rattle.lwkt_hold.proofs.holds.Hold.block.Given as goal

abbrev pub invariant-loop-given : goal.invariant-loop-given
invariant-loop-given l = record {
  ran : Ran (IsFront (take l.held l.refs)) (6 * l.given) l.initial.self.seat l.self.seat l.initial.trace l.trace;
  front : holding l.self.seat ≡ holding_of (take (l.held - l.given) l.refs);
  rows : GivenUp l.initial.self.seat l.self.seat;
  traced : GivesSoFar l.initial.self.seat l.refs l.held (l.held - l.given) l.initial.trace.items l.trace.items;
  first : IsFirstSoFar l.initial.self.seat l.refs l.self.seat l.first;
}
