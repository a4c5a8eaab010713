use Rattle.std.proofs.Common.{◌≡◌, take}
use Rattle.lwkt_bank.specs.Seats.{id_of}
use Rattle.lwkt_seats.specs.Lists.{refs_of, IsList}
use Rattle.lwkt_seats.proofs.references.list_of.Given as goal

abbrev pub invariant-loop-at : goal.invariant-loop-at
invariant-loop-at l = record {
  listed : l.list ≡ refs_of (take l.at l.refs);
  is_list : IsList (id_of l.bank) (take l.at l.refs);
}
