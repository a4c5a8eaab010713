use Rattle.std.proofs.Common.{◌≡◌, length}
use Rattle.lwkt_bank.specs.Seats.{id_of_desk}
use Rattle.lwkt_bank.specs.Gathered.{HasMade, AreHandedOut}
use Rattle.lwkt_bank.proofs.clerks.ClerkDesk.hand_out_all.Given as goal

abbrev pub invariant-loop-cpu : goal.invariant-loop-cpu
invariant-loop-cpu l = record {
  next : HasMade l.self l.cpu;
  same : id_of_desk l.self ≡ id_of_desk l.fn.self;
  key : l.self.key ≡ l.fn.self.key;
  many : length l.seats.items ≡ l.cpu;
  out : AreHandedOut (id_of_desk l.fn.self) l.seats.items;
}
