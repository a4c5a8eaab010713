use Rattle.std.proofs.Common.{◌≡◌}
use Rattle.lwkt_msg.specs.Desks.{IsHanding}
use Rattle.lwkt_msg.specs.Plays.{IsSameSeat}
use Rattle.lwkt_msg.proofs.first_tables.hand_out.Given as goal

abbrev pub invariant-loop-m : goal.invariant-loop-m
invariant-loop-m l = IsSameSeat l.fn.place l.place × (l.place.me.0.cpus ≡ l.fn.place.me.0.cpus) × (l.place.me.0.specs ≡ l.fn.place.me.0.specs) × IsHanding l.cpu l.m l.place
