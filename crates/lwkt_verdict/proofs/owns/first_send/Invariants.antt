use Rattle.std.proofs.Common.{◌≡◌, ◌+◌, drop}
use Rattle.lwkt_verdict.specs.Owns.{first_send}
use Rattle.lwkt_verdict.proofs.owns.first_send.Given as goal

-- the first send is that of the events that are left
abbrev pub invariant-loop-place : goal.invariant-loop-place
invariant-loop-place l = first_send l.events ≡ l.place + first_send (drop l.place l.events)
