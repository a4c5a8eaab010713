use Rattle.std.proofs.Common.{◌≡◌, ℕ, ◌<◌, length, IsTrue}
use Rattle.lwkt_plain.specs.Endings.{are_over, threads_at}
use Rattle.lwkt_plain.specs.Openings.{threads_of}
use Rattle.lwkt_plain.specs.Stores.{state_of}
use Rattle.lwkt_plain.proofs.stores.Store.has_ended.Given as goal

abbrev pub invariant-loop-c : goal.invariant-loop-c
invariant-loop-c l = record {
  end : l.c-end ≡ length l.self.cpus.numbers.items;
  over : (c : ℕ) → c < l.c → IsTrue (are_over (threads_of l.script c) (threads_at (state_of l.self l.at) c));
}
