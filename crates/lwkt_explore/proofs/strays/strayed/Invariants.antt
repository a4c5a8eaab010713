use Rattle.std.proofs.Common.{◌≡◌, ◌<◌, ◌≤◌, All, length}
use Rattle.lwkt_plain.specs.Stores.{kept, IsStore}
use Rattle.lwkt_explore.proofs.strays.strayed.Given as goal

abbrev pub invariant-loop-turn : goal.invariant-loop-turn
invariant-loop-turn l = record {
  store : IsStore l.store;
  there : l.at < length (kept l.store);
  cpus : l.cpus ≡ l.script.cpus;
  order : All (λ cpu. cpu < l.script.cpus) l.order.items;
  short : length l.order.items ≤ l.turn;
}
