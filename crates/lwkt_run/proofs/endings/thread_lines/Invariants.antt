use Rattle.std.proofs.Common.{◌≡◌, map}
use Rattle.std.specs.Prelude.{All}
use Rattle.lwkt_run.specs.Running.{IsLogOf, is_service}
use Rattle.lwkt_run.proofs.endings.thread_lines.Given as goal

abbrev pub invariant-loop-status : goal.invariant-loop-status
invariant-loop-status l = record {
  ids : map (λ line. line.id) l.lines.items ≡ map (λ s. s.id) l.yielded;
  states : map (λ line. line.state) l.lines.items ≡ map (λ s. s.state) l.yielded;
  lists : map (λ line. line.list) l.lines.items ≡ map (λ s. s.list) l.yielded;
  logs : All (IsLogOf l.machine) l.lines.items;
  services : All (λ line. line.service ≡ is_service l.script.threads line.id) l.lines.items;
}
