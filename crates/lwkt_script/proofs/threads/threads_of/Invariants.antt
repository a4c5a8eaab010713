use Rattle.std.proofs.Common.{◌≡◌, [], drop, All}
use Rattle.serde_json.specs.View.{items_view}
use Rattle.lwkt_script.specs.Outcome.{each}
use Rattle.lwkt_script.specs.Format.{thread}
use Rattle.lwkt_script.specs.Limits.{IsThread}
use Rattle.lwkt_script.proofs.ThreadCounts.{AreFew}
use Rattle.lwkt_script.proofs.threads.threads_of.Given as goal

abbrev pub invariant-loop-item : goal.invariant-loop-item
invariant-loop-item l =
    (each (thread l.version l.cpus) l.threads.items (items_view (drop l.item-index l.items)) ≡ each (thread l.version l.cpus) [] (items_view l.items)) × AreFew l.cpus l.threads.items × All (IsThread l.cpus) l.threads.items
