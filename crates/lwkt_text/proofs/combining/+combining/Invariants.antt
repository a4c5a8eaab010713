use Rattle.std.proofs.Common.{◌+◌, ◌*◌}
use Rattle.lwkt_text.proofs.combining.+combining.Given as goal

abbrev pub decreases-claim_from : goal.decreases-claim_from
decreases-claim_from l = 4 * l.n

abbrev pub decreases-claim_behind : goal.decreases-claim_behind
decreases-claim_behind l = 4 * l.n + 1

abbrev pub decreases-bracketed : goal.decreases-bracketed
decreases-bracketed l = 4 * l.n + 1

abbrev pub decreases-denied : goal.decreases-denied
decreases-denied l = 4 * l.n + 1

abbrev pub decreases-fact_begun : goal.decreases-fact_begun
decreases-fact_begun l = 4 * l.n + 1

abbrev pub decreases-claim_begun : goal.decreases-claim_begun
decreases-claim_begun l = 4 * l.n + 2
