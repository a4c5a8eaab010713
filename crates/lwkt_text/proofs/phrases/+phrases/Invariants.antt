use Rattle.std.proofs.Common.{◌+◌, ◌*◌}
use Rattle.lwkt_text.proofs.phrases.+phrases.Given as goal

abbrev pub decreases-phrase_from : goal.decreases-phrase_from
decreases-phrase_from l = 4 * l.n

abbrev pub decreases-phrase_behind : goal.decreases-phrase_behind
decreases-phrase_behind l = 4 * l.n + 1

abbrev pub decreases-bracketed : goal.decreases-bracketed
decreases-bracketed l = 4 * l.n + 1

abbrev pub decreases-negated : goal.decreases-negated
decreases-negated l = 4 * l.n + 1

abbrev pub decreases-phrase_begun : goal.decreases-phrase_begun
decreases-phrase_begun l = 4 * l.n + 2
