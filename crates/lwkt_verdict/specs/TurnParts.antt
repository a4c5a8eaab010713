-- The part of a trace that one turn made (own).
use Rattle.std.specs.Prelude.{◌≡◌, ◌&&◌, Bool, true, false, not, List, [], ◌∷◌, take, drop, ◌⊎◌, Option, is_some}
use Rattle.lwkt_base.specs.declared.asks.Ask.{Ask}
use Rattle.lwkt_base.specs.declared.asks.Answer.{Answer}
use Rattle.lwkt_core.specs.declared.events.Event.{Event}
use Rattle.lwkt_core.specs.Machine.{Machine, Needs, after}
use Rattle.lwkt_verdict.specs.Asks.{makes_event, is_refused}
use Rattle.lwkt_verdict.specs.Owns.{IsQuiet, is_own, own_place}

-- what events leave of a machine, one after the other
abbrev pub after_all : Machine → List Event → Machine
after_all m [] = m
after_all m (e ∷ es) = after_all (after m e) es

-- the events can happen one after the other, and each may happen unasked
abbrev pub GoesQuietly : Machine → List Event → Type 0
GoesQuietly m [] = Unit {0}
GoesQuietly m (e ∷ es) = Needs m e × (IsQuiet m e × GoesQuietly (after m e) es)

-- whether the event of an ask has to be there: the ask makes one, and has an answer that isn't a refusal
abbrev pub must_make : Ask → Option Answer → Bool
must_make ask answer = makes_event ask && (is_some answer && not (is_refused answer))

-- whether the event of an ask can be there: the ask makes one, and isn't refused
abbrev pub may_make : Ask → Option Answer → Bool
may_make ask answer = makes_event ask && not (is_refused answer)

-- these events can happen, from the place of an ask's own event on: that event, and then what may happen unasked; or only
-- what may happen unasked, where the ask needn't have made its event
abbrev pub HappensFrom : Machine → Ask → Option Answer → Event → List Event → Type 0
HappensFrom m ask answer e es = ((may_make ask answer ≡ true) × (is_own m ask answer e ≡ true) × Needs m e × GoesQuietly (after m e) es) ⊎ ((must_make ask answer ≡ false) × GoesQuietly m (e ∷ es))

-- the same of some events, which may be none
abbrev pub GoesFrom : Machine → Ask → Option Answer → List Event → Type 0
GoesFrom m ask answer [] = must_make ask answer ≡ false
GoesFrom m ask answer (e ∷ es) = HappensFrom m ask answer e es

-- the part of a turn that polled a thread: up to the place of the ask's own event only what may happen unasked; a read, a
-- write, a send, a reply, an abort or a drop ends its part, and only after the send of a synchronous one may the part go on
abbrev pub IsPartOf : Machine → Ask → Option Answer → List Event → Type 0
IsPartOf m ask answer part = GoesQuietly m (take (own_place ask part) part) × GoesFrom (after_all m (take (own_place ask part) part)) ask answer (drop (own_place ask part) part)
