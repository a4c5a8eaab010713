-- What a thread asks next (own, version 3).
use Rattle.std.specs.Prelude.{◌≡◌, ℕ, zero, suc, ◌+◌, ◌-◌, ◌*◌, ◌==◌, ◌||◌, nat_lt, Bool, true, false, not, List, [], ◌∷◌, length, Option, Some, None, option_and_then, slice_get, slice_index, slice_set, if◌then◌else◌}
use Rattle.lwkt_base.specs.declared.asks.Ask.{Ask}
use Rattle.lwkt_base.specs.declared.asks.Ask.TheVariants.{Exit, Fail}
use Rattle.lwkt_base.specs.declared.asks.Answer.{Answer}
use Rattle.lwkt_code.specs.declared.steps.Step.{Step}
use Rattle.lwkt_code.specs.declared.steps.Step.TheVariants.{Fixed, Make, Set, Fault, Unless, Goto, Count, Again, Assert}
use Rattle.lwkt_code.specs.declared.locals.Local.{Local}
use Rattle.lwkt_code.specs.Values.{value_of, holds_in}
use Rattle.lwkt_code.specs.Wishes.{wished}
use Rattle.lwkt_code.specs.Answers.{taken}
use Rattle.lwkt_code.specs.Accepted.{IsAccepted}

-- whether the repetition that a thread is in is its last: none is left, or it asked nothing
abbrev pub is_last : Local → Bool
is_last s = s.left == 0 || not s.asked

-- what the step at which a thread stands asks, if it asks; the end asks Exit after the last repetition
abbrev pub ask_at : Option Step → Local → Option Ask
ask_at None s = if is_last s then Some Exit else None
ask_at (Some (Fixed ask)) s = Some ask
ask_at (Some (Make wish places)) s = Some (wished wish s.vars)
ask_at (Some (Set v e)) s = None
ask_at (Some (Fault v)) s = None
ask_at (Some (Unless test c to)) s = None
ask_at (Some (Goto jump to)) s = None
ask_at (Some (Count k n)) s = None
ask_at (Some (Again k to)) s = None
ask_at (Some (Assert c n)) s = if holds_in c s.vars then None else Some (Fail n)

-- where the thread stands after that step
abbrev pub moved : Option Step → Local → Local
moved None s = if is_last s then s else record s { at = 0; left = s.left - 1; asked = false }
moved (Some (Fixed ask)) s = record s { at = s.at + 1; asked = true }
moved (Some (Make wish places)) s = record s { at = s.at + 1; asked = true }
moved (Some (Set v e)) s = record s { at = s.at + 1; vars = slice_set s.vars v (value_of e s.vars) }
moved (Some (Fault v)) s = record s { at = s.at + 1; vars = slice_set s.vars v s.refused }
moved (Some (Unless test c to)) s = record s { at = if holds_in c s.vars then s.at + 1 else to }
moved (Some (Goto jump to)) s = record s { at = to }
moved (Some (Count k n)) s = record s { at = s.at + 1; counts = slice_set s.counts k n }
moved (Some (Again k to)) s = record s { at = if nat_lt 1 (slice_index s.counts k) then to else s.at + 1; counts = slice_set s.counts k (slice_index s.counts k - 1) }
moved (Some (Assert c n)) s = record s { at = s.at + 1; asked = if holds_in c s.vars then s.asked else true }

-- the ask that a step is, if it is the same each time
abbrev pub fixed_ask : Step → Option Ask
fixed_ask (Fixed ask) = Some ask
fixed_ask _ = None

-- the ask that stands where a thread goes on, if one does that is the same each time: at its place, or at the end of a repetition that
-- isn't the last first among the steps
abbrev pub standing : List Step → Local → Option Ask
standing steps s =
    option_and_then fixed_ask (if nat_lt s.at (length steps) then slice_get steps s.at else (if is_last s then None else slice_get steps 0))

-- an ask, and where its thread stands after it; without one, what comes later
abbrev pub ask_or : Option Ask → Local → Ask × Local → Ask × Local
ask_or (Some ask) s later = (ask, s)
ask_or None s later = later

-- the first ask from there, and where the thread stands after it; at most n steps are made
unfoldable pub ask_within : ℕ → List Step → Local → Ask × Local
ask_within zero steps s = (Exit, s)
ask_within (suc n) steps s = let o = slice_get steps s.at in ask_or (ask_at o s) (moved o s) (ask_within n steps (moved o s))

-- of an accepted program no way without an ask is longer than this: to the end, and once more through it
abbrev pub ask_from : List Step → Local → Ask × Local
ask_from steps s = ask_within (suc (2 * length steps + 3)) steps s

-- what a thread asks next, and where it stands then, given the answer to its last ask
abbrev pub next : List Step → Local → Answer → Ask × Local
next steps s answer = ask_from steps (taken steps s answer)

-- all that a thread asks, by the answers that it is given
abbrev pub asks_by : List Step → Local → List Answer → List Ask
asks_by steps s [] = []
asks_by steps s (answer ∷ answers) = (next steps s answer).0 ∷ asks_by steps (next steps s answer).1 answers

-- where a thread stands after these answers
abbrev pub local_after : List Step → Local → List Answer → Local
local_after steps s [] = s
local_after steps s (answer ∷ answers) = local_after steps (next steps s answer).1 answers

-- a theorem: what a thread asks first is what its step asks, or, if that asks nothing, what it asks first from where that leads
abbrev pub FirstAsk : Type 0
FirstAsk = (steps : List Step) (s : Local) → IsAccepted steps → let o = slice_get steps s.at in
    ((ask : Ask) → ask_at o s ≡ Some ask → ask_from steps s ≡ (ask, moved o s))
    × (ask_at o s ≡ None → ask_from steps s ≡ ask_from steps (moved o s))
