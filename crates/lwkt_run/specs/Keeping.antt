-- What is kept of a run (own).
use Rattle.std.specs.Prelude.{◌≡◌, ℕ, ◌+◌, ◌==◌, if◌then◌else◌, List, [], ◌∷◌, ◌++◌, length, Option, Some, None, option_map}
use Rattle.std.specs.Option.{option_map_or}
use Rattle.lwkt_base.specs.declared.asks.Answer.{Answer}
use Rattle.lwkt_core.specs.declared.events.Event.{Event}
use Rattle.lwkt_core.specs.Machine.{changed}
use Rattle.lwkt_verdict.specs.declared.turns.Poll.{Poll}
use Rattle.lwkt_verdict.specs.declared.turns.Turn.{Turn}
use Rattle.lwkt_verdict.specs.Threads.{slot_of}
use Rattle.lwkt_run.specs.declared.polled.Polled.{Polled}
use Rattle.lwkt_run.specs.declared.polled.PolledRef.{PolledRef}

-- what a turn asked, by where it stands
abbrev pub polled_of : PolledRef → Polled
polled_of h = record { thread = h.thread; heard = h.heard.now; asked = h.asked.now }

-- what is kept of a run: the processor of each turn, the turns in order, and their polls
pub record Kept : Type 0 where
  pub order : List ℕ
  pub turns : List Turn
  pub polls : List Poll

abbrev pub kept_as : List ℕ → List Turn → List Poll → Kept
kept_as order turns polls = record { order = order; turns = turns; polls = polls }

abbrev pub none_kept : Kept
none_kept = kept_as [] [] []

-- the place of the last poll of a thread among some polls
abbrev pub last_place : ℕ → List Poll → Option ℕ
last_place slot [] = None
last_place slot (q ∷ polls) = option_map_or (λ place. Some (place + 1)) (last_place slot polls) (if slot_of q.thread == slot then Some 0 else None)

-- a poll with its answer
abbrev pub with_answer : Answer → Poll → Poll
with_answer heard q = record q { answer = Some heard }

-- polls, of which the last one of a thread, if it has one, gets its answer
abbrev pub polls_answered : ℕ → Answer → List Poll → List Poll
polls_answered slot heard polls = option_map_or (λ place. changed (with_answer heard) polls place) (last_place slot polls) polls

-- the polls after a turn, by what it asked: where it polled a thread, that thread's last poll before has the answer that it was given
-- now, and behind all stands the new one, without an answer
abbrev pub polls_after : Option Polled → List Poll → List Poll
polls_after None polls = polls
polls_after (Some p) polls = polls_answered (slot_of p.thread) p.heard polls ++ record { answer = None; ask = p.asked; thread = p.thread } ∷ []

-- a turn of so many events, by what it asked, where there were so many polls before: the place of its poll
abbrev pub turn_of : Option Polled → ℕ → ℕ → Turn
turn_of asks events before = record { poll = option_map (λ p. before) asks; events = events }

-- a turn of a processor is kept: its processor, its number of events and its poll, and nothing else changes
pub record KeepsTurn (cpu events : ℕ) (asks : Option Polled) (old new : Kept) : Type 0 where
  pub order : new.order ≡ old.order ++ cpu ∷ []
  pub turns : new.turns ≡ old.turns ++ turn_of asks events (length old.polls) ∷ []
  pub polls : new.polls ≡ polls_after asks old.polls

-- what is kept after a turn more
abbrev pub kept_after : ℕ → ℕ → Option Polled → Kept → Kept
kept_after cpu events asks kept = kept_as (kept.order ++ cpu ∷ []) (kept.turns ++ turn_of asks events (length kept.polls) ∷ []) (polls_after asks kept.polls)

-- all that is kept of a run so far: the events of its turns, and the turns
pub record Story : Type 0 where
  pub trace : List Event
  pub kept : Kept

abbrev pub story_as : List Event → Kept → Story
story_as trace kept = record { trace = trace; kept = kept }

abbrev pub no_story : Story
no_story = story_as [] none_kept

-- the same after a turn more of a processor, by what it asked and by its events
abbrev pub story_after : ℕ → Option Polled → List Event → Story → Story
story_after cpu asks part story = story_as (story.trace ++ part) (kept_after cpu (length part) asks story.kept)
