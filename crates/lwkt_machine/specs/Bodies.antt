-- The body of a script's thread (own).
use Rattle.std.specs.Prelude.{◌≡◌, ℕ, nat_lt, if◌then◌else◌, List, [], ◌∷◌, ◌++◌, length, slice_get, Option, Some, None, option_and_then}
use Rattle.lwkt_base.specs.declared.asks.Ask.{Ask}
use Rattle.lwkt_base.specs.declared.asks.Answer.{Answer}
use Rattle.lwkt_base.specs.declared.entries.Entry.{Entry}
use Rattle.lwkt_base.specs.declared.limits.TheConstants.{LOG_LIMIT}
use Rattle.lwkt_code.specs.declared.locals.Local.{Local}
use Rattle.lwkt_code.specs.declared.steps.Step.{Step}
use Rattle.lwkt_code.specs.Answers.{last_step, logs}
use Rattle.lwkt_code.specs.Next.{next, fixed_ask}
use Rattle.lwkt_code.specs.Programs.{Program, start}
use Rattle.lwkt_script.specs.Logs.{entry_of, failure_of}

-- what callers see of a body: its program and where it stands there, what it asked at its last poll and which answer it was given there,
-- and its log
pub record Scripted : Type 0 where
  pub program : Program
  pub local : Local
  pub asked : Option Ask
  pub heard : Option Answer
  pub log : List Entry

-- a body that was never polled
abbrev pub unpolled : Program → Scripted
unpolled program = record { program = program; local = start program; asked = None; heard = None; log = [] }

-- the ask that stands at a place among the steps, or else another
abbrev pub ask_said : List Step → Option ℕ → Option Ask → Option Ask
ask_said steps None made = made
ask_said steps (Some at) made = option_and_then fixed_ask (slice_get steps at)

-- what an answer puts in the log, by where its thread stands and what it asked last; nothing, if nothing was asked
abbrev pub entry_by : List Step → Local → Option Ask → Answer → Option Entry
entry_by steps s asked answer = option_and_then (λ ask. if logs (last_step steps s) answer then entry_of ask answer else None) asked

abbrev pub entry_heard : Scripted → Answer → Option Entry
entry_heard b answer = entry_by b.program.steps b.local b.asked answer

-- the same of the answer that it was given; nothing, if it was given none
abbrev pub entry_kept : Scripted → Option Entry
entry_kept b = option_and_then (λ answer. entry_heard b answer) b.heard

-- a log keeps its first 32 entries
abbrev pub logged : List Entry → Option Entry → List Entry
logged log None = log
logged log (Some e) = if nat_lt (length log) LOG_LIMIT then log ++ e ∷ [] else log

-- what a body asks next that is given this answer, and where it stands then
abbrev pub next_of : Scripted → Answer → Ask × Local
next_of b last = next b.program.steps b.local last

-- a body that has heard an answer: it keeps that, and what it puts in the log
abbrev pub after_hearing : Answer → Scripted → Scripted
after_hearing last b = record b { heard = Some last; log = logged b.log (entry_heard b last) }

-- a body that has asked what is next; an assertion that doesn't hold puts its number in the log
abbrev pub after_ask : Answer → Scripted → Scripted
after_ask last b = record b { local = (next_of b last).1; asked = Some (next_of b last).0; log = logged b.log (failure_of (next_of b last).0) }

-- a body after one more poll, with this answer
abbrev pub after_poll : Answer → Scripted → Scripted
after_poll last b = after_ask last (after_hearing last b)

-- a poll of a body: it logs the answer, and asks next what its program says
abbrev pub IsPolled : Scripted → Answer → Ask → Scripted → Type 0
IsPolled old last ask new = (ask ≡ (next_of old last).0) × (new ≡ after_poll last old)
