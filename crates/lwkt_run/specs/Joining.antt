-- What was done on tokens and on messages as one run of the whole machine (own).
use Rattle.std.specs.Prelude.{◌≡◌, ℕ, List, [], filter, Some, slice_get}
use Rattle.lwkt_base.specs.declared.opening_specs.MsgSpec.{MsgSpec}
use Rattle.lwkt_base.specs.declared.opening_specs.TokSpec.{TokSpec}
use Rattle.lwkt_core.specs.declared.events.Event.{Event}
use Rattle.lwkt_core.specs.declared.finals.Final.{Final}
use Rattle.lwkt_core.specs.declared.messages.Message.{Message}
use Rattle.lwkt_core.specs.declared.tokens.Token.{Token}
use Rattle.lwkt_core.specs.Machine.{machine}
use Rattle.lwkt_core.specs.Opening.{opening}
use Rattle.lwkt_core.specs.Trace.{Run, IsLawfulTrace}
use Rattle.lwkt_cpu.specs.Traced.{is_of_message}
use Rattle.lwkt_hold.specs.Steps.{is_of_token, AreTraced}
use Rattle.lwkt_run.specs.TraceParts.{of_cpu}

-- what the processors did, by number, are the parts of one run of the whole machine: its events happen one after another, from the
-- opening to these closing values, and of these each processor's on tokens are those that its part has, in order, and its own on
-- messages exactly those of its part, in order. How the two stand to each other within a part isn't claimed
pub record AreOneRun (cpus : ℕ) (tokens : List TokSpec) (messages : List MsgSpec) (last : Final) (parts : List (List Event)) : Type 0 where
  pub events : List Event
  pub lawful : IsLawfulTrace (opening cpus tokens messages) events last
  pub on_tokens : (cpu : ℕ) (part : List Event) → slice_get parts cpu ≡ Some part → AreTraced (filter is_of_token (of_cpu cpu events)) (filter is_of_token part)
  pub on_messages : (cpu : ℕ) (part : List Event) → slice_get parts cpu ≡ Some part → filter is_of_message part ≡ filter is_of_message (of_cpu cpu events)

-- a theorem: events on tokens change only tokens, and those on messages only messages; so where some events on tokens are a run of the
-- tokens alone, and some on messages one of the messages alone, they are, in whatever order between the two, one run of both
abbrev pub RunsJoin : Type 0
RunsJoin = (cpus : ℕ) (tokens tokens' : List Token) (messages messages' : List Message) (events : List Event) → Run (machine cpus tokens []) (filter is_of_token events) (machine cpus tokens' []) → Run (machine cpus [] messages) (filter is_of_message events) (machine cpus [] messages')
    → Run (machine cpus tokens messages) events (machine cpus tokens' messages')
