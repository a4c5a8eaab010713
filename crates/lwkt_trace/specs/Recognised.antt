-- Texts that are written just as this crate writes them: an event, events one after another, and what stands round them in a
-- trace (own).
use Rattle.std.specs.Prelude.{◌≡◌, ℕ, ◌<◌, ◌≤◌, List, ◌++◌, length, map, take, Option, Ok}
use Rattle.lwkt_base.specs.declared.limits.TheConstants.{TRACE_BYTES, TRACE_EVENTS}
use Rattle.lwkt_core.specs.declared.events.Event.{Event}
use Rattle.lwkt_trace.specs.Format.{trace_of}
use Rattle.lwkt_trace.specs.Printed.{HasWords, ItemsHaveWords}
use Rattle.lwkt_trace.specs.Readback.{event_data, events_data, stated_alone, IsWritable, AreWritable}
use Rattle.lwkt_report.specs.declared.closings.Closing as report
use Rattle.lwkt_trace.specs.Values.{last_data}
use Rattle.lwkt_trace.specs.Written.{parted, line_at, event_text, back_text}
use Rattle.lwkt_trace.specs.declared.traces.Stated.{Stated}
use Rattle.lwkt_trace.specs.declared.traces.Trace.{Trace}

-- the bytes of a line are the text of an event whose parts are of their types
pub record IsWritten (line : List ℕ) (event : Event) : Type 0 where
  pub text : line ≡ event_text event
  pub short : length line ≤ 160
  pub writable : IsWritable event
  pub words : HasWords (event_data event)

-- a text begins with the event of a number, which takes so many bytes with what stands before it
pub record IsNextWritten (text : List ℕ) (number : ℕ) (event : Event) (size : ℕ) : Type 0 where
  pub some : 0 < size
  pub within : size ≤ length text
  pub text_is : take size text ≡ line_at number ++ event_text event
  pub writable : IsWritable event
  pub words : HasWords (event_data event)

-- a text is that of events whose parts are of their types, each on a line of its own
pub record AreWritten (text : List ℕ) (events : List Event) : Type 0 where
  pub text_is : text ≡ parted line_at event_text 0 events
  pub writable : AreWritable events
  pub words : ItemsHaveWords (events_data events)

-- the bytes are the text behind the events of a trace, with closing values whose numbers are all of 64 bits or with none
pub record IsBack (back : List ℕ) : Type 0 where
  pub last : Option report.Closing
  pub text_is : back ≡ back_text last
  pub words : HasWords (last_data last)

-- a trace with these events in place of its own
abbrev pub with_events : Trace → List Stated → Trace
with_events trace events = record { cpus = trace.cpus; tokens = trace.tokens; messages = trace.messages; events = events; last = trace.last }

-- whatever events are written between these bytes, at most 50000000 of them, the whole is read as this trace with these events
abbrev pub Frames : List ℕ → List ℕ → Trace → Type 0
Frames front back trace =
    (text : List ℕ) (events : List Event) → AreWritten text events → length events ≤ TRACE_EVENTS → length (front ++ (text ++ back)) ≤ TRACE_BYTES
    → trace_of (front ++ (text ++ back)) ≡ Ok (with_events trace (map stated_alone events))
