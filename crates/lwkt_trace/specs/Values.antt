-- The tokens of a written trace, its closing values and the whole trace as values of JSON, the members of objects by name, and what is read of them (own).
use Rattle.std.specs.Prelude.{◌≡◌, ℕ, ◌≤◌, List, [], length, map, codes, All, IfSome, unwrap_or, if◌then◌else◌, Option, Some, None, Ok}
use Rattle.std.specs.List.{list_any}
use Rattle.serde_json.specs.Data.{Data, null, string, array, object, Members, no_members, member}
use Rattle.lwkt_base.specs.declared.opening_specs.TokSpec.{TokSpec}
use Rattle.lwkt_base.specs.declared.limits.TheConstants.{MESSAGE_LIMIT, RECORD_LIMIT, TOKEN_LIMIT, TRACE_EVENTS}
use Rattle.lwkt_core.specs.declared.events.Event.{Event}
use Rattle.lwkt_report.specs.declared.closings.Closing as report
use Rattle.lwkt_report.specs.declared.closings.TokenLine.{TokenLine}
use Rattle.lwkt_script.specs.declared.scripts.Script.{Script}
use Rattle.lwkt_script.specs.Limits.{IsToken, IsWithinLimits}
use Rattle.lwkt_script.specs.Outcome.{each}
use Rattle.lwkt_trace.specs.Format.{closing, trace}
use Rattle.lwkt_trace.specs.Guard.{guarded}
use Rattle.lwkt_trace.specs.Written.{law_text, has_record}
use Rattle.lwkt_trace.specs.Readback.{number_data, blob_data, items_as, events_data, ends_data, messages_data, stated_alone, AreBytes, AreWritable, AreWritableEnds}
use Rattle.lwkt_trace.specs.declared.traces.Closing.{Closing}
use Rattle.lwkt_trace.specs.declared.traces.Trace.{Trace}

-- numbers as a list
abbrev pub numbers_data : List ℕ → Data
numbers_data numbers = array (items_as number_data numbers)

-- the record of a token, where it has one
abbrev pub guard_data : Option (List ℕ) → Members
guard_data None = no_members
guard_data (Some blob) = member (codes "record") (blob_data blob) no_members

-- a token of the opening
abbrev pub token_data : TokSpec → Data
token_data t =
    object (member (codes "cells") (numbers_data t.cells) (
    member (codes "gen") (number_data t.generation) (
    member (codes "law") (string (law_text t.law)) (
    member (codes "param") (number_data t.param) (guard_data t.blob)))))

-- a token whose parts are of their types: a parameter of 64 bits, and a record of bytes
pub record IsTyped (t : TokSpec) : Type 0 where
  pub param : t.param ≤ 18446744073709551615
  pub bytes : IfSome t.blob AreBytes

-- a law: the list of at most 64 tokens that a script may open is read as these tokens
abbrev pub TokensAreReadBack : Type 0
TokensAreReadBack = (ts : List TokSpec) → All IsToken ts → All IsTyped ts → length ts ≤ TOKEN_LIMIT → each guarded [] (items_as token_data ts) ≡ Ok ts

-- what a processor has added, none where the token's law isn't Tally
abbrev pub tallies_data : Option (List ℕ) → Data
tallies_data None = numbers_data []
tallies_data (Some tallies) = numbers_data tallies

-- a record of the close, or null
abbrev pub last_blob_data : Option (List ℕ) → Data
last_blob_data None = null
last_blob_data (Some blob) = blob_data blob

-- of a token at the close: its row, its generation, its tallies, its record
abbrev pub row_data : TokenLine → Data
row_data line = numbers_data line.cells

abbrev pub generation_data : TokenLine → Data
generation_data line = number_data line.generation

abbrev pub tally_data : TokenLine → Data
tally_data line = tallies_data line.tallies

abbrev pub record_data : TokenLine → Data
record_data line = last_blob_data line.blob

-- the rows and the tallies of the close
abbrev pub rows_members : List TokenLine → Members
rows_members lines =
    member (codes "rows") (array (items_as row_data lines)) (
    member (codes "tallies") (array (items_as tally_data lines)) no_members)

-- the same behind the records, where a token has one
abbrev pub records_members : List TokenLine → Members
records_members lines =
    if list_any has_record lines then member (codes "records") (array (items_as record_data lines)) (rows_members lines) else rows_members lines

-- the closing values
abbrev pub closing_data : report.Closing → Data
closing_data c =
    object (member (codes "gens") (array (items_as generation_data c.tokens.items)) (
    member (codes "messages") (array (ends_data c.messages.items)) (records_members c.tokens.items)))

-- the same, or null where there are none
abbrev pub last_data : Option report.Closing → Data
last_data None = null
last_data (Some c) = closing_data c

-- the closing values of a report as a trace has them: tallies of each token, none where its law isn't Tally
abbrev pub stated_closing : report.Closing → Closing
stated_closing c = record {
  rows = map (λ line. line.cells) c.tokens.items;
  gens = map (λ line. line.generation) c.tokens.items;
  tallies = map (λ line. unwrap_or line.tallies []) c.tokens.items;
  messages = c.messages.items;
  blobs = map (λ line. line.blob) c.tokens.items;
}

-- a record that a token may guard: at most 64 bytes
abbrev pub IsGuard : List ℕ → Type 0
IsGuard blob = (length blob ≤ RECORD_LIMIT) × AreBytes blob

-- a line of a token whose record, if it has one, it may guard
abbrev pub HasGuard : TokenLine → Type 0
HasGuard line = IfSome line.blob IsGuard

-- closing values of at most 64 tokens and at most 64 messages, whose parts are of their types
pub record IsWritableClosing (c : report.Closing) : Type 0 where
  pub few_tokens : length c.tokens.items ≤ TOKEN_LIMIT
  pub records : All HasGuard c.tokens.items
  pub few_messages : length c.messages.items ≤ MESSAGE_LIMIT
  pub messages : AreWritableEnds c.messages.items

-- a law: the object that closing values are written as is read as these values
abbrev pub ClosingIsReadBack : Type 0
ClosingIsReadBack = (c : report.Closing) → IsWritableClosing c → closing (closing_data c) ≡ Ok (Some (stated_closing c))

-- a trace: the opening of a script, events, and closing values
abbrev pub trace_data : Script → List Event → report.Closing → Data
trace_data script events c =
    object (member (codes "cpus") (number_data script.cpus) (
    member (codes "events") (array (events_data events)) (
    member (codes "last") (closing_data c) (
    member (codes "messages") (array (messages_data script.messages)) (
    member (codes "tokens") (array (items_as token_data script.tokens)) (
    member (codes "version") (number_data 1) no_members))))))

-- what is read of it: the opening, the events as they are stated where no section is, and the closing values
abbrev pub stated_trace : Script → List Event → report.Closing → Trace
stated_trace script events c = record {
  cpus = script.cpus;
  tokens = script.tokens;
  messages = script.messages;
  events = map stated_alone events;
  last = Some (stated_closing c);
}

-- the opening of a script within its limits, at most 50000000 events, and closing values, all of whose parts are of their types
pub record IsWritableTrace (script : Script) (events : List Event) (c : report.Closing) : Type 0 where
  pub limits : IsWithinLimits script
  pub typed : All IsTyped script.tokens
  pub writable : AreWritable events
  pub few_events : length events ≤ TRACE_EVENTS
  pub closed : IsWritableClosing c

-- a law: the object that a trace is written as is read as this trace
abbrev pub TraceIsReadBack : Type 0
TraceIsReadBack =
    (script : Script) (events : List Event) (c : report.Closing) → IsWritableTrace script events c → trace (trace_data script events c) ≡ Ok (stated_trace script events c)
