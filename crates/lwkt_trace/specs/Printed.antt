-- The text of a written trace as the text of its value, and what is read of its bytes (own).
use Rattle.std.specs.Prelude.{◌≡◌, ◌<◌, ◌≤◌, ◌^◌, List, length, Some, Ok}
use Rattle.serde_json.specs.Data.{Num, unsigned, negative, float, Data, null, boolean, number, string, array, object, Items, no_items, item, Members, no_members, member}
use Rattle.serde_json.specs.Read.{read}
use Rattle.lwkt_base.specs.declared.limits.TheConstants.{TRACE_BYTES}
use Rattle.lwkt_core.specs.declared.events.Event.{Event}
use Rattle.lwkt_report.specs.declared.closings.Closing as report
use Rattle.lwkt_script.specs.declared.scripts.Script.{Script}
use Rattle.lwkt_trace.specs.Format.{trace_of}
use Rattle.lwkt_trace.specs.Values.{trace_data, stated_trace, IsWritableTrace}
use Rattle.lwkt_trace.specs.Written.{trace_text}

-- a whole number of 64 bits
abbrev pub IsWord : Num → Type 0
IsWord (unsigned n) = n < 2 ^ 64
IsWord (negative z) = ⊥
IsWord (float x) = ⊥

-- values whose numbers are all whole ones of 64 bits
abbrev mutual
  pub HasWords : Data → Type 0
  HasWords null = Unit {0}
  HasWords (boolean b) = Unit {0}
  HasWords (number n) = IsWord n
  HasWords (string s) = Unit {0}
  HasWords (array ds) = ItemsHaveWords ds
  HasWords (object ms) = MembersHaveWords ms

  pub ItemsHaveWords : Items → Type 0
  ItemsHaveWords no_items = Unit {0}
  ItemsHaveWords (item d ds) = HasWords d × ItemsHaveWords ds

  pub MembersHaveWords : Members → Type 0
  MembersHaveWords no_members = Unit {0}
  MembersHaveWords (member k d ms) = HasWords d × MembersHaveWords ms

-- a law: the text of a trace is a text of its value, where the value's numbers are all of 64 bits
abbrev pub TextIsOfValue : Type 0
TextIsOfValue =
    (script : Script) (events : List Event) (c : report.Closing) → HasWords (trace_data script events c) → read (trace_text script events c) ≡ Some (trace_data script events c)

-- a law: at most 268435456 bytes that a trace is written as are read as this trace
abbrev pub WrittenIsReadBack : Type 0
WrittenIsReadBack =
    (script : Script) (events : List Event) (c : report.Closing) → IsWritableTrace script events c → HasWords (trace_data script events c)
    → length (trace_text script events c) ≤ TRACE_BYTES → trace_of (trace_text script events c) ≡ Ok (stated_trace script events c)
