-- What a trace is found to be (own).
use Rattle.std.specs.Prelude.{◌≡◌, ℕ, List, Bool, true, false, ◌++◌, ◌∷◌, codes, string_bytes, Option, None, Some, Result, Ok, Err}
use Rattle.std.specs.Fmt.{decimal}
use Rattle.lwkt_base.specs.declared.faults.Fault.{Fault as Refusal}
use Rattle.lwkt_base.specs.declared.faults.Fault.TheVariants.{Script as ScriptFault, Memory, Limits, LawBroken}
use Rattle.lwkt_core.specs.declared.events.Event.{Event}
use Rattle.lwkt_core.specs.declared.finals.Final.{Final}
use Rattle.lwkt_core.specs.Machine.{Machine}
use Rattle.lwkt_core.specs.Opening.{opening, AreWithin, AllOpenLawfully}
use Rattle.lwkt_core.specs.Trace.{CanHappen, IsLawfulTrace, StopsAt, FailsAt}
use Rattle.lwkt_trace.specs.declared.traces.Closing.{Closing}
use Rattle.lwkt_trace.specs.declared.traces.Trace.{Trace}
use Rattle.lwkt_trace.specs.Format.{trace_of}
use Rattle.lwkt_trace.specs.declared.traces.Stated.{Stated}
use Rattle.lwkt_checker.specs.Stated.{events_stated}
use Rattle.lwkt_checker.specs.Said.{SaysWhy}
use Rattle.lwkt_checker.specs.declared.judges.Finding.{Finding}
use Rattle.lwkt_checker.specs.declared.judges.Finding.TheVariants.{Lawful, Unlawful}

-- the machine at the opening of a trace
abbrev pub opening_of : Trace → Machine
opening_of trace = opening trace.cpus trace.tokens trace.messages

-- these are the closing values
pub record AreValues (closing : Closing) (last : Final) : Type 0 where
  pub rows : last.rows.items ≡ closing.rows
  pub gens : last.gens.items ≡ closing.gens
  pub tallies : last.tallies.items ≡ closing.tallies
  pub messages : last.messages.items ≡ closing.messages
  pub blobs : last.blobs.items ≡ closing.blobs

-- these are the closing values that a trace gives, or none where it gives none
abbrev pub AreClosing : Option Closing → Option Final → Type 0
AreClosing None None = Unit {0}
AreClosing None (Some last) = ⊥
AreClosing (Some closing) None = ⊥
AreClosing (Some closing) (Some last) = AreValues closing last

-- what a finding says of events and closing values, or of the events alone where there are none: that they are a lawful
-- trace, or the index at which they fail
abbrev pub Finds : Machine → List Event → Option Final → Finding → Type 0
Finds m events None Lawful = CanHappen m events
Finds m events (Some last) Lawful = IsLawfulTrace m events last
Finds m events None (Unlawful index why) = (mid : Machine) × StopsAt m events index mid
Finds m events (Some last) (Unlawful index why) = FailsAt m events last index

-- a finding is true of the events that are stated from a machine on, and its line says why
abbrev pub FindsWhy : Machine → List Stated → Option Final → Finding → Type 0
FindsWhy m stated last finding = Finds m (events_stated m stated) last finding × SaysWhy m stated last finding

-- the finding is true of the events that the trace states, and its line says why
abbrev pub IsFound : Trace → Finding → Type 0
IsFound trace finding = (last : Option Final) × (AreClosing trace.last last × FindsWhy (opening_of trace) trace.events last finding)

-- an opening keeps the limits and the laws, so that it isn't refused
pub record OpensTrace (trace : Trace) : Type 0 where
  pub within : AreWithin trace.cpus trace.tokens trace.messages
  pub lawful : AllOpenLawfully trace.tokens

-- what is found of a trace whose opening isn't refused
pub record IsJudgedTrace (trace : Trace) (finding : Finding) : Type 0 where
  pub opens : OpensTrace trace
  pub found : IsFound trace finding

-- why a trace is refused
abbrev pub DeclinesTrace : Trace → Refusal → Type 0
DeclinesTrace trace (Memory refused) = Unit {0}
DeclinesTrace trace Limits = ¬ AreWithin trace.cpus trace.tokens trace.messages
DeclinesTrace trace LawBroken = AreWithin trace.cpus trace.tokens trace.messages × ¬ AllOpenLawfully trace.tokens
DeclinesTrace trace _ = ⊥

-- why bytes that are read as a trace, or have a first bad part, are refused: for that part; or for the opening of the trace
abbrev pub RefusesRead : Result Trace ℕ → Refusal → Type 0
RefusesRead read (ScriptFault place) = read ≡ Err place
RefusesRead read (Memory refused) = Unit {0}
RefusesRead read Limits = (trace : Trace) × ((read ≡ Ok trace) × DeclinesTrace trace Limits)
RefusesRead read LawBroken = (trace : Trace) × ((read ≡ Ok trace) × DeclinesTrace trace LawBroken)
RefusesRead read _ = ⊥

-- why bytes are refused
abbrev pub RefusesTrace : List ℕ → Refusal → Type 0
RefusesTrace bytes fault = RefusesRead (trace_of bytes) fault

-- whether a finding is that of a lawful trace
abbrev pub is_lawful : Finding → Bool
is_lawful Lawful = true
is_lawful (Unlawful index why) = false

-- what is written: `lawful`, or `unlawful INDEX` and behind it the need that isn't met
abbrev pub finding_text : Finding → List ℕ
finding_text Lawful = codes "lawful\n"
finding_text (Unlawful index why) = codes "unlawful " ++ decimal index ++ 10 ∷ string_bytes why

-- these bytes are a trace whose opening isn't refused, and the text is what is found of it
pub record HasFinding (bytes : List ℕ) (lawful : Bool) (text : List ℕ) : Type 0 where
  pub trace : Trace
  pub read : trace_of bytes ≡ Ok trace
  pub finding : Finding
  pub judged : IsJudgedTrace trace finding
  pub is_text : text ≡ finding_text finding
  pub is_kind : lawful ≡ is_lawful finding
