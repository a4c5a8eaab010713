use Rattle.std.specs.Prelude.{◌≡◌, ◌≢◌, ◌⊎◌, ℕ, ◌<◌, false, List, [], ◌∷◌, ◌++◌, map, replicate, slice_index, take, ◌==◌, if◌then◌else◌, None, Some}
use mathlib.Core.Option.{some}
use lib.ListN.{get_elem?}
use Rattle.lwkt_base.specs.declared.holdings.Held.TheVariants.{Nothing}
use Rattle.lwkt_base.specs.TokenWord.{word_of}
use Rattle.lwkt_core.specs.declared.events.Event.{Event}
use Rattle.lwkt_core.specs.declared.events.Event.TheVariants.{Load, Take, Share, Again, Mark, GiveOne, GiveClean, GiveWritten, Read, Write, ReadBlob, WriteBlob, Send, TakeMsg, DropMsg, Reply, Reap, Abort}
use Rattle.lwkt_core.specs.declared.events.Place.TheVariants.{AtToken}
use Rattle.lwkt_table.specs.declared.seats.Operation.{Operation}
use Rattle.lwkt_table.specs.declared.seats.Operation.TheVariants.{Load as Loads, Exchange, Add, Sub, Or}
use Rattle.lwkt_table.specs.declared.seats.WordStep.{WordStep}
use Rattle.lwkt_table.specs.declared.seats.Deed.{Deed}
use Rattle.lwkt_core.specs.declared.tokens.Token.{Token}
use Rattle.lwkt_base.specs.declared.limits.TheConstants.{CPU_LIMIT}
use Rattle.lwkt_core.specs.Events.{cpu_of, place_of}
use Rattle.lwkt_core.specs.Picture.{picture_of}
use Rattle.lwkt_core.specs.Machine.{Machine, Happens}
use Rattle.lwkt_table.specs.History.{IsStepOver, Chronicle}
use Rattle.lwkt_bank.specs.declared.views.Plan.{Plan}
use Rattle.lwkt_bank.specs.declared.views.View.{View}
use Rattle.lwkt_bank.specs.Views.{RecordOf, one_section, page_of}
use Rattle.lwkt_bank.specs.Rule.{Bench, Homes, Rule, token_at, moved, without, with_back}

-- the event is a step on a cell, or an access to a record
abbrev pub IsAtCell : Event → Type 0
IsAtCell (Read cpu tok cell value) = Unit {0}
IsAtCell (Write cpu tok cell value) = Unit {0}
IsAtCell (Load cpu tok) = ⊥
IsAtCell (Take cpu tok) = ⊥
IsAtCell (Share cpu tok) = ⊥
IsAtCell (Again cpu tok) = ⊥
IsAtCell (Mark cpu tok) = ⊥
IsAtCell (GiveOne cpu tok) = ⊥
IsAtCell (GiveClean cpu tok) = ⊥
IsAtCell (GiveWritten cpu tok section) = ⊥
IsAtCell (ReadBlob cpu tok blob) = Unit {0}
IsAtCell (WriteBlob cpu tok blob) = Unit {0}
IsAtCell (Send cpu msg to round) = ⊥
IsAtCell (TakeMsg cpu msg round) = ⊥
IsAtCell (DropMsg cpu msg) = ⊥
IsAtCell (Reply cpu msg) = ⊥
IsAtCell (Reap cpu msg) = ⊥
IsAtCell (Abort cpu msg) = ⊥

-- the operation, which met this word, is that of the event: a load, or an exchange that met another word; the exchange that met
-- its word; and the additions, subtractions and bits of the others (lwkt_token.c's count word; own)
abbrev pub IsOperation : Event → Operation → ℕ → Type 0
IsOperation (Load cpu tok) operation met = (operation ≡ Loads) ⊎ ((old new : ℕ) × ((operation ≡ Exchange old new) × (met ≢ old)))
IsOperation (Take cpu tok) operation met = (new : ℕ) × (operation ≡ Exchange met new)
IsOperation (Share cpu tok) operation met = (new : ℕ) × (operation ≡ Exchange met new)
IsOperation (Again cpu tok) operation met = operation ≡ Add 4
IsOperation (Mark cpu tok) operation met = operation ≡ Or 2
IsOperation (GiveOne cpu tok) operation met = operation ≡ Sub 4
IsOperation (GiveClean cpu tok) operation met = operation ≡ Sub 1
IsOperation (GiveWritten cpu tok section) operation met = operation ≡ Add one_section
IsOperation (Read cpu tok cell value) operation met = ⊥
IsOperation (Write cpu tok cell value) operation met = ⊥
IsOperation (ReadBlob cpu tok blob) operation met = ⊥
IsOperation (WriteBlob cpu tok blob) operation met = ⊥
IsOperation (Send cpu msg to round) operation met = ⊥
IsOperation (TakeMsg cpu msg round) operation met = ⊥
IsOperation (DropMsg cpu msg) operation met = ⊥
IsOperation (Reply cpu msg) operation met = ⊥
IsOperation (Reap cpu msg) operation met = ⊥
IsOperation (Abort cpu msg) operation met = ⊥

-- the word of a token of a machine
abbrev pub word_in : Machine → ℕ → ℕ
word_in m tok = word_of (picture_of (token_at m tok))

-- the step is that of the event: on the word of its token, which it met and left as the machines before and after show, and by
-- the operation of the event
pub record IsStepOf (m : Machine) (event : Event) (n : Machine) (step : WordStep) : Type 0 where
  pub place : place_of event ≡ AtToken step.at
  pub over : IsStepOver (word_in m step.at) (word_in n step.at) step
  pub operation : IsOperation event step.operation (word_in m step.at)

-- a deed is done between two machines: it is one event of its processor, which leads from the one to the other, and has the
-- step on the word of the event's token, or none where the event is at a cell
pub record IsDone (m : Machine) (d : Deed) (n : Machine) : Type 0 where
  pub event : Event
  pub events : d.events ≡ event ∷ []
  pub own : cpu_of event ≡ d.cpu.0
  pub records : d.records ≡ []
  pub happens : Happens m event n
  pub steps : (IsAtCell event × (d.steps ≡ [])) ⊎ ((step : WordStep) × ((d.steps ≡ step ∷ []) × IsStepOf m event n step))

-- a token as it is declared: nobody holds it, it has no mark, and nothing is added yet
abbrev pub first_token : Plan → Token
first_token plan = record { law = plan.law; param = plan.param; generation = plan.generation; mark = false; row = take plan.cells plan.first; first = take plan.cells plan.first; blob = plan.blob; first_blob = plan.blob; holders = replicate CPU_LIMIT Nothing; tallies = replicate CPU_LIMIT 0 }

-- the machine that is declared
abbrev pub first_machine : List Plan → ℕ → Machine
first_machine plans cpus = record { cpus = cpus; tokens = map first_token plans; messages = [] }

-- the bank's rule between any two steps: words and views show a safe machine, and there is one history of the deeds of all seats
-- that leads from the machine declared to this one, of which each seat has seen the front up to its own last deed
pub record Ledger (plans : List Plan) (cpus : ℕ) (s : Bench) : Type 0 where
  pub rule : Rule plans cpus s
  pub chronicle : Chronicle IsDone (first_machine plans cpus) (map page_of s.views) rule.model

-- after a deed the history has that deed more, which is done between the machines shown before and after it
pub record IsNext (plans : List Plan) (cpus : ℕ) (s s' : Bench) (ledger : Ledger plans cpus s) (d : Deed) (after : Ledger plans cpus s') : Type 0 where
  pub done : IsDone ledger.rule.model d after.rule.model
  pub grown : after.chronicle.history ≡ ledger.chronicle.history ++ d ∷ []

-- the slots stay as they are
abbrev pub stays : Homes → ℕ → Homes
stays homes n = homes

-- an exchange that finds the word takes the record out, and the end of a section puts it back
abbrev pub taken_home : RecordOf → ℕ → ℕ → Homes → ℕ → Homes
taken_home guard tok old homes n = if n == old then without guard tok homes else homes

abbrev pub given_home : RecordOf → ℕ → Homes → ℕ → Homes
given_home blob tok homes n = with_back blob tok homes

-- what a take finds in the slot: the record that it takes out, where one was declared
abbrev pub FindsAt : RecordOf → ℕ → Homes → RecordOf → Type 0
FindsAt None tok homes blob = blob ≡ None
FindsAt (Some first) tok homes blob = (bytes : List ℕ) × ((blob ≡ Some bytes) × (get_elem? homes tok ≡ some (some bytes)))

-- whatever state of the rule the table is in when a word becomes f of what it was, and the slots what `home` says, the seat has a view
-- after it with which the rule stays and the history has this deed more
abbrev pub Deeds : List Plan → ℕ → ℕ → View → ℕ → (ℕ → ℕ) → (ℕ → Deed) → (Homes → ℕ → Homes) → (Homes → ℕ → View → Type 0) → Type 0
Deeds plans cpus id v i f deed home holds = (s : Bench) (ledger : Ledger plans cpus s) → get_elem? s.views id ≡ some v → slice_index s.words i < 18446744073709551616
    → (w : View) × ((after : Ledger plans cpus (moved s i (f (slice_index s.words i)) id w (home s.homes (slice_index s.words i)))) × (IsNext plans cpus s (moved s i (f (slice_index s.words i)) id w (home s.homes (slice_index s.words i))) ledger (deed (slice_index s.words i)) after × holds s.homes (slice_index s.words i) w))
