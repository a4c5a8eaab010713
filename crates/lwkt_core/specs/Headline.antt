use Rattle.std.specs.Prelude.{◌≡◌, ℕ, ◌+◌, ◌-◌, ◌≤◌, ◌==◌, if◌then◌else◌, Bool, true, false, ◌&&◌, ◌||◌, List, [], ◌∷◌, ◌++◌, map, All, Contains, count_by, Option, Some, slice_get, slice_index, option_to_list}
use Rattle.std.specs.Option.{option_map_or}
use Rattle.lwkt_base.specs.declared.names.CpuId.{CpuId}
use Rattle.lwkt_base.specs.declared.names.MsgId.{MsgId}
use Rattle.lwkt_base.specs.declared.laws.Law.TheVariants.{Tally}
use Rattle.lwkt_base.specs.Law.{Obeys}
use Rattle.lwkt_core.specs.declared.tokens.Token.{Token}
use Rattle.lwkt_core.specs.declared.messages.Message.{Message}
use Rattle.lwkt_core.specs.declared.events.Event.{Event}
use Rattle.lwkt_core.specs.declared.events.Event.TheVariants.{GiveWritten, Write, WriteBlob, Send, TakeMsg, DropMsg, Reply, Reap}
use Rattle.lwkt_core.specs.Tokens.{tally_of, IsOpen, length_of}
use Rattle.lwkt_core.specs.Machine.{Machine, IsSafe, after}
use Rattle.lwkt_core.specs.Trace.{Run}
use Rattle.lwkt_core.specs.Safety.{IsCompatible, IsWriting, KeepsLaw}

-- a run of these events goes through a machine: a front of them leads to it
abbrev pub GoesThrough : Machine → List Event → Machine → Type 0
GoesThrough m events mid = (front rest : List Event) × ((events ≡ front ++ rest) × Run m front mid)

-- a law: in every machine that a run goes through each token has one exclusive holder or only shared ones (token(9))
abbrev pub RunsAreCompatible : Type 0
RunsAreCompatible = (m : Machine) (events : List Event) (mid : Machine) → IsSafe m → GoesThrough m events mid → All IsCompatible mid.tokens

-- a law: in every machine that a run goes through a token that no exclusive holder is writing keeps its declared law
abbrev pub RunsKeepLaws : Type 0
RunsKeepLaws = (m : Machine) (events : List Event) (mid : Machine) → IsSafe m → GoesThrough m events mid → All (λ tok. ((cpu : ℕ) → ¬ IsWriting tok cpu) → KeepsLaw tok) mid.tokens

-- how much an event raises a cell of a token for a processor, and how much the events of a run do
abbrev pub raise_of : ℕ → ℕ → Machine → Event → ℕ
raise_of t cpu m (Write by tok cell value) = if (tok.0 == t) && (by.0 == cpu) then value - slice_index (option_map_or (λ k. k.row) (slice_get m.tokens t) []) cell else 0
raise_of t cpu m e = 0

abbrev pub raised_by : ℕ → ℕ → Machine → List Event → ℕ
raised_by t cpu m [] = 0
raised_by t cpu m (e ∷ events) = raise_of t cpu m e + raised_by t cpu (after m e) events

-- a law: what a processor has added to a Tally token grows in a run by what its writes raise the cell
abbrev pub TalliesAreRaises : Type 0
TalliesAreRaises = (m : Machine) (events : List Event) (n : Machine) (t : ℕ) (tok last : Token) → IsSafe m → Run m events n → slice_get m.tokens t ≡ Some tok → slice_get n.tokens t ≡ Some last → tok.law ≡ Tally
    → (cpu : ℕ) → tally_of last cpu ≡ tally_of tok cpu + raised_by t cpu m events

-- what an event does with a message: sends it, takes it, drops it, replies to it, reaps it
abbrev pub sends_message : ℕ → Event → Bool
sends_message i (Send cpu msg to round) = msg.0 == i
sends_message i e = false

abbrev pub takes_message : ℕ → Event → Bool
takes_message i (TakeMsg cpu msg round) = msg.0 == i
takes_message i e = false

abbrev pub drops_message : ℕ → Event → Bool
drops_message i (DropMsg cpu msg) = msg.0 == i
drops_message i e = false

abbrev pub replies_to_message : ℕ → Event → Bool
replies_to_message i (Reply cpu msg) = msg.0 == i
replies_to_message i e = false

abbrev pub reaps_message : ℕ → Event → Bool
reaps_message i (Reap cpu msg) = msg.0 == i
reaps_message i e = false

abbrev pub takes_or_drops : ℕ → Event → Bool
takes_or_drops i e = takes_message i e || drops_message i e

abbrev pub reaps_or_drops : ℕ → Event → Bool
reaps_or_drops i e = reaps_message i e || drops_message i e

-- a law: how often each thing was done with a message grows in a run by the events that did it
abbrev pub CountsAreEvents : Type 0
CountsAreEvents = (m : Machine) (events : List Event) (n : Machine) (i : ℕ) (msg last : Message) → Run m events n → slice_get m.messages i ≡ Some msg → slice_get n.messages i ≡ Some last
    → (last.sends ≡ msg.sends + count_by (sends_message i) events)
    × (last.takes ≡ msg.takes + count_by (takes_message i) events)
    × (last.drops ≡ msg.drops + count_by (drops_message i) events)
    × (last.replies ≡ msg.replies + count_by (replies_to_message i) events)
    × (last.reaps ≡ msg.reaps + count_by (reaps_message i) events)

-- between any two events of one kind lies one of another
abbrev pub LiesBetween : (Event → Bool) → (Event → Bool) → List Event → Type 0
LiesBetween q p events = (front between rest : List Event) (e d : Event) → events ≡ front ++ (e ∷ (between ++ d ∷ rest)) → p e ≡ true → p d ≡ true → (f : Event) × (Contains between f × (q f ≡ true))

-- a law: in a run a send of a message lies between any two of its takes or drops, a take between any two of its replies, and a
-- reap or drop between any two of its sends (msgport(9); the drop is own)
abbrev pub MessagesGoRound : Type 0
MessagesGoRound = (m : Machine) (events : List Event) (n : Machine) (i : ℕ) → Run m events n
    → LiesBetween (sends_message i) (takes_or_drops i) events × LiesBetween (takes_message i) (replies_to_message i) events × LiesBetween (reaps_or_drops i) (sends_message i) events

-- a law: from one send of a message to the next it is taken or dropped at most once, and replied to at most once
abbrev pub EachSendIsAnsweredOnce : Type 0
EachSendIsAnsweredOnce = (m : Machine) (events : List Event) (n : Machine) (i : ℕ) (front part rest : List Event) (e : Event) → Run m events n → events ≡ front ++ (e ∷ (part ++ rest)) → sends_message i e ≡ true → All (λ f. sends_message i f ≡ false) part
    → (count_by (takes_or_drops i) part ≤ 1) × (count_by (replies_to_message i) part ≤ 1)

-- a law: a message is taken in the round in which it was last sent, by the processor that it was sent to, and that one replies
abbrev pub AnswersAreOfTheirSend : Type 0
AnswersAreOfTheirSend = (m : Machine) (events : List Event) (n : Machine) (front part rest : List Event) (origin to cpu : CpuId) (msg : MsgId) (round other : ℕ) (e : Event)
    → Run m events n → events ≡ front ++ (Send origin msg to round ∷ (part ++ e ∷ rest)) → All (λ f. sends_message msg.0 f ≡ false) part
    → (e ≡ TakeMsg cpu msg other → (cpu ≡ to) × (other ≡ round)) × (e ≡ Reply cpu msg → cpu ≡ to)

-- a written section of a token: the generation in which it was made, the row that it began with, the row that it left, and the
-- records likewise
pub record Section : Type 0 where
  pub generation : ℕ
  pub before : List ℕ
  pub left : List ℕ
  pub found : Option (List ℕ)
  pub kept : Option (List ℕ)

abbrev pub section_of : Token → Section
section_of tok = record { generation = tok.generation; before = tok.first; left = tok.row; found = tok.first_blob; kept = tok.blob }

-- an event ends a written section of a token
abbrev pub ends_written : ℕ → Event → Bool
ends_written t (GiveWritten cpu tok section) = tok.0 == t
ends_written t e = false

-- the written sections of a token in a run, in order
abbrev pub sections_of : ℕ → Machine → List Event → List Section
sections_of t m [] = []
sections_of t m (e ∷ events) = (if ends_written t e then map section_of (option_to_list (slice_get m.tokens t)) else []) ++ sections_of t (after m e) events

-- from one generation and row to another: each section is of the next generation, and begins with the row that the last one left
abbrev pub IsChain : ℕ → List ℕ → List Section → ℕ → List ℕ → Type 0
IsChain generation row [] end_generation end_row = (end_generation ≡ generation) × (end_row ≡ row)
IsChain generation row (s ∷ sections) end_generation end_row = (s.generation ≡ generation) × (s.before ≡ row) × IsChain (generation + 1) s.left sections end_generation end_row

-- a law: the written sections of a token in a run are a chain, and each leaves another row or another record than it began with,
-- and lawful ones (own)
abbrev pub SectionsAreChain : Type 0
SectionsAreChain = (m : Machine) (events : List Event) (n : Machine) (t : ℕ) (tok last : Token) → Run m events n → slice_get m.tokens t ≡ Some tok → slice_get n.tokens t ≡ Some last
    → IsChain tok.generation tok.first (sections_of t m events) last.generation last.first × All (λ s. (¬ ((s.left ≡ s.before) × (s.kept ≡ s.found))) × Obeys tok.law tok.param s.left (length_of s.kept)) (sections_of t m events)

-- a law: between written sections the row stands: where nobody holds the token exclusively, it is the row that the last one left
abbrev pub RowsStandBetweenSections : Type 0
RowsStandBetweenSections = (m : Machine) (events : List Event) (n : Machine) (t : ℕ) (tok last : Token) → IsSafe m → Run m events n → slice_get m.tokens t ≡ Some tok → slice_get n.tokens t ≡ Some last
    → IsOpen tok → IsOpen last → IsChain tok.generation tok.row (sections_of t m events) last.generation last.row

-- from one record to another: each section begins with the record that the last one left
abbrev pub IsRecordChain : Option (List ℕ) → List Section → Option (List ℕ) → Type 0
IsRecordChain blob [] end_blob = end_blob ≡ blob
IsRecordChain blob (s ∷ sections) end_blob = (s.found ≡ blob) × IsRecordChain s.kept sections end_blob

-- a law: the records of the written sections of a token in a run are a chain too (own)
abbrev pub RecordsAreChain : Type 0
RecordsAreChain = (m : Machine) (events : List Event) (n : Machine) (t : ℕ) (tok last : Token) → Run m events n → slice_get m.tokens t ≡ Some tok → slice_get n.tokens t ≡ Some last
    → IsRecordChain tok.first_blob (sections_of t m events) last.first_blob

-- a law: between written sections the record stands: where nobody holds the token exclusively, it is the one that the last one left
abbrev pub RecordsStandBetweenSections : Type 0
RecordsStandBetweenSections = (m : Machine) (events : List Event) (n : Machine) (t : ℕ) (tok last : Token) → IsSafe m → Run m events n → slice_get m.tokens t ≡ Some tok → slice_get n.tokens t ≡ Some last
    → IsOpen tok → IsOpen last → IsRecordChain tok.blob (sections_of t m events) last.blob

-- the record of a token after an event, and after some: the last one that was written
abbrev pub blob_after : ℕ → Option (List ℕ) → Event → Option (List ℕ)
blob_after t blob (WriteBlob cpu tok new) = if tok.0 == t then Some new else blob
blob_after t blob e = blob

abbrev pub blob_after_all : ℕ → Option (List ℕ) → List Event → Option (List ℕ)
blob_after_all t blob [] = blob
blob_after_all t blob (e ∷ events) = blob_after_all t (blob_after t blob e) events

-- the records that the written sections of a token leave: those last written before their ends
abbrev pub blobs_left : ℕ → Option (List ℕ) → List Event → List (Option (List ℕ))
blobs_left t blob [] = []
blobs_left t blob (e ∷ events) = (if ends_written t e then (blob ∷ []) else []) ++ blobs_left t (blob_after t blob e) events

-- a law: the record of a token is the one last written in a run, and each written section leaves the one last written before its
-- end; where none was written yet, the one that the run began with (own)
abbrev pub RecordsAreLastWritten : Type 0
RecordsAreLastWritten = (m : Machine) (events : List Event) (n : Machine) (t : ℕ) (tok last : Token) → Run m events n → slice_get m.tokens t ≡ Some tok → slice_get n.tokens t ≡ Some last
    → (last.blob ≡ blob_after_all t tok.blob events) × (map (λ s. s.kept) (sections_of t m events) ≡ blobs_left t tok.blob events)
