use Rattle.std.specs.Prelude.{◌≡◌, ℕ, ◌<◌, ◌≤◌, List, [], ◌∷◌, length, map, All, take, IfSome, MatchOption, slice_get}
use Rattle.lwkt_base.specs.declared.laws.Law.{Law}
use Rattle.lwkt_base.specs.declared.laws.Law.TheVariants.{Any, Sum, Order, Cap, Tally, Len}
use Rattle.lwkt_base.specs.declared.owners.MsgEnd.{MsgEnd}
use Rattle.lwkt_core.specs.declared.messages.Message.{Message}
use Rattle.lwkt_core.specs.declared.events.Event.{Event}
use Rattle.lwkt_core.specs.declared.finals.Final.{Final}
use Rattle.lwkt_core.specs.Tokens.{IsFree}
use Rattle.lwkt_core.specs.Machine.{Machine, Needs, Happens}

-- what a Tally token shows of its tallies: one number for each processor; any other token shows none
abbrev pub shown_tallies : Law → ℕ → List ℕ → List ℕ
shown_tallies Tally cpus tallies = take cpus tallies
shown_tallies Any cpus tallies = []
shown_tallies Sum cpus tallies = []
shown_tallies Order cpus tallies = []
shown_tallies Cap cpus tallies = []
shown_tallies Len cpus tallies = []

-- the owner state and round of a message
abbrev pub end_of : Message → MsgEnd
end_of msg = record { round = msg.round; state = msg.owner }

-- nobody holds a token, and the rows, generations, tallies, records, owner states and rounds are these
pub record Closes (m : Machine) (last : Final) : Type 0 where
  pub free : All IsFree m.tokens
  pub rows : last.rows.items ≡ map (λ tok. tok.row) m.tokens
  pub gens : last.gens.items ≡ map (λ tok. tok.generation) m.tokens
  pub tallies : last.tallies.items ≡ map (λ tok. shown_tallies tok.law m.cpus tok.tallies) m.tokens
  pub blobs : last.blobs.items ≡ map (λ tok. tok.blob) m.tokens
  pub messages : last.messages.items ≡ map end_of m.messages

-- the events happen one after another, from the first machine to the last
abbrev pub Run : Machine → List Event → Machine → Type 0
Run m [] n = n ≡ m
Run m (e ∷ events) n = (mid : Machine) × (Happens m e mid × Run mid events n)

-- the events can happen one after another, from a machine (own)
abbrev pub CanHappen : Machine → List Event → Type 0
CanHappen m events = (end : Machine) × Run m events end

-- a list of events is a lawful trace from a machine to closing values (own)
abbrev pub IsLawfulTrace : Machine → List Event → Final → Type 0
IsLawfulTrace m events last = (end : Machine) × (Run m events end × Closes end last)

-- the event of this index is the first that can't happen, and this is the machine in which it can't
pub record StopsAt (m : Machine) (events : List Event) (index : ℕ) (mid : Machine) : Type 0 where
  pub inside : index < length events
  pub before : Run m (take index events) mid
  pub fails : IfSome (slice_get events index) (λ e. ¬ Needs mid e)

-- the event of this index is the first that can't happen, or the index is the number of events and only the close differs
pub record FailsAt (m : Machine) (events : List Event) (last : Final) (index : ℕ) : Type 0 where
  pub within : index ≤ length events
  pub mid : Machine
  pub before : Run m (take index events) mid
  pub fails : MatchOption (slice_get events index) (¬ Closes mid last) (λ e. ¬ Needs mid e)

-- a law: an index at which a trace fails shows that it isn't lawful
abbrev pub FailureRefutes : Type 0
FailureRefutes = (m : Machine) (events : List Event) (last : Final) (index : ℕ) → FailsAt m events last index → ¬ IsLawfulTrace m events last

-- a law: a trace fails at one index only
abbrev pub FailureIsOnly : Type 0
FailureIsOnly = (m : Machine) (events : List Event) (last : Final) (index other : ℕ) → FailsAt m events last index → FailsAt m events last other → index ≡ other

-- a law: where events stop, they can't all happen
abbrev pub StopRefutes : Type 0
StopRefutes = (m : Machine) (events : List Event) (index : ℕ) (mid : Machine) → StopsAt m events index mid → ¬ CanHappen m events
