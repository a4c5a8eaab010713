use Rattle.std.specs.Prelude.{◌≡◌, ℕ, ◌+◌, ◌≤◌, List, [], Vec, vec_len, vec_capacity, take}
use Rattle.std.specs.declared.alloc.Global.{Global}
use Rattle.lwkt_base.specs.declared.names.Ref.{Ref}
use Rattle.lwkt_base.specs.Holding.{Holding, holding_of}
use Rattle.lwkt_core.specs.declared.events.Event.{Event}
use Rattle.lwkt_bank.specs.declared.seats.CpuSeat.{CpuSeat}
use Rattle.lwkt_hold.specs.Fronts.{IsFront, IsBetween}
use Rattle.lwkt_hold.specs.Runs.{Ran}

-- a theorem: where nothing is done, each holding on the way is such a one, at most any number of events
abbrev pub NothingRuns : Type 0
NothingRuns = (refs others : List Ref) (most : ℕ) (s : CpuSeat) (t : Vec Event Global) → Ran (IsBetween refs others) most s s t t

-- a theorem: one call after another is one run, of at most the events of both
abbrev pub RunsChain : Type 0
RunsChain = (refs others : List Ref) (m n : ℕ) (a b c : CpuSeat) (t u v : Vec Event Global) → Ran (IsBetween refs others) m a b t u → Ran (IsBetween refs others) n b c u v → Ran (IsBetween refs others) (m + n) a c t v

-- a theorem: a run within the fronts of one of two lists is one within the fronts of both, and the bound may be wider
abbrev pub RunsWiden : Type 0
RunsWiden = (refs others : List Ref) (m n : ℕ) (a b : CpuSeat) (t u : Vec Event Global) → m ≤ n → Ran (IsFront refs) m a b t u → Ran (IsBetween refs others) n a b t u × Ran (IsBetween others refs) n a b t u

-- a theorem: a run over a trace that was given more room is a run over it
abbrev pub RoomIsNothing : Type 0
RoomIsNothing = (refs others : List Ref) (most : ℕ) (a b : CpuSeat) (t u v : Vec Event Global) → u.items ≡ t.items → vec_len u ≡ vec_len t → vec_capacity t ≤ vec_capacity u → Ran (IsBetween refs others) most a b u v → Ran (IsBetween refs others) most a b t v

-- a theorem: what a list holds is a front of it, and so is what the first few of its references hold, and nothing at all
abbrev pub FrontsAreHeld : Type 0
FrontsAreHeld = (refs : List Ref) (n : ℕ) (holding : Holding) → (holding ≡ holding_of refs → IsFront refs holding) × (IsFront (take n refs) holding → IsFront refs holding) × (IsFront [] holding → IsFront refs holding)
