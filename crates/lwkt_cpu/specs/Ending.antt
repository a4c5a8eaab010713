-- What the end of a thread does to its port: it is closed (own).
use Rattle.std.specs.Prelude.{◌≡◌, ℕ, Bool, true, false, not, List, length, Some, slice_get}
use Rattle.lwkt_base.specs.declared.faults.Fault.TheVariants.{Worn as WornOut}
use Rattle.lwkt_port.specs.Chains.{Chain}
use Rattle.lwkt_port.specs.Closings.{PostCloses}
use Rattle.lwkt_port.specs.Posts.{Post}
use Rattle.lwkt_cpu.specs.declared.phases.ToClose.{ToClose}
use Rattle.lwkt_cpu.specs.declared.phases.ToClose.TheVariants.{Worn, Others}
use Rattle.lwkt_cpu.specs.declared.phases.Phase.{Phase}
use Rattle.lwkt_cpu.specs.declared.phases.Phase.TheVariants.{Faulted}
use Rattle.lwkt_cpu.specs.declared.threads.Thread.{Thread}
use Rattle.lwkt_cpu.specs.Processors.{is_over}

-- the port of a thread is closed, if it is to be; else the ports stay as they are
abbrev pub ClosesIf : Bool → ℕ → Post → Post → Type 0
ClosesIf true number p q = PostCloses number p q
ClosesIf false number p q = q ≡ p

-- the same of the thread of a number, by what it is doing
abbrev pub ClosesAt : (Phase → Bool) → List Thread → ℕ → Post → Post → Type 0
ClosesAt which threads number p q = (t : Thread) × ((slice_get threads number ≡ Some t) × ClosesIf (which t.phase) number p q)

-- the ports of all such threads are closed, by rising number, and no other port
abbrev pub ClosesPorts : (Phase → Bool) → List Thread → Post → Post → Type 0
ClosesPorts which threads p q = Chain Post (ClosesAt which threads) (length threads) p q

-- whether a thread was ended by a last generation, which only a search for the next thread does
abbrev pub is_worn : Phase → Bool
is_worn (Faulted WornOut) = true
is_worn _ = false

-- whether a thread hasn't ended
abbrev pub has_not_ended : Phase → Bool
has_not_ended phase = not (is_over phase)

-- whether the ports of threads that do so are among those that are closed
abbrev pub includes : ToClose → Phase → Bool
includes Worn = is_worn
includes Others = has_not_ended
