-- What a processor has sent arrives at the next turn of its target (own).
use Rattle.std.specs.Prelude.{◌≡◌, ◌≢◌, ℕ, List, All, Some, slice_get, slice_index_or}
use Rattle.lwkt_port.specs.declared.lines.Lane.{Lane}
use Rattle.lwkt_port.specs.Sights.{IsDelivered}
use Rattle.lwkt_cpu.specs.declared.turns.TheConstants.{TURN_NOTES}
use Rattle.lwkt_cpu.specs.Processors.{Processor}
use Rattle.lwkt_machine.specs.Bodies.{Scripted}
use Rattle.lwkt_run.specs.Running.{Scene, MakesTurns, MakesTurnAt}

-- a theorem: what a processor has put into the queue of its lane to one, another or itself, is received by that one as it takes mail in, in each
-- turn that it makes before the sender has made one again, whatever turns others make meanwhile; in order, unless its line keeps a note that
-- found its port's queue full, or the turn took in its 16 notes
abbrev pub NotesArrive : Type 0
NotesArrive = (from to : ℕ) (order : List ℕ) (x y z : Scene) → All (λ cpu. cpu ≢ from) order → MakesTurns order x y → (turn : MakesTurnAt to y z)
    → (s : Processor Scripted) (d e : Lane) → slice_get x.machine.cpus from ≡ Some s
    → IsDelivered TURN_NOTES turn.1.makes.turns.does.mail.count (slice_index_or s.post.lanes to d).out (slice_index_or turn.1.makes.turns.does.mail.post.lanes from e)
