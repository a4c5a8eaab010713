use Rattle.std.specs.Prelude.{◌≡◌, ℕ, ◌≤◌, List, replicate, length, IsSomeAnd, Option, Some, None, slice_get}
use Rattle.lwkt_base.specs.Refs.{IsLawfulList}
use Rattle.lwkt_bank.specs.declared.seats.CpuSeat.{CpuSeat}
use Rattle.lwkt_port.specs.Posts.{Post}
use Rattle.lwkt_cpu.specs.declared.answers.Status.{Status}
use Rattle.lwkt_cpu.specs.Fresh.{fresh}
use Rattle.lwkt_cpu.specs.Processors.{Processor, thread_state, is_running}

-- a processor over a seat, with these bodies and a thread for each, none of which runs
pub record IsNewCpu {B : Type 0} (seat : CpuSeat) (post : Post) (bodies : List B) (p : Processor B) : Type 0 where
  pub seat_is : p.seat ≡ seat
  pub post_is : p.post ≡ post
  pub bodies_are : p.bodies ≡ bodies
  pub threads_are : p.threads ≡ replicate (length bodies) fresh
  pub none_runs : p.running ≡ None
  pub cursor_is : p.cursor ≡ 0

-- what is shown of a thread, if there is one: what it is doing, and its list, which is a lawful one
abbrev pub ShowsThread : {B : Type 0} → Processor B → ℕ → Option Status → Type 0
ShowsThread p i None = length p.threads ≤ i
ShowsThread p i (Some status) = IsSomeAnd (slice_get p.threads i) (λ t. (status.state ≡ thread_state (is_running p.running i) t.phase) × (status.list.now ≡ t.list) × IsLawfulList t.list)
