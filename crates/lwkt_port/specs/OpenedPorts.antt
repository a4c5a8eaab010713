-- A processor's ports as they are opened.
use Rattle.std.specs.Prelude.{◌≡◌, ℕ, ◌<◌, ◌≤◌, ◌==◌, nat_le, false, List, [], length, map, zip, Some, None, slice_get}
use Rattle.lwkt_base.specs.declared.names.CpuId.{CpuId}
use Rattle.lwkt_base.specs.declared.names.ThreadId.{ThreadId}
use Rattle.lwkt_base.specs.declared.opening_specs.MsgSpec.{MsgSpec}
use Rattle.lwkt_base.specs.declared.limits.TheConstants.{THREAD_LIMIT}
use Rattle.lwkt_lane.specs.declared.ins.LaneIn.{LaneIn}
use Rattle.lwkt_lane.specs.declared.outs.LaneOut.{LaneOut}
use Rattle.lwkt_msg.specs.Desks.{Desk, desk_cpu, cpus_of, messages_of, entry, opened_entry}
use Rattle.lwkt_msg.specs.Views.{spec_at}
use Rattle.lwkt_port.specs.declared.lines.Lane.{Lane}
use Rattle.lwkt_port.specs.declared.mails.Mail.{Mail}
use Rattle.lwkt_port.specs.declared.queues.Port.{Port}
use Rattle.lwkt_port.specs.declared.opened_ports.TheConstants.{PORTS}
use Rattle.lwkt_port.specs.Posts.{Post}
use Rattle.lwkt_port.specs.Queues.{queue_of}

-- what is kept of a message at the opening: it is at home at its origin
abbrev pub new_mail : CpuId → ThreadId → Mail
new_mail cpu origin = record { origin = origin; round = 0; urgent = false; done = None; owed = None; shown = None; home = origin.cpu.0 == cpu.0; sync = false }

-- the port of a number as it is opened for so many threads: without notes, and closed if its thread isn't there
abbrev pub IsNewPort : ℕ → ℕ → Port → Type 0
IsNewPort threads number port = (queue_of port ≡ []) × (port.closed ≡ nat_le threads number)

abbrev pub AreNew : ℕ → List Port → Type 0
AreNew threads ports = (number : ℕ) (port : Port) → slice_get ports number ≡ Some port → IsNewPort threads number port

-- the 16 ports as they are opened
pub record AreNewPorts (threads : ℕ) (ports : List Port) : Type 0 where
  pub as_many : length ports ≡ PORTS
  pub new : AreNew threads ports

-- the line of two ends
abbrev pub new_line : LaneOut × LaneIn → Lane
new_line ends = record { out = ends.0; into = ends.1; kept = None }

abbrev pub ArePaired : List LaneOut → List LaneIn → List Lane → Type 0
ArePaired outs ins lanes = lanes ≡ map new_line (zip outs ins)

-- the limits are kept: at most 16 threads, one lane each way for each processor, one origin for each message
pub record KeepLimits (seat : Desk) (outs : List LaneOut) (ins : List LaneIn) (origins : List ThreadId) (threads : ℕ) : Type 0 where
  pub few : threads ≤ THREAD_LIMIT
  pub outs_are : length outs ≡ cpus_of seat
  pub ins_are : length ins ≡ cpus_of seat
  pub origins_are : length origins ≡ messages_of seat

-- the seat is as the book's opening gave it: it has its own messages at rest, and has taken none
abbrev pub IsFresh : Desk → Type 0
IsFresh seat = (m : ℕ) → m < messages_of seat → entry seat m ≡ opened_entry (desk_cpu seat).0 (spec_at seat.view.specs m)

-- the threads that the messages of the seat's book belong to
abbrev pub AreOrigins : Desk → List ThreadId → Type 0
AreOrigins seat origins = length origins ≡ messages_of seat → origins ≡ map (λ (spec : MsgSpec). spec.origin) seat.view.specs

-- a processor's ports that were just opened
pub record IsOpenedPost (cpu : CpuId) (seat : Desk) (outs : List LaneOut) (ins : List LaneIn) (origins : List ThreadId) (threads : ℕ) (p : Post) : Type 0 where
  pub seat_is : p.seat ≡ seat
  pub lanes_are : ArePaired outs ins p.lanes
  pub ports_are : AreNewPorts threads p.ports
  pub mails_are : p.mails ≡ map (new_mail cpu) origins
  pub threads_are : p.threads ≡ threads
