use Rattle.std.specs.Prelude.{◌≡◌, ℕ, ◌<◌, ◌≤◌, List, length, slice_index_or, slice_set, map, All, IfSome, Option, Some, None, Vec, vec_len}
use Rattle.std.specs.Coded.{×_prop, Unit-prop, le_prop}
use Rattle.std.specs.declared.alloc.Global.{Global}
use Rattle.lwkt_base.specs.declared.limits.TheConstants.{THREAD_LIMIT}
use Rattle.lwkt_lane.specs.declared.notes.Note.{Note}
use Rattle.lwkt_lane.specs.Lane.{LaneId, out_lane, in_lane}
use Rattle.lwkt_msg.specs.Desks.{Desk, cpus_of, IsSameDesk}
use Rattle.lwkt_port.specs.declared.lines.Lane.{Lane}
use Rattle.lwkt_port.specs.declared.mails.Mail.{Mail}
use Rattle.lwkt_port.specs.declared.queues.Port.{Port}
use Rattle.lwkt_port.specs.declared.opened_ports.TheConstants.{PORTS}
use Rattle.lwkt_core.specs.declared.events.Event.{Event}
use Rattle.lwkt_port.specs.Lines.{HasNoneInHand}
use Rattle.lwkt_port.specs.Mails.{AreMails}
use Rattle.lwkt_port.specs.Queues.{NamesBoth, HasNamed, all-prop}
use Rattle.lwkt_port.specs.Works.{Work}

-- what callers see of a processor's ports: its seat, its lanes to and from each processor, the ports of its threads, and what is
-- kept of each message
pub record Post : Type 0 where
  pub seat : Desk
  pub lanes : List Lane
  pub ports : List Port
  pub mails : List Mail
  pub threads : ℕ

-- what a step on messages changes of it, with the trace
abbrev pub work_of : Post → Vec Event Global → Work
work_of p trace = record { seat = p.seat; mails = p.mails; trace = trace.items }

-- a note that was kept for its lane names a message and a port
abbrev pub KeepsNamed : ℕ → Lane → Type 0
KeepsNamed n line = IfSome line.kept (NamesBoth n)

pub keeps_named-prop : (n : ℕ) (kept : Option Note) → IsProp (IfSome kept (NamesBoth n))
keeps_named-prop n None = Unit-prop
keeps_named-prop n (Some note) = ×_prop le_prop le_prop

pub have_kept-prop : (n : ℕ) (lanes : List Lane) → IsProp (All (KeepsNamed n) lanes)
have_kept-prop n lanes = all-prop (KeepsNamed n) (λ line. keeps_named-prop n line.kept) lanes

-- a processor's ports are in order: lanes to and from each processor, 16 ports, and what is kept of each message fits the seat
pub record IsPost (p : Post) : Type 0 where
  pub lanes_are : length p.lanes ≡ cpus_of p.seat
  pub ports_are : length p.ports ≡ PORTS
  pub few : p.threads ≤ THREAD_LIMIT
  pub mails_are : AreMails p.seat p.mails
  pub queued : All (HasNamed (length p.mails)) p.ports
  pub kept : All (KeepsNamed (length p.mails)) p.lanes

-- one of the things of a list changed like this, and no other
pub record ChangesOne {A : Type 0} (R : A → A → Type 0) (i : ℕ) (xs ys : List A) : Type 0 where
  pub old : A
  pub new : A
  pub there : i < length xs
  pub was : slice_index_or xs i old ≡ old
  pub now : ys ≡ slice_set xs i new
  pub does : R old new

-- the lanes of a processor's lines, by their sending ends, and by their receiving ends
abbrev pub out_lanes : List Lane → List LaneId
out_lanes lanes = map (λ (line : Lane). out_lane line.out) lanes

abbrev pub in_lanes : List Lane → List LaneId
in_lanes lanes = map (λ (line : Lane). in_lane line.into) lanes

-- lines go over the lanes that they went over before
pub record AreSameLanes (lanes lanes' : List Lane) : Type 0 where
  pub outs : out_lanes lanes' ≡ out_lanes lanes
  pub ins : in_lanes lanes' ≡ in_lanes lanes

-- lines are as many as they were, and the notes that they keep name messages and ports as they did; none is in hand where none was
pub record AreStillLines (lanes lanes' : Vec Lane Global) : Type 0 where
  pub as_many : vec_len lanes' ≡ vec_len lanes
  pub named : (n : ℕ) → All (KeepsNamed n) lanes.items → All (KeepsNamed n) lanes'.items
  pub hands : All HasNoneInHand lanes.items → All HasNoneInHand lanes'.items

-- the ports are still those that they were: over the same seat and the same lanes, for as many threads
pub record IsSamePost (p p' : Post) : Type 0 where
  pub seat : IsSameDesk p.seat p'.seat
  pub lanes : AreSameLanes p.lanes p'.lanes
  pub threads : p'.threads ≡ p.threads
