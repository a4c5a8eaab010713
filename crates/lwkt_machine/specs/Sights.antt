-- A processor of a machine sees what has been sent to it, and takes it in (own).
use Rattle.std.specs.Prelude.{◌≡◌, ◌≢◌, ℕ, ◌≤◌, List, [], ◌∷◌, length, Some, slice_get, slice_index_or, Vec}
use Rattle.std.specs.declared.alloc.Global.{Global}
use Rattle.lwkt_core.specs.declared.events.Event.{Event}
use Rattle.lwkt_port.specs.declared.lines.Lane.{Lane}
use Rattle.lwkt_port.specs.Posts.{ChangesOne}
use Rattle.lwkt_port.specs.Sights.{SeesAll, SeesOwnLine, LooksBeside, IsDelivered}
use Rattle.lwkt_cpu.specs.declared.turns.TheConstants.{TURN_NOTES}
use Rattle.lwkt_cpu.specs.Processors.{Processor}
use Rattle.lwkt_cpu.specs.Sights.{SeesLane}
use Rattle.lwkt_cpu.specs.Waking.{TakesMail}
use Rattle.lwkt_drive.specs.declared.driven.Driven.{Driven}

-- a step of the look: a processor sees all that each of these others has put into the queue of the lane to it, one after another
abbrev pub SeesEach : {B : Type 0} → Processor B → Processor B → List (Processor B) → List (Processor B) → Type 0
SeesEach p q [] [] = q ≡ p
SeesEach p q [] (_ ∷ _) = ⊥
SeesEach p q (_ ∷ _) [] = ⊥
SeesEach {B} p q (s ∷ olds) (s' ∷ news) = (mid : Processor B) × (SeesLane s s' p mid × SeesEach mid q olds news)

-- of a processor no more changed than that its line to the processor of this number was looked at
pub record IsLookedAt {B : Type 0} (cpu : ℕ) (s s' : Processor B) : Type 0 where
  pub line : ChangesOne LooksBeside cpu s.post.lanes s'.post.lanes
  pub else_same : s' ≡ record s { post = record s.post { lanes = s'.post.lanes } }

-- the processor of this number saw all that each of these processors, itself too, had put into the queue of the lane to it; nothing
-- else of it changed
pub record SeesFrom {B : Type 0} (cpu : ℕ) (cpus : List (Processor B)) (p p' : Processor B) : Type 0 where
  pub as_many : length p'.post.lanes ≡ length p.post.lanes
  pub others : (k : ℕ) (s : Processor B) (d e : Lane) → k ≢ cpu → slice_get cpus k ≡ Some s → SeesAll (slice_index_or s.post.lanes cpu d).out (slice_index_or p.post.lanes k e) (slice_index_or p'.post.lanes k e)
  pub own : (d : Lane) → SeesOwnLine (slice_index_or p.post.lanes cpu d) (slice_index_or p'.post.lanes cpu d)
  pub rest : (k : ℕ) (d : Lane) → length cpus ≤ k → slice_index_or p'.post.lanes k d ≡ slice_index_or p.post.lanes k d
  pub else_same : p' ≡ record p { post = record p.post { lanes = p'.post.lanes } }

-- of these processors the one of this number saw all that was sent to it, and no more changed of the others than this takes
pub record SeesSent {B : Type 0} (cpu : ℕ) (olds news : List (Processor B)) : Type 0 where
  pub as_many : length news ≡ length olds
  pub others : (k : ℕ) (s s' : Processor B) → k ≢ cpu → slice_get olds k ≡ Some s → slice_get news k ≡ Some s' → IsLookedAt cpu s s'
  pub sees : (p p' : Processor B) → slice_get olds cpu ≡ Some p → slice_get news cpu ≡ Some p' → SeesFrom cpu olds p p'

-- of one that is driven nothing changed but the processor
abbrev pub KeepsLog : {B : Type 0} → Driven B → Driven B → Type 0
KeepsLog old new = new ≡ record old { cpu = new.cpu }

-- what each processor, also this one itself, had put into the queue of its lane to the one of this number is received by that one as it
-- takes mail in, in order, unless its line keeps a note that found its port's queue full, or it took in the 16 notes of a turn
abbrev pub AreDelivered : {B : Type 0} (cpu : ℕ) (olds : List (Processor B)) {p q : Processor B} {t u : Vec Event Global} → TakesMail p q t u → Type 0
AreDelivered {B} cpu olds mail = (k : ℕ) (s : Processor B) (d e : Lane) → slice_get olds k ≡ Some s → IsDelivered TURN_NOTES mail.count (slice_index_or s.post.lanes cpu d).out (slice_index_or mail.post.lanes k e)
