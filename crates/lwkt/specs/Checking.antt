-- What the program says of a trace where errors go: its line, and words behind it (own).
use Rattle.std.specs.Prelude.{◌≡◌, ◌⊎◌, ℕ, List, Bool, true, false, Option, Result, Ok, Err}
use Rattle.std.specs.Io.KnownBytes.{Appends, Keeps}
use Rattle.std.specs.declared.io.Error.{Error}
use Rattle.lwkt_report.specs.Complaint.{fault_line, complaint_of, IsSaid}
use Rattle.lwkt_report.specs.declared.complaints.Program.TheVariants.{Check}
use Rattle.lwkt_report.specs.declared.streams.RunFault.{RunFault}
use Rattle.lwkt_report.specs.Stream.{BlamesFailed}
use Rattle.lwkt_refusals.specs.Sayings.{HasNoReader}
use Rattle.lwkt.specs.declared.endings.Ending.{Ending}
use Rattle.lwkt.specs.Ending.{ending_of_check}

-- a line is written, or where the sink fails a front of it, and perhaps words behind it
pub record IsSaidFirst (failed : Bool) (old new : Option (List ℕ)) (line : List ℕ) : Type 0 where
  pub mid : Option (List ℕ)
  pub said : IsSaid failed old mid line
  pub words : List ℕ
  pub behind : Appends mid new words

-- nothing goes there beside a finding; else by the name `lwkt_check` the fault line first, and by the new name words without it
abbrev pub ComplainsFirst : Bool → Bool → Option (List ℕ) → Option (List ℕ) → Result Bool RunFault → Type 0
ComplainsFirst by_old_name failed old new (Ok lawful) = Keeps old new
ComplainsFirst true failed old new (Err fault) = IsSaidFirst failed old new (fault_line Check (complaint_of fault))
ComplainsFirst false failed old new (Err fault) = (words : List ℕ) × Appends old new words

-- a write failed since nobody reads any more what is written
abbrev pub IsUnread : Bool → Option Error → Type 0
IsUnread failed error = (failed ≡ true) × HasNoReader error

-- what the program does with a trace, where this is what its check says by its answer: it ends so, and complains, by either name, if it
-- can't check, but not of a reader that went away; it blames a stream only where one has failed
pub record ChecksAloud (by_old_name : Bool) (Reports : Option (List ℕ) → Option (List ℕ) → Option (List ℕ) → Result Bool RunFault → Type 0) (source_failed sink_failed : Bool) (left old new : Option (List ℕ)) (unread : Type 0) (failed : Bool) (before after : Option (List ℕ)) (ending : Ending) : Type 0 where
  pub outcome : Result Bool RunFault
  pub reports : Reports left old new outcome
  pub complains : (unread × Keeps before after) ⊎ ((unread → ⊥) × ComplainsFirst by_old_name failed before after outcome)
  pub blames : BlamesFailed source_failed sink_failed outcome
  pub is_ending : ending ≡ ending_of_check outcome
