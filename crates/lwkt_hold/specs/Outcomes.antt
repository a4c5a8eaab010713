-- What a call on a list that is held comes to: what it did, or that it changed nothing.
use Rattle.std.specs.Prelude.{◌≡◌, ◌≢◌, ℕ, List, [], ◌∷◌, ◌++◌, length, Some, Vec, slice_index, slice_set}
use Rattle.std.specs.declared.alloc.Global.{Global}
use Rattle.lwkt_base.specs.declared.faults.Fault.{Fault}
use Rattle.lwkt_base.specs.declared.faults.Fault.TheVariants.{Worn as WasWorn}
use Rattle.lwkt_base.specs.declared.names.CpuId.{CpuId}
use Rattle.lwkt_base.specs.declared.names.TokId.{TokId}
use Rattle.lwkt_base.specs.declared.names.Mode.{Mode}
use Rattle.lwkt_base.specs.declared.names.Mode.TheVariants.{Exclusive, Shared}
use Rattle.lwkt_base.specs.declared.names.Ref.{Ref}
use Rattle.lwkt_base.specs.Holding.{holding_of}
use Rattle.lwkt_core.specs.declared.events.Event.{Event}
use Rattle.lwkt_core.specs.declared.events.Event.TheVariants.{Mark, Read, Write, ReadBlob, WriteBlob}
use Rattle.lwkt_bank.specs.declared.seats.CpuSeat.{CpuSeat}
use Rattle.lwkt_bank.specs.Seats.{holding}
use Rattle.lwkt_hold.specs.declared.answers.Acquired.{Acquired}
use Rattle.lwkt_hold.specs.declared.answers.Acquired.TheVariants.{Got, MustSwitch}
use Rattle.lwkt_hold.specs.declared.answers.Missed.{Missed}
use Rattle.lwkt_hold.specs.declared.answers.Missed.TheVariants.{Worn}
use Rattle.lwkt_hold.specs.Fronts.{IsFront}
use Rattle.lwkt_hold.specs.Misses.{Misses, fault_of}
use Rattle.lwkt_hold.specs.Runs.{Ran}
use Rattle.lwkt_hold.specs.Rows.{row, blob, SameRow, OnlyRow, OnlyRecord}
use Rattle.lwkt_core.specs.Takings.{taking_event}
use Rattle.lwkt_hold.specs.Takings.{TakesRows}

-- a call on the list that is held: what it did is at most one event, within the fronts of the list, and the list is held as before (own)
pub record Keeps (refs : List Ref) (old new : CpuSeat) (before now : Vec Event Global) : Type 0 where
  pub ran : Ran (IsFront refs) 1 old new before now
  pub held : holding new ≡ holding_of refs

-- nothing was changed: trace, holding, rows and records are as before; what the seat knows may have grown (own)
pub record ChangesNothing (old new : CpuSeat) (before now : Vec Event Global) : Type 0 where
  pub silent : now ≡ before
  pub held : holding new ≡ holding old
  pub rows : (tok : ℕ) → SameRow old new tok

-- a cell of a token was read: the value in the token's row, which stays as it was (own)
pub record Reads (old new : CpuSeat) (tok : TokId) (cell value : ℕ) (before now : Vec Event Global) : Type 0 where
  pub value_is : value ≡ slice_index (row old tok.0) cell
  pub traced : now.items ≡ before.items ++ Read old.cpu tok cell value ∷ []
  pub rows : OnlyRow old new tok.0 (row old tok.0)

-- a value was stored in a cell of a token: the token's row has it there, and no other cell or record changed (own)
pub record Writes (old new : CpuSeat) (tok : TokId) (cell value : ℕ) (before now : Vec Event Global) : Type 0 where
  pub traced : now.items ≡ before.items ++ Write old.cpu tok cell value ∷ []
  pub rows : OnlyRow old new tok.0 (slice_set (row old tok.0) cell value)

-- the record of a token was read, and stays as it was (own)
pub record ReadsRecord (old new : CpuSeat) (tok : TokId) (bytes : List ℕ) (before now : Vec Event Global) : Type 0 where
  pub value_is : blob old tok.0 ≡ Some bytes
  pub traced : now.items ≡ before.items ++ ReadBlob old.cpu tok bytes ∷ []
  pub records : OnlyRecord old new tok.0 (blob old tok.0)

-- the record of a token was written, and no cell or other record changed (own)
pub record WritesRecord (old new : CpuSeat) (tok : TokId) (bytes : List ℕ) (before now : Vec Event Global) : Type 0 where
  pub traced : now.items ≡ before.items ++ WriteBlob old.cpu tok bytes ∷ []
  pub records : OnlyRecord old new tok.0 (Some bytes)

-- a reference is last on a list and held, as a first one to its token or a further one (token(9))
pub record Takes (refs now : List Ref) (last : Ref) (old new : CpuSeat) (before after : Vec Event Global) : Type 0 where
  pub pushed : now ≡ refs ++ last ∷ []
  pub traced : after.items ≡ before.items ++ taking_event old.cpu refs last ∷ []
  pub held : holding new ≡ holding_of now
  pub rows : TakesRows old new

-- the mark of a request that was missed: an exclusive one puts it on its token, a shared one puts none (lwkt_token.c's comments)
abbrev pub Marks : Mode → CpuId → TokId → Vec Event Global → Vec Event Global → Type 0
Marks Exclusive cpu tok before after = after.items ≡ before.items ++ Mark cpu tok ∷ []
Marks Shared cpu tok before after = after ≡ before

-- a reference is last on a list and was missed: the rest of the list is held as before, and no row or record changed; its thread has to
-- give up what it holds and take the whole list again (token(9))
pub record Switches (refs now : List Ref) (last : Ref) (why : Missed) (old new : CpuSeat) (before after : Vec Event Global) : Type 0 where
  pub pushed : now ≡ refs ++ last ∷ []
  pub misses : Misses old new now (length refs) why
  pub not_worn : why ≢ Worn
  pub marks : Marks last.mode old.cpu last.tok before after
  pub ran : Ran (IsFront refs) 1 old new before after
  pub held : holding new ≡ holding_of refs
  pub rows : (tok : ℕ) → SameRow old new tok

-- what asking for a reference comes to
abbrev pub Acquires : List Ref → List Ref → Ref → CpuSeat → CpuSeat → Vec Event Global → Vec Event Global → Acquired → Type 0
Acquires refs now last old new before after Got = Takes refs now last old new before after
Acquires refs now last old new before after (MustSwitch why) = Switches refs now last why old new before after

-- the fault of a missed reference, which among the seat's steps has those of the missed try; and of one at the last generation
abbrev pub IsMissed : List Ref → Ref → CpuSeat → CpuSeat → Fault → Type 0
IsMissed refs last old new fault = (why : Missed) × ((fault ≡ fault_of why) × Misses old new (refs ++ last ∷ []) (length refs) why)

abbrev pub IsWorn : List Ref → Ref → CpuSeat → CpuSeat → Fault → Type 0
IsWorn refs last old new fault = (fault ≡ WasWorn) × Misses old new (refs ++ last ∷ []) (length refs) Worn
