use Rattle.std.specs.Prelude.{◌≡◌, ◌≢◌, ◌⊎◌, ◌↔◌, ℕ, ◌+◌, ◌≤◌, Bool, true, false, List, [], ◌∷◌}
use Rattle.lwkt_base.specs.declared.faults.Fault.{Fault}
use Rattle.lwkt_base.specs.declared.faults.Fault.TheVariants.{NotOwner, NotTaken, RoundsOut, NotOut, NotDropable, NotAbortable}
use Rattle.lwkt_base.specs.declared.names.CpuId.{CpuId}
use Rattle.lwkt_base.specs.declared.records.Call.{Call}
use Rattle.lwkt_base.specs.declared.records.Rec.{Rec}
use Rattle.lwkt_base.specs.declared.records.Flags.{Flags}
use Rattle.lwkt_base.specs.declared.message_words.MsgWord.{MsgWord}
use Rattle.lwkt_base.specs.declared.message_words.MsgState.TheVariants.{Rest, Out, With, Back}
use Rattle.lwkt_base.specs.MessageWord.{message_word, MessageFits}
use Rattle.lwkt_base.specs.declared.limits.TheConstants.{LAST_ROUND}
use Rattle.lwkt_table.specs.declared.seats.Deed.{Deed}
use Rattle.lwkt_table.specs.History.{Grows}
use Rattle.lwkt_msg.specs.declared.answers.Taken.{Taken}
use Rattle.lwkt_msg.specs.declared.answers.Taken.TheVariants as taken
use Rattle.lwkt_msg.specs.declared.answers.Reaped.{Reaped}
use Rattle.lwkt_msg.specs.declared.answers.Reaped.TheVariants as reaped_
use Rattle.lwkt_msg.specs.declared.views.MessageEntry.{MessageEntry}
use Rattle.lwkt_msg.specs.declared.views.View.{View}
use Rattle.lwkt_msg.specs.Views.{call_of, at, who, looked, sent, took, answered, reaped, dropped, requested, Sees}
use Rattle.lwkt_msg.specs.Deeds.{loads, loses, sends, takes, replies, reaps, drops, requests}
use Rattle.lwkt_msg.specs.Records.{WasSent, WasAnswered, WasAskedFor, Last}
use Rattle.lwkt_msg.specs.Hands.{IsOwn}
use Rattle.lwkt_msg.specs.Steps.{sent_word, rest_word}

-- a view that differs from another in what it knows of one message, and by these deeds, between which others may have acted
pub record Does (v w : View) (m : ℕ) (e : MessageEntry) (deeds : List Deed) : Type 0 where
  pub kind : w.kind ≡ v.kind
  pub cpus : w.cpus ≡ v.cpus
  pub specs : w.specs ≡ v.specs
  pub here : at w m ≡ e
  pub else_same : (k : ℕ) → k ≢ m → at w k ≡ at v k
  pub grows : Grows (who v).0 v.past deeds w.past

-- a word of these parts was loaded, and shows what the view knows
pub record IsLoaded (v : View) (m : ℕ) (found : MsgWord) : Type 0 where
  pub fits : MessageFits found
  pub sees : Sees v m found

-- the call loaded the message's word, and did nothing else
pub record OnlyLooked (v w : View) (m : ℕ) (found : MsgWord) : Type 0 where
  pub loaded : IsLoaded v m found
  pub does : Does v w m (looked found (at v m)) (loads (who v) m (message_word found) ∷ [])

-- the message is at rest with its origin, which is this processor
abbrev pub IsHome : View → ℕ → ℕ → Type 0
IsHome v cpu m = IsOwn v cpu m × ((at v m).away ≡ false)

-- the record of a message that is sent
abbrev pub sent_rec : Call → Rec
sent_rec call = record { arg = call.arg; result = 0; op = call.op; error = 0 }

-- the message was sent: it was at home, its round is one more, and its word was loaded and stored
pub record HasSent (cpu : CpuId) (v w : View) (m : ℕ) (target : CpuId) (call : Call) (flags : Flags) (sync : Bool) (round : ℕ) : Type 0 where
  pub home : IsHome v cpu.0 m
  pub next : round ≡ (at v m).round + 1
  pub within : round ≤ LAST_ROUND
  pub found : MsgWord
  pub loaded : IsLoaded v m found
  pub does :
      let new : MsgWord = sent_word cpu target round sync flags in
      Does v w m (sent new call (at v m)) (loads (who v) m (message_word found) ∷ sends (who v) m target round (message_word new) (sent_rec call) ∷ [])

-- the message was not sent: it isn't at home, or it is at its last round
pub record IsUnsent (cpu : CpuId) (v w : View) (m : ℕ) (fault : Fault) : Type 0 where
  pub found : MsgWord
  pub looked_at : OnlyLooked v w m found
  pub why : ((fault ≡ NotOwner) × (IsHome v cpu.0 m → ⊥)) ⊎ ((fault ≡ RoundsOut) × IsHome v cpu.0 m × ((at v m).round ≡ LAST_ROUND))

-- a word shows a message of this round on its way to this processor, and one that came back to it
abbrev pub IsForTaking : CpuId → ℕ → MsgWord → Type 0
IsForTaking cpu round w = (w.state ≡ Out) × (w.target ≡ cpu) × (w.round ≡ round)

abbrev pub IsForReaping : CpuId → ℕ → MsgWord → Type 0
IsForReaping cpu round w = (w.state ≡ Back) × (w.origin ≡ cpu) × (w.round ≡ round)

-- the message was taken, as its word allowed: the record is the one that the last send of the message put there, whether it has
-- priority is said by the word, and the request to abort is that of the word, which has one exactly if the origin has asked in this
-- round, by the history up to the take
pub record HasTaken (cpu : CpuId) (v w : View) (m round : ℕ) (rec : Rec) (aborted priority : Bool) : Type 0 where
  pub found : MsgWord
  pub loaded : IsLoaded v m found
  pub allowed : IsForTaking cpu round found
  pub aborted_is : aborted ≡ found.aborted
  pub priority_is : priority ≡ found.priority
  pub clean : (rec.error ≡ 0) × (rec.result ≡ 0)
  pub put : Last w.past (takes (who v) m round (message_word found) rec) (λ front. WasSent front m rec)
  pub asked : Last w.past (takes (who v) m round (message_word found) rec) (λ front. (aborted ≡ true) ↔ WasAskedFor found.origin front m)
  pub does : Does v w m (took rec (looked found (at v m))) (loads (who v) m (message_word found) ∷ takes (who v) m round (message_word found) rec ∷ [])

-- the message was not taken: its word didn't allow it
pub record IsStaleToTake (cpu : CpuId) (v w : View) (m round : ℕ) : Type 0 where
  pub found : MsgWord
  pub looked_at : OnlyLooked v w m found
  pub why : IsForTaking cpu round found → ⊥

-- the message was not taken: its word allowed it, but the exchange found another one
pub record HasLostTake (cpu : CpuId) (v w : View) (m round : ℕ) : Type 0 where
  pub found : MsgWord
  pub loaded : IsLoaded v m found
  pub allowed : IsForTaking cpu round found
  pub other : ℕ
  pub differs : other ≢ message_word found
  pub does : Does v w m (looked found (at v m)) (loads (who v) m (message_word found) ∷ loses (who v) m (message_word found) (message_word found + 1) other ∷ [])

-- what each answer to a take means
abbrev pub TakeMeans : CpuId → View → View → ℕ → ℕ → Taken → Type 0
TakeMeans cpu v w m round (taken.Took rec aborted priority) = HasTaken cpu v w m round rec aborted priority
TakeMeans cpu v w m round taken.Stale = IsStaleToTake cpu v w m round
TakeMeans cpu v w m round taken.Again = HasLostTake cpu v w m round

-- the record of a call with the error and result of a reply
abbrev pub answered_rec : Call → ℕ → ℕ → Rec
answered_rec call error outcome = record { arg = call.arg; result = outcome; op = call.op; error = error }

-- the message was replied to, which the seat had taken: its record is put back with the call that was taken, this error and result
pub record HasReplied (v w : View) (m error outcome : ℕ) : Type 0 where
  pub taken_by_it : (at v m).taken ≡ true
  pub found : MsgWord
  pub loaded : IsLoaded v m found
  pub other : ℕ
  pub does : Does v w m (answered error outcome (looked found (at v m))) (loads (who v) m (message_word found) ∷ replies (who v) m other (answered_rec (at v m).got error outcome) ∷ [])

-- the message was not replied to, or nothing is said of it: the seat hasn't taken it
pub record IsUnreplied (v w : View) (m : ℕ) (fault : Fault) : Type 0 where
  pub found : MsgWord
  pub looked_at : OnlyLooked v w m found
  pub is : fault ≡ NotTaken
  pub why : (at v m).taken ≡ false

-- the message was reaped, as its word allowed: the record has the call that was sent, and is the one that the one reply since the
-- last send put there
pub record HasReaped (cpu : CpuId) (v w : View) (m round : ℕ) (rec : Rec) : Type 0 where
  pub found : MsgWord
  pub loaded : IsLoaded v m found
  pub allowed : IsForReaping cpu round found
  pub own : IsOwn v cpu.0 m
  pub was_away : (at v m).away ≡ true
  pub round_is : round ≡ (at v m).round
  pub call_is : call_of rec ≡ (at v m).call
  pub put : Last w.past (reaps (who v) m (message_word (rest_word cpu round)) rec) (λ front. WasAnswered front m rec)
  pub does :
      let new : MsgWord = rest_word cpu round in
      Does v w m (reaped (at v m)) (loads (who v) m (message_word found) ∷ reaps (who v) m (message_word new) rec ∷ [])

-- the message was not reaped: its word didn't allow it
pub record IsStaleToReap (cpu : CpuId) (v w : View) (m round : ℕ) : Type 0 where
  pub found : MsgWord
  pub looked_at : OnlyLooked v w m found
  pub why : IsForReaping cpu round found → ⊥

-- what each answer to a reap means
abbrev pub ReapMeans : CpuId → View → View → ℕ → ℕ → Reaped → Type 0
ReapMeans cpu v w m round (reaped_.Done rec) = HasReaped cpu v w m round rec
ReapMeans cpu v w m round reaped_.Stale = IsStaleToReap cpu v w m round

-- a word shows a message that this processor may drop; and what forbids it, the first of three (lwkt_dropmsg of msgport(9); that it is
-- the origin who drops, and only before the take, is own)
abbrev pub IsForDropping : CpuId → MsgWord → Type 0
IsForDropping cpu w = (w.origin ≡ cpu) × (w.state ≡ Out) × (w.dropable ≡ true)

abbrev pub ForbidsDrop : CpuId → MsgWord → Fault → Type 0
ForbidsDrop cpu w fault = ((fault ≡ NotOwner) × (w.origin ≢ cpu)) ⊎ ((fault ≡ NotOut) × (w.origin ≡ cpu) × (w.state ≢ Out)) ⊎ ((fault ≡ NotDropable) × (w.origin ≡ cpu) × (w.state ≡ Out) × (w.dropable ≡ false))

-- the message was dropped, as its word allowed, and is at rest in the round that it had: the record is the one that the last send of
-- the message put there, with the call that this seat sent
pub record HasDropped (cpu : CpuId) (v w : View) (m : ℕ) (rec : Rec) : Type 0 where
  pub own : IsOwn v cpu.0 m
  pub was_away : (at v m).away ≡ true
  pub found : MsgWord
  pub loaded : IsLoaded v m found
  pub allowed : IsForDropping cpu found
  pub round_is : found.round ≡ (at v m).round
  pub rec_is : rec ≡ sent_rec (at v m).call
  pub put : Last w.past (drops (who v) m (message_word found) (message_word (rest_word cpu found.round)) rec) (λ front. WasSent front m rec)
  pub does :
      let new : MsgWord = rest_word cpu found.round in
      Does v w m (dropped (at v m)) (loads (who v) m (message_word found) ∷ drops (who v) m (message_word found) (message_word new) rec ∷ [])

-- the message was not dropped: its word forbade it
pub record IsUndropped (cpu : CpuId) (v w : View) (m : ℕ) (fault : Fault) : Type 0 where
  pub found : MsgWord
  pub looked_at : OnlyLooked v w m found
  pub why : ForbidsDrop cpu found fault

-- the message was not dropped: its word allowed it, but the exchange found that its target had taken it since, in the same round
pub record HasLostDrop (cpu : CpuId) (v w : View) (m : ℕ) (fault : Fault) : Type 0 where
  pub is : fault ≡ NotOut
  pub own : IsOwn v cpu.0 m
  pub found : MsgWord
  pub loaded : IsLoaded v m found
  pub allowed : IsForDropping cpu found
  pub other : MsgWord
  pub taken : (other ≡ record found { state = With }) ⊎ (other ≡ record found { state = Back })
  pub does :
      let new : MsgWord = rest_word cpu found.round in
      Does v w m (looked found (at v m)) (loads (who v) m (message_word found) ∷ loses (who v) m (message_word found) (message_word new) (message_word other) ∷ [])

-- a word shows a message that this processor may ask to be aborted; and what forbids it, the first of three (lwkt_abortmsg of
-- msgport(9); that it is the origin who asks is own)
abbrev pub IsForAborting : CpuId → MsgWord → Type 0
IsForAborting cpu w = (w.origin ≡ cpu) × ((w.state ≡ Out) ⊎ (w.state ≡ With)) × (w.abortable ≡ true)

abbrev pub ForbidsAbort : CpuId → MsgWord → Fault → Type 0
ForbidsAbort cpu w fault = ((fault ≡ NotOwner) × (w.origin ≢ cpu)) ⊎ ((fault ≡ NotOut) × (w.origin ≡ cpu) × ((w.state ≡ Rest) ⊎ (w.state ≡ Back))) ⊎ ((fault ≡ NotAbortable) × (w.origin ≡ cpu) × ((w.state ≡ Out) ⊎ (w.state ≡ With)) × (w.abortable ≡ false))

-- the origin has asked for the message to be aborted, as its word allowed. The step met the message in the same round, on its way,
-- taken, or already back
pub record HasRequested (cpu : CpuId) (v w : View) (m : ℕ) : Type 0 where
  pub own : IsOwn v cpu.0 m
  pub was_away : (at v m).away ≡ true
  pub found : MsgWord
  pub loaded : IsLoaded v m found
  pub allowed : IsForAborting cpu found
  pub met : MsgWord
  pub same_round : (met ≡ record found { state = Out }) ⊎ (met ≡ record found { state = With }) ⊎ (met ≡ record found { state = Back })
  pub does : Does v w m (requested (looked found (at v m))) (loads (who v) m (message_word found) ∷ requests (who v) m (message_word met) ∷ [])

-- the origin has not asked: the message's word forbade it
pub record IsUnrequested (cpu : CpuId) (v w : View) (m : ℕ) (fault : Fault) : Type 0 where
  pub found : MsgWord
  pub looked_at : OnlyLooked v w m found
  pub why : ForbidsAbort cpu found fault

-- whether the origin has asked for the message to be aborted, which the seat has taken: in this round, by the history up to the load
pub record ReadsRequest (v w : View) (m : ℕ) (aborted : Bool) : Type 0 where
  pub taken_by_it : (at v m).taken ≡ true
  pub found : MsgWord
  pub looked_at : OnlyLooked v w m found
  pub aborted_is : aborted ≡ found.aborted
  pub asked : Last w.past (loads (who v) m (message_word found)) (λ front. (aborted ≡ true) ↔ WasAskedFor found.origin front m)
