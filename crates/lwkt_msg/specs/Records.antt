use Rattle.std.specs.Prelude.{◌≡◌, ◌↔◌, ◌<◌, ℕ, Bool, true, false, List, [], ◌∷◌, ◌++◌, length, All}
use Rattle.lwkt_base.specs.declared.names.CpuId.{CpuId}
use Rattle.lwkt_base.specs.declared.opening_specs.MsgSpec.{MsgSpec}
use Rattle.lwkt_base.specs.declared.owners.Owner.{Owner}
use Rattle.lwkt_base.specs.declared.owners.Owner.TheVariants.{Rest, Out, With, Back}
use Rattle.lwkt_base.specs.declared.records.Rec.{Rec}
use Rattle.lwkt_core.specs.declared.events.Event.TheVariants.{Send, TakeMsg, DropMsg, Reply, Reap, Abort}
use Rattle.lwkt_table.specs.declared.seats.Deed.{Deed}
use Rattle.lwkt_table.specs.History.{Passes}
use Rattle.lwkt_core.specs.Messages.{origin_of, is_away}
use Rattle.lwkt_msg.specs.Views.{named, call_of}
use Rattle.lwkt_msg.specs.Book.{Mail, mail_at}
use Rattle.lwkt_msg.specs.Ledger.{IsDone, first_mails}

-- a deed sends this message, or replies to it
abbrev pub IsSendOf : ℕ → Deed → Type 0
IsSendOf m d = (cpu to : CpuId) × ((round : ℕ) × (d.events ≡ Send cpu (named m) to round ∷ []))

abbrev pub IsReplyOf : ℕ → Deed → Type 0
IsReplyOf m d = (cpu : CpuId) × (d.events ≡ Reply cpu (named m) ∷ [])

-- none of these deeds puts anything into the record of this message
abbrev pub NonePuts : ℕ → List Deed → Type 0
NonePuts m deeds = All (λ d. (IsSendOf m d → ⊥) × (IsReplyOf m d → ⊥)) deeds

-- the last deed of these that put anything into the record of this message is a send, which put this record there
pub record WasSent (deeds : List Deed) (m : ℕ) (rec : Rec) : Type 0 where
  pub before : List Deed
  pub send : Deed
  pub since : List Deed
  pub parts : deeds ≡ before ++ (send ∷ since)
  pub sends : IsSendOf m send
  pub put : send.records ≡ rec ∷ []
  pub clean : (rec.error ≡ 0) × (rec.result ≡ 0)
  pub last : NonePuts m since

-- the last deed of these that put anything into the record of this message is a reply, which put this record there: to the call of
-- the last send before it, as there was no other reply since
pub record WasAnswered (deeds : List Deed) (m : ℕ) (rec : Rec) : Type 0 where
  pub before : List Deed
  pub reply : Deed
  pub since : List Deed
  pub parts : deeds ≡ before ++ (reply ∷ since)
  pub replies : IsReplyOf m reply
  pub put : reply.records ≡ rec ∷ []
  pub sent : Rec
  pub was_sent : WasSent before m sent
  pub call_is : call_of rec ≡ call_of sent
  pub last : NonePuts m since

-- the record of a message that is away is the one that its last send put there, and once it is back with what the one reply since
-- put
abbrev pub IsPosted : List Deed → ℕ → Owner → Rec → Type 0
IsPosted deeds m (Rest origin) rec = Unit {0}
IsPosted deeds m (Out origin target) rec = WasSent deeds m rec
IsPosted deeds m (With origin target) rec = WasSent deeds m rec
IsPosted deeds m (Back origin target) rec = WasAnswered deeds m rec

-- so it is after any history that begins with the messages declared
abbrev pub HistoryDecidesRecords : Type 0
HistoryDecidesRecords = (cpus : ℕ) (specs : List MsgSpec) (history : List Deed) (mails : List Mail) → Passes (IsDone cpus) (first_mails specs) history mails → (m : ℕ) → m < length mails → IsPosted history m (mail_at mails m).msg.owner (mail_at mails m).rec

-- a deed is this processor's request to abort this message
abbrev pub IsRequestOf : CpuId → ℕ → Deed → Type 0
IsRequestOf cpu m d = d.events ≡ Abort cpu (named m) ∷ []

-- among these deeds this processor has asked for this message to be aborted, and none has sent the message since: the request is of
-- the round in which the message is (lwkt_abortmsg of msgport(9); rounds are own)
pub record WasAskedFor (cpu : CpuId) (deeds : List Deed) (m : ℕ) : Type 0 where
  pub before : List Deed
  pub request : Deed
  pub since : List Deed
  pub parts : deeds ≡ before ++ (request ∷ since)
  pub requests : IsRequestOf cpu m request
  pub same_round : All (λ d. IsSendOf m d → ⊥) since

-- a request to abort is noted in a message that is away exactly if its origin has made one in this round, and never at rest
pub record IsAskedSo (deeds : List Deed) (m : ℕ) (owner : Owner) (asked : Bool) : Type 0 where
  pub at_rest : is_away owner ≡ false → asked ≡ false
  pub away : is_away owner ≡ true → (asked ≡ true) ↔ WasAskedFor (origin_of owner) deeds m

-- so it is after any history that begins with the messages declared
abbrev pub HistoryDecidesRequests : Type 0
HistoryDecidesRequests = (cpus : ℕ) (specs : List MsgSpec) (history : List Deed) (mails : List Mail) → Passes (IsDone cpus) (first_mails specs) history mails → (m : ℕ) → m < length mails → IsAskedSo history m (mail_at mails m).msg.owner (mail_at mails m).msg.asked

-- a deed takes this message, drops it, or reaps it
abbrev pub IsTakeOf : ℕ → Deed → Type 0
IsTakeOf m d = (cpu : CpuId) × ((round : ℕ) × (d.events ≡ TakeMsg cpu (named m) round ∷ []))

abbrev pub IsDropOf : ℕ → Deed → Type 0
IsDropOf m d = (cpu : CpuId) × (d.events ≡ DropMsg cpu (named m) ∷ [])

abbrev pub IsReapOf : ℕ → Deed → Type 0
IsReapOf m d = (cpu : CpuId) × (d.events ≡ Reap cpu (named m) ∷ [])

-- in a history, what a take or a drop found in the record is what the last send of the message put there, and what a reap found is
-- that with what the one reply since put there
abbrev pub FoundIsWhatWasPut : Type 0
FoundIsWhatWasPut = (cpus : ℕ) (specs : List MsgSpec) (front back : List Deed) (d : Deed) (mails : List Mail) (m : ℕ) → Passes (IsDone cpus) (first_mails specs) (front ++ (d ∷ back)) mails
    → (IsTakeOf m d → (rec : Rec) × ((d.records ≡ rec ∷ []) × WasSent front m rec))
    × (IsDropOf m d → (rec : Rec) × ((d.records ≡ rec ∷ []) × WasSent front m rec))
    × (IsReapOf m d → (rec : Rec) × ((d.records ≡ rec ∷ []) × WasAnswered front m rec))

-- the front of a past up to the seat's last deed, and that deed, of which this is so
abbrev pub Last : List Deed → Deed → (List Deed → Type 0) → Type 0
Last past d IsSo = (front : List Deed) × ((past ≡ front ++ d ∷ []) × IsSo front)
