use Rattle.std.specs.Prelude.{◌≡◌, ◌≢◌, ℕ, ◌+◌, ◌*◌, ◌<◌, ◌≤◌, Bool, true, false, List, [], ◌∷◌, ◌++◌, length, replicate, count_by, slice_index, slice_set, bit_or}
use mathlib.Core.Option.{some}
use lib.ListN.{get_elem?}
use Rattle.atomic_table.specs.Table.{State, Act, keeps, takes, gives, homes_after, stepped, opening}
use Rattle.lwkt_base.specs.declared.names.CpuId.{CpuId}
use Rattle.lwkt_base.specs.declared.records.Rec.{Rec}
use Rattle.lwkt_base.specs.declared.records.Flags.{Flags}
use Rattle.lwkt_base.specs.declared.message_words.MsgWord.{MsgWord}
use Rattle.lwkt_base.specs.declared.message_words.MsgState.TheVariants as state
use Rattle.lwkt_base.specs.MessageWord.{message_word, MessageFits}
use Rattle.lwkt_base.specs.declared.limits.TheConstants.{LAST_ROUND}
use Rattle.lwkt_table.specs.declared.seats.SeatKind.TheVariants.{Clerk, Of}
use Rattle.lwkt_table.specs.declared.seats.WordStep.{WordStep}
use Rattle.lwkt_table.specs.declared.seats.Deed.{Deed}
use Rattle.lwkt_core.specs.Machine.{IsSafe}
use Rattle.lwkt_core.specs.Opening.{AreWithin}
use Rattle.lwkt_core.specs.Trace.{Run}
use Rattle.lwkt_table.specs.History.{AreOthers, AreOwn, IsStepOver, IsPastOf, Grows, Passes, events_in, events_by, steps_in, steps_by, noted_page}
use Rattle.lwkt_msg.specs.declared.views.MessageEntry.{MessageEntry}
use Rattle.lwkt_msg.specs.declared.views.Key.{Key}
use Rattle.lwkt_msg.specs.declared.views.View.{View}
use Rattle.lwkt_msg.specs.Views.{slot_at, word_at, call_of, at, who, page_of, looked, handed, sent, took, replied, reaped, dropped, requested, clerk_after, new_seat, spent_left, whole_right, joined, spent_view}
use Rattle.lwkt_msg.specs.Book.{parts_of, mail_at, IsBook, first_view, no_rec}
use Rattle.lwkt_msg.specs.Hands.{IsOwn}
use Rattle.lwkt_msg.specs.Steps.{sent_word, rest_word, machine_of}
use Rattle.lwkt_msg.specs.Deeds as deed
use Rattle.lwkt_msg.specs.Calls.{Does}
use Rattle.lwkt_msg.specs.Desks.{AreOpeningWords}
use Rattle.lwkt_msg.specs.Ledger.{IsDone, first_mails, AreCounted, Ledger, IsNext, IsSame, Opens, StepIsDeed}

-- each state of a book's table shows a machine whose messages are all safe: each has one owner
abbrev pub RuleShowsSafety : Type 0
RuleShowsSafety = (key : Key) (s : State Rec View) (ledger : Ledger key s) → IsBook key ledger.rule.mails s × IsSafe (machine_of key.cpus ledger.rule.mails)

-- in each state each send was taken or dropped at most once, and replied to at most once; what was replied to and not reaped yet
-- is at most one
abbrev pub EachSendAtMostOnce : Type 0
EachSendAtMostOnce = (key : Key) (s : State Rec View) (ledger : Ledger key s) (m : ℕ) → m < length key.specs.items
    → ((mail_at ledger.rule.mails m).msg.takes + (mail_at ledger.rule.mails m).msg.drops ≤ (mail_at ledger.rule.mails m).msg.sends)
    × ((mail_at ledger.rule.mails m).msg.sends ≤ (mail_at ledger.rule.mails m).msg.takes + (mail_at ledger.rule.mails m).msg.drops + 1)
    × ((mail_at ledger.rule.mails m).msg.replies ≤ (mail_at ledger.rule.mails m).msg.takes)
    × ((mail_at ledger.rule.mails m).msg.takes ≤ (mail_at ledger.rule.mails m).msg.replies + 1)

-- each state is reached by one history of deeds from the messages that were declared, whose events are a run of the model, and of
-- which each seat has seen the front up to its own last deed
abbrev pub StatesAreReached : Type 0
StatesAreReached = (key : Key) (s : State Rec View) (ledger : Ledger key s) →
    Passes (IsDone key.cpus) (first_mails key.specs.items) ledger.chronicle.history ledger.rule.mails
    × Run (machine_of key.cpus (first_mails key.specs.items)) (events_in ledger.chronicle.history) (machine_of key.cpus ledger.rule.mails)
    × ((id : ℕ) (v : View) (cpu : CpuId) → get_elem? s.views id ≡ some v → v.kind ≡ Of cpu → IsPastOf ledger.chronicle.history cpu.0 v.past)

-- and how often each thing was done with a message is how many events of that history did it
abbrev pub HistoryDecidesCounts : Type 0
HistoryDecidesCounts = (key : Key) (s : State Rec View) (ledger : Ledger key s) (m : ℕ) → m < length key.specs.items → AreCounted (mail_at ledger.rule.mails m).msg m (λ which. count_by which (events_in ledger.chronicle.history))

-- whatever shows that the rule holds of a state, the messages and the history are the same
abbrev pub ViewsDecide : Type 0
ViewsDecide = (key : Key) (s : State Rec View) (ledger other : Ledger key s) → (other.rule.mails ≡ ledger.rule.mails) × (other.chronicle.history ≡ ledger.chronicle.history)

-- a table that was opened within the limits, with the words of messages at rest and blank records, shows the messages that were
-- declared, and has no history
abbrev pub OpeningIsDeclared : Type 0
OpeningIsDeclared = (key : Key) (words : List ℕ) → AreWithin key.cpus [] key.specs.items → AreOpeningWords (length key.specs.items) key.specs.items words → Opens key (opening words (replicate (4 * length key.specs.items) no_rec) (first_view key))

-- a seat of a processor is at a message of a book
pub record IsAt (key : Key) (s : State Rec View) (id : ℕ) (v : View) (cpu : CpuId) (m : ℕ) : Type 0 where
  pub view : get_elem? s.views id ≡ some v
  pub kind : v.kind ≡ Of cpu
  pub exists_ : m < length key.specs.items

-- something that is so of each state, seat and message
abbrev pub AtSeat : ((key : Key) (s : State Rec View) → Ledger key s → ℕ → View → CpuId → ℕ → ℕ → Type 0) → Type 0
AtSeat P = (key : Key) (s : State Rec View) (ledger : Ledger key s) (id : ℕ) (v : View) (cpu : CpuId) (m : ℕ) → IsAt key s id v cpu m → P key s ledger id v cpu m (slice_index s.words (word_at m))

-- a load, or an exchange that is lost, is a look
abbrev pub LoadIsLook : Type 0
LoadIsLook = AtSeat (λ key s ledger id v cpu m n. (hands : List (ℕ × Rec)) → StepIsDeed key s ledger id v hands m (looked (parts_of (mail_at ledger.rule.mails m)) (at v m)) (deed.loads cpu m n) n keeps)

abbrev pub LostExchangeIsLook : Type 0
LostExchangeIsLook = AtSeat (λ key s ledger id v cpu m n. (hands : List (ℕ × Rec)) (old new : ℕ) → n ≢ old → StepIsDeed key s ledger id v hands m (at v m) (deed.loses cpu m old new n) n keeps)

-- so is the load by which an origin gets the record of its message at the opening
abbrev pub HandingOutIsLook : Type 0
HandingOutIsLook = AtSeat (λ key s ledger id v cpu m n. (hands : List (ℕ × Rec)) → IsOwn v cpu.0 m → (at v m).had ≡ false → (at v m).away ≡ false
    → StepIsDeed key s ledger id v hands m (handed (at v m)) (deed.hands_out cpu m n (mail_at ledger.rule.mails m).rec) n (takes (slot_at m) (mail_at ledger.rule.mails m).rec))

-- a send: the origin stores the word of a message that it has at rest
abbrev pub StoreIsSend : Type 0
StoreIsSend = AtSeat (λ key s ledger id v cpu m n. (to : CpuId) (sync : Bool) (flags : Flags) (rec : Rec) (others : List (ℕ × Rec)) → IsOwn v cpu.0 m → (at v m).away ≡ false → to.0 < key.cpus → (at v m).round < LAST_ROUND → rec.error ≡ 0 → rec.result ≡ 0
    → let w : MsgWord = sent_word cpu to ((at v m).round + 1) sync flags in StepIsDeed key s ledger id v ((slot_at m, rec) ∷ others) m (sent w (call_of rec) (at v m)) (deed.sends cpu m to w.round (message_word w) rec) (message_word w) gives)

-- a take: the target changes the word of a message on its way to it from Out to With
abbrev pub ExchangeIsTake : Type 0
ExchangeIsTake = AtSeat (λ key s ledger id v cpu m n. (w : MsgWord) (hands : List (ℕ × Rec)) → n ≡ message_word w → MessageFits w → w.state ≡ state.Out → w.target ≡ cpu
    → StepIsDeed key s ledger id v hands m (took (mail_at ledger.rule.mails m).rec (at v m)) (deed.takes cpu m w.round (message_word w) (mail_at ledger.rule.mails m).rec) (message_word w + 1) (takes (slot_at m) (mail_at ledger.rule.mails m).rec))

-- a reply: the target adds 1 to the word of a message that it has taken, and the call of the record is as it was
abbrev pub AddIsReply : Type 0
AddIsReply = AtSeat (λ key s ledger id v cpu m n. (rec : Rec) (others : List (ℕ × Rec)) → (at v m).taken ≡ true → call_of rec ≡ (at v m).got
    → StepIsDeed key s ledger id v ((slot_at m, rec) ∷ others) m (replied rec (at v m)) (deed.replies cpu m n rec) (n + 1) gives)

-- a reap: the origin stores the word of a message at rest, once it has seen that it is back
abbrev pub StoreIsReap : Type 0
StoreIsReap = AtSeat (λ key s ledger id v cpu m n. (hands : List (ℕ × Rec)) → IsOwn v cpu.0 m → (at v m).had ≡ true → (at v m).back ≡ true
    → let word : ℕ = message_word (rest_word cpu (at v m).round) in StepIsDeed key s ledger id v hands m (reaped (at v m)) (deed.reaps cpu m word (mail_at ledger.rule.mails m).rec) word (takes (slot_at m) (mail_at ledger.rule.mails m).rec))

-- a drop: the origin changes the word of a message on its way to that of a message at rest
abbrev pub ExchangeIsDrop : Type 0
ExchangeIsDrop = AtSeat (λ key s ledger id v cpu m n. (w : MsgWord) (hands : List (ℕ × Rec)) → IsOwn v cpu.0 m → (at v m).had ≡ true → n ≡ message_word w → MessageFits w → w.state ≡ state.Out
    → let word : ℕ = message_word (rest_word cpu (at v m).round) in StepIsDeed key s ledger id v hands m (dropped (at v m)) (deed.drops cpu m (message_word w) word (mail_at ledger.rule.mails m).rec) word (takes (slot_at m) (mail_at ledger.rule.mails m).rec))

-- a request to abort: the origin sets a bit of the word of a message that is away
abbrev pub OrIsAbort : Type 0
OrIsAbort = AtSeat (λ key s ledger id v cpu m n. (hands : List (ℕ × Rec)) → IsOwn v cpu.0 m → (at v m).away ≡ true → StepIsDeed key s ledger id v hands m (requested (at v m)) (deed.requests cpu m n) (bit_or n 4) keeps)

-- a seat that is made, cut off or taken back is no deed
abbrev pub SeatingIsNoDeed : Type 0
SeatingIsNoDeed = (key : Key) (s : State Rec View) (ledger : Ledger key s) (id : ℕ) (v : View) → get_elem? s.views id ≡ some v
    → ((made back : ℕ) → v.kind ≡ Clerk made back → made < v.cpus → IsSame key s record { words = s.words; homes = s.homes; views = slice_set s.views id (clerk_after v) ++ new_seat v ∷ [] } ledger)
    × ((cpu : CpuId) → v.kind ≡ Of cpu → IsSame key s record { words = s.words; homes = s.homes; views = slice_set s.views id (spent_left v) ++ whole_right v ∷ [] } ledger)
    × ((other : ℕ) (w : View) (made back : ℕ) (cpu : CpuId) → v.kind ≡ Clerk made back → w.kind ≡ Of cpu → other ≢ id → get_elem? (slice_set s.views id (joined v w)) other ≡ some w
    → IsSame key s record { words = s.words; homes = s.homes; views = slice_set (slice_set s.views id (joined v w)) other spent_view } ledger)

-- one spent view more among the views, as a look from outside leaves one: no deed is done, and the messages stay
abbrev pub SpentIsNoDeed : Type 0
SpentIsNoDeed = (key : Key) (s : State Rec View) (ledger : Ledger key s) → IsSame key s record { words = s.words; homes = s.homes; views = s.views ++ spent_view ∷ [] } ledger

-- what a deed made of the words of so many messages: its step met and left the word of its message, and every other is as it was
pub record IsMade (count : ℕ) (words others : List ℕ) (d : Deed) : Type 0 where
  pub step : WordStep
  pub steps : d.steps ≡ step ∷ []
  pub there : step.at < count
  pub over : IsStepOver (slice_index words (word_at step.at)) (slice_index others (word_at step.at)) step
  pub else_same : (m : ℕ) → m < count → m ≢ step.at → slice_index others (word_at m) ≡ slice_index words (word_at m)

-- whatever a play of a seat notes is what it made: in any state of the rule, where one word becomes any number, any records are taken
-- or given back, and the seat notes any deed, after which the rule holds. Then the history has that deed more, and it is done between
-- the messages before and after
abbrev pub MadeAsNoted : Type 0
MadeAsNoted = (key : Key) (s : State Rec View) (ledger : Ledger key s) (id : ℕ) (v w : View) (cpu : CpuId) (between : List Deed) (d : Deed) (i n : ℕ) (hands : List (ℕ × Rec)) (act : Act Rec) (after : Ledger key (stepped s i n id hands w act))
    → get_elem? s.views id ≡ some v → v.kind ≡ Of cpu → d.cpu ≡ cpu → AreOthers cpu.0 between → page_of w ≡ noted_page (page_of v) between d
    → IsNext key s (stepped s i n id hands w act) ledger d after × IsMade (length key.specs.items) s.words (slice_set s.words i n) d

-- the same of any number of deeds that a play notes at once: they are done one after another, from the messages before it to those
-- after it, and are what the history has more
abbrev pub AllMadeAsNoted : Type 0
AllMadeAsNoted = (key : Key) (s : State Rec View) (ledger : Ledger key s) (id : ℕ) (v w : View) (cpu : CpuId) (deeds : List Deed) (i n : ℕ) (hands : List (ℕ × Rec)) (act : Act Rec) (after : Ledger key (stepped s i n id hands w act))
    → get_elem? s.views id ≡ some v → v.kind ≡ Of cpu → w.kind ≡ Of cpu → Grows cpu.0 v.past deeds w.past → AreOwn cpu.0 deeds
    → Passes (IsDone key.cpus) ledger.rule.mails deeds after.rule.mails × (after.chronicle.history ≡ ledger.chronicle.history ++ deeds)

-- and where it notes nothing, no message, no word of one and no slot of one has changed
abbrev pub NothingUnnoted : Type 0
NothingUnnoted = (key : Key) (s : State Rec View) (ledger : Ledger key s) (id : ℕ) (v w : View) (i n : ℕ) (hands : List (ℕ × Rec)) (act : Act Rec) (after : Ledger key (stepped s i n id hands w act))
    → get_elem? s.views id ≡ some v → page_of w ≡ page_of v
    → (after.rule.mails ≡ ledger.rule.mails) × (after.chronicle.history ≡ ledger.chronicle.history)
    × ((m : ℕ) → m < length key.specs.items → (slice_index (slice_set s.words i n) (word_at m) ≡ slice_index s.words (word_at m)) × (get_elem? (homes_after s.homes hands act) (slot_at m) ≡ get_elem? s.homes (slot_at m)))

-- what a call's deeds say of its seat's steps on words and of its events: they are appended, in order
abbrev pub DeedsAreAppended : Type 0
DeedsAreAppended = (v w : View) (m : ℕ) (e : MessageEntry) (deeds : List Deed) → Does v w m e deeds → AreOwn (who v).0 deeds → (steps_by (who w).0 w.past ≡ steps_by (who v).0 v.past ++ steps_in deeds) × (events_by (who w).0 w.past ≡ events_by (who v).0 v.past ++ events_in deeds)
