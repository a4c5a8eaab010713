use Rattle.std.specs.Prelude.{◌≡◌, ◌≢◌, ◌↔◌, ℕ, ◌+◌, ◌*◌, ◌<◌, ◌≤◌, true, List, [], ◌∷◌, ◌++◌, length}
use Rattle.atomic_table.specs.Table.{Me, Step}
use Rattle.atomic_table.specs.declared.shared.Seat.{Seat}
use Rattle.lwkt_base.specs.declared.names.CpuId.{CpuId}
use Rattle.lwkt_base.specs.declared.records.Rec.{Rec}
use Rattle.lwkt_base.specs.declared.message_words.MsgWord.{MsgWord}
use Rattle.lwkt_base.specs.declared.limits.TheConstants.{CPU_LIMIT, MESSAGE_LIMIT}
use Rattle.lwkt_base.specs.MessageWord.{message_word, MessageFits}
use Rattle.lwkt_table.specs.declared.seats.Deed.{Deed}
use Rattle.lwkt_table.specs.declared.seats.SeatKind.TheVariants.{Of}
use Rattle.lwkt_core.specs.Opening.{AreWithin}
use Rattle.lwkt_table.specs.History.{AreOthers}
use Rattle.lwkt_msg.specs.declared.views.MessageEntry.{MessageEntry}
use Rattle.lwkt_msg.specs.declared.views.View.{View}
use Rattle.lwkt_msg.specs.Views.{word_at, slot_at, call_of, at, who, noted, looked, handed, sent, took, replied, reaped, dropped, requested, shows_away, Sees}
use Rattle.lwkt_msg.specs.Deeds as deed
use Rattle.lwkt_msg.specs.Records.{WasSent, WasAnswered, WasAskedFor}
use Rattle.lwkt_msg.specs.Steps.{rest_word}
use Rattle.lwkt_msg.specs.Hands.{Has, AreSame, IsOwn, AreHands}

-- since the last deed of the seat with this view others have acted, and its step shows this after what they did
abbrev pub Amid : View → (List Deed → Type 0) → Type 0
Amid v R = (between : List Deed) × (AreOthers (who v).0 between × R between)

-- after this deed the seat knows this of the message
abbrev pub IsAfter : View → ℕ → MessageEntry → Deed → View → Type 0
IsAfter v m e d w = Amid v (λ between. w ≡ noted between v m e d)

-- the word of a message that is away has the bit of the request to abort exactly if, by the deeds up to here, its origin has made
-- one in this round
abbrev pub IsAskedBy : List Deed → ℕ → MsgWord → Type 0
IsAskedBy deeds m w = shows_away w.state ≡ true → (w.aborted ≡ true) ↔ WasAskedFor w.origin deeds m

-- what a load of a message's word says: the parts of the word, which are what the view knows; if the seat has the record in
-- hand, it lies in front now
pub record Looked (m : ℕ) (me : Me Rec View) (found : ℕ) (then : Me Rec View) : Type 0 where
  pub parts : MsgWord
  pub fits : MessageFits parts
  pub is_word : found ≡ message_word parts
  pub sees : Sees me.0 m parts
  pub view_is : IsAfter me.0 m (looked parts (at me.0 m)) (deed.loads (who me.0) m found) then.0
  pub asked : IsAskedBy (me.0.past ++ view_is.0) m parts
  pub same : AreSame me.1 then.1
  pub front : (rec : Rec) → Has me.1 (slot_at m) rec → (others : List (ℕ × Rec)) × (then.1 ≡ (slot_at m, rec) ∷ others)

-- the same, of the parts of the word
pub record IsLooked (m : ℕ) (me : Me Rec View) (w : MsgWord) (then : Me Rec View) : Type 0 where
  pub fits : MessageFits w
  pub sees : Sees me.0 m w
  pub view_is : IsAfter me.0 m (looked w (at me.0 m)) (deed.loads (who me.0) m (message_word w)) then.0
  pub asked : IsAskedBy (me.0.past ++ view_is.0) m w
  pub same : AreSame me.1 then.1
  pub front : (rec : Rec) → Has me.1 (slot_at m) rec → (others : List (ℕ × Rec)) × (then.1 ≡ (slot_at m, rec) ∷ others)

abbrev pub looks : Step Rec → Me Rec View → ℕ → Me Rec View → Type 0
looks st me found then = (m : ℕ) → st.word ≡ word_at m → Looked m me found then

-- what the store of a send says: the record in front is given away, and its call is known
abbrev pub sends_it : Step Rec → Me Rec View → ℕ → Me Rec View → Type 0
sends_it st me found then = (m : ℕ) → st.word ≡ word_at m → (w : MsgWord) → MessageFits w → found ≡ message_word w → (rec : Rec) (others : List (ℕ × Rec)) → me.1 ≡ (slot_at m, rec) ∷ others
    → IsAfter me.0 m (sent w (call_of rec) (at me.0 m)) (deed.sends (who me.0) m w.target w.round found rec) then.0 × (then.1 ≡ others)

-- a take by an exchange of the word of these parts, which found this record: it is the one that the last send of the message put
-- there, and the bit of the request to abort says whether the origin has made one since
pub record HasWon (m : ℕ) (found : MsgWord) (v : View) (rec : Rec) (w : View) : Type 0 where
  pub between : List Deed
  pub others : AreOthers (who v).0 between
  pub view_is : w ≡ noted between v m (took rec (at v m)) (deed.takes (who v) m found.round (message_word found) rec)
  pub sent : WasSent (v.past ++ between) m rec
  pub asked : IsAskedBy (v.past ++ between) m found

-- what the exchange of a take says: the record is in hand, as it was sent, or another word was found
pub record Took (m : ℕ) (w : MsgWord) (old new : ℕ) (me : Me Rec View) (found : ℕ) (then : Me Rec View) : Type 0 where
  pub won : found ≡ old → (rec : Rec) × HasWon m w me.0 rec then.0 × (then.1 ≡ (slot_at m, rec) ∷ me.1)
  pub lost : found ≢ old → IsAfter me.0 m (at me.0 m) (deed.loses (who me.0) m old new found) then.0 × (then.1 ≡ me.1)

abbrev pub takes_it : Step Rec → Me Rec View → ℕ → Me Rec View → Type 0
takes_it st me found then = (m : ℕ) → st.word ≡ word_at m → (w : MsgWord) → MessageFits w → st.first ≡ message_word w → Took m w st.first st.second me found then

-- what the addition of a reply says: the record in front is given away
abbrev pub replies_to_it : Step Rec → Me Rec View → ℕ → Me Rec View → Type 0
replies_to_it st me found then = (m : ℕ) → st.word ≡ word_at m → (rec : Rec) (others : List (ℕ × Rec)) → me.1 ≡ (slot_at m, rec) ∷ others
    → IsAfter me.0 m (replied rec (at me.0 m)) (deed.replies (who me.0) m found rec) then.0 × (then.1 ≡ others)

-- a reap, by the store of this word, which found this record: it has the call that was sent, and the error and result that the one
-- reply since put there
pub record HasFetched (m word : ℕ) (v : View) (rec : Rec) (w : View) : Type 0 where
  pub between : List Deed
  pub others : AreOthers (who v).0 between
  pub view_is : w ≡ noted between v m (reaped (at v m)) (deed.reaps (who v) m word rec)
  pub call_is : call_of rec ≡ (at v m).call
  pub answered_ : WasAnswered (v.past ++ between) m rec

-- what the store of a reap says: the record is in hand
abbrev pub reaps_it : Step Rec → Me Rec View → ℕ → Me Rec View → Type 0
reaps_it st me found then = (m : ℕ) → st.word ≡ word_at m → (rec : Rec) × HasFetched m found me.0 rec then.0 × (then.1 ≡ (slot_at m, rec) ∷ me.1)

-- a drop by an exchange of the word of these parts for this one, which found this record: it is the one that the last send of the
-- message put there, with its call
pub record HasRecalled (m : ℕ) (found : MsgWord) (new : ℕ) (v : View) (rec : Rec) (w : View) : Type 0 where
  pub between : List Deed
  pub others : AreOthers (who v).0 between
  pub view_is : w ≡ noted between v m (dropped (at v m)) (deed.drops (who v) m (message_word found) new rec)
  pub call_is : call_of rec ≡ (at v m).call
  pub sent : WasSent (v.past ++ between) m rec

-- an exchange from one word to another found a third, which shows what the view knows, and changed nothing
pub record HasMissed (m old new : ℕ) (v w : View) : Type 0 where
  pub other : MsgWord
  pub fits : MessageFits other
  pub sees : Sees v m other
  pub differs : message_word other ≢ old
  pub view_is : IsAfter v m (at v m) (deed.loses (who v) m old new (message_word other)) w

-- what the exchange of a drop says: the record is in hand, as it was sent, or another word was found
pub record Recalled (m : ℕ) (w : MsgWord) (old new : ℕ) (me : Me Rec View) (found : ℕ) (then : Me Rec View) : Type 0 where
  pub won : found ≡ old → (rec : Rec) × HasRecalled m w new me.0 rec then.0 × (then.1 ≡ (slot_at m, rec) ∷ me.1)
  pub lost : found ≢ old → HasMissed m old new me.0 then.0 × (then.1 ≡ me.1)

abbrev pub drops_it : Step Rec → Me Rec View → ℕ → Me Rec View → Type 0
drops_it st me found then = (m : ℕ) → st.word ≡ word_at m → (w : MsgWord) → MessageFits w → st.first ≡ message_word w → Recalled m w st.first st.second me found then

-- a request to abort, by setting the bit in the word of these parts, which shows what the view knows
pub record HasAsked (m : ℕ) (v w : View) : Type 0 where
  pub met : MsgWord
  pub fits : MessageFits met
  pub sees : Sees v m met
  pub view_is : IsAfter v m (requested (at v m)) (deed.requests (who v) m (message_word met)) w

-- what setting the bit says
abbrev pub requests : Step Rec → Me Rec View → ℕ → Me Rec View → Type 0
requests st me found then = (m : ℕ) → st.word ≡ word_at m → HasAsked m me.0 then.0 × (then.1 ≡ me.1)

-- what the load at the opening shows that hands a record out: the message is at rest
abbrev pub hands_out : Step Rec → Me Rec View → ℕ → Me Rec View → Type 0
hands_out st me found then = (m : ℕ) → st.word ≡ word_at m → (rec : Rec) × IsAfter me.0 m (handed (at me.0 m)) (deed.hands_out (who me.0) m found rec) then.0 × (then.1 ≡ (slot_at m, rec) ∷ me.1) × (found ≡ message_word (rest_word (who me.0) (at me.0 m).round))

-- a seat is that of a processor, with its records in hand, at a table that is large enough
pub record IsSat (cpu : CpuId) (place : Seat Rec View) : Type 0 where
  pub kind : place.me.0.kind ≡ Of cpu
  pub words : place.table_id.words ≡ 16 * length place.me.0.specs + 1
  pub slots : place.table_id.slots ≡ 4 * length place.me.0.specs
  pub few : length place.me.0.specs ≤ MESSAGE_LIMIT
  pub cpus : place.me.0.cpus ≤ CPU_LIMIT
  pub there : cpu.0 < place.me.0.cpus
  pub within : AreWithin place.me.0.cpus [] place.me.0.specs
  pub had : (m : ℕ) → m < length place.me.0.specs → IsOwn place.me.0 cpu.0 m → (at place.me.0 m).had ≡ true
  pub hands : AreHands place.me.0 cpu.0 place.me.1

-- the seat is the same one, at the same table
abbrev pub IsSameSeat : Seat Rec View → Seat Rec View → Type 0
IsSameSeat it other = (other.table_id ≡ it.table_id) × (other.id ≡ it.id)

-- the record of this message lies in front
abbrev pub IsInFront : Seat Rec View → ℕ → Rec → Type 0
IsInFront it m rec = (others : List (ℕ × Rec)) × (it.me.1 ≡ (slot_at m, rec) ∷ others)

-- an exchange from this word to the next found another word, and changed nothing
abbrev pub HasLost : ℕ → ℕ → View → View → Type 0
HasLost m old v w = (found : ℕ) × (found ≢ old) × IsAfter v m (at v m) (deed.loses (who v) m old (old + 1) found) w
