-- Where notes were taken in, or what is owed was paid, a note is in hand only where no place is known to be free; and where none was in
-- hand, none is after what leaves the sending ends alone.
use Rattle.std.proofs.Common.{◌≡◌, ⊎_elim, ℕ, zero, suc, ◌<◌, Bool, true, false, List, length, set, get_or, ap, sym, ◌∙◌, subst, arith, length-set, get_or-set_same, get_or-set_other}
use Rattle.std.proofs.lemmas.List.Elements.{All-set, All-get_or}
use mathlib.Core.Logic.{dite}
use native.Mathlib.Decide.{ℕ_discrete}
use Rattle.std.specs.Prelude.{All, Option, Some, None, IsSome, slice_index_or, slice_set}
use Rattle.lwkt_base.specs.declared.names.MsgId.{MsgId}
use Rattle.lwkt_lane.specs.declared.notes.Note.{Note}
use Rattle.lwkt_lane.specs.declared.outs.LaneOut.{LaneOut}
use Rattle.lwkt_lane.specs.Lane.{in_hand, free}
use Rattle.lwkt_port.specs.declared.handlings.Fate.{Fate}
use Rattle.lwkt_port.specs.declared.lines.Lane.{Lane}
use Rattle.lwkt_port.specs.Chains.{Chain}
use Rattle.lwkt_port.specs.Intakes.{Payer, PaysOwed, Pays, Desks, Handles, Pops, EmptiesKept, Intake, EmptiesFrom}
use Rattle.lwkt_port.specs.Laws.{HandsWaitForRoom, PaidHandsWaitForRoom}
use Rattle.lwkt_port.specs.Lines.{HasNoneInHand, WaitsForRoom, IsRoomed, HasFoundNote, IsLineLooked}
use Rattle.lwkt_port.specs.Mails.{kept_mail_at}
use Rattle.lwkt_port.specs.Posts.{ChangesOne, work_of}
use Rattle.lwkt_port.specs.Sendings.{ReplyMeans, Answers}
use Rattle.lwkt_port.specs.Works.{Work}
use Rattle.lwkt_port.proofs.Hinting.{chain_keeps}

-- the same of the first so many lines
AreUpto : ℕ → List Lane → Type 0
AreUpto k lanes = (j : ℕ) (d : Lane) → j < k → j < length lanes → WaitsForRoom (get_or lanes j d)

upto_none : (lanes : List Lane) → AreUpto 0 lanes
unfolding AreUpto
upto_none lanes = λ j d below inside. absurd (omega (arith, below))

upto_more : (k : ℕ) (lanes : List Lane) (new : Lane) → k < length lanes → WaitsForRoom new → AreUpto k lanes → AreUpto (suc k) (set lanes k new)
unfolding AreUpto
upto_more k lanes new there waits upto = λ j d below inside.
    let W : Lane → Type 0 = WaitsForRoom in
    dite (ℕ_discrete j k)
    (λ same. subst W (sym (ap (λ n. get_or (set lanes k new) n d) same ∙ get_or-set_same lanes k new d there)) waits)
    (λ apart. subst W (sym (get_or-set_other lanes k j new d apart)) (upto j d (omega (arith, below, apart)) (omega (arith, inside, length-set lanes k new))))

upto_all : (k : ℕ) (lanes : List Lane) → length lanes ≡ k → AreUpto k lanes → All WaitsForRoom lanes
unfolding AreUpto
upto_all k lanes many upto = λ j d there. upto j d (omega (arith, there, many)) there

-- each sending end has moved its note in hand on
rooms_upto : (k : ℕ) (x y : List Lane) → Chain (List Lane) (λ i a b. ChangesOne IsRoomed i a b) k x y → (length y ≡ length x) × AreUpto k y
unfolding Chain
rooms_upto zero x y chain = (ap length chain, upto_none y)
rooms_upto (suc k) x y chain =
    let z : List Lane = chain.0 in
    let c : ChangesOne IsRoomed k z y = chain.2 in
    let before : (length z ≡ length x) × AreUpto k z = rooms_upto k x z chain.1 in
    let F : List Lane → Type 0 = AreUpto (suc k) in
    (ap length c.now ∙ length-set z k c.new ∙ before.0, subst F (sym c.now) (upto_more k z c.new c.there c.does.full before.1))

rooms_wait : (x y : List Lane) → Chain (List Lane) (λ i a b. ChangesOne IsRoomed i a b) (length x) x y → All WaitsForRoom y
rooms_wait x y chain = let r : (length y ≡ length x) × AreUpto (length x) y = rooms_upto (length x) x y chain in upto_all (length x) y r.0 r.1

-- one line of the lanes changed
change_waits : (R : Lane → Lane → Type 0) (i : ℕ) (lanes lanes' : List Lane) (c : ChangesOne R i lanes lanes') → (WaitsForRoom c.old → WaitsForRoom c.new) → All WaitsForRoom lanes → All WaitsForRoom lanes'
change_waits R i lanes lanes' c keeps all =
    let W : Lane → Type 0 = WaitsForRoom in
    let F : List Lane → Type 0 = λ l. All WaitsForRoom l in
    let before : WaitsForRoom c.old = subst W c.was (All-get_or WaitsForRoom lanes i c.old c.there all) in
    subst F (sym c.now) (All-set WaitsForRoom lanes i c.new (keeps before) all)

-- replies that are owed
reply_waits : (msg : MsgId) (error outcome : ℕ) (line line' : Lane) (w w' : Work) (made : Bool) → ReplyMeans msg error outcome line line' w w' made → WaitsForRoom line'
reply_waits msg error outcome line line' w w' true r = r.posted.full
reply_waits msg error outcome line line' w w' false r = r.0.roomed.full

answers_wait : (msg : MsgId) (error outcome : ℕ) (lanes lanes' : List Lane) (w w' : Work) (made : Bool) → Answers msg error outcome lanes lanes' w w' made → All WaitsForRoom lanes → All WaitsForRoom lanes'
answers_wait msg error outcome lanes lanes' w w' made a all = change_waits (λ x y. ReplyMeans msg error outcome x y w w' made) (kept_mail_at w.mails msg.0).origin.cpu.0 lanes lanes' a (λ _. reply_waits msg error outcome a.old a.new w w' made a.does) all

owed_waits : (owed : Option ℕ) (m : ℕ) (x y : Payer) → PaysOwed owed m x y → All WaitsForRoom x.lanes → All WaitsForRoom y.lanes
owed_waits None m x y p all = let F : Payer → Type 0 = λ z. All WaitsForRoom z.lanes in subst F (sym p) all
owed_waits (Some error) m x y p all = answers_wait (record { 0 = m }) error 0 x.lanes y.lanes x.work y.work p.0 p.1 all

pays_wait : (m : ℕ) (x y : Payer) → Pays m x y → All WaitsForRoom x.lanes → All WaitsForRoom y.lanes
pays_wait m x y p all = owed_waits (kept_mail_at x.work.mails m).owed m x y p all

all_pay_wait : (k : ℕ) (x y : Payer) → Chain Payer Pays k x y → All WaitsForRoom x.lanes → All WaitsForRoom y.lanes
all_pay_wait k x y chain all = chain_keeps Payer Pays (λ z. All WaitsForRoom z.lanes) pays_wait k x y chain all

-- emptying a lane leaves the sending end alone
emptied_out : (kept : Option Note) (most count : ℕ) (line line' : Lane) (x y : Desks) → EmptiesKept kept most count line line' x y → line'.out ≡ line.out
emptied_out None most count line line' x y e = e.out_same
emptied_out (Some note) most count line line' x y e = ⊎_elim
    (λ (s : Handles note x y None × (line' ≡ line) × (count ≡ 0)). ap (λ (l : Lane). l.out) s.1)
    (λ (s : (z : Desks) × (how : Fate) × Handles note x z (Some how) × Pops most count (record line { kept = None }) line' z y). s.3.out_same)
    e

out_waits : (line line' : Lane) → line'.out ≡ line.out → WaitsForRoom line → WaitsForRoom line'
out_waits line line' same waits = let F : LaneOut → Type 0 = λ out. IsSome (in_hand out) → free out ≡ 0 in subst F (sym same) waits

from_waits : (limit sender : ℕ) (x y : Intake) → EmptiesFrom limit sender x y → All WaitsForRoom x.lanes → All WaitsForRoom y.lanes
from_waits limit sender x y e all =
    let c = e.1 in
    change_waits _ sender x.lanes y.lanes c (out_waits c.old c.new (emptied_out c.old.kept _ e.0 c.old c.new _ _ c.does)) all

pub taken_wait : HandsWaitForRoom
taken_wait limit count x y t =
    let start : Intake = record { work = t.paid.work; lanes = t.paid.lanes; ports = x.ports; count = 0 } in
    let paid : All WaitsForRoom t.paid.lanes = all_pay_wait (length x.work.mails) (record { work = x.work; lanes = t.roomed }) t.paid t.owed (rooms_wait x.lanes t.roomed t.rooms) in
    let emptied : All WaitsForRoom t.emptied.lanes = chain_keeps Intake (EmptiesFrom limit) (λ z. All WaitsForRoom z.lanes) (from_waits limit) (length t.paid.lanes) start t.emptied t.notes paid in
    let F : List Lane → Type 0 = λ l. All WaitsForRoom l in subst F (sym t.lanes_are) emptied

pub paid_wait : PaidHandsWaitForRoom
paid_wait p p' t u h = all_pay_wait (length p.mails) (record { work = work_of p t; lanes = h.roomed }) (record { work = work_of p' u; lanes = p'.lanes }) h.owed (rooms_wait p.lanes h.roomed h.rooms)

-- one line changed, which has none in hand if it had none
pub hands_put : (lanes : List Lane) (j : ℕ) (old new : Lane) → j < length lanes → old ≡ slice_index_or lanes j old → (HasNoneInHand old → HasNoneInHand new) → All HasNoneInHand lanes → All HasNoneInHand (slice_set lanes j new)
hands_put lanes j old new there was keeps all =
    let F : Lane → Type 0 = HasNoneInHand in
    let before : HasNoneInHand old = subst F (sym was) (All-get_or HasNoneInHand lanes j old there all) in
    All-set HasNoneInHand lanes j new (keeps before) all

-- one line changed, which has none in hand
pub hands_then : (lanes : List Lane) (j : ℕ) (new : Lane) → HasNoneInHand new → All HasNoneInHand lanes → All HasNoneInHand (slice_set lanes j new)
hands_then lanes j new none all = All-set HasNoneInHand lanes j new none all

-- steps on one line that leave it without a note in hand
pub out_none : (line line' : Lane) → line'.out ≡ line.out → HasNoneInHand line → HasNoneInHand line'
out_none line line' same none = ap (λ out. in_hand out) same ∙ none

pub room_none : (line line' : Lane) → IsRoomed line line' → HasNoneInHand line → HasNoneInHand line'
room_none line line' r none = ⊎_elim
    (λ (gone : HasNoneInHand line'). gone)
    (λ (same : in_hand line'.out ≡ in_hand line.out). same ∙ none)
    r.hand

pub found_none : (line line' : Lane) → HasFoundNote line line' → HasNoneInHand line → HasNoneInHand line'
found_none line line' found none = ⊎_elim
    (λ (same : line' ≡ line). out_none line line' (ap (λ (l : Lane). l.out) same) none)
    (λ (l : IsLineLooked line line'). out_none line line' l.out_same none)
    found

pub emptied_none : (most count : ℕ) (line line' : Lane) (x y : Desks) → EmptiesKept line.kept most count line line' x y → HasNoneInHand line → HasNoneInHand line'
emptied_none most count line line' x y e none = out_none line line' (emptied_out line.kept most count line line' x y e) none
