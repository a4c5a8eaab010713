-- What the ports do leaves their lines at the lanes that they had.
use Rattle.std.proofs.Common.{◌≡◌, ⊎_elim, ℕ, zero, suc, ◌-◌, Bool, true, false, List, [], ◌∷◌, length, map, set, get_or, refl, ap, sym, ◌∙◌, subst}
use Rattle.std.specs.Prelude.{Option, Some, None, Result, Ok, Err, OnOk, IfErr}
use Rattle.lwkt_base.specs.declared.faults.Fault.{Fault}
use Rattle.lwkt_base.specs.declared.faults.Fault.TheVariants.{NotOwner, LaneFull, RoundsOut}
use Rattle.lwkt_base.specs.declared.names.MsgId.{MsgId}
use Rattle.lwkt_lane.specs.declared.notes.Note.{Note}
use Rattle.lwkt_lane.specs.Lane.{out_lane, in_lane}
use Rattle.lwkt_port.specs.declared.deeds.Sending.{Sending}
use Rattle.lwkt_port.specs.declared.handlings.Fate.{Fate}
use Rattle.lwkt_port.specs.declared.lines.Lane.{Lane}
use Rattle.lwkt_port.specs.Chains.{Chain}
use Rattle.lwkt_port.specs.Intakes.{Payer, PaysOwed, Pays, Desks, desks_of, Handles, Pops, EmptiesKept, Intake, EmptiesFrom, Hall, TakesIn}
use Rattle.lwkt_port.specs.Lines.{IsRoomed}
use Rattle.lwkt_port.specs.Mails.{kept_mail_at}
use Rattle.lwkt_port.specs.Posts.{ChangesOne, AreSameLanes}
use Rattle.lwkt_port.specs.Sendings.{ReplyMeans, Answers, RefusesOver, HasSentNote, WhyUnsent}
use Rattle.lwkt_port.specs.Works.{Work}
use Rattle.lwkt_port.proofs.Hinting.{chain_keeps}

pub lanes_none : (a : List Lane) → AreSameLanes a a
lanes_none a = record { outs = refl; ins = refl }

pub lanes_then : (a b c : List Lane) → AreSameLanes a b → AreSameLanes b c → AreSameLanes a c
lanes_then a b c p q = record { outs = q.outs ∙ p.outs; ins = q.ins ∙ p.ins }

pub lanes_is : (a b : List Lane) → b ≡ a → AreSameLanes a b
lanes_is a b is = let F : List Lane → Type 0 = λ l. AreSameLanes a l in subst F (sym is) (lanes_none a)

-- what is the same of one thing of a list is the same of all
map_set : (A B : Type 0) (f : A → B) (xs : List A) (i : ℕ) (old new : A) → get_or xs i old ≡ old → f new ≡ f old → map f (set xs i new) ≡ map f xs
map_set A B f [] i old new was same = refl
map_set A B f (x ∷ xs) zero old new was same = ap (λ y. y ∷ map f xs) (same ∙ ap f (sym was))
map_set A B f (x ∷ xs) (suc i) old new was same = ap (λ l. f x ∷ l) (map_set A B f xs i old new was same)

-- one line changed, and goes over its lanes still
pub lanes_change : (R : Lane → Lane → Type 0) (i : ℕ) (a b : List Lane) (c : ChangesOne R i a b) → out_lane c.new.out ≡ out_lane c.old.out → in_lane c.new.into ≡ in_lane c.old.into → AreSameLanes a b
lanes_change R i a b c out into = lanes_then a (set a i c.new) b (record { outs = map_set _ _ (λ (line : Lane). out_lane line.out) a i c.old c.new c.was out; ins = map_set _ _ (λ (line : Lane). in_lane line.into) a i c.old c.new c.was into }) (lanes_is (set a i c.new) b c.now)

rooms_lanes : (k : ℕ) (x y : List Lane) → Chain (List Lane) (λ i a b. ChangesOne IsRoomed i a b) k x y → AreSameLanes x y
rooms_lanes k x y chain = chain_keeps (List Lane) (λ i a b. ChangesOne IsRoomed i a b) (λ z. AreSameLanes x z) (λ i a b c p. lanes_then x a b p (lanes_change IsRoomed i a b c c.does.lane_same (ap (λ i. in_lane i) c.does.into_same))) k x y chain (lanes_none x)

reply_out : (msg : MsgId) (error outcome : ℕ) (line line' : Lane) (w w' : Work) (made : Bool) → ReplyMeans msg error outcome line line' w w' made → out_lane line'.out ≡ out_lane line.out
reply_out msg error outcome line line' w w' true r = r.posted.lane_same
reply_out msg error outcome line line' w w' false r = r.0.roomed.lane_same

reply_into : (msg : MsgId) (error outcome : ℕ) (line line' : Lane) (w w' : Work) (made : Bool) → ReplyMeans msg error outcome line line' w w' made → in_lane line'.into ≡ in_lane line.into
reply_into msg error outcome line line' w w' true r = ap (λ i. in_lane i) r.posted.into_same
reply_into msg error outcome line line' w w' false r = ap (λ i. in_lane i) r.0.roomed.into_same

pub answer_lanes : (msg : MsgId) (error outcome : ℕ) (lanes lanes' : List Lane) (w w' : Work) (made : Bool) → Answers msg error outcome lanes lanes' w w' made → AreSameLanes lanes lanes'
answer_lanes msg error outcome lanes lanes' w w' made a = lanes_change (λ x y. ReplyMeans msg error outcome x y w w' made) (kept_mail_at w.mails msg.0).origin.cpu.0 lanes lanes' a (reply_out msg error outcome a.old a.new w w' made a.does) (reply_into msg error outcome a.old a.new w w' made a.does)

owed_lanes : (owed : Option ℕ) (m : ℕ) (x y : Payer) → PaysOwed owed m x y → AreSameLanes x.lanes y.lanes
owed_lanes None m x y p = lanes_is x.lanes y.lanes (ap (λ (z : Payer). z.lanes) p)
owed_lanes (Some error) m x y p = answer_lanes (record { 0 = m }) error 0 x.lanes y.lanes x.work y.work p.0 p.1

pay_lanes : (k : ℕ) (x y : Payer) → Chain Payer Pays k x y → AreSameLanes x.lanes y.lanes
pay_lanes k x y chain = chain_keeps Payer Pays (λ z. AreSameLanes x.lanes z.lanes) (λ m a b p q. lanes_then x.lanes a.lanes b.lanes q (owed_lanes (kept_mail_at a.work.mails m).owed m a b p)) k x y chain (lanes_none x.lanes)

-- the notes in hand moved on, and what is owed was paid
pub paid_lanes : (n k : ℕ) (x roomed : List Lane) (w : Work) (y : Payer) → Chain (List Lane) (λ i a b. ChangesOne IsRoomed i a b) n x roomed → Chain Payer Pays k (record { work = w; lanes = roomed }) y → AreSameLanes x y.lanes
paid_lanes n k x roomed w y rooms owed = lanes_then x roomed y.lanes (rooms_lanes n x roomed rooms) (pay_lanes k (record { work = w; lanes = roomed }) y owed)

emptied_out : (kept : Option Note) (most count : ℕ) (line line' : Lane) (x y : Desks) → EmptiesKept kept most count line line' x y → out_lane line'.out ≡ out_lane line.out
emptied_out None most count line line' x y e = ap (λ o. out_lane o) e.out_same
emptied_out (Some note) most count line line' x y e = ⊎_elim
    (λ (s : Handles note x y None × (line' ≡ line) × (count ≡ 0)). ap (λ (l : Lane). out_lane l.out) s.1)
    (λ (s : (z : Desks) × (how : Fate) × Handles note x z (Some how) × Pops most count (record line { kept = None }) line' z y). ap (λ o. out_lane o) s.3.out_same)
    e

emptied_into : (kept : Option Note) (most count : ℕ) (line line' : Lane) (x y : Desks) → EmptiesKept kept most count line line' x y → in_lane line'.into ≡ in_lane line.into
emptied_into None most count line line' x y e = e.lane_same
emptied_into (Some note) most count line line' x y e = ⊎_elim
    (λ (s : Handles note x y None × (line' ≡ line) × (count ≡ 0)). ap (λ (l : Lane). in_lane l.into) s.1)
    (λ (s : (z : Desks) × (how : Fate) × Handles note x z (Some how) × Pops most count (record line { kept = None }) line' z y). s.3.lane_same)
    e

from_lanes : (limit sender : ℕ) (x y : Intake) → EmptiesFrom limit sender x y → AreSameLanes x.lanes y.lanes
from_lanes limit sender x y e =
    let c = e.1 in
    lanes_change _ sender x.lanes y.lanes c (emptied_out c.old.kept (limit - x.count) e.0 c.old c.new (desks_of x) (desks_of y) c.does) (emptied_into c.old.kept (limit - x.count) e.0 c.old c.new (desks_of x) (desks_of y) c.does)

pub taken_lanes : (limit count : ℕ) (x y : Hall) → TakesIn limit x y count → AreSameLanes x.lanes y.lanes
taken_lanes limit count x y t =
    let start : Intake = record { work = t.paid.work; lanes = t.paid.lanes; ports = x.ports; count = 0 } in
    let paid : AreSameLanes x.lanes t.paid.lanes = paid_lanes (length x.lanes) (length x.work.mails) x.lanes t.roomed x.work t.paid t.rooms t.owed in
    let emptied : AreSameLanes t.paid.lanes t.emptied.lanes = chain_keeps Intake (EmptiesFrom limit) (λ z. AreSameLanes t.paid.lanes z.lanes) (λ i a b p q. lanes_then t.paid.lanes a.lanes b.lanes q (from_lanes limit i a b p)) (length t.paid.lanes) start t.emptied t.notes (lanes_none t.paid.lanes) in
    lanes_then x.lanes t.emptied.lanes y.lanes (lanes_then x.lanes t.paid.lanes t.emptied.lanes paid emptied) (lanes_is t.emptied.lanes y.lanes t.lanes_are)

-- a message was sent, or not
refused_out : (s : Sending) (line line' : Lane) (w w' : Work) (fault : Fault) → RefusesOver s line line' w w' fault → out_lane line'.out ≡ out_lane line.out
refused_out s line line' w w' LaneFull r = r.0.roomed.lane_same
refused_out s line line' w w' RoundsOut r = r.0.lane_same
refused_out s line line' w w' _ r = absurd r

refused_into : (s : Sending) (line line' : Lane) (w w' : Work) (fault : Fault) → RefusesOver s line line' w w' fault → in_lane line'.into ≡ in_lane line.into
refused_into s line line' w w' LaneFull r = ap (λ i. in_lane i) r.0.roomed.into_same
refused_into s line line' w w' RoundsOut r = ap (λ i. in_lane i) r.0.into_same
refused_into s line line' w w' _ r = absurd r

over_lanes : (s : Sending) (lanes lanes' : List Lane) (w w' : Work) (fault : Fault) → ChangesOne (λ a b. RefusesOver s a b w w' fault) s.to.cpu.0 lanes lanes' → AreSameLanes lanes lanes'
over_lanes s lanes lanes' w w' fault c = lanes_change (λ a b. RefusesOver s a b w w' fault) s.to.cpu.0 lanes lanes' c (refused_out s c.old c.new w w' fault c.does) (refused_into s c.old c.new w w' fault c.does)

unsent_lanes : (s : Sending) (lanes lanes' : List Lane) (w w' : Work) (fault : Fault) → WhyUnsent s lanes lanes' w w' fault → AreSameLanes lanes lanes'
unsent_lanes s lanes lanes' w w' NotOwner r = lanes_is lanes lanes' r.1
unsent_lanes s lanes lanes' w w' LaneFull r = over_lanes s lanes lanes' w w' LaneFull r.1
unsent_lanes s lanes lanes' w w' RoundsOut r = over_lanes s lanes lanes' w w' RoundsOut r.1
unsent_lanes s lanes lanes' w w' _ r = absurd r

pub dispatch_lanes : (s : Sending) (lanes lanes' : List Lane) (w w' : Work) (answer : Result (Unit {0}) Fault) → OnOk answer (HasSentNote s lanes lanes' w w') → IfErr answer (λ fault. WhyUnsent s lanes lanes' w w' fault) → AreSameLanes lanes lanes'
dispatch_lanes s lanes lanes' w w' (Ok x) sent refused = lanes_change _ s.to.cpu.0 lanes lanes' sent.over sent.over.does.posted.lane_same (ap (λ i. in_lane i) sent.over.does.posted.into_same)
dispatch_lanes s lanes lanes' w w' (Err fault) sent refused = unsent_lanes s lanes lanes' w w' fault refused
