-- Whatever the ports do, the trace has the seat's deeds: for each step on a message, and for the calls that are made of them.
use Rattle.std.proofs.Common.{◌≡◌, ⊎_elim, ℕ, zero, suc, ◌-◌, Bool, true, false, true≢false, List, [], ◌∷◌, ◌++◌, refl, ap, sym, ◌∙◌, subst, append_assoc}
use Rattle.std.proofs.lemmas.List.{append-nil}
use Rattle.std.specs.Prelude.{◌⊎◌, Option, Some, None, Result, Ok, Err, OnOk, IfOk, IsOk, IfErr, MatchOption}
use Rattle.lwkt_base.specs.declared.asks.Item.{Item}
use Rattle.lwkt_base.specs.declared.faults.Fault.{Fault}
use Rattle.lwkt_base.specs.declared.faults.Fault.TheVariants.{NotOwner, LaneFull, RoundsOut, Again}
use Rattle.lwkt_base.specs.declared.names.CpuId.{CpuId}
use Rattle.lwkt_base.specs.declared.names.MsgId.{MsgId}
use Rattle.lwkt_base.specs.declared.records.Call.{Call}
use Rattle.lwkt_base.specs.declared.records.Flags.{Flags}
use Rattle.lwkt_base.specs.declared.records.Rec.{Rec}
use Rattle.lwkt_core.specs.declared.events.Event.{Event}
use Rattle.lwkt_table.specs.declared.seats.Deed.{Deed}
use Rattle.lwkt_table.specs.History.{AreOwn, Grows, events_in}
use Rattle.lwkt_table.proofs.HistoryLemmas.{own-nil, own-cons, own-append, Grows-append, events_in-append}
use Rattle.lwkt_lane.specs.declared.notes.Note.{Note}
use Rattle.lwkt_lane.specs.declared.notes.NoteKind.{NoteKind}
use Rattle.lwkt_lane.specs.declared.notes.NoteKind.TheVariants.{Request, Answer}
use Rattle.lwkt_msg.specs.declared.answers.Taken.{Taken}
use Rattle.lwkt_msg.specs.declared.answers.Taken.TheVariants as taken
use Rattle.lwkt_msg.specs.declared.answers.Reaped.{Reaped}
use Rattle.lwkt_msg.specs.declared.answers.Reaped.TheVariants as reaped_
use Rattle.lwkt_msg.specs.declared.views.MessageEntry.{MessageEntry}
use Rattle.lwkt_msg.specs.Calls.{Does, IsUndropped, HasLostDrop}
use Rattle.lwkt_msg.specs.Desks.{Desk, desk_cpu, past_of, IsSameDesk}
use Rattle.lwkt_msg.specs.Views.{seat_cpu}
use Rattle.lwkt_port.specs.declared.deeds.Claim.{Claim}
use Rattle.lwkt_port.specs.declared.deeds.Claim.TheVariants as claim
use Rattle.lwkt_port.specs.declared.deeds.Sending.{Sending}
use Rattle.lwkt_port.specs.declared.gets.Served.TheVariants as served
use Rattle.lwkt_port.specs.declared.handlings.Fate.{Fate}
use Rattle.lwkt_port.specs.declared.handlings.Fate.TheVariants as fate
use Rattle.lwkt_port.specs.declared.lines.Lane.{Lane}
use Rattle.lwkt_port.specs.declared.queues.Port.{Port}
use Rattle.lwkt_port.specs.Chains.{Chain}
use Rattle.lwkt_port.specs.Deeds.{Takes, Reaps, Sends, Replies, IsRefused}
use Rattle.lwkt_port.specs.Intakes.{Payer, PaysOwed, Pays, Desks, Handles, HandlesAll, Pops, EmptiesKept, Intake, EmptiesFrom, ClearsAs, Clears, ClearsAll, ClearsQueue, ClearsClosed, Clearing, ClearsAt, Hall, TakesIn}
use Rattle.lwkt_port.specs.Mails.{kept_mail_at}
use Rattle.lwkt_port.specs.Sendings.{WhyUnsent, HasSentNote, ReplyMeans, Answers}
use Rattle.lwkt_port.specs.Queues.{queue_of}
use Rattle.lwkt_port.specs.Servings.{ServesAs, Serves, PassesAll, GetMeans}
use Rattle.lwkt_port.specs.Traced.{TracesDeeds, IsWorkTraced}
use Rattle.lwkt_port.specs.Withdrawals.{Requests, MayRefuseAbort, IsUnasked, MayRefuseDrop, Drops, IsUntouched, IsHeard}
use Rattle.lwkt_port.specs.Works.{Work}
use Rattle.lwkt_port.proofs.Growing.{same_none, same_then}

-- nothing was done
pub deeds_none : (d : Desk) (t : List Event) → TracesDeeds d d t t
deeds_none d t = record { same = same_none d; deeds = []; grows = refl; mine = own-nil (desk_cpu d).0; trace_is = sym (append-nil t) }

-- one call after another
pub deeds_then : (a b c : Desk) (t u v : List Event) → TracesDeeds a b t u → TracesDeeds b c u v → TracesDeeds a c t v
deeds_then a b c t u v first second =
    let same : desk_cpu b ≡ desk_cpu a = ap seat_cpu first.same.kind in
    let F : CpuId → Type 0 = λ k. Grows k.0 (past_of b) second.deeds (past_of c) in
    let G : CpuId → Type 0 = λ k. AreOwn k.0 second.deeds in record {
      same = same_then a b c first.same second.same;
      deeds = first.deeds ++ second.deeds;
      grows = Grows-append (desk_cpu a).0 (past_of a) first.deeds (past_of b) second.deeds (past_of c) first.grows (subst F same second.grows);
      mine = own-append (desk_cpu a).0 first.deeds second.deeds first.mine (subst G same second.mine);
      trace_is = second.trace_is ∙ ap (λ l. l ++ events_in second.deeds) first.trace_is ∙ append_assoc t (events_in first.deeds) (events_in second.deeds) ∙ ap (λ l. t ++ l) (sym (events_in-append first.deeds second.deeds));
    }

work_same : (w w' : Work) → w' ≡ w → IsWorkTraced w w'
work_same w w' is = let F : Work → Type 0 = λ x. IsWorkTraced w x in subst F (sym is) (deeds_none w.seat w.trace)

work_then : (w v u : Work) → IsWorkTraced w v → IsWorkTraced v u → IsWorkTraced w u
work_then w v u first second = deeds_then w.seat v.seat u.seat w.trace v.trace u.trace first second

-- a step on one message, by these deeds
work_by : (w w' : Work) (m : ℕ) (e : MessageEntry) (deeds : List Deed) → IsSameDesk w.seat w'.seat → Does w.seat.view w'.seat.view m e deeds → AreOwn (desk_cpu w.seat).0 deeds → w'.trace ≡ w.trace ++ events_in deeds → IsWorkTraced w w'
work_by w w' m e deeds same does mine is = record { same = same; deeds = deeds; grows = does.grows; mine = mine; trace_is = is }

one_own : (cpu : ℕ) (d : Deed) → d.cpu.0 ≡ cpu → AreOwn cpu (d ∷ [])
one_own cpu d own = own-cons cpu d [] own (own-nil cpu)

two_own : (cpu : ℕ) (c d : Deed) → c.cpu.0 ≡ cpu → d.cpu.0 ≡ cpu → AreOwn cpu (c ∷ d ∷ [])
two_own cpu c d first second = own-cons cpu c (d ∷ []) first (one_own cpu d second)

pub taken_traced : (who : Claim) (note : Note) (w w' : Work) (answer : Taken) → Takes who note w w' answer → IsWorkTraced w w'
taken_traced who note w w' (taken.Took rec aborted priority) t = work_by w w' _ _ _ t.same t.means.does (two_own (desk_cpu w.seat).0 _ _ refl refl) t.trace_is
taken_traced who note w w' taken.Stale t = work_by w w' _ _ _ t.same t.means.looked_at.does (one_own (desk_cpu w.seat).0 _ refl) t.trace_is
taken_traced who note w w' taken.Again t = work_by w w' _ _ _ t.same t.means.does (two_own (desk_cpu w.seat).0 _ _ refl refl) t.trace_is

pub reaped_traced : (keep : Bool) (note : Note) (w w' : Work) (answer : Reaped) → Reaps keep note w w' answer → IsWorkTraced w w'
reaped_traced keep note w w' (reaped_.Done rec) t = work_by w w' _ _ _ t.same t.means.does (two_own (desk_cpu w.seat).0 _ _ refl refl) t.trace_is
reaped_traced keep note w w' reaped_.Stale t = work_by w w' _ _ _ t.same t.means.looked_at.does (one_own (desk_cpu w.seat).0 _ refl) t.trace_is

pub sent_traced : (msg : MsgId) (to : CpuId) (call : Call) (flags : Flags) (sync : Bool) (w w' : Work) (round : ℕ) → Sends msg to call flags sync w w' round → IsWorkTraced w w'
sent_traced msg to call flags sync w w' round t = work_by w w' _ _ _ t.same t.means.does (two_own (desk_cpu w.seat).0 _ _ refl refl) t.trace_is

pub replied_traced : (msg : MsgId) (error outcome : ℕ) (w w' : Work) → Replies msg error outcome w w' → IsWorkTraced w w'
replied_traced msg error outcome w w' t = work_by w w' _ _ _ t.same t.means.does (two_own (desk_cpu w.seat).0 _ _ refl refl) t.trace_is

pub refused_traced : (msg : MsgId) (w w' : Work) → IsRefused msg w w' → IsWorkTraced w w'
refused_traced msg w w' t = work_by w w' _ _ _ t.same t.why.looked_at.does (one_own (desk_cpu w.seat).0 _ refl) (t.trace_same ∙ sym (append-nil w.trace))

-- a chain of steps
chain_traced : (A : Type 0) (Step : ℕ → A → A → Type 0) (work : A → Work) → ((k : ℕ) (x y : A) → Step k x y → IsWorkTraced (work x) (work y)) → (k : ℕ) (x y : A) → Chain A Step k x y → IsWorkTraced (work x) (work y)
unfolding Chain
chain_traced A Step work each zero x y chain = work_same (work x) (work y) (ap work chain)
chain_traced A Step work each (suc k) x y chain = work_then (work x) (work chain.0) (work y) (chain_traced A Step work each k x chain.0 chain.1) (each k chain.0 y chain.2)

-- replies
reply_traced : (msg : MsgId) (error outcome : ℕ) (line line' : Lane) (w w' : Work) (made : Bool) → ReplyMeans msg error outcome line line' w w' made → IsWorkTraced w w'
reply_traced msg error outcome line line' w w' true r = replied_traced msg error outcome w w' r.replies
reply_traced msg error outcome line line' w w' false r = work_same w w' r.1

pub answer_traced : (msg : MsgId) (error outcome : ℕ) (lanes lanes' : List Lane) (w w' : Work) (made : Bool) → Answers msg error outcome lanes lanes' w w' made → IsWorkTraced w w'
answer_traced msg error outcome lanes lanes' w w' made a = reply_traced msg error outcome a.old a.new w w' made a.does

owed_traced : (owed : Option ℕ) (m : ℕ) (x y : Payer) → PaysOwed owed m x y → IsWorkTraced x.work y.work
owed_traced None m x y p = work_same x.work y.work (ap (λ (z : Payer). z.work) p)
owed_traced (Some error) m x y p = answer_traced (record { 0 = m }) error 0 x.lanes y.lanes x.work y.work p.0 p.1

pays_traced : (m : ℕ) (x y : Payer) → Pays m x y → IsWorkTraced x.work y.work
pays_traced m x y p = owed_traced (kept_mail_at x.work.mails m).owed m x y p

-- notes of lanes
handle_traced : (note : Note) (x y : Desks) (how : Option Fate) → Handles note x y how → IsWorkTraced x.work y.work
handle_traced note x y (Some fate.Foreign) h = work_same x.work y.work (ap (λ (z : Desks). z.work) h.1)
handle_traced note x y (Some fate.Reaped) h = reaped_traced true note x.work y.work (reaped_.Done h.2.0) h.2.1
handle_traced note x y (Some fate.Stale) h = reaped_traced true note x.work y.work reaped_.Stale h.2
handle_traced note x y (Some fate.Queued) h = work_same x.work y.work h.2
handle_traced note x y None h = work_same x.work y.work h.2

handles_traced : (notes : List Note) (x y : Desks) → HandlesAll notes x y → IsWorkTraced x.work y.work
handles_traced [] x y h = work_same x.work y.work (ap (λ (z : Desks). z.work) h)
handles_traced (note ∷ notes) x y h = work_then x.work h.0.work y.work (handle_traced note x h.0 (Some h.1) h.2) (handles_traced notes h.0 y h.3)

last_traced : (kept : Option Note) (x y : Desks) → MatchOption kept (y ≡ x) (λ note. Handles note x y None) → IsWorkTraced x.work y.work
last_traced None x y h = work_same x.work y.work (ap (λ (z : Desks). z.work) h)
last_traced (Some note) x y h = handle_traced note x y None h

pops_traced : (most count : ℕ) (line line' : Lane) (x y : Desks) → Pops most count line line' x y → IsWorkTraced x.work y.work
pops_traced most count line line' x y p = work_then x.work p.between.work y.work (handles_traced p.done x p.between p.handles) (last_traced line'.kept p.between y p.last)

empties_traced : (kept : Option Note) (most count : ℕ) (line line' : Lane) (x y : Desks) → EmptiesKept kept most count line line' x y → IsWorkTraced x.work y.work
empties_traced None most count line line' x y e = pops_traced most count line line' x y e
empties_traced (Some note) most count line line' x y e = ⊎_elim
    (λ (s : Handles note x y None × (line' ≡ line) × (count ≡ 0)). handle_traced note x y None s.0)
    (λ (s : (z : Desks) × (how : Fate) × Handles note x z (Some how) × Pops most count (record line { kept = None }) line' z y). work_then x.work s.0.work y.work (handle_traced note x s.0 (Some s.1) s.2) (pops_traced most count (record line { kept = None }) line' s.0 y s.3))
    e

from_traced : (limit sender : ℕ) (x y : Intake) → EmptiesFrom limit sender x y → IsWorkTraced x.work y.work
from_traced limit sender x y e = empties_traced e.1.old.kept (limit - x.count) e.0 e.1.old e.1.new (record { work = x.work; ports = x.ports }) (record { work = y.work; ports = y.ports }) e.1.does

-- notes of closed ports
clears_as_traced : (kind : NoteKind) (note : Note) (w w' : Work) (stays : Bool) → ClearsAs kind note w w' stays → IsWorkTraced w w'
clears_as_traced Request note w w' stays c = taken_traced claim.Closed note w w' c.0 c.1
clears_as_traced Answer note w w' stays c = reaped_traced false note w w' c.0 c.1

clears_traced : (note : Note) (w w' : Work) (stays : Bool) → Clears note w w' stays → IsWorkTraced w w'
clears_traced note w w' stays c = clears_as_traced note.kind note w w' stays c

clears_all_traced : (notes : List Note) (w w' : Work) → ClearsAll notes w w' → IsWorkTraced w w'
clears_all_traced [] w w' c = work_same w w' c
clears_all_traced (note ∷ notes) w w' c = work_then w c.0 w' (clears_traced note w c.0 false c.1) (clears_all_traced notes c.0 w' c.2)

queue_traced : (most count : ℕ) (queue queue' : List Note) (w w' : Work) → ClearsQueue most count queue queue' w w' → IsWorkTraced w w'
queue_traced most count queue queue' w w' c = work_then w c.between w' (clears_all_traced c.done w c.between c.clears) (⊎_elim
    (λ (s : ((count ≡ most) ⊎ (queue' ≡ [])) × (w' ≡ c.between)). work_same c.between w' s.1)
    (λ (s : (note : Note) × (others : List Note) × (queue' ≡ note ∷ others) × Clears note c.between w' true). clears_traced s.0 c.between w' true s.3)
    c.ends)

closed_traced : (closed : Bool) (most count : ℕ) (port port' : Port) (w w' : Work) → ClearsClosed closed most count port port' w w' → IsWorkTraced w w'
closed_traced false most count port port' w w' c = work_same w w' c.1
closed_traced true most count port port' w w' c = queue_traced most count (queue_of port) (queue_of port') w w' c.1

clearing_traced : (port : ℕ) (x y : Clearing) → ClearsAt port x y → IsWorkTraced x.work y.work
clearing_traced port x y c = closed_traced c.1.old.closed x.left c.0 c.1.old c.1.new x.work y.work c.1.does

-- all that taking notes in does
pub takes_in_traced : (limit : ℕ) (x y : Hall) (count : ℕ) → TakesIn limit x y count → IsWorkTraced x.work y.work
takes_in_traced limit x y count t =
    let owed : IsWorkTraced x.work t.paid.work = chain_traced Payer Pays (λ z. z.work) pays_traced _ (record { work = x.work; lanes = t.roomed }) t.paid t.owed in
    let notes : IsWorkTraced t.paid.work t.emptied.work = chain_traced Intake (EmptiesFrom limit) (λ z. z.work) (from_traced limit) _ (record { work = t.paid.work; lanes = t.paid.lanes; ports = x.ports; count = 0 }) t.emptied t.notes in
    let closed : IsWorkTraced t.emptied.work y.work = chain_traced Clearing ClearsAt (λ z. z.work) clearing_traced 16 (record { work = t.emptied.work; ports = t.emptied.ports; left = 16 }) (record { work = y.work; ports = y.ports; left = t.left }) t.closed in
    work_then x.work t.paid.work y.work owed (work_then t.paid.work t.emptied.work y.work notes closed)

-- a thread served
serves_as_traced : (kind : NoteKind) (thread : ℕ) (note : Note) (w w' : Work) (outcome : _) → ServesAs kind thread note w w' outcome → IsWorkTraced w w'
serves_as_traced Request thread note w w' outcome s = taken_traced (claim.Thread thread) note w w' s.0 s.1
serves_as_traced Answer thread note w w' outcome s = reaped_traced false note w w' s.0 s.1

serves_traced : (thread : ℕ) (note : Note) (w w' : Work) (outcome : _) → Serves thread note w w' outcome → IsWorkTraced w w'
serves_traced thread note w w' outcome s = serves_as_traced note.kind thread note w w' outcome s

passes_traced : (thread : ℕ) (notes : List Note) (w w' : Work) → PassesAll thread notes w w' → IsWorkTraced w w'
passes_traced thread [] w w' p = work_same w w' p
passes_traced thread (note ∷ notes) w w' p = work_then w p.0 w' (serves_traced thread note w p.0 served.Passed p.1) (passes_traced thread notes p.0 w' p.2)

pub get_traced : (thread : ℕ) (queue queue' : List Note) (w w' : Work) (answer : Result (Option Item) Fault) → GetMeans thread queue queue' w w' answer → IsWorkTraced w w'
get_traced thread queue queue' w w' (Ok (Some it)) g = work_then w g.between w' (passes_traced thread g.passed w g.between g.passes) (serves_traced thread g.note g.between w' (served.Shown it) g.shows)
get_traced thread queue queue' w w' (Ok None) g = passes_traced thread queue w w' g.1
get_traced thread queue queue' w w' (Err Again) g = work_then w g.between w' (passes_traced thread g.passed w g.between g.passes) (serves_traced thread g.note g.between w' served.Lost g.loses)
get_traced thread queue queue' w w' (Err _) g = absurd g

-- a send, made or refused
pub sends_traced : (s : Sending) (lanes lanes' : List Lane) (w w' : Work) → HasSentNote s lanes lanes' w w' → IsWorkTraced w w'
sends_traced s lanes lanes' w w' h = sent_traced s.msg s.to.cpu s.call s.flags s.sync w w' h.over.does.round h.over.does.sends

pub unsent_traced : (s : Sending) (lanes lanes' : List Lane) (w w' : Work) (fault : Fault) → WhyUnsent s lanes lanes' w w' fault → IsWorkTraced w w'
unsent_traced s lanes lanes' w w' NotOwner r = work_same w w' r.2
unsent_traced s lanes lanes' w w' LaneFull r = work_same w w' r.1.does.1
unsent_traced s lanes lanes' w w' RoundsOut r = refused_traced s.msg w w' r.1.does.2
unsent_traced s lanes lanes' w w' _ r = absurd r

pub dispatch_traced : (s : Sending) (lanes lanes' : List Lane) (w w' : Work) (answer : Result (Unit {0}) Fault) → OnOk answer (HasSentNote s lanes lanes' w w') → IfErr answer (λ fault. WhyUnsent s lanes lanes' w w' fault) → IsWorkTraced w w'
dispatch_traced s lanes lanes' w w' (Ok x) sent refused = sends_traced s lanes lanes' w w' sent
dispatch_traced s lanes lanes' w w' (Err fault) sent refused = unsent_traced s lanes lanes' w w' fault refused

-- a request to abort, a drop, and a look for a request, made or refused
pub requested_traced : (msg : MsgId) (w w' : Work) → Requests msg w w' → IsWorkTraced w w'
requested_traced msg w w' t = work_by w w' _ _ _ t.same t.means.does (two_own (desk_cpu w.seat).0 _ _ refl refl) t.trace_is

pub unasked_traced : (msg : MsgId) (w w' : Work) (fault : Fault) → IsUnasked msg w w' fault → IsWorkTraced w w'
unasked_traced msg w w' fault t = work_by w w' _ _ _ t.same t.why.looked_at.does (one_own (desk_cpu w.seat).0 _ refl) (t.trace_same ∙ sym (append-nil w.trace))

pub dropped_traced : (msg : MsgId) (w w' : Work) (rec : Rec) → Drops msg w w' rec → IsWorkTraced w w'
dropped_traced msg w w' rec t = work_by w w' _ _ _ t.same t.means.does (two_own (desk_cpu w.seat).0 _ _ refl refl) t.trace_is

pub untouched_traced : (msg : MsgId) (w w' : Work) (fault : Fault) → IsUntouched msg w w' fault → IsWorkTraced w w'
untouched_traced msg w w' fault t = ⊎_elim
    (λ (looked : IsUndropped (desk_cpu w.seat) w.seat.view w'.seat.view msg.0 fault). work_by w w' _ _ _ t.same looked.looked_at.does (one_own (desk_cpu w.seat).0 _ refl) (t.trace_same ∙ sym (append-nil w.trace)))
    (λ (lost : HasLostDrop (desk_cpu w.seat) w.seat.view w'.seat.view msg.0 fault). work_by w w' _ _ _ t.same lost.does (two_own (desk_cpu w.seat).0 _ _ refl refl) (t.trace_same ∙ sym (append-nil w.trace)))
    t.why

pub heard_traced : (msg : MsgId) (w w' : Work) (aborted : Bool) → IsHeard msg w w' aborted → IsWorkTraced w w'
heard_traced msg w w' aborted t = work_by w w' _ _ _ t.same t.means.looked_at.does (one_own (desk_cpu w.seat).0 _ refl) (t.trace_same ∙ sym (append-nil w.trace))

pub request_traced : (msg : MsgId) (w w' : Work) (answer : Result (Unit {0}) Fault) → OnOk answer (Requests msg w w') → IfErr answer (λ fault. MayRefuseAbort fault × IsUnasked msg w w' fault) → IsWorkTraced w w'
request_traced msg w w' (Ok x) made refused = requested_traced msg w w' made
request_traced msg w w' (Err fault) made refused = unasked_traced msg w w' fault refused.1

pub withdraw_traced : (msg : MsgId) (w w' : Work) (answer : Result Rec Fault) → IfOk answer (λ rec. Drops msg w w' rec) → IfErr answer (λ fault. MayRefuseDrop fault × IsUntouched msg w w' fault) → IsWorkTraced w w'
withdraw_traced msg w w' (Ok rec) made refused = dropped_traced msg w w' rec made
withdraw_traced msg w w' (Err fault) made refused = untouched_traced msg w w' fault refused.1

pub hear_traced : (msg : MsgId) (w w' : Work) (answer : Result Bool Fault) → IsOk answer → IfOk answer (λ aborted. IsHeard msg w w' aborted) → IsWorkTraced w w'
hear_traced msg w w' (Ok aborted) ok heard = heard_traced msg w w' aborted heard
hear_traced msg w w' (Err fault) ok heard = absurd (true≢false (sym ok))

-- the owed replies
pub owed_all_traced : (count : ℕ) (x y : Payer) → Chain Payer Pays count x y → IsWorkTraced x.work y.work
owed_all_traced count x y chain = chain_traced Payer Pays (λ z. z.work) pays_traced count x y chain
