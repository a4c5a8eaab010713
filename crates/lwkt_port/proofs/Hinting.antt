-- What the ports remember stays true, and where it says that work isn't there, passing over that work is the same as looking at it.
use Rattle.std.proofs.Common.{◌≡◌, ◌≢◌, ⊎_elim, ℕ, zero, suc, ◌-◌, ◌<◌, ◌≤◌, Bool, true, false, inl, inr, List, [], ◌∷◌, ◌++◌, length, map, set, get_or, refl, ap, sym, ◌∙◌, subst, arith}
use Rattle.std.proofs.lemmas.Bool.{cases_lt}
use Rattle.std.proofs.lemmas.List.{set-get_or, get_or_default, get_or_past}
use Rattle.std.proofs.lemmas.Option.{slice_get-get_or}
use Rattle.std.proofs.lemmas.List.Elements.{All-set, All-get_or, All-nil, All-cons}
use Rattle.std.specs.Prelude.{Option, Some, None, Result, Ok, Err, MatchOption, slice_index_or}
use Rattle.lwkt_base.specs.declared.faults.Fault.{Fault}
use Rattle.lwkt_base.specs.declared.faults.Fault.TheVariants.{Again}
use Rattle.lwkt_base.specs.declared.asks.Item.{Item}
use Rattle.lwkt_base.specs.declared.names.CpuId.{CpuId}
use Rattle.lwkt_base.specs.declared.names.ThreadId.{ThreadId}
use Rattle.lwkt_base.specs.declared.records.Rec.{Rec}
use Rattle.lwkt_lane.specs.declared.notes.Note.{Note}
use Rattle.lwkt_lane.specs.declared.notes.NoteKind.{NoteKind}
use Rattle.lwkt_lane.specs.declared.notes.NoteKind.TheVariants.{Request, Answer}
use Rattle.lwkt_msg.specs.declared.answers.Taken.{Taken}
use Rattle.lwkt_msg.specs.declared.answers.Taken.TheVariants as taken
use Rattle.lwkt_msg.specs.declared.answers.Reaped.{Reaped}
use Rattle.lwkt_msg.specs.declared.answers.Reaped.TheVariants as reaped_
use Rattle.lwkt_port.specs.declared.deeds.Claim.TheVariants as claim
use Rattle.lwkt_port.specs.declared.gets.Served.{Served}
use Rattle.lwkt_port.specs.declared.gets.Served.TheVariants as served
use Rattle.lwkt_port.specs.declared.handlings.Fate.{Fate}
use Rattle.lwkt_port.specs.declared.handlings.Fate.TheVariants as fate
use Rattle.lwkt_port.specs.declared.lines.Lane.{Lane}
use Rattle.lwkt_port.specs.declared.mails.Mail.{Mail}
use Rattle.lwkt_port.specs.declared.queues.Port.{Port}
use Rattle.lwkt_port.specs.Chains.{Chain}
use Rattle.lwkt_port.specs.Deeds.{Takes, Reaps, reaped_mail}
use Rattle.lwkt_port.specs.Hints.{IsUnowed, OwesNone, IsClear, AreClear}
use Rattle.lwkt_port.specs.Intakes.{Payer, PaysOwed, Pays, Desks, Handles, HandlesAll, Pops, EmptiesKept, Intake, EmptiesFrom, ClearsClosed, Clearing, ClearsAt}
use Rattle.lwkt_port.specs.Mails.{no_kept_mail, kept_mail_at}
use Rattle.lwkt_port.specs.OpenedPorts.{new_mail, AreNew}
use Rattle.lwkt_port.specs.Queues.{queue_of}
use Rattle.lwkt_port.proofs.Classing.{leaves_none}
use Rattle.lwkt_port.specs.Servings.{served_request, ServesAs, Serves, GetMeans}
use Rattle.lwkt_port.specs.Works.{Work}

-- where no reply is owed, none is owed to the message of any number
pub owed_at : (mails : List Mail) (m : ℕ) → OwesNone mails → (kept_mail_at mails m).owed ≡ None
owed_at mails m none = ⊎_elim
    (λ (there : m < length mails). All-get_or IsUnowed mails m no_kept_mail there none)
    (λ (past : length mails ≤ m). ap (λ (mail : Mail). mail.owed) (get_or_past mails m no_kept_mail past))
    (cases_lt m (length mails))

-- something else is kept of one message, which is owed what it was owed before
pub owes_put : (mails : List Mail) (m : ℕ) (mail : Mail) → mail.owed ≡ (kept_mail_at mails m).owed → OwesNone mails → OwesNone (set mails m mail)
owes_put mails m mail same none = All-set IsUnowed mails m mail (same ∙ owed_at mails m none) none

-- the same, in place of a list that is equal to it
owes_is : (mails mails' : List Mail) (m : ℕ) (mail : Mail) → mail.owed ≡ (kept_mail_at mails m).owed → mails' ≡ set mails m mail → OwesNone mails → OwesNone mails'
owes_is mails mails' m mail same is none = let F : List Mail → Type 0 = OwesNone in subst F (sym is) (owes_put mails m mail same none)

owes_same : (mails mails' : List Mail) → mails' ≡ mails → OwesNone mails → OwesNone mails'
owes_same mails mails' is none = let F : List Mail → Type 0 = OwesNone in subst F (sym is) none

-- one port is another, which has nothing to clear if the first had nothing
pub clear_put : (ports : List Port) (j : ℕ) (old new : Port) → j < length ports → old ≡ slice_index_or ports j old → (IsClear old → IsClear new) → AreClear ports → AreClear (set ports j new)
clear_put ports j old new there was keeps all =
    let F : Port → Type 0 = IsClear in
    let before : IsClear old = subst F (sym was) (All-get_or IsClear ports j old there all) in
    All-set IsClear ports j new (keeps before) all

-- at the opening
pub owes_first : (cpu : CpuId) (origins : List ThreadId) → OwesNone (map (new_mail cpu) origins)
owes_first cpu [] = All-nil IsUnowed
owes_first cpu (origin ∷ origins) = All-cons IsUnowed (new_mail cpu origin) (map (new_mail cpu) origins) refl (owes_first cpu origins)

pub clear_first : (threads : ℕ) (ports : List Port) → AreNew threads ports → AreClear ports
clear_first threads ports new = λ k d there. λ closed. (new k (get_or ports k d) (slice_get-get_or ports k d there)).0

-- steps on a message that leave what is owed
reaped_owed : (keep : Bool) (rec : Rec) (mail : Mail) → (reaped_mail keep rec mail).owed ≡ mail.owed
reaped_owed true rec mail = refl
reaped_owed false rec mail = refl

reaps_owe : (keep : Bool) (note : Note) (w w' : Work) (answer : Reaped) → Reaps keep note w w' answer → OwesNone w.mails → OwesNone w'.mails
reaps_owe keep note w w' (reaped_.Done rec) r none = owes_is w.mails w'.mails note.msg.0 (reaped_mail keep rec (kept_mail_at w.mails note.msg.0)) (reaped_owed keep rec (kept_mail_at w.mails note.msg.0)) r.mails_are none
reaps_owe keep note w w' reaped_.Stale r none = owes_same w.mails w'.mails r.mails_are none

takes_owe : (thread : ℕ) (note : Note) (w w' : Work) (answer : Taken) → served_request note.msg answer ≢ served.Passed → Takes (claim.Thread thread) note w w' answer → OwesNone w.mails → OwesNone w'.mails
takes_owe thread note w w' (taken.Took rec true priority) shown t none = absurd (shown refl)
takes_owe thread note w w' (taken.Took rec false priority) shown t none = owes_is w.mails w'.mails note.msg.0 _ refl t.mails_are none
takes_owe thread note w w' taken.Stale shown t none = absurd (shown refl)
takes_owe thread note w w' taken.Again shown t none = owes_same w.mails w'.mails t.mails_are none

serves_as_owe : (kind : NoteKind) (thread : ℕ) (note : Note) (w w' : Work) (outcome : Served) → outcome ≢ served.Passed → ServesAs kind thread note w w' outcome → OwesNone w.mails → OwesNone w'.mails
serves_as_owe Request thread note w w' outcome shown s none = takes_owe thread note w w' s.0 (λ passed. shown (s.2 ∙ passed)) s.1 none
serves_as_owe Answer thread note w w' outcome shown s none = reaps_owe false note w w' s.0 s.1 none

-- a thread was served with a note, and it wasn't passed over
pub serves_owe : (thread : ℕ) (note : Note) (w w' : Work) (outcome : Served) → outcome ≢ served.Passed → Serves thread note w w' outcome → OwesNone w.mails → OwesNone w'.mails
serves_owe thread note w w' outcome shown s none = serves_as_owe note.kind thread note w w' outcome shown s none

-- what each step of a chain keeps, the chain keeps
pub chain_keeps : (A : Type 0) (Step : ℕ → A → A → Type 0) (P : A → Type 0) → ((k : ℕ) (x y : A) → Step k x y → P x → P y) → (k : ℕ) (x y : A) → Chain A Step k x y → P x → P y
unfolding Chain
chain_keeps A Step P each zero x y chain is = subst P (sym chain) is
chain_keeps A Step P each (suc k) x y chain is = each k chain.0 y chain.2 (chain_keeps A Step P each k x chain.0 chain.1 is)

-- nothing is owed: no reply is made
pub pays_none : (k : ℕ) (x : Payer) → OwesNone x.work.mails → Chain Payer Pays k x x
unfolding Chain
pays_none zero x none = refl
pays_none (suc k) x none =
    let F : Option ℕ → Type 0 = λ o. PaysOwed o k x x in
    let same : PaysOwed None k x x = refl in (x, pays_none k x none, subst F (sym (owed_at x.work.mails k none)) same)

-- notes of lanes
handle_owes : (note : Note) (x y : Desks) (how : Option Fate) → Handles note x y how → OwesNone x.work.mails → OwesNone y.work.mails
handle_owes note x y (Some fate.Foreign) h none = owes_same x.work.mails y.work.mails (ap (λ (z : Desks). z.work.mails) h.1) none
handle_owes note x y (Some fate.Reaped) h none = reaps_owe true note x.work y.work (reaped_.Done h.2.0) h.2.1 none
handle_owes note x y (Some fate.Stale) h none = reaps_owe true note x.work y.work reaped_.Stale h.2 none
handle_owes note x y (Some fate.Queued) h none = owes_same x.work.mails y.work.mails (ap (λ (v : Work). v.mails) h.2) none
handle_owes note x y None h none = owes_same x.work.mails y.work.mails (ap (λ (v : Work). v.mails) h.2) none

-- what handling a note keeps, emptying the lanes keeps
all_keep : (P : Desks → Type 0) → ((note : Note) (x y : Desks) (how : Option Fate) → Handles note x y how → P x → P y) → (notes : List Note) (x y : Desks) → HandlesAll notes x y → P x → P y
all_keep P each [] x y h is = subst P (sym h) is
all_keep P each (note ∷ notes) x y h is = all_keep P each notes h.0 y h.3 (each note x h.0 (Some h.1) h.2 is)

last_keeps : (P : Desks → Type 0) → ((note : Note) (x y : Desks) (how : Option Fate) → Handles note x y how → P x → P y) → (kept : Option Note) (x y : Desks) → MatchOption kept (y ≡ x) (λ note. Handles note x y None) → P x → P y
last_keeps P each None x y h is = subst P (sym h) is
last_keeps P each (Some note) x y h is = each note x y None h is

pops_keep : (P : Desks → Type 0) → ((note : Note) (x y : Desks) (how : Option Fate) → Handles note x y how → P x → P y) → (most count : ℕ) (line line' : Lane) (x y : Desks) → Pops most count line line' x y → P x → P y
pops_keep P each most count line line' x y p is = last_keeps P each line'.kept p.between y p.last (all_keep P each p.done x p.between p.handles is)

empties_keep : (P : Desks → Type 0) → ((note : Note) (x y : Desks) (how : Option Fate) → Handles note x y how → P x → P y) → (kept : Option Note) (most count : ℕ) (line line' : Lane) (x y : Desks) → EmptiesKept kept most count line line' x y → P x → P y
empties_keep P each None most count line line' x y e is = pops_keep P each most count line line' x y e is
empties_keep P each (Some note) most count line line' x y e is = ⊎_elim
    (λ (s : Handles note x y None × (line' ≡ line) × (count ≡ 0)). each note x y None s.0 is)
    (λ (s : (z : Desks) × (how : Fate) × Handles note x z (Some how) × Pops most count (record line { kept = None }) line' z y). pops_keep P each most count (record line { kept = None }) line' s.0 y s.3 (each note x s.0 (Some s.1) s.2 is))
    e

pub line_owes : (most count : ℕ) (line line' : Lane) (x y : Desks) → EmptiesKept line.kept most count line line' x y → OwesNone x.work.mails → OwesNone y.work.mails
line_owes most count line line' x y e none = empties_keep (λ z. OwesNone z.work.mails) handle_owes line.kept most count line line' x y e none

from_owes : (limit sender : ℕ) (x y : Intake) → EmptiesFrom limit sender x y → OwesNone x.work.mails → OwesNone y.work.mails
from_owes limit sender x y e none = empties_keep (λ z. OwesNone z.work.mails) handle_owes e.1.old.kept (limit - x.count) e.0 e.1.old e.1.new (record { work = x.work; ports = x.ports }) (record { work = y.work; ports = y.ports }) e.1.does none

pub emptied_owes : (limit k : ℕ) (x y : Intake) → Chain Intake (EmptiesFrom limit) k x y → OwesNone x.work.mails → OwesNone y.work.mails
emptied_owes limit k x y chain none = chain_keeps Intake (EmptiesFrom limit) (λ z. OwesNone z.work.mails) (from_owes limit) k x y chain none

-- a port that has nothing to clear is left as it is
clears_itself : (closed : Bool) (most : ℕ) (port : Port) (w : Work) → port.closed ≡ closed → IsClear port → ClearsClosed closed most 0 port port w w
clears_itself false most port w is clear = (refl, refl, refl)
clears_itself true most port w is clear = (is, record { done = []; between = w; queue_is = refl; as_many = refl; within = omega arith; clears = refl; ends = inl (inr (clear is), refl) }, leaves_none port)

clears_one : (k : ℕ) (x : Clearing) → k < length x.ports → AreClear x.ports → ClearsAt k x x
clears_one k x there all =
    let first : Port = a_port x.ports (omega arith) in
    let port : Port = get_or x.ports k first in
    let clear : IsClear port = All-get_or IsClear x.ports k first there all in
    (0, record { old = port; new = port; there = there; was = get_or_default x.ports k port first there; now = sym (set-get_or x.ports k first); does = clears_itself port.closed x.left port x.work refl clear }, omega arith)
  where
    a_port : (ports : List Port) → 0 < length ports → Port
    a_port [] there = absurd (omega arith)
    a_port (port ∷ ports) there = port

pub clears_none : (k : ℕ) (x : Clearing) → k ≤ length x.ports → AreClear x.ports → Chain Clearing ClearsAt k x x
unfolding Chain
clears_none zero x within all = refl
clears_none (suc k) x within all = (x, clears_none k x (omega arith) all, clears_one k x (omega arith) all)

no_end : (front : List Note) (note : Note) (back : List Note) → front ++ note ∷ back ≡ [] → ⊥
no_end [] note back is = let e : ◌≡◌ {A = List Note} (note ∷ back) [] = is in cc
no_end (n ∷ front) note back is = let e : ◌≡◌ {A = List Note} (n ∷ (front ++ note ∷ back)) [] = is in cc

got_none : (thread : ℕ) (queue queue' : List Note) (w w' : Work) (answer : Result (Option Item) Fault) → GetMeans thread queue queue' w w' answer → queue ≡ [] → queue' ≡ []
got_none thread queue queue' w w' (Ok (Some it)) g none = absurd (no_end g.passed g.note queue' (sym g.queue_is ∙ none))
got_none thread queue queue' w w' (Ok None) g none = g.0
got_none thread queue queue' w w' (Err Again) g none = absurd (no_end g.passed g.note g.others (sym g.queue_is ∙ none))
got_none thread queue queue' w w' (Err _) g none = absurd g

-- a thread that looks at an empty queue leaves it empty
pub got_clear : (thread : ℕ) (port port' : Port) (w w' : Work) (answer : Result (Option Item) Fault) → GetMeans thread (queue_of port) (queue_of port') w w' answer → port'.closed ≡ port.closed → IsClear port → IsClear port'
got_clear thread port port' w w' answer g same clear = λ closed. got_none thread (queue_of port) (queue_of port') w w' answer g (clear (sym same ∙ closed))
