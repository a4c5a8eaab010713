-- Lanes without notes are passed over, and the first one with a note is emptied; where nothing is to be done before that, it is taking
-- notes in.
use Rattle.std.proofs.Common.{◌≡◌, ℕ, zero, suc, ◌+◌, ◌-◌, ◌<◌, ◌≤◌, List, [], ◌∷◌, ◌++◌, length, get_or, ⊎_elim, refl, ap, sym, ◌∙◌, subst, arith}
use Rattle.std.proofs.Math.ListN.{length-set}
use Rattle.std.proofs.lemmas.List.{append-nil, set-get_or, get_or_default, get_or-set_same, set-set}
use Rattle.std.proofs.lemmas.List.Elements.{All-get_or}
use Rattle.std.specs.Prelude.{All, Option, Some, None, slice_index_or, slice_set}
use Rattle.lwkt_lane.specs.declared.notes.Note.{Note}
use Rattle.lwkt_lane.specs.Lane.{received, seen_notes}
use Rattle.lwkt_port.specs.declared.handlings.Fate.{Fate}
use Rattle.lwkt_port.specs.declared.lines.Lane.{Lane}
use Rattle.lwkt_port.specs.declared.queues.Port.{Port}
use Rattle.lwkt_port.specs.Chains.{Chain}
use Rattle.lwkt_port.specs.Hints.{OwesNone}
use Rattle.lwkt_port.specs.Intakes.{Desks, desks_of, Handles, Pops, EmptiesKept, Empties, Intake, EmptiesFrom, untaken, IsFronted, Clearing, ClearsAt, Hall, TakesIn}
use Rattle.lwkt_port.specs.Lines.{HasNoneInHand, IsRoomed, HasNone, IsLineLooked, HasFoundNote}
use Rattle.lwkt_port.specs.Posts.{ChangesOne}
use Rattle.lwkt_port.specs.Works.{Work}
use Rattle.lwkt_port.proofs.Chaining.{chain_more}
use Rattle.lwkt_port.proofs.Dispatching.{changed}
use Rattle.lwkt_port.proofs.Emptying.{front_then, kept_nothing, flow_nothing}
use Rattle.lwkt_port.proofs.Hinting.{chain_keeps, pays_none}
use Rattle.lwkt_port.proofs.Posting.{room_itself}

an_item : (A : Type 0) (xs : List A) → 0 < length xs → A
an_item A [] there = absurd (omega arith)
an_item A (x ∷ xs) there = x

-- one thing of a list stays
changes_itself : (A : Type 0) (P : A → Type 0) (R : A → A → Type 0) (k : ℕ) (xs : List A) → ((x : A) → P x → R x x) → All P xs → k < length xs → ChangesOne R k xs xs
changes_itself A P R k xs same all there =
    let first : A = an_item A xs (omega arith) in
    let x : A = get_or xs k first in
    record { old = x; new = x; there = there; was = get_or_default xs k x first there; now = sym (set-get_or xs k first); does = same x (All-get_or P xs k first there all) }

rooms_none : (k : ℕ) (lanes : List Lane) → All HasNoneInHand lanes → k ≤ length lanes → Chain (List Lane) (λ i a b. ChangesOne IsRoomed i a b) k lanes lanes
unfolding Chain
rooms_none zero lanes none within = refl
rooms_none (suc k) lanes none within = (lanes, rooms_none k lanes none (omega arith), changes_itself Lane HasNoneInHand IsRoomed k lanes room_itself none (omega arith))

-- a line that had no note was emptied
none_empties : (most : ℕ) (line line' : Lane) (x : Desks) → HasNone line line' → Empties most 0 line line' x x
none_empties most line line' x h =
    let F : Option Note → Type 0 = λ o. EmptiesKept o most 0 line line' x x in
    let none : line'.kept ≡ None = h.kept_same ∙ h.none in
    let pops : Pops most 0 line line' x x = record {
      popped = [];
      done = [];
      between = x;
      received_is = h.received_same ∙ sym (append-nil (received line.into));
      first = h.first;
      as_many = refl;
      within = omega arith;
      flow = flow_nothing [] line'.kept none;
      handles = refl;
      last = kept_nothing line'.kept x x none refl;
      emptied = λ _ _. h.empty;
      out_same = h.out_same;
      lane_same = h.lane_same;
    } in
    subst F (sym h.none) pops

-- one lane more was passed over
pub passes_more : (limit sender : ℕ) (w : Work) (ports : List Port) (before lanes : List Lane) (old new : Lane) → sender < length lanes → old ≡ slice_index_or lanes sender old → HasNone old new → Chain Intake (EmptiesFrom limit) sender (untaken w ports before) (untaken w ports lanes) → Chain Intake (EmptiesFrom limit) (sender + 1) (untaken w ports before) (untaken w ports (slice_set lanes sender new))
passes_more limit sender w ports before lanes old new there was none chain =
    let x : Intake = untaken w ports lanes in
    let y : Intake = untaken w ports (slice_set lanes sender new) in
    let R : Lane → Lane → Type 0 = λ a b. Empties (limit - 0) 0 a b (desks_of x) (desks_of y) in
    let changes : ChangesOne R sender lanes (slice_set lanes sender new) = changed Lane R sender sender lanes old new there was refl (none_empties (limit - 0) old new (desks_of x) none) in
    chain_more Intake (EmptiesFrom limit) sender (untaken w ports before) x y chain (0, changes, refl)

-- a lane has a note
pub fronted : (limit sender : ℕ) (w : Work) (ports : List Port) (before lanes : List Lane) (old new : Lane) → sender < length lanes → old ≡ slice_index_or lanes sender old → HasFoundNote old new → length lanes ≡ length before → Chain Intake (EmptiesFrom limit) sender (untaken w ports before) (untaken w ports lanes) → IsFronted limit sender w ports before (slice_set lanes sender new)
fronted limit sender w ports before lanes old new there was found same chain = record {
  passed = lanes;
  passes = chain;
  found = changed Lane HasFoundNote sender sender lanes old new there was refl found;
  as_many = omega (arith, length-set lanes sender new, same);
}

-- emptying a lane that was looked at is emptying it
looked_empties : (most count : ℕ) (line0 line1 line2 : Lane) (x y : Desks) → IsLineLooked line0 line1 → Empties most count line1 line2 x y → Empties most count line0 line2 x y
looked_empties most count line0 line1 line2 x y l e =
    let F : Option Note → Type 0 = λ o. EmptiesKept o most count line1 line2 x y in
    let G : Option Note → Type 0 = λ o. EmptiesKept o most count line0 line2 x y in
    let p : Pops most count line1 line2 x y = subst F (l.kept_same ∙ l.none) e in
    let pops : Pops most count line0 line2 x y = record {
      popped = p.popped;
      done = p.done;
      between = p.between;
      received_is = p.received_is ∙ ap (λ r. r ++ p.popped) l.received_same;
      first = front_then (seen_notes line0.into) (seen_notes line1.into) (p.popped ++ seen_notes line2.into) l.first p.first;
      as_many = p.as_many;
      within = p.within;
      flow = p.flow;
      handles = p.handles;
      last = p.last;
      emptied = p.emptied;
      out_same = p.out_same ∙ l.out_same;
      lane_same = p.lane_same ∙ l.lane_same;
    } in
    subst G (sym l.none) pops

found_empties : (most count : ℕ) (line0 line1 line2 : Lane) (x y : Desks) → HasFoundNote line0 line1 → Empties most count line1 line2 x y → Empties most count line0 line2 x y
found_empties most count line0 line1 line2 x y found e = ⊎_elim
    (λ (same : line1 ≡ line0). let F : Lane → Type 0 = λ l. Empties most count l line2 x y in subst F same e)
    (λ (l : IsLineLooked line0 line1). looked_empties most count line0 line1 line2 x y l e)
    found

-- no more notes are taken in than are allowed
empties_within : (kept : Option Note) (most count : ℕ) (line line' : Lane) (x y : Desks) → EmptiesKept kept most count line line' x y → count ≤ most
empties_within None most count line line' x y e = e.within
empties_within (Some note) most count line line' x y e = ⊎_elim
    (λ (s : Handles note x y None × (line' ≡ line) × (count ≡ 0)). omega (arith, s.2))
    (λ (s : (z : Desks) × (how : Fate) × Handles note x z (Some how) × Pops most count (record line { kept = None }) line' z y). s.3.within)
    e

from_within : (limit sender : ℕ) (x y : Intake) → EmptiesFrom limit sender x y → x.count ≤ limit → y.count ≤ limit
from_within limit sender x y e before =
    let more : e.0 ≤ limit - x.count = empties_within e.1.old.kept (limit - x.count) e.0 e.1.old e.1.new (desks_of x) (desks_of y) e.1.does in omega (arith, before, more, e.2)

pub takes_within : (limit count : ℕ) (x y : Hall) → TakesIn limit x y count → count ≤ limit
takes_within limit count x y t =
    let start : Intake = record { work = t.paid.work; lanes = t.paid.lanes; ports = x.ports; count = 0 } in
    let within : t.emptied.count ≤ limit = chain_keeps Intake (EmptiesFrom limit) (λ z. z.count ≤ limit) (from_within limit) (length t.paid.lanes) start t.emptied t.notes (omega arith) in omega (arith, within, t.count_is)

-- a line that was found with a note keeps what it kept
pub found_kept : (line line' : Lane) → HasFoundNote line line' → line'.kept ≡ line.kept
found_kept line line' found = ⊎_elim
    (λ (same : line' ≡ line). ap (λ (l : Lane). l.kept) same)
    (λ (l : IsLineLooked line line'). l.kept_same)
    found

-- the first lane with a note was emptied
pub front_emptied : (limit k first : ℕ) (w w' : Work) (ports ports' : List Port) (before now : List Lane) (line new : Lane) → IsFronted limit first w ports before now → line ≡ slice_index_or now first line → Empties limit k line new (record { work = w; ports = ports }) (record { work = w'; ports = ports' }) → Chain Intake (EmptiesFrom limit) (first + 1) (untaken w ports before) (record { work = w'; lanes = slice_set now first new; ports = ports'; count = k })
front_emptied limit k first w w' ports ports' before now line new f was does =
    let c = f.found in
    let at : line ≡ c.new = was ∙ ap (λ l. slice_index_or l first line) c.now ∙ get_or-set_same f.passed first c.new line c.there in
    let E : Lane → Type 0 = HasFoundNote c.old in
    let found : HasFoundNote c.old line = subst E (sym at) c.does in
    let x : Intake = untaken w ports f.passed in
    let y : Intake = record { work = w'; lanes = slice_set now first new; ports = ports'; count = k } in
    let R : Lane → Lane → Type 0 = λ a b. Empties (limit - 0) k a b (desks_of x) (desks_of y) in
    let changes : ChangesOne R first f.passed (slice_set now first new) = record {
      old = c.old;
      new = new;
      there = c.there;
      was = c.was;
      now = ap (λ l. slice_set l first new) c.now ∙ set-set f.passed first c.new new;
      does = (let G : ℕ → Type 0 = λ n. Empties n k c.old new (desks_of x) (desks_of y) in let e : limit ≡ limit - 0 = omega arith in subst G e (found_empties limit k c.old line new (desks_of x) (desks_of y) found does));
    } in
    chain_more Intake (EmptiesFrom limit) first (untaken w ports before) x y f.passes (k, changes, omega arith)

-- where nothing is owed, and no note is in hand, taking notes in is emptying the lanes and clearing the closed ports
pub calm_takes : (limit left : ℕ) (w : Work) (ports : List Port) (before : List Lane) (emptied : Intake) (y : Hall) → OwesNone w.mails → All HasNoneInHand before → Chain Intake (EmptiesFrom limit) (length before) (untaken w ports before) emptied → Chain Clearing ClearsAt 16 (record { work = emptied.work; ports = emptied.ports; left = 16 }) (record { work = y.work; ports = y.ports; left = left }) → y.lanes ≡ emptied.lanes → TakesIn limit (record { work = w; lanes = before; ports = ports }) y emptied.count
calm_takes limit left w ports before emptied y none hands notes closed lanes = record {
  roomed = before;
  paid = record { work = w; lanes = before };
  emptied = emptied;
  left = left;
  rooms = rooms_none (length before) before hands (omega arith);
  owed = pays_none (length w.mails) (record { work = w; lanes = before }) none;
  notes = notes;
  closed = closed;
  lanes_are = lanes;
  count_is = refl;
}
