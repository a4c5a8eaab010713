-- A lane is emptied, a note at a time.
use Rattle.std.proofs.Common.{◌≡◌, ⊎_elim, ℕ, ◌+◌, ◌<◌, List, [], ◌∷◌, ◌++◌, length, refl, ap, sym, ◌∙◌, subst, arith, append_assoc, length-append}
use Rattle.std.proofs.lemmas.List.{append-nil}
use Rattle.std.specs.Prelude.{Option, Some, None, IfSome, MatchOption, option_to_list}
use Rattle.lwkt_base.specs.declared.names.CpuId.{CpuId}
use Rattle.lwkt_lane.specs.declared.notes.Note.{Note}
use mathlib.Core.List.{IsPrefix}
use Rattle.lwkt_lane.specs.Lane.{received, seen_notes, IsSeenGone, in_lane}
use Rattle.lwkt_msg.specs.Views.{seat_cpu}
use Rattle.lwkt_msg.specs.Desks.{desk_cpu}
use Rattle.lwkt_port.specs.declared.handlings.Fate.{Fate}
use Rattle.lwkt_lane.specs.declared.ins.LaneIn.{LaneIn}
use Rattle.lwkt_port.specs.declared.lines.Lane.{Lane}
use Rattle.lwkt_port.specs.Intakes.{Desks, desks, Handles, HandlesAll, Pops, EmptiesKept}
use Rattle.lwkt_port.specs.Lines.{IsDrained, HasPopped}
use Rattle.lwkt_port.specs.Posts.{KeepsNamed}
use Rattle.lwkt_port.specs.Queues.{NamesBoth}
use Rattle.lwkt_port.specs.Works.{Work, Grew, WorkState, KeepsWorkState}
use Rattle.lwkt_port.proofs.Growing.{grew_none, grew_then, same_none, same_then}

abbrev pub desks_at : WorkState → Desks
desks_at s = desks s.counters s.trace

pub keeps_none : (s : WorkState) → KeepsWorkState s s
keeps_none s = record { same = same_none s.counters.room.seat; len = refl; grown = (0, grew_none (desk_cpu s.counters.room.seat) s.trace); room = omega arith; away = refl }

pub keeps_then : (s s' s'' : WorkState) → KeepsWorkState s s' → KeepsWorkState s' s'' → KeepsWorkState s s''
keeps_then s s' s'' k l =
    let cpu : CpuId = desk_cpu s.counters.room.seat in
    let F : CpuId → Type 0 = λ c. Grew c l.grown.0 s'.trace s''.trace in
    let g : Grew cpu l.grown.0 s'.trace s''.trace = subst F (ap seat_cpu k.same.kind) l.grown.1 in record {
      same = same_then s.counters.room.seat s'.counters.room.seat s''.counters.room.seat k.same l.same;
      len = l.len ∙ k.len;
      grown = (k.grown.0 + l.grown.0, grew_then cpu k.grown.0 l.grown.0 s.trace s'.trace s''.trace k.grown.1 g);
      room = omega (arith, k.room, l.room);
      away = l.away ∙ k.away;
    }

-- one more note was handled
pub handles_more : (notes : List Note) (note : Note) (how : Fate) (x y z : Desks) → HandlesAll notes x y → Handles note y z (Some how) → HandlesAll (notes ++ note ∷ []) x z
handles_more [] note how x y z is h =
    let F : Desks → Type 0 = λ d. Handles note d z (Some how) in (z, how, subst F is h, refl)
handles_more (n ∷ notes) note how x y z p h = (p.0, p.1, p.2, handles_more notes note how p.0 y z p.3 h)

-- a front of a front
pub front_then : (a b c : List Note) → IsPrefix a b → IsPrefix b c → IsPrefix a c
front_then a b c p q = (p.0 ++ q.0, sym (append_assoc a p.0 q.0) ∙ ap (λ l. l ++ q.0) p.1 ∙ q.1)

front_itself : (a : List Note) → IsPrefix a a
front_itself a = ([], append-nil a)

-- the notes that were seen come first, also after another pop, and after one that found none
first_more : (before popped now now' : List Note) (note : Note) → IsPrefix before (popped ++ now) → IsPrefix now (note ∷ now') → IsPrefix before ((popped ++ note ∷ []) ++ now')
first_more before popped now now' note p q = (p.0 ++ q.0, sym (append_assoc before p.0 q.0) ∙ ap (λ l. l ++ q.0) p.1 ∙ append_assoc popped now q.0 ∙ ap (λ l. popped ++ l) q.1 ∙ sym (append_assoc popped (note ∷ []) now'))

first_same : (before popped now now' : List Note) → IsPrefix before (popped ++ now) → now' ≡ now → IsPrefix before (popped ++ now')
first_same before popped now now' p same = let F : List Note → Type 0 = λ l. IsPrefix before (popped ++ l) in subst F (sym same) p

-- so many notes were popped from a lane and handled
pub record IsPopping (turn : ℕ) (line : Lane) (s : WorkState) (line' : Lane) (s' : WorkState) : Type 0 where
  pub popped : List Note
  pub as_many : length popped ≡ turn
  pub received_is : received line'.into ≡ received line.into ++ popped
  pub first : IsPrefix (seen_notes line.into) (popped ++ seen_notes line'.into)
  pub handles : HandlesAll popped (desks_at s) (desks_at s')
  pub none : line'.kept ≡ None
  pub out_same : line'.out ≡ line.out
  pub lane_same : in_lane line'.into ≡ in_lane line.into
  pub keeps : KeepsWorkState s s'

pub popping_none : (line : Lane) (s : WorkState) → line.kept ≡ None → KeepsWorkState s s → IsPopping 0 line s line s
popping_none line s none keeps = record { popped = []; as_many = refl; received_is = sym (append-nil (received line.into)); first = front_itself (seen_notes line.into); handles = refl; none = none; out_same = refl; lane_same = refl; keeps = keeps }

pub popping_more : (turn : ℕ) (line : Lane) (s : WorkState) (line1 : Lane) (s1 : WorkState) (line2 : Lane) (s2 : WorkState) (note : Note) (how : Fate) → IsPopping turn line s line1 s1 → HasPopped note line1 line2 → Handles note (desks_at s1) (desks_at s2) (Some how) → KeepsWorkState s1 s2 → IsPopping (turn + 1) line s line2 s2
popping_more turn line s line1 s1 line2 s2 note how i pop handles keeps = record {
  popped = i.popped ++ note ∷ [];
  as_many = omega (arith, length-append i.popped (note ∷ []), i.as_many);
  received_is = pop.received_is ∙ ap (λ l. l ++ note ∷ []) i.received_is ∙ append_assoc (received line.into) i.popped (note ∷ []);
  first = first_more (seen_notes line.into) i.popped (seen_notes line1.into) (seen_notes line2.into) note i.first pop.first;
  handles = handles_more i.popped note how (desks_at s) (desks_at s1) (desks_at s2) i.handles handles;
  none = pop.kept_same ∙ i.none;
  out_same = pop.out_same ∙ i.out_same;
  lane_same = pop.lane_same ∙ i.lane_same;
  keeps = keeps_then s s1 s2 i.keeps keeps;
}

pub kept_nothing : (o : Option Note) (x y : Desks) → o ≡ None → y ≡ x → MatchOption o (y ≡ x) (λ note. Handles note x y None)
kept_nothing o x y is same = let F : Option Note → Type 0 = λ p. MatchOption p (y ≡ x) (λ note. Handles note x y None) in subst F (sym is) same

pub flow_nothing : (popped : List Note) (o : Option Note) → o ≡ None → popped ≡ popped ++ option_to_list o
flow_nothing popped o is = sym (append-nil popped) ∙ ap (λ p. popped ++ option_to_list p) (sym is)

-- what a pop leaves of a line
pub popped_so : (o : Option Note) (line : Lane) (into : LaneIn) → MatchOption o (received into ≡ received line.into) (λ note. received into ≡ received line.into ++ note ∷ []) → (o ≡ None → (seen_notes line.into ≡ []) × (seen_notes into ≡ [])) → IsSeenGone o (seen_notes line.into) (seen_notes into) → in_lane into ≡ in_lane line.into → MatchOption o (IsDrained line (record line { into = into })) (λ note. HasPopped note line (record line { into = into }))
popped_so None line into same none gone lane = record { received_same = same; seen_same = gone; empty = (none refl).1; lane_same = lane; out_same = refl; kept_same = refl }
popped_so (Some note) line into more none gone lane = record { received_is = more; first = gone; lane_same = lane; out_same = refl; kept_same = refl }

-- the last note found its port's queue full
pub popped_full : (most turn : ℕ) (line : Lane) (s : WorkState) (line1 : Lane) (s1 : WorkState) (line2 line3 : Lane) (s2 : WorkState) (note : Note) → turn < most → IsPopping turn line s line1 s1 → HasPopped note line1 line2 → Handles note (desks_at s1) (desks_at s2) None → line3 ≡ record line2 { kept = Some note } → Pops most (turn + 1) line line3 (desks_at s) (desks_at s2)
popped_full most turn line s line1 s1 line2 line3 s2 note within i pop handles is =
    let F : Lane → Type 0 = λ l. Pops most (turn + 1) line l (desks_at s) (desks_at s2) in
    subst F (sym is) record {
      popped = i.popped ++ note ∷ [];
      done = i.popped;
      between = desks_at s1;
      received_is = pop.received_is ∙ ap (λ l. l ++ note ∷ []) i.received_is ∙ append_assoc (received line.into) i.popped (note ∷ []);
      first = first_more (seen_notes line.into) i.popped (seen_notes line1.into) (seen_notes line2.into) note i.first pop.first;
      as_many = omega (arith, length-append i.popped (note ∷ []), i.as_many);
      within = omega arith;
      flow = refl;
      handles = i.handles;
      last = handles;
      emptied = λ _ none. absurd (let e : Some note ≡ None = none in cc);
      out_same = pop.out_same ∙ i.out_same;
      lane_same = pop.lane_same ∙ i.lane_same;
    }

-- a note that found its port's queue full names a message and a port, and so does the one that is kept after a lane was emptied
full_named : (n : ℕ) (note : Note) (x y : Desks) → n ≡ length y.work.mails → Handles note x y None → NamesBoth n note
full_named n note x y same h =
    let F : Work → Type 0 = λ w. NamesBoth (length w.mails) note in
    let G : ℕ → Type 0 = λ k. NamesBoth k note in
    subst G (sym same) (subst F (sym h.2) h.0)

last_named : (n : ℕ) (kept : Option Note) (x y : Desks) → n ≡ length y.work.mails → MatchOption kept (y ≡ x) (λ note. Handles note x y None) → IfSome kept (NamesBoth n)
last_named n None x y same last = tt
last_named n (Some note) x y same last = full_named n note x y same last

emptied_named : (kept : Option Note) (most count n : ℕ) (line line' : Lane) (x y : Desks) → line.kept ≡ kept → n ≡ length y.work.mails → EmptiesKept kept most count line line' x y → KeepsNamed n line'
emptied_named None most count n line line' x y is same e = last_named n line'.kept e.between y same e.last
emptied_named (Some note) most count n line line' x y is same e = ⊎_elim
    (λ (s : Handles note x y None × (line' ≡ line) × (count ≡ 0)). let F : Option Note → Type 0 = λ o. IfSome o (NamesBoth n) in subst F (sym (ap (λ (l : Lane). l.kept) s.1 ∙ is)) (full_named n note x y same s.0))
    (λ (s : (z : Desks) × (how : Fate) × Handles note x z (Some how) × Pops most count (record line { kept = None }) line' z y). last_named n line'.kept s.3.between y same s.3.last)
    e

pub line_named_after : (most count n : ℕ) (line line' : Lane) (x y : Desks) → n ≡ length y.work.mails → EmptiesKept line.kept most count line line' x y → KeepsNamed n line'
line_named_after most count n line line' x y same e = emptied_named line.kept most count n line line' x y refl same e
