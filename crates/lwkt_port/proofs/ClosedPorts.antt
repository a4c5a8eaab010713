-- A closed port is cleared, a note at a time.
use Rattle.std.proofs.Common.{◌≡◌, ℕ, ◌+◌, true, false, List, [], ◌∷◌, ◌++◌, length, refl, ap, sym, ◌∙◌, subst, arith, append_assoc, length-append, Bool}
use Rattle.std.proofs.lemmas.List.Elements.{All-set}
use Rattle.std.specs.Prelude.{Vec, vec_len, All, slice_set}
use Rattle.std.specs.declared.alloc.Global.{Global}
use Rattle.lwkt_core.specs.declared.events.Event.{Event}
use Rattle.lwkt_lane.specs.declared.notes.Note.{Note}
use Rattle.lwkt_port.specs.declared.mailrooms.Mailroom.{Mailroom}
use Rattle.lwkt_port.specs.declared.queues.Port.{Port}
use Rattle.lwkt_port.specs.Intakes.{Clears, ClearsAll, ClearsQueue, ClearsClosed, ClearsPort}
use Rattle.lwkt_port.specs.Queues.{queue_of, HasNamed, LeavesInOrder, HasLeft}
use Rattle.lwkt_port.specs.Works.{Work, work, MailroomGrew}
use Rattle.lwkt_port.proofs.Classing.{leaves_none, leaving_chains}
use Rattle.lwkt_port.proofs.Growing.{grew_so_none, grew_so_then}
use Rattle.lwkt_port.proofs.Serving.{named_tail}

-- one more note was taken off
pub clears_more : (notes : List Note) (note : Note) (w v u : Work) → ClearsAll notes w v → Clears note v u false → ClearsAll (notes ++ note ∷ []) w u
clears_more [] note w v u is c = let F : Work → Type 0 = λ x. Clears note x u false in (u, subst F is c, refl)
clears_more (n ∷ notes) note w v u p c = (p.0, p.1, clears_more notes note p.0 v u p.2 c)

-- so many notes were taken off a closed port
pub record IsClearing (turn : ℕ) (r : Mailroom) (trace : Vec Event Global) (port : Port) (r' : Mailroom) (trace' : Vec Event Global) (port' : Port) : Type 0 where
  pub notes : List Note
  pub as_many : length notes ≡ turn
  pub queue_is : queue_of port ≡ notes ++ queue_of port'
  pub clears : ClearsAll notes (work r trace) (work r' trace')
  pub grew_so : MailroomGrew turn r trace r' trace'
  pub named : HasNamed (vec_len r'.mails) port'
  pub closed : port'.closed ≡ port.closed
  pub order : LeavesInOrder port port'

pub clearing_none : (r : Mailroom) (t : Vec Event Global) (p : Port) → HasNamed (vec_len r.mails) p → IsClearing 0 r t p r t p
clearing_none r t p named = record {
  notes = [];
  as_many = refl;
  queue_is = refl;
  clears = refl;
  grew_so = grew_so_none r t;
  named = named;
  closed = refl;
  order = leaves_none p;
}

pub clearing_more : (turn : ℕ) (r : Mailroom) (t : Vec Event Global) (p : Port) (r1 : Mailroom) (t1 : Vec Event Global) (p1 : Port) (r2 : Mailroom) (t2 : Vec Event Global) (p2 : Port) (note : Note) (rest : List Note)
    → IsClearing turn r t p r1 t1 p1 → queue_of p1 ≡ note ∷ rest → HasLeft rest p1 p2 → Clears note (work r1 t1) (work r2 t2) false → MailroomGrew 1 r1 t1 r2 t2 → IsClearing (turn + 1) r t p r2 t2 p2
clearing_more turn r t p r1 t1 p1 r2 t2 p2 note rest s is left clears grew_so = record {
  notes = s.notes ++ note ∷ [];
  as_many = omega (arith, length-append s.notes (note ∷ []), s.as_many);
  queue_is = s.queue_is ∙ ap (λ q. s.notes ++ q) (is ∙ ap (λ q. note ∷ q) (sym left.0)) ∙ sym (append_assoc s.notes (note ∷ []) (queue_of p2));
  clears = clears_more s.notes note (work r t) (work r1 t1) (work r2 t2) s.clears clears;
  grew_so = grew_so_then turn 1 r r1 r2 t t1 t2 s.grew_so grew_so;
  named = named_tail (vec_len r1.mails) (vec_len r2.mails) p1 p2 left.2 grew_so.len s.named;
  closed = left.1 ∙ s.closed;
  order = leaving_chains p p1 p2 s.order left.2;
}

-- what was taken off a closed port clears it: none is left, as many were taken off as may be, or the first one stays
pub cleared : (most turn : ℕ) (p p1 : Port) (w w1 : Work) → p.closed ≡ true → p1.closed ≡ p.closed → ClearsQueue most turn (queue_of p) (queue_of p1) w w1 → LeavesInOrder p p1 → ClearsPort most turn p p1 w w1
cleared most turn p p1 w w1 closed same clears order = let F : Bool → Type 0 = λ b. ClearsClosed b most turn p p1 w w1 in let all : ClearsClosed true most turn p p1 w w1 = (same ∙ closed, clears, order) in subst F (sym closed) all

-- clearing a port leaves notes that name messages
pub clears_named : (closed : Bool) (most count n n' : ℕ) (p p' : Port) (w w' : Work) → ClearsClosed closed most count p p' w w' → n' ≡ n → HasNamed n p → HasNamed n' p'
clears_named false most count n n' p p' w w' c same named = let F : ℕ × Port → Type 0 = λ x. HasNamed x.0 x.1 in subst F (λ i. (sym same i, sym c.0 i)) named
clears_named true most count n n' p p' w w' c same named = named_tail n n' p p' c.2 same named

-- notes of ports name messages after one port was changed
pub ports_named : (n n' : ℕ) (ports : List Port) (j : ℕ) (new : Port) → n' ≡ n → All (HasNamed n) ports → HasNamed n' new → All (HasNamed n') (slice_set ports j new)
ports_named n n' ports j new same all named =
    let F : ℕ → Type 0 = λ k. All (HasNamed k) ports in
    All-set (HasNamed n') ports j new named (subst F (sym same) all)
