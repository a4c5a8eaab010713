-- A thread is served from its queue, a note at a time.
use Rattle.std.proofs.Common.{◌≡◌, ℕ, ◌+◌, ◌<◌, List, [], ◌∷◌, ◌++◌, length, refl, ap, sym, ◌∙◌, subst, arith, append_assoc, length-append}
use Rattle.std.proofs.lemmas.List.Elements.{All-head}
use Rattle.std.specs.Prelude.{Vec, vec_len, All}
use Rattle.std.specs.declared.alloc.Global.{Global}
use Rattle.lwkt_core.specs.declared.events.Event.{Event}
use Rattle.lwkt_lane.specs.declared.notes.Note.{Note}
use Rattle.lwkt_port.specs.declared.gets.Served.TheVariants as served
use Rattle.lwkt_port.specs.declared.mailrooms.Mailroom.{Mailroom}
use Rattle.lwkt_port.specs.declared.queues.Port.{Port}
use Rattle.lwkt_port.specs.Queues.{NamesMessage, HasNamed}
use Rattle.lwkt_port.specs.Queues.{queue_of, LeavesInOrder, HasLeft}
use Rattle.lwkt_port.specs.Servings.{Serves, PassesAll}
use Rattle.lwkt_port.specs.Works.{Work, work, MailroomGrew}
use Rattle.lwkt_port.proofs.Classing.{named_each, named_left, leaving_chains}
use Rattle.lwkt_port.proofs.Growing.{grew_so_then}

-- one more note was passed over
pub passes_more : (thread : ℕ) (notes : List Note) (note : Note) (w v u : Work) → PassesAll thread notes w v → Serves thread note v u served.Passed → PassesAll thread (notes ++ note ∷ []) w u
passes_more thread [] note w v u is s =
    let F : Work → Type 0 = λ x. Serves thread note x u served.Passed in (u, subst F is s, refl)
passes_more thread (n ∷ notes) note w v u p s = (p.0, p.1, passes_more thread notes note p.0 v u p.2 s)

-- the first note of a port names a message, and what is left is in order
pub named_head : (n : ℕ) (port : Port) (note : Note) (rest : List Note) → queue_of port ≡ note ∷ rest → HasNamed n port → note.msg.0 < n
named_head n port note rest is named = let F : List Note → Type 0 = All (NamesMessage n) in All-head (NamesMessage n) note rest (subst F is (named_each n port named))

pub named_tail : (n n' : ℕ) (port port' : Port) → LeavesInOrder port port' → n' ≡ n → HasNamed n port → HasNamed n' port'
named_tail n n' port port' left same named =
    let F : ℕ → Type 0 = λ k. HasNamed k port' in
    subst F (sym same) (named_left n port port' left named)

-- a thread was served with so many notes, and shown none of them
pub record IsServing (thread turn : ℕ) (r : Mailroom) (trace : Vec Event Global) (port : Port) (r' : Mailroom) (trace' : Vec Event Global) (port' : Port) : Type 0 where
  pub passed : List Note
  pub as_many : length passed ≡ turn
  pub queue_is : queue_of port ≡ passed ++ queue_of port'
  pub passes : PassesAll thread passed (work r trace) (work r' trace')
  pub grew_so : MailroomGrew turn r trace r' trace'
  pub named : HasNamed (vec_len r'.mails) port'
  pub closed : port'.closed ≡ port.closed
  pub order : LeavesInOrder port port'

pub serving_more : (thread turn : ℕ) (r : Mailroom) (t : Vec Event Global) (p : Port) (r1 : Mailroom) (t1 : Vec Event Global) (p1 : Port) (r2 : Mailroom) (t2 : Vec Event Global) (p2 : Port) (note : Note) (rest : List Note)
    → IsServing thread turn r t p r1 t1 p1 → queue_of p1 ≡ note ∷ rest → HasLeft rest p1 p2 → Serves thread note (work r1 t1) (work r2 t2) served.Passed → MailroomGrew 1 r1 t1 r2 t2 → IsServing thread (turn + 1) r t p r2 t2 p2
serving_more thread turn r t p r1 t1 p1 r2 t2 p2 note rest s is left serves grew_so = record {
  passed = s.passed ++ note ∷ [];
  as_many = omega (arith, length-append s.passed (note ∷ []), s.as_many);
  queue_is = s.queue_is ∙ ap (λ q. s.passed ++ q) (is ∙ ap (λ q. note ∷ q) (sym left.0)) ∙ sym (append_assoc s.passed (note ∷ []) (queue_of p2));
  passes = passes_more thread s.passed note (work r t) (work r1 t1) (work r2 t2) s.passes serves;
  grew_so = grew_so_then turn 1 r r1 r2 t t1 t2 s.grew_so grew_so;
  named = named_tail (vec_len r1.mails) (vec_len r2.mails) p1 p2 left.2 grew_so.len s.named;
  closed = left.1 ∙ s.closed;
  order = leaving_chains p p1 p2 s.order left.2;
}
