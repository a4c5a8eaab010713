-- Several calls on a trace make one.
use Rattle.std.proofs.Common.{◌≡◌, ℕ, ◌+◌, ◌≤◌, [], ◌++◌, length, refl, ap, sym, ◌∙◌, subst, arith, append_assoc, length-append}
use Rattle.std.proofs.lemmas.List.{append-nil}
use Rattle.std.proofs.lemmas.List.Elements.{All-append, All-nil}
use Rattle.std.specs.Prelude.{Vec, vec_len}
use Rattle.std.specs.declared.alloc.Global.{Global}
use Rattle.lwkt_base.specs.declared.names.CpuId.{CpuId}
use Rattle.lwkt_core.specs.declared.events.Event.{Event}
use Rattle.lwkt_msg.specs.Views.{seat_cpu}
use Rattle.lwkt_msg.specs.Desks.{Desk, desk_cpu, IsSameDesk}
use Rattle.lwkt_port.specs.declared.mailrooms.Mailroom.{Mailroom}
use Rattle.lwkt_port.specs.Works.{IsOfMessages, Grew, MailroomGrew}

pub grew_none : (cpu : CpuId) (t : Vec Event Global) → Grew cpu 0 t t
grew_none cpu t = record { made = []; trace_is = sym (append-nil t.items); own = All-nil (IsOfMessages cpu); few = omega arith; grown = omega arith; room = omega arith }

pub grew_then : (cpu : CpuId) (a b : ℕ) (t u v : Vec Event Global) → Grew cpu a t u → Grew cpu b u v → Grew cpu (a + b) t v
grew_then cpu a b t u v g h =
    let n : length (g.made ++ h.made) ≡ length g.made + length h.made = length-append g.made h.made in record {
      made = g.made ++ h.made;
      trace_is = h.trace_is ∙ ap (λ l. l ++ h.made) g.trace_is ∙ append_assoc t.items g.made h.made;
      own = All-append (IsOfMessages cpu) g.made h.made g.own h.own;
      few = omega (arith, n, g.few, h.few);
      grown = omega (arith, n, g.grown, h.grown);
      room = omega (arith, g.room, h.room);
    }

-- a trace that is at most so much longer grew by at most so many events
pub grew_few : (cpu : CpuId) (a b : ℕ) (t u : Vec Event Global) → Grew cpu a t u → vec_len u ≤ vec_len t + b → Grew cpu b t u
grew_few cpu a b t u g few = record { made = g.made; trace_is = g.trace_is; own = g.own; few = omega (arith, g.grown); grown = g.grown; room = g.room }

pub same_then : (a b c : Desk) → IsSameDesk a b → IsSameDesk b c → IsSameDesk a c
same_then a b c g h = record { table = h.table ∙ g.table; kind = h.kind ∙ g.kind; cpus = h.cpus ∙ g.cpus; specs = h.specs ∙ g.specs }

pub same_none : (a : Desk) → IsSameDesk a a
same_none a = record { table = refl; kind = refl; cpus = refl; specs = refl }

pub grew_so_none : (r : Mailroom) (t : Vec Event Global) → MailroomGrew 0 r t r t
grew_so_none r t = record { same = same_none r.seat; len = refl; grew = grew_none (desk_cpu r.seat) t }

pub grew_so_then : (a b : ℕ) (r r' r'' : Mailroom) (t t' t'' : Vec Event Global) → MailroomGrew a r t r' t' → MailroomGrew b r' t' r'' t'' → MailroomGrew (a + b) r t r'' t''
grew_so_then a b r r' r'' t t' t'' s s' =
    let F : CpuId → Type 0 = λ c. Grew c b t' t'' in
    let g : Grew (desk_cpu r.seat) b t' t'' = subst F (ap seat_cpu s.same.kind) s'.grew in record {
      same = same_then r.seat r'.seat r''.seat s.same s'.same;
      len = s'.len ∙ s.len;
      grew = grew_then (desk_cpu r.seat) a b t t' t'' s.grew g;
    }

pub grew_so_within : (a b : ℕ) (r r' : Mailroom) (t t' : Vec Event Global) → a ≤ b → MailroomGrew a r t r' t' → MailroomGrew b r t r' t'
grew_so_within a b r r' t t' fewer s = record { same = s.same; len = s.len; grew = grew_few (desk_cpu r.seat) a b t t' s.grew (omega (arith, s.grew.grown, s.grew.few)) }
