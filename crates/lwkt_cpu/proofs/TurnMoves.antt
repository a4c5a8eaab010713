-- The same turn, of a trace that was given room before it; and what turns leave of the ports.
use Rattle.std.proofs.Common.{◌≡◌, ◌≤◌, List, [], ◌∷◌, sym, ◌∙◌, subst}
use Rattle.std.specs.Prelude.{Vec, vec_len, vec_capacity}
use Rattle.std.specs.declared.alloc.Global.{Global}
use Rattle.lwkt_base.specs.declared.asks.Ask.{Ask}
use Rattle.lwkt_base.specs.declared.asks.Answer.{Answer}
use Rattle.lwkt_core.specs.declared.events.Event.{Event}
use Rattle.lwkt_bank.specs.Seats.{BankId}
use Rattle.lwkt_hold.proofs.RunMoves.{ran_with_room}
use Rattle.lwkt_port.specs.Posts.{IsSamePost}
use Rattle.lwkt_cpu.specs.Traced.{TracesMail}
use Rattle.lwkt_cpu.specs.declared.answers.Turned.{Turned}
use Rattle.lwkt_cpu.specs.Processors.{Processor}
use Rattle.lwkt_cpu.specs.Turning.{IsOfThread, MakesTurn}
use Rattle.lwkt_cpu.specs.Driving.{Made}
use Rattle.lwkt_cpu.proofs.WakeMoves.{post_none, post_then}

-- a turn of a trace that has more room is one of the trace that it was
pub turn_from_room : {B : Type 0} (polled : B → Answer → Ask → B → Type 0) (bank : BankId) (old new : Processor B) (t r u : Vec Event Global) (turned : Turned) → r.items ≡ t.items → vec_len r ≡ vec_len t → vec_capacity t ≤ vec_capacity r → MakesTurn polled bank old new r u turned → MakesTurn polled bank old new t u turned
turn_from_room {B} polled bank old new t r u turned items long wider made =
    let F : List Event → Type 0 = λ xs. TracesMail old.post.seat new.post.seat xs u.items in
    record {
      room = made.room;
      same = made.same ∙ items;
      mid = made.mid;
      v = made.v;
      mail = made.mail;
      turns = made.turns;
      ran = ran_with_room (IsOfThread old.threads new.threads) 4096 old.seat new.seat t r u items long wider made.ran;
      traced = subst F items made.traced;
      ports = made.ports;
      rest = made.rest;
    }

-- turns made one after another leave the ports the same ones
pub made_ports : {B : Type 0} (polled : B → Answer → Ask → B → Type 0) (bank : BankId) (old new : Processor B) (t u : Vec Event Global) (turns : List Turned) → Made polled bank old new t u turns → IsSamePost old.post new.post
made_ports {B} polled bank old new t u [] made =
    let F : Processor B → Type 0 = λ p. IsSamePost old.post p.post in
    subst F (sym made.0) (post_none old.post)
made_ports polled bank old new t u (turned ∷ turns) made = post_then old.post made.0.post new.post made.1.1.0.ports (made_ports polled bank made.0 new made.1.0 u turns made.1.1.1)
