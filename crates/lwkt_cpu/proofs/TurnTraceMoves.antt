-- What the trace of a processor has of messages: its calls on the ports trace it, and its calls on the hold trace nothing of it.
use Rattle.std.proofs.Common.{◌≡◌, ℕ, List, [], ◌∷◌, ◌++◌, length, take, refl, ap, sym, subst}
use Rattle.std.specs.Prelude.{Option, Some, None, Vec}
use Rattle.std.specs.declared.alloc.Global.{Global}
use Rattle.lwkt_base.specs.declared.asks.Ask.{Ask}
use Rattle.lwkt_base.specs.declared.asks.Answer.{Answer}
use Rattle.lwkt_base.specs.declared.names.CpuId.{CpuId}
use Rattle.lwkt_base.specs.declared.names.Ref.{Ref}
use Rattle.lwkt_core.specs.declared.events.Event.{Event}
use Rattle.lwkt_bank.specs.Seats.{BankId}
use Rattle.lwkt_hold.specs.declared.answers.Missed.{Missed}
use Rattle.lwkt_hold.specs.declared.answers.Resumed.{Resumed}
use Rattle.lwkt_hold.specs.declared.answers.Resumed.TheVariants.{All, Passed}
use Rattle.lwkt_hold.specs.Givings.{gives_all}
use Rattle.lwkt_core.specs.Takings.{takes_all}
use Rattle.lwkt_msg.specs.Desks.{Desk}
use Rattle.lwkt_cpu.specs.Traced.{TracesMail, TracesTokensOnly}
use Rattle.lwkt_cpu.proofs.MailTraceMoves.{quiet_none, mail_none, mail_then, mail_quiet, quiet_mail, plain_append, plain_takes_all, plain_gives_all}
use Rattle.lwkt_cpu.specs.declared.answers.Turned.{Turned}
use Rattle.lwkt_cpu.specs.Processors.{Processor}
use Rattle.lwkt_cpu.specs.Ending.{is_worn}
use Rattle.lwkt_cpu.specs.Turning.{Chooses}
use Rattle.lwkt_cpu.specs.Driving.{Made}
use Rattle.lwkt_cpu.proofs.ShutMoves.{closed_seat}

-- a trace with the same events
pub quiet_items : (t u : List Event) → u ≡ t → TracesTokensOnly t u
quiet_items t u is = let F : List Event → Type 0 = λ x. TracesTokensOnly t x in subst F (sym is) (quiet_none t)

pub mail_none_at : (a b : Desk) (t u : List Event) → b ≡ a → u ≡ t → TracesMail a b t u
mail_none_at a b t u is same = let F : Desk → Type 0 = λ d. TracesMail a d t u in subst F (sym is) (mail_none a t u (quiet_items t u same))

-- a resume, whichever it was
pub resumed_quiet : (cpu : CpuId) (refs : List Ref) (t u : List Event) (r : Resumed) → (r ≡ All → u ≡ t ++ takes_all cpu [] refs) → ((place : ℕ) (why : Missed) → r ≡ Passed place why → u ≡ t ++ (takes_all cpu [] (take place refs) ++ gives_all cpu [] (take place refs))) → TracesTokensOnly t u
resumed_quiet cpu refs t u All all passed = record { done = takes_all cpu [] refs; trace_is = all refl; quiet = plain_takes_all cpu [] refs }
resumed_quiet cpu refs t u (Passed place why) all passed = record {
  done = takes_all cpu [] (take place refs) ++ gives_all cpu [] (take place refs);
  trace_is = passed place why refl;
  quiet = plain_append (takes_all cpu [] (take place refs)) (gives_all cpu [] (take place refs)) (plain_takes_all cpu [] (take place refs)) (plain_gives_all cpu [] (take place refs));
}

-- choosing a thread leaves the seat of the ports as it is
pub chosen_post : {B : Type 0} (old new : Processor B) (t u : Vec Event Global) (running found : Option ℕ) → Chooses old new t u running found → new.post.seat ≡ old.post.seat
chosen_post old new t u (Some place) found c = ap (λ p. p.post.seat) c.1
chosen_post old new t u None found c = closed_seat is_worn new.threads (length new.threads) old.post new.post c.1

-- a turn: room is made in the trace, mail is taken in, and a thread is chosen
pub chosen_traced : (a b c : Desk) (t r v u : List Event) → r ≡ t → TracesMail a b r v → TracesTokensOnly v u → c ≡ b → TracesMail a c t u
chosen_traced a b c t r v u same mail quiet is = mail_quiet a b c t v u (quiet_mail a a b t r v (quiet_items t r same) refl mail) quiet is

-- turns made one after another
pub made_traced : {B : Type 0} (polled : B → Answer → Ask → B → Type 0) (bank : BankId) (old new : Processor B) (t u : Vec Event Global) (turns : List Turned) → Made polled bank old new t u turns → TracesMail old.post.seat new.post.seat t.items u.items
made_traced {B} polled bank old new t u [] made =
    let F : Processor B → Type 0 = λ p. TracesMail old.post.seat p.post.seat t.items u.items in
    let G : Vec Event Global → Type 0 = λ x. TracesMail old.post.seat old.post.seat t.items x.items in
    subst F (sym made.0) (subst G (sym made.1) (mail_none old.post.seat t.items t.items (quiet_none t.items)))
made_traced polled bank old new t u (turned ∷ turns) made = mail_then old.post.seat made.0.post.seat new.post.seat t.items made.1.0.items u.items made.1.1.0.traced (made_traced polled bank made.0 new made.1.0 u turns made.1.1.1)
