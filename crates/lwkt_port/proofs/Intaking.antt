-- Taking notes in makes at most 256 events: one for each reply that is owed, one for each message that is away and reaped, and
-- those of the closed ports.
use Rattle.std.proofs.Common.{◌+◌, ◌≤◌, List, arith}
use Rattle.std.proofs.lemmas.List.Sums.{count_by-le-length}
use Rattle.std.specs.Prelude.{Vec, not}
use Rattle.std.specs.declared.alloc.Global.{Global}
use Rattle.lwkt_core.specs.declared.events.Event.{Event}
use Rattle.lwkt_msg.specs.Desks.{Desk, desk_cpu}
use Rattle.lwkt_port.specs.declared.mailrooms.Mailroom.{Mailroom}
use Rattle.lwkt_port.specs.declared.mails.Mail.{Mail}
use Rattle.lwkt_port.specs.Mails.{AreMails}
use Rattle.lwkt_port.specs.Works.{away_count, Grew, MailroomGrew, WorkState, KeepsWorkState}
use Rattle.lwkt_port.proofs.Growing.{grew_few, grew_so_then, grew_so_within}

-- no more messages are away than there are
pub away_few : (d : Desk) (mails : List Mail) → AreMails d mails → away_count mails ≤ 64
away_few d mails are = omega (arith, count_by-le-length (λ (mail : Mail). not mail.home) mails, are.few)

pub grew_so_in_all : (r0 : Mailroom) (t0 : Vec Event Global) (s1 s2 : WorkState) (r3 : Mailroom) (t3 : Vec Event Global) → MailroomGrew 64 r0 t0 s1.counters.room s1.trace → KeepsWorkState s1 s2 → MailroomGrew 32 s2.counters.room s2.trace r3 t3 → MailroomGrew 256 r0 t0 r3 t3
grew_so_in_all r0 t0 s1 s2 r3 t3 paid keeps cleared =
    let r1 : Mailroom = s1.counters.room in
    let r2 : Mailroom = s2.counters.room in
    let few : away_count r1.mails.items ≤ 64 = away_few r1.seat r1.mails.items r1.kept in
    let grew : Grew (desk_cpu r1.seat) 64 s1.trace s2.trace = grew_few (desk_cpu r1.seat) keeps.grown.0 64 s1.trace s2.trace keeps.grown.1 (omega (arith, few, keeps.away)) in
    let grew_so : MailroomGrew 64 r1 s1.trace r2 s2.trace = record { same = keeps.same; len = keeps.len; grew = grew } in
    let both : MailroomGrew (64 + 64) r0 t0 r2 s2.trace = grew_so_then 64 64 r0 r1 r2 t0 s1.trace s2.trace paid grew_so in
    grew_so_within (64 + 64 + 32) 256 r0 r3 t0 t3 (omega arith) (grew_so_then (64 + 64) 32 r0 r2 r3 t0 s2.trace t3 both cleared)
