use Rattle.std.proofs.Common.{◌≡◌, ◌∙◌, subst}
use Rattle.lwkt_base.specs.declared.asks.Ask.{Ask}
use Rattle.lwkt_base.specs.declared.asks.Answer.{Answer}
use Rattle.lwkt_base.specs.declared.names.CpuId.{CpuId}
use Rattle.lwkt_table.specs.History.{events_by, steps_by}
use Rattle.lwkt_table.proofs.HistoryLemmas.{events_by-grows, events_by-past, steps_by-grows}
use Rattle.lwkt_bank.specs.Seats.{past_of}
use Rattle.lwkt_bank.specs.Laws.{StatesAreReached}
use Rattle.lwkt_msg.specs.Laws.{RuleShowsSafety}
use Rattle.lwkt_msg.specs.Laws.{StatesAreReached as MailsAreReached}
use Rattle.lwkt_cpu.specs.Laws.{TurnsArePartsOfRuns, MailsArePartsOfRuns}

-- what a turn did is a part of the one history
pub turn_parts : {B : Type 0} (polled : B → Answer → Ask → B → Type 0) → StatesAreReached → TurnsArePartsOfRuns polled
turn_parts polled reached bank old new t u turned turn plans cpus s j ledger at kind =
    let x = reached plans cpus s ledger in
    let history = x.0 in
    let ran = turn.ran in
    let cpu = old.seat.cpu in
    let parts = x.1.1.3 j new.seat.seat.me.0 new.seat.cpu at kind in
    let F : CpuId → Type 0 = λ k. (events_by k.0 history ≡ events_by k.0 (past_of new.seat)) in
    let G : CpuId → Type 0 = λ k. (steps_by k.0 history ≡ steps_by k.0 (past_of new.seat)) in
    record {
      history = history;
      machine = x.1.0;
      run = x.1.1.1;
      shown = x.1.1.2;
      deeds = ran.deeds;
      own = ran.mine;
      events = subst F ran.cpu parts.1 ∙ events_by-grows cpu.0 (past_of old.seat) ran.deeds (past_of new.seat) ran.grows ran.mine;
      steps = subst G ran.cpu parts.2 ∙ steps_by-grows cpu.0 (past_of old.seat) ran.deeds (past_of new.seat) ran.grows ran.mine;
      done = ran.done;
      trace = ran.trace;
      in_trace = ran.in_trace;
    }

-- so is what the ports' seat has done
pub mail_parts : (B : Type 0) → RuleShowsSafety → MailsAreReached → MailsArePartsOfRuns B
mail_parts B safe reached p key s j ledger at kind =
    let x = reached key s ledger in
    ((safe key s ledger).1, x.1, events_by-past ledger.chronicle.history p.seat.cpu.0 p.post.seat.view.past (x.2 j p.post.seat.view p.seat.cpu at kind))
