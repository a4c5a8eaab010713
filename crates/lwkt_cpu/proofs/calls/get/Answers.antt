use Rattle.std.proofs.Common.{◌≡◌, ◌-◌, length, refl, ap, sym, ◌∙◌, subst, arith, Ok}
use Rattle.std.specs.Prelude.{Result}
use Rattle.lwkt_base.specs.Holding.{holding_of}
use Rattle.lwkt_base.specs.declared.faults.Fault.{Fault}
use Rattle.lwkt_base.specs.declared.asks.Answer.{Answer}
use Rattle.lwkt_bank.specs.Seats.{id_of, bank_of, tokens_of}
use Rattle.lwkt_hold.specs.declared.answers.Acquired.{Acquired}
use Rattle.lwkt_hold.specs.Outcomes.{IsWorn}
use Rattle.lwkt_cpu.specs.declared.nexts.Next.TheVariants.{Runs}
use Rattle.lwkt_cpu.specs.Table.{GoesOnWith}
use Rattle.lwkt_cpu.specs.Nexts.{kept_list, next_with}
use Rattle.lwkt_cpu.proofs.AskMoves.{given_up_at, ran_right, ran_switched, front_is, one_more, there_pushed, there_same, there_for, got_it, switched, unmoved}
use Rattle.lwkt_cpu.proofs.calls.get.Goals as goal

pub overflow_sub-held : goal.overflow_sub-held
overflow_sub-held c =
    let g = c.get in
    let m = switched c.args.list.now g.new.list c.args.new c.args.hold.now.seat g.new.self.seat c.args.trace.now g.new.trace c.in-Ok-MustSwitch.field-0 c.in-Ok-MustSwitch.field-0-0 c.in-Ok-MustSwitch.field-0-is c.in-Ok-MustSwitch.ensures.ok in
    let long = one_more c.args.list.now g.new.list c.args.new m.pushed in
    omega (arith, c.len-held.ensures.value, long)

pub be_ready-requires-clause-held : goal.be_ready-requires-clause-held
be_ready-requires-clause-held c =
    let g = c.get in
    let m = switched c.args.list.now g.new.list c.args.new c.args.hold.now.seat g.new.self.seat c.args.trace.now g.new.trace c.in-Ok-MustSwitch.field-0 c.in-Ok-MustSwitch.field-0-0 c.in-Ok-MustSwitch.field-0-is c.in-Ok-MustSwitch.ensures.ok in
    let long = one_more c.args.list.now g.new.list c.args.new m.pushed in
    let held : c.len-held.result - 1 ≡ length c.args.list.now = omega (arith, c.len-held.ensures.value, long) in
    m.held ∙ ap holding_of (sym (front_is c.args.list.now g.new.list c.args.new (c.len-held.result - 1) m.pushed held))

pub returns-in-Ok-Got-clause-ran : goal.returns-in-Ok-Got-clause-ran
returns-in-Ok-Got-clause-ran c = ran_right c.args.list.now c.get.new.list 1 c.args.hold.now.seat c.get.new.self.seat c.args.trace.now c.get.new.trace (omega arith) c.get.ensures.ran

pub returns-in-Ok-Got-clause-held : goal.returns-in-Ok-Got-clause-held
returns-in-Ok-Got-clause-held c =
    let g = c.get in
    (got_it c.args.list.now g.new.list c.args.new c.args.hold.now.seat g.new.self.seat c.args.trace.now g.new.trace c.in-Ok-Got.field-0 c.in-Ok-Got.field-0-is c.in-Ok-Got.ensures.ok).held

pub returns-in-Ok-Got-clause-there : goal.returns-in-Ok-Got-clause-there
returns-in-Ok-Got-clause-there c =
    let g = c.get in
    let m = got_it c.args.list.now g.new.list c.args.new c.args.hold.now.seat g.new.self.seat c.args.trace.now g.new.trace c.in-Ok-Got.field-0 c.in-Ok-Got.field-0-is c.in-Ok-Got.ensures.ok in
    there_pushed (tokens_of (bank_of c.args.hold.now.seat)) c.args.list.now g.new.list c.args.new m.pushed (there_for {A = Acquired} (id_of c.args.bank.now) c.args.hold.now.seat c.args.list.now c.args.new (IsWorn c.args.list.now c.args.new c.args.hold.now.seat g.new.self.seat) c.in-Ok-Got.field-0 c.requires.of_bank c.in-Ok-Got.ensures.refused)

pub returns-in-Ok-Got-clause-gets : goal.returns-in-Ok-Got-clause-gets
returns-in-Ok-Got-clause-gets c =
    let e = c.get.ensures in
    let F : Result Acquired Fault → Type 0 = λ r. GoesOnWith c.get.new.self.seat c.get.new.self.seat c.args.list.now c.get.new.list c.get.new.trace c.get.new.trace (Runs c.done.new.last) r in
    record {
      mid = c.get.new.self.seat;
      v = c.get.new.trace;
      result = c.get.result;
      acquires = record { refused = e.refused; ok = e.ok; err = e.err };
      goes_on = subst F (sym (c.in-Ok-Got.is ∙ ap Ok c.in-Ok-Got.field-0-is)) (refl, refl, ap (λ (a : Answer). Runs a) c.done.ensures);
    }

pub returns-in-Ok-MustSwitch-clause-ran : goal.returns-in-Ok-MustSwitch-clause-ran
returns-in-Ok-MustSwitch-clause-ran c =
    let g = c.get in
    let m = switched c.args.list.now g.new.list c.args.new c.args.hold.now.seat g.new.self.seat c.args.trace.now g.new.trace c.in-Ok-MustSwitch.field-0 c.in-Ok-MustSwitch.field-0-0 c.in-Ok-MustSwitch.field-0-is c.in-Ok-MustSwitch.ensures.ok in
    let long = one_more c.args.list.now g.new.list c.args.new m.pushed in
    let held : c.len-held.result - 1 ≡ length c.args.list.now = omega (arith, c.len-held.ensures.value, long) in
    ran_switched c.args.list.now (kept_list (next_with c.be_ready.result c.be_ready.new.last) g.new.list) c.args.hold.now.seat g.new.self.seat c.be_ready.new.hold.seat c.args.trace.now g.new.trace c.be_ready.new.trace _ (front_is c.args.list.now g.new.list c.args.new (c.len-held.result - 1) m.pushed held) m.ran c.be_ready.ensures.ran

pub returns-in-Ok-MustSwitch-clause-there : goal.returns-in-Ok-MustSwitch-clause-there
returns-in-Ok-MustSwitch-clause-there c =
    let g = c.get in
    let m = switched c.args.list.now g.new.list c.args.new c.args.hold.now.seat g.new.self.seat c.args.trace.now g.new.trace c.in-Ok-MustSwitch.field-0 c.in-Ok-MustSwitch.field-0-0 c.in-Ok-MustSwitch.field-0-is c.in-Ok-MustSwitch.ensures.ok in
    there_pushed (tokens_of (bank_of c.args.hold.now.seat)) c.args.list.now g.new.list c.args.new m.pushed (there_for {A = Acquired} (id_of c.args.bank.now) c.args.hold.now.seat c.args.list.now c.args.new (IsWorn c.args.list.now c.args.new c.args.hold.now.seat g.new.self.seat) c.in-Ok-MustSwitch.field-0 c.requires.of_bank c.in-Ok-MustSwitch.ensures.refused)

pub returns-in-Ok-MustSwitch-clause-gets : goal.returns-in-Ok-MustSwitch-clause-gets
returns-in-Ok-MustSwitch-clause-gets c =
    let g = c.get in
    let e = g.ensures in
    let m = switched c.args.list.now g.new.list c.args.new c.args.hold.now.seat g.new.self.seat c.args.trace.now g.new.trace c.in-Ok-MustSwitch.field-0 c.in-Ok-MustSwitch.field-0-0 c.in-Ok-MustSwitch.field-0-is c.in-Ok-MustSwitch.ensures.ok in
    let long = one_more c.args.list.now g.new.list c.args.new m.pushed in
    let held : c.len-held.result - 1 ≡ length c.args.list.now = omega (arith, c.len-held.ensures.value, long) in
    let F : Result Acquired Fault → Type 0 = λ r. GoesOnWith g.new.self.seat c.be_ready.new.hold.seat c.args.list.now g.new.list g.new.trace c.be_ready.new.trace (next_with c.be_ready.result c.be_ready.new.last) r in
    record {
      mid = g.new.self.seat;
      v = g.new.trace;
      result = g.result;
      acquires = record { refused = e.refused; ok = e.ok; err = e.err };
      goes_on = subst F (sym (c.in-Ok-MustSwitch.is ∙ ap Ok c.in-Ok-MustSwitch.field-0-is)) (given_up_at g.new.self.seat c.be_ready.new.hold.seat g.new.list (c.len-held.result - 1) (length c.args.list.now) g.new.trace c.be_ready.new.trace (next_with c.be_ready.result c.be_ready.new.last) held c.be_ready.ensures.gives_up);
    }

pub returns-in-Err-clause-ran : goal.returns-in-Err-clause-ran
returns-in-Err-clause-ran c = ran_right c.args.list.now c.get.new.list 1 c.args.hold.now.seat c.get.new.self.seat c.args.trace.now c.get.new.trace (omega arith) c.get.ensures.ran

pub returns-in-Err-clause-held : goal.returns-in-Err-clause-held
returns-in-Err-clause-held c = unmoved c.args.list.now c.get.new.list c.args.hold.now.seat c.get.new.self.seat c.args.trace.now c.get.new.trace c.requires.held c.in-Err.ensures.err.0 c.in-Err.ensures.err.1

pub returns-in-Err-clause-there : goal.returns-in-Err-clause-there
returns-in-Err-clause-there c = there_same (tokens_of (bank_of c.args.hold.now.seat)) c.args.list.now c.get.new.list c.in-Err.ensures.err.0

pub returns-in-Err-clause-gets : goal.returns-in-Err-clause-gets
returns-in-Err-clause-gets c =
    let e = c.get.ensures in
    let F : Result Acquired Fault → Type 0 = λ r. GoesOnWith c.get.new.self.seat c.get.new.self.seat c.args.list.now c.get.new.list c.get.new.trace c.get.new.trace (Runs c.done-in-Err.new.last) r in
    record {
      mid = c.get.new.self.seat;
      v = c.get.new.trace;
      result = c.get.result;
      acquires = record { refused = e.refused; ok = e.ok; err = e.err };
      goes_on = subst F (sym c.in-Err.is) (refl, refl, ap (λ (a : Answer). Runs a) c.done-in-Err.ensures);
    }
