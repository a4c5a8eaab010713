use Rattle.std.proofs.Common.{◌≡◌, set, refl, ap, ◌∙◌, subst, Some, None}
use Rattle.lwkt_hold.specs.Runs.{Ran}
use Rattle.lwkt_cpu.specs.Nexts.{next_with}
use Rattle.lwkt_cpu.proofs.MailTraceMoves.{given_quiet}
use Rattle.lwkt_cpu.specs.declared.threads.Thread.{Thread}
use Rattle.lwkt_cpu.specs.Processors.{Processor, is_over, processor_of}
use Rattle.lwkt_cpu.specs.Searches.{IsOfOne}
use Rattle.lwkt_cpu.specs.Stopping.{Halts}
use Rattle.lwkt_cpu.proofs.RestMoves.{thread_at, placed}
use Rattle.lwkt_cpu.proofs.ShutMoves.{rest_posted}
use Rattle.lwkt_cpu.proofs.StopMoves.{became_over, became_empty, became_free, rest_halted, ran_halted}
use Rattle.lwkt_cpu.proofs.cpus.Cpu.halt.Goals as goal

pub invariant_of-self : goal.invariant_of-self
invariant_of-self g c =
    let i = c.self.inside in
    let place = c.args.place in
    let p = c.exit-next in
    let runs : i.running ≡ Some place = ap (λ (x : Processor g.row.B.Denot). x.running) c.self.view_is ∙ c.requires.runs in
    let within = placed i.hold.seat i.threads.items i.running place runs c.self.invariant.held in
    let last = c.index_mut-thread.result.now.last in
    let up = p.ensures.gives_up last in
    rest_posted {B = g.row.B.Denot} p.new.hold.seat i.ports c.close_port.new.self i.bodies.items (set i.threads.items place c.go_on.new.thread) None i.cursor c.close_port.ensures.same
    (rest_halted {B = g.row.B.Denot} i.hold.seat p.new.hold.seat i.ports i.bodies.items i.threads.items i.running i.cursor place c.go_on.new.thread c.self.invariant within p.ensures.ran.bank p.ensures.ran.cpu
    (ap (λ (t : Thread). is_over t.phase) c.go_on.ensures.becomes ∙ became_over c.index_mut-thread.result.now (next_with p.result last) up.blocked up.next_is)
    (ap (λ (t : Thread). t.list) c.go_on.ensures.becomes ∙ became_empty c.index_mut-thread.result.now (next_with p.result last) up.blocked up.next_is)
    (ap (λ (t : Thread). t.busy) c.go_on.ensures.becomes ∙ became_free c.index_mut-thread.result.now (next_with p.result last) up.blocked up.next_is)
    p.ensures.empty)

pub returns-clause-halts : goal.returns-clause-halts
returns-clause-halts g c =
    let i = c.self.inside in
    let place = c.args.place in
    let p = c.exit-next in
    let before = c.index_mut-thread.result.now in
    let runs : i.running ≡ Some place = ap (λ (x : Processor g.row.B.Denot). x.running) c.self.view_is ∙ c.requires.runs in
    let within = placed i.hold.seat i.threads.items i.running place runs c.self.invariant.held in
    let F : Processor g.row.B.Denot → Type 0 = λ x. Halts {B = g.row.B.Denot} x (processor_of p.new.hold.seat c.close_port.new.self i.bodies.items (set i.threads.items place c.go_on.new.thread) None i.cursor) c.args.trace.now p.new.trace place in
    subst F c.self.view_is (record {
      before = before;
      next = next_with p.result before.last;
      at_before = thread_at i.threads.items place before within c.index_mut-thread.ensures.value;
      gives_up = p.ensures.gives_up before.last;
      threads = ap (λ (t : Thread). set i.threads.items place t) c.go_on.ensures.becomes;
      closes = c.close_port.ensures.closed;
      bodies = refl;
      running = refl;
    })

pub returns-clause-ran : goal.returns-clause-ran
returns-clause-ran g c =
    let i = c.self.inside in
    let place = c.args.place in
    let p = c.exit-next in
    let before = c.index_mut-thread.result.now in
    let runs : i.running ≡ Some place = ap (λ (x : Processor g.row.B.Denot). x.running) c.self.view_is ∙ c.requires.runs in
    let within = placed i.hold.seat i.threads.items i.running place runs c.self.invariant.held in
    let at = thread_at i.threads.items place before within c.index_mut-thread.ensures.value in
    let F : Processor g.row.B.Denot → Type 0 = λ x. Ran (IsOfOne x.threads) 194 x.seat p.new.hold.seat c.args.trace.now p.new.trace in
    subst F c.self.view_is (ran_halted i.hold.seat p.new.hold.seat c.args.trace.now p.new.trace i.threads.items place before at p.ensures.ran)

pub returns-clause-quiet : goal.returns-clause-quiet
returns-clause-quiet g c = given_quiet _ _ _ _ c.args.trace.now c.exit-next.new.trace _ _ (c.exit-next.ensures.gives_up c.index_mut-thread.result.now.last)
