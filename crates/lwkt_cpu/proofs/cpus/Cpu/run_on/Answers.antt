use Rattle.std.proofs.Common.{◌≡◌, ◌<◌, length, set, refl, ap, sym, ◌∙◌, subst, arith, Option, Some, None, if◌then◌else◌, Bool}
use Rattle.lwkt_bank.specs.Seats.{id_of}
use Rattle.lwkt_cpu.specs.Processors.{Processor, HoldsFor, processor_of}
use Rattle.lwkt_cpu.specs.Turning.{RunsOne}
use Rattle.lwkt_lane.proofs.PlaceMoves.{get_set_same}
use Rattle.lwkt_cpu.proofs.SearchMoves.{up_at}
use Rattle.lwkt_cpu.proofs.RestMoves.{thread_at, placed, up_there, rest_polled, ran_polled, ran_over}
use Rattle.lwkt_cpu.proofs.cpus.Cpu.run_on.Goals as goal

pub invariant_of-self : goal.invariant_of-self
invariant_of-self g c =
    let i = c.self.inside in
    let e = c.poll_one.ensures in
    let p = c.poll_one.new in
    let within = placed i.hold.seat i.threads.items i.running c.args.place (ap (λ (x : Processor g.row.B.Denot). x.running) c.self.view_is ∙ c.requires.runs) c.self.invariant.held in
    rest_polled {B = g.row.B.Denot} i.hold.seat p.hold.seat i.ports p.ports i.bodies.items i.threads.items i.running None i.cursor c.args.place p.body p.thread c.self.invariant within e.ran.bank e.ran.cpu e.same e.awaits e.settled (e.free c.if-not-poll_one.true)

pub invariant_of-self-else-not-poll_one : goal.invariant_of-self-else-not-poll_one
invariant_of-self-else-not-poll_one g c =
    let i = c.self.inside in
    let e = c.poll_one.ensures in
    let p = c.poll_one.new in
    let place = c.args.place in
    let runs : i.running ≡ Some place = ap (λ (x : Processor g.row.B.Denot). x.running) c.self.view_is ∙ c.requires.runs in
    let within = placed i.hold.seat i.threads.items i.running place runs c.self.invariant.held in
    let up = e.up c.if-not-poll_one.false in
    let F : Option _ → Type 0 = λ o. HoldsFor p.hold.seat (set i.threads.items place p.thread) o in
    rest_polled {B = g.row.B.Denot} i.hold.seat p.hold.seat i.ports p.ports i.bodies.items i.threads.items i.running i.running i.cursor place p.body p.thread c.self.invariant within e.ran.bank e.ran.cpu e.same e.awaits e.settled
    (subst F (sym runs) (up_at p.hold.seat (set i.threads.items place p.thread) place p.thread (get_set_same i.threads.items place p.thread within) up.0 up.1))

pub returns-then-not-poll_one-clause-ran : goal.returns-then-not-poll_one-clause-ran
returns-then-not-poll_one-clause-ran g c =
    let i = c.self.inside in
    let p = c.poll_one.new in
    let place = c.args.place in
    let runs : i.running ≡ Some place = ap (λ (x : Processor g.row.B.Denot). x.running) c.self.view_is ∙ c.requires.runs in
    let within = placed i.hold.seat i.threads.items i.running place runs c.self.invariant.held in
    let at = thread_at i.threads.items place c.index_mut-thread.result.now within c.index_mut-thread.ensures.value in
    ran_over i.threads.items c.args.self.now.threads (set i.threads.items place p.thread) i.hold.seat c.args.self.now.seat p.hold.seat c.args.trace.now p.trace (ap (λ (x : Processor g.row.B.Denot). x.threads) c.self.view_is) (ap (λ (x : Processor g.row.B.Denot). x.seat) c.self.view_is)
    (ran_polled i.hold.seat p.hold.seat c.args.trace.now p.trace i.threads.items place c.index_mut-thread.result.now p.thread at within c.poll_one.ensures.ran)

pub returns-else-not-poll_one-clause-ran : goal.returns-else-not-poll_one-clause-ran
returns-else-not-poll_one-clause-ran g c =
    let i = c.self.inside in
    let p = c.poll_one.new in
    let place = c.args.place in
    let runs : i.running ≡ Some place = ap (λ (x : Processor g.row.B.Denot). x.running) c.self.view_is ∙ c.requires.runs in
    let within = placed i.hold.seat i.threads.items i.running place runs c.self.invariant.held in
    let at = thread_at i.threads.items place c.index_mut-thread.result.now within c.index_mut-thread.ensures.value in
    ran_over i.threads.items c.args.self.now.threads (set i.threads.items place p.thread) i.hold.seat c.args.self.now.seat p.hold.seat c.args.trace.now p.trace (ap (λ (x : Processor g.row.B.Denot). x.threads) c.self.view_is) (ap (λ (x : Processor g.row.B.Denot). x.seat) c.self.view_is)
    (ran_polled i.hold.seat p.hold.seat c.args.trace.now p.trace i.threads.items place c.index_mut-thread.result.now p.thread at within c.poll_one.ensures.ran)

pub poll_one-requires-clause-settled : goal.poll_one-requires-clause-settled
poll_one-requires-clause-settled g c =
    let i = c.self.inside in
    let place = c.args.place in
    let runs : i.running ≡ Some place = ap (λ (x : Processor g.row.B.Denot). x.running) c.self.view_is ∙ c.requires.runs in
    let within = placed i.hold.seat i.threads.items i.running place runs c.self.invariant.held in
    let at = thread_at i.threads.items place c.index_mut-thread.result.now within c.index_mut-thread.ensures.value in
    c.self.invariant.settled place c.index_mut-thread.result.now at

pub poll_one-requires-clause-live : goal.poll_one-requires-clause-live
poll_one-requires-clause-live g c =
    let i = c.self.inside in
    let place = c.args.place in
    let runs : i.running ≡ Some place = ap (λ (x : Processor g.row.B.Denot). x.running) c.self.view_is ∙ c.requires.runs in
    let within = placed i.hold.seat i.threads.items i.running place runs c.self.invariant.held in
    let at = thread_at i.threads.items place c.index_mut-thread.result.now within c.index_mut-thread.ensures.value in
    (up_there i.hold.seat i.threads.items i.running place c.index_mut-thread.result.now runs c.self.invariant.held at).0

pub poll_one-requires-clause-held : goal.poll_one-requires-clause-held
poll_one-requires-clause-held g c =
    let i = c.self.inside in
    let place = c.args.place in
    let runs : i.running ≡ Some place = ap (λ (x : Processor g.row.B.Denot). x.running) c.self.view_is ∙ c.requires.runs in
    let within = placed i.hold.seat i.threads.items i.running place runs c.self.invariant.held in
    let at = thread_at i.threads.items place c.index_mut-thread.result.now within c.index_mut-thread.ensures.value in
    (up_there i.hold.seat i.threads.items i.running place c.index_mut-thread.result.now runs c.self.invariant.held at).1

pub returns-then-not-poll_one-clause-runs_one : goal.returns-then-not-poll_one-clause-runs_one
returns-then-not-poll_one-clause-runs_one g c =
    let i = c.self.inside in
    let place = c.args.place in
    let runs : i.running ≡ Some place = ap (λ (x : Processor g.row.B.Denot). x.running) c.self.view_is ∙ c.requires.runs in
    let within = placed i.hold.seat i.threads.items i.running place runs c.self.invariant.held in
    let at = thread_at i.threads.items place c.index_mut-thread.result.now within c.index_mut-thread.ensures.value in
    let p = c.poll_one.new in
    let up = up_there i.hold.seat i.threads.items i.running place c.index_mut-thread.result.now runs c.self.invariant.held at in
    let within_bodies : place < length i.bodies.items = omega (arith, within, c.self.invariant.as_many) in
    let F : Processor g.row.B.Denot → Type 0 = λ x. RunsOne {B = g.row.B.Denot} g.B.Body.polled (id_of c.args.bank.now) x (processor_of p.hold.seat p.ports (set i.bodies.items place p.body) (set i.threads.items place p.thread) None i.cursor) c.args.trace.now p.trace place in
    subst F c.self.view_is (record {
      before = c.index_mut-thread.result.now;
      now = p.thread;
      body = c.index_mut-body.result.now;
      next_body = p.body;
      runs = c.poll_one.result;
      at_before = at;
      at_body = thread_at {A = g.row.B.Denot} i.bodies.items place c.index_mut-body.result.now within_bodies c.index_mut-body.ensures.value;
      live = up.0;
      held = up.1;
      polls = c.poll_one.ensures.polls;
      threads = refl;
      bodies = refl;
      running = ap (λ (b : Bool). if b then Some place else None) (sym c.if-not-poll_one.true);
      cursor = refl;
    })

pub returns-else-not-poll_one-clause-runs_one : goal.returns-else-not-poll_one-clause-runs_one
returns-else-not-poll_one-clause-runs_one g c =
    let i = c.self.inside in
    let place = c.args.place in
    let runs : i.running ≡ Some place = ap (λ (x : Processor g.row.B.Denot). x.running) c.self.view_is ∙ c.requires.runs in
    let within = placed i.hold.seat i.threads.items i.running place runs c.self.invariant.held in
    let at = thread_at i.threads.items place c.index_mut-thread.result.now within c.index_mut-thread.ensures.value in
    let p = c.poll_one.new in
    let up = up_there i.hold.seat i.threads.items i.running place c.index_mut-thread.result.now runs c.self.invariant.held at in
    let within_bodies : place < length i.bodies.items = omega (arith, within, c.self.invariant.as_many) in
    let F : Processor g.row.B.Denot → Type 0 = λ x. RunsOne {B = g.row.B.Denot} g.B.Body.polled (id_of c.args.bank.now) x (processor_of p.hold.seat p.ports (set i.bodies.items place p.body) (set i.threads.items place p.thread) c.self.inside.running i.cursor) c.args.trace.now p.trace place in
    subst F c.self.view_is (record {
      before = c.index_mut-thread.result.now;
      now = p.thread;
      body = c.index_mut-body.result.now;
      next_body = p.body;
      runs = c.poll_one.result;
      at_before = at;
      at_body = thread_at {A = g.row.B.Denot} i.bodies.items place c.index_mut-body.result.now within_bodies c.index_mut-body.ensures.value;
      live = up.0;
      held = up.1;
      polls = c.poll_one.ensures.polls;
      threads = refl;
      bodies = refl;
      running = runs ∙ ap (λ (b : Bool). if b then Some place else None) (sym c.if-not-poll_one.false);
      cursor = refl;
    })

pub returns-then-not-poll_one-clause-rest : goal.returns-then-not-poll_one-clause-rest
returns-then-not-poll_one-clause-rest g c =
    let i = c.self.inside in
    let e = c.poll_one.ensures in
    let p = c.poll_one.new in
    let within = placed i.hold.seat i.threads.items i.running c.args.place (ap (λ (x : Processor g.row.B.Denot). x.running) c.self.view_is ∙ c.requires.runs) c.self.invariant.held in
    rest_polled {B = g.row.B.Denot} i.hold.seat p.hold.seat i.ports p.ports i.bodies.items i.threads.items i.running None i.cursor c.args.place p.body p.thread c.self.invariant within e.ran.bank e.ran.cpu e.same e.awaits e.settled (e.free c.if-not-poll_one.true)

pub returns-else-not-poll_one-clause-rest : goal.returns-else-not-poll_one-clause-rest
returns-else-not-poll_one-clause-rest g c =
    let i = c.self.inside in
    let e = c.poll_one.ensures in
    let p = c.poll_one.new in
    let place = c.args.place in
    let runs : i.running ≡ Some place = ap (λ (x : Processor g.row.B.Denot). x.running) c.self.view_is ∙ c.requires.runs in
    let within = placed i.hold.seat i.threads.items i.running place runs c.self.invariant.held in
    let up = e.up c.if-not-poll_one.false in
    let F : Option _ → Type 0 = λ o. HoldsFor p.hold.seat (set i.threads.items place p.thread) o in
    rest_polled {B = g.row.B.Denot} i.hold.seat p.hold.seat i.ports p.ports i.bodies.items i.threads.items i.running i.running i.cursor place p.body p.thread c.self.invariant within e.ran.bank e.ran.cpu e.same e.awaits e.settled
    (subst F (sym runs) (up_at p.hold.seat (set i.threads.items place p.thread) place p.thread (get_set_same i.threads.items place p.thread within) up.0 up.1))
