use Rattle.std.proofs.Common.{◌≡◌, ap, sym, ◌∙◌}
use Rattle.lwkt_base.specs.declared.asks.Ask.{Ask}
use Rattle.lwkt_plain.specs.declared.states.Plain.{Plain}
use Rattle.lwkt_plain.specs.Places.{with_thread}
use Rattle.lwkt_plain.specs.Turns.{polled, makes}
use Rattle.lwkt_plain.proofs.TurnMoves.{on_ok, polled_runs, polls_is, thread_there}
use Rattle.lwkt_plain.proofs.states.Plain.poll.Goals as goal

pub make-requires-clause-sound : goal.make-requires-clause-sound
make-requires-clause-sound c = (polled_runs c.args.c c.args.k c.in-Some.spec.now.code c.args.self.now c.poll_thread.new.self c.requires.here c.requires.there c.requires.sound c.requires.running c.in_ok-ask.ensures.polled).sound

pub make-requires-clause-running : goal.make-requires-clause-running
make-requires-clause-running c = (polled_runs c.args.c c.args.k c.in-Some.spec.now.code c.args.self.now c.poll_thread.new.self c.requires.here c.requires.there c.requires.sound c.requires.running c.in_ok-ask.ensures.polled).running

pub returns-clause-exact : goal.returns-clause-exact
returns-clause-exact c =
    let p = c.args.self.now in
    let spec = c.in-Some.spec.now in
    let there = thread_there p c.args.c c.args.k c.requires.there in
    let r = with_thread (polled spec.code) c.args.c c.args.k p in
    on_ok c.make.result (λ made. polls_is c.args.script.now c.args.c c.args.k p c.make.new.self spec there.0 (sym c.in-Some.ensures) there.1
    (made
    ∙ ap (λ (q : Plain). makes (record { 0 = c.args.c }) c.args.k q c.in_ok-ask.ask) c.in_ok-ask.ensures.polled
    ∙ ap (λ (a : Ask). makes (record { 0 = c.args.c }) c.args.k r a) (c.in_ok-ask.ensures.ask there.0 there.1)))
    c.make.ensures.exact
