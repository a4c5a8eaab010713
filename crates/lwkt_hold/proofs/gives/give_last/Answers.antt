use Rattle.std.proofs.Common.{◌≡◌, ◌⊎◌, ◌∙◌, ap, inl, inr, arith}
use Rattle.std.specs.Prelude.{Vec}
use Rattle.std.specs.declared.alloc.Global.{Global}
use Rattle.lwkt_base.specs.Holding.{Holding, removed}
use Rattle.lwkt_core.specs.declared.events.Event.{Event}
use Rattle.lwkt_bank.specs.Seats.{holding}
use Rattle.lwkt_hold.proofs.RunMoves.{ran_then, ran_weaker}
use Rattle.lwkt_hold.proofs.GiveMoves.{held_now, ready_now, given_now, gives_back}
use Rattle.lwkt_hold.proofs.EventMoves.{released}
use Rattle.lwkt_hold.proofs.gives.give_last.Goals as goal

pub give-requires-clause-held : goal.give-requires-clause-held
give-requires-clause-held c = let m = c.mend-restored in held_now c.args.seat.now m.new.seat c.args.tok.0 m.result c.requires.held m.ensures.kept m.ensures.ran.bank m.ensures.mends

pub give-requires-clause-ready : goal.give-requires-clause-ready
give-requires-clause-ready c = let m = c.mend-restored in ready_now c.args.seat.now m.new.seat c.args.tok.0 m.result c.requires.held m.ensures.kept m.ensures.ran.bank m.ensures.mends

pub returns-clause-ran : goal.returns-clause-ran
returns-clause-ran c =
    let m = c.mend-restored in
    let P : Holding → Type 0 = λ h. (h ≡ holding c.args.seat.now) ⊎ (h ≡ removed (holding c.args.seat.now) c.args.tok.0) in
    let Q : Holding → Type 0 = λ h. h ≡ holding c.args.seat.now in
    let R : Holding → Type 0 = λ h. h ≡ removed (holding m.new.seat) c.args.tok.0 in
    let given = given_now c.args.seat.now m.new.seat c.args.tok.0 m.result c.requires.held m.ensures.kept m.ensures.ran.bank m.ensures.mends in
    ran_then P 5 1 c.args.seat.now m.new.seat c.give.new.seat c.args.trace.now m.new.trace c.give.new.trace
    (ran_weaker Q P 5 5 c.args.seat.now m.new.seat c.args.trace.now m.new.trace (λ h q. inl q) (omega arith) m.ensures.ran)
    (ran_weaker R P 1 1 m.new.seat c.give.new.seat m.new.trace c.give.new.trace (λ h r. inr (r ∙ given)) (omega arith) c.give.ensures.ran)

pub returns-clause-given : goal.returns-clause-given
returns-clause-given c = let m = c.mend-restored in c.give.ensures.given ∙ given_now c.args.seat.now m.new.seat c.args.tok.0 m.result c.requires.held m.ensures.kept m.ensures.ran.bank m.ensures.mends

pub returns-clause-rows : goal.returns-clause-rows
returns-clause-rows c = let m = c.mend-restored in gives_back c.args.seat.now m.new.seat c.args.tok.0 m.result c.requires.held m.ensures.kept m.ensures.ran.bank m.ensures.mends c.give.new.seat c.give.ensures.given c.give.ensures.others c.give.ensures.row c.give.ensures.blob c.give.ensures.still

pub returns-clause-events : goal.returns-clause-events
returns-clause-events c =
    let m = c.mend-restored in
    let g = c.give.ensures.traced in
    released c.args.seat.now m.new.seat c.args.tok m.result c.args.trace.now.items m.new.trace.items c.give.new.trace.items g.0 m.ensures.kept m.ensures.ran.bank m.ensures.ran.cpu m.ensures.mends g.1.0 g.1.1
    (λ is. ap (λ (t : Vec Event Global). t.items) (m.ensures.silent is)) m.ensures.stored
