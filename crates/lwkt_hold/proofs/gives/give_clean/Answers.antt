use Rattle.std.proofs.Common.{◌≡◌, ◌+◌, ◌-◌, [], ◌++◌, ap, sym, ◌∙◌, inl, take, get_or, arith}
use Rattle.lwkt_base.specs.Holding.{Holding, holding_of, removed}
use Rattle.lwkt_bank.specs.Seats.{holding}
use Rattle.lwkt_hold.specs.Fronts.{IsFront}
use Rattle.lwkt_hold.proofs.RunMoves.{ran_none, ran_then, ran_weaker}
use Rattle.lwkt_hold.proofs.TakeMoves.{unused}
use Rattle.lwkt_hold.proofs.ListMoves.{back_held, back_removed, clean_given}
use Rattle.lwkt_hold.proofs.EventMoves.{gives_more, gives_done, gives_clean}
use Rattle.lwkt_hold.specs.Givings.{gives_all}
use Rattle.lwkt_base.specs.declared.names.TokId.{TokId}
use Rattle.lwkt_hold.proofs.gives.give_clean.Goals as goal

pub loop-given-init : goal.loop-given-init
loop-given-init c =
    let e : c.args.count ≡ c.args.count - 0 = omega arith in
    record {
      ran = ran_none (IsFront c.args.refs.now) c.args.seat.now c.args.trace.now;
      front = c.requires.front ∙ ap (λ n. holding_of (take n c.args.refs.now)) e;
      clean = c.requires.clean;
      traced = ap (λ n. c.args.trace.now.items ++ gives_all c.args.seat.now.cpu [] (take n c.args.refs.now)) (sym e);
    }

pub give-requires-clause-held : goal.give-requires-clause-held
give-requires-clause-held c = let l = c.loop-given in back_held l.seat c.args.refs.now c.args.count l.given c.loop-given-test.true c.requires.within l.invariant.front

pub give-requires-clause-ready : goal.give-requires-clause-ready
give-requires-clause-ready c =
    let l = c.loop-given in
    let tok = (get_or c.args.refs.now (c.args.count - 1 - l.given) unused).tok.0 in
    let held = back_held l.seat c.args.refs.now c.args.count l.given c.loop-given-test.true c.requires.within l.invariant.front in
    λ _. inl (l.invariant.clean.each tok held, l.invariant.clean.records tok held)

pub loop-given-preserved : goal.loop-given-preserved
loop-given-preserved c =
    let l = c.loop-given in
    let tok = (get_or c.args.refs.now (c.args.count - 1 - l.given) unused).tok.0 in
    let held = back_held l.seat c.args.refs.now c.args.count l.given c.loop-given-test.true c.requires.within l.invariant.front in
    let next = back_removed l.seat c.args.refs.now c.args.count l.given c.loop-given-test.true c.requires.within l.invariant.front in
    let P : Holding → Type 0 = IsFront c.args.refs.now in
    let R : Holding → Type 0 = λ h. h ≡ removed (holding l.seat) tok in
    record {
      ran = ran_then P l.given 1 c.args.seat.now l.seat c.give.new.seat c.args.trace.now l.trace c.give.new.trace l.invariant.ran
          (ran_weaker R P 1 1 l.seat c.give.new.seat l.trace c.give.new.trace (λ h r. (c.args.count - (l.given + 1), r ∙ next)) (omega arith) c.give.ensures.ran);
      front = c.give.ensures.given ∙ next;
      clean = clean_given l.seat c.give.new.seat tok held c.give.ensures.given c.give.ensures.others c.give.ensures.still l.invariant.clean;
      traced =
          let g = c.give.ensures.traced in
          let d : TokId = (get_or c.args.refs.now (c.args.count - 1 - l.given) unused).tok in
          gives_more c.args.refs.now c.args.count l.given unused c.args.seat.now.cpu l.seat.cpu (holding l.seat) g.0 c.args.trace.now.items l.trace.items c.give.new.trace.items c.loop-given-test.true c.requires.within l.invariant.ran.cpu l.invariant.front
          (gives_clean l.seat d g.0 (l.invariant.clean.each tok held, l.invariant.clean.records tok held) g.1.1) l.invariant.traced g.1.0;
    }

pub returns-clause-traced : goal.returns-clause-traced
returns-clause-traced c =
    let l = c.loop-given in
    gives_done c.args.refs.now c.args.count l.given c.args.seat.now.cpu c.args.trace.now.items l.trace.items c.loop-given-test.false l.invariant.traced
