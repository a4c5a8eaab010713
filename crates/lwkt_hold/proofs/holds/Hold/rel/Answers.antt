use Rattle.std.proofs.Common.{◌≡◌, ◌⊎◌, ◌∙◌, arith}
use Rattle.lwkt_base.specs.Holding.{Holding, removed}
use Rattle.lwkt_bank.specs.Seats.{holding}
use Rattle.lwkt_hold.specs.Fronts.{IsFront}
use Rattle.lwkt_hold.proofs.RunMoves.{ran_weaker}
use Rattle.lwkt_hold.proofs.ReadMoves.{ran_still}
use Rattle.lwkt_hold.proofs.LastMoves.{last_held, last_removed, last_front}
use Rattle.lwkt_hold.proofs.holds.Hold.rel.Goals as goal

pub returns-in_err-pop-clause-ran : goal.returns-in_err-pop-clause-ran
returns-in_err-pop-clause-ran c = ran_still (IsFront c.args.list.now) 6 c.args.self.now.seat c.args.trace.now

pub give_last-requires-clause-held : goal.give_last-requires-clause-held
give_last-requires-clause-held c = last_held c.args.self.now.seat c.args.list.now c.pop.new.self c.in_ok-pop.field-0 c.args.tok.0 c.requires.held c.in_ok-pop.ensures.ok.0 c.in_ok-pop.ensures.ok.1

pub returns-then-give_last-clause-ran : goal.returns-then-give_last-clause-ran
returns-then-give_last-clause-ran c =
    let s = c.args.self.now.seat in
    let P : Holding → Type 0 = λ h. (h ≡ holding s) ⊎ (h ≡ removed (holding s) c.args.tok.0) in
    ran_weaker P (IsFront c.args.list.now) 6 6 s c.give_last.new.seat c.args.trace.now c.give_last.new.trace (last_front s c.args.list.now c.pop.new.self c.in_ok-pop.field-0 c.args.tok.0 c.requires.held c.in_ok-pop.ensures.ok.0 c.in_ok-pop.ensures.ok.1) (omega arith) c.give_last.ensures.ran

pub returns-clause-ran : goal.returns-clause-ran
returns-clause-ran c =
    let s = c.args.self.now.seat in
    let P : Holding → Type 0 = λ h. (h ≡ holding s) ⊎ (h ≡ removed (holding s) c.args.tok.0) in
    ran_weaker P (IsFront c.args.list.now) 6 6 s c.give_last.new.seat c.args.trace.now c.give_last.new.trace (last_front s c.args.list.now c.pop.new.self c.in_ok-pop.field-0 c.args.tok.0 c.requires.held c.in_ok-pop.ensures.ok.0 c.in_ok-pop.ensures.ok.1) (omega arith) c.give_last.ensures.ran

pub returns-then-give_last-clause-held : goal.returns-then-give_last-clause-held
returns-then-give_last-clause-held c = c.give_last.ensures.given ∙ last_removed c.args.self.now.seat c.args.list.now c.pop.new.self c.in_ok-pop.field-0 c.args.tok.0 c.requires.held c.in_ok-pop.ensures.ok.0 c.in_ok-pop.ensures.ok.1

pub returns-clause-held : goal.returns-clause-held
returns-clause-held c = c.give_last.ensures.given ∙ last_removed c.args.self.now.seat c.args.list.now c.pop.new.self c.in_ok-pop.field-0 c.args.tok.0 c.requires.held c.in_ok-pop.ensures.ok.0 c.in_ok-pop.ensures.ok.1
