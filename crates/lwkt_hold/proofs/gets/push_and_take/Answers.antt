use Rattle.std.proofs.Common.{◌≡◌, ℕ, ◌<◌, List, ap, ◌∙◌, subst, arith}
use Rattle.lwkt_base.specs.declared.names.Ref.{Ref}
use Rattle.lwkt_bank.specs.Seats.{BankId, bank_of, tokens_of, holding}
use Rattle.lwkt_hold.specs.declared.answers.Missed.{Missed}
use Rattle.lwkt_hold.specs.Fronts.{IsFront}
use Rattle.lwkt_hold.specs.Misses.{Misses}
use Rattle.lwkt_hold.specs.Rows.{SameRow}
use Rattle.lwkt_hold.proofs.ReadMoves.{ran_still}
use Rattle.lwkt_hold.proofs.LastMoves.{last_there, got_as, missed_as, lost_so}
use Rattle.lwkt_hold.proofs.gets.push_and_take.Goals as goal

pub take_one-requires-clause-there : goal.take_one-requires-clause-there
take_one-requires-clause-there c =
    let same = ap (λ (b : BankId). tokens_of b) c.requires.of_bank in
    let below : c.args.new.tok.0 < tokens_of (bank_of c.args.seat.now) = omega (arith, c.if-new-tokens.false, c.tokens.ensures.is, same) in
    last_there c.refs.result.now c.args.list.now c.args.new c.len-at.result (tokens_of (bank_of c.args.seat.now)) (c.refs.ensures.value ∙ c.in_ok-push.ensures.ok) c.len-at.ensures.value below

pub returns-then-new-tokens-clause-ran : goal.returns-then-new-tokens-clause-ran
returns-then-new-tokens-clause-ran c = ran_still (IsFront c.args.list.now) 1 c.args.seat.now c.args.trace.now

pub returns-in_err-push-clause-ran : goal.returns-in_err-push-clause-ran
returns-in_err-push-clause-ran c = ran_still (IsFront c.push.new.self) 1 c.args.seat.now c.args.trace.now

pub returns-clause-got : goal.returns-clause-got
returns-clause-got c =
    let t = c.take_one in
    λ is.
    let g = got_as t.result c.refs.result.now c.push.new.self c.args.list.now c.args.new c.len-at.result c.args.seat.now.cpu (holding t.new.seat) c.args.trace.now.items t.new.trace.items c.refs.ensures.value c.in_ok-push.ensures.ok c.len-at.ensures.value t.ensures.taken t.ensures.traced is in
    record { pushed = c.in_ok-push.ensures.ok; traced = g.1; held = g.0; rows = t.ensures.rows }

pub returns-clause-missed : goal.returns-clause-missed
returns-clause-missed c =
    let list = c.push.new.self in
    let refs = c.refs.result.now in
    let s = c.args.seat.now in
    let t = c.take_one in
    let At : Missed → Type 0 = λ why. Misses s t.new.seat refs c.len-at.result why in
    λ why is.
    let F : List Ref → Type 0 = λ xs. Misses s t.new.seat xs c.len-at.result why in
    let G : ℕ → Type 0 = λ n. Misses s t.new.seat list n why in (
      subst G c.len-at.ensures.value (subst F c.refs.ensures.value (missed_as t.result why At is t.ensures.missed)),
      record {
        silent = lost_so t.result why (t.new.trace ≡ c.args.trace.now) is t.ensures.silent;
        held = lost_so t.result why (holding t.new.seat ≡ holding s) is t.ensures.kept;
        rows = lost_so t.result why ((tok : ℕ) → SameRow s t.new.seat tok) is t.ensures.same;
      },
    )
