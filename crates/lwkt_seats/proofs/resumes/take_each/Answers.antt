use Rattle.std.proofs.Common.{◌+◌, ◌<◌, ◌≤◌, length, refl, ap, sym, ◌∙◌, subst, arith, get_or}
use Rattle.lwkt_base.specs.Holding.{Holding, added}
use Rattle.lwkt_bank.specs.Seats.{BankId, bank_of, tokens_of}
use Rattle.lwkt_seats.specs.Lists.{TakesOne}
use Rattle.lwkt_seats.proofs.ListMoves.{idle_counts, idle_clean, chain_front, front_more, front_holds, takes_holding, takes_counted, takes_clean, misses_holding, misses_clean, takes_whole, takes_up_to, token_there, unused}
use Rattle.lwkt_seats.proofs.resumes.take_each.Goals as goal

pub loop-at-init : goal.loop-at-init
loop-at-init c = record {
  chain = refl;
  front = c.requires.idle;
  counted = idle_counts c.args.seat.now c.requires.idle;
  clean = idle_clean c.args.seat.now c.requires.idle;
  same = (refl, refl);
}

pub loop-at-preserved : goal.loop-at-preserved
loop-at-preserved c =
    let l = c.loop-at in
    let refs = c.args.refs.now in
    let r = get_or refs l.at unused in
    let s' = c.take_one.new.seat in
    let within : l.at < length refs = c.loop-at-test.true in
    let takes : TakesOne refs r l.seat s' = c.in_default.ensures.ok in
    let F : BankId → Type 0 = λ b. r.tok.0 < tokens_of b in
    let there : r.tok.0 < tokens_of (bank_of l.seat) = subst F (sym l.invariant.same.0) (token_there (tokens_of (bank_of c.args.seat.now)) refs l.at within c.requires.there) in
    record {
      chain = chain_front (TakesOne refs) refs l.at r c.args.seat.now l.seat s' (front_more refs l.at unused within) l.invariant.chain takes;
      front = takes_holding refs r l.seat s' takes ∙ ap (λ (h : Holding). added h r.tok.0 r.mode) l.invariant.front ∙ sym (front_holds refs l.at unused within);
      counted = takes_counted refs r l.seat s' takes there c.take_one.ensures.same.0 ∙ ap (λ n. n + 1) l.invariant.counted;
      clean = takes_clean refs r l.seat s' takes l.invariant.clean;
      same = (c.take_one.ensures.same.0 ∙ l.invariant.same.0, c.take_one.ensures.same.1 ∙ l.invariant.same.1);
    }

pub returns-in-Err-clause-missed : goal.returns-in-Err-clause-missed
returns-in-Err-clause-missed c = takes_up_to c.args.refs.now c.loop-at.at c.in-Err.why c.args.seat.now c.loop-at.seat c.take_one.new.seat c.loop-at-test.true c.loop-at.invariant.chain c.in-Err.ensures.err

pub returns-in-Err-clause-front : goal.returns-in-Err-clause-front
returns-in-Err-clause-front c =
    let within : c.loop-at.at < length c.args.refs.now = c.loop-at-test.true in
    (omega (arith, within), misses_holding c.args.refs.now (get_or c.args.refs.now c.loop-at.at unused) c.loop-at.seat c.take_one.new.seat c.in-Err.why c.in-Err.ensures.err ∙ c.loop-at.invariant.front)

pub returns-in-Err-clause-clean : goal.returns-in-Err-clause-clean
returns-in-Err-clause-clean c = misses_clean c.args.refs.now (get_or c.args.refs.now c.loop-at.at unused) c.loop-at.seat c.take_one.new.seat c.in-Err.why c.in-Err.ensures.err c.loop-at.invariant.clean

pub returns-clause-all : goal.returns-clause-all
returns-clause-all c =
    let l = c.loop-at in
    let end : length c.args.refs.now ≤ l.at = omega (arith, c.loop-at-test.false) in
    takes_whole c.args.refs.now l.at c.args.seat.now l.seat end l.invariant.chain l.invariant.front
