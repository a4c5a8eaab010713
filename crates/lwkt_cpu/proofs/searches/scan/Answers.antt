use Rattle.std.proofs.Common.{◌≡◌, ℕ, ◌+◌, ◌-◌, ◌*◌, ◌≤◌, ◌<◌, length, get_or, set, subst, arith, Some}
use Rattle.std.specs.Prelude.{slice_get}
use Rattle.std.proofs.lemmas.Option.{slice_get-get_or}
use Rattle.lwkt_hold.proofs.ReadMoves.{ran_still}
use Rattle.lwkt_cpu.proofs.MailTraceMoves.{quiet_none, quiet_then}
use Rattle.lwkt_cpu.specs.Searches.{point, SkipsTo, IsOfOne}
use Rattle.lwkt_cpu.proofs.SearchMoves.{skips_none, skips_more, skip_at, tried_ran, untried, there_at, found_at}
use Rattle.lwkt_cpu.proofs.searches.scan.Goals as goal

pub loop-at-init : goal.loop-at-init
loop-at-init c = record {
  ran = ran_still (IsOfOne c.args.threads.now) (64 * (c.args.from - c.args.from)) c.args.hold.now.seat c.args.trace.now;
  empty = c.requires.empty;
  quiet = quiet_none c.args.trace.now.items;
  skipped = skips_none c.args.from (point c.args.hold.now.seat c.args.threads.now c.args.trace.now);
}

pub try_one-requires-clause-there : goal.try_one-requires-clause-there
try_one-requires-clause-there c =
    let l = c.loop-at in
    let old = get_or l.threads l.at c.index-threads-at.result in
    let within : l.at < length l.threads = omega (arith, c.loop-at-test.true, c.requires.within, l.auto.threads) in
    let is : slice_get l.threads l.at ≡ Some old = slice_get-get_or l.threads l.at c.index-threads-at.result within in
    there_at c.args.hold.now.seat l.hold.seat c.args.threads.now l.at old l.invariant.ran.bank (untried c.args.from l.at (point c.args.hold.now.seat c.args.threads.now c.args.trace.now) (point l.hold.seat l.threads l.trace) old l.auto.at l.invariant.skipped is) c.requires.there

pub try_one-requires-clause-busy : goal.try_one-requires-clause-busy
try_one-requires-clause-busy c =
    let l = c.loop-at in
    let old = get_or l.threads l.at c.index-threads-at.result in
    let within : l.at < length l.threads = omega (arith, c.loop-at-test.true, c.requires.within, l.auto.threads) in
    let is : slice_get l.threads l.at ≡ Some old = slice_get-get_or l.threads l.at c.index-threads-at.result within in
    c.requires.busy l.at old (untried c.args.from l.at (point c.args.hold.now.seat c.args.threads.now c.args.trace.now) (point l.hold.seat l.threads l.trace) old l.auto.at l.invariant.skipped is)

pub returns-then-try_one-clause-ran : goal.returns-then-try_one-clause-ran
returns-then-try_one-clause-ran c =
    let l = c.loop-at in
    let old = get_or l.threads l.at c.index-threads-at.result in
    let within : l.at < length l.threads = omega (arith, c.loop-at-test.true, c.requires.within, l.auto.threads) in
    let is : slice_get l.threads l.at ≡ Some old = slice_get-get_or l.threads l.at c.index-threads-at.result within in
    let was = untried c.args.from l.at (point c.args.hold.now.seat c.args.threads.now c.args.trace.now) (point l.hold.seat l.threads l.trace) old l.auto.at l.invariant.skipped is in
    let low : c.args.from ≤ l.at = l.auto.at in
    let high : l.at < c.args.to = c.loop-at-test.true in
    tried_ran c.args.hold.now.seat l.hold.seat c.try_one.new.hold.seat c.args.trace.now l.trace c.try_one.new.trace c.args.threads.now l.at old (64 * (l.at - c.args.from)) (64 * (c.args.to - c.args.from)) (omega arith) was l.invariant.ran c.try_one.ensures.ran

pub returns-then-try_one-clause-some : goal.returns-then-try_one-clause-some
returns-then-try_one-clause-some c =
    let l = c.loop-at in
    let d = c.index-threads-at.result in
    let within : l.at < length l.threads = omega (arith, c.loop-at-test.true, c.requires.within, l.auto.threads) in
    let y = c.try_one.ensures.yes c.if-try_one.true in
    found_at (point c.args.hold.now.seat c.args.threads.now c.args.trace.now) l.hold.seat c.try_one.new.hold.seat l.threads l.trace c.try_one.new.trace c.args.from c.args.to l.at d c.try_one.new.thread l.auto.at c.loop-at-test.true within l.invariant.skipped y.0 y.1 y.2

pub loop-at-preserved : goal.loop-at-preserved
loop-at-preserved c =
    let l = c.loop-at in
    let o = c.try_one.new in
    let old = get_or l.threads l.at c.index-threads-at.result in
    let within : l.at < length l.threads = omega (arith, c.loop-at-test.true, c.requires.within, l.auto.threads) in
    let is : slice_get l.threads l.at ≡ Some old = slice_get-get_or l.threads l.at c.index-threads-at.result within in
    let start = point c.args.hold.now.seat c.args.threads.now c.args.trace.now in
    let here = point l.hold.seat l.threads l.trace in
    let low : c.args.from ≤ l.at = l.auto.at in
    let was = untried c.args.from l.at start here old low l.invariant.skipped is in
    let n = c.try_one.ensures.no c.if-try_one.false in
    record {
      ran = tried_ran c.args.hold.now.seat l.hold.seat o.hold.seat c.args.trace.now l.trace o.trace c.args.threads.now l.at old (64 * (l.at - c.args.from)) (64 * (l.at + 1 - c.args.from)) (omega arith) was l.invariant.ran c.try_one.ensures.ran;
      empty = n.0;
      quiet = quiet_then c.args.trace.now.items l.trace.items o.trace.items l.invariant.quiet c.try_one.ensures.quiet;
      skipped = skips_more c.args.from l.at start here (point o.hold.seat (set l.threads l.at o.thread) o.trace) low l.invariant.skipped (skip_at l.hold.seat o.hold.seat l.threads l.trace o.trace l.at old o.thread is n.0 n.1);
    }

pub returns-clause-none : goal.returns-clause-none
returns-clause-none c =
    let l = c.loop-at in
    let last : l.at ≡ c.args.to = omega (arith, c.loop-at-test.false, l.auto.at-end c.requires.rising) in
    let F : ℕ → Type 0 = λ k. SkipsTo c.args.from k (point c.args.hold.now.seat c.args.threads.now c.args.trace.now) (point l.hold.seat l.threads l.trace) in
    λ is. (l.invariant.empty, subst F last l.invariant.skipped)

pub returns-then-try_one-clause-quiet : goal.returns-then-try_one-clause-quiet
returns-then-try_one-clause-quiet c = quiet_then c.args.trace.now.items c.loop-at.trace.items c.try_one.new.trace.items c.loop-at.invariant.quiet c.try_one.ensures.quiet
