use Rattle.std.proofs.Common.{◌≡◌, ◌+◌, ◌<◌, ◌≤◌, List, length, ap, sym, ◌∙◌, subst, arith}
use Rattle.lwkt_base.specs.declared.names.Ref.{Ref}
use Rattle.lwkt_base.specs.Holding.{Holding}
use Rattle.lwkt_hold.specs.Fronts.{IsFront}
use Rattle.lwkt_hold.specs.Misses.{Misses}
use Rattle.lwkt_hold.proofs.RunMoves.{ran_none, ran_then, ran_weaker}
use Rattle.lwkt_hold.proofs.ListMoves.{clean_empty, clean_taken, misses_between}
use Rattle.lwkt_hold.proofs.EventMoves.{takes_more, taken_all, passed_as}
use Rattle.std.specs.Prelude.{Vec}
use Rattle.std.specs.declared.alloc.Global.{Global}
use Rattle.lwkt_core.specs.declared.events.Event.{Event}
use Rattle.lwkt_hold.proofs.TakeMoves.{unused}
use Rattle.std.proofs.lemmas.List.{append-nil}
use Rattle.lwkt_hold.proofs.holds.Hold.resume.Goals as goal

pub loop-at-init : goal.loop-at-init
loop-at-init c = record {
  ran = ran_none (IsFront c.refs-refs.result.now) c.args.self.now.seat c.args.trace.now;
  front = c.requires.empty;
  clean = clean_empty c.args.self.now.seat c.requires.empty;
  traced = sym (append-nil c.args.trace.now.items);
}

pub returns-in-Err-clause-ran : goal.returns-in-Err-clause-ran
returns-in-Err-clause-ran c =
    let l = c.loop-at in
    let s = c.args.self.now.seat in
    let t = c.args.trace.now in
    let P : Holding → Type 0 = IsFront c.refs-refs.result.now in
    let Q : Holding → Type 0 = IsFront c.args.list.now in
    let taken = ran_then P l.at 1 s l.self.seat c.take_one.new.seat t l.trace c.take_one.new.trace l.invariant.ran c.in-Err.ensures.ran in
    let all = ran_then P (l.at + 1) l.at s c.take_one.new.seat c.give_clean.new.seat t c.take_one.new.trace c.give_clean.new.trace taken c.give_clean.ensures.ran in
    let within : l.at < length c.refs-refs.result.now = c.loop-at-test.true in
    let same : length c.refs-refs.result.now ≡ length c.args.list.now = ap length c.refs-refs.ensures.value in
    let short : length c.args.list.now ≤ 32 = c.refs-refs.ensures.within in
    ran_weaker P Q (l.at + 1 + l.at) 64 s c.give_clean.new.seat t c.give_clean.new.trace (λ h p. let F : List Ref → Type 0 = λ refs. IsFront refs h in subst F c.refs-refs.ensures.value p) (omega arith) all

pub returns-in-Err-clause-resumes : goal.returns-in-Err-clause-resumes
returns-in-Err-clause-resumes c =
    let l = c.loop-at in
    let s = c.args.self.now.seat in
    let t = c.args.trace.now in
    let P : Holding → Type 0 = IsFront c.refs-refs.result.now in
    let F : List Ref → Type 0 = λ refs. Misses s c.give_clean.new.seat refs l.at c.in-Err.why in (
      c.give_clean.ensures.empty,
      subst F c.refs-refs.ensures.value (misses_between P P l.at l.at s l.self.seat c.take_one.new.seat c.give_clean.new.seat t l.trace c.take_one.new.trace c.give_clean.new.trace c.refs-refs.result.now l.at c.in-Err.why l.invariant.ran c.in-Err.ensures.missed c.give_clean.ensures.ran),
    )

pub loop-at-preserved : goal.loop-at-preserved
loop-at-preserved c =
    let l = c.loop-at in
    let P : Holding → Type 0 = IsFront c.refs-refs.result.now in
    record {
      ran = ran_then P l.at 1 c.args.self.now.seat l.self.seat c.take_one.new.seat c.args.trace.now l.trace c.take_one.new.trace l.invariant.ran c.in_default.ensures.ran;
      front = c.in_default.ensures.taken;
      clean = clean_taken l.self.seat c.take_one.new.seat c.in_default.ensures.rows l.invariant.clean;
      traced = takes_more c.refs-refs.result.now l.at unused c.args.self.now.seat.cpu l.self.seat.cpu c.args.trace.now.items l.trace.items c.take_one.new.trace.items c.loop-at-test.true l.invariant.ran.cpu l.invariant.traced c.in_default.ensures.traced;
    }

pub give_clean-requires-clause-clean : goal.give_clean-requires-clause-clean
give_clean-requires-clause-clean c = let l = c.loop-at in clean_taken l.self.seat c.take_one.new.seat c.in-Err.ensures.rows l.invariant.clean

pub returns-in-Err-clause-clean : goal.returns-in-Err-clause-clean
returns-in-Err-clause-clean c = clean_empty c.give_clean.new.seat c.give_clean.ensures.empty

pub returns-in-Err-clause-passed : goal.returns-in-Err-clause-passed
returns-in-Err-clause-passed c =
    let l = c.loop-at in
    let cpu = c.args.self.now.seat.cpu in
    let taker : c.take_one.new.seat.cpu ≡ cpu = c.in-Err.ensures.ran.cpu ∙ l.invariant.ran.cpu in
    passed_as c.refs-refs.result.now c.args.list.now l.at c.in-Err.why cpu c.take_one.new.seat.cpu c.args.trace.now.items l.trace.items c.take_one.new.trace.items c.give_clean.new.trace.items c.refs-refs.ensures.value taker l.invariant.traced (ap (λ (t : Vec Event Global). t.items) c.in-Err.ensures.silent) c.give_clean.ensures.traced

pub returns-clause-all : goal.returns-clause-all
returns-clause-all c =
    let l = c.loop-at in
    taken_all c.refs-refs.result.now c.args.list.now l.at c.args.self.now.seat.cpu c.args.trace.now.items l.trace.items c.refs-refs.ensures.value c.loop-at-test.false l.invariant.traced
