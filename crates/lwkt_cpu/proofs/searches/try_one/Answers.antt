use Rattle.std.proofs.Common.{◌≡◌, ◌+◌, ◌<◌, inl, inr, refl, sym, ◌∙◌, subst, arith}
use Rattle.std.specs.Prelude.{All}
use Rattle.lwkt_base.specs.Holding.{Holding}
use Rattle.lwkt_bank.specs.Seats.{BankId, tokens_of}
use Rattle.lwkt_hold.specs.Fronts.{IsFront}
use Rattle.lwkt_hold.proofs.RunMoves.{ran_then, ran_weaker}
use Rattle.lwkt_hold.proofs.ReadMoves.{ran_still}
use Rattle.lwkt_cpu.proofs.MailTraceMoves.{quiet_none}
use Rattle.lwkt_cpu.specs.declared.phases.Phase.TheVariants.{Live}
use Rattle.lwkt_cpu.proofs.searches.try_one.Goals as goal

pub returns-then-not-is_live-clause-ran : goal.returns-then-not-is_live-clause-ran
returns-then-not-is_live-clause-ran c = ran_still (IsFront c.args.thread.now.list) 64 c.args.hold.now.seat c.args.trace.now

pub returns-then-is_still_busy-clause-ran : goal.returns-then-is_still_busy-clause-ran
returns-then-is_still_busy-clause-ran c =
    let P : Holding → Type 0 = IsFront c.args.thread.now.list in
    ran_weaker P P 0 64 c.args.hold.now.seat c.is_still_busy.new.hold.seat c.args.trace.now c.args.trace.now (λ h p. p) (omega arith) (c.is_still_busy.ensures.ran c.args.thread.now.list c.args.trace.now)

pub returns-then-is_still_busy-clause-quiet : goal.returns-then-is_still_busy-clause-quiet
returns-then-is_still_busy-clause-quiet c = quiet_none c.args.trace.now.items

pub returns-then-not-is_live-clause-no : goal.returns-then-not-is_live-clause-no
returns-then-not-is_live-clause-no c = λ off. (c.requires.empty, inl (c.is_live.ensures.no c.if-not-is_live.true, refl, refl, refl))

pub returns-then-is_still_busy-clause-no : goal.returns-then-is_still_busy-clause-no
returns-then-is_still_busy-clause-no c =
    let live : c.args.thread.now.phase ≡ Live = c.is_live.ensures.yes c.if-not-is_live.false in
    λ off. (c.is_still_busy.ensures.empty, inr (inl (live, refl, c.is_still_busy.ensures.yes c.if-is_still_busy.true, refl)))

pub try_list-requires-clause-there : goal.try_list-requires-clause-there
try_list-requires-clause-there c =
    let F : BankId → Type 0 = λ bank. All (λ r. r.tok.0 < tokens_of bank) c.args.thread.now.list in
    subst F (sym (c.is_still_busy.ensures.ran c.args.thread.now.list c.args.trace.now).bank) c.requires.there

pub returns-clause-ran : goal.returns-clause-ran
returns-clause-ran c =
    let P : Holding → Type 0 = IsFront c.args.thread.now.list in
    let s = c.is_still_busy in
    let l = c.try_list in
    ran_weaker P P (0 + 64) 64 c.args.hold.now.seat l.new.hold.seat c.args.trace.now l.new.trace (λ h p. p) (omega arith)
    (ran_then P 0 64 c.args.hold.now.seat s.new.hold.seat l.new.hold.seat c.args.trace.now c.args.trace.now l.new.trace (s.ensures.ran c.args.thread.now.list c.args.trace.now) l.ensures.ran)

pub try_list-requires-clause-of : goal.try_list-requires-clause-of
try_list-requires-clause-of c = (c.is_still_busy.ensures.ran c.args.thread.now.list c.args.trace.now).bank ∙ c.requires.of

pub returns-clause-yes : goal.returns-clause-yes
returns-clause-yes c =
    let live : c.args.thread.now.phase ≡ Live = c.is_live.ensures.yes c.if-not-is_live.false in
    λ on.
    let y = c.try_list.ensures.yes on in
    (y.0, live, (c.is_still_busy.new.hold.seat, (c.is_still_busy.ensures.no c.if-is_still_busy.false, y.1)))

pub returns-clause-no : goal.returns-clause-no
returns-clause-no c =
    let live : c.args.thread.now.phase ≡ Live = c.is_live.ensures.yes c.if-not-is_live.false in
    λ off.
    let n = c.try_list.ensures.no off in (
      n.1.1.0.resumes.0,
      inr (inr (live, (n.0, (n.1.0, ((c.is_still_busy.new.hold.seat, (c.is_still_busy.ensures.no c.if-is_still_busy.false, n.1.1.0)), n.1.1.1))))),
    )
