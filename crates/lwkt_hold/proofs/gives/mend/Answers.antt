use Rattle.std.proofs.Common.{◌<◌, subst, ◌≡◌, ◌∙◌, [], sym, arith}
use Rattle.std.proofs.lemmas.Bool.{false≢true}
use Rattle.lwkt_base.specs.Holding.{Holding}
use Rattle.lwkt_bank.specs.Seats.{BankId, bank_of, plan_of, tokens_of, holding}
use Rattle.lwkt_hold.proofs.RunMoves.{ran_none, ran_then, ran_weaker}
use Rattle.lwkt_hold.proofs.GiveMoves.{lawful_untraced, knowing_ran, knowing_kept, exclusive_held, mends_none, mends_lawful, still_broken, mends_broken, same_rows, restores_same}
use Rattle.lwkt_hold.specs.Rows.{row, blob}
use Rattle.lwkt_hold.proofs.gives.mend.Goals as goal

pub returns-then-not-ends_section-clause-ran : goal.returns-then-not-ends_section-clause-ran
returns-then-not-ends_section-clause-ran c =
    let P : Holding → Type 0 = λ h. h ≡ holding c.args.seat.now in
    ran_weaker P P 0 5 c.args.seat.now c.args.seat.now c.args.trace.now c.args.trace.now (λ h p. p) (omega arith) (ran_none P c.args.seat.now c.args.trace.now)

pub returns-then-lawful-clause-ran : goal.returns-then-lawful-clause-ran
returns-then-lawful-clause-ran c = knowing_ran (λ h. h ≡ holding c.args.seat.now) 5 c.args.seat.now c.lawful.new.self c.args.tok.0 _ c.args.trace.now (lawful_untraced (plan_of (bank_of c.args.seat.now) c.args.tok.0).law c.args.seat.now.cpu c.args.tok.0 (row c.args.seat.now c.args.tok.0) (blob c.args.seat.now c.args.tok.0)) c.lawful.ensures.knowing

pub returns-clause-ran : goal.returns-clause-ran
returns-clause-ran c =
    let P : Holding → Type 0 = λ h. h ≡ holding c.args.seat.now in
    let Q : Holding → Type 0 = λ h. h ≡ holding c.lawful.new.self in
    let kept = knowing_kept c.args.seat.now c.lawful.new.self c.args.tok.0 _ c.lawful.ensures.knowing in
    ran_then P 0 5 c.args.seat.now c.lawful.new.self c.restore.new.seat c.args.trace.now c.args.trace.now c.restore.new.trace
    (knowing_ran P 0 c.args.seat.now c.lawful.new.self c.args.tok.0 _ c.args.trace.now (lawful_untraced (plan_of (bank_of c.args.seat.now) c.args.tok.0).law c.args.seat.now.cpu c.args.tok.0 (row c.args.seat.now c.args.tok.0) (blob c.args.seat.now c.args.tok.0)) c.lawful.ensures.knowing)
    (ran_weaker Q P 5 5 c.lawful.new.self c.restore.new.seat c.args.trace.now c.restore.new.trace (λ h q. q ∙ kept) (omega arith) c.restore.ensures.ran)

pub returns-clause-kept : goal.returns-clause-kept
returns-clause-kept c = c.restore.ensures.kept ∙ knowing_kept c.args.seat.now c.lawful.new.self c.args.tok.0 _ c.lawful.ensures.knowing

pub returns-then-not-ends_section-clause-mends : goal.returns-then-not-ends_section-clause-mends
returns-then-not-ends_section-clause-mends c =
    mends_none c.args.seat.now c.args.tok.0 (λ ends. c.ends_section.ensures.no c.if-not-ends_section.true (c.held.ensures ∙ ends))

pub lawful-requires-clause-held : goal.lawful-requires-clause-held
lawful-requires-clause-held c = exclusive_held (holding c.args.seat.now c.args.tok.0) (sym c.held.ensures ∙ c.ends_section.ensures.yes c.if-not-ends_section.false)

pub returns-then-lawful-clause-mends : goal.returns-then-lawful-clause-mends
returns-then-lawful-clause-mends c = mends_lawful c.args.seat.now c.lawful.new.self c.args.tok.0 _ c.lawful.ensures.knowing (c.lawful.ensures.lawful.0 c.if-lawful.true)

pub restore-requires-clause-broken : goal.restore-requires-clause-broken
restore-requires-clause-broken c =
    let ends = sym c.held.ensures ∙ c.ends_section.ensures.yes c.if-not-ends_section.false in
    still_broken c.args.seat.now c.lawful.new.self c.args.tok.0 _ c.lawful.ensures.knowing ends (λ meets. false≢true (sym c.if-lawful.false ∙ c.lawful.ensures.lawful.1 meets))

pub returns-clause-mends : goal.returns-clause-mends
returns-clause-mends c =
    let ends = sym c.held.ensures ∙ c.ends_section.ensures.yes c.if-not-ends_section.false in
    mends_broken c.args.seat.now c.lawful.new.self c.restore.new.seat c.args.tok.0 _ c.lawful.ensures.knowing ends (λ meets. false≢true (sym c.if-lawful.false ∙ c.lawful.ensures.lawful.1 meets)) c.restore.ensures.restored c.restore.ensures.first c.restore.ensures.blob c.restore.ensures.first_blob c.restore.ensures.others

pub returns-clause-stored : goal.returns-clause-stored
returns-clause-stored c =
    let s = c.args.seat.now in
    let l = c.lawful.new.self in
    let k = c.lawful.ensures.knowing in
    let x = c.restore.ensures.stored in
    λ is. (x.0, (x.1.0, restores_same s l c.args.tok [] x.0 k.changes.bank k.changes.cpu (same_rows s l c.args.tok.0 c.args.tok.0 _ k) x.1.1))

pub held-requires-clause-there : goal.held-requires-clause-there
held-requires-clause-there c = c.cpu-cpu.ensures.within c.args.tok.0 c.requires.held

pub lawful-requires-clause-there : goal.lawful-requires-clause-there
lawful-requires-clause-there c = c.cpu-cpu.ensures.within c.args.tok.0 c.requires.held

pub restore-requires-clause-there : goal.restore-requires-clause-there
restore-requires-clause-there c =
    let F : BankId → Type 0 = λ b. c.args.tok.0 < tokens_of b in
    subst F (sym c.lawful.ensures.knowing.changes.bank) (c.cpu-cpu.ensures.within c.args.tok.0 c.requires.held)

pub restore-requires-clause-mine : goal.restore-requires-clause-mine
restore-requires-clause-mine c = c.cpu-cpu.ensures.is ∙ sym c.lawful.ensures.knowing.changes.cpu

pub returns-then-lawful-clause-kept : goal.returns-then-lawful-clause-kept
returns-then-lawful-clause-kept c = knowing_kept c.args.seat.now c.lawful.new.self c.args.tok.0 _ c.lawful.ensures.knowing
