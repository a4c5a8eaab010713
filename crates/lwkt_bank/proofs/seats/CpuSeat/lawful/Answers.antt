use Rattle.std.proofs.Common.{◌≡◌, ap, sym, subst, ◌∙◌, List, [], ◌++◌}
use Rattle.lwkt_table.specs.declared.seats.Deed.{Deed}
use Rattle.lwkt_bank.specs.declared.views.Plan.{Plan}
use Rattle.lwkt_bank.specs.Deeds.{reads_all}
use Rattle.lwkt_bank.specs.Seats.{BankId, bank_of, plan_of, entry, Knowing, lawful_loads, asked_record}
use Rattle.lwkt_bank.proofs.ChangeMoves.{knowing_none}
use Rattle.lwkt_bank.proofs.seats.CpuSeat.lawful.Goals as goal

pub returns-then-asks_nothing-clause-knowing : goal.returns-then-asks_nothing-clause-knowing
returns-then-asks_nothing-clause-knowing c =
    let s = c.args.self.now in
    let e = entry s c.args.tok.0 in
    let loads = reads_all s.cpu c.args.tok.0 0 e.row ++ asked_record (plan_of (bank_of s) c.args.tok.0).law s.cpu c.args.tok.0 e.blob in
    let plan = ap (λ (b : BankId). plan_of b c.args.tok.0) c.requires.of ∙ sym c.plan.ensures in
    let none : lawful_loads (plan_of (bank_of s) c.args.tok.0).law loads ≡ []
    = ap (λ (p : Plan). lawful_loads p.law loads) plan ∙ c.asks_nothing.ensures.nothing c.if-asks_nothing.true loads in
    let F : List Deed → Type 0 = λ deeds. Knowing s s c.args.tok.0 e deeds in
    subst F (sym none) (knowing_none s c.args.tok.0)
