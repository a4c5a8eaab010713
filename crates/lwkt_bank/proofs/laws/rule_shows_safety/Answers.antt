use Rattle.lwkt_bank.proofs.RuleMoves.{held_there, knows_there}
use Rattle.lwkt_bank.proofs.laws.rule_shows_safety.Goals as goal

pub returns : goal.returns
returns c = λ plans cpus s ledger.
    let r = ledger.rule in
    (r.model, (r.safe, (r.pictures, (λ j tok v here there. knows_there plans cpus s r j v tok here there, λ j tok v cpu here kind there. held_there plans cpus s r j v cpu tok here kind there))))
