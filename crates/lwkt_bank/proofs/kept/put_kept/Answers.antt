use Rattle.std.proofs.Common.{rules, ◌≡◌, [], ◌∷◌, ◌++◌, refl}
use Rattle.lwkt_bank.specs.declared.kept.Kept.{Kept}
use Rattle.lwkt_bank.proofs.kept.put_kept.Goals as goal

pub returns-clause-items : goal.returns-clause-items
returns-clause-items c =
    let kept : Kept = record { notes = c.args.notes; cpu = c.args.cpu; sized = c.push-arg-2-1.given.0 } in
    let longer : c.push.new.self.items ≡ c.args.list.now.items ++ kept ∷ [] = search rules in
    (kept, (refl, refl, longer))
