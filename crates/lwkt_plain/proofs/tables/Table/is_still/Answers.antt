use Rattle.std.proofs.Common.{subst, sym, ◌∙◌}
use Rattle.lwkt_plain.specs.Tables.{IsNamed}
use Rattle.lwkt_plain.proofs.tables.Table.is_still.Goals as goal

pub returns : goal.returns
returns g c =
    let N : g.row.P.Denot → Type 0 = λ p. IsNamed c.args.self.now.parts.items c.args.number p in
    let old = c.part.result.now in
    ((λ yes. subst N (sym (c.is_still.ensures.0 yes)) c.part.ensures), (λ is. c.is_still.ensures.1 (sym (is.is old) ∙ c.part.ensures.is old)))
