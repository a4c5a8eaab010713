use Rattle.std.proofs.Common.{ℕ, List, ap, ◌∙◌}
use Rattle.lwkt_plain.specs.Tokens.{obeys}
use Rattle.lwkt_plain.proofs.LawTests.{lawful_test}
use Rattle.lwkt_plain.proofs.tokens.is_lawful.Goals as goal

pub returns : goal.returns
returns c =
    let t = c.args.token.now in
    lawful_test c.holds_of_section.result t.law t.param c.as_slice.result.now c.length_of.result c.holds_of_section.ensures
    ∙ ap (λ (row : List ℕ). obeys t.law t.param row c.length_of.result) c.as_slice.ensures
    ∙ ap (obeys t.law t.param t.row) c.length_of.ensures
