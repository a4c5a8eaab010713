use Rattle.std.proofs.Common.{Option, sym, subst}
use Rattle.std.specs.Prelude.{MatchOption}
use Rattle.lwkt_code.specs.declared.codes.Wrong.{Wrong}
use Rattle.lwkt_code.specs.Programs.{IsSound, IsWrong}
use Rattle.lwkt_code.specs.Firsts.{AreClear, IsFirstWrong}
use Rattle.lwkt_code.proofs.Insides.{found_wrong}
use Rattle.lwkt_code.proofs.FirstWrong.{found_first}
use Rattle.lwkt_code.proofs.codes.find_wrong_circle.Goals as goal

pub returns-clause-why : goal.returns-clause-why
returns-clause-why c = subst (λ (o : Option Wrong). MatchOption o (IsSound c.args.steps.now) (IsWrong c.args.steps.now)) (sym c.of_circle.ensures)
    (found_wrong c.args.steps.now c.find_circle.result c.requires.flawless c.find_circle.ensures)

pub returns-clause-first : goal.returns-clause-first
returns-clause-first c = subst (λ (o : Option Wrong). MatchOption o (AreClear c.args.steps.now) (IsFirstWrong c.args.steps.now)) (sym c.of_circle.ensures)
    (found_first c.args.steps.now c.find_circle.result c.requires.few c.requires.flawless c.find_circle.ensures)
