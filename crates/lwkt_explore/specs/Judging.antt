-- Whether what a text says of outcomes is so of a run, which has one outcome (own).
use Rattle.lwkt_report.specs.declared.closings.Closing.{Closing}
use Rattle.lwkt_run.specs.declared.modes.Mode.{Mode}
use Rattle.lwkt_run.specs.declared.modes.Mode.TheVariants.{Turns, Threads}
use Rattle.lwkt_text.specs.declared.claims.Expectation.{Expectation}
use Rattle.lwkt_text.specs.declared.claims.When.{When}
use Rattle.lwkt_text.specs.declared.claims.When.TheVariants.{Always, Sometimes, Never, InRounds}
use Rattle.lwkt_explore.specs.declared.truths.Truth.{Truth}
use Rattle.lwkt_explore.specs.declared.truths.Truth.TheVariants.{Open}
use Rattle.lwkt_explore.specs.Claims.{truth_of}
use Rattle.lwkt_explore.specs.Truths.{opposite}

-- what is known of the run in rounds by a run that is driven so
abbrev pub truth_if_rounds : Mode → Truth → Truth
truth_if_rounds Turns truth = truth
truth_if_rounds Threads truth = Open

-- what is so of a run by whether a claim is
abbrev pub truth_by : When → Mode → Truth → Truth
truth_by Always mode truth = truth
truth_by Sometimes mode truth = truth
truth_by Never mode truth = opposite truth
truth_by InRounds mode truth = truth_if_rounds mode truth

abbrev pub truth_in_run : Expectation → Mode → Closing → Truth
truth_in_run e mode outcome = truth_by e.when mode (truth_of outcome e.claim)
