-- How a run ended, as its picture says it (own).
use Rattle.std.specs.Prelude.{ℕ, Bool, true, false, List, [], codes}
use Rattle.lwkt_run.specs.declared.runs.End.{End}
use Rattle.lwkt_run.specs.declared.runs.End.TheVariants as ends
use Rattle.lwkt_show.specs.declared.verdicts.Manner.{Manner}
use Rattle.lwkt_show.specs.declared.verdicts.Manner.TheVariants.{Ended, Stuck, TurnsOut, Unlawful}

-- how a run ended, by its report and by whether a thread could go on: it is stuck if one hasn't ended and none can go on
abbrev pub manner_of : End → Bool → Manner
manner_of ends.Unlawful goes_on = Unlawful
manner_of ends.Ended goes_on = Ended
manner_of ends.TurnsOut true = TurnsOut
manner_of ends.TurnsOut false = Stuck

-- that a run is lawful judges the implementation, and is said last
abbrev pub lawful_text : List ℕ
lawful_text = codes "lawful: the implementation did what the model allows"

-- what is said first of a run that ended so, and what last
abbrev pub first_text : Manner → List ℕ
first_text Ended = codes "every thread is done"
first_text Stuck = codes "stuck: "
first_text TurnsOut = codes "the turns are used up: "
first_text Unlawful = codes "unlawful: this is no run of the model"

abbrev pub last_text : Manner → List ℕ
last_text Unlawful = []
last_text manner = lawful_text
