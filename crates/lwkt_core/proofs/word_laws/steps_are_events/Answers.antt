use Rattle.lwkt_core.proofs.WordEvents.{steps_by_events}
use Rattle.lwkt_core.proofs.word_laws.steps_are_events.Goals as goal

pub returns : goal.returns
returns c = steps_by_events
