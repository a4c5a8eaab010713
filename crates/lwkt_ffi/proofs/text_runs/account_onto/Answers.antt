use Rattle.std.proofs.Common.{◌∙◌, ap}
use Rattle.lwkt_explore.specs.Judgements.{judgement_of}
use Rattle.lwkt_run.specs.declared.modes.Mode.TheVariants.{Turns}
use Rattle.lwkt_ffi.proofs.text_runs.account_onto.Goals as goal

pub returns-in-Ok-account_of-clause-ok : goal.returns-in-Ok-account_of-clause-ok
returns-in-Ok-account_of-clause-ok c = record {
  reading = c.in-Ok.reading;
  read = c.in-Ok.ensures.ok;
  closing = c.in-Ok-close_turns.closing;
  closes = c.in-Ok-close_turns.ensures.closes;
  is_report = c.in-Ok-account_of.ensures.report;
  is_judgement = c.in-Ok-account_of.ensures.judgement ∙ ap (λ said. judgement_of said Turns c.in-Ok-close_turns.closing) c.as_slice.ensures;
}
