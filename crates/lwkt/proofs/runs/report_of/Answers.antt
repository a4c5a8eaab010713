use Rattle.std.proofs.Common.{◌∙◌, ap}
use Rattle.lwkt_explore.specs.Judgements.{status_of_judgement}
use Rattle.lwkt.proofs.runs.report_of.Goals as goal

pub returns-clause-made : goal.returns-clause-made
returns-clause-made g c = record {
  closing = c.in_ok-closing.closing;
  closes = c.in_ok-closing.ensures.closes;
  is_text = c.in_ok-account.ensures.report;
  is_status = c.status.ensures ∙ ap status_of_judgement c.in_ok-account.ensures.judgement;
}
