-- Bodies that go from ask to answer (own).
use Rattle.std.specs.Prelude.{◌≡◌, Option, None, Some}
use Rattle.lwkt_base.specs.declared.asks.Ask.{Ask}
use Rattle.lwkt_base.specs.declared.asks.Answer.{Answer}
use Rattle.lwkt_base.specs.declared.asks.Answer.TheVariants.{Refused}
use Rattle.lwkt_machine.specs.declared.steps.Stepper.{Stepper}
use Rattle.lwkt_machine.specs.declared.steps.Heard.{Heard}
use Rattle.lwkt_machine.specs.declared.steps.Heard.TheVariants as heard

-- what a thread was told, by what it asked last and the answer to it: nothing before its first ask, and a refusal apart from the
-- answers
abbrev pub heard_of : Option Ask → Answer → Heard
heard_of None last = heard.Nothing
heard_of (Some asked) (Refused fault) = heard.Refusal asked fault
heard_of (Some asked) last = heard.Answer asked last

-- a poll of a stepper: its step is made once, from what it heard of the ask before, and what it asks now is kept for the next poll
pub record IsStep {S : Type 0} (kept : S → Type 0) (says : S → Heard → Ask → S → Type 0) (old : Stepper S) (last : Answer) (ask : Ask) (new : Stepper S) : Type 0 where
  pub step : says old.steps (heard_of old.asked last) ask new.steps
  pub asked : new.asked ≡ Some ask
  pub keeps : kept old.steps → kept new.steps
