use Rattle.std.proofs.Common.{◌≡◌, ◌<◌, ◌∙◌, length, sym, ap, arith, length-set}
use Rattle.lwkt_code.specs.declared.steps.Step.{Step}
use Rattle.lwkt_text.specs.Blocks.{aimed}
use Rattle.lwkt_text.proofs.Linking.{link_step}
use Rattle.lwkt_text.proofs.blocks.link.Goals as goal

pub loop-at-preserved : goal.loop-at-preserved
loop-at-preserved c =
    let aims : c.aim_step.new.step ≡ aimed c.aim_in-to.result c.index-steps-at.result = c.aim_step.ensures ∙ sym (ap (λ (s : Step). aimed c.aim_in-to.result s) c.index-steps-at.is) in (
      length-set c.loop-at.steps c.loop-at.at c.aim_step.new.step ∙ c.loop-at.invariant.0,
      link_step c.loop-at.steps _ c.loop-at.at c.index-steps-at.result c.aim_step.new.step c.aim_in-to.result (omega arith) c.index-steps-at.is c.aim_in-to.ensures aims c.loop-at.invariant.1,
    )
