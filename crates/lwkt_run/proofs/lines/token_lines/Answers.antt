use Rattle.std.proofs.Common.{[], arith}
use Rattle.std.specs.Prelude.{unwrap_or}
use Rattle.std.proofs.lemmas.Grind.{common_steps}
use Rattle.lwkt_report.specs.declared.closings.TokenLine.{TokenLine}
use Rattle.lwkt_run.proofs.LineMoves.{grown}
use Rattle.lwkt_run.proofs.lines.token_lines.Goals as goal

pub loop-i-preserved : goal.loop-i-preserved
loop-i-preserved c = record {
  kinds = grind (arith, common_steps);
  rows = grown (λ (line : TokenLine). line.cells) c.loop-i.lines.items c.push.new.list.items c.in_ok-token_line.field-0 c.args.last.now.rows.items c.loop-i.i c.in_ok-push.ensures.items c.loop-i.invariant.rows c.in_ok-token_line.ensures.cells;
  gens = grown (λ (line : TokenLine). line.generation) c.loop-i.lines.items c.push.new.list.items c.in_ok-token_line.field-0 c.args.last.now.gens.items c.loop-i.i c.in_ok-push.ensures.items c.loop-i.invariant.gens c.in_ok-token_line.ensures.generation;
  tallies = grown (λ (line : TokenLine). unwrap_or line.tallies []) c.loop-i.lines.items c.push.new.list.items c.in_ok-token_line.field-0 c.args.last.now.tallies.items c.loop-i.i c.in_ok-push.ensures.items c.loop-i.invariant.tallies c.in_ok-token_line.ensures.tallies;
  blobs = grown (λ (line : TokenLine). line.blob) c.loop-i.lines.items c.push.new.list.items c.in_ok-token_line.field-0 c.args.last.now.blobs.items c.loop-i.i c.in_ok-push.ensures.items c.loop-i.invariant.blobs c.in_ok-token_line.ensures.blob;
}
