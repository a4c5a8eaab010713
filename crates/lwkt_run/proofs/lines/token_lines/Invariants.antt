use Rattle.std.proofs.Common.{◌≡◌, [], take, map}
use Rattle.std.specs.Prelude.{is_some, unwrap_or}
use Rattle.lwkt_run.specs.Values.{is_tally}
use Rattle.lwkt_run.proofs.lines.token_lines.Given as goal

abbrev pub invariant-loop-i : goal.invariant-loop-i
invariant-loop-i l = record {
  kinds : map (λ line. is_some line.tallies) l.lines.items ≡ map (λ spec. is_tally spec.law) (take l.i l.specs);
  rows : map (λ line. line.cells) l.lines.items ≡ take l.i l.last.rows.items;
  gens : map (λ line. line.generation) l.lines.items ≡ take l.i l.last.gens.items;
  tallies : map (λ line. unwrap_or line.tallies []) l.lines.items ≡ take l.i l.last.tallies.items;
  blobs : map (λ line. line.blob) l.lines.items ≡ take l.i l.last.blobs.items;
}
