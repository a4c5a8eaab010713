use Rattle.std.proofs.Common.{◌≡◌, [], take, drop}
use Rattle.lwkt_plain.specs.Sound.{KeepsTokens, AreHeld}
use Rattle.lwkt_plain.specs.Tokens.{takes}
use Rattle.lwkt_plain.proofs.tokens.resume.Given as goal

abbrev pub invariant-loop-at : goal.invariant-loop-at
invariant-loop-at l = record {
  goes : takes l.cpu l.refs l.tokens (take l.at l.refs) (drop l.at l.refs) ≡ takes l.cpu l.refs l.initial.tokens [] l.refs;
  keeps : KeepsTokens l.cpu.0 l.initial.tokens l.tokens;
  held : AreHeld l.cpu.0 (take l.at l.refs) l.tokens;
}
