use Rattle.std.proofs.Common.{ap, ◌∙◌}
use Rattle.lwkt_hold.proofs.ReadMoves.{mode_of, modes}
use Rattle.lwkt_hold.proofs.holds.Hold.mode.Goals as goal

pub returns-in-Nothing : goal.returns-in-Nothing
returns-in-Nothing c = ap mode_of c.in-Nothing.ensures ∙ ap (λ h. mode_of (h c.args.tok.0)) c.requires.held ∙ modes c.args.list.now c.args.tok.0

pub returns-in-Holds : goal.returns-in-Holds
returns-in-Holds c = ap mode_of c.in-Holds.ensures ∙ ap (λ h. mode_of (h c.args.tok.0)) c.requires.held ∙ modes c.args.list.now c.args.tok.0
