use Rattle.std.proofs.Common.{sym}
use Rattle.lwkt_msg.proofs.Calling.{looked_parts}
use Rattle.lwkt_msg.proofs.calls.parts.Goals as goal

pub returns-clause-looked : goal.returns-clause-looked
returns-clause-looked c =
    let l = c.look-word.ensures.looked in
    looked_parts c.args.m c.args.place.now.me c.look-word.result c.look-word.new.place.me c.parts.result l (c.parts.ensures.only l.parts l.fits (sym l.is_word))
