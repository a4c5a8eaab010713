use Rattle.std.proofs.Common.{◌≡◌, ◌∙◌, length, sym}
use Rattle.lwkt_text.proofs.Presence.{none_absent}
use Rattle.lwkt_text.proofs.readers.claims_looked_at.Goals as goal

pub returns-then-len-eq0-clause-there : goal.returns-then-len-eq0-clause-there
returns-then-len-eq0-clause-there c =
    let none : length c.in_ok-wrongs.wrongs ≡ 0 = sym c.len.ensures ∙ c.if-len-eq0.true in
    none_absent c.args.reading.now.script c.args.reading.now.expectations c.in_ok-wrongs.wrongs (cc (c.in_ok-wrongs.ensures, c.as_slice.ensures)) none
