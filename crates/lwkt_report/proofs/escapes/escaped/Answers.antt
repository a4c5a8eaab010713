use Rattle.std.proofs.Common.{◌≡◌, string_bytes, rules, ◌∙◌}
use Rattle.std.specs.Str.{chars}
use Rattle.lwkt_report.specs.Escape.{escaped}
use Rattle.lwkt_report.proofs.PlainTexts.{all_plain, plain_stays}
use Rattle.lwkt_report.proofs.escapes.escaped.Goals as goal

pub returns-clause-plain : goal.returns-clause-plain
returns-clause-plain c =
    let bytes : string_bytes c.push_escaped.new.out ≡ escaped c.args.text.now = search rules in
    rw bytes (all_plain (chars c.args.text.now))

pub returns-clause-same : goal.returns-clause-same
returns-clause-same c = λ plain.
    let bytes : string_bytes c.push_escaped.new.out ≡ escaped c.args.text.now = search rules in
    bytes ∙ plain_stays c.args.text.now c.utf8.text plain
