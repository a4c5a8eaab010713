use Rattle.std.proofs.Common.{codes, string_bytes}
use Rattle.lwkt_checker.specs.Said.{said, section_said, own_said}
use Rattle.lwkt_checker.proofs.Sayings.{then_said, own_is}
use Rattle.lwkt_checker.proofs.lacks.show_own_section.Goals as goal

pub returns : goal.returns
returns c =
    let tok = c.args.token.now in
    let first = c.as_slice.result.now in
    let row = c.as_slice-2.result.now in
    then_said c.show_section.result (string_bytes c.args.out.now) (string_bytes c.say.new.out) (string_bytes c.show_section.new.out) (said (codes "the section is of ")) (section_said tok.generation first row) (own_said tok) c.in_ok-say.ensures c.show_section.ensures (own_is tok first row c.as_slice.ensures c.as_slice-2.ensures)
