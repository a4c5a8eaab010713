use Rattle.std.proofs.Common.{string_bytes}
use Rattle.lwkt_checker.proofs.Closings.{says_given}
use Rattle.lwkt_checker.proofs.differences.show_difference.Goals as goal

pub returns : goal.returns
returns c =
    says_given c.show_given_in_all.result c.args.state.now c.args.last.now (string_bytes c.args.out.now) (string_bytes c.show_tokens.new.out) (string_bytes c.show_messages.new.out) (string_bytes c.show_given_in_all.new.out)
    c.in_ok-show_tokens.field-0 c.in_ok-show_messages.field-0 c.in_ok-show_tokens.ensures c.if-branch.false c.in_ok-show_messages.ensures c.if-branch-2.false c.show_given_in_all.ensures
