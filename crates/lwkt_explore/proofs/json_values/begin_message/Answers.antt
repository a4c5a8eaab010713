use Rattle.std.proofs.Common.{string_bytes, codes}
use Rattle.std.specs.Option.{option_copied}
use Rattle.lwkt_explore.specs.Jsons.{message_named}
use Rattle.lwkt_explore.proofs.Writing.{then_written}
use Rattle.lwkt_explore.proofs.json_values.begin_message.Goals as goal

pub returns : goal.returns
returns c =
    then_written c.add_message_named.result (string_bytes c.args.out.now) (string_bytes c.push_str.new.out) (string_bytes c.add_message_named.new.out) (codes "{\"message\":") (message_named (option_copied c.args.telling) c.args.message)
    c.in_ok-push_str.ensures c.add_message_named.ensures
