use Rattle.std.proofs.Common.{List, ℕ, ◌++◌, codes, decimal, subst}
use Rattle.std.specs.Option.{option_copied}
use Rattle.lwkt_refusals.specs.Pages.{GrowsBy}
use Rattle.lwkt_show.specs.Words.{message_said}
use Rattle.lwkt_show.proofs.Pieces.{joined, two_and_four}
use Rattle.lwkt_show.proofs.words.show_dropped.Goals as goal

pub returns : goal.returns
returns c =
    let front : List ℕ = codes "message " ++ message_said (option_copied c.args.names) c.args.msg.0 in
    let Said : List ℕ → Type 0 = λ text. GrowsBy c.args.out.now c.show_values.new.out text in
    let Dropped : ℕ → Type 0 = λ op. Said (front ++ codes " taken back, op " ++ decimal op ++ codes ", arg " ++ decimal c.args.rec.arg) in
    subst Dropped c.from.ensures
    (subst Said (two_and_four (codes "message ") (message_said (option_copied c.args.names) c.args.msg.0) (codes " taken back, op ") (decimal c.from.result) (codes ", arg ") (decimal c.args.rec.arg))
    (joined (joined c.add.ensures c.show_message.ensures) c.show_values.ensures))
