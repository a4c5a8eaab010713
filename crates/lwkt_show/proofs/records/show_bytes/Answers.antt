use Rattle.std.proofs.Common.{◌≡◌, true, take, sym, ◌∙◌}
use Rattle.std.specs.List.{list_all}
use Rattle.lwkt_show.specs.Words.{is_shown}
use Rattle.lwkt_show.proofs.Pieces.{all_of_front}
use Rattle.lwkt_show.proofs.records.show_bytes.Goals as goal

pub show_letters-requires : goal.show_letters-requires
show_letters-requires c =
    let all : list_all is_shown (take 24 c.args.bytes.now) ≡ true = all_of_front is_shown 24 c.args.bytes.now (sym c.is_text.ensures ∙ c.if-is_text.true) in
    rw c.front_of-front.ensures all
