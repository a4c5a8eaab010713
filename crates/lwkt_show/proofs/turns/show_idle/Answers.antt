use Rattle.std.proofs.Common.{inl, inr, refl, ◌++◌, codes, string_bytes}
use Rattle.lwkt_show.proofs.Pieces.{joined}
use Rattle.lwkt_show.proofs.turns.show_idle.Goals as goal

pub returns-then-show_waits : goal.returns-then-show_waits
returns-then-show_waits c = record {
  words = codes ": no thread runs: " ++ string_bytes c.show_waits.new.out.text;
  holds = inr (string_bytes c.show_waits.new.out.text, refl);
  grows = joined c.add.ensures c.add_page.ensures.text;
}

pub returns : goal.returns
returns c = record {
  words = codes ": no thread is left";
  holds = inl refl;
  grows = c.add-else-show_waits.ensures;
}
