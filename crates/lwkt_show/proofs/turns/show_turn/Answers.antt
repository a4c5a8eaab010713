use Rattle.std.proofs.Common.{◌++◌, refl, codes, string_bytes}
use Rattle.lwkt_show.specs.Lines.{turn_text}
use Rattle.lwkt_show.proofs.Pieces.{joined}
use Rattle.lwkt_show.proofs.turns.show_turn.Goals as goal

pub returns : goal.returns
returns c = record {
  words = turn_text c.args.scene.now.number c.args.scene.now.round c.args.scene.now.cpu ++ c.show_doing.ensures.words ++ string_bytes c.play-broken.new.out.text ++ codes "\n";
  holds = record {
    doing = c.show_doing.ensures.words;
    events = string_bytes c.play-broken.new.out.text;
    doing_is = c.show_doing.ensures.holds;
    parts = refl;
  };
  grows = joined (joined (joined c.show_head.ensures c.show_doing.ensures.grows) c.add_page.ensures.text) c.add.ensures;
}
