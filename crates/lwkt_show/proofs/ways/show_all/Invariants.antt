use Rattle.std.proofs.Common.{◌≡◌, ◌++◌, None, string_bytes, drop}
use Rattle.std.specs.Option.{option_copied}
use Rattle.lwkt_show.specs.Computed.{all_text}
use Rattle.lwkt_show.proofs.ways.show_all.Given as goal

-- what is written, with what is to come, is the whole text
abbrev pub invariant-loop-one : goal.invariant-loop-one
invariant-loop-one l =
    (l.out.lost ≡ None → l.initial.out.lost ≡ None) × (l.out.lost ≡ None → string_bytes l.out.text ++ all_text (option_copied l.names) l.id l.steps (drop l.one-index l.made) ≡ string_bytes l.initial.out.text ++ all_text (option_copied l.names) l.id l.steps l.made)
