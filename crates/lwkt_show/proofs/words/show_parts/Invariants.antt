use Rattle.std.proofs.Common.{◌≡◌, ◌++◌, None, string_bytes, drop}
use Rattle.lwkt_show.specs.Words.{parts_text}
use Rattle.lwkt_show.proofs.words.show_parts.Given as goal

-- what is written, with the parts to come, is the whole text
abbrev pub invariant-loop-part : goal.invariant-loop-part
invariant-loop-part l =
    (l.out.lost ≡ None → l.initial.out.lost ≡ None) × (l.out.lost ≡ None → string_bytes l.out.text ++ parts_text (drop l.part-index l.parts) ≡ string_bytes l.initial.out.text ++ parts_text l.parts)
