use Rattle.std.proofs.Common.{◌≡◌, ◌++◌, None, string_bytes, drop}
use Rattle.std.specs.List.{flat_map}
use Rattle.lwkt_show.specs.Marked.{quoted_letter}
use Rattle.lwkt_show.proofs.marked.show_quoted.Given as goal

-- what is written, with the letters to come, is the whole text
abbrev pub invariant-loop-letter : goal.invariant-loop-letter
invariant-loop-letter l =
    (l.out.lost ≡ None → l.initial.out.lost ≡ None) × (l.out.lost ≡ None → string_bytes l.out.text ++ flat_map quoted_letter (drop l.letter-index l.text) ≡ string_bytes l.initial.out.text ++ flat_map quoted_letter l.text)
