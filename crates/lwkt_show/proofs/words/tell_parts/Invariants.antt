use Rattle.std.proofs.Common.{◌≡◌, ◌++◌, None, string_bytes, drop, flat_map}
use Rattle.lwkt_show.specs.Words.{part_told}
use Rattle.lwkt_show.proofs.words.tell_parts.Given as goal

-- what is written, with the parts to come, is the whole text
abbrev pub invariant-loop-part : goal.invariant-loop-part
invariant-loop-part l =
    (l.out.lost ≡ None → l.initial.out.lost ≡ None) × (l.out.lost ≡ None → string_bytes l.out.text ++ flat_map (part_told l.names) (drop l.part-index l.parts) ≡ string_bytes l.initial.out.text ++ flat_map (part_told l.names) l.parts)
