use Rattle.std.proofs.Common.{◌≡◌, ◌++◌, true, None, string_bytes, drop}
use Rattle.std.specs.List.{list_all}
use Rattle.lwkt_show.specs.Words.{is_shown}
use Rattle.lwkt_show.proofs.records.show_letters.Given as goal

-- what is written, with the letters to come, is the whole text; all of these are shown as they are
abbrev pub invariant-loop-byte : goal.invariant-loop-byte
invariant-loop-byte l =
    (list_all is_shown (drop l.byte-index l.bytes) ≡ true) × (l.out.lost ≡ None → l.initial.out.lost ≡ None) × (l.out.lost ≡ None → string_bytes l.out.text ++ drop l.byte-index l.bytes ≡ string_bytes l.initial.out.text ++ l.bytes)
