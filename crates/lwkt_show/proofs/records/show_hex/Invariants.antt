use Rattle.std.proofs.Common.{◌≡◌, ◌++◌, None, string_bytes, drop}
use Rattle.lwkt_base.specs.Hex.{hex_text}
use Rattle.lwkt_show.proofs.records.show_hex.Given as goal

-- what is written, with the digits to come, is the whole text
abbrev pub invariant-loop-byte : goal.invariant-loop-byte
invariant-loop-byte l =
    (l.out.lost ≡ None → l.initial.out.lost ≡ None) × (l.out.lost ≡ None → string_bytes l.out.text ++ hex_text (drop l.byte-index l.bytes) ≡ string_bytes l.initial.out.text ++ hex_text l.bytes)
