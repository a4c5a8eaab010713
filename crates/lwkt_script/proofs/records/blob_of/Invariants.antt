use Rattle.std.proofs.Common.{◌≡◌, ◌*◌, [], length, take, drop}
use Rattle.lwkt_script.specs.Record.{bytes_behind}
use Rattle.lwkt_script.proofs.records.blob_of.Given as goal

-- there is room for 65 bytes, and those so far, with the digits to come, are all digits
abbrev pub invariant-loop-place : goal.invariant-loop-place
invariant-loop-place l = (length l.bytes ≡ 65) × (bytes_behind (take l.place l.bytes) (drop (2 * l.place) l.text) ≡ bytes_behind [] l.text)
