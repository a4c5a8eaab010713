use Rattle.std.proofs.Common.{◌≡◌, take}
use Rattle.lwkt_plain.proofs.parts.copied_all.Given as goal

-- the copies so far
abbrev pub invariant-loop-part : goal.invariant-loop-part
invariant-loop-part g l = l.copies ≡ take l.part-index l.parts
