use Rattle.std.proofs.Common.{◌≡◌, drop}
use Rattle.lwkt_text.specs.Scanning.{fed_all, no_scan}
use Rattle.lwkt_text.proofs.scans.scanned.Given as goal

abbrev pub invariant-loop-at : goal.invariant-loop-at
invariant-loop-at l = fed_all l.at (drop l.at l.bytes) l.scan ≡ fed_all 0 l.bytes no_scan
