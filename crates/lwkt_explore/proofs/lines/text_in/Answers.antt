use Rattle.std.proofs.Common.{arith, ◌≡◌, ◌+◌, ◌++◌, [], length, string_bytes}
use Rattle.std.specs.Option.{option_copied}
use Rattle.lwkt_report.specs.Report.{numbered_lines}
use Rattle.lwkt_explore.specs.declared.outcomes.Kind.TheVariants.{Ended, Stuck, Cut}
use Rattle.lwkt_explore.specs.Texts.{outcome_lines, of_kind, by_kind, end_lines, sum_line, text_in}
use Rattle.lwkt_explore.proofs.KindLemmas.{kinds, numbered_kinds, written_all}
use Rattle.lwkt_explore.proofs.lines.text_in.Goals as goal

pub add_kind-requires : goal.add_kind-requires
add_kind-requires c =
    let found = c.args.found.now in
    let some = kinds found.outcomes in
    let few = found.outcomes.all.ok in
    let small = found.outcomes.all.small in
    omega arith

pub add_kind-requires-2 : goal.add_kind-requires-2
add_kind-requires-2 c =
    let ended = c.in_ok-ended.ensures.number in
    let found = c.args.found.now in
    let some = kinds found.outcomes in
    let few = found.outcomes.all.ok in
    let small = found.outcomes.all.small in
    omega arith

pub add_kind-requires-3 : goal.add_kind-requires-3
add_kind-requires-3 c =
    let ended = c.in_ok-ended.ensures.number in
    let stuck = c.in_ok-stuck.ensures.number in
    let found = c.args.found.now in
    let some = kinds found.outcomes in
    let few = found.outcomes.all.ok in
    let small = found.outcomes.all.small in
    omega arith

pub returns : goal.returns
unfolding text_in
returns c =
    let found = c.args.found.now in
    let line = outcome_lines (option_copied c.args.telling) found.tried in
    let e = of_kind Ended found.outcomes in
    let s = of_kind Stuck found.outcomes in
    let cut = of_kind Cut found.outcomes in
    let ended : c.in_ok-ended.ended ≡ length e = (let none = c.in_ok-ended.ensures.number in omega arith) in
    let stuck : c.in_ok-stuck.stuck ≡ length e + length s = (let more = c.in_ok-stuck.ensures.number in omega arith) in
    let first : string_bytes c.add_kind.new.out ≡ string_bytes c.new-out.result ++ numbered_lines line 1 e = c.in_ok-ended.ensures.text in
    let second : string_bytes c.add_kind-2.new.out ≡ string_bytes c.add_kind.new.out ++ numbered_lines line (c.in_ok-ended.ended + 1) s = c.in_ok-stuck.ensures.text in
    let third : string_bytes c.add_kind-3.new.out ≡ string_bytes c.add_kind-2.new.out ++ numbered_lines line (c.in_ok-stuck.stuck + 1) cut = c.in_ok-count.ensures.text in
    let fourth : string_bytes c.add_end.new.out ≡ string_bytes c.add_kind-3.new.out ++ end_lines found = c.in_ok-add_end.ensures in
    written_all (string_bytes c.new-out.result) (string_bytes c.add_kind.new.out) (string_bytes c.add_kind-2.new.out) (string_bytes c.add_kind-3.new.out) (string_bytes c.add_end.new.out) (string_bytes c.add_sum.new.out)
    (numbered_lines line 1 e) (numbered_lines line (length e + 1) s) (numbered_lines line (length e + length s + 1) cut) (numbered_lines line 1 (by_kind found.outcomes))
    (end_lines found) (sum_line found)
    c.new-out.ensures.bytes first (rw ended at second) (rw stuck at third) fourth c.in_ok-add_sum.ensures (numbered_kinds line e s cut)
