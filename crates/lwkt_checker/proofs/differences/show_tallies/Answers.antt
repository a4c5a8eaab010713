use Rattle.std.proofs.Common.{ℕ, List, ◌++◌, codes, string_bytes}
use Rattle.std.specs.Prelude.{slice_get}
use Rattle.lwkt_checker.specs.Said.{shown_said, given_numbers_said, tallies_differ_said}
use Rattle.lwkt_checker.proofs.Sayings.{then_said, behind_said, tallies_is}
use Rattle.lwkt_checker.proofs.differences.show_tallies.Goals as goal

pub returns : goal.returns
returns c =
    let tok = c.args.token.now in
    let last = c.args.last.now in
    let old : List ℕ = string_bytes c.args.out.now in
    let word : List ℕ = codes "the tallies are" in
    let shown : List ℕ = shown_said tok c.args.cpus in
    let given : List ℕ = given_numbers_said (slice_get last.tallies.items c.args.place) in
    let one = behind_said old (string_bytes c.push_str.new.out) (string_bytes c.show_shown.new.out) word shown c.in_ok-push_str.ensures c.in_ok-show_shown.ensures in
    let two = behind_said old (string_bytes c.show_shown.new.out) (string_bytes c.push_str-2.new.out) (word ++ shown) (codes " and not") one c.in_ok-push_str-2.ensures in
    then_said c.show_given_tallies.result old (string_bytes c.push_str-2.new.out) (string_bytes c.show_given_tallies.new.out) (word ++ shown ++ codes " and not") given (tallies_differ_said tok c.args.cpus last c.args.place)
    two c.show_given_tallies.ensures (tallies_is tok c.args.cpus last c.args.place)
