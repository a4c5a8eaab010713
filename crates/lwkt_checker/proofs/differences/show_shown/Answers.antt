use Rattle.std.proofs.Common.{◌≡◌, ℕ, List, ◌++◌, OnOk, string_bytes, subst}
use Rattle.lwkt_trace.specs.Words.{numbers_text}
use Rattle.lwkt_checker.specs.Said.{shown_said}
use Rattle.lwkt_checker.proofs.differences.show_shown.Goals as goal

pub returns : goal.returns
unfolding shown_said
returns c =
    subst (λ (numbers : List ℕ). OnOk c.show_numbers.result (string_bytes c.show_numbers.new.out ≡ string_bytes c.args.out.now ++ numbers_text numbers)) c.shown.ensures c.show_numbers.ensures
