use Rattle.std.proofs.Common.{◌≡◌, ℕ, List, [], ◌++◌, append-nil, ap}
use Rattle.std.specs.List.{flat_map}
use Rattle.lwkt_report.specs.declared.closings.Closing.{Closing}
use Rattle.lwkt_report.specs.Report.{front_text, numbered_lines, token_line, thread_line}
use Rattle.lwkt_explore.specs.Outcomes.{settled_text}

-- the front of a report without messages
pub settled_is : (closing unsent : Closing) → unsent.tokens ≡ closing.tokens → unsent.messages.items ≡ [] → unsent.threads ≡ closing.threads → front_text unsent ≡ settled_text closing
unfolding front_text
settled_is closing unsent tokens none threads =
    rw (tokens, none, threads) (ap (λ (xs : List ℕ). xs ++ flat_map thread_line closing.threads.items) (append-nil (numbered_lines token_line 0 closing.tokens.items)))
