use Rattle.std.proofs.Common.{◌≡◌, ◌++◌, ◌-◌, None, length, string_bytes}
use Rattle.std.specs.Option.{option_copied}
use Rattle.lwkt_show.specs.Circles.{next_of, others_text}
use Rattle.lwkt_show.proofs.circles.show_others.Given as goal

-- what is written, with the threads to come, is the whole text
abbrev pub invariant-loop-wait : goal.invariant-loop-wait
invariant-loop-wait l =
    (l.out.lost ≡ None → l.initial.out.lost ≡ None) × (l.out.lost ≡ None → string_bytes l.out.text ++ others_text (option_copied l.names) (next_of l.waits) l.first (length l.waits - l._wait) l.now ≡ string_bytes l.initial.out.text ++ others_text (option_copied l.names) (next_of l.waits) l.first (length l.waits) l.first)
