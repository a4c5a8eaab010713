use Rattle.std.proofs.Common.{◌≡◌, ◌++◌, true, drop, string_bytes}
use Rattle.std.specs.Option.{option_copied}
use Rattle.lwkt_explore.specs.Texts.{places_text}
use Rattle.lwkt_explore.proofs.forms.add_places.Given as goal

-- what is written, with the messages to come, is all of them
abbrev pub invariant-loop-message : goal.invariant-loop-message
invariant-loop-message l =
    string_bytes l.out ++ places_text (option_copied l.telling) l.is_first l.message (drop l.message l.first) (drop l.message l.form)
    ≡ string_bytes l.initial.out ++ places_text (option_copied l.telling) true 0 l.first l.form
