use Rattle.std.proofs.Common.{◌≡◌, ◌+◌, ◌++◌, string_bytes}
use Rattle.std.specs.List.{flat_map}
use Rattle.std.specs.Option.{option_copied}
use Rattle.lwkt_explore.specs.Texts.{or_line, later_forms}
use Rattle.lwkt_explore.proofs.forms.add_forms.Given as goal

-- what is written, with the forms to come, is all of them
abbrev pub invariant-loop-at : goal.invariant-loop-at
invariant-loop-at l =
    string_bytes l.out ++ flat_map (λ form. or_line (option_copied l.telling) l.outcome form.0) (later_forms l.outcome l.at l.outcomes)
    ≡ string_bytes l.initial.out ++ flat_map (λ form. or_line (option_copied l.telling) l.outcome form.0) (later_forms l.outcome (l.place + 1) l.outcomes)
