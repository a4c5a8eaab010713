use Rattle.std.proofs.Common.{◌≡◌, ◌++◌, map, string_bytes, take}
use Rattle.std.specs.Option.{option_copied, option_to_list}
use Rattle.clap.specs.Walk.{texts}
use Rattle.lwkt_request.proofs.old.behind.Given as goal

-- the words so far are those in front, and the first ones of the rest
abbrev pub invariant-loop-word : goal.invariant-loop-word
invariant-loop-word l = texts l.words.items ≡ (option_to_list (option_copied l.first) ++ option_to_list (option_copied l.second) ++ option_to_list (option_copied l.third)) ++ map string_bytes (take l.word-index l.rest)
