-- Sentences that hold others, and where the steps that they begin and end lead (own, version 3).
use Rattle.std.specs.Prelude.{ℕ, ◌+◌, ◌-◌, ◌==◌, ◌&&◌, ◌||◌, min, List, [], ◌∷◌, length, drop, count_by, slice_get, Bool, true, false, if◌then◌else◌, Option, Some, None, option_and_then}
use Rattle.lwkt_code.specs.declared.circles.TheConstants.{MOST_STEPS}
use Rattle.lwkt_code.specs.declared.steps.Jump.TheVariants.{Else, Back, Break, Loop, End}
use Rattle.lwkt_code.specs.declared.steps.Step.{Step}
use Rattle.lwkt_code.specs.declared.steps.Step.TheVariants.{Unless, Goto, Count, Again, Assert}
use Rattle.lwkt_code.specs.declared.steps.Test.TheVariants.{If, While}
use Rattle.lwkt_text.specs.declared.blocks.Block.{Block}
use Rattle.lwkt_text.specs.declared.blocks.Opened.{Opened}
use Rattle.lwkt_text.specs.declared.blocks.Opened.TheVariants as opened
use Rattle.lwkt_text.specs.Naming.{either}

-- a loop
abbrev pub is_loop_kind : Opened → Bool
is_loop_kind opened.If = false
is_loop_kind opened.Else = false
is_loop_kind opened.Round = true
is_loop_kind (opened.Times k) = true

abbrev pub is_round : Block → Bool
is_round b = is_loop_kind b.kind

-- a loop that counts
abbrev pub counts : Opened → Bool
counts opened.If = false
counts opened.Else = false
counts opened.Round = false
counts (opened.Times k) = true

abbrev pub is_times : Block → Bool
is_times b = counts b.kind

-- an `if` without an `else` so far
abbrev pub awaits_else : Opened → Bool
awaits_else opened.If = true
awaits_else opened.Else = false
awaits_else opened.Round = false
awaits_else (opened.Times k) = false

abbrev pub is_if : Block → Bool
is_if b = awaits_else b.kind

-- where the innermost loop begins, the last of those that aren't ended
abbrev pub round_in : List Block → Option ℕ
round_in [] = None
round_in (b ∷ bs) = either (round_in bs) (if is_round b then Some b.at else None)

-- how many loops count that aren't ended
abbrev pub times_in : List Block → ℕ
times_in bs = count_by is_times bs

abbrev pub is_assertion : Step → Bool
is_assertion (Assert c n) = true
is_assertion _ = false

-- a step with its number: that of its count among those that aren't ended, or its own among the assertions
abbrev pub numbered : List Block → List Step → Step → Step
numbered blocks steps (Count k n) = Count (min (times_in blocks) 255) n
numbered blocks steps (Assert c n) = Assert c (min (count_by is_assertion steps) 4294967295)
numbered blocks steps step = step

-- what a step behind so many others begins, whose sentence stands there
abbrev pub block_of : ℕ → ℕ → Step → Block
block_of steps at (Unless If c to) = record { back = min steps MOST_STEPS; at = at; kind = opened.If }
block_of steps at (Count k n) = record { back = min steps MOST_STEPS + 1; at = at; kind = opened.Times k }
block_of steps at _ = record { back = min steps MOST_STEPS; at = at; kind = opened.Round }

-- the step that ends a sentence
abbrev pub ending : Opened → ℕ → Step
ending opened.If back = Goto End 0
ending opened.Else back = Goto End 0
ending opened.Round back = Goto Back back
ending (opened.Times k) back = Again k back

abbrev pub end_of : Block → Step
end_of b = ending b.kind b.back

-- whether steps behind this one stand in it
abbrev pub opens : Step → Bool
opens (Unless test c to) = true
opens (Goto Loop to) = true
opens (Count k n) = true
opens _ = false

-- whether a step ends a loop, or one of the two lists of an `if`
abbrev pub ends_round : Step → Bool
ends_round (Goto Back to) = true
ends_round (Again k to) = true
ends_round _ = false

abbrev pub ends_arm : Step → Bool
ends_arm (Goto Else to) = true
ends_arm (Goto End to) = true
ends_arm _ = false

-- whether a step ends what stands in another
abbrev pub closes : Step → Bool
closes (Goto Back to) = true
closes (Goto End to) = true
closes (Again k to) = true
closes _ = false

-- how many sentences are open behind a step
abbrev pub deeper : Step → ℕ → ℕ
deeper step depth = if opens step then depth + 1 else (if closes step then depth - 1 else depth)

-- where a way goes on that comes to this end from before it: at the end of an `if`, and behind an `else` and a loop's end
abbrev pub lands : Step → ℕ → ℕ
lands (Goto End to) at = at
lands _ at = at + 1

-- where a way goes on that leaves a loop, or a list of an `if`, in which these steps stand, the first of them at a place
abbrev pub found : Bool → ℕ → ℕ → List Step → ℕ
found is_loop at depth [] = at
found is_loop at depth (s ∷ ss) =
    if depth == 0 && (if is_loop then ends_round s else ends_arm s) then lands s at
    else found is_loop (at + 1) (deeper s depth) ss

-- where the step at a place leads, if that depends on the steps behind it
abbrev pub aim_of : ℕ → Step → List Step → Option ℕ
aim_of at (Unless If c to) ss = Some (found false (at + 1) 0 ss)
aim_of at (Unless While c to) ss = Some (found true (at + 1) 0 ss)
aim_of at (Goto Else to) ss = Some (found false (at + 1) 0 ss)
aim_of at (Goto Break to) ss = Some (found true (at + 1) 0 ss)
aim_of at (Goto Loop to) ss = Some (at + 1)
aim_of at (Goto End to) ss = Some (at + 1)
aim_of at _ ss = None

-- the same, of a place in a list of steps
abbrev pub aim_in : List Step → ℕ → Option ℕ
aim_in steps at = option_and_then (λ step. aim_of at step (drop (at + 1) steps)) (slice_get steps at)

-- a step that leads there
abbrev pub aimed : Option ℕ → Step → Step
aimed None step = step
aimed (Some place) (Unless test c to) = Unless test c place
aimed (Some place) (Goto jump to) = Goto jump place
aimed (Some place) step = step

-- steps of which each leads where it has to, the first of them at a place
abbrev pub linked : ℕ → List Step → List Step
linked at [] = []
linked at (s ∷ ss) = aimed (aim_of at s ss) s ∷ linked (at + 1) ss
