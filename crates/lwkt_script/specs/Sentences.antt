-- The program that the sentences of a thread of version 3 make (own).
use Rattle.std.specs.Prelude.{ℕ, zero, suc, ◌+◌, ◌*◌, nat_lt, nat_le, List, [], ◌∷◌, ◌++◌, length, if◌then◌else◌, Option, Some, None, unwrap_or, slice_get, Result, Ok, Err, ⊤}
use Rattle.serde_json.specs.Data.{Data, Items, no_items, item}
use Rattle.lwkt_base.specs.declared.limits.TheConstants.{STEP_LIMIT}
use Rattle.lwkt_code.specs.declared.circles.TheConstants.{MOST_STEPS}
use Rattle.lwkt_code.specs.declared.steps.Step.{Step}
use Rattle.lwkt_code.specs.declared.codes.Wrong.{Wrong}
use Rattle.lwkt_code.specs.declared.codes.Wrong.TheVariants.{TooMany, Step as StepIsWrong, Circle}
use Rattle.lwkt_code.specs.Programs.{Program}
use Rattle.lwkt_code.specs.Firsts.{first_flaw, first_circle}
use Rattle.lwkt_script.specs.declared.drafts.Draft.{Draft}
use Rattle.lwkt_script.specs.declared.drafts.Line.{Line}
use Rattle.lwkt_script.specs.declared.scopes.Scope.{Scope}
use Rattle.lwkt_script.specs.Frames.{sentence_word, size_in, Nest, frame_of, holds_others, plain_step}
use Rattle.lwkt_script.specs.Outcome.{◌>>=◌, ◌>>◌, part, demand}

-- where sentence j of thread n stands
abbrev pub place : ℕ → ℕ → ℕ
place n j = 100000 + 1000 * n + j

-- what stands outside of all loops
abbrev pub outermost : Scope
outermost = record { leave = None; round = None; times = 0 }

-- before any sentence
abbrev pub nothing_said : Draft
nothing_said = record { steps = []; lines = []; said = 0 }

-- one sentence more
abbrev pub one_said : Draft → Draft
one_said draft = record draft { said = draft.said + 1 }

-- one step more, of sentence j; a circle that it begins is told at the loop that it stands at or in
abbrev pub with_step : Scope → ℕ → Step → Draft → Draft
with_step scope j step draft = record draft { steps = draft.steps ++ step ∷ []; lines = draft.lines ++ record { sentence = j; round = unwrap_or scope.round j } ∷ [] }

-- the list of an `else`, if there is one
abbrev pub other_read : (Scope → Draft → Items → Result Draft ℕ) → Scope → ℕ → Option (Step × Items) → Draft → Result Draft ℕ
other_read inside scope j None draft = Ok draft
other_read inside scope j (Some other) draft = inside scope (with_step scope j other.0 draft) other.1

-- a sentence that holds others, by what reads a list in it
abbrev pub frame_read : (Scope → Draft → Items → Result Draft ℕ) → ℕ → Nest → Draft → Result Draft ℕ
frame_read inside j f draft = do
  body ← inside f.scope (with_step f.scope j f.head (one_said draft)) f.body
  all ← other_read inside f.scope j f.other body
  Ok (with_step f.scope j f.end all)

abbrev pub nested : (Scope → Draft → Items → Result Draft ℕ) → (Items → ℕ) → ℕ → Scope → Draft → List ℕ → Data → Result Draft ℕ
nested inside size n scope draft word d = part (place n draft.said) (frame_of size scope (length draft.steps) draft.said word d) >>= λ f. frame_read inside draft.said f draft

-- a sentence that holds none
abbrev pub plain : ℕ → Scope → Draft → List ℕ → Data → Result Draft ℕ
plain n scope draft word d = part (place n draft.said) (plain_step scope word d) >>= λ step. Ok (with_step scope draft.said step (one_said draft))

-- the next sentence of thread n, of at most 256
abbrev pub sentence : (Scope → Draft → Items → Result Draft ℕ) → (Items → ℕ) → ℕ → Scope → Draft → Data → Result Draft ℕ
sentence inside size n scope draft d = do
  demand (3000 + n) (nat_lt draft.said STEP_LIMIT)
  word ← part (place n draft.said) (sentence_word d)
  if holds_others word then nested inside size n scope draft word d else plain n scope draft word d

-- a sentence that stands too deep
abbrev pub too_deep : ℕ → Draft → Result Draft ℕ
too_deep n draft = demand (3000 + n) (nat_lt draft.said STEP_LIMIT) >> Err (place n draft.said)

-- sentences one after another
abbrev pub in_turn : (Draft → Data → Result Draft ℕ) → Draft → Items → Result Draft ℕ
in_turn f draft no_items = Ok draft
in_turn f draft (item d ds) = f draft d >>= λ next. in_turn f next ds

-- the next sentence of thread n, in a list in which so many levels may stand
unfoldable pub turn : ℕ → ℕ → Scope → Draft → Data → Result Draft ℕ
turn zero n scope draft d = too_deep n draft
turn (suc deep) n scope draft d = sentence (λ inner before ds. in_turn (turn deep n inner) before ds) (size_in deep) n scope draft d

-- the sentences of such a list
abbrev pub sentences : ℕ → ℕ → Scope → Draft → Items → Result Draft ℕ
sentences deep n scope draft ds = in_turn (turn deep n scope) draft ds

-- what a step says of itself at a place
abbrev pub told_at : List Line → ℕ → Line
told_at lines at = unwrap_or (slice_get lines at) (record { sentence = 0; round = 0 })

-- nothing is wrong, or else what stands at a place of the steps of thread n
abbrev pub none_wrong : ℕ → (Line → ℕ) → List Line → Option ℕ → Result ⊤ ℕ
none_wrong n told lines None = Ok tt
none_wrong n told lines (Some at) = Err (place n (told (told_at lines at)))

-- the program of steps: none is wrong by itself, and no loop without an ask
unfoldable pub checked : ℕ → ℕ → List ℕ → Draft → Result Program ℕ
checked n repeat vars draft = do
  demand (3000 + n) (nat_le (length draft.steps) MOST_STEPS)
  none_wrong n (λ line. line.sentence) draft.lines (first_flaw draft.steps)
  none_wrong n (λ line. line.round) draft.lines (first_circle draft.steps)
  Ok (record { steps = draft.steps; repeat = repeat; vars = vars })

-- the same of what the check of the steps found
abbrev pub wrong_place : ℕ → List Line → Wrong → ℕ
wrong_place n lines TooMany = 3000 + n
wrong_place n lines (StepIsWrong at flaw) = place n (told_at lines at).sentence
wrong_place n lines (Circle begin end) = place n (told_at lines begin).round

-- the program of thread n: at most 256 sentences, which stand in at most 8 others
abbrev pub program : ℕ → ℕ → List ℕ → Items → Result Program ℕ
program n repeat vars ds = sentences 9 n outermost nothing_said ds >>= checked n repeat vars
