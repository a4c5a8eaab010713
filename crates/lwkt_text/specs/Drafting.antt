-- What the sentences of a text say, one after the other (own).
use Rattle.lwkt_base.specs.declared.limits.TheConstants.{MESSAGE_LIMIT, STEP_LIMIT, THREAD_LIMIT, TOKEN_LIMIT}
use Rattle.std.specs.Prelude.{ℕ, ◌+◌, ◌-◌, ◌==◌, ◌&&◌, ◌||◌, nat_lt, Bool, true, not, List, [], ◌∷◌, ◌++◌, length, map, take, replicate, slice_get, slice_set, codes, false, if◌then◌else◌, Option, Some, None, is_some, is_none, unwrap_or, ⊤, Result, Ok, Err}
use Rattle.lwkt_code.specs.declared.circles.TheConstants.{MOST_STEPS}
use Rattle.lwkt_code.specs.Firsts.{first_flaw, first_circle}
use Rattle.lwkt_code.specs.Programs.{Program, listed_program}
use Rattle.lwkt_code.specs.declared.codes.Wrong.{Wrong as CodeWrong}
use Rattle.lwkt_code.specs.declared.codes.Wrong.TheVariants.{TooMany, Step as StepIsWrong, Circle}
use Rattle.lwkt_code.specs.declared.steps.Jump.TheVariants.{Else, Break}
use Rattle.lwkt_code.specs.declared.steps.Step.{Step}
use Rattle.lwkt_code.specs.declared.steps.Step.TheVariants.{Goto}
use Rattle.lwkt_script.specs.Format.{threads_on}
use Rattle.lwkt_text.specs.declared.blocks.Block.{Block}
use Rattle.lwkt_text.specs.declared.blocks.Line.{Line}
use Rattle.lwkt_text.specs.declared.blocks.Opened.TheVariants as kinds
use Rattle.lwkt_text.specs.declared.drafts.Draft.{Draft}
use Rattle.lwkt_text.specs.declared.declarations.Head.{Head}
use Rattle.lwkt_text.specs.declared.sayings.Act.{Act}
use Rattle.lwkt_text.specs.declared.sayings.Act.TheVariants as acts
use Rattle.lwkt_text.specs.declared.sayings.Said.{Said}
use Rattle.lwkt_text.specs.declared.sayings.Said.TheVariants as saids
use Rattle.lwkt_text.specs.declared.tables.Names.{Names}
use Rattle.lwkt_text.specs.declared.words.Sentence.{Sentence}
use Rattle.lwkt_text.specs.declared.words.Word.{Word}
use Rattle.lwkt_text.specs.declared.wrongs.What.{What}
use Rattle.lwkt_text.specs.declared.wrongs.What.TheVariants as whats
use Rattle.lwkt_text.specs.declared.wrongs.Wrong.{Wrong}
use Rattle.lwkt_text.specs.Blocks.{is_if, round_in, numbered, block_of, end_of, linked}
use Rattle.lwkt_text.specs.Looking.{text_at, is_at, place_of_word, wrong_at}
use Rattle.lwkt_text.specs.Outcome.{◌>>=◌, ◌>>◌}
use Rattle.lwkt_text.specs.Saying.{said_by_sentence}

-- before the first sentence: 10000 turns, 100000000 idle ones, and what is wrong with the names
abbrev pub no_draft : List Wrong → Draft
no_draft faults = record { turns = 10000; idle = 100000000; tokens = []; messages = []; threads = []; head = None; vars = []; held = replicate 8 0; steps = []; lines = []; blocks = []; said = 0; expectations = []; faults = faults }

-- one more fault
abbrev pub blamed : Wrong → Draft → Draft
blamed wrong d = record d { faults = d.faults ++ wrong ∷ [] }

-- word 0 says something that there is no room for
abbrev pub crowded : List Word → Draft → Draft
crowded ws d = blamed (wrong_at ws 0 whats.Crowd) d

-- the line of a step
abbrev pub line_at : List Line → ℕ → Line
line_at lines at = unwrap_or (slice_get lines at) (record { at = 0; round = 0 })

-- nothing is wrong, or else what is told of a step
abbrev pub none_wrong : What → (Line → ℕ) → List Line → Option ℕ → Result ⊤ Wrong
none_wrong what told lines None = Ok tt
none_wrong what told lines (Some at) = Err (record { at = told (line_at lines at); what = what })

-- why steps aren't a program: a step that is wrong though its sentence is right counts in too many others, and a loop without an ask is told
-- at the loop
abbrev pub told_of : List Line → CodeWrong → Wrong
told_of lines TooMany = record { at = (line_at lines MOST_STEPS).at; what = whats.Crowd }
told_of lines (StepIsWrong at flaw) = record { at = (line_at lines at).at; what = whats.Deep }
told_of lines (Circle begin end) = record { at = (line_at lines begin).round; what = whats.Silent }

-- a program of steps of which none is wrong by itself, and no loop is without an ask
abbrev pub checked_program : List Line → List Step → ℕ → List ℕ → Result Program Wrong
checked_program lines steps repeat vars = none_wrong whats.Deep (λ l. l.at) lines (first_flaw steps) >> none_wrong whats.Silent (λ l. l.round) lines (first_circle steps) >> Ok (record { steps = steps; repeat = repeat; vars = vars })

-- the program that was said, of at most 768 steps
abbrev pub program_of : Head → Draft → Result Program Wrong
program_of h d = if nat_lt MOST_STEPS (length d.steps) then Err (record { at = (line_at d.lines MOST_STEPS).at; what = whats.Crowd }) else checked_program d.lines (linked 0 d.steps) h.repeat d.held

-- what was said of a thread; what it does is known only where nothing is wrong
abbrev pub thread_read : Head → Draft → Result Program Wrong
thread_read h d = if length d.faults == 0 && length d.blocks == 0 then program_of h d else Ok (listed_program [] h.repeat)

-- a thread without steps stands for one with which something is wrong
abbrev pub thread_put : Head → Result Program Wrong → Draft → Draft
thread_put h (Ok code) d = record d { threads = d.threads ++ (record { cpu = h.cpu; service = h.service; code = code }) ∷ [] }
thread_put h (Err wrong) d = blamed wrong (record d { threads = d.threads ++ (record { cpu = h.cpu; service = h.service; code = listed_program [] h.repeat }) ∷ [] })

-- sentences that nothing ends
abbrev pub unended : List Block → List Wrong
unended blocks = map (λ b. record { at = b.at; what = whats.Unended }) blocks

-- no thread is being said
abbrev pub cleared : Draft → Draft
cleared d = record d { head = None; vars = []; held = replicate 8 0; steps = []; lines = []; blocks = []; said = 0 }

-- the thread whose steps were said, with them
abbrev pub closed_by : Option Head → Draft → Draft
closed_by None d = d
closed_by (Some h) d = thread_put h (thread_read h d) (record (cleared d) { faults = d.faults ++ unended d.blocks })

abbrev pub closed : Draft → Draft
closed d = closed_by d.head d

-- a thread begins, if its processor has fewer than 16
abbrev pub thread_begun : Head → List Word → Draft → Draft
thread_begun h ws d = if nat_lt (threads_on h.cpu.0 d.threads) THREAD_LIMIT then record d { head = Some h } else crowded ws d

-- something is told only where nothing else is wrong
abbrev pub blamed_first : What → List Word → Draft → Draft
blamed_first what ws d = if length d.faults == 0 then blamed (wrong_at ws 0 what) d else d

-- a variable of the thread: at most eight, and before its first step
abbrev pub var_put : List Word → ℕ → Draft → Draft
var_put ws n d =
    if nat_lt (length d.vars) 8 then (
    if length d.steps == 0 then record d { vars = d.vars ++ (text_at ws 1) ∷ []; held = slice_set d.held (length d.vars) n } else blamed_first whats.Late ws d)
    else crowded ws d

-- one step more, told at its sentence, and of a loop at that
abbrev pub with_step : Step → List Word → Draft → Draft
with_step step ws d = record d { steps = d.steps ++ step ∷ []; lines = d.lines ++ (record { at = place_of_word ws 0; round = unwrap_or (round_in d.blocks) (place_of_word ws 0) }) ∷ [] }

-- whether a step leaves a loop
abbrev pub leaves : Step → Bool
leaves (Goto Break to) = true
leaves _ = false

-- what is wrong with a step where it stands: at most 256 count, in at most eight others, and a `break` stands in a loop
abbrev pub misplaced : Step → Draft → Option What
misplaced step d =
    if not (nat_lt d.said STEP_LIMIT) then Some whats.Crowd else (
    if nat_lt 8 (length d.blocks) then Some whats.Deep else (
    if leaves step && is_none (round_in d.blocks) then Some whats.NoLoop else None))

abbrev pub counted : Draft → Draft
counted d = record d { said = d.said + 1 }

abbrev pub placed : Option What → List Word → Step → Draft → Draft
placed None ws step d = counted (with_step step ws d)
placed (Some what) ws step d = blamed (wrong_at ws 0 what) d

-- a step that holds no others
abbrev pub stepped : Step → List Word → Draft → Draft
stepped step ws d = placed (misplaced step d) ws (numbered d.blocks d.steps step) d

-- one sentence more that isn't ended
abbrev pub begun : Block → Draft → Draft
begun block d = record d { blocks = d.blocks ++ block ∷ [] }

-- a step that holds others
abbrev pub opened_by : Step → List Word → Draft → Draft
opened_by step ws d = placed (misplaced step d) ws step (begun (block_of (length d.steps) (place_of_word ws 0) step) d)

abbrev pub opened : Step → List Word → Draft → Draft
opened step ws d = opened_by (numbered d.blocks d.steps step) ws d

-- the last sentence that isn't ended
abbrev pub innermost : Draft → Option Block
innermost d = slice_get d.blocks (length d.blocks - 1)

abbrev pub left : Draft → Draft
left d = record d { blocks = take (length d.blocks - 1) d.blocks }

-- the other list of an `if`
abbrev pub turned_over : Option Block → List Word → Draft → Draft
turned_over None ws d = blamed (wrong_at ws 0 whats.Unopened) d
turned_over (Some b) ws d = if is_if b then begun (record b { kind = kinds.Else }) (left (with_step (Goto Else 0) ws d)) else blamed (wrong_at ws 0 whats.Unopened) d

-- the end of what was begun last
abbrev pub ended : Option Block → List Word → Draft → Draft
ended None ws d = blamed (wrong_at ws 0 whats.Unopened) d
ended (Some b) ws d = left (with_step (end_of b) ws d)

-- what is said of a thread, if there is one; only the first of it without a thread is told
abbrev pub in_thread : List Word → Draft → Draft → Draft
in_thread ws said d = if is_some d.head then said else blamed_first whats.NoThread ws d

-- what is said of a thread that there is
abbrev pub acted : List Word → Act → Draft → Draft
acted ws (acts.Var n) d = var_put ws n d
acted ws (acts.Step step) d = stepped step ws d
acted ws (acts.Open step) d = opened step ws d
acted ws acts.Else d = turned_over (innermost d) ws d
acted ws acts.End d = ended (innermost d) ws d

-- what was said, put behind what was said before: at most 64 tokens and as many messages
abbrev pub put : List Word → Said → Draft → Draft
put ws (saids.Turns n) d = record d { turns = n }
put ws (saids.Idle n) d = record d { idle = n }
put ws saids.Cpus d = d
put ws (saids.Token t) d = if nat_lt (length d.tokens) TOKEN_LIMIT then record d { tokens = d.tokens ++ t ∷ [] } else crowded ws d
put ws (saids.Message m) d = if nat_lt (length d.messages) MESSAGE_LIMIT then record d { messages = d.messages ++ m ∷ [] } else crowded ws d
put ws (saids.Thread h) d = thread_begun h ws (closed d)
put ws (saids.Do act) d = in_thread ws (acted ws act d) d
put ws (saids.Expect e) d = record d { expectations = d.expectations ++ e ∷ [] }

-- a sentence that holds others, whatever is wrong with it, so that its end isn't told too
abbrev pub begun_wrong : List Word → Draft → Draft
begun_wrong ws d =
    if is_at ws 0 (codes "if") then begun (record { back = 0; at = place_of_word ws 0; kind = kinds.If }) d else (
    if is_at ws 0 (codes "while") || is_at ws 0 (codes "times") || is_at ws 0 (codes "loop") then begun (record { back = 0; at = place_of_word ws 0; kind = kinds.Round }) d else d)

abbrev pub put_or_blamed : Result Said Wrong → List Word → Draft → Draft
put_or_blamed (Ok s) ws d = put ws s d
put_or_blamed (Err wrong) ws d = blamed wrong (if is_some d.head then begun_wrong ws d else d)

-- a sentence, said
abbrev pub sentence_added : Names → List Word → Draft → Draft
sentence_added names ws d = put_or_blamed (said_by_sentence names d.vars ws) ws d

abbrev pub all_added : Names → List Sentence → Draft → Draft
all_added names [] d = d
all_added names (s ∷ ss) d = all_added names ss (sentence_added names s.words d)
