-- Asks whose numbers are expressions, and what their answers are put into, as words of a sentence (own, version 3).
use Rattle.std.specs.Prelude.{◌≡◌, ℕ, ◌+◌, ◌==◌, ◌&&◌, nat_le, List, [], ◌∷◌, ◌++◌, length, replicate, codes, Bool, true, false, is_some, if◌then◌else◌, Option, Some, None, unwrap_or, option_map, option_and_then, slice_get, Result, Ok, Err}
use Rattle.lwkt_base.specs.declared.asks.Ask.{Ask}
use Rattle.lwkt_base.specs.declared.names.ThreadId.{ThreadId}
use Rattle.lwkt_base.specs.declared.steps.PartKind.{PartKind}
use Rattle.lwkt_base.specs.declared.steps.PartKind.TheVariants as kinds
use Rattle.lwkt_base.specs.Step.{verb_written, part_kinds}
use Rattle.lwkt_code.specs.Flaws.{flaw_of}
use Rattle.lwkt_code.specs.Terms.{Term, number, variable, both}
use Rattle.lwkt_code.specs.Wishes.{wished}
use Rattle.lwkt_code.specs.declared.checks.Flaw.{Flaw}
use Rattle.lwkt_code.specs.declared.exprs.Operator.TheVariants.{Plus}
use Rattle.lwkt_code.specs.declared.steps.Operand.{Operand}
use Rattle.lwkt_code.specs.declared.steps.Operand.TheVariants.{Token, Cell, Value, Record, Message, Target, Call, Flags, Code, Outcome}
use Rattle.lwkt_code.specs.declared.steps.Places.{Places}
use Rattle.lwkt_code.specs.declared.steps.Places.TheVariants.{Nowhere, One, Two, Three}
use Rattle.lwkt_code.specs.declared.steps.Step.{Step}
use Rattle.lwkt_code.specs.declared.steps.Step.TheVariants.{Fixed, Make, Set, Fault}
use Rattle.lwkt_code.specs.declared.steps.Wish.{Wish}
use Rattle.lwkt_script.specs.Field.{within}
use Rattle.lwkt_text.specs.declared.operands.FoundOperand.{FoundOperand}
use Rattle.lwkt_text.specs.declared.phrases.FoundExpr.{FoundExpr}
use Rattle.lwkt_text.specs.declared.tables.Names.{Names}
use Rattle.lwkt_text.specs.declared.words.Word.{Word}
use Rattle.lwkt_text.specs.declared.wrongs.Wanted.TheVariants as wanted
use Rattle.lwkt_text.specs.declared.wrongs.What.{What}
use Rattle.lwkt_text.specs.declared.wrongs.What.TheVariants as whats
use Rattle.lwkt_text.specs.declared.wrongs.Wrong.{Wrong}
use Rattle.lwkt_text.specs.Looking.{text_at, is_at, part_at, demand_at, ends_at, wrong_at, bytes_at}
use Rattle.lwkt_text.specs.Naming.{position, cells_of, named_thread}
use Rattle.lwkt_text.specs.Outcome.{◌>>=◌, ◌>>◌}
use Rattle.lwkt_text.specs.Phrasing.{begins_phrase, closed_at, expr_at}
use Rattle.lwkt_text.specs.Stepping.{flags_at, flags_end, step_ask}

-- an expression, and the place behind it
abbrev pub expr_found : Term → ℕ → FoundExpr
expr_found e end = record { expr = e; end = end }

-- the number of a part, or an expression; of which parts, what is wanted says
abbrev pub by_name : Option ℕ → What → List (List ℕ) → List Word → ℕ → ℕ → Result FoundExpr Wrong
by_name (Some n) what vars ws low i = Ok (expr_found (number n) (i + 1))
by_name None what vars ws low i = if begins_phrase vars ws i then expr_at vars ws low i else Err (wrong_at ws i what)

-- the number of the member 0 of a name, which the others follow
abbrev pub first_member : List (List ℕ) → List ℕ → Option ℕ
first_member parts text = position parts (text ++ codes "[0]")

-- `NAME [ EXPR ]` from word i on
abbrev pub member_at : List (List ℕ) → What → List (List ℕ) → List Word → ℕ → Result FoundExpr Wrong
member_at parts what vars ws i = part_at ws i what (first_member parts (text_at ws i)) >>= λ n. expr_at vars ws 5 (i + 2) >>= λ f. closed_at ws f.end (codes "]") wanted.Square >> Ok (expr_found (both Plus (number n) f.expr) (f.end + 1))

-- a part from word i on: its name, a member of its name, or an expression
abbrev pub part_term_at : List (List ℕ) → What → List (List ℕ) → List Word → ℕ → ℕ → Result FoundExpr Wrong
part_term_at parts what vars ws low i =
    if is_at ws (i + 1) (codes "[") then member_at parts what vars ws i
    else by_name (position parts (text_at ws i)) what vars ws low i

-- the names of the cells of the token that an expression's number begins with
abbrev pub cells_named : Names → Term → List (List ℕ)
cells_named names (number n) = unwrap_or (slice_get names.cells n) []
cells_named names (variable v) = []
cells_named names (both op a b) = cells_named names a

abbrev pub operand_found : Operand → ℕ → FoundOperand
operand_found operand end = record { operand = operand; end = end }

-- a token, a full stop and a cell: its name, or an expression in brackets
abbrev pub cell_at : Names → List (List ℕ) → List Word → ℕ → Result FoundOperand Wrong
cell_at names vars ws i = part_term_at names.tokens whats.Token vars ws 7 i >>= λ t. closed_at ws t.end (codes ".") wanted.Point >> by_name (position (cells_named names t.expr) (text_at ws (t.end + 1))) whats.Cell vars ws 7 (t.end + 1) >>= λ c. Ok (operand_found (Cell t.expr c.expr) c.end)

-- a thread by expressions: its processor, a full stop and its number there
abbrev pub numbered_at : List (List ℕ) → List Word → ℕ → Result FoundOperand Wrong
numbered_at vars ws i = expr_at vars ws 7 i >>= λ cpu. closed_at ws cpu.end (codes ".") wanted.Point >> expr_at vars ws 7 (cpu.end + 1) >>= λ thread. Ok (operand_found (Target cpu.expr thread.expr) thread.end)

-- a thread: its name, or else by expressions
abbrev pub thread_by : Option ThreadId → List (List ℕ) → List Word → ℕ → Result FoundOperand Wrong
thread_by (Some id) vars ws i = Ok (operand_found (Target (number id.cpu.0) (number id.thread)) (i + 1))
thread_by None vars ws i = if begins_phrase vars ws i then numbered_at vars ws i else Err (wrong_at ws i whats.Thread)

abbrev pub target_at : Names → List (List ℕ) → List Word → ℕ → Result FoundOperand Wrong
target_at names vars ws i = demand_at ws i (whats.Word wanted.Arrow) (is_at ws i (codes "->")) >> thread_by (named_thread names (text_at ws (i + 1))) vars ws (i + 1)

-- the value of the key that word i may be, and else 0
abbrev pub keyed_at : List (List ℕ) → List Word → ℕ → List ℕ → Result FoundExpr Wrong
keyed_at vars ws i key = if is_at ws i key then expr_at vars ws 5 (i + 1) else Ok (expr_found (number 0) i)

-- an expression that may stand at the end, and else 0
abbrev pub last_at : List (List ℕ) → List Word → ℕ → Result FoundExpr Wrong
last_at vars ws i = if is_at ws i (codes "") then Ok (expr_found (number 0) i) else expr_at vars ws 5 i

-- `op EXPR arg EXPR`, each of them 0 where it is left out
abbrev pub call_at : List (List ℕ) → List Word → ℕ → Result FoundOperand Wrong
call_at vars ws i = keyed_at vars ws i (codes "op") >>= λ op. keyed_at vars ws op.end (codes "arg") >>= λ arg. Ok (operand_found (Call op.expr arg.expr) arg.end)

-- what stands behind the word of an ask, of a kind, from word i on
abbrev pub operand_at : Names → List (List ℕ) → PartKind → List Word → ℕ → Result FoundOperand Wrong
operand_at names vars kinds.Token ws i = part_term_at names.tokens whats.Token vars ws 5 i >>= λ f. Ok (operand_found (Token f.expr) f.end)
operand_at names vars kinds.Cell ws i = cell_at names vars ws i
operand_at names vars kinds.Value ws i = expr_at vars ws 5 i >>= λ f. Ok (operand_found (Value f.expr) f.end)
operand_at names vars kinds.Record ws i = bytes_at ws i 65 >>= λ blob. Ok (operand_found (Record blob) (i + 1))
operand_at names vars kinds.Message ws i = part_term_at names.messages whats.Message vars ws 5 i >>= λ f. Ok (operand_found (Message f.expr) f.end)
operand_at names vars kinds.Target ws i = target_at names vars ws i
operand_at names vars kinds.Call ws i = call_at vars ws i
operand_at names vars kinds.Flags ws i = Ok (operand_found (Flags (flags_at ws i)) (flags_end ws i))
operand_at names vars kinds.Code ws i = last_at vars ws i >>= λ f. Ok (operand_found (Code f.expr) f.end)
operand_at names vars kinds.Outcome ws i = last_at vars ws i >>= λ f. Ok (operand_found (Outcome f.expr) f.end)

-- the operands of kinds from word i on, and nothing more
abbrev pub operands_at : Names → List (List ℕ) → List PartKind → List Word → ℕ → Result (List Operand) Wrong
operands_at names vars [] ws i = ends_at ws i >> Ok []
operands_at names vars (kind ∷ kinds) ws i = operand_at names vars kind ws i >>= λ f. operands_at names vars kinds ws f.end >>= λ operands. Ok (f.operand ∷ operands)

-- the ask whose word is word i, with expressions
abbrev pub wish_at : Names → List (List ℕ) → List Word → ℕ → Result Wish Wrong
wish_at names vars ws i = part_at ws i whats.Keyword (verb_written (text_at ws i)) >>= λ verb. operands_at names vars (part_kinds verb) ws (i + 1) >>= λ operands. Ok (record { verb = verb; operands = operands })

-- whether an expression is a number up to a limit
abbrev pub is_number : ℕ → Term → Bool
is_number most (number n) = nat_le n most
is_number most (variable v) = false
is_number most (both op a b) = false

-- whether an operand is what a step of version 2 may have
abbrev pub is_plain : Operand → Bool
is_plain (Token tok) = is_number 255 tok
is_plain (Cell tok cell) = is_number 255 tok && is_number 255 cell
is_plain (Value x) = is_number 18446744073709551615 x
is_plain (Record blob) = true
is_plain (Message msg) = is_number 255 msg
is_plain (Target cpu thread) = is_number 255 cpu && is_number 255 thread
is_plain (Call op arg) = is_number 4294967295 op && is_number 18446744073709551615 arg
is_plain (Flags flags) = true
is_plain (Code error) = is_number 4294967295 error
is_plain (Outcome outcome) = is_number 18446744073709551615 outcome

abbrev pub all_plain : List Operand → Bool
all_plain [] = true
all_plain (o ∷ operands) = is_plain o && all_plain operands

-- the ask that a step makes each time, if all its numbers are plain, and its answer is put nowhere
abbrev pub plain_ask : Step → Option Ask
plain_ask (Make wish Nowhere) = if all_plain wish.operands then Some (wished wish (replicate 8 0)) else None
plain_ask _ = None

-- the same step, without expressions if it has none
abbrev pub plainly : Step → Step
plainly step = unwrap_or (option_map Fixed (plain_ask step)) step

-- a step by itself is right, or word 0 tells what is wrong with it
abbrev pub flawless_at : List Word → Option Flaw → Step → Result Step Wrong
flawless_at ws None step = Ok step
flawless_at ws (Some flaw) step = Err (wrong_at ws 0 (whats.Flawed flaw))

abbrev pub flawless : List Word → Step → Result Step Wrong
flawless ws step = flawless_at ws (flaw_of 0 step) step

-- the ask whose word is word i, and what its answer is put into
abbrev pub asked : Names → List (List ℕ) → List Word → ℕ → Places → Result Step Wrong
asked names vars ws i places = wish_at names vars ws i >>= λ wish. flawless ws (Make wish places) >>= λ step. Ok (plainly step)

-- word i, a variable of the thread
abbrev pub variable_at : List (List ℕ) → List Word → ℕ → Result ℕ Wrong
variable_at vars ws i = part_at ws i whats.Variable (option_and_then (within 0 7) (position vars (text_at ws i)))

-- `x = EXPR`
abbrev pub set_to : List (List ℕ) → List Word → ℕ → Result Step Wrong
set_to vars ws v = expr_at vars ws 5 2 >>= λ f. ends_at ws f.end >> flawless ws (Set v f.expr)

-- `x = refused`, `x = ASK`, `x = EXPR`
abbrev pub assigned : Names → List (List ℕ) → List Word → ℕ → Result Step Wrong
assigned names vars ws v =
    if is_at ws 2 (codes "refused") && length ws == 3 then Ok (Fault v) else (
    if is_some (verb_written (text_at ws 2)) then asked names vars ws 2 (One v) else set_to vars ws v)

-- `x, y = ASK`
abbrev pub two_assigned : Names → List (List ℕ) → List Word → Result Step Wrong
two_assigned names vars ws = variable_at vars ws 0 >>= λ u. variable_at vars ws 1 >>= λ v. asked names vars ws 3 (Two u v)

-- `x, y, z = ASK`
abbrev pub three_assigned : Names → List (List ℕ) → List Word → Result Step Wrong
three_assigned names vars ws = variable_at vars ws 0 >>= λ u. variable_at vars ws 1 >>= λ v. variable_at vars ws 2 >>= λ w. asked names vars ws 4 (Three u v w)

-- what a sentence asks, or assigns: `x = ..`, `x, y = ASK`, `x, y, z = ASK`, or an ask alone; only where there are variables, numbers may be
-- expressions
abbrev pub leaf_at : Names → List (List ℕ) → List Word → Result Step Wrong
leaf_at names vars ws =
    if is_at ws 1 (codes "=") then (variable_at vars ws 0 >>= λ u. assigned names vars ws u) else (
    if is_at ws 2 (codes "=") then two_assigned names vars ws else (
    if is_at ws 3 (codes "=") then three_assigned names vars ws else (
    if length vars == 0 then (step_ask names ws >>= λ ask. Ok (Fixed ask)) else asked names vars ws 0 Nowhere)))
