-- A turn of a processor: what a script means (token(9), msgport(9); the search for a thread and its order own).
use Rattle.std.specs.Prelude.{◌≡◌, ◌≤◌, ℕ, ◌+◌, ◌-◌, ◌==◌, not, ◌&&◌, nat_lt, Bool, true, false, if◌then◌else◌, List, [], ◌∷◌, ◌++◌, length, take, fold, filter, Option, Some, None, option_and_then, is_some, slice_get}
use Rattle.std.specs.List.{range_with_len}
use Rattle.std.specs.Option.{option_map_or}
use Rattle.lwkt_base.specs.declared.names.CpuId.{CpuId}
use Rattle.lwkt_base.specs.declared.names.TokId.{TokId}
use Rattle.lwkt_base.specs.declared.names.Mode.{Mode}
use Rattle.lwkt_base.specs.declared.names.Mode.TheVariants.{Exclusive, Shared}
use Rattle.lwkt_base.specs.declared.names.Ref.{Ref}
use Rattle.lwkt_base.specs.declared.asks.Ask.{Ask}
use Rattle.lwkt_base.specs.declared.asks.Ask.TheVariants.{Get, GetShared, TryGet, Rel, Swap, Read, Write, Add, ReadBlob, WriteBlob, Send, Do, Reply, Abort, IsAborted, DropMsg, GetPort, WaitPort, Yield, Exit, Fail}
use Rattle.lwkt_base.specs.declared.asks.Answer.{Answer}
use Rattle.lwkt_base.specs.declared.asks.Answer.TheVariants.{Done}
use Rattle.lwkt_base.specs.declared.entries.Entry.{Entry}
use Rattle.lwkt_base.specs.declared.faults.Fault.{Fault}
use Rattle.lwkt_base.specs.declared.faults.Fault.TheVariants.{Broken, Worn as WornOut, Assertion}
use Rattle.lwkt_base.specs.declared.limits.TheConstants.{LOG_LIMIT}
use Rattle.lwkt_base.specs.TokenWord.{word_of}
use Rattle.lwkt_code.specs.declared.locals.Local.{Local}
use Rattle.lwkt_code.specs.Answers.{last_step, logs}
use Rattle.lwkt_code.specs.Next.{next}
use Rattle.lwkt_code.specs.Programs.{Program}
use Rattle.lwkt_core.specs.declared.tokens.Token.{Token}
use Rattle.lwkt_core.specs.Picture.{picture_of}
use Rattle.lwkt_script.specs.declared.scripts.Script.{Script}
use Rattle.lwkt_script.specs.declared.scripts.ThreadSpec.{ThreadSpec}
use Rattle.lwkt_script.specs.Logs.{entry_of, failure_of}
use Rattle.lwkt_plain.specs.declared.nexts.Miss.{Miss}
use Rattle.lwkt_plain.specs.declared.nexts.Miss.TheVariants.{Busy, Worn}
use Rattle.lwkt_plain.specs.declared.nexts.Missed.{Missed}
use Rattle.lwkt_plain.specs.declared.nexts.Next.{Next}
use Rattle.lwkt_plain.specs.declared.nexts.Next.TheVariants.{Runs, Leaves}
use Rattle.lwkt_plain.specs.declared.states.BusyAt.{BusyAt}
use Rattle.lwkt_plain.specs.declared.states.Phase.{Phase}
use Rattle.lwkt_plain.specs.declared.states.Phase.TheVariants.{Live, AwaitsItem, AwaitsReply, Exited, Faulted}
use Rattle.lwkt_plain.specs.declared.states.Plain.{Plain}
use Rattle.lwkt_plain.specs.declared.states.Processor.{Processor}
use Rattle.lwkt_plain.specs.declared.states.Thread.{Thread}
use Rattle.lwkt_plain.specs.Sound.{AreHeld}
use Rattle.lwkt_plain.specs.Tokens.{Tried, gives, resume}
use Rattle.lwkt_plain.specs.TokenAsks.{Asked, get, try_get, rel, swapped, read, write, add, read_blob, write_blob}
use Rattle.lwkt_plain.specs.Letters.{left_by}
use Rattle.lwkt_plain.specs.Mailing.{Mailed, send, do_msg, reply, abort, is_aborted, drop_msg, get_port, wait_port}
use Rattle.lwkt_plain.specs.Places.{cpu_at, thread_at, with_cpu, with_thread, with_letter, with_tokens}
use Rattle.lwkt_plain.specs.Intakes.{below, has_ended, takes_mail}

-- the list of the thread of a number
abbrev pub list_at : Plain → ℕ → ℕ → List Ref
list_at p c k = option_map_or (λ (t : Thread). t.list) (thread_at p c k) []

-- a thread ends: it has no list any more, and what it was shown is owed a reply
abbrev pub ended_by : Phase → Thread → Thread
ended_by phase t = record t { phase = phase; list = []; last = Done; busy = None }

unfoldable pub leaves : ℕ → ℕ → Plain → Plain
leaves c k p = fold (λ now m. with_letter (left_by c k) m now) p (below (length p.letters))

abbrev pub ends : ℕ → ℕ → Phase → Plain → Plain
ends c k phase p = with_thread (ended_by phase) c k (leaves c k p)

-- whether the word that refused a thread's list last is still its token's: then a try would be refused again, and isn't made (own)
abbrev pub is_still : List Token → List Ref → BusyAt → Bool
is_still tokens refs b = option_map_or (λ r. option_map_or (λ tok. word_of (picture_of tok) == b.word) (slice_get tokens r.tok.0) false) (slice_get refs b.at) false

abbrev pub is_still_busy : List Token → Thread → Bool
is_still_busy tokens t = option_map_or (is_still tokens t.list) t.busy false

-- a state after threads were tried, and the first whose list is held now
pub record Found : Type 0 where
  pub plain : Plain
  pub place : Option ℕ

abbrev pub found : Plain → Option ℕ → Found
found plain place = record { plain = plain; place = place }

-- what a try of a thread's list leaves: it is held; or the word that refused it is kept; or the thread ends, since a token is at its last
-- generation (token(9); own)
abbrev pub missed_by : ℕ → ℕ → Plain → ℕ → Miss → Plain
missed_by c k p at (Busy word) = with_thread (λ (t : Thread). record t { busy = Some (record { word = word; at = at }) }) c k p
missed_by c k p at Worn = ends c k (Faulted WornOut) p

abbrev pub after_try : ℕ → ℕ → Plain → Tried → Found
after_try c k p tried = option_map_or (λ (m : Missed). found (missed_by c k (with_tokens tried.tokens p) m.at m.why) None) tried.missed (found (with_tokens tried.tokens p) (Some k))

-- whether the list of a thread is tried
abbrev pub may_try_in : Phase → List Token → Thread → Bool
may_try_in Live tokens t = not (is_still_busy tokens t)
may_try_in _ tokens t = false

abbrev pub may_try : Plain → ℕ → ℕ → Bool
may_try p c k = option_map_or (λ t. may_try_in t.phase p.tokens t) (thread_at p c k) false

-- a thread is tried, if it is ready and isn't refused still
abbrev pub tries : ℕ → ℕ → Plain → Found
tries c k p = if may_try p c k then after_try c k p (resume (record { 0 = c }) p.tokens (list_at p c k)) else found p None

-- the threads of these numbers are tried, up to the first whose list is held
unfoldable pub finds : ℕ → Plain → List ℕ → Found
finds c p [] = found p None
finds c p (k ∷ ks) =
    let x = tries c k p in
    if is_some x.place then x else finds c x.plain ks

-- the numbers of so many threads from the cursor on, round once
abbrev pub round_from : ℕ → ℕ → List ℕ
round_from cursor count = range_with_len cursor (count - cursor) ++ range_with_len 0 cursor

-- the thread that is found runs, and the next search begins behind it
abbrev pub runs_at : ℕ → Found → Found
runs_at c x = option_map_or (λ k. found (with_cpu (λ (cpu : Processor). record cpu { running = Some k; cursor = k + 1 }) c x.plain) (Some k)) x.place x

-- the thread of a turn: the one that runs, or the one that a search finds
abbrev pub chooses : ℕ → Plain → Found
chooses c p =
    let cpu = cpu_at p c in
    option_map_or (λ k. found p (Some k)) cpu.running (runs_at c (finds c p (round_from cpu.cursor (length cpu.threads))))

-- the script of a thread
abbrev pub spec_at : Script → ℕ → ℕ → Option ThreadSpec
spec_at script c k = slice_get (filter (λ t. t.cpu.0 == c) script.threads) k

-- a log keeps its first 32 entries
abbrev pub logged : List Entry → Option Entry → List Entry
logged log None = log
logged log (Some e) = if nat_lt (length log) LOG_LIMIT then log ++ e ∷ [] else log

-- what a thread's last answer puts in its log: nothing before it has asked, and nothing where the answer goes into variables
abbrev pub entry_heard : Program → Thread → Option Entry
entry_heard program t = option_and_then (λ ask. if logs (last_step program.steps t.local) t.last then entry_of ask t.last else None) t.asked

-- what it asks next, and where it stands then
abbrev pub next_of : Program → Thread → Ask × Local
next_of program t = next program.steps t.local t.last

-- a thread that has heard its last answer, and one that has asked what is next; an assertion that doesn't hold is logged too (own)
abbrev pub heard : Program → Thread → Thread
heard program t = record t { log = logged t.log (entry_heard program t) }

abbrev pub asks : Program → Thread → Thread
asks program t = record t { busy = None; local = (next_of program t).1; asked = Some (next_of program t).0; log = logged t.log (failure_of (next_of program t).0) }

-- a thread is polled
abbrev pub polled : Program → Thread → Thread
polled program t = asks program (heard program t)

-- the state after an ask was performed, and what comes next
pub record Performed : Type 0 where
  pub plain : Plain
  pub next : Next

abbrev pub performed : Plain → Next → Performed
performed plain next = record { plain = plain; next = next }

abbrev pub with_list : List Ref → ℕ → ℕ → Plain → Plain
with_list refs c k p = with_thread (λ (t : Thread). record t { list = refs }) c k p

abbrev pub of_tokens : CpuId → ℕ → Plain → Asked → Performed
of_tokens cpu k p a = performed (with_list a.refs cpu.0 k (with_tokens a.tokens p)) a.next

abbrev pub of_mail : Mailed → Performed
of_mail m = performed m.plain m.next

abbrev pub ref_to : TokId → Mode → Ref
ref_to tok mode = record { tok = tok; mode = mode }

-- an ask about tokens
abbrev pub token_ask : CpuId → List Token → List Ref → Ask → Option Asked
token_ask cpu tokens refs (Get tok) = Some (get cpu tokens refs (ref_to tok Exclusive))
token_ask cpu tokens refs (GetShared tok) = Some (get cpu tokens refs (ref_to tok Shared))
token_ask cpu tokens refs (TryGet tok) = Some (try_get cpu tokens refs (ref_to tok Exclusive))
token_ask cpu tokens refs (Rel tok) = Some (rel cpu tokens refs tok)
token_ask cpu tokens refs Swap = Some (swapped tokens refs)
token_ask cpu tokens refs (Read tok cell) = Some (read tokens refs tok cell)
token_ask cpu tokens refs (Write tok cell value) = Some (write cpu tokens refs tok cell value)
token_ask cpu tokens refs (Add tok more) = Some (add cpu tokens refs tok more)
token_ask cpu tokens refs (ReadBlob tok) = Some (read_blob tokens refs tok)
token_ask cpu tokens refs (WriteBlob tok bytes) = Some (write_blob cpu tokens refs tok bytes)
token_ask cpu tokens refs _ = None

-- an ask about messages
abbrev pub mail_ask : ℕ → ℕ → Plain → ℕ → Ask → Option Mailed
mail_ask c k p count (Send msg to call flags) = Some (send c k p msg to call flags)
mail_ask c k p count (Do msg to call) = Some (do_msg c k p count msg to call)
mail_ask c k p count (Reply msg error outcome) = Some (reply c k p msg error outcome)
mail_ask c k p count (Abort msg) = Some (abort c k p msg)
mail_ask c k p count (IsAborted msg) = Some (is_aborted c k p msg)
mail_ask c k p count (DropMsg msg) = Some (drop_msg c k p msg)
mail_ask c k p count GetPort = Some (get_port c k p)
mail_ask c k p count WaitPort = Some (wait_port c k p count)
mail_ask c k p count _ = None

-- the phase after an ask that gives everything up
abbrev pub phase_for : Ask → Phase
phase_for Yield = Live
phase_for (Fail number) = Faulted Assertion
phase_for _ = Exited

-- an ask of the thread of a number is performed
abbrev pub performs : CpuId → ℕ → Plain → Ask → Performed
performs cpu k p ask =
    option_map_or (of_tokens cpu k p) (token_ask cpu p.tokens (list_at p cpu.0 k) ask)
    (option_map_or of_mail (mail_ask cpu.0 k p (length (list_at p cpu.0 k)) ask) (performed p (Leaves (length (list_at p cpu.0 k)) (phase_for ask))))

-- no thread of a processor runs
abbrev pub rests : ℕ → Plain → Plain
rests c p = with_cpu (λ (cpu : Processor). record cpu { running = None }) c p

-- a thread is in a phase; one that has ended has no list
abbrev pub becomes : ℕ → ℕ → Phase → Plain → Plain
becomes c k phase p =
    if has_ended phase then ends c k phase p
    else with_thread (λ (t : Thread). record t { phase = phase; last = Done }) c k p

-- references of a thread's list are given up, and no thread runs
abbrev pub gives_up : CpuId → ℕ → ℕ → Plain → Plain
gives_up cpu k held p = rests cpu.0 (with_tokens (gives cpu p.tokens (take held (list_at p cpu.0 k))).tokens p)

-- whether a section among these had broken its law
abbrev pub breaks : CpuId → ℕ → ℕ → Plain → Bool
breaks cpu k held p = (gives cpu p.tokens (take held (list_at p cpu.0 k))).broken

-- what comes next: the thread goes on; or it gives up what it holds, and if a section had broken its law, it ends (token(9); own)
abbrev pub goes_on : CpuId → ℕ → Plain → Next → Plain
goes_on cpu k p (Runs answer) = with_thread (λ (t : Thread). record t { last = answer }) cpu.0 k p
goes_on cpu k p (Leaves held phase) = becomes cpu.0 k (if breaks cpu k held p then Faulted Broken else phase) (gives_up cpu k held p)

-- an ask is performed, and what comes next comes
abbrev pub makes : CpuId → ℕ → Plain → Ask → Plain
makes cpu k p ask = goes_on cpu k (performs cpu k p ask).plain (performs cpu k p ask).next

-- a thread is polled once, and its ask is performed
abbrev pub polls_thread : CpuId → ℕ → Plain → Program → Thread → Plain
polls_thread cpu k p program t = makes cpu k (with_thread (polled program) cpu.0 k p) (next_of program t).0

abbrev pub polls_at : Script → ℕ → Plain → ℕ → Plain
polls_at script c p k = option_map_or (λ (spec : ThreadSpec). option_map_or (polls_thread (record { 0 = c }) k p spec.code) (thread_at p c k) p) (spec_at script c k) p

-- a turn of a processor: mail comes in, a thread is chosen, and it is polled once
abbrev pub turn : Script → Plain → ℕ → Plain
turn script p c =
    let x = chooses c (takes_mail c p) in
    option_map_or (polls_at script c x.plain) x.place x.plain

-- no thread of a processor runs; and this one does
abbrev pub IsIdle : Plain → ℕ → Type 0
IsIdle p c = (cpu_at p c).running ≡ None

abbrev pub IsRunning : Plain → ℕ → ℕ → Type 0
IsRunning p c k = (cpu_at p c).running ≡ Some k

-- the references of a list that are held before what comes next comes: all, or those that are given up
abbrev pub still_held : Next → List Ref → List Ref
still_held (Runs answer) refs = refs
still_held (Leaves held phase) refs = take held refs

abbrev pub GivesWithin : Next → ℕ → Type 0
GivesWithin (Runs answer) count = Unit {0}
GivesWithin (Leaves held phase) count = held ≤ count

-- what a thread gives up is what its processor holds
pub record MayGoOn (p : Plain) (c k : ℕ) (next : Next) : Type 0 where
  pub held : AreHeld c (still_held next (list_at p c k)) p.tokens
  pub within : GivesWithin next (length (list_at p c k))

-- the turns of an order
abbrev pub run : Script → Plain → List ℕ → Plain
run script p [] = p
run script p (c ∷ order) = run script (turn script p c) order
