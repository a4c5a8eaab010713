-- A turn of a processor leaves the others as they are, and of their mail all but its own lane.
use Rattle.std.proofs.Common.{◌≡◌, ℕ, ◌+◌, List, [], ◌∷◌, length, take, ◌∙◌, refl, Option, Some, None, Bool, true, false}
use Rattle.std.specs.Prelude.{slice_get, if◌then◌else◌, is_some, not, ◌==◌}
use Rattle.std.specs.Option.{option_map_or}
use Rattle.lwkt_base.specs.declared.names.CpuId.{CpuId}
use Rattle.lwkt_base.specs.declared.names.MsgId.{MsgId}
use Rattle.lwkt_base.specs.declared.asks.Answer.{Answer}
use Rattle.lwkt_base.specs.declared.asks.Ask.{Ask}
use Rattle.lwkt_base.specs.declared.asks.Ask.TheVariants.{Get, GetShared, TryGet, Rel, Swap, Read, Write, Add, ReadBlob, WriteBlob, Send, Do, Reply, Abort, IsAborted, DropMsg, GetPort, WaitPort, Yield, Exit, Fail}
use Rattle.lwkt_base.specs.declared.limits.TheConstants.{LAST_ROUND}
use Rattle.lwkt_code.specs.Programs.{Program}
use Rattle.lwkt_core.specs.declared.tokens.Token.{Token}
use Rattle.lwkt_script.specs.declared.scripts.Script.{Script}
use Rattle.lwkt_script.specs.declared.scripts.ThreadSpec.{ThreadSpec}
use Rattle.lwkt_plain.specs.declared.letters.Letter.{Letter}
use Rattle.lwkt_plain.specs.declared.mailing.Sending.{Sending}
use Rattle.lwkt_plain.specs.declared.nexts.Miss.{Miss}
use Rattle.lwkt_plain.specs.declared.nexts.Miss.TheVariants.{Busy, Worn}
use Rattle.lwkt_plain.specs.declared.nexts.Missed.{Missed}
use Rattle.lwkt_plain.specs.declared.nexts.Next.{Next}
use Rattle.lwkt_plain.specs.declared.nexts.Next.TheVariants.{Runs, Leaves}
use Rattle.lwkt_plain.specs.declared.states.Phase.{Phase}
use Rattle.lwkt_plain.specs.declared.states.Phase.TheVariants.{Faulted}
use Rattle.lwkt_plain.specs.declared.states.Plain.{Plain}
use Rattle.lwkt_plain.specs.declared.states.Processor.{Processor}
use Rattle.lwkt_plain.specs.declared.states.Thread.{Thread}
use Rattle.lwkt_base.specs.declared.faults.Fault.TheVariants.{Worn as WornOut, Broken}
use Rattle.lwkt_plain.specs.Letters.{left_by, sent, request_note}
use Rattle.lwkt_plain.specs.Mailing.{Mailed, refused, send_refusal, goes_out, sends_over, sends, send, do_msg, replies_over, shown_letter, reply, abort_refusal, abort, is_aborted, drop_refusal, drop_msg, get_port, wait_port, plain_flags}
use Rattle.lwkt_plain.specs.Places.{cpu_at, thread_at, lane_at, has_room, moved, pushed, with_cpu, with_letter, with_thread, with_tokens}
use Rattle.lwkt_plain.specs.Intakes.{below, has_ended, takes_mail}
use Rattle.lwkt_plain.specs.Tokens.{gives, resume}
use Rattle.lwkt_plain.specs.TokenAsks.{Asked}
use Rattle.lwkt_plain.specs.Turns.{list_at, ended_by, leaves, ends, Found, found, missed_by, after_try, may_try, tries, finds, round_from, runs_at, chooses, spec_at, next_of, polled, Performed, performed, of_tokens, of_mail, token_ask, mail_ask, phase_for, performs, becomes, gives_up, breaks, goes_on, makes, polls_thread, polls_at, turn}
use Rattle.lwkt_plain.proofs.Folds.{fold_keeps}
use Rattle.lwkt_plain.proofs.OtherMail.{other, other_cpu, other_thread, other_out, other_if, other_or, replies_other, looks_other, takes_mail_other}

-- a thread that ends
leaves_other : (c k j : ℕ) (p : Plain) → other c j (leaves c k p) ≡ other c j p
unfolding leaves
leaves_other c k j p = fold_keeps (other c j) (λ now m. with_letter (left_by c k) m now) (λ now m. refl) p (below (length p.letters))

ends_other : (c k j : ℕ) (phase : Phase) (p : Plain) → (j ≡ c → ⊥) → other c j (ends c k phase p) ≡ other c j p
ends_other c k j phase p apart = other_thread (ended_by phase) c j k (leaves c k p) apart ∙ leaves_other c k j p

-- a thread that is tried
missed_other : (c k j : ℕ) (p : Plain) (at : ℕ) (why : Miss) → (j ≡ c → ⊥) → other c j (missed_by c k p at why) ≡ other c j p
missed_other c k j p at (Busy word) apart = other_thread (λ (t : Thread). record t { busy = Some (record { word = word; at = at }) }) c j k p apart
missed_other c k j p at Worn apart = ends_other c k j (Faulted WornOut) p apart

tried_other : (c k j : ℕ) (p : Plain) (tokens : List Token) (o : Option Missed) → (j ≡ c → ⊥)
    → other c j (option_map_or (λ (m : Missed). found (missed_by c k (with_tokens tokens p) m.at m.why) None) o (found (with_tokens tokens p) (Some k))).plain ≡ other c j p
tried_other c k j p tokens None apart = refl
tried_other c k j p tokens (Some m) apart = missed_other c k j (with_tokens tokens p) m.at m.why apart

tries_if : (b : Bool) (c k j : ℕ) (p : Plain) → (j ≡ c → ⊥) → other c j (if b then after_try c k p (resume (record { 0 = c }) p.tokens (list_at p c k)) else found p None).plain ≡ other c j p
tries_if true c k j p apart = let tried = resume (record { 0 = c }) p.tokens (list_at p c k) in tried_other c k j p tried.tokens tried.missed apart
tries_if false c k j p apart = refl

tries_other : (c k j : ℕ) (p : Plain) → (j ≡ c → ⊥) → other c j (tries c k p).plain ≡ other c j p
tries_other c k j p apart = tries_if (may_try p c k) c k j p apart

-- the thread that is found
found_if : (b : Bool) (c j : ℕ) (x y : Found) (p : Plain) → other c j x.plain ≡ other c j p → other c j y.plain ≡ other c j p → other c j (if b then x else y).plain ≡ other c j p
found_if true c j x y p one two = one
found_if false c j x y p one two = two

finds_other : (c j : ℕ) (ks : List ℕ) → (j ≡ c → ⊥) → (p : Plain) → other c j (finds c p ks).plain ≡ other c j p
unfolding finds
finds_other c j [] apart p = refl
finds_other c j (k ∷ ks) apart p =
    let x = tries c k p in
    found_if (is_some x.place) c j x (finds c x.plain ks) p (tries_other c k j p apart) (finds_other c j ks apart x.plain ∙ tries_other c k j p apart)

runs_by : (c j : ℕ) (x : Found) (o : Option ℕ) → (j ≡ c → ⊥)
    → other c j (option_map_or (λ k. found (with_cpu (λ (cpu : Processor). record cpu { running = Some k; cursor = k + 1 }) c x.plain) (Some k)) o x).plain ≡ other c j x.plain
runs_by c j x None apart = refl
runs_by c j x (Some k) apart = other_cpu (λ (cpu : Processor). record cpu { running = Some k; cursor = k + 1 }) c j x.plain apart

chosen_by : (c j : ℕ) (p : Plain) (x : Found) (o : Option ℕ) → other c j x.plain ≡ other c j p → other c j (option_map_or (λ k. found p (Some k)) o x).plain ≡ other c j p
chosen_by c j p x None same = same
chosen_by c j p x (Some k) same = refl

chooses_other : (c j : ℕ) (p : Plain) → (j ≡ c → ⊥) → other c j (chooses c p).plain ≡ other c j p
chooses_other c j p apart =
    let cpu = cpu_at p c in
    let x = finds c p (round_from cpu.cursor (length cpu.threads)) in
    chosen_by c j p (runs_at c x) cpu.running (runs_by c j x x.place apart ∙ finds_other c j (round_from cpu.cursor (length cpu.threads)) apart p)

-- an ask about messages
mailed_if : (b : Bool) (c j : ℕ) (x y : Mailed) (p : Plain) → other c j x.plain ≡ other c j p → other c j y.plain ≡ other c j p → other c j (if b then x else y).plain ≡ other c j p
mailed_if true c j x y p one two = one
mailed_if false c j x y p one two = two

mailed_or : {A : Type 0} (f : A → Mailed) (o : Option A) (d : Mailed) (c j : ℕ) (p : Plain) → ((a : A) → other c j (f a).plain ≡ other c j p) → other c j d.plain ≡ other c j p → other c j (option_map_or f o d).plain ≡ other c j p
mailed_or f None d c j p some none = none
mailed_or f (Some a) d c j p some none = some a

out_other : (c j : ℕ) (p : Plain) (s : Sending) (l : Letter) → other c j (goes_out c p s l) ≡ other c j p
out_other c j p s l =
    let away = sent s.to.cpu s.call s.flags s.sync l in
    other_out (λ lane. pushed (request_note s.msg s.to.thread away) (moved lane)) c s.to.cpu.0 j (with_letter (λ old. away) s.msg.0 p)

over_other : (c j : ℕ) (p : Plain) (s : Sending) (next : Next) (l : Letter) → other c j (sends_over c p s next l).plain ≡ other c j p
over_other c j p s next l =
    mailed_if (not (has_room (lane_at p c s.to.cpu.0))) c j _ _ p refl
    (mailed_if (l.word.round == LAST_ROUND) c j _ _ p (other_out moved c s.to.cpu.0 j p) (out_other c j p s l))

sends_other : (c k j : ℕ) (p : Plain) (s : Sending) (next : Next) → other c j (sends c k p s next).plain ≡ other c j p
sends_other c k j p s next =
    mailed_or (refused p) (send_refusal c k p s) _ c j p (λ fault. refl)
    (mailed_or (sends_over c p s next) (slice_get p.letters s.msg.0) _ c j p (over_other c j p s next) refl)

reply_other : (c k j : ℕ) (p : Plain) (msg : MsgId) (error outcome : ℕ) → other c j (reply c k p msg error outcome).plain ≡ other c j p
reply_other c k j p msg error outcome =
    mailed_or (replies_over c p msg error outcome) (shown_letter c k p msg) _ c j p
    (λ l. mailed_if (has_room (lane_at p c l.origin.cpu.0)) c j _ _ p (replies_other c j msg error outcome l p) refl) refl

abort_other : (c k j : ℕ) (p : Plain) (msg : MsgId) → other c j (abort c k p msg).plain ≡ other c j p
abort_other c k j p msg =
    mailed_or _ (slice_get p.letters msg.0) _ c j p (λ l. mailed_or (refused p) (abort_refusal c k l) _ c j p (λ fault. refl) refl) refl

asked_other : (c k j : ℕ) (p : Plain) (msg : MsgId) → other c j (is_aborted c k p msg).plain ≡ other c j p
asked_other c k j p msg = mailed_or _ (shown_letter c k p msg) _ c j p (λ l. refl) refl

drop_other : (c k j : ℕ) (p : Plain) (msg : MsgId) → other c j (drop_msg c k p msg).plain ≡ other c j p
drop_other c k j p msg =
    mailed_or _ (slice_get p.letters msg.0) _ c j p (λ l. mailed_or (refused p) (drop_refusal c k l) _ c j p (λ fault. refl) refl) refl

-- an ask
abbrev Leaving : ℕ → ℕ → Plain → Option Mailed → Type 0
Leaving c j p o = (d : Performed) → other c j d.plain ≡ other c j p → other c j (option_map_or of_mail o d).plain ≡ other c j p

said : (c j : ℕ) (p : Plain) (m : Mailed) → other c j m.plain ≡ other c j p → Leaving c j p (Some m)
said c j p m same d none = same

unsaid : (c j : ℕ) (p : Plain) → Leaving c j p None
unsaid c j p d none = none

mail_other : (c k j : ℕ) (p : Plain) (count : ℕ) (ask : Ask) → (j ≡ c → ⊥) → Leaving c j p (mail_ask c k p count ask)
mail_other c k j p count (Get tok) apart = unsaid c j p
mail_other c k j p count (GetShared tok) apart = unsaid c j p
mail_other c k j p count (TryGet tok) apart = unsaid c j p
mail_other c k j p count (Rel tok) apart = unsaid c j p
mail_other c k j p count Swap apart = unsaid c j p
mail_other c k j p count (Read tok cell) apart = unsaid c j p
mail_other c k j p count (Write tok cell value) apart = unsaid c j p
mail_other c k j p count (Add tok more) apart = unsaid c j p
mail_other c k j p count (ReadBlob tok) apart = unsaid c j p
mail_other c k j p count (WriteBlob tok bytes) apart = unsaid c j p
mail_other c k j p count (Send msg to call flags) apart = said c j p (send c k p msg to call flags) (sends_other c k j p (record { msg = msg; to = to; call = call; flags = flags; sync = false }) (Runs Answer.Done))
mail_other c k j p count (Do msg to call) apart = said c j p (do_msg c k p count msg to call) (sends_other c k j p (record { msg = msg; to = to; call = call; flags = plain_flags; sync = true }) (Leaves count (Phase.AwaitsReply msg)))
mail_other c k j p count (Reply msg error outcome) apart = said c j p (reply c k p msg error outcome) (reply_other c k j p msg error outcome)
mail_other c k j p count (Abort msg) apart = said c j p (abort c k p msg) (abort_other c k j p msg)
mail_other c k j p count (IsAborted msg) apart = said c j p (is_aborted c k p msg) (asked_other c k j p msg)
mail_other c k j p count (DropMsg msg) apart = said c j p (drop_msg c k p msg) (drop_other c k j p msg)
mail_other c k j p count GetPort apart = said c j p (get_port c k p) (looks_other c k j p apart)
mail_other c k j p count WaitPort apart = said c j p (wait_port c k p count) (looks_other c k j p apart)
mail_other c k j p count Yield apart = unsaid c j p
mail_other c k j p count Exit apart = unsaid c j p
mail_other c k j p count (Fail number) apart = unsaid c j p

performed_by : (cpu : CpuId) (k j : ℕ) (p : Plain) (o : Option Asked) (d : Performed) → (j ≡ cpu.0 → ⊥) → other cpu.0 j d.plain ≡ other cpu.0 j p → other cpu.0 j (option_map_or (of_tokens cpu k p) o d).plain ≡ other cpu.0 j p
performed_by cpu k j p None d apart same = same
performed_by cpu k j p (Some a) d apart same = other_thread (λ (t : Thread). record t { list = a.refs }) cpu.0 j k (with_tokens a.tokens p) apart

performs_other : (cpu : CpuId) (k j : ℕ) (p : Plain) (ask : Ask) → (j ≡ cpu.0 → ⊥) → other cpu.0 j (performs cpu k p ask).plain ≡ other cpu.0 j p
performs_other cpu k j p ask apart =
    let count = length (list_at p cpu.0 k) in
    performed_by cpu k j p (token_ask cpu p.tokens (list_at p cpu.0 k) ask) _ apart
    (mail_other cpu.0 k j p count ask apart (performed p (Leaves count (phase_for ask))) refl)

-- what comes next
becomes_other : (c k j : ℕ) (phase : Phase) (p : Plain) → (j ≡ c → ⊥) → other c j (becomes c k phase p) ≡ other c j p
becomes_other c k j phase p apart =
    other_if (has_ended phase) c j (ends c k phase p) _ p (ends_other c k j phase p apart)
    (other_thread (λ (t : Thread). record t { phase = phase; last = Answer.Done }) c j k p apart)

gives_up_other : (cpu : CpuId) (k j held : ℕ) (p : Plain) → (j ≡ cpu.0 → ⊥) → other cpu.0 j (gives_up cpu k held p) ≡ other cpu.0 j p
gives_up_other cpu k j held p apart =
    other_cpu (λ (own : Processor). record own { running = None }) cpu.0 j (with_tokens (gives cpu p.tokens (take held (list_at p cpu.0 k))).tokens p) apart

goes_on_other : (cpu : CpuId) (k j : ℕ) (p : Plain) (next : Next) → (j ≡ cpu.0 → ⊥) → other cpu.0 j (goes_on cpu k p next) ≡ other cpu.0 j p
goes_on_other cpu k j p (Runs answer) apart = other_thread (λ (t : Thread). record t { last = answer }) cpu.0 j k p apart
goes_on_other cpu k j p (Leaves held phase) apart =
    becomes_other cpu.0 k j (if breaks cpu k held p then Faulted Broken else phase) (gives_up cpu k held p) apart ∙ gives_up_other cpu k j held p apart

makes_other : (cpu : CpuId) (k j : ℕ) (p : Plain) (ask : Ask) → (j ≡ cpu.0 → ⊥) → other cpu.0 j (makes cpu k p ask) ≡ other cpu.0 j p
makes_other cpu k j p ask apart = goes_on_other cpu k j (performs cpu k p ask).plain (performs cpu k p ask).next apart ∙ performs_other cpu k j p ask apart

polls_other : (script : Script) (c j : ℕ) (p : Plain) (k : ℕ) → (j ≡ c → ⊥) → other c j (polls_at script c p k) ≡ other c j p
polls_other script c j p k apart = by_spec (spec_at script c k)
  where
    by_thread : (program : Program) (o : Option Thread) → other c j (option_map_or (polls_thread (record { 0 = c }) k p program) o p) ≡ other c j p
    by_thread program None = refl
    by_thread program (Some t) = makes_other (record { 0 = c }) k j (with_thread (polled program) c k p) (next_of program t).0 apart ∙ other_thread (polled program) c j k p apart

    by_spec : (o : Option ThreadSpec) → other c j (option_map_or (λ (spec : ThreadSpec). option_map_or (polls_thread (record { 0 = c }) k p spec.code) (thread_at p c k) p) o p) ≡ other c j p
    by_spec None = refl
    by_spec (Some spec) = by_thread spec.code (thread_at p c k)

-- all of it
pub turn_other : (script : Script) (p : Plain) (c j : ℕ) → (j ≡ c → ⊥) → other c j (turn script p c) ≡ other c j p
turn_other script p c j apart =
    let x = chooses c (takes_mail c p) in
    other_or (polls_at script c x.plain) x.place x.plain c j p
    (λ k. polls_other script c j x.plain k apart ∙ (chooses_other c j (takes_mail c p) apart ∙ takes_mail_other c j p apart))
    (chooses_other c j (takes_mail c p) apart ∙ takes_mail_other c j p apart)
