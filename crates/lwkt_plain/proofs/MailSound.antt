-- What asks about messages leave of a sound state.
use Rattle.std.proofs.Common.{◌≡◌, ◌≢◌, ◌<◌, ◌≤◌, ◌+◌, ◌-◌, ℕ, zero, suc, List, [], ◌∷◌, ◌++◌, length, get_or, set, map, take, refl, ap, sym, ◌∙◌, subst, arith, Option, Some, None, Bool, true, false, length-set}
use Rattle.std.specs.Prelude.{slice_get, slice_set, All, IfSome, if◌then◌else◌, ◌==◌, not}
use Rattle.std.specs.Option.{option_map_or}
use Rattle.std.proofs.lemmas.Bool.{eqb-false}
use Rattle.std.proofs.lemmas.List.{length-map, map-set, take_all}
use Rattle.std.proofs.lemmas.List.Elements.{All-set}
use Rattle.std.proofs.lemmas.Option.{slice_get-get_or, get_or_from_slice_get, none-some}
use Rattle.lwkt_base.specs.declared.names.MsgId.{MsgId}
use Rattle.lwkt_base.specs.declared.names.Ref.{Ref}
use Rattle.lwkt_base.specs.declared.asks.Ask.{Ask}
use Rattle.lwkt_base.specs.declared.asks.Ask.TheVariants.{Get, GetShared, TryGet, Rel, Swap, Read, Write, Add, ReadBlob, WriteBlob, Send, Do, Reply, Abort, IsAborted, DropMsg, GetPort, WaitPort, Yield, Exit, Fail}
use Rattle.lwkt_base.specs.declared.asks.Item.{Item}
use Rattle.lwkt_base.specs.declared.asks.Answer.TheVariants.{Done, Got}
use Rattle.lwkt_base.specs.declared.faults.Fault.{Fault}
use Rattle.lwkt_base.specs.declared.limits.TheConstants.{LAST_ROUND}
use Rattle.lwkt_core.specs.Machine.{changed}
use Rattle.lwkt_plain.specs.declared.letters.Lane.{Lane}
use Rattle.lwkt_plain.specs.declared.letters.Letter.{Letter}
use Rattle.lwkt_plain.specs.declared.mailing.Sending.{Sending}
use Rattle.lwkt_plain.specs.declared.nexts.Next.{Next}
use Rattle.lwkt_plain.specs.declared.nexts.Next.TheVariants.{Runs, Leaves}
use Rattle.lwkt_plain.specs.declared.states.Phase.TheVariants.{AwaitsItem, AwaitsReply}
use Rattle.lwkt_plain.specs.declared.states.Plain.{Plain}
use Rattle.lwkt_plain.specs.declared.states.Processor.{Processor}
use Rattle.lwkt_plain.specs.declared.states.Thread.{Thread}
use Rattle.lwkt_plain.specs.Letters.{sent, aborted, come_home, request_note}
use Rattle.lwkt_plain.specs.Places.{cpu_at, thread_at, lane_at, no_processor, with_cpu, with_lane, with_letter, with_tokens, moved, pushed, has_room}
use Rattle.lwkt_plain.specs.Intakes.{looks}
use Rattle.lwkt_plain.specs.Mailing.{Mailed, mailed, refused, plain_flags, send_refusal, goes_out, sends_over, sends, shown_letter, replies_over, reply, abort_refusal, abort, is_aborted, drop_refusal, drop_msg, get_port, wait_port}
use Rattle.lwkt_plain.specs.Sound.{AreSoundTokens, AreHeld, Lists, Frame, lists_of, round_of, frame, no_lists, IsSoundList, IsSoundFrame, IsSound}
use Rattle.lwkt_plain.specs.Turns.{list_at, with_list, mail_ask, still_held, GivesWithin, IsRunning}
use Rattle.lwkt_plain.proofs.Changes.{changed_in, set_back}
use Rattle.lwkt_plain.proofs.Frames.{frame_lane, frame_letter, replies_frame, looks_frame, round_in}
use Rattle.lwkt_plain.proofs.TokenSteps.{keeps_same}
use Rattle.lwkt_plain.proofs.Soundness.{lists_at, list_fits, held_running, on_thread}
use Rattle.lwkt_plain.proofs.GoOnSound.{LeavesSoundly}

-- a state that is sound, with tokens and lists as before
pub record KeepsLists (p q : Plain) : Type 0 where
  pub sound : IsSound q
  pub tokens : q.tokens ≡ p.tokens
  pub lists : map lists_of q.cpus ≡ map lists_of p.cpus

lists_by : (p q : Plain) → IsSound p → frame q ≡ frame p → KeepsLists p q
lists_by p q sound same = record { sound = subst IsSoundFrame (sym same) sound; tokens = ap (λ (f : Frame). f.tokens) same; lists = ap (λ (f : Frame). f.cpus) same }

same_lists : (p : Plain) → IsSound p → KeepsLists p p
same_lists p sound = record { sound = sound; tokens = refl; lists = refl }

-- a message that goes out
rounds_sound : (f : Frame) (m round : ℕ) → IsSoundFrame f → round ≤ LAST_ROUND → IsSoundFrame (record f { rounds = set f.rounds m round })
rounds_sound f m round sound within = record {
  tokens = sound.tokens;
  messages = (let same = length-set f.rounds m round in let few = sound.messages in omega (arith, same, few));
  rounds = All-set (λ (n : ℕ). n ≤ LAST_ROUND) f.rounds m round within sound.rounds;
  processors = sound.processors;
  each = sound.each;
  held = sound.held;
}

out_lists : (c : ℕ) (p : Plain) (s : Sending) (l : Letter) → IsSound p → slice_get p.letters s.msg.0 ≡ Some l → l.word.round < LAST_ROUND → KeepsLists p (goes_out c p s l)
out_lists c p s l sound at within =
    let away = sent s.to.cpu s.call s.flags s.sync l in
    let q = with_letter (λ old. away) s.msg.0 p in
    let rounds : map round_of (changed (λ old. away) p.letters s.msg.0) ≡ set (map round_of p.letters) s.msg.0 (l.word.round + 1) =
    ap (map round_of) (changed_in (λ old. away) p.letters s.msg.0 l at) ∙ map-set round_of p.letters s.msg.0 away in
    let R : List ℕ → Type 0 = λ rs. IsSoundFrame (record { tokens = p.tokens; rounds = rs; cpus = map lists_of p.cpus }) in
    let ok : IsSound q = subst R (sym rounds) (rounds_sound (frame p) s.msg.0 (l.word.round + 1) sound (omega (arith, within))) in
    let posted = frame_lane (λ lane. pushed (request_note s.msg s.to.thread away) (moved lane)) c s.to.cpu.0 q in
    record { sound = subst IsSoundFrame (sym posted) ok; tokens = ap (λ (f : Frame). f.tokens) posted; lists = ap (λ (f : Frame). f.cpus) posted }

-- what an ask about messages comes to: the thread goes on, or gives its whole list up
abbrev pub GivesAll : Next → ℕ → Type 0
GivesAll (Runs answer) count = Unit {0}
GivesAll (Leaves held phase) count = held ≡ count

pub record MailsSoundly (p : Plain) (count : ℕ) (m : Mailed) : Type 0 where
  pub keeps : KeepsLists p m.plain
  pub gives : GivesAll m.next count

refused_mail : (p : Plain) (count : ℕ) (fault : Fault) → IsSound p → MailsSoundly p count (refused p fault)
refused_mail p count fault sound = record { keeps = same_lists p sound; gives = tt }

two_ways : (b : Bool) (p : Plain) (count : ℕ) (x y : Mailed) → (b ≡ true → MailsSoundly p count x) → (b ≡ false → MailsSoundly p count y) → MailsSoundly p count (if b then x else y)
two_ways true p count x y one other = one refl
two_ways false p count x y one other = other refl

or_ways : {A : Type 0} (f : A → Mailed) (o : Option A) (d : Mailed) (p : Plain) (count : ℕ) → ((a : A) → o ≡ Some a → MailsSoundly p count (f a)) → MailsSoundly p count d → MailsSoundly p count (option_map_or f o d)
or_ways f None d p count some none = none
or_ways f (Some a) d p count some none = some a refl

sends_soundly : (c k : ℕ) (p : Plain) (s : Sending) (next : Next) (count : ℕ) → IsSound p → GivesAll next count → MailsSoundly p count (sends c k p s next)
sends_soundly c k p s next count sound gives =
    or_ways (refused p) (send_refusal c k p s) _ p count (λ fault is. refused_mail p count fault sound)
    (or_ways (sends_over c p s next) (slice_get p.letters s.msg.0) _ p count
    (λ l at. (let most = round_in p s.msg.0 l sound at in
    two_ways (not (has_room (lane_at p c s.to.cpu.0))) p count _ _ (λ full. refused_mail p count _ sound)
    (λ room. two_ways (l.word.round == LAST_ROUND) p count _ _
    (λ last. record { keeps = lists_by p (with_lane moved c s.to.cpu.0 p) sound (frame_lane moved c s.to.cpu.0 p); gives = tt })
    (λ early. (let differ = eqb-false l.word.round LAST_ROUND early in record { keeps = out_lists c p s l sound at (omega (arith, most, differ)); gives = gives })))))
    (refused_mail p count _ sound))

reply_soundly : (c k : ℕ) (p : Plain) (msg : MsgId) (error outcome count : ℕ) → IsSound p → MailsSoundly p count (reply c k p msg error outcome)
reply_soundly c k p msg error outcome count sound =
    or_ways (replies_over c p msg error outcome) (shown_letter c k p msg) _ p count
    (λ l is. two_ways (has_room (lane_at p c l.origin.cpu.0)) p count _ _
    (λ room. record { keeps = lists_by p _ sound (replies_frame c msg error outcome l p); gives = tt }) (λ full. refused_mail p count _ sound))
    (refused_mail p count _ sound)

abort_soundly : (c k : ℕ) (p : Plain) (msg : MsgId) (count : ℕ) → IsSound p → MailsSoundly p count (abort c k p msg)
abort_soundly c k p msg count sound =
    or_ways (λ l. option_map_or (refused p) (abort_refusal c k l) (mailed (with_letter aborted msg.0 p) (Runs Done))) (slice_get p.letters msg.0) _ p count
    (λ l at. or_ways (refused p) (abort_refusal c k l) _ p count (λ fault is. refused_mail p count fault sound)
    (record { keeps = lists_by p (with_letter aborted msg.0 p) sound (frame_letter aborted msg.0 p (λ own. refl)); gives = tt }))
    (refused_mail p count _ sound)

hears_soundly : (c k : ℕ) (p : Plain) (msg : MsgId) (count : ℕ) → IsSound p → MailsSoundly p count (is_aborted c k p msg)
hears_soundly c k p msg count sound =
    or_ways _ (shown_letter c k p msg) _ p count (λ l is. record { keeps = same_lists p sound; gives = tt }) (refused_mail p count _ sound)

drop_soundly : (c k : ℕ) (p : Plain) (msg : MsgId) (count : ℕ) → IsSound p → MailsSoundly p count (drop_msg c k p msg)
drop_soundly c k p msg count sound =
    or_ways _ (slice_get p.letters msg.0) _ p count
    (λ l at. or_ways (refused p) (drop_refusal c k l) _ p count (λ fault is. refused_mail p count fault sound)
    (record { keeps = lists_by p (with_letter come_home msg.0 p) sound (frame_letter come_home msg.0 p (λ own. refl)); gives = tt }))
    (refused_mail p count _ sound)

look_lists : (c k : ℕ) (p : Plain) → IsSound p → KeepsLists p (looks c k p).plain
look_lists c k p sound = lists_by p (looks c k p).plain sound (looks_frame c k p)

wait_gives : (o : Option Item) (count : ℕ) → GivesAll (option_map_or (λ item. Runs (Got item)) o (Leaves count AwaitsItem)) count
wait_gives None count = refl
wait_gives (Some item) count = tt

pub mail_soundly : (c k : ℕ) (p : Plain) (count : ℕ) (ask : Ask) → IsSound p → IfSome (mail_ask c k p count ask) (MailsSoundly p count)
mail_soundly c k p count (Send msg to call flags) sound = sends_soundly c k p (record { msg = msg; to = to; call = call; flags = flags; sync = false }) (Runs Done) count sound tt
mail_soundly c k p count (Do msg to call) sound = sends_soundly c k p (record { msg = msg; to = to; call = call; flags = plain_flags; sync = true }) (Leaves count (AwaitsReply msg)) count sound refl
mail_soundly c k p count (Reply msg error outcome) sound = reply_soundly c k p msg error outcome count sound
mail_soundly c k p count (Abort msg) sound = abort_soundly c k p msg count sound
mail_soundly c k p count (IsAborted msg) sound = hears_soundly c k p msg count sound
mail_soundly c k p count (DropMsg msg) sound = drop_soundly c k p msg count sound
mail_soundly c k p count GetPort sound = record { keeps = look_lists c k p sound; gives = tt }
mail_soundly c k p count WaitPort sound = record { keeps = look_lists c k p sound; gives = wait_gives (looks c k p).item count }
mail_soundly c k p count (Get tok) sound = tt
mail_soundly c k p count (GetShared tok) sound = tt
mail_soundly c k p count (TryGet tok) sound = tt
mail_soundly c k p count (Rel tok) sound = tt
mail_soundly c k p count Swap sound = tt
mail_soundly c k p count (Read tok cell) sound = tt
mail_soundly c k p count (Write tok cell value) sound = tt
mail_soundly c k p count (Add tok more) sound = tt
mail_soundly c k p count (ReadBlob tok) sound = tt
mail_soundly c k p count (WriteBlob tok bytes) sound = tt
mail_soundly c k p count Yield sound = tt
mail_soundly c k p count Exit sound = tt
mail_soundly c k p count (Fail number) sound = tt

-- a change that changes nothing
changed_same : {A : Type 0} (f : A → A) (xs : List A) (i : ℕ) (o : Option A) → slice_get xs i ≡ o → ((x : A) → slice_get xs i ≡ Some x → f x ≡ x) → option_map_or (λ x. slice_set xs i (f x)) o xs ≡ xs
changed_same f xs i None at same = refl
changed_same f xs i (Some x) at same = ap (slice_set xs i) (same x at) ∙ set_back xs i x at

same_list : (c k : ℕ) (q : Plain) → c < length q.cpus → with_list (list_at q c k) c k q ≡ q
same_list c k q inside =
    let put : Thread → Thread = λ t. record t { list = list_at q c k } in
    let own : (cpu : Processor) → slice_get q.cpus c ≡ Some cpu → on_thread put k cpu ≡ cpu =
    λ cpu at.
    (let here : cpu_at q c ≡ cpu = get_or_from_slice_get q.cpus c cpu no_processor at in
    ap (λ (ts : List Thread). record cpu { threads = ts })
    (changed_same put cpu.threads k (slice_get cpu.threads k) refl
    (λ t got. ap (λ (refs : List Ref). record t { list = refs })
    (ap (λ (x : Processor). option_map_or (λ (s : Thread). s.list) (slice_get x.threads k) []) here ∙ ap (λ (o : Option Thread). option_map_or (λ (s : Thread). s.list) o []) got)))) in
    ap (λ (cpus : List Processor). record q { cpus = cpus }) (changed_same (on_thread put k) q.cpus c (slice_get q.cpus c) refl own)

held_all : (next : Next) (refs : List Ref) → GivesAll next (length refs) → still_held next refs ≡ refs
held_all (Runs answer) refs gives = refl
held_all (Leaves held phase) refs gives = take_all held refs (omega (arith, gives))

within_all : (next : Next) (count : ℕ) → GivesAll next count → GivesWithin next count
within_all (Runs answer) count gives = tt
within_all (Leaves held phase) count gives = omega (arith, gives)

-- a sound state in which the thread runs still
pub runs_still : (c k : ℕ) (q : Plain) (next : Next) → IsSound q → c < length q.cpus → k < length (cpu_at q c).threads → c < 8 → IsRunning q c k → GivesAll next (length (list_at q c k)) → LeavesSoundly c k q next
runs_still c k q next sound inside there here running gives = record {
  before = q;
  sound = sound;
  inside = inside;
  there = there;
  running = running;
  tokens = q.tokens;
  refs = list_at q c k;
  is = sym (same_list c k q inside);
  keeps = keeps_same c q.tokens sound.tokens;
  held = subst (λ (refs : List Ref). AreHeld c refs q.tokens) (sym (held_all next (list_at q c k) gives)) (held_running q c k sound here running);
  fits = list_fits q c k sound inside there;
  within = within_all next (length (list_at q c k)) gives;
}
