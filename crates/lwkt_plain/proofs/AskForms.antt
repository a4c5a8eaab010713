-- Asks don't tell states of one form apart.
use Rattle.std.proofs.Common.{◌≡◌, ◌<◌, ◌≤◌, ◌+◌, ℕ, zero, suc, List, [], ◌∷◌, length, take, refl, ap, sym, ◌∙◌, subst, arith, Option, Some, None, Bool, true, false}
use Rattle.std.specs.Prelude.{slice_get, option_map, if◌then◌else◌, ◌==◌, ◌&&◌, not, nat_lt, IfSome}
use Rattle.std.specs.Option.{option_map_or}
use Rattle.std.proofs.lemmas.List.{length-map}
use Rattle.std.proofs.lemmas.Option.{none-some, same_Some}
use Rattle.lwkt_base.specs.declared.names.CpuId.{CpuId}
use Rattle.lwkt_base.specs.declared.names.MsgId.{MsgId}
use Rattle.lwkt_base.specs.declared.names.Ref.{Ref}
use Rattle.lwkt_base.specs.declared.asks.Answer.{Answer}
use Rattle.lwkt_base.specs.declared.asks.Answer.TheVariants.{Got, NoMsg, Done}
use Rattle.lwkt_base.specs.declared.asks.Item.{Item}
use Rattle.lwkt_base.specs.declared.asks.Ask.{Ask}
use Rattle.lwkt_base.specs.declared.asks.Ask.TheVariants.{Get, GetShared, TryGet, Rel, Swap, Read, Write, Add, ReadBlob, WriteBlob, Send, Do, Reply, Abort, IsAborted, DropMsg, GetPort, WaitPort, Yield, Exit, Fail}
use Rattle.lwkt_base.specs.declared.faults.Fault.{Fault}
use Rattle.lwkt_base.specs.declared.faults.Fault.TheVariants.{LaneFull, RoundsOut, NotOwner, NotTaken, NoPort, SelfDo, Broken}
use Rattle.lwkt_base.specs.declared.limits.TheConstants.{LAST_ROUND}
use Rattle.lwkt_core.specs.declared.tokens.Token.{Token}
use Rattle.lwkt_plain.specs.declared.letters.Lane.{Lane}
use Rattle.lwkt_plain.specs.declared.letters.Letter.{Letter}
use Rattle.lwkt_plain.specs.declared.letters.TheConstants.{PORTS}
use Rattle.lwkt_plain.specs.declared.mailing.Sending.{Sending}
use Rattle.lwkt_plain.specs.declared.nexts.Next.{Next}
use Rattle.lwkt_plain.specs.declared.nexts.Next.TheVariants.{Runs, Leaves}
use Rattle.lwkt_plain.specs.declared.states.Phase.{Phase}
use Rattle.lwkt_plain.specs.declared.states.Phase.TheVariants.{AwaitsItem, AwaitsReply, Faulted}
use Rattle.lwkt_plain.specs.declared.states.Plain.{Plain}
use Rattle.lwkt_plain.specs.declared.states.Processor.{Processor}
use Rattle.lwkt_plain.specs.declared.states.Thread.{Thread}
use Rattle.lwkt_plain.specs.Forms.{can_match, kept_word, thread_by, plain_by, form}
use Rattle.lwkt_plain.specs.Letters.{sent, aborted, come_home, request_note}
use Rattle.lwkt_plain.specs.Places.{lane_at, with_lane, with_letter, with_thread, with_tokens, moved, pushed, has_room}
use Rattle.lwkt_plain.specs.Intakes.{replies, Looked, looked, looks}
use Rattle.lwkt_plain.specs.Mailing.{Mailed, mailed, refused, plain_flags, may_send, send_refusal, goes_out, sends_over, sends, shown_letter, replies_over, reply, abort_refusal, abort, is_aborted, drop_refusal, drop_msg, get_port, wait_port}
use Rattle.lwkt_plain.specs.Sound.{IsSound}
use Rattle.lwkt_plain.specs.Tokens.{Gave, gives}
use Rattle.lwkt_plain.specs.TokenAsks.{Asked}
use Rattle.lwkt_plain.specs.Turns.{list_at, with_list, Performed, performed, of_tokens, of_mail, token_ask, mail_ask, phase_for, performs, rests, becomes, gives_up, breaks, goes_on, makes}
use Rattle.lwkt_plain.proofs.FormMail.{Words, lane_with, lane_at_by, if_by, or_by, replies_by, looks_by, looked_by}
use Rattle.lwkt_plain.proofs.MailSound.{MailsSoundly, mail_soundly}
use Rattle.lwkt_plain.proofs.Risings.{Rises, RisesTo, gives_rises, ask_rises}
use Rattle.lwkt_plain.proofs.OldWords.{sift, may_be, AreOld}
use Rattle.lwkt_plain.proofs.Alikes.{Alike, same_tokens, same_list, alike_tokens, alike_thread, alike_cpu, alike_becomes, HasNoWord, alike_list}

-- an ask about messages, of a state with other words
abbrev pub mailed_by : Words → Mailed → Mailed
mailed_by g m = mailed (plain_by g m.plain) m.next

refusal_by : (g : Words) (c k : ℕ) (p : Plain) (s : Sending) → send_refusal c k (plain_by g p) s ≡ send_refusal c k p s
refusal_by g c k p s =
    ap (λ (n : ℕ). if not (nat_lt s.to.cpu.0 n && nat_lt s.to.thread PORTS) then Some NoPort else (if s.sync && (s.to.cpu.0 == c && s.to.thread == k) then Some SelfDo else (if may_send c k p s.msg then None else Some NotOwner)))
    (length-map p.cpus _)

over_by : (g : Words) (c : ℕ) (p : Plain) (s : Sending) (next : Next) (l : Letter) → sends_over c (plain_by g p) s next l ≡ mailed_by g (sends_over c p s next l)
over_by g c p s next l =
    let q = plain_by g p in
    let away = sent s.to.cpu s.call s.flags s.sync l in
    let out : Plain → Mailed = λ x. if l.word.round == LAST_ROUND then refused (with_lane moved c s.to.cpu.0 x) RoundsOut else mailed (goes_out c x s l) next in
    let late : out q ≡ mailed_by g (out p) =
    if_by (mailed_by g) (l.word.round == LAST_ROUND) (refused (with_lane moved c s.to.cpu.0 p) RoundsOut) (mailed (goes_out c p s l) next) (refused (with_lane moved c s.to.cpu.0 q) RoundsOut) (mailed (goes_out c q s l) next)
    (ap (λ (x : Plain). refused x RoundsOut) (lane_with g moved c s.to.cpu.0 p))
    (ap (λ (x : Plain). mailed x next) (lane_with g (λ lane. pushed (request_note s.msg s.to.thread away) (moved lane)) c s.to.cpu.0 (with_letter (λ old. away) s.msg.0 p))) in
    ap (λ (lane : Lane). if not (has_room lane) then refused q LaneFull else out q) (lane_at_by g p c s.to.cpu.0)
    ∙ if_by (mailed_by g) (not (has_room (lane_at p c s.to.cpu.0))) (refused p LaneFull) (out p) (refused q LaneFull) (out q) refl late

sends_by : (g : Words) (c k : ℕ) (p : Plain) (s : Sending) (next : Next) → sends c k (plain_by g p) s next ≡ mailed_by g (sends c k p s next)
sends_by g c k p s next =
    let q = plain_by g p in
    let rest : Plain → Mailed = λ x. option_map_or (sends_over c x s next) (slice_get p.letters s.msg.0) (refused x NotOwner) in
    ap (λ (o : Option Fault). option_map_or (refused q) o (rest q)) (refusal_by g c k p s)
    ∙ or_by (mailed_by g) (refused p) (refused q) (send_refusal c k p s) (rest p) (rest q) (λ fault. refl)
    (or_by (mailed_by g) (sends_over c p s next) (sends_over c q s next) (slice_get p.letters s.msg.0) (refused p NotOwner) (refused q NotOwner) (over_by g c p s next) refl)

reply_by : (g : Words) (c k : ℕ) (p : Plain) (msg : MsgId) (error outcome : ℕ) → reply c k (plain_by g p) msg error outcome ≡ mailed_by g (reply c k p msg error outcome)
reply_by g c k p msg error outcome =
    let q = plain_by g p in
    or_by (mailed_by g) (replies_over c p msg error outcome) (replies_over c q msg error outcome) (shown_letter c k p msg) (refused p NotTaken) (refused q NotTaken)
    (λ l.
    ap (λ (lane : Lane). if has_room lane then mailed (replies c msg error outcome l q) (Runs Done) else refused q LaneFull) (lane_at_by g p c l.origin.cpu.0)
    ∙ if_by (mailed_by g) (has_room (lane_at p c l.origin.cpu.0)) (mailed (replies c msg error outcome l p) (Runs Done)) (refused p LaneFull) (mailed (replies c msg error outcome l q) (Runs Done)) (refused q LaneFull)
    (ap (λ (x : Plain). mailed x (Runs Done)) (replies_by g c msg error outcome l p)) refl)
    refl

abort_by : (g : Words) (c k : ℕ) (p : Plain) (msg : MsgId) → abort c k (plain_by g p) msg ≡ mailed_by g (abort c k p msg)
abort_by g c k p msg =
    let q = plain_by g p in
    let on : Plain → Letter → Mailed = λ x l. option_map_or (refused x) (abort_refusal c k l) (mailed (with_letter aborted msg.0 x) (Runs Done)) in
    or_by (mailed_by g) (on p) (on q) (slice_get p.letters msg.0) (refused p NotOwner) (refused q NotOwner)
    (λ l. or_by (mailed_by g) (refused p) (refused q) (abort_refusal c k l) (mailed (with_letter aborted msg.0 p) (Runs Done)) (mailed (with_letter aborted msg.0 q) (Runs Done)) (λ fault. refl) refl)
    refl

is_aborted_by : (g : Words) (c k : ℕ) (p : Plain) (msg : MsgId) → is_aborted c k (plain_by g p) msg ≡ mailed_by g (is_aborted c k p msg)
is_aborted_by g c k p msg = or_by (mailed_by g) _ _ (shown_letter c k p msg) (refused p NotTaken) (refused (plain_by g p) NotTaken) (λ l. refl) refl

drop_by : (g : Words) (c k : ℕ) (p : Plain) (msg : MsgId) → drop_msg c k (plain_by g p) msg ≡ mailed_by g (drop_msg c k p msg)
drop_by g c k p msg =
    or_by (mailed_by g) _ _ (slice_get p.letters msg.0) (refused p NotOwner) (refused (plain_by g p) NotOwner)
    (λ l. or_by (mailed_by g) (refused p) (refused (plain_by g p)) (drop_refusal c k l) _ _ (λ fault. refl) refl) refl

port_by : (g : Words) (c k : ℕ) (p : Plain) → get_port c k (plain_by g p) ≡ mailed_by g (get_port c k p)
port_by g c k p = ap (λ (now : Looked). mailed now.plain (Runs (option_map_or (λ item. Got item) now.item NoMsg))) (looks_by g c k p)

wait_by : (g : Words) (c k : ℕ) (p : Plain) (count : ℕ) → wait_port c k (plain_by g p) count ≡ mailed_by g (wait_port c k p count)
wait_by g c k p count = ap (λ (now : Looked). mailed now.plain (option_map_or (λ item. Runs (Got item)) now.item (Leaves count AwaitsItem))) (looks_by g c k p)

pub mail_ask_by : (g : Words) (c k : ℕ) (p : Plain) (count : ℕ) (ask : Ask) → mail_ask c k (plain_by g p) count ask ≡ option_map (mailed_by g) (mail_ask c k p count ask)
mail_ask_by g c k p count (Send msg to call flags) = ap (λ (m : Mailed). Some m) (sends_by g c k p (record { msg = msg; to = to; call = call; flags = flags; sync = false }) (Runs Done))
mail_ask_by g c k p count (Do msg to call) = ap (λ (m : Mailed). Some m) (sends_by g c k p (record { msg = msg; to = to; call = call; flags = plain_flags; sync = true }) (Leaves count (AwaitsReply msg)))
mail_ask_by g c k p count (Reply msg error outcome) = ap (λ (m : Mailed). Some m) (reply_by g c k p msg error outcome)
mail_ask_by g c k p count (Abort msg) = ap (λ (m : Mailed). Some m) (abort_by g c k p msg)
mail_ask_by g c k p count (IsAborted msg) = ap (λ (m : Mailed). Some m) (is_aborted_by g c k p msg)
mail_ask_by g c k p count (DropMsg msg) = ap (λ (m : Mailed). Some m) (drop_by g c k p msg)
mail_ask_by g c k p count GetPort = ap (λ (m : Mailed). Some m) (port_by g c k p)
mail_ask_by g c k p count WaitPort = ap (λ (m : Mailed). Some m) (wait_by g c k p count)
mail_ask_by g c k p count (Get tok) = refl
mail_ask_by g c k p count (GetShared tok) = refl
mail_ask_by g c k p count (TryGet tok) = refl
mail_ask_by g c k p count (Rel tok) = refl
mail_ask_by g c k p count Swap = refl
mail_ask_by g c k p count (Read tok cell) = refl
mail_ask_by g c k p count (Write tok cell value) = refl
mail_ask_by g c k p count (Add tok more) = refl
mail_ask_by g c k p count (ReadBlob tok) = refl
mail_ask_by g c k p count (WriteBlob tok bytes) = refl
mail_ask_by g c k p count Yield = refl
mail_ask_by g c k p count Exit = refl
mail_ask_by g c k p count (Fail number) = refl

-- asks that were performed with the same next
pub record SamePerformed (x y : Performed) : Type 0 where
  pub next : x.next ≡ y.next
  pub alike : Alike x.plain y.plain

-- about messages
abbrev KeptTokens : Plain → Option Mailed → Type 0
KeptTokens p o = IfSome o (λ m. m.plain.tokens ≡ p.tokens)

kept_of : (p : Plain) (count : ℕ) (o : Option Mailed) → IfSome o (MailsSoundly p count) → KeptTokens p o
kept_of p count None some = tt
kept_of p count (Some m) some = some.keeps.tokens

mail_kept : (c k : ℕ) (p : Plain) (count : ℕ) (ask : Ask) → IsSound p → KeptTokens p (mail_ask c k p count ask)
mail_kept c k p count ask sound = kept_of p count (mail_ask c k p count ask) (mail_soundly c k p count ask sound)

old_mail : (p : Plain) (m : Mailed) → m.plain.tokens ≡ p.tokens → m ≡ mailed_by (sift (may_be p.tokens)) m → AreOld m.plain
old_mail p m kept is =
    ap (λ (tokens : List Token). plain_by (sift (may_be tokens)) m.plain) kept ∙ sym (ap (λ (x : Mailed). x.plain) is)

mails_alike : (p q : Plain) → Alike p q → (o r : Option Mailed) (x y : Performed) → KeptTokens p o → KeptTokens q r → option_map (mailed_by (kept_word p.tokens)) o ≡ option_map (mailed_by (kept_word q.tokens)) r → o ≡ option_map (mailed_by (sift (may_be p.tokens))) o → r ≡ option_map (mailed_by (sift (may_be q.tokens))) r → SamePerformed x y → SamePerformed (option_map_or of_mail o x) (option_map_or of_mail r y)
mails_alike p q a None None x y kept kept_too same old old_too none = none
mails_alike p q a None (Some n) x y kept kept_too same old old_too none = absurd (none-some _ same)
mails_alike p q a (Some m) None x y kept kept_too same old old_too none = absurd (none-some _ (sym same))
mails_alike p q a (Some m) (Some n) x y kept kept_too same old old_too none =
    let one = same_Some (mailed_by (kept_word p.tokens) m) (mailed_by (kept_word q.tokens) n) same in
    record {
      next = ap (λ (z : Mailed). z.next) one;
      alike = record {
        forms = ap (λ (tokens : List Token). plain_by (kept_word tokens) m.plain) kept ∙ ap (λ (z : Mailed). z.plain) one ∙ sym (ap (λ (tokens : List Token). plain_by (kept_word tokens) n.plain) kept_too);
        old = old_mail p m kept (same_Some m (mailed_by (sift (may_be p.tokens)) m) old);
        old_too = old_mail q n kept_too (same_Some n (mailed_by (sift (may_be q.tokens)) n) old_too);
      };
    }

mail_alike : (c k count : ℕ) (ask : Ask) (p q : Plain) → IsSound p → IsSound q → Alike p q → (x y : Performed) → SamePerformed x y → SamePerformed (option_map_or of_mail (mail_ask c k p count ask) x) (option_map_or of_mail (mail_ask c k q count ask) y)
mail_alike c k count ask p q sound sound_too a x y none =
    mails_alike p q a (mail_ask c k p count ask) (mail_ask c k q count ask) x y (mail_kept c k p count ask sound) (mail_kept c k q count ask sound_too)
    (sym (mail_ask_by (kept_word p.tokens) c k p count ask) ∙ ap (λ (z : Plain). mail_ask c k z count ask) a.forms ∙ mail_ask_by (kept_word q.tokens) c k q count ask)
    (sym (ap (λ (z : Plain). mail_ask c k z count ask) a.old) ∙ mail_ask_by (sift (may_be p.tokens)) c k p count ask)
    (sym (ap (λ (z : Plain). mail_ask c k z count ask) a.old_too) ∙ mail_ask_by (sift (may_be q.tokens)) c k q count ask)
    none

-- about tokens
asked_alike : (cpu : CpuId) (k : ℕ) (p q : Plain) → HasNoWord p cpu.0 k → HasNoWord q cpu.0 k → Alike p q → (o : Option Asked) → IfSome o (RisesTo p.tokens) → (x y : Performed) → SamePerformed x y → SamePerformed (option_map_or (of_tokens cpu k p) o x) (option_map_or (of_tokens cpu k q) o y)
asked_alike cpu k p q none none_too a None rises x y others = others
asked_alike cpu k p q none none_too a (Some asked) rises x y others =
    record {
      next = refl;
      alike = alike_list asked.refs cpu.0 k (with_tokens asked.tokens p) (with_tokens asked.tokens q) none none_too (alike_tokens p q asked.tokens a rises.rises);
    }

pub performs_alike : (cpu : CpuId) (k : ℕ) (p q : Plain) (ask : Ask) → IsSound p → IsSound q → HasNoWord p cpu.0 k → HasNoWord q cpu.0 k → Alike p q → SamePerformed (performs cpu k p ask) (performs cpu k q ask)
performs_alike cpu k p q ask sound sound_too none none_too a =
    let refs = list_at p cpu.0 k in
    let other : Plain → List Ref → Performed = λ x list. option_map_or of_mail (mail_ask cpu.0 k x (length list) ask) (performed x (Leaves (length list) (phase_for ask))) in
    let F : List Token → List Ref → Performed = λ tokens list. option_map_or (of_tokens cpu k q) (token_ask cpu tokens list ask) (other q list) in
    let leaves : SamePerformed (performed p (Leaves (length refs) (phase_for ask))) (performed q (Leaves (length refs) (phase_for ask))) = record { next = refl; alike = a } in
    subst (λ (y : Performed). SamePerformed (performs cpu k p ask) y) (ap (λ (tokens : List Token). F tokens refs) (same_tokens p q a) ∙ ap (F q.tokens) (same_list p q a cpu.0 k))
    (asked_alike cpu k p q none none_too a (token_ask cpu p.tokens refs ask) (ask_rises cpu p.tokens refs ask) (other p refs) (other q refs)
    (mail_alike cpu.0 k (length refs) ask p q sound sound_too a (performed p (Leaves (length refs) (phase_for ask))) (performed q (Leaves (length refs) (phase_for ask))) leaves))

-- what comes next
pub goes_on_alike : (cpu : CpuId) (k : ℕ) (p q : Plain) (next : Next) → Alike p q → Alike (goes_on cpu k p next) (goes_on cpu k q next)
goes_on_alike cpu k p q (Runs answer) a = alike_thread (λ (t : Thread). record t { last = answer }) (λ can t. refl) cpu.0 k p q a
goes_on_alike cpu k p q (Leaves held phase) a =
    let refs = list_at p cpu.0 k in
    let now = (gives cpu p.tokens (take held refs)).tokens in
    let gave_same : gives cpu p.tokens (take held refs) ≡ gives cpu q.tokens (take held (list_at q cpu.0 k)) =
    ap (λ (tokens : List Token). gives cpu tokens (take held refs)) (same_tokens p q a) ∙ ap (λ (list : List Ref). gives cpu q.tokens (take held list)) (same_list p q a cpu.0 k) in
    let up : Alike (gives_up cpu k held p) (rests cpu.0 (with_tokens now q)) =
    alike_cpu (λ (x : Processor). record x { running = None }) (λ g x. refl) cpu.0 (with_tokens now p) (with_tokens now q) (alike_tokens p q now a (gives_rises cpu p.tokens (take held refs))) in
    let B : Gave → Plain = λ g. becomes cpu.0 k (if g.broken then Faulted Broken else phase) (rests cpu.0 (with_tokens g.tokens q)) in
    subst (λ (x : Plain). Alike (goes_on cpu k p (Leaves held phase)) x) (ap B gave_same)
    (alike_becomes cpu.0 k (if breaks cpu k held p then Faulted Broken else phase) (gives_up cpu k held p) (rests cpu.0 (with_tokens now q)) up)

pub makes_alike : (cpu : CpuId) (k : ℕ) (p q : Plain) (ask : Ask) → IsSound p → IsSound q → HasNoWord p cpu.0 k → HasNoWord q cpu.0 k → Alike p q → Alike (makes cpu k p ask) (makes cpu k q ask)
makes_alike cpu k p q ask sound sound_too none none_too a =
    let s = performs_alike cpu k p q ask sound sound_too none none_too a in
    let x = performs cpu k p ask in
    let y = performs cpu k q ask in
    subst (λ (next : Next). Alike (goes_on cpu k x.plain x.next) (goes_on cpu k y.plain next)) s.next (goes_on_alike cpu k x.plain y.plain x.next s.alike)
