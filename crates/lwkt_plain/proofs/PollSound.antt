-- What a poll leaves of a sound state.
use Rattle.std.proofs.Common.{◌≡◌, ◌≢◌, ◌<◌, ◌≤◌, ◌+◌, ◌-◌, ℕ, zero, suc, List, [], ◌∷◌, ◌++◌, length, get_or, set, map, take, drop, refl, ap, sym, ◌∙◌, subst, arith, Option, Some, None, Bool, true, false, length-set}
use Rattle.std.specs.Prelude.{slice_get, All, IfSome, if◌then◌else◌}
use Rattle.std.specs.Option.{option_map_or}
use Rattle.std.proofs.lemmas.Option.{none-some, same_Some}
use Rattle.std.proofs.lemmas.List.{length-map}
use Rattle.lwkt_base.specs.declared.names.CpuId.{CpuId}
use Rattle.lwkt_base.specs.declared.names.Ref.{Ref}
use Rattle.lwkt_base.specs.declared.names.Mode.TheVariants.{Exclusive, Shared}
use Rattle.lwkt_base.specs.declared.asks.Ask.{Ask}
use Rattle.lwkt_base.specs.declared.asks.Ask.TheVariants.{Get, GetShared, TryGet, Rel, Swap, Read, Write, Add, ReadBlob, WriteBlob, Send, Do, Reply, Abort, IsAborted, DropMsg, GetPort, WaitPort, Yield, Exit, Fail}
use Rattle.lwkt_base.specs.declared.limits.TheConstants.{CPU_LIMIT}
use Rattle.lwkt_core.specs.declared.tokens.Token.{Token}
use Rattle.lwkt_plain.specs.declared.nexts.Next.{Next}
use Rattle.lwkt_plain.specs.declared.nexts.Next.TheVariants.{Leaves}
use Rattle.lwkt_plain.specs.declared.states.Phase.{Phase}
use Rattle.lwkt_plain.specs.declared.states.Plain.{Plain}
use Rattle.lwkt_plain.specs.declared.states.Thread.{Thread}
use Rattle.lwkt_plain.specs.Places.{cpu_at, with_tokens}
use Rattle.lwkt_plain.specs.Mailing.{Mailed}
use Rattle.lwkt_plain.specs.Sound.{AreSoundTokens, AreHeld, IsSoundList, IsSound, Lists, lists_of, no_lists}
use Rattle.lwkt_plain.specs.TokenAsks.{Asked}
use Rattle.lwkt_plain.specs.Turns.{ref_to, token_ask, mail_ask, phase_for, list_at, with_list, performed, of_tokens, of_mail, performs, still_held, GivesWithin, MayGoOn, IsRunning}
use Rattle.lwkt_plain.proofs.Soundness.{lists_at, list_same, few_cpus, held_running, list_fits}
use Rattle.lwkt_plain.proofs.GoOnSound.{LeavesSoundly, put_at}
use Rattle.lwkt_plain.proofs.MailSound.{MailsSoundly, mail_soundly, runs_still, GivesAll}
use Rattle.lwkt_plain.proofs.AskSound.{AsksSoundly, get_soundly, try_soundly, rel_soundly, swap_soundly, read_soundly, write_soundly, add_soundly, read_blob_soundly, write_blob_soundly}

-- each ask about tokens leaves them sound, and held as its thread's list says
pub ask_soundly : (cpu : CpuId) (tokens : List Token) (refs : List Ref) (ask : Ask) → cpu.0 < CPU_LIMIT → AreSoundTokens tokens → AreHeld cpu.0 refs tokens → IsSoundList (length tokens) refs → IfSome (token_ask cpu tokens refs ask) (AsksSoundly cpu.0 tokens)
ask_soundly cpu tokens refs (Get tok) here sound held fits = get_soundly cpu tokens refs (ref_to tok Exclusive) here sound held fits
ask_soundly cpu tokens refs (GetShared tok) here sound held fits = get_soundly cpu tokens refs (ref_to tok Shared) here sound held fits
ask_soundly cpu tokens refs (TryGet tok) here sound held fits = try_soundly cpu tokens refs (ref_to tok Exclusive) here sound held fits
ask_soundly cpu tokens refs (Rel tok) here sound held fits = rel_soundly cpu tokens refs tok here sound held fits
ask_soundly cpu tokens refs Swap here sound held fits = swap_soundly cpu.0 tokens refs sound held fits
ask_soundly cpu tokens refs (Read tok cell) here sound held fits = read_soundly cpu.0 tokens refs tok cell sound held fits
ask_soundly cpu tokens refs (Write tok cell value) here sound held fits = write_soundly cpu tokens refs tok cell value here sound held fits
ask_soundly cpu tokens refs (Add tok more) here sound held fits = add_soundly cpu tokens refs tok more here sound held fits
ask_soundly cpu tokens refs (ReadBlob tok) here sound held fits = read_blob_soundly cpu.0 tokens refs tok sound held fits
ask_soundly cpu tokens refs (WriteBlob tok bytes) here sound held fits = write_blob_soundly cpu tokens refs tok bytes here sound held fits
ask_soundly cpu tokens refs (Send msg to call flags) here sound held fits = tt
ask_soundly cpu tokens refs (Do msg to call) here sound held fits = tt
ask_soundly cpu tokens refs (Reply msg error outcome) here sound held fits = tt
ask_soundly cpu tokens refs (Abort msg) here sound held fits = tt
ask_soundly cpu tokens refs (IsAborted msg) here sound held fits = tt
ask_soundly cpu tokens refs (DropMsg msg) here sound held fits = tt
ask_soundly cpu tokens refs GetPort here sound held fits = tt
ask_soundly cpu tokens refs WaitPort here sound held fits = tt
ask_soundly cpu tokens refs Yield here sound held fits = tt
ask_soundly cpu tokens refs Exit here sound held fits = tt
ask_soundly cpu tokens refs (Fail number) here sound held fits = tt

-- one of two, if there is one
or_soundly : {A : Type 0} (P : A → Type 0) (o : Option A) → IfSome o P → (a : A) → o ≡ Some a → P a
or_soundly P None some a is = absurd (none-some a is)
or_soundly P (Some b) some a is = subst P (same_Some b a is) some

-- an ask that is performed, of a thread that runs
module _ (cpu : CpuId) (k : ℕ) (p : Plain) (ask : Ask) (sound : IsSound p) (inside : cpu.0 < length p.cpus) (there : k < length (cpu_at p cpu.0).threads) (running : IsRunning p cpu.0 k) where
  here : cpu.0 < CPU_LIMIT
  here = (let few = few_cpus p sound in omega (arith, few, inside))

  of_tokens_soundly : (a : Asked) → AsksSoundly cpu.0 p.tokens a → LeavesSoundly cpu.0 k (of_tokens cpu k p a).plain (of_tokens cpu k p a).next
  of_tokens_soundly a so = record {
    before = p;
    sound = sound;
    inside = inside;
    there = there;
    running = running;
    tokens = a.tokens;
    refs = a.refs;
    is = refl;
    keeps = so.keeps;
    held = so.held;
    fits = so.fits;
    within = so.within;
  }

  of_mail_soundly : (m : Mailed) → MailsSoundly p (length (list_at p cpu.0 k)) m → LeavesSoundly cpu.0 k m.plain m.next
  of_mail_soundly m so =
      let q = m.plain in
      let lists : lists_of (cpu_at q cpu.0) ≡ lists_of (cpu_at p cpu.0) =
      sym (lists_at q cpu.0) ∙ ap (λ (ls : List Lists). get_or ls cpu.0 no_lists) so.keeps.lists ∙ lists_at p cpu.0 in
      let long : length q.cpus ≡ length p.cpus = sym (length-map q.cpus lists_of) ∙ ap length so.keeps.lists ∙ length-map p.cpus lists_of in
      let threads : length (cpu_at q cpu.0).threads ≡ length (cpu_at p cpu.0).threads =
      sym (length-map (cpu_at q cpu.0).threads (λ (t : Thread). t.list)) ∙ ap (λ (l : Lists). length l.lists) lists ∙ length-map (cpu_at p cpu.0).threads (λ (t : Thread). t.list) in
      let runs : IsRunning q cpu.0 k = ap (λ (l : Lists). l.running) lists ∙ running in
      let list : list_at q cpu.0 k ≡ list_at p cpu.0 k =
      sym (list_same (λ (t : Thread). t.list) (cpu_at q cpu.0).threads k []) ∙ ap (λ (l : Lists). get_or l.lists k []) lists ∙ list_same (λ (t : Thread). t.list) (cpu_at p cpu.0).threads k [] in
      runs_still cpu.0 k q m.next so.keeps.sound (omega (arith, long, inside)) (omega (arith, threads, there)) here runs
      (subst (λ (n : ℕ). GivesAll m.next n) (sym (ap length list)) so.gives)

  others_soundly : (o : Option Mailed) → IfSome o (MailsSoundly p (length (list_at p cpu.0 k))) → (phase : Phase) → let x = option_map_or of_mail o (performed p (Leaves (length (list_at p cpu.0 k)) phase)) in LeavesSoundly cpu.0 k x.plain x.next
  others_soundly None some phase = runs_still cpu.0 k p (Leaves (length (list_at p cpu.0 k)) phase) sound inside there here running refl
  others_soundly (Some m) some phase = of_mail_soundly m some

  asked_soundly : (o : Option Asked) → IfSome o (AsksSoundly cpu.0 p.tokens) → let x = option_map_or (of_tokens cpu k p) o (option_map_or of_mail (mail_ask cpu.0 k p (length (list_at p cpu.0 k)) ask) (performed p (Leaves (length (list_at p cpu.0 k)) (phase_for ask)))) in LeavesSoundly cpu.0 k x.plain x.next
  asked_soundly None some = others_soundly (mail_ask cpu.0 k p (length (list_at p cpu.0 k)) ask) (mail_soundly cpu.0 k p (length (list_at p cpu.0 k)) ask sound) (phase_for ask)
  asked_soundly (Some a) some = of_tokens_soundly a some

  pub performs_soundly : LeavesSoundly cpu.0 k (performs cpu k p ask).plain (performs cpu k p ask).next
  performs_soundly =
      asked_soundly (token_ask cpu p.tokens (list_at p cpu.0 k) ask)
      (ask_soundly cpu p.tokens (list_at p cpu.0 k) ask here sound.tokens (held_running p cpu.0 k sound here running) (list_fits p cpu.0 k sound inside there))

-- what may go on
pub may_go_on : (c k : ℕ) (x : Plain) (next : Next) → LeavesSoundly c k x next → MayGoOn x c k next
may_go_on c k x next so =
    let q = with_list so.refs c k (with_tokens so.tokens so.before) in
    let list : list_at x c k ≡ so.refs = ap (λ (p : Plain). list_at p c k) so.is ∙ put_at so.refs c k so.tokens so.before so.inside so.there in
    let tokens : x.tokens ≡ so.tokens = ap (λ (p : Plain). p.tokens) so.is in
    record {
      held = subst (λ (ts : List Token). AreHeld c (still_held next (list_at x c k)) ts) (sym tokens) (subst (λ (refs : List Ref). AreHeld c (still_held next refs) so.tokens) (sym list) so.held);
      within = subst (λ (refs : List Ref). GivesWithin next (length refs)) (sym list) so.within;
    }
