use Rattle.std.proofs.Common.{◌≡◌, ℕ, suc, ◌+◌, ◌≤◌, List, [], ◌∷◌, refl, ap, sym, ◌∙◌, subst, arith}
use Rattle.std.specs.Prelude.{All, filter, Vec}
use Rattle.std.specs.List.{AllZip}
use Rattle.std.specs.declared.alloc.Global.{Global}
use Rattle.lwkt_base.specs.declared.names.Ref.{Ref}
use Rattle.lwkt_base.specs.declared.names.CpuId.{CpuId}
use Rattle.lwkt_base.specs.Holding.{Holding, holding_of}
use Rattle.lwkt_core.specs.declared.events.Event.{Event}
use Rattle.lwkt_core.specs.declared.events.Event.TheVariants.{Load, Take, Share, Again, Mark, GiveOne, GiveClean, GiveWritten, Read, Write, ReadBlob, WriteBlob, Send, TakeMsg, DropMsg, Reply, Reap, Abort}
use Rattle.lwkt_core.specs.Events.{cpu_of}
use Rattle.lwkt_table.proofs.HistoryLemmas.{own-nil}
use Rattle.lwkt_bank.specs.declared.seats.CpuSeat.{CpuSeat}
use Rattle.lwkt_bank.specs.Seats.{holding}
use Rattle.lwkt_hold.specs.Fronts.{IsFront}
use Rattle.lwkt_hold.specs.Runs.{Moves, Ran}
use Rattle.lwkt_hold.specs.Steps.{held_after, is_of_token, is_on_word, ShowsEvent}
use Rattle.lwkt_hold.proofs.RunMoves.{ran_then, ran_weaker}
use Rattle.lwkt_hold.proofs.ReadMoves.{whole_front}
use Rattle.lwkt_port.specs.Works.{IsOfMessages, Grew}

-- an event of a message is no step on a token's word, and leaves the holding
mail_after : (cpu : CpuId) (e : Event) (h : Holding) → IsOfMessages cpu e → held_after e h ≡ h
mail_after cpu (Load c t) h is = refl
mail_after cpu (Take c t) h is = absurd is
mail_after cpu (Share c t) h is = absurd is
mail_after cpu (Again c t) h is = absurd is
mail_after cpu (Mark c t) h is = refl
mail_after cpu (GiveOne c t) h is = absurd is
mail_after cpu (GiveClean c t) h is = absurd is
mail_after cpu (GiveWritten c t section) h is = absurd is
mail_after cpu (Read c t i v) h is = refl
mail_after cpu (Write c t i v) h is = refl
mail_after cpu (ReadBlob c t blob) h is = refl
mail_after cpu (WriteBlob c t blob) h is = refl
mail_after cpu (Send c m to r) h is = refl
mail_after cpu (TakeMsg c m r) h is = refl
mail_after cpu (DropMsg c m) h is = refl
mail_after cpu (Reply c m) h is = refl
mail_after cpu (Reap c m) h is = refl
mail_after cpu (Abort c m) h is = refl

mail_own : (cpu : CpuId) (e : Event) → IsOfMessages cpu e → cpu_of e ≡ cpu.0
mail_own cpu (Load c t) is = absurd is
mail_own cpu (Take c t) is = absurd is
mail_own cpu (Share c t) is = absurd is
mail_own cpu (Again c t) is = absurd is
mail_own cpu (Mark c t) is = absurd is
mail_own cpu (GiveOne c t) is = absurd is
mail_own cpu (GiveClean c t) is = absurd is
mail_own cpu (GiveWritten c t section) is = absurd is
mail_own cpu (Read c t i v) is = absurd is
mail_own cpu (Write c t i v) is = absurd is
mail_own cpu (ReadBlob c t blob) is = absurd is
mail_own cpu (WriteBlob c t blob) is = absurd is
mail_own cpu (Send c m to r) is = ap (λ (x : CpuId). x.0) is
mail_own cpu (TakeMsg c m r) is = ap (λ (x : CpuId). x.0) is
mail_own cpu (DropMsg c m) is = ap (λ (x : CpuId). x.0) is
mail_own cpu (Reply c m) is = ap (λ (x : CpuId). x.0) is
mail_own cpu (Reap c m) is = ap (λ (x : CpuId). x.0) is
mail_own cpu (Abort c m) is = ap (λ (x : CpuId). x.0) is

mail_filter : (cpu : CpuId) (e : Event) (es : List Event) → IsOfMessages cpu e → filter is_on_word (e ∷ es) ≡ filter is_on_word es
mail_filter cpu (Load c t) es is = absurd is
mail_filter cpu (Take c t) es is = absurd is
mail_filter cpu (Share c t) es is = absurd is
mail_filter cpu (Again c t) es is = absurd is
mail_filter cpu (Mark c t) es is = absurd is
mail_filter cpu (GiveOne c t) es is = absurd is
mail_filter cpu (GiveClean c t) es is = absurd is
mail_filter cpu (GiveWritten c t section) es is = absurd is
mail_filter cpu (Read c t i v) es is = refl
mail_filter cpu (Write c t i v) es is = refl
mail_filter cpu (ReadBlob c t blob) es is = refl
mail_filter cpu (WriteBlob c t blob) es is = refl
mail_filter cpu (Send c m to r) es is = refl
mail_filter cpu (TakeMsg c m r) es is = refl
mail_filter cpu (DropMsg c m) es is = refl
mail_filter cpu (Reply c m) es is = refl
mail_filter cpu (Reap c m) es is = refl
mail_filter cpu (Abort c m) es is = refl

first_of : (P : Event → Type 0) (e : Event) (es : List Event) → All P (e ∷ es) → P e
first_of P e es all = all 0 e (omega arith)

rest_of : (P : Event → Type 0) (e : Event) (es : List Event) → All P (e ∷ es) → All P es
rest_of P e es all = λ k d below. all (suc k) d (omega (arith, below))

mail_moves : (P : Holding → Type 0) (cpu : CpuId) (h : Holding) (es : List Event) → P h → All (IsOfMessages cpu) es → Moves P h es h
mail_moves P cpu h [] p all = refl
mail_moves P cpu h (e ∷ es) p all =
    let same = mail_after cpu e h (first_of (IsOfMessages cpu) e es all) in
    let F : Holding → Type 0 = λ x. P x × Moves P x es h in
    subst F (sym same) (p, mail_moves P cpu h es p (rest_of (IsOfMessages cpu) e es all))

mail_words : (cpu : CpuId) (es : List Event) → All (IsOfMessages cpu) es → filter is_on_word es ≡ []
mail_words cpu [] all = refl
mail_words cpu (e ∷ es) all = mail_filter cpu e es (first_of (IsOfMessages cpu) e es all) ∙ mail_words cpu es (rest_of (IsOfMessages cpu) e es all)

-- no event of a message is one of a token
mail_plain : (cpu : CpuId) (e : Event) (es : List Event) → IsOfMessages cpu e → filter is_of_token (e ∷ es) ≡ filter is_of_token es
mail_plain cpu (Load c t) es is = absurd is
mail_plain cpu (Take c t) es is = absurd is
mail_plain cpu (Share c t) es is = absurd is
mail_plain cpu (Again c t) es is = absurd is
mail_plain cpu (Mark c t) es is = absurd is
mail_plain cpu (GiveOne c t) es is = absurd is
mail_plain cpu (GiveClean c t) es is = absurd is
mail_plain cpu (GiveWritten c t section) es is = absurd is
mail_plain cpu (Read c t i v) es is = absurd is
mail_plain cpu (Write c t i v) es is = absurd is
mail_plain cpu (ReadBlob c t blob) es is = absurd is
mail_plain cpu (WriteBlob c t blob) es is = absurd is
mail_plain cpu (Send c m to r) es is = refl
mail_plain cpu (TakeMsg c m r) es is = refl
mail_plain cpu (DropMsg c m) es is = refl
mail_plain cpu (Reply c m) es is = refl
mail_plain cpu (Reap c m) es is = refl
mail_plain cpu (Abort c m) es is = refl

mail_tokens : (cpu : CpuId) (es : List Event) → All (IsOfMessages cpu) es → filter is_of_token es ≡ []
mail_tokens cpu [] all = refl
mail_tokens cpu (e ∷ es) all = mail_plain cpu e es (first_of (IsOfMessages cpu) e es all) ∙ mail_tokens cpu es (rest_of (IsOfMessages cpu) e es all)

-- a call on the ports, as a run: its events are no steps on words of tokens, and the seat stays as it is
pub ran_mail : (P : Holding → Type 0) (cpu : CpuId) (n : ℕ) (s : CpuSeat) (t u : Vec Event Global) → cpu ≡ s.cpu → P (holding s) → Grew cpu n t u → Ran P n s s t u
ran_mail P cpu n s t u mine p g = record {
  bank = refl;
  cpu = refl;
  deeds = [];
  grows = refl;
  mine = own-nil s.cpu.0;
  in_trace = mail_tokens cpu g.made g.own;
  done = g.made;
  trace = g.trace_is;
  own = λ k d below. mail_own cpu _ (g.own k d below) ∙ ap (λ (x : CpuId). x.0) mine;
  traced = let F : List Event → Type 0 = λ xs. AllZip ShowsEvent [] xs in subst F (sym (mail_words cpu g.made g.own)) tt;
  moves = mail_moves P cpu (holding s) g.made p g.own;
  few = g.few;
  grown = g.grown;
  room = g.room;
}

-- a call on the ports with a held list
pub ran_mail_held : (refs : List Ref) (cpu : CpuId) (n m : ℕ) (s : CpuSeat) (t u : Vec Event Global) → n ≤ m → cpu ≡ s.cpu → holding s ≡ holding_of refs → Grew cpu n t u → Ran (IsFront refs) m s s t u
ran_mail_held refs cpu n m s t u few mine held g = ran_weaker (IsFront refs) (IsFront refs) n m s s t u (λ h p. p) few (ran_mail (IsFront refs) cpu n s t u mine (whole_front refs (holding s) held) g)

-- a call on the ports, and then what was held given up
pub ran_mail_left : (refs : List Ref) (cpu : CpuId) (n : ℕ) (a b : CpuSeat) (t v u : Vec Event Global) → n ≤ 128 → cpu ≡ a.cpu → holding a ≡ holding_of refs → Grew cpu n t v → Ran (IsFront refs) 192 a b v u → Ran (IsFront refs) 320 a b t u
ran_mail_left refs cpu n a b t v u few mine held g ran =
    ran_weaker (IsFront refs) (IsFront refs) (128 + 192) 320 a b t u (λ h p. p) (omega arith)
    (ran_then (IsFront refs) 128 192 a a b t v u (ran_mail_held refs cpu n 128 a t v few mine held g) ran)
