-- Turns and rounds keep the threads of a machine.
use Rattle.std.proofs.Common.{◌≡◌, ℕ, zero, suc, ◌+◌, ◌<◌, List, [], ◌∷◌, length, set, refl, ap, sym, ◌∙◌, subst, inl, inr, arith, Option, Some, None}
use Rattle.std.specs.Prelude.{Bool, true, false, Vec, slice_get}
use Rattle.std.specs.List.{AllZip}
use Rattle.std.specs.declared.alloc.Global.{Global}
use Rattle.std.proofs.lemmas.Bool.{cases_eq}
use Rattle.std.proofs.lemmas.List.{length-set}
use Rattle.std.proofs.lemmas.Option.{slice_get_within}
use Rattle.lwkt_base.specs.declared.asks.Ask.{Ask}
use Rattle.lwkt_base.specs.declared.asks.Answer.{Answer}
use Rattle.lwkt_base.specs.declared.names.CpuId.{CpuId}
use Rattle.lwkt_core.specs.declared.events.Event.{Event}
use Rattle.lwkt_bank.specs.Seats.{BankId}
use Rattle.lwkt_port.specs.Chains.{Chain}
use Rattle.lwkt_cpu.specs.declared.answers.Turned.{Turned}
use Rattle.lwkt_cpu.specs.declared.answers.Turned.TheVariants.{Ran, Idle, AllExited}
use Rattle.lwkt_cpu.specs.Processors.{Processor, AllOver}
use Rattle.lwkt_drive.specs.Appending.{AppendsTurns}
use Rattle.lwkt_cpu.specs.Searches.{point}
use Rattle.lwkt_cpu.specs.Turning.{Chooses, Turns, MakesTurn}
use Rattle.lwkt_cpu.specs.Waking.{Ward, ward, WakesAt}
use Rattle.lwkt_cpu.proofs.SearchMoves.{finds_long}
use Rattle.lwkt_cpu.proofs.SightMoves.{IsLooked}
use Rattle.lwkt_lane.proofs.PlaceMoves.{some_same, get_set_same, get_set_other}
use Rattle.lwkt_drive.specs.declared.driven.Limits.{Limits}
use Rattle.lwkt_machine.specs.Bodies.{Scripted, IsPolled}
use Rattle.lwkt_machine.specs.Machines.{Rig}
use Rattle.lwkt_machine.specs.Turns.{TurnsAt}
use Rattle.lwkt_machine.proofs.ListMoves.{zip_long, zip_get}
use Rattle.lwkt_machine.proofs.SightMoves.{sent_looked}
use Rattle.lwkt_machine.specs.Drives.{IsDrivenMachine}
use Rattle.lwkt_machine.proofs.DrivenMoves.{driven_at, processor_at}
use Rattle.lwkt_machine.proofs.PartMoves.{driven_many}
use Rattle.lwkt_script.specs.declared.scripts.ThreadSpec.{ThreadSpec}
use Rattle.lwkt_script.specs.Format.{threads_on}
use Rattle.lwkt_drive.specs.declared.driven.Driven.{Driven}
use Rattle.lwkt_drive.specs.Course.{IsDriven}
use Rattle.lwkt_verdict.specs.Run.{whose}
use Rattle.lwkt_run.specs.Running.{HasThreads, Scene, Going, going, says_over, both, TakesTurn, MakesTurnAt, MakesTurns, MakesKeptRound, HasMadeRounds}

-- what each step of a chain keeps, the chain keeps
pub chain_keeps : (A : Type 0) (Step : ℕ → A → A → Type 0) (P : A → Type 0) → ((k : ℕ) (x y : A) → Step k x y → P x → P y) → (n : ℕ) (x y : A) → Chain A Step n x y → P x → P y
unfolding Chain
chain_keeps A Step P keeps zero x y chain p = subst P (sym chain) p
chain_keeps A Step P keeps (suc n) x y chain p = keeps n chain.0 y chain.2 (chain_keeps A Step P keeps n x chain.0 chain.1 p)

wakes_long : (n : ℕ) (x y : Ward) → Chain Ward WakesAt n x y → length y.threads ≡ length x.threads
wakes_long n x y chain =
    let P : Ward → Type 0 = λ w. length w.threads ≡ length x.threads in
    chain_keeps Ward WakesAt P (λ k v w step p. ap length step.1.1.1 ∙ length-set v.threads k step.1.0 ∙ p) n x y chain refl

chooses_long : {B : Type 0} (old new : Processor B) (t u : Vec Event Global) (runs found : Option ℕ) → Chooses old new t u runs found → length new.threads ≡ length old.threads
chooses_long {B} old new t u (Some place) found c = ap (λ (p : Processor B). length p.threads) c.1
chooses_long old new t u None found c = finds_long old.cursor (point old.seat old.threads t) (point new.seat new.threads u) found c.0

turns_long : {B : Type 0} (polled : B → Answer → Ask → B → Type 0) (bank : BankId) (old new : Processor B) (t u : Vec Event Global) (turned : Turned) → Turns polled bank old new t u turned → length new.threads ≡ length old.threads
turns_long polled bank old new t u (Ran place) is =
    let mid = is.0 in
    let runs = is.1.1.1 in
    ap length runs.threads ∙ length-set mid.threads place runs.now ∙ chooses_long old mid t is.1.0 old.running (Some place) is.1.1.0
turns_long polled bank old new t u Idle is = chooses_long old new t u old.running None is.0
turns_long polled bank old new t u AllExited is = chooses_long old new t u old.running None is.0

-- a turn keeps the number of threads
turn_long : {B : Type 0} (polled : B → Answer → Ask → B → Type 0) (bank : BankId) (old new : Processor B) (t u : Vec Event Global) (turned : Turned) → MakesTurn polled bank old new t u turned → length new.threads ≡ length old.threads
turn_long polled bank old new t u turned m = turns_long polled bank m.mid new m.v u turned m.turns ∙ wakes_long (length old.threads) (ward m.mail.post old.threads m.mail.v) (ward m.mid.post m.mid.threads m.v) m.mail.wakes

-- turns that are kept do
kept_long : {B : Type 0} (polled : B → Answer → Ask → B → Type 0) (bank : BankId) (old new : Processor B) (t u : List Event) (turns : List Turned) → AppendsTurns polled bank old new t u turns → length new.threads ≡ length old.threads
kept_long {B} polled bank old new t u [] made = ap (λ (p : Processor B). length p.threads) made.0
kept_long polled bank old new t u (turned ∷ turns) made =
    let k = made.1.1.0 in
    kept_long polled bank made.0 new made.1.0 u turns made.1.1.1 ∙ turn_long polled bank old made.0 k.room k.part turned k.does

-- one processor is another, with as many threads
has_set : (cpus : ℕ) (threads : List ThreadSpec) (ps : List (Processor Scripted)) (k : ℕ) (p q : Processor Scripted) → slice_get ps k ≡ Some p → length q.threads ≡ length p.threads → HasThreads cpus threads ps → HasThreads cpus threads (set ps k q)
has_set cpus threads ps k p q at same has = record {
  as_many = length-set ps k q ∙ has.as_many;
  each = λ j x is. elim (cases_eq j k) [
    | inl here ↦
        let F : ℕ → Type 0 = λ i. slice_get (set ps k q) i ≡ Some x in
        let e : q ≡ x = some_same q x (Some q) refl (sym (get_set_same ps k q (slice_get_within ps k p at)) ∙ subst F here is) in
        let G : ℕ → Type 0 = λ i. length x.threads ≡ threads_on i threads in
        subst G (sym here) (ap (λ (y : Processor Scripted). length y.threads) (sym e) ∙ same ∙ has.each k p at)
    | inr apart ↦ has.each j x (sym (get_set_other ps k j q apart) ∙ is)
  ];
}

-- processors that were looked at have as many threads
has_looked : (cpus : ℕ) (threads : List ThreadSpec) (olds news : List (Processor Scripted)) → AllZip (IsLooked {B = Scripted}) olds news → HasThreads cpus threads olds → HasThreads cpus threads news
has_looked cpus threads olds news zip has = record {
  as_many = zip_long (IsLooked {B = Scripted}) olds news zip ∙ has.as_many;
  each = λ k q at.
      let x = zip_get (IsLooked {B = Scripted}) olds news zip k q at in
      ap (λ (y : Processor Scripted). length y.threads) x.1.1.else_same ∙ has.each k x.0 x.1.0;
}

pub has_turned : (cpus : ℕ) (threads : List ThreadSpec) (cpu : ℕ) (old new : Rig Scripted) (t u : Vec Event Global) (turned : Turned) → TurnsAt IsPolled cpu old new t u turned → HasThreads cpus threads old.cpus → HasThreads cpus threads new.cpus
has_turned cpus threads cpu old new t u turned d has =
    let F : List (Processor Scripted) → Type 0 = λ ps. HasThreads cpus threads ps in
    let e = d.turns in
    subst F (sym e.cpus) (has_set cpus threads d.seen cpu e.before e.now e.at_before (turn_long IsPolled old.bank e.before e.now t u turned e.does) (has_looked cpus threads old.cpus d.seen (sent_looked cpu old.cpus d.seen d.sees) has))

has_turn : (cpus : ℕ) (threads : List ThreadSpec) (cpu : ℕ) (x y : Scene) → MakesTurnAt cpu x y → HasThreads cpus threads x.machine.cpus → HasThreads cpus threads y.machine.cpus
has_turn cpus threads cpu x y turn has = has_turned cpus threads cpu x.machine y.machine turn.1.room turn.1.part turn.0 turn.1.makes has

-- what each turn keeps, a round keeps
pub round_keeps : (P : Scene → Type 0) → ((cpu : ℕ) (x y : Scene) → MakesTurnAt cpu x y → P x → P y) → (over : Bool) (number : ℕ) (x y : Scene) → MakesKeptRound over number x y → P x → P y
round_keeps P keeps over number x y round p = chain_keeps Going TakesTurn (λ z. P z.at) (λ cpu v w turn q. keeps cpu v.at w.at (turn.0, turn.1.0) q) (length x.machine.cpus) (going x true) (going y over) round p

-- the rounds of a run too
pub rounds_keep : (P : Scene → Type 0) → ((cpu : ℕ) (x y : Scene) → MakesTurnAt cpu x y → P x → P y) → (limit : ℕ) (x y : Scene) → HasMadeRounds limit x y → P x → P y
rounds_keep P keeps limit x y rounds p =
    let go : (k : ℕ) (v w : Scene) → MakesKeptRound false k v w → P v → P w = λ k v w round q. round_keeps P keeps false k v w round q in
    elim rounds [
      | inl ended ↦
          let e = ended.1.1 in
          round_keeps P keeps true ended.0 e.mid y e.last (chain_keeps Scene (MakesKeptRound false) P go ended.0 x e.mid e.earlier p)
      | inr whole ↦ chain_keeps Scene (MakesKeptRound false) P go limit x y whole p
    ]

-- and the turns of an order
pub turns_keep : (P : Scene → Type 0) → ((cpu : ℕ) (x y : Scene) → MakesTurnAt cpu x y → P x → P y) → (order : List ℕ) (x y : Scene) → MakesTurns order x y → P x → P y
turns_keep P keeps order x y turns p = chain_keeps Scene (λ k. MakesTurnAt (whose order k)) P (λ k v w turn q. keeps (whose order k) v w turn q) (length order) x y turns p

-- the turns of an order keep the threads of a machine
pub has_turns : (cpus : ℕ) (threads : List ThreadSpec) (order : List ℕ) (x y : Scene) → MakesTurns order x y → HasThreads cpus threads x.machine.cpus → HasThreads cpus threads y.machine.cpus
has_turns cpus threads order x y turns has = turns_keep (λ z. HasThreads cpus threads z.machine.cpus) (has_turn cpus threads) order x y turns has

-- and keep the bank
pub turns_bank : (order : List ℕ) (x y : Scene) → MakesTurns order x y → y.machine.bank ≡ x.machine.bank
turns_bank order x y turns = turns_keep (λ z. z.machine.bank ≡ x.machine.bank) (λ cpu v w turn h. turn.1.makes.bank ∙ h) order x y turns refl

-- and the book
pub turns_book : (order : List ℕ) (x y : Scene) → MakesTurns order x y → y.machine.book ≡ x.machine.book
turns_book order x y turns = turns_keep (λ z. z.machine.book ≡ x.machine.book) (λ cpu v w turn h. turn.1.makes.book ∙ h) order x y turns refl

-- a machine that was driven
pub has_driven : (answers : CpuId → ℕ → Bool → Type 0) (limits : Limits) (cpus : ℕ) (threads : List ThreadSpec) (old new : Rig Scripted) → IsDrivenMachine IsPolled answers limits old new → HasThreads cpus threads old.cpus → HasThreads cpus threads new.cpus
has_driven answers limits cpus threads old new drives has =
    let Is : Driven Scripted → Driven Scripted → Type 0 = λ d e. IsDriven IsPolled answers old.bank limits d e e.ending in
    record {
      as_many = driven_many IsPolled answers limits old new drives ∙ has.as_many;
      each = λ k q at.
          let e = driven_at new.driven k q (ap (λ (ps : List (Processor Scripted)). slice_get ps k) (sym drives.news) ∙ at) in
          let d = zip_get Is old.driven new.driven drives.driven k e.0 e.1.0 in
          let was : slice_get old.cpus k ≡ Some d.0.cpu = ap (λ (ps : List (Processor Scripted)). slice_get ps k) drives.olds ∙ processor_at old.driven k d.0 d.1.0 in
          ap (λ (x : Processor Scripted). length x.threads) (sym e.1.1) ∙ kept_long IsPolled old.bank d.0.cpu e.0.cpu d.0.trace.items e.0.trace.items d.1.1.turns d.1.1.made ∙ has.each k d.0.cpu was;
    }

-- the processors below a number are over
abbrev pub AreOverBelow : ℕ → List (Processor Scripted) → Type 0
AreOverBelow n cpus = (k : ℕ) (p : Processor Scripted) → k < n → slice_get cpus k ≡ Some p → AllOver p.threads

pub over_more : (cpus : List (Processor Scripted)) (at : ℕ) (q : Processor Scripted) → at < length cpus → AllOver q.threads → AreOverBelow at cpus → AreOverBelow (at + 1) (set cpus at q)
over_more cpus at q within over below k x less is = elim (cases_eq k at) [
  | inl here ↦
      let F : ℕ → Type 0 = λ i. slice_get (set cpus at q) i ≡ Some x in
      let e : q ≡ x = some_same q x (Some q) refl (sym (get_set_same cpus at q within) ∙ subst F here is) in
      let G : Processor Scripted → Type 0 = λ y. AllOver y.threads in
      subst G e over
  | inr apart ↦ below k x (omega (arith, less, apart)) (sym (get_set_other cpus at k q apart) ∙ is)
]

-- processors that were looked at are over still
over_looked : (n : ℕ) (olds news : List (Processor Scripted)) → AllZip (IsLooked {B = Scripted}) olds news → AreOverBelow n olds → AreOverBelow n news
over_looked n olds news zip below k q less at =
    let x = zip_get (IsLooked {B = Scripted}) olds news zip k q at in
    let F : Processor Scripted → Type 0 = λ y. AllOver y.threads in
    subst F (sym x.1.1.else_same) (below k x.0 less x.1.0)

-- a turn that says that every thread of its processor has ended, and the processors before it are over
pub over_later : (cpu : ℕ) (old new : Rig Scripted) (t u : Vec Event Global) (turned : Turned) → TurnsAt IsPolled cpu old new t u turned → turned ≡ AllExited → AreOverBelow cpu old.cpus → AreOverBelow (cpu + 1) new.cpus
over_later cpu old new t u turned d is below =
    let F : Turned → Type 0 = λ x. TurnsAt IsPolled cpu old new t u x in
    let e : TurnsAt IsPolled cpu old new t u AllExited = subst F is d in
    let G : List (Processor Scripted) → Type 0 = λ ps. AreOverBelow (cpu + 1) ps in
    let o = e.turns in
    subst G (sym o.cpus) (over_more e.seen cpu o.now (slice_get_within e.seen cpu o.before o.at_before) o.does.turns.1 (over_looked cpu old.cpus e.seen (sent_looked cpu old.cpus e.seen e.sees) below))

false_is_true : false ≡ true → ⊥
false_is_true is = cc

-- both are so
pub both_true : (a b : Bool) → both a b ≡ true → (a ≡ true) × (b ≡ true)
both_true true b is = (refl, is)
both_true false b is = absurd (false_is_true is)

-- a turn that says so is one at which every thread had ended
pub says_all : (turned : Turned) → says_over turned ≡ true → turned ≡ AllExited
says_all (Ran thread) is = absurd (false_is_true is)
says_all Idle is = absurd (false_is_true is)
says_all AllExited is = refl
