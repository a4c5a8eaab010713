use Rattle.std.proofs.Common.{suc, ◌≡◌, ◌≢◌, ℕ, ◌+◌, ◌*◌, ◌<◌, ◌≤◌, List, [], ◌∷◌, ◌++◌, length, refl, ap, sym, ◌∙◌, subst, arith, inl, inr, length-append}
use Rattle.std.specs.Prelude.{All, fold, Vec, Result, Ok, Err, OnErr}
use Rattle.std.specs.declared.alloc.Global.{Global}
use Rattle.std.proofs.lemmas.List.Elements.{All-append, All-from_recursion}
use Rattle.std.proofs.lemmas.List.Sums.{fold-append}
use Rattle.lwkt_base.specs.declared.asks.Ask.{Ask}
use Rattle.lwkt_base.specs.declared.asks.Answer.{Answer}
use Rattle.lwkt_base.specs.Holding.{Holding}
use Rattle.lwkt_core.specs.declared.events.Event.{Event}
use Rattle.lwkt_bank.specs.declared.seats.CpuSeat.{CpuSeat}
use Rattle.lwkt_bank.specs.Seats.{BankId, bank_of}
use Rattle.lwkt_hold.specs.Runs.{Ran as Runs}
use Rattle.lwkt_hold.proofs.RunMoves.{ran_none, ran_then, ran_weaker, ran_with_room}
use Rattle.lwkt_hold.proofs.ReadMoves.{ran_still}
use Rattle.lwkt_cpu.specs.declared.answers.Turned.{Turned}
use Rattle.lwkt_cpu.specs.declared.answers.Turned.TheVariants.{Ran, Idle, AllExited}
use Rattle.lwkt_cpu.specs.declared.answers.Drove.{Drove}
use Rattle.lwkt_cpu.specs.declared.threads.Thread.{Thread}
use Rattle.lwkt_cpu.specs.Processors.{Processor}
use Rattle.lwkt_cpu.specs.Searches.{IsOfOne}
use Rattle.lwkt_cpu.specs.Turning.{IsOfThread, HasSameEvents, LacksRoom, MakesTurn}
use Rattle.lwkt_cpu.specs.Driving.{Made, stood, IsOfSome, with_turn, none_driven, Drives, DrivesShort}

-- a turn more, after others
pub made_more : {B : Type 0} (polled : B → Answer → Ask → B → Type 0) (bank : BankId) (old mid new : Processor B) (t v u : Vec Event Global) (turns : List Turned) (turned : Turned) → Made polled bank old mid t v turns → MakesTurn polled bank mid new v u turned → Made polled bank old new t u (turns ++ turned ∷ [])
made_more {B} polled bank old mid new t v u [] turned made last =
    let F : Processor B → Type 0 = λ p. MakesTurn polled bank p new v u turned in
    let G : Vec Event Global → Type 0 = λ x. MakesTurn polled bank old new x u turned in
    (new, (u, (subst G made.1 (subst F made.0 last), (refl, refl))))
made_more polled bank old mid new t v u (x ∷ turns) turned made last =
    (made.0, (made.1.0, (made.1.1.0, made_more polled bank made.0 mid new made.1.0 v u turns turned made.1.1.1 last)))

-- the holdings at one point more
of_first : (threads : List Thread) (points : List (List Thread)) (h : Holding) → IsOfOne threads h → IsOfSome (threads ∷ points) h
of_first threads points h one = inr (0, one)

of_later : (threads : List Thread) (points : List (List Thread)) (h : Holding) → IsOfSome points h → IsOfSome (threads ∷ points) h
of_later threads points h some = elim some [ inl none ↦ inl none | inr one ↦ inr (suc one.0, one.1) ]

-- what the threads are before the first turn is the first of the points
of_head : {B : Type 0} (polled : B → Answer → Ask → B → Type 0) (bank : BankId) (old new : Processor B) (t u : Vec Event Global) (turns : List Turned) (made : Made polled bank old new t u turns) (h : Holding) → IsOfOne old.threads h → IsOfSome (stood polled bank old new t u turns made) h
of_head polled bank old new t u [] made h one = of_first old.threads [] h one
of_head polled bank old new t u (turned ∷ turns) made h one = of_first old.threads (stood polled bank made.0 new made.1.0 u turns made.1.1.1) h one

-- the events of all turns
pub made_ran : {B : Type 0} (polled : B → Answer → Ask → B → Type 0) (bank : BankId) (old new : Processor B) (t u : Vec Event Global) (turns : List Turned) (made : Made polled bank old new t u turns) → Runs (IsOfSome (stood polled bank old new t u turns made)) (4096 * length turns) old.seat new.seat t u
made_ran {B} polled bank old new t u [] made =
    let P : Holding → Type 0 = IsOfSome (old.threads ∷ []) in
    let F : Processor B → Type 0 = λ p. Runs P 0 old.seat p.seat t u in
    let G : Vec Event Global → Type 0 = λ v. Runs P 0 old.seat old.seat t v in
    subst F (sym made.0) (subst G (sym made.1) (ran_still P 0 old.seat t))
made_ran polled bank old new t u (turned ∷ turns) made =
    let mid = made.0 in
    let v = made.1.0 in
    let rest = made.1.1.1 in
    let Q : Holding → Type 0 = IsOfSome (stood polled bank mid new v u turns rest) in
    let P : Holding → Type 0 = IsOfSome (old.threads ∷ stood polled bank mid new v u turns rest) in
    ran_weaker P P (4096 + 4096 * length turns) (4096 * length (turned ∷ turns)) old.seat new.seat t u (λ h p. p) (omega arith)
    (ran_then P 4096 (4096 * length turns) old.seat mid.seat new.seat t v u
    (ran_weaker (IsOfThread old.threads mid.threads) P 4096 4096 old.seat mid.seat t v (λ h p. elim p [ inl none ↦ inl none | inr some ↦ elim some [ inl one ↦ of_first old.threads (stood polled bank mid new v u turns rest) h one | inr one ↦ of_later old.threads (stood polled bank mid new v u turns rest) h (of_head polled bank mid new v u turns rest h one) ] ]) (omega arith) made.1.1.0.ran)
    (ran_weaker Q P (4096 * length turns) (4096 * length turns) mid.seat new.seat v u (λ h p. of_later old.threads (stood polled bank mid new v u turns rest) h p) (omega arith) (made_ran polled bank mid new v u turns rest)))

-- the same over a trace that was given more room afterwards
ran_with_more : (P : Holding → Type 0) (n : ℕ) (a b : CpuSeat) (t v u : Vec Event Global) → HasSameEvents v u → Runs P n a b t v → Runs P n a b t u
ran_with_more P n a b t v u same ran =
    ran_weaker P P (n + 0) n a b t u (λ h p. p) (omega arith)
    (ran_then P n 0 a b b t v u ran (ran_with_room P 0 b b v u u same.0 same.1 same.2 (ran_none P b u)))

-- turns driven so far, none of which said that every thread has ended
pub record IsDriven {B : Type 0} (polled : B → Answer → Ask → B → Type 0) (bank : BankId) (old new : Processor B) (t u : Vec Event Global) (drove : Drove) (count : ℕ) : Type 0 where
  pub turns : List Turned
  pub made : Made polled bank old new t u turns
  pub counts : drove ≡ fold with_turn none_driven turns
  pub going : All (λ turned. turned ≢ AllExited) turns
  pub long : length turns ≡ count
  pub few : drove.ran + drove.idle ≤ count
  pub bank_same : bank_of new.seat ≡ bank_of old.seat
  pub table_same : new.post.seat.table ≡ old.post.seat.table

one_more : (drove : Drove) (turned : Turned) → (with_turn drove turned).ran + (with_turn drove turned).idle ≡ drove.ran + drove.idle + 1
one_more drove (Ran thread) = omega arith
one_more drove Idle = omega arith
one_more drove AllExited = omega arith

counts_more : (drove : Drove) (turns : List Turned) (turned : Turned) → drove ≡ fold with_turn none_driven turns → with_turn drove turned ≡ fold with_turn none_driven (turns ++ turned ∷ [])
counts_more drove turns turned is = ap (λ d. with_turn d turned) is ∙ sym (fold-append with_turn none_driven turns (turned ∷ []))

pub driven_more : {B : Type 0} (polled : B → Answer → Ask → B → Type 0) (bank : BankId) (old mid new : Processor B) (t v u : Vec Event Global) (drove next : Drove) (turned : Turned) (count : ℕ) → IsDriven polled bank old mid t v drove count → MakesTurn polled bank mid new v u turned → turned ≢ AllExited → bank_of new.seat ≡ bank_of mid.seat → new.post.seat.table ≡ mid.post.seat.table → next ≡ with_turn drove turned → IsDriven polled bank old new t u next (count + 1)
driven_more polled bank old mid new t v u drove next turned count d last on same table is = record {
  turns = d.turns ++ turned ∷ [];
  made = made_more polled bank old mid new t v u d.turns turned d.made last;
  counts = is ∙ counts_more drove d.turns turned d.counts;
  going = All-append (λ x. x ≢ AllExited) d.turns (turned ∷ []) d.going (All-from_recursion (λ x. x ≢ AllExited) (turned ∷ []) (on, tt));
  long = length-append d.turns (turned ∷ []) ∙ ap (λ n. n + 1) d.long;
  few = let F : Drove → Type 0 = λ x. x.ran + x.idle ≤ count + 1 in subst F (sym is) (omega (arith, one_more drove turned, d.few));
  bank_same = same ∙ d.bank_same;
  table_same = table ∙ d.table_same;
}

-- all turns were made
pub drives_all : {B : Type 0} (polled : B → Answer → Ask → B → Type 0) (bank : BankId) (old new : Processor B) (t u : Vec Event Global) (drove : Drove) (count limit : ℕ) → count ≡ limit → IsDriven polled bank old new t u drove count → Drives polled bank old new t u limit drove
drives_all polled bank old new t u drove count limit is d = record {
  turns = d.turns;
  made = d.made;
  ran = made_ran polled bank old new t u d.turns d.made;
  counts = d.counts;
  stops = inl (d.going, d.long ∙ is);
}

-- the last turn said that every thread has ended
pub drives_over : {B : Type 0} (polled : B → Answer → Ask → B → Type 0) (bank : BankId) (old mid new : Processor B) (t v u : Vec Event Global) (drove next : Drove) (turned : Turned) (count limit : ℕ) → count < limit → turned ≡ AllExited → next ≡ with_turn drove turned → IsDriven polled bank old mid t v drove count → MakesTurn polled bank mid new v u turned → Drives polled bank old new t u limit next
drives_over polled bank old mid new t v u drove next turned count limit less last is d turn =
    let made = made_more polled bank old mid new t v u d.turns turned d.made turn in
    record {
      turns = d.turns ++ turned ∷ [];
      made = made;
      ran = made_ran polled bank old new t u (d.turns ++ turned ∷ []) made;
      counts = is ∙ counts_more drove d.turns turned d.counts;
      stops = inr (d.turns, (d.going, ap (λ x. d.turns ++ x ∷ []) last, omega (arith, length-append d.turns (turned ∷ []), d.long, less)));
    }

-- a turn was refused: those made so far stand
pub short : {B : Type 0} (polled : B → Answer → Ask → B → Type 0) (bank : BankId) (old mid new : Processor B) (t v u : Vec Event Global) (drove : Drove) (count limit : ℕ) → count < limit → IsDriven polled bank old mid t v drove count → new ≡ mid → HasSameEvents v u → LacksRoom u → DrivesShort polled bank old new t u limit
short {B} polled bank old mid new t v u drove count limit less d same is full =
    let F : Processor B → Type 0 = λ p. DrivesShort polled bank old p t u limit in
    subst F (sym same) (record {
      turns = d.turns;
      v = v;
      made = d.made;
      same = is;
      ran = ran_with_more (IsOfSome (stood polled bank old mid t v d.turns d.made)) (4096 * length d.turns) old.seat mid.seat t v u is (made_ran polled bank old mid t v d.turns d.made);
      few = omega (arith, d.long, less);
      going = d.going;
      full = full;
    })

-- of a refusal, whichever it is
pub on_err : {A E : Type 0} (r : Result A E) (P : Type 0) → P → OnErr r P
on_err (Ok x) P p = tt
on_err (Err e) P p = p
