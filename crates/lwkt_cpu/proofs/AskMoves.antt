use Rattle.std.proofs.Common.{◌≡◌, ℕ, ◌+◌, ◌<◌, ◌≤◌, List, [], ◌∷◌, ◌++◌, length, take, get_or, refl, ap, sym, ◌∙◌, subst, arith, inl, inr, length-append, append_assoc}
use Rattle.std.specs.Prelude.{◌⊎◌, false, true, All, Vec, OnErr, OnOk, IfErr, Result, Ok, Err}
use Rattle.std.specs.declared.alloc.Global.{Global}
use Rattle.std.proofs.lemmas.List.{take_at}
use Rattle.std.proofs.lemmas.List.Elements.{All-append, All-from_recursion}
use Rattle.std.proofs.Math.ListN.{get_or-append}
use Rattle.std.proofs.Math.Seq.{get_or-append_seam}
use Rattle.std.proofs.lemmas.List.{get_or-append-add}
use Rattle.lwkt_base.specs.declared.asks.Answer.{Answer}
use Rattle.lwkt_base.specs.declared.names.TokId.{TokId}
use Rattle.lwkt_base.specs.declared.names.Ref.{Ref}
use Rattle.lwkt_base.specs.declared.faults.Fault.TheVariants.{Broken, NotHeld, NotLast}
use Rattle.lwkt_base.specs.Refs.{AreExchanged}
use Rattle.lwkt_hold.specs.declared.holds.Hold.{Hold}
use Rattle.lwkt_hold.specs.Givings.{ReleasesLast}
use Rattle.lwkt_base.specs.declared.faults.Fault.{Fault}
use Rattle.lwkt_base.specs.Holding.{holding_of}
use Rattle.lwkt_core.specs.declared.events.Event.{Event}
use Rattle.lwkt_bank.specs.declared.seats.CpuSeat.{CpuSeat}
use Rattle.lwkt_bank.specs.Seats.{BankId, bank_of, tokens_of, holding}
use Rattle.lwkt_hold.specs.declared.answers.Acquired.{Acquired}
use Rattle.lwkt_hold.specs.declared.answers.Acquired.TheVariants.{Got, MustSwitch}
use Rattle.lwkt_hold.specs.declared.answers.Missed.{Missed}
use Rattle.lwkt_hold.specs.Fronts.{IsFront, IsBetween}
use Rattle.lwkt_hold.specs.Runs.{Ran}
use Rattle.lwkt_hold.specs.Refusals.{get_refusal, RefusedBy}
use Rattle.lwkt_hold.specs.Outcomes.{Takes, Switches, Acquires, ChangesNothing}
use Rattle.lwkt_base.specs.declared.asks.Answer.TheVariants.{Done}
use Rattle.lwkt_cpu.specs.declared.nexts.Next.{Next}
use Rattle.lwkt_cpu.specs.declared.nexts.Next.TheVariants.{Readies}
use Rattle.lwkt_cpu.specs.Leaving.{GivesUp}
use Rattle.lwkt_hold.proofs.RunMoves.{ran_then, ran_weaker}
use Rattle.lwkt_hold.proofs.OutcomeMoves.{get_there}

-- a run within the fronts of one list, as one within those of two, of at most 320 events
pub ran_left : (refs others : List Ref) (m : ℕ) (a b : CpuSeat) (t u : Vec Event Global) → m ≤ 320 → Ran (IsFront refs) m a b t u → Ran (IsBetween refs others) 320 a b t u
ran_left refs others m a b t u few ran = ran_weaker (IsFront refs) (IsBetween refs others) m 320 a b t u (λ h front. inl front) few ran

pub ran_right : (refs others : List Ref) (m : ℕ) (a b : CpuSeat) (t u : Vec Event Global) → m ≤ 320 → Ran (IsFront others) m a b t u → Ran (IsBetween refs others) 320 a b t u
ran_right refs others m a b t u few ran = ran_weaker (IsFront others) (IsBetween refs others) m 320 a b t u (λ h front. inr front) few ran

-- a missed reference, and what was held given up
pub ran_switched : (refs others : List Ref) (a b c : CpuSeat) (t u v : Vec Event Global) (front : List Ref) → front ≡ refs → Ran (IsFront refs) 1 a b t u → Ran (IsFront front) 192 b c u v → Ran (IsBetween refs others) 320 a c t v
ran_switched refs others a b c t u v front same first second =
    let F : List Ref → Type 0 = λ xs. Ran (IsFront xs) 192 b c u v in
    ran_left refs others 193 a c t v (omega arith) (ran_then (IsFront refs) 1 192 a b c t u v first (subst F same second))

-- the references before the last one
pub front_is : (refs now : List Ref) (new : Ref) (held : ℕ) → now ≡ refs ++ new ∷ [] → held ≡ length refs → take held now ≡ refs
front_is refs now new held is long = ap (λ n. take n now) long ∙ ap (λ xs. take (length refs) xs) is ∙ take_at refs (new ∷ []) (length refs) refl

pub one_more : (refs now : List Ref) (new : Ref) → now ≡ refs ++ new ∷ [] → length now ≡ length refs + 1
one_more refs now new is = ap length is ∙ length-append refs (new ∷ [])

-- the tokens of a list exist, and so do those of one with a reference more, or less
abbrev pub There : ℕ → List Ref → Type 0
There n refs = All (λ r. r.tok.0 < n) refs

pub there_pushed : (n : ℕ) (refs now : List Ref) (new : Ref) → now ≡ refs ++ new ∷ [] → new.tok.0 < n → There n refs → There n now
there_pushed n refs now new is below all =
    let P : Ref → Type 0 = λ r. r.tok.0 < n in
    let F : List Ref → Type 0 = λ xs. There n xs in
    subst F (sym is) (All-append P refs (new ∷ []) all (All-from_recursion P (new ∷ []) (below, tt)))

pub there_same : (n : ℕ) (refs now : List Ref) → now ≡ refs → There n refs → There n now
there_same n refs now is all = let F : List Ref → Type 0 = λ xs. There n xs in subst F (sym is) all

-- so many references given up, by another count of them
pub given_up_at : (a b : CpuSeat) (refs : List Ref) (m n : ℕ) (t u : Vec Event Global) (next : Next Answer) → m ≡ n → GivesUp a b refs m t u (Readies Done) next → GivesUp a b refs n t u (Readies Done) next
given_up_at a b refs m n t u next same g = let F : ℕ → Type 0 = λ k. GivesUp a b refs k t u (Readies Done) next in subst F same g

-- what asking for a reference came to, by its answer
pub got_it : (refs now : List Ref) (new : Ref) (a b : CpuSeat) (t u : Vec Event Global) (x : Acquired) → x ≡ Got → Acquires refs now new a b t u x → Takes refs now new a b t u
got_it refs now new a b t u x is m = let F : Acquired → Type 0 = λ y. Acquires refs now new a b t u y in subst F is m

pub switched : (refs now : List Ref) (new : Ref) (a b : CpuSeat) (t u : Vec Event Global) (x : Acquired) (why : Missed) → x ≡ MustSwitch why → Acquires refs now new a b t u x → Switches refs now new why a b t u
switched refs now new a b t u x why is m = let F : Acquired → Type 0 = λ y. Acquires refs now new a b t u y in subst F is m

-- the token of a reference that wasn't refused exists
pub there_for : {A : Type 0} (bank : BankId) (s : CpuSeat) (refs : List Ref) (new : Ref) (Late : Fault → Type 0) (x : A) → bank_of s ≡ bank → RefusedBy {A = A} (get_refusal bank refs new) Late (Ok x) → new.tok.0 < tokens_of (bank_of s)
there_for {A} bank s refs new Late x of_bank traced = let same = ap (λ (b : BankId). tokens_of b) of_bank in omega (arith, same, get_there {A = A} bank refs new Late x traced)

-- after a refusal the list is held as before, and after a try it is held
pub unmoved : (refs now : List Ref) (a b : CpuSeat) (t u : Vec Event Global) → holding a ≡ holding_of refs → now ≡ refs → ChangesNothing a b t u → holding b ≡ holding_of now
unmoved refs now a b t u held same n = n.held ∙ held ∙ ap holding_of (sym same)

pub tried_holds : (refs now : List Ref) (new : Ref) (a b : CpuSeat) (t u : Vec Event Global) (r : Result (Unit {0}) Fault) → holding a ≡ holding_of refs → OnOk r (Takes refs now new a b t u) → OnErr r ((now ≡ refs) × ChangesNothing a b t u) → holding b ≡ holding_of now
tried_holds refs now new a b t u (Ok x) held ok err = ok.held
tried_holds refs now new a b t u (Err fault) held ok err = unmoved refs now a b t u held err.0 err.1

-- after a try the tokens of the list exist
pub there_tried : (bank : BankId) (refs now : List Ref) (new : Ref) (a b : CpuSeat) (t u : Vec Event Global) (Late : Fault → Type 0) (r : Result (Unit {0}) Fault) → bank_of a ≡ bank → RefusedBy (get_refusal bank refs new) Late r → OnOk r (Takes refs now new a b t u) → OnErr r ((now ≡ refs) × ChangesNothing a b t u) → There (tokens_of (bank_of a)) refs → There (tokens_of (bank_of a)) now
there_tried bank refs now new a b t u Late (Ok x) of_bank traced ok err all = there_pushed (tokens_of (bank_of a)) refs now new ok.pushed (there_for {A = Unit {0}} bank a refs new Late x of_bank traced) all
there_tried bank refs now new a b t u Late (Err f) of_bank traced ok err all = there_same (tokens_of (bank_of a)) refs now err.0 all

-- after a release: the list is without its last reference, or as before
there_popped : (n : ℕ) (refs now : List Ref) (last : Ref) → refs ≡ now ++ last ∷ [] → There n refs → There n now
there_popped n refs now last is all = λ k d below.
    let long : length refs ≡ length now + 1 = one_more now refs last is in
    let same : get_or refs k d ≡ get_or now k d = ap (λ xs. get_or xs k d) is ∙ get_or-append now (last ∷ []) d k below in
    let F : Ref → Type 0 = λ r. r.tok.0 < n in
    subst F same (all k d (omega (arith, below, long)))

pub there_released : (n : ℕ) (old new : Hold) (refs now : List Ref) (tok : TokId) (t u : Vec Event Global) (r : Result (Unit {0}) Fault) → OnOk r (ReleasesLast old.seat new.seat refs now tok false t.items u.items) → IfErr r (λ fault. ((fault ≡ Broken) × ReleasesLast old.seat new.seat refs now tok true t.items u.items) ⊎ (((fault ≡ NotHeld) ⊎ (fault ≡ NotLast)) × (new ≡ old) × (now ≡ refs) × (u ≡ t))) → There n refs → There n now
there_released n old new refs now tok t u (Ok x) ok err all = there_popped n refs now ok.last ok.popped all
there_released n old new refs now tok t u (Err f) ok err all = elim err [
  | inl broken ↦ there_popped n refs now broken.1.last broken.1.popped all
  | inr same ↦ there_same n refs now same.2 all
]

-- after an exchange
there_exchanged : (n : ℕ) (refs now front : List Ref) (before last : Ref) → refs ≡ front ++ (before ∷ last ∷ []) → now ≡ front ++ (last ∷ before ∷ []) → There n refs → There n now
there_exchanged n refs now front before last was is all =
    let F : List Ref → Type 0 = λ xs. There n xs in
    let P : Ref → Type 0 = λ r. r.tok.0 < n in
    let one = there_popped n (front ++ (before ∷ last ∷ [])) (front ++ before ∷ []) last (sym (append_assoc front (before ∷ []) (last ∷ []))) (subst F was all) in
    let few = there_popped n (front ++ before ∷ []) front before refl one in
    let at_before : before.tok.0 < n = let e : get_or (front ++ before ∷ []) (length front) before ≡ before = get_or-append_seam front before [] before in let G : Ref → Type 0 = P in subst G e (one (length front) before (omega (arith, length-append front (before ∷ [])))) in
    let whole = subst F was all in
    let at_last : last.tok.0 < n =
    let e : get_or (front ++ (before ∷ last ∷ [])) (length front + 1) last ≡ last = get_or-append-add front (before ∷ last ∷ []) 1 last in
    let G : Ref → Type 0 = P in
    subst G e (whole (length front + 1) last (omega (arith, length-append front (before ∷ last ∷ [])))) in
    subst F (sym is) (All-append P front (last ∷ before ∷ []) few (All-from_recursion P (last ∷ before ∷ []) (at_last, (at_before, tt))))

pub there_swapped : (n : ℕ) (refs now : List Ref) (r : Result (Unit {0}) Fault) → OnOk r (AreExchanged refs now) → OnErr r (now ≡ refs) → There n refs → There n now
there_swapped n refs now (Ok x) ok err all = there_exchanged n refs now ok.0 ok.1.0 ok.1.1.0 ok.1.1.1.0 ok.1.1.1.1 all
there_swapped n refs now (Err f) ok err all = there_same n refs now err all
