use Rattle.std.proofs.Common.{◌≡◌, ℕ, suc, ◌+◌, ◌<◌, ◌≤◌, List, [], ◌∷◌, ◌++◌, length, take, refl, ap, sym, ◌∙◌, subst, arith, inl, inr}
use Rattle.std.specs.Prelude.{Bool, true, false, ◌%◌, ◌^◌, Vec, slice_index_or}
use Rattle.std.proofs.Math.Nat.{mod-add-mod}
use Rattle.std.specs.List.{All, AllZip}
use Rattle.std.proofs.lemmas.List.Elements.{AllZip-get_or, length_all_zip}
use Rattle.std.proofs.lemmas.List.Sums.{fold-append}
use Rattle.std.proofs.lemmas.List.{take-append-le, take_all}
use lib.ListN.{length-append}
use Rattle.std.proofs.lemmas.Bool.{cases_lt, false≢true}
use Rattle.lwkt_drive.specs.declared.driven.Ending.TheVariants.{NotDriven, TurnsOut, Quiet}
use Rattle.atomic_table.specs.Seated.{TableId}
use Rattle.lwkt_base.specs.declared.names.CpuId.{CpuId}
use Rattle.lwkt_base.specs.declared.asks.Ask.{Ask}
use Rattle.lwkt_base.specs.declared.asks.Answer.{Answer}
use Rattle.std.specs.declared.alloc.Global.{Global}
use Rattle.lwkt_core.specs.declared.events.Event.{Event}
use Rattle.lwkt_drive.specs.ShortEvents.{KeptTrace}
use Rattle.lwkt_bank.specs.Seats.{BankId}
use Rattle.lwkt_cpu.specs.declared.answers.Turned.{Turned}
use Rattle.lwkt_cpu.specs.declared.answers.Turned.TheVariants.{Ran, Idle, AllExited}
use Rattle.lwkt_cpu.specs.declared.answers.Drove.{Drove}
use Rattle.lwkt_cpu.specs.Processors.{Processor}
use Rattle.lwkt_cpu.specs.Driving.{with_turn, none_driven}
use Rattle.lwkt_drive.specs.Appending.{AppendsTurn, AppendsTurns}
use Rattle.lwkt_drive.specs.declared.driven.Driven.{Driven}
use Rattle.lwkt_drive.specs.declared.driven.Limits.{Limits}
use Rattle.lwkt_drive.specs.declared.driven.Said.{Said}
use Rattle.lwkt_drive.specs.declared.driven.Ending.{Ending}
use Rattle.lwkt_drive.specs.Course.{IsAtTables, IsBelowLimits, MakesAnother, EndsBy, WasSilent, EndsSilent, agreed, heard, said_at_end, MakesOne, StaysAndWhy, IsDriven, EndedSilently, IsUnderWay, IsSo, ComesTo, GoesTo, DrivesOn, DrivesOut, drive_begun, counts}

-- a turn more, after others
pub made_more : {B : Type 0} (polled : B → Answer → Ask → B → Type 0) (bank : BankId) (old mid new : Processor B) (t v u : List Event) (turns : List Turned) (turned : Turned) → AppendsTurns polled bank old mid t v turns → AppendsTurn polled bank mid new v u turned → AppendsTurns polled bank old new t u (turns ++ turned ∷ [])
made_more {B} polled bank old mid new t v u [] turned made last =
    let F : Processor B → Type 0 = λ p. AppendsTurn polled bank p new v u turned in
    let G : List Event → Type 0 = λ x. AppendsTurn polled bank old new x u turned in
    (new, (u, (subst G made.1 (subst F made.0 last), (refl, refl))))
made_more polled bank old mid new t v u (x ∷ turns) turned made last =
    (made.0, (made.1.0, (made.1.1.0, made_more polled bank made.0 mid new made.1.0 v u turns turned made.1.1.1 last)))

-- a silent turn more, after others
ends_silent : {B : Type 0} (polled : B → Answer → Ask → B → Type 0) (bank : BankId) (old mid new : Processor B) (t v u : List Event) (turns : List Turned) (turned : Turned) (made : AppendsTurns polled bank old mid t v turns) (last : AppendsTurn polled bank mid new v u turned) → WasSilent turned v u → EndsSilent polled bank old new t u (turns ++ turned ∷ []) (made_more polled bank old mid new t v u turns turned made last)
unfolding made_more
ends_silent polled bank old mid new t v u [] turned made last silent =
    let F : List Event → Type 0 = λ x. WasSilent turned x u in
    subst F made.1 silent
ends_silent polled bank old mid new t v u (x ∷ []) turned made last silent =
    ends_silent polled bank made.0 mid new made.1.0 v u [] turned made.1.1.1 last silent
ends_silent polled bank old mid new t v u (x ∷ y ∷ turns) turned made last silent =
    ends_silent polled bank made.0 mid new made.1.0 v u (y ∷ turns) turned made.1.1.1 last silent

-- the last of some turns, where it was silent
record LastOf {B : Type 0} (polled : B → Answer → Ask → B → Type 0) (bank : BankId) (old new : Processor B) (t u : List Event) (turns : List Turned) : Type 0 where
  earlier : List Turned
  last : Turned
  turns_are : turns ≡ earlier ++ last ∷ []
  before : Processor B
  trace : List Event
  came : AppendsTurns polled bank old before t trace earlier
  makes : AppendsTurn polled bank before new trace u last
  was_silent : WasSilent last trace u

last_of : {B : Type 0} (polled : B → Answer → Ask → B → Type 0) (bank : BankId) (old new : Processor B) (t u : List Event) (turns : List Turned) (made : AppendsTurns polled bank old new t u turns) → EndsSilent polled bank old new t u turns made → LastOf polled bank old new t u turns
last_of polled bank old new t u [] made ends = absurd ends
last_of {B} polled bank old new t u (turned ∷ []) made ends =
    let F : Processor B → Type 0 = λ p. AppendsTurn polled bank old p t u turned in
    let G : List Event → Type 0 = λ x. AppendsTurn polled bank old made.0 t x turned in
    record {
      earlier = [];
      last = turned;
      turns_are = refl;
      before = old;
      trace = t;
      came = (refl, refl);
      makes = subst F (sym made.1.1.1.0) (subst G (sym made.1.1.1.1) made.1.1.0);
      was_silent = ends;
    }
last_of polled bank old new t u (turned ∷ next ∷ turns) made ends =
    let l = last_of polled bank made.0 new made.1.0 u (next ∷ turns) made.1.1.1 ends in
    record {
      earlier = turned ∷ l.earlier;
      last = l.last;
      turns_are = ap (λ (xs : List Turned). turned ∷ xs) l.turns_are;
      before = l.before;
      trace = l.trace;
      came = (made.0, (made.1.0, (made.1.1.0, l.came)));
      makes = l.makes;
      was_silent = l.was_silent;
    }

-- a drive that ends as quiet
pub ended_silently : {B : Type 0} (polled : B → Answer → Ask → B → Type 0) (answers : CpuId → ℕ → Bool → Type 0) (bank : BankId) (limits : Limits) (old new : Driven B) → IsDriven polled answers bank limits old new Quiet → EndedSilently polled bank old new
ended_silently polled answers bank limits old new d =
    let l = last_of polled bank old.cpu new.cpu old.trace.items new.trace.items d.turns d.made (d.silent d.ends) in
    record {
      earlier = l.earlier;
      last = l.last;
      drove = d.drove ∙ ap counts l.turns_are;
      before = l.before;
      trace = l.trace;
      came = l.came;
      makes = l.makes;
      ran_none = l.was_silent.0;
      no_event = l.was_silent.1;
    }

-- one yes more
heard_more : (turns : List Turned) (turned : Turned) (said : Said) → agreed (heard (length turns) said) ≡ heard (length (turns ++ turned ∷ [])) said
heard_more turns turned said =
    let F : ℕ → Said = λ n. record { drives = (said.drives + 1) % 2 ^ 64; yeses = n; no = false } in
    ap F (mod-add-mod (length turns) (2 ^ 64) 1 ∙ ap (λ n. n % 2 ^ 64) (sym (length-append turns (turned ∷ []))))

-- no turn was made yet
pub under_none : {B : Type 0} (polled : B → Answer → Ask → B → Type 0) (answers : CpuId → ℕ → Bool → Type 0) (bank : BankId) (limits : Limits) (d : Driven B) → IsUnderWay polled answers bank limits d (drive_begun d)
under_none polled answers bank limits d = record {
  turns = [];
  made = (refl, refl);
  going = λ k less. absurd (omega (arith, less));
  drove = refl;
  all = refl;
  silent = λ is. absurd (false≢true is);
  said = refl;
  same = refl;
  seat = refl;
}

counted_ran : (drove : Drove) (turned : Turned) → (with_turn drove turned).ran ≤ drove.ran + 1
counted_ran drove (Ran thread) = omega arith
counted_ran drove Idle = omega arith
counted_ran drove AllExited = omega arith

counted_idle : (drove : Drove) (turned : Turned) → (with_turn drove turned).idle ≤ drove.idle + 1
counted_idle drove (Ran thread) = omega arith
counted_idle drove Idle = omega arith
counted_idle drove AllExited = omega arith

counted_all : (drove : Drove) (turned : Turned) → (with_turn drove turned).ran + (with_turn drove turned).idle ≡ drove.ran + drove.idle + 1
counted_all drove (Ran thread) = omega arith
counted_all drove Idle = omega arith
counted_all drove AllExited = omega arith

-- each turn so far was made where the processor went on, and so is one more
going_more : (answers : CpuId → ℕ → Bool → Type 0) (limits : Limits) (cpu : CpuId) (turns : List Turned) (turned : Turned) → ((k : ℕ) → k < length turns → MakesAnother answers limits cpu k (counts (take k turns))) → MakesAnother answers limits cpu (length turns) (counts turns) → (k : ℕ) → k < length (turns ++ turned ∷ []) → MakesAnother answers limits cpu k (counts (take k (turns ++ turned ∷ [])))
going_more answers limits cpu turns turned going last k less =
    let F : List Turned → Type 0 = λ xs. MakesAnother answers limits cpu k (counts xs) in
    let G : ℕ → Type 0 = λ n. MakesAnother answers limits cpu n (counts turns) in
    let within : k ≤ length turns = omega (arith, length-append turns (turned ∷ []), less) in
    let here : MakesAnother answers limits cpu k (counts (take k turns)) = elim (cases_lt k (length turns)) [
      | inl before ↦ going k before
      | inr past ↦ let at : length turns ≡ k = omega (arith, past, within) in subst F (sym (take_all k turns past)) (subst G at last)
    ] in
    subst F (sym (take-append-le k turns (turned ∷ []) within)) here

-- a turn more
pub under_more : {B : Type 0} (polled : B → Answer → Ask → B → Type 0) (answers : CpuId → ℕ → Bool → Type 0) (bank : BankId) (limits : Limits) (old mid new : Driven B) (turn : ℕ) → mid.drove.ran + mid.drove.idle ≡ turn → IsUnderWay polled answers bank limits old mid → MakesOne polled answers bank limits turn mid new → new.id ≡ mid.id → IsUnderWay polled answers bank limits old new
under_more {B} polled answers bank limits old mid new turn total u m same =
    let long : length u.turns ≡ turn = sym u.all ∙ total in
    let I : CpuId → Type 0 = λ id. MakesAnother answers limits id turn mid.drove in
    let N : ℕ → Type 0 = λ n. MakesAnother answers limits old.id n mid.drove in
    let D : Drove → Type 0 = λ d. MakesAnother answers limits old.id (length u.turns) d in
    let last : MakesAnother answers limits old.id (length u.turns) (counts u.turns) = subst D u.drove (subst N (sym long) (subst I u.same m.goes)) in
    let T : Drove → Type 0 = λ d. d.ran + d.idle ≡ length (u.turns ++ m.turned ∷ []) in
    record {
      turns = u.turns ++ m.turned ∷ [];
      made = made_more polled bank old.cpu mid.cpu new.cpu old.trace.items mid.trace.items new.trace.items u.turns m.turned u.made m.makes;
      going = going_more answers limits old.id u.turns m.turned u.going last;
      drove = m.drove ∙ (ap (λ d. with_turn d m.turned) u.drove ∙ sym (fold-append with_turn none_driven u.turns (m.turned ∷ [])));
      all = subst T (sym m.drove) (omega (arith, counted_all mid.drove m.turned, u.all, length-append u.turns (m.turned ∷ [])));
      silent = λ is. ends_silent polled bank old.cpu mid.cpu new.cpu old.trace.items mid.trace.items new.trace.items u.turns m.turned u.made m.makes (m.silent is);
      said = m.said ∙ (ap agreed u.said ∙ heard_more u.turns m.turned old.said);
      same = same ∙ u.same;
      seat = m.makes.does.ran.cpu ∙ u.seat;
    }

within_more : {B : Type 0} (polled : B → Answer → Ask → B → Type 0) (answers : CpuId → ℕ → Bool → Type 0) (bank : BankId) (limits : Limits) (mid new : Driven B) (turn : ℕ) → MakesOne polled answers bank limits turn mid new → IsBelowLimits limits new.drove
within_more polled answers bank limits mid new turn m =
    let W : Drove → Type 0 = λ d. IsBelowLimits limits d in
    subst W (sym m.drove) (record {
      ran = omega (arith, counted_ran mid.drove m.turned, m.goes.ran);
      idle = omega (arith, counted_idle mid.drove m.turned, m.goes.idle);
    })

total_more : {B : Type 0} (polled : B → Answer → Ask → B → Type 0) (answers : CpuId → ℕ → Bool → Type 0) (bank : BankId) (limits : Limits) (mid new : Driven B) (turn : ℕ) → mid.drove.ran + mid.drove.idle ≡ turn → MakesOne polled answers bank limits turn mid new → new.drove.ran + new.drove.idle ≡ turn + 1
total_more polled answers bank limits mid new turn total m =
    let T : Drove → Type 0 = λ d. d.ran + d.idle ≡ turn + 1 in
    subst T (sym m.drove) (omega (arith, counted_all mid.drove m.turned, total))

-- there was a reason to make no further turn
driven_by : {B : Type 0} (polled : B → Answer → Ask → B → Type 0) (answers : CpuId → ℕ → Bool → Type 0) (bank : BankId) (limits : Limits) (old mid new : Driven B) (ending : Ending) (turn : ℕ) → mid.drove.ran + mid.drove.idle ≡ turn → IsUnderWay polled answers bank limits old mid → StaysAndWhy answers limits turn mid new ending → new.id ≡ mid.id → IsDriven polled answers bank limits old new ending
driven_by {B} polled answers bank limits old mid new ending turn total u s same =
    let long : length u.turns ≡ turn = sym u.all ∙ total in
    let M : Processor B → List Event → Type 0 = λ p t. (made : AppendsTurns polled bank old.cpu p old.trace.items t u.turns) × (new.silent ≡ true → EndsSilent polled bank old.cpu p old.trace.items t u.turns made) in
    let one : M new.cpu mid.trace.items = subst (λ p. M p mid.trace.items) (sym s.cpu) (u.made, λ is. u.silent (sym s.silent ∙ is)) in
    let made : M new.cpu new.trace.items = subst (λ t. M new.cpu t) (sym s.trace) one in
    let I : CpuId → Type 0 = λ id. EndsBy answers limits id turn mid.drove mid.silent new.room new.trace ending in
    let N : ℕ → Type 0 = λ n. EndsBy answers limits old.id n mid.drove mid.silent new.room new.trace ending in
    let D : Drove → Type 0 = λ d. EndsBy answers limits old.id (length u.turns) d mid.silent new.room new.trace ending in
    let Q : Bool → Type 0 = λ q. EndsBy answers limits old.id (length u.turns) new.drove q new.room new.trace ending in
    record {
      turns = u.turns;
      made = made.0;
      going = u.going;
      drove = s.drove ∙ u.drove;
      silent = made.1;
      said = s.said ∙ ap (said_at_end ending) u.said;
      ends = subst Q (sym s.silent) (subst D (sym s.drove) (subst N (sym long) (subst I u.same s.ends)));
      same = same ∙ u.same;
      seat = ap (λ p. p.seat.cpu) s.cpu ∙ u.seat;
    }

-- both limits are reached
driven_out : {B : Type 0} (polled : B → Answer → Ask → B → Type 0) (answers : CpuId → ℕ → Bool → Type 0) (bank : BankId) (limits : Limits) (old new : Driven B) → limits.turns + limits.idle ≤ new.drove.ran + new.drove.idle → IsBelowLimits limits new.drove → IsUnderWay polled answers bank limits old new → IsDriven polled answers bank limits old new TurnsOut
driven_out polled answers bank limits old new reached within u = record {
  turns = u.turns;
  made = u.made;
  going = u.going;
  drove = u.drove;
  silent = u.silent;
  said = u.said;
  ends = omega (arith, reached, within.ran, within.idle);
  same = u.same;
  seat = u.seat;
}

-- a processor going through its turns: wherever it was under way from, it still is, after so many turns
pub record IsGoing {B : Type 0} (polled : B → Answer → Ask → B → Type 0) (answers : CpuId → ℕ → Bool → Type 0) (bank : BankId) (book : TableId) (limits : Limits) (first now : Driven B) (turn : ℕ) : Type 0 where
  pub under : (old : Driven B) → IsUnderWay polled answers bank limits old first → IsUnderWay polled answers bank limits old now
  pub total : now.drove.ran + now.drove.idle ≡ turn
  pub least : first.drove.ran + first.drove.idle ≤ turn
  pub within : IsBelowLimits limits now.drove
  pub at : IsAtTables bank book now

pub going_one : {B : Type 0} (polled : B → Answer → Ask → B → Type 0) (answers : CpuId → ℕ → Bool → Type 0) (bank : BankId) (book : TableId) (limits : Limits) (first mid new : Driven B) (turn : ℕ) → IsGoing polled answers bank book limits first mid turn → MakesOne polled answers bank limits turn mid new → IsAtTables bank book new → new.id ≡ mid.id → IsGoing polled answers bank book limits first new (turn + 1)
going_one polled answers bank book limits first mid new turn g m at same = record {
  under = λ old u. under_more polled answers bank limits old mid new turn g.total (g.under old u) m same;
  total = total_more polled answers bank limits mid new turn g.total m;
  least = let l = g.least in omega (arith, l);
  within = within_more polled answers bank limits mid new turn m;
  at = at;
}

pub going_to : {B : Type 0} (polled : B → Answer → Ask → B → Type 0) (answers : CpuId → ℕ → Bool → Type 0) (bank : BankId) (book : TableId) (limits : Limits) (first mid new : Driven B) (turn : ℕ) (ending : Ending) → IsGoing polled answers bank book limits first mid turn → ComesTo polled answers bank limits turn mid new ending → new.id ≡ mid.id → GoesTo polled answers bank limits first new ending
going_to polled answers bank book limits first mid new turn ending g comes same old u = elim comes [
  | inl made ↦ inl (made.0, under_more polled answers bank limits old mid new turn g.total (g.under old u) made.1 same)
  | inr stays ↦ inr (driven_by polled answers bank limits old mid new ending turn g.total (g.under old u) stays same)
]

pub going_out : {B : Type 0} (polled : B → Answer → Ask → B → Type 0) (answers : CpuId → ℕ → Bool → Type 0) (bank : BankId) (book : TableId) (limits : Limits) (first now : Driven B) (turn : ℕ) → limits.turns + limits.idle ≤ turn → IsGoing polled answers bank book limits first now turn → GoesTo polled answers bank limits first now TurnsOut
going_out polled answers bank book limits first now turn reached g old u =
    let t = g.total in inr (driven_out polled answers bank limits old now (omega (arith, t, reached)) g.within (g.under old u))

-- none ends as one that wasn't driven
never : (answers : CpuId → ℕ → Bool → Type 0) (limits : Limits) (cpu : CpuId) (turns : ℕ) (drove : Drove) (silent : Bool) (room : Vec Event Global) (trace : KeptTrace) (ending : Ending) → ending ≡ NotDriven → EndsBy answers limits cpu turns drove silent room trace ending → ⊥
never answers limits cpu turns drove silent room trace ending is ends =
    let F : Ending → Type 0 = λ e. EndsBy answers limits cpu turns drove silent room trace e in
    subst F is ends

pub comes_more : {B : Type 0} (polled : B → Answer → Ask → B → Type 0) (answers : CpuId → ℕ → Bool → Type 0) (bank : BankId) (book : TableId) (limits : Limits) (first mid new : Driven B) (turn : ℕ) (ending : Ending) → IsGoing polled answers bank book limits first mid turn → ComesTo polled answers bank limits turn mid new ending → ending ≡ NotDriven → first.drove.ran + first.drove.idle < new.drove.ran + new.drove.idle
comes_more polled answers bank book limits first mid new turn ending g comes is = elim comes [
  | inl made ↦ let t = total_more polled answers bank limits mid new turn g.total made.1 in let l = g.least in omega (arith, t, l)
  | inr stays ↦ absurd (never answers limits mid.id turn mid.drove mid.silent new.room new.trace ending is stays.ends)
]

pub comes_within : {B : Type 0} (polled : B → Answer → Ask → B → Type 0) (answers : CpuId → ℕ → Bool → Type 0) (bank : BankId) (book : TableId) (limits : Limits) (first mid new : Driven B) (turn : ℕ) (ending : Ending) → IsGoing polled answers bank book limits first mid turn → ComesTo polled answers bank limits turn mid new ending → IsBelowLimits limits new.drove
comes_within polled answers bank book limits first mid new turn ending g comes = elim comes [
  | inl made ↦ within_more polled answers bank limits mid new turn made.1
  | inr stays ↦ let W : Drove → Type 0 = λ d. IsBelowLimits limits d in subst W (sym stays.drove) g.within
]

-- an end that is noted changes nothing else
under_noted : {B : Type 0} (polled : B → Answer → Ask → B → Type 0) (answers : CpuId → ℕ → Bool → Type 0) (bank : BankId) (limits : Limits) (old new : Driven B) (by : Ending) → IsUnderWay polled answers bank limits old new → IsUnderWay polled answers bank limits old (record new { ending = by })
under_noted polled answers bank limits old new by u = record { turns = u.turns; made = u.made; going = u.going; drove = u.drove; all = u.all; silent = u.silent; said = u.said; same = u.same; seat = u.seat }

driven_noted : {B : Type 0} (polled : B → Answer → Ask → B → Type 0) (answers : CpuId → ℕ → Bool → Type 0) (bank : BankId) (limits : Limits) (old new : Driven B) (by ending : Ending) → IsDriven polled answers bank limits old new ending → IsDriven polled answers bank limits old (record new { ending = by }) ending
driven_noted polled answers bank limits old new by ending d = record { turns = d.turns; made = d.made; going = d.going; drove = d.drove; silent = d.silent; said = d.said; ends = d.ends; same = d.same; seat = d.seat }

so_noted : {B : Type 0} (polled : B → Answer → Ask → B → Type 0) (answers : CpuId → ℕ → Bool → Type 0) (bank : BankId) (limits : Limits) (old new : Driven B) (by ending : Ending) → IsSo polled answers bank limits old new ending → IsSo polled answers bank limits old (record new { ending = by }) ending
so_noted polled answers bank limits old new by ending so = elim so [
  | inl under ↦ inl (under.0, under_noted polled answers bank limits old new by under.1)
  | inr driven ↦ inr (driven_noted polled answers bank limits old new by ending driven)
]

-- one that hasn't goes on
pub drives_more : {B : Type 0} (polled : B → Answer → Ask → B → Type 0) (answers : CpuId → ℕ → Bool → Type 0) (bank : BankId) (limits : Limits) (mid new : Driven B) (ending : Ending) → mid.ending ≡ NotDriven → GoesTo polled answers bank limits mid new ending → (ending ≡ NotDriven → mid.drove.ran + mid.drove.idle < new.drove.ran + new.drove.idle) → DrivesOn polled answers bank limits mid (record new { ending = ending })
drives_more polled answers bank limits mid new ending is goes more = record {
  so = λ old so. elim so [
    | inl under ↦ so_noted polled answers bank limits old new ending ending (goes old under.1)
    | inr driven ↦ absurd (never answers limits old.id (length driven.turns) mid.drove mid.silent mid.room mid.trace mid.ending is driven.ends)
  ];
  more = λ none. (is, more none);
}

-- slices of a processor's driving: it has gone on, and where it hasn't ended, it has made so many turns
pub record Went {B : Type 0} (polled : B → Answer → Ask → B → Type 0) (answers : CpuId → ℕ → Bool → Type 0) (bank : BankId) (limits : Limits) (least : ℕ) (mid new : Driven B) : Type 0 where
  pub so : (old : Driven B) → IsSo polled answers bank limits old mid mid.ending → IsSo polled answers bank limits old new new.ending
  pub more : new.ending ≡ NotDriven → least ≤ new.drove.ran + new.drove.idle

went_none : {B : Type 0} (polled : B → Answer → Ask → B → Type 0) (answers : CpuId → ℕ → Bool → Type 0) (bank : BankId) (limits : Limits) (d : Driven B) → Went polled answers bank limits 0 d d
went_none polled answers bank limits d = record { so = λ old so. so; more = λ is. omega arith }

went_more : {B : Type 0} (polled : B → Answer → Ask → B → Type 0) (answers : CpuId → ℕ → Bool → Type 0) (bank : BankId) (limits : Limits) (least : ℕ) (first mid new : Driven B) → Went polled answers bank limits least first mid → DrivesOn polled answers bank limits mid new → Went polled answers bank limits (least + 1) first new
went_more polled answers bank limits least first mid new w d = record {
  so = λ old so. d.so old (w.so old so);
  more = λ is. let m = d.more is in let l = w.more m.0 in let k = m.1 in omega (arith, l, k);
}

out_ended : {B : Type 0} (polled : B → Answer → Ask → B → Type 0) (answers : CpuId → ℕ → Bool → Type 0) (bank : BankId) (limits : Limits) (least : ℕ) (first now : Driven B) → Went polled answers bank limits least first now → (now.ending ≡ NotDriven → ⊥) → DrivesOut polled answers bank limits first now
out_ended polled answers bank limits least first now w ended old so = elim (w.so old so) [
  | inl under ↦ absurd (ended under.0)
  | inr driven ↦ driven
]

out_left : {B : Type 0} (polled : B → Answer → Ask → B → Type 0) (answers : CpuId → ℕ → Bool → Type 0) (bank : BankId) (limits : Limits) (least : ℕ) (first now : Driven B) → limits.turns + limits.idle < least → Went polled answers bank limits least first now → IsBelowLimits limits now.drove → DrivesOut polled answers bank limits first now
out_left polled answers bank limits least first now many w within old so = elim (w.so old so) [
  | inl under ↦ let l = w.more under.0 in absurd (omega (arith, l, many, within.ran, within.idle))
  | inr driven ↦ driven
]

zip_refl : {A : Type 0} (R : A → A → Type 0) → ((x : A) → R x x) → (xs : List A) → AllZip R xs xs
zip_refl R same [] = tt
zip_refl R same (x ∷ xs) = (same x, zip_refl R same xs)

zip_then : {A : Type 0} (R S T : A → A → Type 0) → ((x y z : A) → R x y → S y z → T x z) → (xs ys zs : List A) → AllZip R xs ys → AllZip S ys zs → AllZip T xs zs
zip_then R S T step [] [] [] r s = tt
zip_then R S T step [] [] (z ∷ zs) r s = absurd s
zip_then R S T step [] (y ∷ ys) zs r s = absurd r
zip_then R S T step (x ∷ xs) [] zs r s = absurd r
zip_then R S T step (x ∷ xs) (y ∷ ys) [] r s = absurd s
zip_then R S T step (x ∷ xs) (y ∷ ys) (z ∷ zs) r s = (step x y z r.0 s.0, zip_then R S T step xs ys zs r.1 s.1)

zip_with : {A : Type 0} (R T : A → A → Type 0) (P : A → Type 0) → ((x y : A) → R x y → P y → T x y) → (xs ys : List A) → AllZip R xs ys → All P ys → AllZip T xs ys
zip_with R T P step [] [] r p = tt
zip_with R T P step [] (y ∷ ys) r p = absurd r
zip_with R T P step (x ∷ xs) [] r p = absurd r
zip_with R T P step (x ∷ xs) (y ∷ ys) r p = (step x y r.0 (p 0 y (omega arith)), zip_with R T P step xs ys r.1 (λ k d less. p (suc k) d (omega (arith, less))))

-- processors between two slices
pub record AreGoing {B : Type 0} (polled : B → Answer → Ask → B → Type 0) (answers : CpuId → ℕ → Bool → Type 0) (bank : BankId) (book : TableId) (limits : Limits) (first now : List (Driven B)) (least : ℕ) : Type 0 where
  pub went : AllZip (Went polled answers bank limits least) first now
  pub at : All (IsAtTables bank book) now
  pub within : All (λ d. IsBelowLimits limits d.drove) now

pub are_none : {B : Type 0} (polled : B → Answer → Ask → B → Type 0) (answers : CpuId → ℕ → Bool → Type 0) (bank : BankId) (book : TableId) (limits : Limits) (all : List (Driven B)) → All (IsAtTables bank book) all → All (λ d. IsBelowLimits limits d.drove) all → AreGoing polled answers bank book limits all all 0
are_none polled answers bank book limits all at within = record { went = zip_refl (Went polled answers bank limits 0) (went_none polled answers bank limits) all; at = at; within = within }

pub are_more : {B : Type 0} (polled : B → Answer → Ask → B → Type 0) (answers : CpuId → ℕ → Bool → Type 0) (bank : BankId) (book : TableId) (limits : Limits) (first mid new : List (Driven B)) (least : ℕ) → AreGoing polled answers bank book limits first mid least → AllZip (DrivesOn polled answers bank limits) mid new → All (IsAtTables bank book) new → All (λ d. IsBelowLimits limits d.drove) new → AreGoing polled answers bank book limits first new (least + 1)
are_more polled answers bank book limits first mid new least g on at within = record {
  went = zip_then (Went polled answers bank limits least) (DrivesOn polled answers bank limits) (Went polled answers bank limits (least + 1)) (went_more polled answers bank limits least) first mid new g.went on;
  at = at;
  within = within;
}

pub are_ended : {B : Type 0} (polled : B → Answer → Ask → B → Type 0) (answers : CpuId → ℕ → Bool → Type 0) (bank : BankId) (book : TableId) (limits : Limits) (first now : List (Driven B)) (least : ℕ) → AreGoing polled answers bank book limits first now least → All (λ d. d.ending ≡ NotDriven → ⊥) now → AllZip (DrivesOut polled answers bank limits) first now
are_ended polled answers bank book limits first now least g ended = zip_with (Went polled answers bank limits least) (DrivesOut polled answers bank limits) (λ d. d.ending ≡ NotDriven → ⊥) (out_ended polled answers bank limits least) first now g.went ended

pub are_out : {B : Type 0} (polled : B → Answer → Ask → B → Type 0) (answers : CpuId → ℕ → Bool → Type 0) (bank : BankId) (book : TableId) (limits : Limits) (first now : List (Driven B)) (least : ℕ) → limits.turns + limits.idle < least → AreGoing polled answers bank book limits first now least → AllZip (DrivesOut polled answers bank limits) first now
are_out polled answers bank book limits first now least many g = zip_with (Went polled answers bank limits least) (DrivesOut polled answers bank limits) (λ d. IsBelowLimits limits d.drove) (λ x y w within. out_left polled answers bank limits least x y many w within) first now g.went g.within

-- from before their first turns to their ends
driven_whole : {B : Type 0} (polled : B → Answer → Ask → B → Type 0) (answers : CpuId → ℕ → Bool → Type 0) (bank : BankId) (limits : Limits) (old mid new : Driven B) → mid ≡ drive_begun old → DrivesOut polled answers bank limits mid new → IsDriven polled answers bank limits old new new.ending
driven_whole {B} polled answers bank limits old mid new is out =
    let F : Driven B → Type 0 = λ d. DrivesOut polled answers bank limits d new in
    subst F is out old (inl (refl, under_none polled answers bank limits old))

pub are_driven : {B : Type 0} (polled : B → Answer → Ask → B → Type 0) (answers : CpuId → ℕ → Bool → Type 0) (bank : BankId) (limits : Limits) (olds mids news : List (Driven B)) → AllZip (λ old new. new ≡ drive_begun old) olds mids → AllZip (DrivesOut polled answers bank limits) mids news → AllZip (λ old new. IsDriven polled answers bank limits old new new.ending) olds news
are_driven polled answers bank limits olds mids news begins out = zip_then (λ old new. new ≡ drive_begun old) (DrivesOut polled answers bank limits) (λ old new. IsDriven polled answers bank limits old new new.ending) (driven_whole polled answers bank limits) olds mids news begins out

at_begun : {B : Type 0} (bank : BankId) (book : TableId) (old new : Driven B) → new ≡ drive_begun old → IsAtTables bank book old → IsAtTables bank book new
at_begun {B} bank book old new is at =
    let F : Driven B → Type 0 = λ d. IsAtTables bank book d in
    subst F (sym is) (record { bank_is = at.bank_is; book_is = at.book_is })

pub all_at : {B : Type 0} (bank : BankId) (book : TableId) (olds news : List (Driven B)) → AllZip (λ old new. new ≡ drive_begun old) olds news → All (IsAtTables bank book) olds → All (IsAtTables bank book) news
all_at bank book olds news zip at k d less =
    let less' : k < length olds = omega (arith, less, length_all_zip (λ old new. new ≡ drive_begun old) olds news zip) in
    at_begun bank book (slice_index_or olds k d) (slice_index_or news k d) (AllZip-get_or (λ old new. new ≡ drive_begun old) olds news k d d zip less') (at k d less')

within_begun : {B : Type 0} (limits : Limits) (old new : Driven B) → new ≡ drive_begun old → IsBelowLimits limits new.drove
within_begun {B} limits old new is =
    let F : Driven B → Type 0 = λ d. IsBelowLimits limits d.drove in
    subst F (sym is) (record { ran = omega arith; idle = omega arith })

pub all_within : {B : Type 0} (limits : Limits) (olds news : List (Driven B)) → AllZip (λ old new. new ≡ drive_begun old) olds news → All (λ d. IsBelowLimits limits d.drove) news
all_within limits olds news zip k d less =
    let less' : k < length olds = omega (arith, less, length_all_zip (λ old new. new ≡ drive_begun old) olds news zip) in
    within_begun limits (slice_index_or olds k d) (slice_index_or news k d) (AllZip-get_or (λ old new. new ≡ drive_begun old) olds news k d d zip less')

-- a fact of the elements at each place of two lists that are as long
pub zip_each : {A : Type 0} (R : A → A → Type 0) (xs ys : List A) → length ys ≡ length xs → ((i : ℕ) (d : A) → i < length xs → R (slice_index_or xs i d) (slice_index_or ys i d)) → AllZip R xs ys
zip_each R [] [] long each = tt
zip_each R [] (y ∷ ys) long each = absurd (omega (arith, long))
zip_each R (x ∷ xs) [] long each = absurd (omega (arith, long))
zip_each R (x ∷ xs) (y ∷ ys) long each = (each 0 x (omega arith), zip_each R xs ys (omega (arith, long)) (λ i d less. each (suc i) d (omega (arith, less))))
