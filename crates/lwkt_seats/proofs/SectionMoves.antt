-- A reference asked for and a cell loaded behind it: what is asked for with 0 is held.
use Rattle.std.proofs.Common.{◌≡◌, ◌≢◌, ℕ, ◌<◌, true, refl, ap, sym, ◌∙◌, subst, inl, inr, arith}
use Rattle.lwkt_base.specs.declared.names.Mode.{Mode}
use Rattle.lwkt_base.specs.declared.names.Mode.TheVariants.{Exclusive, Shared}
use Rattle.lwkt_base.specs.declared.holdings.Held.{Held}
use Rattle.lwkt_base.specs.declared.holdings.Held.TheVariants.{Nothing, Holds}
use Rattle.lwkt_base.specs.Holding.{is_held, one_more}
use Rattle.lwkt_bank.specs.declared.seats.CpuSeat.{CpuSeat}
use Rattle.lwkt_bank.specs.declared.views.TokenEntry.{TokenEntry}
use Rattle.lwkt_bank.specs.Seats.{BankId, bank_of, tokens_of, plan_of, holding, entry}
use Rattle.lwkt_seats.specs.declared.answers.Asked.{Asked}
use Rattle.lwkt_seats.specs.declared.answers.Asked.TheVariants as asked
use Rattle.lwkt_seats.specs.declared.answers.Loaded.{Loaded}
use Rattle.lwkt_seats.specs.declared.answers.Loaded.TheVariants as loaded
use Rattle.lwkt_seats.specs.declared.answers.Stored.{Stored}
use Rattle.lwkt_seats.specs.declared.answers.GaveBack.{GaveBack}
use Rattle.lwkt_seats.specs.declared.sitters.Sitter.{Sitter}
use Rattle.lwkt_seats.specs.Asks.{AsksFor, GivesToken}
use Rattle.lwkt_seats.specs.Cells.{HasCell, Lacks, Loads, StoresInCell}
use Rattle.lwkt_seats.specs.Numbers.{asked_number, loaded_number, stored_number, gave_number}
use Rattle.lwkt_seats.specs.Calls.{TakesAndLoads, StoresAndGives}
use Rattle.lwkt_seats.specs.Seated.{StaysSeated}

more_held : (held : Held) (mode : Mode) → is_held (one_more held mode) ≡ true
more_held Nothing mode = refl
more_held (Holds first further) mode = refl

pub taken_held : (mode : Mode) (tok : ℕ) (s s' : CpuSeat) (answer : Asked) → AsksFor mode tok s s' answer → asked_number answer ≡ 0 → is_held (holding s' tok) ≡ true
taken_held mode tok s s' asked.Taken does is = ap (λ (e : TokenEntry). is_held e.held) does.1.1.changes.here
taken_held mode tok s s' asked.Further does is = ap (λ (e : TokenEntry). is_held e.held) does.4.changes.here ∙ more_held (entry s tok).held Shared
taken_held mode tok s s' asked.NoToken does is = absurd (omega (arith, is))
taken_held mode tok s s' asked.ListFull does is = absurd (omega (arith, is))
taken_held mode tok s s' asked.Upgrade does is = absurd (omega (arith, is))
taken_held mode tok s s' asked.Busy does is = absurd (omega (arith, is))
taken_held mode tok s s' asked.Again does is = absurd (omega (arith, is))
taken_held mode tok s s' asked.Worn does is = absurd (omega (arith, is))

pub lacked : (tok cell before : ℕ) (s : CpuSeat) (lack : Loaded) (answer : ℕ) → answer ≡ loaded_number lack → Lacks tok cell s lack → TakesAndLoads tok cell before before s s answer
lacked tok cell before s loaded.NoToken answer is lacks = inl (inl is, (loaded.NoToken, (is, (lacks, refl), refl)))
lacked tok cell before s loaded.NoCell answer is lacks = inl (inr is, (loaded.NoCell, (is, (lacks.0, lacks.1, refl), refl)))
lacked tok cell before s loaded.NotHeld answer is lacks = absurd lacks
lacked tok cell before s (loaded.Value value) answer is lacks = absurd lacks

pub refused : (tok cell before : ℕ) (s s' : CpuSeat) (answer : Asked) (number : ℕ) → HasCell s tok cell → number ≡ asked_number answer → AsksFor Exclusive tok s s' answer → number ≢ 0 → TakesAndLoads tok cell before before s s' number
refused tok cell before s s' answer number there is does not = inr (there, (s', ((answer, (is, does)), (λ none. absurd (not none)), (λ some. (refl, refl)))))

pub took_and_loaded : (tok cell before value : ℕ) (s mid s' : CpuSeat) (answer : Asked) → HasCell s tok cell → 0 ≡ asked_number answer → AsksFor Exclusive tok s mid answer → Loads tok cell mid s' (loaded.Value value) → TakesAndLoads tok cell before value s s' 0
took_and_loaded tok cell before value s mid s' answer there is does loads = inr (there, (mid, ((answer, (is, does)), (λ none. (loaded.Value value, (refl, loads, refl))), (λ some. absurd (some refl)))))

-- the token and the cell by the numbers that were found for them
pub still_there : (tok cell found place : ℕ) (s s' : CpuSeat) → HasCell s tok cell → found ≡ tok → place ≡ cell → bank_of s' ≡ bank_of s → HasCell s' found place
still_there tok cell found place s s' has tok_is cell_is bank =
    let F : ℕ → Type 0 = λ n. HasCell s n cell in
    let G : ℕ → Type 0 = λ n. HasCell s found n in
    let H : BankId → Type 0 = λ b. (found < tokens_of b) × (place < (plan_of b found).cells) in
    subst H (sym bank) (subst G (sym cell_is) (subst F (sym tok_is) has))

pub loads_found : (tok cell found place value : ℕ) (s s' : CpuSeat) → found ≡ tok → place ≡ cell → Loads found place s s' (loaded.Value value) → Loads tok cell s s' (loaded.Value value)
loads_found tok cell found place value s s' tok_is cell_is loads =
    let F : ℕ → Type 0 = λ n. Loads n place s s' (loaded.Value value) in
    let G : ℕ → Type 0 = λ n. Loads tok n s s' (loaded.Value value) in
    subst G cell_is (subst F tok_is loads)

-- a value that isn't stored, and one that is
pub unstored : (tok cell value : ℕ) (s s' : CpuSeat) (answer : Stored) (number : ℕ) → number ≡ stored_number answer → StoresInCell tok cell value s s' answer → number ≢ 0 → StoresAndGives tok cell value s s' number
unstored tok cell value s s' answer number is does not = (s', (number, ((answer, (is, does)), (λ none. absurd (not none)), (λ some. (refl, refl)))))

pub stored_and_gave : (tok cell value : ℕ) (s mid s' : CpuSeat) (answer : Stored) (number : ℕ) (gave : GaveBack) (given : ℕ)
    → number ≡ stored_number answer → StoresInCell tok cell value s mid answer → number ≡ 0 → given ≡ gave_number gave → GivesToken tok mid s' gave → StoresAndGives tok cell value s s' given
stored_and_gave tok cell value s mid s' answer number gave given is does zero_is given_is gives = (mid, (number, ((answer, (is, does)), (λ none. (gave, (given_is, gives))), (λ some. absurd (some zero_is)))))

-- two calls, one after the other
pub stays_then : (old mid new : Sitter) → StaysSeated old mid → StaysSeated mid new → StaysSeated old new
stays_then old mid new first second = record { bank = second.bank ∙ first.bank; seat = (second.seat.0 ∙ first.seat.0, second.seat.1 ∙ first.seat.1) }
