-- A section in which nothing was written is given back, and its law asks nothing.
use Rattle.std.proofs.Common.{◌≡◌, ℕ, ◌<◌, List, [], ◌++◌, refl, ap, sym, subst, inr, arith}
use Rattle.lwkt_base.specs.declared.holdings.Held.{Held}
use Rattle.lwkt_base.specs.Holding.{is_held}
use Rattle.lwkt_table.specs.declared.seats.Deed.{Deed}
use Rattle.lwkt_bank.specs.declared.seats.CpuSeat.{CpuSeat}
use Rattle.lwkt_bank.specs.declared.answers.Given.TheVariants.{Clean}
use Rattle.lwkt_bank.specs.Deeds.{reads_all}
use Rattle.lwkt_bank.specs.Seats.{bank_of, tokens_of, plan_of, entry, Gave, Knowing, lawful_loads, asked_record}
use Rattle.lwkt_seats.specs.declared.answers.GaveBack.TheVariants as gave
use Rattle.lwkt_seats.specs.Asks.{ObeysItsLaw, Asked_for, GivesToken}

-- a question that loads nothing leaves a seat as it is
unasked : (s : CpuSeat) (tok : ℕ) → Knowing s s tok (entry s tok) []
unasked s tok = record {
  known = (entry s tok).known;
  new = [];
  grown = refl;
  changes = record { bank = refl; cpu = refl; here = refl; else_ = λ other apart. refl; grows = refl; own = λ k d within. absurd (omega arith) };
}

pub given_quietly : (tok : ℕ) (s s' : CpuSeat) → tok < tokens_of (bank_of s) → ((deeds : List Deed) → lawful_loads (plan_of (bank_of s) tok).law deeds ≡ []) → ObeysItsLaw s tok → Gave s s' tok Clean → GivesToken tok s s' gave.Given
given_quietly tok s s' there nothing lawful given =
    let deeds = reads_all s.cpu tok 0 (entry s tok).row ++ asked_record (plan_of (bank_of s) tok).law s.cpu tok (entry s tok).blob in
    let asked : Asked_for s s tok = subst (λ (ds : List Deed). Knowing s s tok (entry s tok) ds) (sym (nothing deeds)) (unasked s tok) in
    (there, ap (λ (h : Held). is_held h) given.0, inr (given.0, lawful, (s, (asked, (Clean, given)))))
