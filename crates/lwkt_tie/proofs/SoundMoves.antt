use Rattle.std.proofs.Common.{inl, ◌≡◌, ℕ, ◌<◌, List, [], length, map, refl, ap, sym, ◌∙◌, subst}
use Rattle.std.specs.Prelude.{slice_index}
use mathlib.Core.Option.{some}
use lib.ListN.{get_elem?}
use Rattle.lwkt_core.specs.declared.events.Event.{Event}
use Rattle.lwkt_table.specs.declared.seats.Deed.{Deed}
use Rattle.lwkt_core.specs.Tokens.{held_by}
use Rattle.lwkt_core.specs.Machine.{Machine}
use Rattle.lwkt_core.specs.Trace.{Run}
use Rattle.lwkt_core.specs.Headline.{GoesThrough, RunsAreCompatible, RunsKeepLaws}
use Rattle.lwkt_table.specs.History.{IsPastOf}
use Rattle.lwkt_table.proofs.HistoryLemmas.{Passes-run, events_by-past, steps_by-past}
use Rattle.lwkt_table.proofs.SeatingLemmas.{at_map}
use Rattle.lwkt_bank.specs.declared.views.Plan.{Plan}
use Rattle.lwkt_bank.specs.declared.views.TokenEntry.{TokenEntry}
use Rattle.lwkt_bank.specs.declared.views.View.{View}
use Rattle.lwkt_bank.specs.declared.seats.CpuSeat.{CpuSeat}
use Rattle.atomic_table.specs.declared.shared.Seat.{Seat}
use Rattle.lwkt_bank.specs.Views.{page_of}
use Rattle.lwkt_bank.specs.Rule.{Bench, Knows, seen_by, held_by_kind, token_word, token_at}
use Rattle.lwkt_bank.specs.Ledger.{IsDone, Ledger, first_machine}
use Rattle.lwkt_bank.specs.Seats.{BankId, entry, holding, past_of}
use Rattle.lwkt_bank.specs.Lent.{IsSeatOf}
use Rattle.lwkt_tie.specs.Looks.{IsWordNow, IsWordBeside}
use Rattle.lwkt_tie.specs.Sound.{IsSound, IsFoundWord, IsFoundBeside}

-- a deed that is done is a run of its event
deed_runs : (m : Machine) (d : Deed) (n : Machine) → IsDone m d n → Run m d.events n
deed_runs m d n done = let F : List Event → Type 0 = λ es. Run m es n in subst F (sym done.events) (n, (done.happens, refl))

-- a machine goes through itself
goes_through : (m : Machine) → GoesThrough m [] m
goes_through m = ([], [], (refl, refl))

-- the headline holds in each state of the rule
pub sound : RunsAreCompatible → RunsKeepLaws → (plans : List Plan) (cpus : ℕ) (s : Bench) (ledger : Ledger plans cpus s) → IsSound plans cpus s ledger
sound compatible laws plans cpus s ledger =
    let m = ledger.rule.model in
    record {
      run = Passes-run IsDone (λ (x : Machine). x) deed_runs (first_machine plans cpus) ledger.chronicle.history m ledger.chronicle.passes;
      shown = ledger.rule.pictures;
      safe = ledger.rule.safe;
      compatible = compatible m [] m ledger.rule.safe (goes_through m);
      lawful = laws m [] m ledger.rule.safe (goes_through m);
    }

-- what is said of a table's key and of a place is said of the bank's and of the token's
pub ledger_as : (plans plans' : List Plan) (cpus cpus' : ℕ) (s : Bench) → plans ≡ plans' → cpus ≡ cpus' → Ledger plans cpus s → Ledger plans' cpus' s
ledger_as plans plans' cpus cpus' s one two ledger =
    let F : List Plan → Type 0 = λ ps. Ledger ps cpus s in
    let G : ℕ → Type 0 = λ k. Ledger plans' k s in
    subst G two (subst F one ledger)

pub now_as : (plans plans' : List Plan) (cpus cpus' word word' n : ℕ) → plans ≡ plans' → cpus ≡ cpus' → word ≡ word' → IsWordNow plans cpus word n → IsWordNow plans' cpus' word' n
now_as plans plans' cpus cpus' word word' n one two place now = record {
  state = now.state;
  ledger = ledger_as plans plans' cpus cpus' now.state one two now.ledger;
  is = now.is ∙ ap (slice_index now.state.words) place;
}

pub beside_as : (plans plans' : List Plan) (cpus cpus' : ℕ) (v : View) (word word' n : ℕ) → plans ≡ plans' → cpus ≡ cpus' → word ≡ word' → IsWordBeside plans cpus v word n → IsWordBeside plans' cpus' v word' n
beside_as plans plans' cpus cpus' v word word' n one two place now = record {
  state = now.state;
  ledger = ledger_as plans plans' cpus cpus' now.state one two now.ledger;
  is = now.is ∙ ap (slice_index now.state.words) place;
  at = now.at;
  here = now.here;
}

-- a word that was found from outside
pub found : RunsAreCompatible → RunsKeepLaws → (bank : BankId) (cpus tok n : ℕ) → tok < length bank.plans → IsWordNow bank.plans cpus (token_word tok) n → IsFoundWord bank cpus tok n
found compatible laws bank cpus tok n there now = record {
  state = now.state;
  ledger = now.ledger;
  sound = sound compatible laws bank.plans cpus now.state now.ledger;
  word = now.is;
  picture = now.is ∙ (now.ledger.rule.pictures.each_token tok there).count_word;
}

-- and one that was found beside a seat
module _ (bank : BankId) (cpus : ℕ) (s : CpuSeat) (seat : Seat (List ℕ) View) (is : IsSeatOf s seat) (tok n : ℕ) (now : IsWordBeside bank.plans cpus seat.me.0 (token_word tok) n) where
  abbrev v : View
  v = seat.me.0

  seen_there : (other : ℕ) → get_elem? (map (seen_by other) now.state.views) now.at ≡ some (seen_by other v)
  seen_there other = at_map (seen_by other) now.state.views now.at v now.here

  held_there : (other : ℕ) → other < length bank.plans → held_by (token_at now.ledger.rule.model other) s.cpu.0 ≡ holding s other
  held_there other there =
      sym ((now.ledger.rule.pictures.each_token other there).held now.at (seen_by other v) (seen_there other) ∙ ap (held_by_kind (token_at now.ledger.rule.model other)) is.kind)
      ∙ ap (λ (e : TokenEntry). e.held) (is.entries other)

  known_there : (other : ℕ) → other < length bank.plans → Knows (token_at now.ledger.rule.model other) (entry s other)
  known_there other there = subst (λ (e : TokenEntry). Knows (token_at now.ledger.rule.model other) e) (is.entries other) ((now.ledger.rule.pictures.each_token other there).known now.at (seen_by other v) (seen_there other))

  past_there : IsPastOf now.ledger.chronicle.history s.cpu.0 (past_of s)
  past_there = now.ledger.chronicle.parts s.cpu (past_of s) (inl (record { at = now.at; page = page_of v; here = at_map page_of now.state.views now.at v now.here; kind = is.kind; seen = is.past }))

  pub found_beside : RunsAreCompatible → RunsKeepLaws → tok < length bank.plans → IsFoundBeside bank cpus s tok n
  unfolding found
  found_beside compatible laws there = record {
    seen = found compatible laws bank cpus tok n there (record { state = now.state; ledger = now.ledger; is = now.is });
    held = held_there;
    knows = known_there;
    past = past_there;
    events = events_by-past now.ledger.chronicle.history s.cpu.0 (past_of s) past_there;
    steps = steps_by-past now.ledger.chronicle.history s.cpu.0 (past_of s) past_there;
  }
