use Rattle.std.proofs.Common.{inl, ◌≡◌, ℕ, ◌<◌, List, [], length, refl, ap, sym, ◌∙◌, subst}
use Rattle.std.specs.Prelude.{slice_index}
use Rattle.std.proofs.lemmas.List.{set-get_or}
use mathlib.Core.Option.{some, none}
use lib.ListN.{get_elem?}
use Rattle.atomic_table.specs.Table.{State, keeps, step, Enters, Allows, stepped}
use Rattle.atomic_table.specs.declared.shared.Seat.{Seat}
use Rattle.lwkt_base.specs.declared.opening_specs.MsgSpec.{MsgSpec}
use Rattle.lwkt_base.specs.declared.records.Rec.{Rec}
use Rattle.lwkt_table.specs.declared.seats.SeatKind.{SeatKind}
use Rattle.lwkt_table.specs.declared.seats.SeatKind.TheVariants.{Of}
use Rattle.lwkt_table.specs.History.{IsPastOf}
use Rattle.lwkt_table.proofs.HistoryLemmas.{events_by-past, steps_by-past}
use Rattle.lwkt_table.proofs.SeatingLemmas.{at_map, set_again}
use Rattle.lwkt_msg.specs.declared.views.Key.{Key}
use Rattle.lwkt_msg.specs.declared.views.View.{View}
use Rattle.lwkt_msg.specs.Views.{word_at, at, page_of, spent_view}
use Rattle.lwkt_msg.specs.Book.{Knows, first_view, mail_at}
use Rattle.lwkt_msg.specs.Ledger.{Ledger}
use Rattle.lwkt_msg.specs.Desks.{Desk, Shelf, desk, desk_cpu, past_of}
use Rattle.lwkt_msg.specs.Laws.{RuleShowsSafety, EachSendAtMostOnce, StatesAreReached, SpentIsNoDeed}
use Rattle.lwkt_tie.specs.Mails.{IsMailNow, IsMailBeside, finds_mail, finds_mail_beside, IsSoundBook, IsMailFound, IsMailFoundBeside}

-- a new seat may look, and is spent at once
pub enters : SpentIsNoDeed → (key : Key) (specs : List MsgSpec) (cpus slots word : ℕ) → key.specs.items ≡ specs → key.cpus ≡ cpus → Enters (Ledger key) slots word (λ n w. finds_mail specs cpus (step slots word 0 0 none) (first_view key, []) n (w, []))
enters law key specs cpus slots word one two = λ s ledger deep small. (spent_view, (law key s ledger).0, record { key = key; specs_are = one; cpus_are = two; state = s; ledger = ledger; is = refl })

-- a seat may look that stays as it is
same_state : (s : State Rec View) (id i : ℕ) (c : List (ℕ × Rec)) (v : View) → get_elem? s.views id ≡ some v → stepped s i (slice_index s.words i) id c v keeps ≡ s
same_state s id i c v here = λ k. record { words = set-get_or s.words i 0 k; homes = s.homes; views = set_again s.views id v here k }

pub allows : (key : Key) (specs : List MsgSpec) (cpus slots id word : ℕ) (v : View) (c : List (ℕ × Rec)) → key.specs.items ≡ specs → key.cpus ≡ cpus → Allows (Ledger key) slots id (v, c) word (λ n. n) (finds_mail_beside specs cpus (step slots word 0 0 none) (v, c))
allows key specs cpus slots id word v c one two = λ s ledger deep here small. (
  v,
  keeps,
  tt,
  subst (Ledger key) (sym (same_state s id word c v here)) ledger,
  (refl, record { now = record { key = key; specs_are = one; cpus_are = two; state = s; ledger = ledger; is = refl }; at = id; here = here }),
)

-- the headline holds in each state of the rule
pub sound : RuleShowsSafety → EachSendAtMostOnce → StatesAreReached → (key : Key) (s : State Rec View) (ledger : Ledger key s) → IsSoundBook key s ledger
sound safety once reached key s ledger = record {
  run = (reached key s ledger).1;
  shown = (safety key s ledger).0;
  safe = (safety key s ledger).1;
  taken_once = λ m there. (once key s ledger m there).0;
  replied_once = λ m there. (once key s ledger m there).2;
}

-- what is said of a place is said of the message's
pub now_as : (specs specs' : List MsgSpec) (cpus cpus' word word' n : ℕ) → specs ≡ specs' → cpus ≡ cpus' → word ≡ word' → IsMailNow specs cpus word n → IsMailNow specs' cpus' word' n
now_as specs specs' cpus cpus' word word' n one two place now = record {
  key = now.key;
  specs_are = now.specs_are ∙ one;
  cpus_are = now.cpus_are ∙ two;
  state = now.state;
  ledger = now.ledger;
  is = now.is ∙ ap (slice_index now.state.words) place;
}

pub beside_as : (specs specs' : List MsgSpec) (cpus cpus' : ℕ) (v : View) (word word' n : ℕ) → specs ≡ specs' → cpus ≡ cpus' → word ≡ word' → IsMailBeside specs cpus v word n → IsMailBeside specs' cpus' v word' n
unfolding now_as
beside_as specs specs' cpus cpus' v word word' n one two place beside = record { now = now_as specs specs' cpus cpus' word word' n one two place beside.now; at = beside.at; here = beside.here }

-- a word that was found from outside
pub found : RuleShowsSafety → EachSendAtMostOnce → StatesAreReached → (book : Shelf) (m n : ℕ) → m < length book.specs → IsMailNow book.specs book.cpus (word_at m) n → IsMailFound book m n
found safety once reached book m n there now =
    let low : m < length now.key.specs.items = subst (λ (specs : List MsgSpec). m < length specs) (sym now.specs_are) there in
    record { now = now; sound = sound safety once reached now.key now.state now.ledger; picture = now.is ∙ (now.ledger.rule.book.each m low).is_word }

-- and one that was found beside a seat
module _ (book : Shelf) (seat : Seat Rec View) (kind : seat.me.0.kind ≡ Of (desk_cpu (desk seat))) (m n : ℕ) (beside : IsMailBeside book.specs book.cpus seat.me.0 (word_at m) n) where
  abbrev v : View
  v = seat.me.0

  abbrev now : IsMailNow book.specs book.cpus (word_at m) n
  now = beside.now

  knows_there : (other : ℕ) → other < length book.specs → Knows (mail_at now.ledger.rule.mails other) (Of (desk_cpu (desk seat))) (at v other)
  knows_there other there =
      let low : other < length now.key.specs.items = subst (λ (specs : List MsgSpec). other < length specs) (sym now.specs_are) there in
      subst (λ (k : SeatKind). Knows (mail_at now.ledger.rule.mails other) k (at v other)) kind ((now.ledger.rule.book.each other low).each_view beside.at v beside.here)

  past_there : IsPastOf now.ledger.chronicle.history (desk_cpu (desk seat)).0 (past_of (desk seat))
  past_there = now.ledger.chronicle.parts (desk_cpu (desk seat)) v.past (inl (record { at = beside.at; page = page_of v; here = at_map page_of now.state.views beside.at v beside.here; kind = kind; seen = refl }))

  found_here : RuleShowsSafety → EachSendAtMostOnce → StatesAreReached → m < length book.specs → IsMailFoundBeside book (desk seat) m n
  unfolding found
  found_here safety once reached there = record {
    seen = found safety once reached book m n there now;
    knows = knows_there;
    past = past_there;
    events = events_by-past now.ledger.chronicle.history (desk_cpu (desk seat)).0 v.past past_there;
    steps = steps_by-past now.ledger.chronicle.history (desk_cpu (desk seat)).0 v.past past_there;
  }

pub found_beside : RuleShowsSafety → EachSendAtMostOnce → StatesAreReached → (book : Shelf) (d : Desk) (seat : Seat Rec View) → desk seat ≡ d → seat.me.0.kind ≡ Of (desk_cpu d) → (m n : ℕ) → m < length book.specs → IsMailBeside book.specs book.cpus seat.me.0 (word_at m) n → IsMailFoundBeside book d m n
found_beside safety once reached book d seat is kind m n there beside =
    let own : seat.me.0.kind ≡ Of (desk_cpu (desk seat)) = subst (λ (x : Desk). seat.me.0.kind ≡ Of (desk_cpu x)) (sym is) kind in
    subst (λ (x : Desk). IsMailFoundBeside book x m n) is (found_here book seat own m n beside safety once reached there)
