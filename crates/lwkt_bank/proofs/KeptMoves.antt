use Rattle.std.proofs.Common.{false, eqb, eq-eqb, ne_eqb, ⊎_elim, ◌≡◌, ◌≢◌, ℕ, zero, suc, take, get_or, ◌+◌, ◌<◌, ◌≤◌, cond, List, [], ◌∷◌, ◌++◌, length, map, refl, ap, sym, ◌∙◌, subst, arith, All, Some, None, length-append, append_assoc}
use Rattle.std.proofs.lemmas.Bool.{cases_eq, false≢true}
use Rattle.std.proofs.lemmas.List.Elements.{All-pop, All-nil, All-cons, All-head, All-tail, All-weaker}
use Rattle.std.proofs.lemmas.List.Sums.{sum_by-append, sum_by-cons}
use Rattle.std.proofs.lemmas.List.{ext_get_or, get_or_append_left, append-nil, get_or-map, get_or_default, length-map, length-take-le, get_or-take}
use Rattle.std.proofs.Math.Nat.{le-max_left, le-max_right}
use Rattle.std.proofs.Math.Seq.{get_or-append_seam}
use Rattle.std.specs.Prelude.{max, is_some, slice_index, slice_get, sum, zip}
use mathlib.Core.Option.{Option, some, some-injective, some-ne-none}
use lib.ListN.{get_elem?}
use Rattle.lwkt_base.specs.declared.laws.Law.{Law}
use Rattle.lwkt_base.specs.declared.laws.Law.TheVariants.{Any, Sum, Order, Cap, Tally, Len}
use Rattle.lwkt_base.specs.declared.holdings.Held.TheVariants.{Nothing}
use Rattle.lwkt_core.specs.declared.tokens.Token.{Token}
use Rattle.lwkt_core.specs.declared.events.Event.{Event}
use Rattle.lwkt_table.specs.declared.seats.Deed.{Deed}
use Rattle.lwkt_core.specs.Tokens.{held_by, length_of, IsShort}
use Rattle.lwkt_core.specs.Machine.{Machine}
use Rattle.lwkt_core.specs.RunSections.{rows_of}
use Rattle.lwkt_table.specs.Sections.{sections_by}
use Rattle.lwkt_core.specs.SectionChain.{RowsAt, AreSectionChains}
use Rattle.lwkt_core.proofs.RunChainLemmas.{IsSettled, zipped}
use Rattle.lwkt_table.proofs.SectionParts.{parts_chains}
use Rattle.lwkt_base.specs.Holding.{is_exclusive}
use Rattle.lwkt_core.specs.Trace.{Run, shown_tallies}
use Rattle.lwkt_table.specs.History.{AreOthers, IsPastOf, events_by, steps_by}
use Rattle.lwkt_table.proofs.HistoryLemmas.{Passes-run, events_by-past, steps_by-past}
use Rattle.lwkt_table.proofs.ViewLemmas.{Views-part, Views-others}
use Rattle.lwkt_bank.specs.Ledger.{IsDone, first_token, first_machine}
use Rattle.lwkt_base.specs.Law.{Obeys, IsTallied}
use Rattle.lwkt_bank.specs.declared.views.Plan.{Plan}
use Rattle.lwkt_bank.specs.Rule.{lies_in, table_words, token_word, cell_word, IsOpeningRow, plan_at, token_at, no_token}
use Rattle.lwkt_bank.proofs.CloseMoves.{Settled, settled}
use Rattle.lwkt_bank.proofs.SeatMoves.{tally-le}
use Rattle.lwkt_bank.proofs.ChangeMoves.{who_is}
use Rattle.lwkt_base.specs.declared.names.CpuId.{CpuId}
use Rattle.lwkt_table.specs.declared.seats.SeatKind.{SeatKind}
use Rattle.lwkt_table.specs.declared.seats.SeatKind.TheVariants.{Clerk, Of, Spent}
use Rattle.lwkt_table.proofs.SeatingLemmas.{total-snoc}
use Rattle.lwkt_bank.specs.declared.views.Added.{Added}
use Rattle.lwkt_bank.specs.declared.views.KnownCell.{KnownCell}
use Rattle.lwkt_bank.specs.declared.views.TokenEntry.{TokenEntry}
use Rattle.lwkt_bank.specs.declared.views.View.{View}
use Rattle.lwkt_bank.specs.declared.seats.CpuSeat.{CpuSeat}
use Rattle.lwkt_bank.specs.declared.kept.Kept.{Kept}
use Rattle.lwkt_bank.specs.Views.{RecordOf, at, amount, generation_in, page_of, known_of, known_blob_of, both_of, joined}
use Rattle.lwkt_table.specs.Seating.{after_back}
use Rattle.lwkt_bank.specs.Notes.{note_at, clerk_number}
use Rattle.lwkt_bank.specs.Seats.{BankId, id_of_desk, entry, past_of, events_of, steps_of}
use Rattle.lwkt_bank.specs.Gathered.{written_by, added_by, IsStill, IsClosedToken, Ends, IsHistory, IsClosed}
use Rattle.lwkt_bank.specs.declared.clerks.ClerkDesk.{ClerkDesk}
use Rattle.lwkt_bank.specs.declared.rules.Key.{Key}
use Rattle.lwkt_bank.specs.Closing.{shown_blob, IsReady, IsChapter, kept_tally, kept_by, Recalls, Gathering, IsRead, AreRead, Left}
use Rattle.lwkt_bank.specs.declared.closed.Closed.{Closed}
use Rattle.lwkt_bank.proofs.ViewMoves.{at-merged}
use Rattle.lwkt_bank.proofs.GatherMoves.{known_same, known_blob_same}

-- what a seat had kept is what its view says was added
kept_is : (s : CpuSeat) (k : Kept) (tok cpu : ℕ) → tok < length s.seat.me.0.plans → k.notes ≡ s.notes → k.cpu ≡ s.cpu → kept_tally tok cpu k ≡ amount cpu (entry s tok).added
kept_is s k tok cpu there notes named =
    let noted = s.kept.each tok there in
    let tally : (note_at k.notes tok).tally ≡ amount s.cpu.0 (entry s tok).added = ap (λ ns. (note_at ns tok).tally) notes ∙ noted.tally in
    ⊎_elim
    (λ (same : k.cpu.0 ≡ cpu).
    let test = ap (λ b. cond b (note_at k.notes tok).tally 0) (eq-eqb k.cpu.0 cpu same) in
    let mine : s.cpu.0 ≡ cpu = sym (ap (λ (c : CpuId). c.0) named) ∙ same in
    test ∙ tally ∙ ap (λ (c : ℕ). amount c (entry s tok).added) mine)
    (λ away.
    let test = ap (λ b. cond b (note_at k.notes tok).tally 0) (ne_eqb k.cpu.0 cpu away) in
    let theirs : cpu ≢ s.cpu.0 = (λ same. away (ap (λ (c : CpuId). c.0) named ∙ sym same)) in
    test ∙ sym (noted.own cpu theirs))
    (cases_eq k.cpu.0 cpu)

-- what is true of each element of a list is true of each of its parts
all_left : {X : Type 0} (P : X → Type 0) (xs ys : List X) → All P (xs ++ ys) → All P xs
all_left P [] ys all = All-nil P
all_left P (x ∷ xs) ys all = All-cons P x xs (All-head P x (xs ++ ys) all) (all_left P xs ys (All-tail P x (xs ++ ys) all))

all_right : {X : Type 0} (P : X → Type 0) (xs ys : List X) → All P (xs ++ ys) → All P ys
all_right P [] ys all = all
all_right P (x ∷ xs) ys all = all_right P xs ys (All-tail P x (xs ++ ys) all)

-- two entries together say at least what each of them says
recalls_left : (t : ℕ) (d e : TokenEntry) → Recalls (both_of t d e) d
recalls_left t d e =
    let g : ℕ = max d.generation e.generation in
    record {
      rises = le-max_left d.generation e.generation;
      cells = λ same row all.
          let P : KnownCell → Type 0 = λ c. slice_get row c.at ≡ Some c.value in
          subst (λ (xs : List KnownCell). All P xs) (known_same d g same) (all_left P (known_of d g) (known_of e g) all);
      records = λ same blob all.
          let P : List ℕ → Type 0 = λ bytes. blob ≡ Some bytes in
          subst (λ (xs : List (List ℕ)). All P xs) (known_blob_same d g same) (all_left P (known_blob_of d g) (known_blob_of e g) all);
    }

recalls_right : (t : ℕ) (d e : TokenEntry) → Recalls (both_of t d e) e
recalls_right t d e =
    let g : ℕ = max d.generation e.generation in
    record {
      rises = le-max_right d.generation e.generation;
      cells = λ same row all.
          let P : KnownCell → Type 0 = λ c. slice_get row c.at ≡ Some c.value in
          subst (λ (xs : List KnownCell). All P xs) (known_same e g same) (all_right P (known_of d g) (known_of e g) all);
      records = λ same blob all.
          let P : List ℕ → Type 0 = λ bytes. blob ≡ Some bytes in
          subst (λ (xs : List (List ℕ)). All P xs) (known_blob_same e g same) (all_right P (known_blob_of d g) (known_blob_of e g) all);
    }

recalls_then : (c d e : TokenEntry) → Recalls c d → Recalls d e → Recalls c e
recalls_then c d e one two = record {
  rises = let a = one.rises in let b = two.rises in omega arith;
  cells = λ same row all.
      let a = one.rises in
      let b = two.rises in
      let first : d.generation ≡ c.generation = omega arith in
      let second : e.generation ≡ d.generation = omega arith in two.cells second row (one.cells first row all);
  records = λ same blob all.
      let a = one.rises in
      let b = two.rises in
      let first : d.generation ≡ c.generation = omega arith in
      let second : e.generation ≡ d.generation = omega arith in two.records second blob (one.records first blob all);
}

-- one seat more was taken back
pub gathering_more : (bank : BankId) (v w : View) (all rest front : List CpuSeat) (s : CpuSeat) (kept : List Kept) (k : Kept) (back : ℕ) → Gathering bank v all rest kept back → rest ≡ front ++ s ∷ [] → w ≡ joined v s.seat.me.0 → k.notes ≡ s.notes → k.cpu ≡ s.cpu
    → Gathering bank w all front (kept ++ k ∷ []) (back + 1)
gathering_more bank v w all rest front s kept k back so_far last is notes named =
    let F : View → Type 0 = λ x. Gathering bank x all front (kept ++ k ∷ []) (back + 1) in
    let ready_all : All (IsReady bank) (front ++ s ∷ []) = subst (λ xs. All (IsReady bank) xs) last so_far.ready in
    let longer = length-append front (s ∷ []) in
    let of_bank : IsReady bank s = All-last front s ready_all in
    let plans : length s.seat.me.0.plans ≡ length bank.plans = ap (λ (b : BankId). length b.plans) of_bank.of in
    subst F (sym is) (record {
      made = so_far.made;
      desk = ap after_back so_far.desk;
      counted = let c = so_far.counted in let l = ap length last in omega arith;
      informed = so_far.informed;
      ready = All-front front s ready_all;
      written = λ tok there.
          let n = so_far.informed in
          let merged_is = ap (λ (e : TokenEntry). e.written) (at-merged (length v.plans) v.tokens s.seat.me.0.tokens tok (omega arith)) in
          let before = so_far.written tok there in
          let split = ap (λ (xs : List CpuSeat). written_by xs tok) last ∙ total-snoc (λ (x : CpuSeat). (entry x tok).written) front s in
          omega arith;
      added = λ tok cpu there.
          let n = so_far.informed in
          let merged_is = ap (λ (e : TokenEntry). amount cpu e.added) (at-merged (length v.plans) v.tokens s.seat.me.0.tokens tok (omega arith)) in
          let both = sum_by-append (λ (q : Added). cond (eqb q.cpu.0 cpu) q.amount 0) (at v.tokens tok).added (at s.seat.me.0.tokens tok).added in
          let before = so_far.added tok cpu there in
          let split = ap (λ (xs : List CpuSeat). added_by xs tok cpu) last ∙ total-snoc (λ (x : CpuSeat). amount cpu (entry x tok).added) front s in
          omega arith;
      adds_up = λ tok cpu there.
          let grown = total-snoc (kept_tally tok cpu) kept k in
          let its = kept_is s k tok cpu (omega arith) notes named in
          let before = so_far.adds_up tok cpu there in
          let split = ap (λ (xs : List CpuSeat). added_by xs tok cpu) last ∙ total-snoc (λ (x : CpuSeat). amount cpu (entry x tok).added) front s in
          omega arith;
      behind = s ∷ so_far.behind;
      in_order = so_far.in_order ∙ ap (λ (xs : List CpuSeat). xs ++ so_far.behind) last ∙ append_assoc front (s ∷ []) so_far.behind;
      recalls = λ tok there.
          let n = so_far.informed in
          let d = at v.tokens tok in
          let e = at s.seat.me.0.tokens tok in
          let merged_is = at-merged (length v.plans) v.tokens s.seat.me.0.tokens tok (omega arith) in
          let P : CpuSeat → Type 0 = λ x. Recalls (both_of tok d e) (entry x tok) in
          let others : All P so_far.behind = All-weaker (λ (x : CpuSeat). Recalls d (entry x tok)) P (λ x r. recalls_then (both_of tok d e) d (entry x tok) (recalls_left tok d e) r) so_far.behind (so_far.recalls tok there) in
          subst (λ (z : TokenEntry). All (λ (x : CpuSeat). Recalls z (entry x tok)) (s ∷ so_far.behind)) (sym merged_is) (All-cons P s so_far.behind (recalls_right tok d e) others);
      chapters =
          let P : CpuSeat → Type 0 = λ x. IsChapter (joined v s.seat.me.0) x in
          let newest : P s = (0, ap (λ (c : CpuId). some (record { cpu = c; past = past_of s })) (who_is s)) in
          All-cons P s so_far.behind newest (All-weaker (IsChapter v) P (λ x c. (suc c.0, c.1)) so_far.behind so_far.chapters);
    })
  where
    All-last : (xs : List CpuSeat) (x : CpuSeat) → All (IsReady bank) (xs ++ x ∷ []) → IsReady bank x
    All-last xs x all_ready = (All-pop (IsReady bank) (xs ++ x ∷ []) xs (Some x) refl all_ready).1

    All-front : (xs : List CpuSeat) (x : CpuSeat) → All (IsReady bank) (xs ++ x ∷ []) → All (IsReady bank) xs
    All-front xs x all_ready = (All-pop (IsReady bank) (xs ++ x ∷ []) xs (Some x) refl all_ready).0

-- nothing was taken back yet
pub gathering_none : (bank : BankId) (v : View) (seats : List CpuSeat) (made : ℕ) → v.kind ≡ Clerk made 0 → length v.plans ≡ length bank.plans → All (IsReady bank) seats
    → ((tok : ℕ) → ((at v.tokens tok).written ≡ 0) × ((cpu : ℕ) → amount cpu (at v.tokens tok).added ≡ 0)) → Gathering bank v seats seats [] 0
gathering_none bank v seats made desk informed ready clean = record {
  made = made;
  desk = desk;
  counted = omega arith;
  informed = informed;
  ready = ready;
  written = λ tok there. let c = (clean tok).0 in omega arith;
  added = λ tok cpu there. let c = (clean tok).1 cpu in omega arith;
  adds_up = λ tok cpu there. omega arith;
  behind = [];
  in_order = sym (append-nil seats);
  recalls = λ tok there. All-nil (λ (s : CpuSeat). Recalls (at v.tokens tok) (entry s tok));
  chapters = All-nil (IsChapter v);
}

-- one element more of a list that is read in order
take_suc : (xs : List ℕ) (i x : ℕ) → get_elem? xs i ≡ some x → take (suc i) xs ≡ take i xs ++ x ∷ []
take_suc [] i x e = absurd (some-ne-none x (sym e))
take_suc (y ∷ ys) zero x e = λ k. some-injective y x e k ∷ []
take_suc (y ∷ ys) (suc i) x e = λ k. y ∷ take_suc ys i x e k

pub take_elem : (xs : List ℕ) (i x : ℕ) → get_elem? xs i ≡ some x → take (i + 1) xs ≡ take i xs ++ x ∷ []
take_elem xs i x e = let same : i + 1 ≡ suc i = omega arith in ap (λ (n : ℕ). take n xs) same ∙ take_suc xs i x e

-- a list that shows the first of some numbers, past which there are zeros, has their sum
sum_zero : (xs : List ℕ) → ((a : ℕ) → slice_index xs a ≡ 0) → sum xs ≡ 0
sum_zero [] none = refl
sum_zero (x ∷ xs) none = let c = sum_by-cons (λ (y : ℕ). y) x xs in let h : x ≡ 0 = none 0 in let r = sum_zero xs (λ a. none (suc a)) in omega arith

sum_shown : (shown all : List ℕ) → length shown ≤ length all → ((a : ℕ) → a < length shown → slice_index shown a ≡ slice_index all a) → ((a : ℕ) → length shown ≤ a → slice_index all a ≡ 0) → sum all ≡ sum shown
sum_shown [] all few same none = sum_zero all (λ a. none a (omega arith))
sum_shown (x ∷ xs) [] few same none = absurd (omega arith)
sum_shown (x ∷ xs) (y ∷ ys) few same none =
    let c = sum_by-cons (λ (z : ℕ). z) x xs in
    let d = sum_by-cons (λ (z : ℕ). z) y ys in
    let h : x ≡ y = same 0 (omega arith) in
    let r = sum_shown xs ys (omega arith) (λ a low. same (suc a) (omega arith)) (λ a far. none (suc a) (omega arith)) in
    omega arith

-- an element that is there is read
elem_read : (xs : List (List ℕ)) (i : ℕ) (x : List ℕ) → get_elem? xs i ≡ some x → get_or xs i [] ≡ x
elem_read [] i x e = absurd (some-ne-none x (sym e))
elem_read (y ∷ ys) zero x e = some-injective y x e
elem_read (y ∷ ys) (suc i) x e = elem_read ys i x e

-- the record shown is the one that lies in its slot
shown_settled : (guard blob : RecordOf) (slots : List (List ℕ)) (tok : ℕ) (home : Option (Option (List ℕ))) → is_some blob ≡ is_some guard → home ≡ some (lies_in blob false) → ((bytes : List ℕ) → home ≡ some (some bytes) → get_elem? slots tok ≡ some bytes) → shown_blob guard (get_or slots tok []) ≡ blob
shown_settled None None slots tok home same lay in_slots = refl
shown_settled None (Some bytes) slots tok home same lay in_slots = absurd (false≢true (sym same))
shown_settled (Some first) None slots tok home same lay in_slots = absurd (false≢true same)
shown_settled (Some first) (Some bytes) slots tok home same lay in_slots = ap (λ (x : List ℕ). Some x) (elem_read slots tok bytes (in_slots bytes lay))

-- a token at the close: what its words and notes say, and what the rule says of them
pub closed_token : (plan : Plan) (cpus : ℕ) (words : List ℕ) (slots : List (List ℕ)) (home : Option (Option (List ℕ))) (kept : List Kept) (tok : ℕ) (tk : Token) (seats : List CpuSeat) (row : List ℕ) (generation : ℕ) (tallies : List ℕ) (blob : RecordOf) (known : TokenEntry) → cpus ≤ 8 → ((bytes : List ℕ) → home ≡ some (some bytes) → get_elem? slots tok ≡ some bytes)
    → Settled plan cpus words home tok tk (written_by seats tok) (λ a. added_by seats tok a) known → All (λ s. Recalls known (entry s tok)) seats → ((a : ℕ) → kept_by kept tok a ≡ added_by seats tok a) → IsRead plan cpus words slots kept tok row generation tallies blob
    → IsClosedToken plan cpus seats tok row generation tallies blob
closed_token plan cpus words slots home kept tok tk seats row generation tallies blob known few in_slots settled recalls adds_up read =
    let same_row : row ≡ settled.row = ext_get_or 0 row settled.row (read.long ∙ sym settled.long) (λ i inside. let l = read.long in let low : i < plan.cells = omega arith in read.cells i low ∙ settled.cells i low) in
    let same_blob : blob ≡ settled.blob = read.blob_is ∙ shown_settled plan.blob settled.blob slots tok home settled.guard settled.lay in_slots in
    let F : List ℕ → Type 0 = λ r. Obeys plan.law plan.param r (length_of settled.blob) in
    let G : RecordOf → Type 0 = λ b. Obeys plan.law plan.param row (length_of b) in
    record {
      long = read.long;
      lawful = subst G (sym same_blob) (subst F (sym same_row) settled.lawful);
      guard = ap is_some same_blob ∙ settled.guard;
      short = subst (λ (b : RecordOf). IsShort b) (sym same_blob) settled.short_blob;
      unwritten_blob = λ same. same_blob ∙ settled.opening_blob (sym read.generation_is ∙ same);
      generation_is = read.generation_is ∙ settled.generation;
      none = read.none;
      as_many = read.as_many;
      each = λ tally cpu low. read.each tally cpu low ∙ adds_up cpu;
      unwritten = λ same. subst (λ (r : List ℕ). IsOpeningRow plan r) (sym same_row) (settled.opening (sym read.generation_is ∙ same));
      stands = All-weaker (λ (s : CpuSeat). Recalls known (entry s tok)) (λ (s : CpuSeat). IsStill (entry s tok) row blob generation)
          (λ s r.
          let later = r.rises in
          let most = settled.stands.not_above in
          let same_generation = read.generation_is in
          record {
            not_above = omega arith;
            cells = λ same.
                let first : known.generation ≡ generation_in (slice_index words (token_word tok)) = omega arith in
                let second : (entry s tok).generation ≡ known.generation = omega arith in
                subst (λ (r' : List ℕ). All (λ c. slice_get r' c.at ≡ Some c.value) (entry s tok).known) (sym same_row) (r.cells second settled.row (settled.stands.cells first));
            records = λ same.
                let first : known.generation ≡ generation_in (slice_index words (token_word tok)) = omega arith in
                let second : (entry s tok).generation ≡ known.generation = omega arith in
                subst (λ (b : RecordOf). All (λ bytes. b ≡ Some bytes) (entry s tok).known_blob) (sym same_blob) (r.records second settled.blob (settled.stands.records first));
          })
          seats recalls;
      all_added = λ tally.
          let P : Law → Type 0 = λ l. IsTallied l plan.param settled.row settled.tallies in
          let sum_is : settled.row ≡ (plan.param + sum settled.tallies) ∷ [] = subst P tally settled.tallied in
          let shown = read.as_many tally in
          let eight = settled.eight in
          let same : sum settled.tallies ≡ sum tallies = sum_shown tallies settled.tallies (omega arith) (λ a low. read.each tally a (omega arith) ∙ adds_up a ∙ sym (settled.tally a)) (λ a far. settled.absent a (omega arith)) in
          same_row ∙ sum_is ∙ ap (λ (n : ℕ). (plan.param + n) ∷ []) same;
    }

-- no tally passes a number of 64 bits
pub tally_fits : (plan : Plan) (cpus : ℕ) (words : List ℕ) (home : Option (Option (List ℕ))) (tok : ℕ) (tk : Token) (written : ℕ) (added : ℕ → ℕ) (known : TokenEntry) → Settled plan cpus words home tok tk written added known → plan.law ≡ Tally → slice_index words (cell_word tok 0) < 18446744073709551616 → (a : ℕ) → added a < 18446744073709551616
tally_fits plan cpus words home tok tk written added known settled tally fits a =
    let P : Law → Type 0 = λ l. IsTallied l plan.param settled.row settled.tallies in
    let sum_is : settled.row ≡ (plan.param + sum settled.tallies) ∷ [] = subst P tally settled.tallied in
    let one : length settled.row ≡ 1 = ap length sum_is in
    let long = settled.long in
    let cell = settled.cells 0 (omega arith) in
    let value : slice_index settled.row 0 ≡ plan.param + sum settled.tallies = ap (λ (r : List ℕ). slice_index r 0) sum_is in
    let most = tally-le settled.tallies a in
    let its = settled.tally a in
    omega arith

-- the last of a list, and the others
more_here : {A : Type 0} (xs : List A) (x d : A) (k : ℕ) → k ≡ length xs → get_or (xs ++ x ∷ []) k d ≡ x
more_here xs x d k is = ap (λ (n : ℕ). get_or (xs ++ x ∷ []) n d) is ∙ get_or-append_seam xs x [] d

-- one that was kept more
pub kept_longer : (xs ys : List Kept) (k : Kept) → ys ≡ xs ++ k ∷ [] → length ys ≡ length xs + 1
kept_longer xs ys k is = let e = ap length is in let l = length-append xs (k ∷ []) in omega arith

-- nothing is read yet
pub read_none : (plans : List Plan) (cpus : ℕ) (words : List ℕ) (slots : List (List ℕ)) (kept : List Kept) (closed : Closed) (count : ℕ) → closed.rows.items ≡ [] → closed.gens.items ≡ [] → closed.tallies.items ≡ [] → closed.blobs.items ≡ [] → count ≡ 0 → AreRead plans cpus words slots kept closed count
read_none plans cpus words slots kept closed count rows gens tallies blobs none = record {
  blobs = ap length blobs ∙ sym none;
  rows = ap length rows ∙ sym none;
  gens = ap length gens ∙ sym none;
  tallies = ap length tallies ∙ sym none;
  each = λ tok low. absurd (omega arith);
}

-- one token more is read
pub read_more : (plans : List Plan) (cpus : ℕ) (words : List ℕ) (slots : List (List ℕ)) (kept : List Kept) (old new : Closed) (count : ℕ) (row : List ℕ) (generation : ℕ) (tallies : List ℕ) (blob : RecordOf) → AreRead plans cpus words slots kept old count
    → IsRead (plan_at plans count) cpus words slots kept count row generation tallies blob → new.rows.items ≡ old.rows.items ++ row ∷ [] → new.gens.items ≡ old.gens.items ++ generation ∷ [] → new.tallies.items ≡ old.tallies.items ++ tallies ∷ [] → new.blobs.items ≡ old.blobs.items ++ blob ∷ []
    → AreRead plans cpus words slots kept new (count + 1)
read_more plans cpus words slots kept old new count row generation tallies blob so_far read rows gens all_tallies all_blobs = record {
  blobs = let l = so_far.blobs in let a = ap length all_blobs in let b = length-append old.blobs.items (blob ∷ []) in omega arith;
  rows = let l = so_far.rows in let a = ap length rows in let b = length-append old.rows.items (row ∷ []) in omega arith;
  gens = let l = so_far.gens in let a = ap length gens in let b = length-append old.gens.items (generation ∷ []) in omega arith;
  tallies = let l = so_far.tallies in let a = ap length all_tallies in let b = length-append old.tallies.items (tallies ∷ []) in omega arith;
  each = λ tok low. ⊎_elim
      (λ (now : tok ≡ count).
      let R : List (List ℕ) → List ℕ → List (List ℕ) → Type 0 = λ rs gs ts. IsRead (plan_at plans tok) cpus words slots kept tok (get_or rs tok []) (get_or gs tok 0) (get_or ts tok []) blob in
      let P : ℕ → Type 0 = λ t. IsRead (plan_at plans t) cpus words slots kept t row generation tallies blob in
      let at_rows : get_or new.rows.items tok [] ≡ row = ap (λ xs. get_or xs tok []) rows ∙ more_here old.rows.items row [] tok (now ∙ sym so_far.rows) in
      let at_gens : get_or new.gens.items tok 0 ≡ generation = ap (λ xs. get_or xs tok 0) gens ∙ more_here old.gens.items generation 0 tok (now ∙ sym so_far.gens) in
      let at_tallies : get_or new.tallies.items tok [] ≡ tallies = ap (λ xs. get_or xs tok []) all_tallies ∙ more_here old.tallies.items tallies [] tok (now ∙ sym so_far.tallies) in
      let at_blobs : get_or new.blobs.items tok None ≡ blob = ap (λ xs. get_or xs tok None) all_blobs ∙ more_here old.blobs.items blob None tok (now ∙ sym so_far.blobs) in
      IsRead_same (plan_at plans tok) cpus words slots kept tok row generation tallies blob (get_or new.rows.items tok []) (get_or new.gens.items tok 0) (get_or new.tallies.items tok []) (get_or new.blobs.items tok None) at_rows at_gens at_tallies at_blobs (subst P (sym now) read))
      (λ before.
      let low' : tok < count = omega arith in
      let r = so_far.rows in
      let g = so_far.gens in
      let t = so_far.tallies in
      let bs = so_far.blobs in
      IsRead_same (plan_at plans tok) cpus words slots kept tok (get_or old.rows.items tok []) (get_or old.gens.items tok 0) (get_or old.tallies.items tok []) (get_or old.blobs.items tok None) (get_or new.rows.items tok []) (get_or new.gens.items tok 0) (get_or new.tallies.items tok []) (get_or new.blobs.items tok None)
      (ap (λ xs. get_or xs tok []) rows ∙ get_or_append_left old.rows.items (row ∷ []) [] tok (omega arith))
      (ap (λ xs. get_or xs tok 0) gens ∙ get_or_append_left old.gens.items (generation ∷ []) 0 tok (omega arith))
      (ap (λ xs. get_or xs tok []) all_tallies ∙ get_or_append_left old.tallies.items (tallies ∷ []) [] tok (omega arith))
      (ap (λ xs. get_or xs tok None) all_blobs ∙ get_or_append_left old.blobs.items (blob ∷ []) None tok (omega arith))
      (so_far.each tok low'))
      (cases_eq tok count);
}
  where
    IsRead_same : (plan : Plan) (c : ℕ) (ws : List ℕ) (ss : List (List ℕ)) (ks : List Kept) (t : ℕ) (row : List ℕ) (generation : ℕ) (tallies : List ℕ) (b : RecordOf) (row' : List ℕ) (generation' : ℕ) (tallies' : List ℕ) (b' : RecordOf) → row' ≡ row → generation' ≡ generation → tallies' ≡ tallies → b' ≡ b → IsRead plan c ws ss ks t row generation tallies b → IsRead plan c ws ss ks t row' generation' tallies' b'
    IsRead_same plan c ws ss ks t row generation tallies b row' generation' tallies' b' same_row same_generation same_tallies same_b read = record {
      blob_is = same_b ∙ read.blob_is;
      long = ap length same_row ∙ read.long;
      cells = λ i low. ap (λ r. slice_index r i) same_row ∙ read.cells i low;
      generation_is = same_generation ∙ read.generation_is;
      none = λ other. same_tallies ∙ read.none other;
      as_many = λ tally. ap length same_tallies ∙ read.as_many tally;
      each = λ tally a low. ap (λ ts. slice_index ts a) same_tallies ∙ read.each tally a low;
    }

-- what is left once all seats were taken back
module _ (bank : BankId) (cpus id : ℕ) (v : View) (words : List ℕ) (slots : List (List ℕ)) (seats : List CpuSeat) (kept : List Kept) (left : Left bank.plans cpus id v words slots) (gathered : Gathering bank v seats [] kept (length seats)) (all : length seats ≡ cpus) where
  abbrev last : Machine
  last = left.1.0.rule.model

  few : cpus ≤ 8
  few = let r = left.1.0.rule in let p = r.safe.processors in let q = r.pictures.processors in omega arith

  pub wide : length words ≡ table_words (length bank.plans)
  wide = sym (ap length left.1.1.1.0) ∙ left.1.0.rule.wide

  settled_token : (tok : ℕ) → tok < length bank.plans → Settled (plan_at bank.plans tok) cpus words (get_elem? left.0.homes tok) tok (token_at last tok) (written_by seats tok) (λ a. added_by seats tok a) (at v.tokens tok)
  settled_token tok there =
      let s = settled bank.plans cpus left.0 id v gathered.made (length seats) tok left.1.0.rule left.1.1.0 gathered.desk (omega arith) there in
      let F : List ℕ → Type 0 = λ ws. Settled (plan_at bank.plans tok) cpus ws (get_elem? left.0.homes tok) tok (token_at last tok) (at v.tokens tok).written (λ a. amount a (at v.tokens tok).added) (at v.tokens tok) in
      let t = subst F left.1.1.1.0 s in
      let w = gathered.written tok there in
      record {
        row = t.row;
        tallies = t.tallies;
        long = t.long;
        cells = t.cells;
        generation = let g = t.generation in omega arith;
        lawful = t.lawful;
        blob = t.blob;
        blob_is = t.blob_is;
        guard = t.guard;
        short_blob = t.short_blob;
        opening_blob = t.opening_blob;
        lay = t.lay;
        tallied = t.tallied;
        eight = t.eight;
        tally = λ a. let x = t.tally a in let y = gathered.added tok a there in omega arith;
        absent = t.absent;
        opening = t.opening;
        stands = t.stands;
        law_is = t.law_is;
        row_is = t.row_is;
        tallies_are = t.tallies_are;
        generation_is = t.generation_is;
        free = t.free;
      }

  adds_up_of : (tok : ℕ) → tok < length bank.plans → (a : ℕ) → kept_by kept tok a ≡ added_by seats tok a
  adds_up_of tok there a = let h = gathered.adds_up tok a there in omega arith

  pub kept_fits : ((k : ℕ) → slice_index words k < 18446744073709551616) → (tok : ℕ) → tok < length bank.plans → (plan_at bank.plans tok).law ≡ Tally → (a : ℕ) → kept_by kept tok a < 18446744073709551616
  kept_fits fits tok there tally a =
      let h = tally_fits (plan_at bank.plans tok) cpus words (get_elem? left.0.homes tok) tok (token_at last tok) (written_by seats tok) (λ b. added_by seats tok b) (at v.tokens tok) (settled_token tok there) tally (fits (cell_word tok 0)) a in
      let e = adds_up_of tok there a in
      omega arith

  pub closed_tokens : (closed : Closed) → AreRead bank.plans cpus words slots kept closed (length bank.plans) → (tok : ℕ) → tok < length bank.plans
      → IsClosedToken (plan_at bank.plans tok) cpus seats tok (get_or closed.rows.items tok []) (get_or closed.gens.items tok 0) (get_or closed.tallies.items tok []) (get_or closed.blobs.items tok None)
  closed_tokens closed read tok there =
      closed_token (plan_at bank.plans tok) cpus words slots (get_elem? left.0.homes tok) kept tok (token_at last tok) seats (get_or closed.rows.items tok []) (get_or closed.gens.items tok 0) (get_or closed.tallies.items tok []) (get_or closed.blobs.items tok None) (at v.tokens tok) few (left.1.1.1.1 tok) (settled_token tok there)
      (subst (λ (xs : List CpuSeat). All (λ (s : CpuSeat). Recalls (at v.tokens tok) (entry s tok)) xs) (sym gathered.in_order) (gathered.recalls tok there)) (adds_up_of tok there) (read.each tok there)

  -- a token that was read is the last machine's
  read_token : (closed : Closed) → AreRead bank.plans cpus words slots kept closed (length bank.plans) → (tok : ℕ) → tok < length bank.plans
      → (get_or closed.rows.items tok [] ≡ (token_at last tok).row) × (get_or closed.gens.items tok 0 ≡ (token_at last tok).generation) × (get_or closed.tallies.items tok [] ≡ shown_tallies (token_at last tok).law last.cpus (token_at last tok).tallies) × (get_or closed.blobs.items tok None ≡ (token_at last tok).blob)
  read_token closed read tok there =
      let r = read.each tok there in
      let t = settled_token tok there in
      let plan = plan_at bank.plans tok in
      let row = get_or closed.rows.items tok [] in
      let tallies = get_or closed.tallies.items tok [] in
      let same_row : row ≡ t.row = ext_get_or 0 row t.row (r.long ∙ sym t.long) (λ i inside. let l = r.long in let low : i < plan.cells = omega arith in r.cells i low ∙ t.cells i low) in
      let processors : last.cpus ≡ cpus = left.1.0.rule.pictures.processors in
      let F : Law → ℕ → List ℕ → Type 0 = λ l c ts. tallies ≡ shown_tallies l c ts in
      let shown : F plan.law cpus t.tallies = shown_by plan.law cpus tallies t.tallies r.none (λ tally.
      let eight = t.eight in
      let f = few in
      let many = r.as_many tally in
      let short : length (take cpus t.tallies) ≡ cpus = length-take-le cpus t.tallies (omega arith) in
      ext_get_or 0 tallies (take cpus t.tallies) (many ∙ sym short) (λ a inside. let low : a < cpus = omega arith in r.each tally a low ∙ adds_up_of tok there a ∙ sym (t.tally a) ∙ sym (get_or-take cpus t.tallies a 0 low))) in (
        same_row ∙ t.row_is,
        r.generation_is ∙ t.generation_is,
        subst (λ l. F l last.cpus (token_at last tok).tallies) (sym t.law_is) (subst (λ c. F plan.law c (token_at last tok).tallies) (sym processors) (subst (λ ts. F plan.law cpus ts) t.tallies_are shown)),
        r.blob_is ∙ shown_settled plan.blob t.blob slots tok (get_elem? left.0.homes tok) t.guard t.lay (left.1.1.1.1 tok) ∙ t.blob_is,
      )
    where
      shown_by : (law : Law) (c : ℕ) (ts all_tallies : List ℕ) → (law ≢ Tally → ts ≡ []) → (law ≡ Tally → ts ≡ take c all_tallies) → ts ≡ shown_tallies law c all_tallies
      shown_by Any c ts all_tallies none some' = none (λ same. absurd (let h = same in cc))
      shown_by Sum c ts all_tallies none some' = none (λ same. absurd (let h = same in cc))
      shown_by Order c ts all_tallies none some' = none (λ same. absurd (let h = same in cc))
      shown_by Cap c ts all_tallies none some' = none (λ same. absurd (let h = same in cc))
      shown_by Len c ts all_tallies none some' = none (λ same. absurd (let h = same in cc))
      shown_by Tally c ts all_tallies none some' = some' refl

  -- the last machine has the closing values, and nobody holds a token of it
  ends : (closed : Closed) → AreRead bank.plans cpus words slots kept closed (length bank.plans) → Ends last closed
  ends closed read =
      let many = left.1.0.rule.pictures.as_many in
      let rows = read.rows in
      let gens = read.gens in
      let tallies = read.tallies in
      let blobs = read.blobs in
      record {
        free = λ tok d low cpu. subst (λ (t : Token). held_by t cpu ≡ Nothing) (get_or_default last.tokens tok no_token d low) ((settled_token tok (omega arith)).free cpu);
        rows = ext_get_or [] closed.rows.items (map (λ t. t.row) last.tokens) (let l = length-map last.tokens (λ (t : Token). t.row) in omega arith)
            (λ tok low. (read_token closed read tok (omega arith)).0 ∙ sym (get_or-map (λ (t : Token). t.row) last.tokens tok no_token [] (omega arith)));
        gens = ext_get_or 0 closed.gens.items (map (λ t. t.generation) last.tokens) (let l = length-map last.tokens (λ (t : Token). t.generation) in omega arith)
            (λ tok low. (read_token closed read tok (omega arith)).1 ∙ sym (get_or-map (λ (t : Token). t.generation) last.tokens tok no_token 0 (omega arith)));
        tallies = ext_get_or [] closed.tallies.items (map (λ t. shown_tallies t.law last.cpus t.tallies) last.tokens) (let l = length-map last.tokens (λ (t : Token). shown_tallies t.law last.cpus t.tallies) in omega arith)
            (λ tok low. (read_token closed read tok (omega arith)).2 ∙ sym (get_or-map (λ (t : Token). shown_tallies t.law last.cpus t.tallies) last.tokens tok no_token [] (omega arith)));
        blobs = ext_get_or None closed.blobs.items (map (λ t. t.blob) last.tokens) (let l = length-map last.tokens (λ (t : Token). t.blob) in omega arith)
            (λ tok low. (read_token closed read tok (omega arith)).3 ∙ sym (get_or-map (λ (t : Token). t.blob) last.tokens tok no_token None (omega arith)));
        messages = left.1.0.rule.pictures.no_messages;
      }

  abbrev pub history : List Deed
  history = left.1.0.chronicle.history

  -- one deed that is done is a run of its event
  done_runs : (m : Machine) (d : Deed) (n : Machine) → IsDone m d n → Run m d.events n
  done_runs m d n done = let F : List Event → Type 0 = λ es. Run m es n in subst F (sym done.events) (n, (done.happens, refl))

  -- what a seat that came back had seen has all of its processor's part
  part_of : (s : CpuSeat) → IsChapter v s → IsPastOf history s.cpu.0 (past_of s)
  part_of s c = Views-part IsDone page_of (first_machine bank.plans cpus) last left.0.views left.1.0.chronicle id v left.1.1.0 cpus left.1.0.rule.seats gathered.made (length seats) gathered.desk (omega arith) c.0 (record { cpu = s.cpu; past = past_of s }) c.1

  -- the sections that the processors name go from the declared rows to the closing ones
  declared_settled : (plans : List Plan) → All IsSettled (map first_token plans)
  declared_settled [] = All-nil IsSettled
  declared_settled (p ∷ plans) = All-cons IsSettled (first_token p) (map first_token plans) refl (declared_settled plans)

  closed_sections : (closed : Closed) → AreRead bank.plans cpus words slots kept closed (length bank.plans) → AreSectionChains (rows_of (first_machine bank.plans cpus)) (zip closed.rows.items closed.gens.items) (sections_by cpus history)
  closed_sections closed read =
      let end = ends closed read in
      let ledger = left.1.0 in
      let opening : Machine = first_machine bank.plans cpus in
      let run = Passes-run IsDone (λ m. m) done_runs opening history last ledger.chronicle.passes in
      let settled_last : All IsSettled last.tokens = λ tok d low. (ledger.rule.safe.each_token tok d low).settled (λ cpu. ap is_exclusive (end.free tok d low cpu)) in
      let others : (cpu : ℕ) → cpus ≤ cpu → AreOthers cpu history = λ cpu high. Views-others IsDone page_of opening last left.0.views ledger.chronicle id v left.1.1.0 cpus ledger.rule.seats gathered.made (length seats) gathered.desk (omega arith) cpu high in
      let rows : rows_of last ≡ zip closed.rows.items closed.gens.items =
      sym (ap (λ (rs : List (List ℕ)). zip rs closed.gens.items) end.rows ∙ ap (λ (gs : List ℕ). zip (map (λ (tok : Token). tok.row) last.tokens) gs) end.gens ∙ zipped last.tokens) in
      subst (λ (rs : RowsAt). AreSectionChains (rows_of opening) rs (sections_by cpus history)) rows (parts_chains opening history last cpus run (declared_settled bank.plans) settled_last others)

  pub closed_history : (closed : Closed) → AreRead bank.plans cpus words slots kept closed (length bank.plans) → IsHistory bank cpus seats closed history
  closed_history closed read =
      let chapters : All (IsChapter v) seats = subst (λ (xs : List CpuSeat). All (IsChapter v) xs) (sym gathered.in_order) gathered.chapters in
      record {
        last = last;
        passes = left.1.0.chronicle.passes;
        run = Passes-run IsDone (λ m. m) done_runs (first_machine bank.plans cpus) history last left.1.0.chronicle.passes;
        ends = ends closed read;
        parts = All-weaker (IsChapter v) (λ (s : CpuSeat). IsPastOf history s.cpu.0 (past_of s)) (λ s c. part_of s c) seats chapters;
        events = All-weaker (IsChapter v) (λ (s : CpuSeat). events_of s ≡ events_by s.cpu.0 history) (λ s c. sym (events_by-past history s.cpu.0 (past_of s) (part_of s c))) seats chapters;
        steps = All-weaker (IsChapter v) (λ (s : CpuSeat). steps_of s ≡ steps_by s.cpu.0 history) (λ s c. sym (steps_by-past history s.cpu.0 (past_of s) (part_of s c))) seats chapters;
        sections = closed_sections closed read;
        others = λ cpu high. Views-others IsDone page_of (first_machine bank.plans cpus) last left.0.views left.1.0.chronicle id v left.1.1.0 cpus left.1.0.rule.seats gathered.made (length seats) gathered.desk (omega arith) cpu high;
      }

-- the clerk before it takes a seat back
pub clerk_by_number : (kind : SeatKind) → clerk_number kind ≡ 1 → (made : ℕ) × (kind ≡ Clerk made 0)
clerk_by_number (Clerk made back) e = let none : back ≡ 0 = omega arith in (made, ap (Clerk made) none)
clerk_by_number (Of cpu) e = absurd (omega arith)
clerk_by_number Spent e = absurd (omega arith)

-- the same over a desk, whose table was given what the bank keeps
module _ (desk : ClerkDesk) (id : ℕ) (v : View) (words : List ℕ) (slots : List (List ℕ)) (seats : List CpuSeat) (kept : List Kept)
    (left : Left desk.table.shared.key.plans.items desk.table.shared.key.cpus id v words slots)
    (gathered : Gathering (record { table = desk.table.shared.table_id; plans = desk.table.shared.key.plans.items }) v seats [] kept (length seats)) (all : length seats ≡ desk.key.cpus) where
  left_here : Left desk.key.plans.items desk.key.cpus id v words slots
  left_here = let F : Key → Type 0 = λ k. Left k.plans.items k.cpus id v words slots in subst F desk.key_is left

  gathered_here : Gathering (id_of_desk desk) v seats [] kept (length seats)
  gathered_here = let F : Key → Type 0 = λ k. Gathering (record { table = desk.table.shared.table_id; plans = k.plans.items }) v seats [] kept (length seats) in subst F desk.key_is gathered

  pub bank_fits : ((k : ℕ) → slice_index words k < 18446744073709551616) → (tok : ℕ) → tok < length desk.key.plans.items → (plan_at desk.key.plans.items tok).law ≡ Tally → (a : ℕ) → kept_by kept tok a < 18446744073709551616
  bank_fits fits tok there tally a = kept_fits (id_of_desk desk) desk.key.cpus id v words slots seats kept left_here gathered_here all fits tok there tally a

  pub bank_wide : length words ≡ table_words (length desk.key.plans.items)
  bank_wide = wide (id_of_desk desk) desk.key.cpus id v words slots seats kept left_here gathered_here all

  pub bank_closed : (closed : Closed) → AreRead desk.key.plans.items desk.key.cpus words slots kept closed (length desk.key.plans.items) → IsClosed (id_of_desk desk) desk.key.cpus seats closed
  bank_closed closed read = record {
    rows = read.rows;
    gens = read.gens;
    tallies = read.tallies;
    blobs = read.blobs;
    each = λ tok there. closed_tokens (id_of_desk desk) desk.key.cpus id v words slots seats kept left_here gathered_here all closed read tok there;
    history = history (id_of_desk desk) desk.key.cpus id v words slots seats kept left_here gathered_here all;
    is_history = closed_history (id_of_desk desk) desk.key.cpus id v words slots seats kept left_here gathered_here all closed read;
  }
