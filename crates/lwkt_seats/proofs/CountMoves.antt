-- How many references a seat has after each call.
use Rattle.std.proofs.Common.{◌≡◌, ℕ, ◌+◌, ◌-◌, ◌<◌, Bool, true, false, cond, eqb, inl, inr, List, refl, ap, sym, ◌∙◌, subst, arith}
use Rattle.std.proofs.lemmas.Bool.{eqb-true, eqb-false}
use Rattle.std.proofs.Math.Path.{fun_ext}
use Rattle.lwkt_base.specs.declared.names.Mode.{Mode}
use Rattle.lwkt_base.specs.declared.names.Mode.TheVariants.{Exclusive, Shared}
use Rattle.lwkt_base.specs.declared.holdings.Held.{Held}
use Rattle.lwkt_base.specs.declared.holdings.Held.TheVariants.{Nothing, Holds}
use Rattle.lwkt_base.specs.Holding.{Holding, is_held, one_more, one_less, added, removed}
use Rattle.lwkt_bank.specs.declared.seats.CpuSeat.{CpuSeat}
use Rattle.lwkt_bank.specs.declared.answers.Given.{Given}
use Rattle.lwkt_bank.specs.declared.answers.Given.TheVariants.{One, Clean, Written}
use Rattle.lwkt_bank.specs.Views.{count_from, looked}
use Rattle.lwkt_bank.specs.Seats.{BankId, bank_of, tokens_of, plan_of, entry, holding, references, Lost, Looked, Gave, IsUnchanged}
use Rattle.lwkt_bank.proofs.HoldMoves.{taking_adds, again_adds, giving_removes, added_counts}
use Rattle.lwkt_bank.proofs.ChangeMoves.{same_holding, same_references}
use Rattle.lwkt_seats.specs.declared.answers.Asked.{Asked}
use Rattle.lwkt_seats.specs.declared.answers.Asked.TheVariants as asked
use Rattle.lwkt_seats.specs.declared.answers.Furthered.{Furthered}
use Rattle.lwkt_seats.specs.declared.answers.Furthered.TheVariants as furthered
use Rattle.lwkt_seats.specs.declared.answers.Marked.{Marked}
use Rattle.lwkt_seats.specs.declared.answers.Marked.TheVariants as marked
use Rattle.lwkt_seats.specs.declared.answers.GaveBack.{GaveBack}
use Rattle.lwkt_seats.specs.declared.answers.GaveBack.TheVariants as gave
use Rattle.lwkt_seats.specs.declared.answers.Loaded.{Loaded}
use Rattle.lwkt_seats.specs.declared.answers.Loaded.TheVariants as loaded
use Rattle.lwkt_seats.specs.declared.answers.Stored.{Stored}
use Rattle.lwkt_seats.specs.declared.answers.Stored.TheVariants as done
use Rattle.lwkt_seats.specs.declared.answers.Added.{Added}
use Rattle.lwkt_seats.specs.declared.answers.Added.TheVariants as sum
use Rattle.lwkt_seats.specs.declared.answers.Judged.{Judged}
use Rattle.lwkt_seats.specs.declared.answers.Judged.TheVariants as judged
use Rattle.lwkt_seats.specs.declared.answers.RowRestored.{RowRestored}
use Rattle.lwkt_seats.specs.declared.answers.RowRestored.TheVariants as restored
use Rattle.lwkt_seats.specs.declared.answers.RecordRead.{RecordRead}
use Rattle.lwkt_seats.specs.declared.answers.RecordRead.TheVariants as read
use Rattle.lwkt_seats.specs.declared.answers.RecordWritten.{RecordWritten}
use Rattle.lwkt_seats.specs.declared.answers.RecordWritten.TheVariants as wrote
use Rattle.lwkt_seats.specs.Asks.{AsksFor, Furthers, MarksToken, GivesReference, GivesToken}
use Rattle.lwkt_seats.specs.Cells.{Loads, StoresInCell, AddsToCell, JudgesToken, RestoresRow, Restores}
use Rattle.lwkt_seats.specs.Records.{ReadsBytes, WritesBytes}
use Rattle.lwkt_seats.specs.Counts.{count_asked, count_furthered, count_gave}
use Rattle.lwkt_seats.proofs.ListMoves.{looked_held}
use Rattle.lwkt_seats.proofs.BriefMoves.{tally_or_not}

-- one reference less, and then one more in the same mode
abbrev mode_in : Held → Mode
mode_in Nothing = Exclusive
mode_in (Holds mode further) = mode

less_if : (b : Bool) (mode : Mode) (further : ℕ) → (b ≡ true → further ≡ 0) → (b ≡ false → further - 1 + 1 ≡ further) → one_more (cond b Nothing (Holds mode (further - 1))) mode ≡ Holds mode further
less_if true mode further none some = ap (λ (n : ℕ). Holds mode n) (sym (none refl))
less_if false mode further none some = ap (λ (n : ℕ). Holds mode n) (some refl)

one_back : (held : Held) → is_held held ≡ true → one_more (one_less held) (mode_in held) ≡ held
one_back Nothing is = absurd cc
one_back (Holds mode further) is = less_if (eqb further 0) mode further (λ yes. eqb-true further 0 yes) (λ no. let apart = eqb-false further 0 no in omega (arith, apart))

back_if : (b : Bool) (held : Held) (mode : Mode) → (b ≡ true → one_more (one_less held) mode ≡ held) → cond b (one_more (cond b (one_less held) held) mode) (cond b (one_less held) held) ≡ held
back_if true held mode is = is refl
back_if false held mode is = refl

added_back : (h : Holding) (tok : ℕ) → is_held (h tok) ≡ true → h ≡ added (removed h tok) tok (mode_in (h tok))
added_back h tok held = fun_ext (λ other. sym (back_if (eqb other tok) (h other) (mode_in (h tok)) (λ here.
    let F : ℕ → Type 0 = λ k. one_more (one_less (h k)) (mode_in (h tok)) ≡ h k in
    subst F (sym (eqb-true other tok here)) (one_back (h tok) held))))

-- a call that adds a reference, and one that gives one back
more_counted : (s s' : CpuSeat) (tok : ℕ) (mode : Mode) → holding s' ≡ added (holding s) tok mode → bank_of s' ≡ bank_of s → tok < tokens_of (bank_of s) → references s' ≡ references s + 1
more_counted s s' tok mode holds bank there =
    ap (λ (b : BankId). count_from 0 (tokens_of b) (holding s')) bank ∙ ap (λ (h : Holding). count_from 0 (tokens_of (bank_of s)) h) holds ∙ added_counts (tokens_of (bank_of s)) tok (holding s) mode there

less_counted : (s s' : CpuSeat) (tok : ℕ) → holding s' ≡ removed (holding s) tok → bank_of s' ≡ bank_of s → tok < tokens_of (bank_of s) → is_held (holding s tok) ≡ true → references s ≡ references s' + 1
less_counted s s' tok holds bank there held =
    let tokens = tokens_of (bank_of s) in
    let before : references s ≡ count_from 0 tokens (removed (holding s) tok) + 1 =
    ap (λ (h : Holding). count_from 0 tokens h) (added_back (holding s) tok held) ∙ added_counts tokens tok (removed (holding s) tok) (mode_in (holding s tok)) there in
    let after : references s' ≡ count_from 0 tokens (removed (holding s) tok) =
    ap (λ (b : BankId). count_from 0 (tokens_of b) (holding s')) bank ∙ ap (λ (h : Holding). count_from 0 tokens h) holds in
    before ∙ ap (λ (n : ℕ). n + 1) (sym after)

-- calls that keep what is held
unmoved : (s s' : CpuSeat) → IsUnchanged s s' → references s' ≡ references s
unmoved s s' is =
    ap (λ (b : BankId). count_from 0 (tokens_of b) (holding s')) is.bank ∙ ap (λ (h : Holding). count_from 0 (tokens_of (bank_of s)) h) (fun_ext (λ tok. ap (λ e. e.held) (is.entries tok)))

looks : (s s' : CpuSeat) (tok word : ℕ) → Looked s s' tok word → references s' ≡ references s
looks s s' tok word l = same_references s s' tok _ _ l.changes (looked_held (entry s tok) word)

loses : (s s' : CpuSeat) (tok : ℕ) (mode : Mode) (alone : Bool) → Lost s s' tok mode alone → references s' ≡ references s
loses s s' tok mode alone l = same_references s s' tok _ _ l.changes (looked_held (looked (entry s tok) l.word) l.found ∙ looked_held (entry s tok) l.word)

same : (s s' : CpuSeat) → s' ≡ s → references s' ≡ references s
same s s' is = ap (λ (x : CpuSeat). references x) is

pub asks : (mode : Mode) (tok : ℕ) (s s' : CpuSeat) (answer : Asked) → AsksFor mode tok s s' answer → references s' ≡ count_asked answer (references s)
asks mode tok s s' asked.Taken does = more_counted s s' tok mode (taking_adds s s' tok does.1.0 mode _ does.0.2 does.1.1) does.1.1.changes.bank does.0.0
asks mode tok s s' asked.Further does = more_counted s s' tok Shared (again_adds s s' tok does.4) does.4.changes.bank does.0
asks mode tok s s' asked.NoToken does = same s s' does.1
asks mode tok s s' asked.ListFull does = same s s' does.2
asks mode tok s s' asked.Upgrade does = same s s' does.3
asks mode tok s s' asked.Busy does = looks s s' tok does.1.0 does.1.1.1
asks mode tok s s' asked.Again does = loses s s' tok mode _ does.1
asks mode tok s s' asked.Worn does = looks s s' tok does.1.0 does.1.1.1

pub furthers : (tok : ℕ) (s s' : CpuSeat) (answer : Furthered) → Furthers tok s s' answer → references s' ≡ count_furthered answer (references s)
furthers tok s s' furthered.Further does = more_counted s s' tok Shared (again_adds s s' tok does.3) does.3.changes.bank does.0
furthers tok s s' furthered.NoToken does = same s s' does.1
furthers tok s s' furthered.NotHeld does = same s s' does.2
furthers tok s s' furthered.ListFull does = same s s' does.3

pub marks : (tok : ℕ) (s s' : CpuSeat) (answer : Marked) → MarksToken tok s s' answer → references s' ≡ references s
marks tok s s' marked.Set does = same_references s s' tok _ _ does.1.changes refl
marks tok s s' marked.NoToken does = same s s' does.1

gave_bank : (s s' : CpuSeat) (tok : ℕ) (given : Given) → Gave s s' tok given → bank_of s' ≡ bank_of s
gave_bank s s' tok One g = g.1.changes.bank
gave_bank s s' tok Clean g = g.2.changes.bank
gave_bank s s' tok (Written section) g = g.2.changes.bank

gives_less : (s s' : CpuSeat) (tok : ℕ) (given : Given) → Gave s s' tok given → tok < tokens_of (bank_of s) → is_held (holding s tok) ≡ true → references s ≡ references s' + 1
gives_less s s' tok given g there held = less_counted s s' tok (giving_removes s s' tok given g) (gave_bank s s' tok given g) there held

given : (tok : ℕ) (s s' : CpuSeat) → tok < tokens_of (bank_of s) → is_held (holding s tok) ≡ true → GivesReference tok s s' → references s ≡ references s' + 1
given tok s s' there held does = elim does [
  | inl one ↦ gives_less s s' tok one.1.0 one.1.1 there held
  | inr last ↦
      let mid = last.2.0 in
      let changes = last.2.1.0.changes in
      let count : references mid ≡ references s = same_references s mid tok _ _ changes refl in
      let holds = same_holding s mid tok _ _ changes refl in
      let there_mid = subst (λ (b : BankId). tok < tokens_of b) (sym changes.bank) there in
      let held_mid = ap (λ (h : Holding). is_held (h tok)) holds ∙ held in
      sym count ∙ gives_less mid s' tok last.2.1.1.0 last.2.1.1.1 there_mid held_mid
]

pub gives : (tok : ℕ) (s s' : CpuSeat) (answer : GaveBack) → GivesToken tok s s' answer → references s' ≡ count_gave answer (references s)
gives tok s s' gave.Given does =
    let less : references s ≡ references s' + 1 = given tok s s' does.0 does.1 does.2 in
    omega (arith, less)
gives tok s s' gave.NoToken does = same s s' does.1
gives tok s s' gave.NotHeld does = same s s' does.2
gives tok s s' gave.Broken does = same_references s s' tok _ _ does.3.changes refl

-- a reference is given back only where there is one
pub gives_some : (tok : ℕ) (s s' : CpuSeat) (answer : GaveBack) → GivesToken tok s s' answer → answer ≡ gave.Given → 0 < references s
gives_some tok s s' answer does is =
    let F : GaveBack → Type 0 = λ a. GivesToken tok s s' a in
    let gives_it : GivesToken tok s s' gave.Given = subst F is does in
    let less : references s ≡ references s' + 1 = given tok s s' gives_it.0 gives_it.1 gives_it.2 in
    omega (arith, less)

pub loads : (tok cell : ℕ) (s s' : CpuSeat) (answer : Loaded) → Loads tok cell s s' answer → references s' ≡ references s
loads tok cell s s' (loaded.Value value) does = same_references s s' tok _ _ does.3 refl
loads tok cell s s' loaded.NoToken does = same s s' does.1
loads tok cell s s' loaded.NoCell does = same s s' does.2
loads tok cell s s' loaded.NotHeld does = same s s' does.2

pub stores : (tok cell value : ℕ) (s s' : CpuSeat) (answer : Stored) → StoresInCell tok cell value s s' answer → references s' ≡ references s
stores tok cell value s s' done.Stored does = same_references s s' tok _ _ does.3.changes refl
stores tok cell value s s' done.NoToken does = same s s' does.1
stores tok cell value s s' done.NoCell does = same s s' does.2
stores tok cell value s s' done.NotHeld does = same s s' does.2
stores tok cell value s s' done.SharedWrite does = same s s' does.2
stores tok cell value s s' done.TallyOnly does = unmoved s s' does.3

pub adds : (tok amount : ℕ) (s s' : CpuSeat) (answer : Added) → AddsToCell tok amount s s' answer → references s' ≡ references s
adds tok amount s s' (sum.Sum total) does = same_references s s' tok _ _ does.4.changes refl
adds tok amount s s' sum.NoToken does = same s s' does.1
adds tok amount s s' sum.NotHeld does = same s s' does.2
adds tok amount s s' sum.SharedWrite does = same s s' does.2
adds tok amount s s' sum.TallyOnly does = unmoved s s' does.3
adds tok amount s s' sum.Overflow does = same_references s s' tok _ _ does.4.changes refl

pub judges : (tok : ℕ) (s s' : CpuSeat) (answer : Judged) → JudgesToken tok s s' answer → references s' ≡ references s
judges tok s s' judged.Lawful does = same_references s s' tok _ _ does.3.changes refl
judges tok s s' judged.Broken does = same_references s s' tok _ _ does.3.changes refl
judges tok s s' judged.NoToken does = same s s' does.1
judges tok s s' judged.NotHeld does = same s s' does.2
judges tok s s' judged.SharedWrite does = same s s' does.2

restores_row : (tok : ℕ) (s s' : CpuSeat) → RestoresRow tok s s' → references s' ≡ references s
restores_row tok s s' does = elim (tally_or_not (plan_of (bank_of s) tok).law) [
  | inl is ↦ unmoved s s' (does.1 is)
  | inr not ↦ same_references s s' tok _ _ (does.0 not).1.1.changes refl
]

pub restores : (tok : ℕ) (s s' : CpuSeat) (answer : RowRestored) → Restores tok s s' answer → references s' ≡ references s
restores tok s s' restored.Restored does = restores_row tok s s' does.2
restores tok s s' restored.NoToken does = same s s' does.1
restores tok s s' restored.NotHeld does = same s s' does.2
restores tok s s' restored.SharedWrite does = same s s' does.2

pub reads : (tok : ℕ) (s s' : CpuSeat) (answer : RecordRead) → ReadsBytes tok s s' answer → references s' ≡ references s
reads tok s s' (read.Bytes bytes) does = same_references s s' tok _ _ does.3 refl
reads tok s s' read.NoToken does = same s s' does.1
reads tok s s' read.NoRecord does = same s s' does.1
reads tok s s' read.NotHeld does = same s s' does.2
reads tok s s' read.SharedRecord does = same s s' does.2

pub writes : (tok : ℕ) (bytes : List ℕ) (s s' : CpuSeat) (answer : RecordWritten) → WritesBytes tok bytes s s' answer → references s' ≡ references s
writes tok bytes s s' wrote.Written does = same_references s s' tok _ _ does.3 refl
writes tok bytes s s' wrote.NoToken does = same s s' does.1
writes tok bytes s s' wrote.NoRecord does = same s s' does.1
writes tok bytes s s' wrote.NotHeld does = same s s' does.2
writes tok bytes s s' wrote.SharedRecord does = same s s' does.2
writes tok bytes s s' wrote.RecordLong does = same s s' does.3
