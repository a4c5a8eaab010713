-- Each call on a seat leaves the records that it knows short.
use Rattle.std.proofs.Common.{◌≡◌, ◌≢◌, ◌⊎◌, ℕ, ◌≤◌, Bool, true, false, cond, eqb, List, [], ◌∷◌, length, refl, ap, sym, ◌∙◌, subst, arith, inl, inr}
use Rattle.std.proofs.lemmas.Bool.{eqb-true, eqb-false, cases_Bool}
use Rattle.std.specs.Prelude.{Option, Some, None, IsSomeAnd, slice_get, take}
use Rattle.lwkt_base.specs.declared.names.CpuId.{CpuId}
use Rattle.lwkt_base.specs.declared.names.Mode.{Mode}
use Rattle.lwkt_base.specs.declared.names.Ref.{Ref}
use Rattle.lwkt_base.specs.declared.names.TokId.{TokId}
use Rattle.lwkt_base.specs.declared.laws.Law.{Law}
use Rattle.lwkt_base.specs.declared.laws.Law.TheVariants.{Any, Sum, Order, Cap, Tally, Len}
use Rattle.lwkt_core.specs.Tokens.{IsShort}
use Rattle.lwkt_table.specs.declared.seats.Deed.{Deed}
use Rattle.lwkt_bank.specs.declared.views.TokenEntry.{TokenEntry}
use Rattle.lwkt_bank.specs.declared.seats.CpuSeat.{CpuSeat}
use Rattle.lwkt_bank.specs.declared.answers.Given.{Given}
use Rattle.lwkt_bank.specs.declared.answers.Given.TheVariants.{One, Clean, Written}
use Rattle.lwkt_bank.specs.Views.{generation_in, looked}
use Rattle.lwkt_bank.specs.Seats.{plan_of, bank_of, entry, Changes, Looked, Took, Lost, Stepped, Gave, Knowing, IsUnchanged}
use Rattle.lwkt_seats.specs.declared.answers.Asked.{Asked}
use Rattle.lwkt_seats.specs.declared.answers.Asked.TheVariants as asked
use Rattle.lwkt_seats.specs.declared.answers.Furthered.{Furthered}
use Rattle.lwkt_seats.specs.declared.answers.Furthered.TheVariants as furthered
use Rattle.lwkt_seats.specs.declared.answers.Marked.{Marked}
use Rattle.lwkt_seats.specs.declared.answers.Marked.TheVariants as marked
use Rattle.lwkt_seats.specs.declared.answers.GaveBack.{GaveBack}
use Rattle.lwkt_seats.specs.declared.answers.GaveBack.TheVariants as gave
use Rattle.lwkt_seats.specs.declared.answers.Loaded.{Loaded}
use Rattle.lwkt_seats.specs.declared.answers.Loaded.TheVariants as loaded
use Rattle.lwkt_seats.specs.declared.answers.Stored.{Stored}
use Rattle.lwkt_seats.specs.declared.answers.Stored.TheVariants as done
use Rattle.lwkt_seats.specs.declared.answers.Added.{Added}
use Rattle.lwkt_seats.specs.declared.answers.Added.TheVariants as added
use Rattle.lwkt_seats.specs.declared.answers.Judged.{Judged}
use Rattle.lwkt_seats.specs.declared.answers.Judged.TheVariants as judged
use Rattle.lwkt_seats.specs.declared.answers.RowRestored.{RowRestored}
use Rattle.lwkt_seats.specs.declared.answers.RowRestored.TheVariants as restored
use Rattle.lwkt_seats.specs.declared.answers.RecordRead.{RecordRead}
use Rattle.lwkt_seats.specs.declared.answers.RecordRead.TheVariants as read
use Rattle.lwkt_seats.specs.declared.answers.RecordWritten.{RecordWritten}
use Rattle.lwkt_seats.specs.declared.answers.RecordWritten.TheVariants as wrote
use Rattle.lwkt_seats.specs.declared.references.LwktReference.{LwktReference}
use Rattle.lwkt_seats.specs.declared.list_answers.Missed.{Missed}
use Rattle.lwkt_seats.specs.declared.list_answers.Missed.TheVariants as missed
use Rattle.lwkt_seats.specs.declared.list_answers.Resumed.{Resumed}
use Rattle.lwkt_seats.specs.declared.list_answers.Resumed.TheVariants as resumed
use Rattle.lwkt_seats.specs.Asks.{AsksFor, Furthers, MarksToken, GivesToken, GivesReference}
use Rattle.lwkt_seats.specs.Cells.{Loads, StoresInCell, AddsToCell, JudgesToken, RestoresRow, Restores}
use Rattle.lwkt_seats.specs.Records.{ReadsBytes, WritesBytes}
use Rattle.lwkt_seats.specs.Lists.{DoneInTurn, TakesOne, MissesOne, GivesUnwritten, ResumesSeat, EndsRestored, EndsOne, EndsPair, BlocksSeat, refs_of}
use Rattle.lwkt_seats.specs.Calls.{PutsRecord}
use Rattle.lwkt_seats.specs.Numbers.{record_read_number}
use Rattle.lwkt_seats.specs.Brief.{IsBrief, AreBrief}

-- what a call leaves short, if it was
abbrev pub Keeps : CpuSeat → CpuSeat → Type 0
Keeps old new = AreBrief old → AreBrief new

changed : (s s' : CpuSeat) (tok : ℕ) (e : TokenEntry) (deeds : List Deed) → Changes s s' tok e deeds → (IsBrief (entry s tok) → IsBrief e) → Keeps s s'
changed s s' tok e deeds c here brief other = elim (cases_Bool (eqb other tok)) [
  | inl is ↦ subst IsBrief (sym (ap (entry s') (eqb-true other tok is) ∙ c.here)) (here (brief tok))
  | inr is ↦ subst IsBrief (sym (c.else_ other (eqb-false other tok is))) (brief other)
]

same : (s s' : CpuSeat) → s' ≡ s → Keeps s s'
same s s' is brief = subst AreBrief (sym is) brief

unchanged : (s s' : CpuSeat) → IsUnchanged s s' → Keeps s s'
unchanged s s' is brief tok = subst IsBrief (sym (is.entries tok)) (brief tok)

seen_brief : (b : Bool) (e : TokenEntry) (generation : ℕ) → IsBrief e → IsBrief (cond b e (record e { generation = generation; known = []; known_blob = [] }))
seen_brief true e generation brief = brief
seen_brief false e generation brief = brief

looked_brief : (e : TokenEntry) (word : ℕ) → IsBrief e → IsBrief (looked e word)
looked_brief e word = seen_brief (eqb e.generation (generation_in word)) e (generation_in word)

looks : (s s' : CpuSeat) (tok word : ℕ) → Looked s s' tok word → Keeps s s'
looks s s' tok word l = changed s s' tok _ _ l.changes (looked_brief (entry s tok) word)

takes : (s s' : CpuSeat) (tok : ℕ) (mode : Mode) (alone : Bool) (generation : ℕ) → Took s s' tok mode alone generation → Keeps s s'
takes s s' tok mode alone generation t = changed s s' tok _ _ t.changes (λ brief. (t.found.short, t.found.short))

loses : (s s' : CpuSeat) (tok : ℕ) (mode : Mode) (alone : Bool) → Lost s s' tok mode alone → Keeps s s'
loses s s' tok mode alone l = changed s s' tok _ _ l.changes (λ brief. looked_brief (looked (entry s tok) l.word) l.found (looked_brief (entry s tok) l.word brief))

steps : (s s' : CpuSeat) (tok : ℕ) (e : TokenEntry) (deed : CpuId → ℕ → ℕ → Deed) → Stepped s s' tok e deed → (IsBrief (entry s tok) → IsBrief e) → Keeps s s'
steps s s' tok e deed step here = changed s s' tok e _ step.changes here

knows : (s s' : CpuSeat) (tok : ℕ) (e : TokenEntry) (deeds : List Deed) → Knowing s s' tok e deeds → (IsBrief (entry s tok) → IsBrief e) → Keeps s s'
knows s s' tok e deeds k here = changed s s' tok _ deeds k.changes here

gives_back : (s s' : CpuSeat) (tok : ℕ) (given : Given) → Gave s s' tok given → Keeps s s'
gives_back s s' tok One g = changed s s' tok _ _ g.1.changes (λ brief. brief)
gives_back s s' tok Clean g = changed s s' tok _ _ g.2.changes (λ brief. brief)
gives_back s s' tok (Written section) g = changed s s' tok _ _ g.2.changes (λ brief. (brief.0, brief.0))

pub asks : (mode : Mode) (tok : ℕ) (s s' : CpuSeat) (answer : Asked) → AsksFor mode tok s s' answer → Keeps s s'
asks mode tok s s' asked.Taken does = takes s s' tok mode _ does.1.0 does.1.1
asks mode tok s s' asked.Further does = changed s s' tok _ _ does.4.changes (λ brief. brief)
asks mode tok s s' asked.NoToken does = same s s' does.1
asks mode tok s s' asked.ListFull does = same s s' does.2
asks mode tok s s' asked.Upgrade does = same s s' does.3
asks mode tok s s' asked.Busy does = looks s s' tok does.1.0 does.1.1.1
asks mode tok s s' asked.Again does = loses s s' tok mode _ does.1
asks mode tok s s' asked.Worn does = looks s s' tok does.1.0 does.1.1.1

pub furthers : (tok : ℕ) (s s' : CpuSeat) (answer : Furthered) → Furthers tok s s' answer → Keeps s s'
furthers tok s s' furthered.Further does = changed s s' tok _ _ does.3.changes (λ brief. brief)
furthers tok s s' furthered.NoToken does = same s s' does.1
furthers tok s s' furthered.NotHeld does = same s s' does.2
furthers tok s s' furthered.ListFull does = same s s' does.3

pub marks : (tok : ℕ) (s s' : CpuSeat) (answer : Marked) → MarksToken tok s s' answer → Keeps s s'
marks tok s s' marked.Set does = changed s s' tok _ _ does.1.changes (λ brief. brief)
marks tok s s' marked.NoToken does = same s s' does.1

gives_one : (tok : ℕ) (s s' : CpuSeat) → GivesReference tok s s' → Keeps s s'
gives_one tok s s' does = elim does [
  | inl one ↦ gives_back s s' tok one.1.0 one.1.1
  | inr last ↦ λ brief. gives_back last.2.0 s' tok last.2.1.1.0 last.2.1.1.1 (knows s last.2.0 tok _ _ last.2.1.0 (λ here. here) brief)
]

pub gives : (tok : ℕ) (s s' : CpuSeat) (answer : GaveBack) → GivesToken tok s s' answer → Keeps s s'
gives tok s s' gave.Given does = gives_one tok s s' does.2
gives tok s s' gave.NoToken does = same s s' does.1
gives tok s s' gave.NotHeld does = same s s' does.2
gives tok s s' gave.Broken does = knows s s' tok _ _ does.3 (λ here. here)

pub loads : (tok cell : ℕ) (s s' : CpuSeat) (answer : Loaded) → Loads tok cell s s' answer → Keeps s s'
loads tok cell s s' (loaded.Value value) does = changed s s' tok _ _ does.3 (λ brief. brief)
loads tok cell s s' loaded.NoToken does = same s s' does.1
loads tok cell s s' loaded.NoCell does = same s s' does.2
loads tok cell s s' loaded.NotHeld does = same s s' does.2

pub stores : (tok cell value : ℕ) (s s' : CpuSeat) (answer : Stored) → StoresInCell tok cell value s s' answer → Keeps s s'
stores tok cell value s s' done.Stored does = knows s s' tok _ _ does.3 (λ here. here)
stores tok cell value s s' done.NoToken does = same s s' does.1
stores tok cell value s s' done.NoCell does = same s s' does.2
stores tok cell value s s' done.NotHeld does = same s s' does.2
stores tok cell value s s' done.SharedWrite does = same s s' does.2
stores tok cell value s s' done.TallyOnly does = unchanged s s' does.3

pub adds : (tok amount : ℕ) (s s' : CpuSeat) (answer : Added) → AddsToCell tok amount s s' answer → Keeps s s'
adds tok amount s s' (added.Sum sum) does = knows s s' tok _ _ does.4 (λ here. here)
adds tok amount s s' added.NoToken does = same s s' does.1
adds tok amount s s' added.NotHeld does = same s s' does.2
adds tok amount s s' added.SharedWrite does = same s s' does.2
adds tok amount s s' added.TallyOnly does = unchanged s s' does.3
adds tok amount s s' added.Overflow does = knows s s' tok _ _ does.4 (λ here. here)

pub judges : (tok : ℕ) (s s' : CpuSeat) (answer : Judged) → JudgesToken tok s s' answer → Keeps s s'
judges tok s s' judged.Lawful does = knows s s' tok _ _ does.3 (λ here. here)
judges tok s s' judged.Broken does = knows s s' tok _ _ does.3 (λ here. here)
judges tok s s' judged.NoToken does = same s s' does.1
judges tok s s' judged.NotHeld does = same s s' does.2
judges tok s s' judged.SharedWrite does = same s s' does.2

pub tally_or_not : (law : Law) → (law ≡ Tally) ⊎ (law ≢ Tally)
tally_or_not Any = inr (λ is. cc)
tally_or_not Sum = inr (λ is. cc)
tally_or_not Order = inr (λ is. cc)
tally_or_not Cap = inr (λ is. cc)
tally_or_not Tally = inl refl
tally_or_not Len = inr (λ is. cc)

restores_row : (tok : ℕ) (s s' : CpuSeat) → RestoresRow tok s s' → Keeps s s'
restores_row tok s s' does = elim (tally_or_not (plan_of (bank_of s) tok).law) [
  | inl is ↦ unchanged s s' (does.1 is)
  | inr not ↦ changed s s' tok _ _ (does.0 not).1.1.changes (λ brief. (brief.1, brief.1))
]

pub restores : (tok : ℕ) (s s' : CpuSeat) (answer : RowRestored) → Restores tok s s' answer → Keeps s s'
restores tok s s' restored.Restored does = restores_row tok s s' does.2
restores tok s s' restored.NoToken does = same s s' does.1
restores tok s s' restored.NotHeld does = same s s' does.2
restores tok s s' restored.SharedWrite does = same s s' does.2

pub reads : (tok : ℕ) (s s' : CpuSeat) (answer : RecordRead) → ReadsBytes tok s s' answer → Keeps s s'
reads tok s s' (read.Bytes bytes) does = changed s s' tok _ _ does.3 (λ brief. brief)
reads tok s s' read.NoToken does = same s s' does.1
reads tok s s' read.NoRecord does = same s s' does.1
reads tok s s' read.NotHeld does = same s s' does.2
reads tok s s' read.SharedRecord does = same s s' does.2

pub writes : (tok : ℕ) (bytes : List ℕ) (s s' : CpuSeat) (answer : RecordWritten) → WritesBytes tok bytes s s' answer → Keeps s s'
writes tok bytes s s' wrote.Written does = changed s s' tok _ _ does.3 (λ brief. (does.2, brief.1))
writes tok bytes s s' wrote.NoToken does = same s s' does.1
writes tok bytes s s' wrote.NoRecord does = same s s' does.1
writes tok bytes s s' wrote.NotHeld does = same s s' does.2
writes tok bytes s s' wrote.SharedRecord does = same s s' does.2
writes tok bytes s s' wrote.RecordLong does = same s s' does.3

chain : {A : Type 0} (Does : A → CpuSeat → CpuSeat → Type 0) → ((x : A) (a b : CpuSeat) → Does x a b → Keeps a b) → (xs : List A) (a b : CpuSeat) → DoneInTurn Does xs a b → Keeps a b
chain Does each [] a b is = same a b is
chain Does each (x ∷ xs) a b is = λ brief. chain Does each xs is.0 b is.1.1 (each x a is.0 is.1.0 brief)

takes_one : (refs : List Ref) (r : Ref) (s s' : CpuSeat) → TakesOne refs r s s' → Keeps s s'
takes_one refs r s s' does = elim does [
  | inl further ↦ changed s s' r.tok.0 _ _ further.1.changes (λ brief. brief)
  | inr first ↦ takes s s' r.tok.0 r.mode _ first.1.0 first.1.1
]

misses_one : (refs : List Ref) (r : Ref) (s s' : CpuSeat) (why : Missed) → MissesOne refs r s s' why → Keeps s s'
misses_one refs r s s' missed.Busy does = looks s s' r.tok.0 does.1.0 does.1.1.1
misses_one refs r s s' missed.Again does = loses s s' r.tok.0 r.mode _ does.1
misses_one refs r s s' missed.Worn does = looks s s' r.tok.0 does.1.0 does.1.1.1

gives_unwritten : (tok : ℕ) (s s' : CpuSeat) → GivesUnwritten tok s s' → Keeps s s'
gives_unwritten tok s s' does = elim does [ inl one ↦ gives_back s s' tok One one | inr last ↦ gives_back s s' tok Clean last ]

missed_at : (refs : List Ref) (x : Option Ref) (front : List Ref) (why : Missed) (s s' : CpuSeat) → IsSomeAnd x (λ r. (taken : CpuSeat) × (DoneInTurn (TakesOne refs) front s taken × MissesOne refs r taken s' why)) → Keeps s s'
missed_at refs (Some r) front why s s' does brief = misses_one refs r does.0 s' why does.1.1 (chain (TakesOne refs) (takes_one refs) front s does.0 does.1.0 brief)
missed_at refs None front why s s' does brief = absurd does

pub resumes : (refs : List LwktReference) (s s' : CpuSeat) (answer : Resumed) → ResumesSeat refs s s' answer → Keeps s s'
resumes refs s s' resumed.All does = chain (TakesOne (refs_of refs)) (takes_one (refs_of refs)) (refs_of refs) s s' does.2.0
resumes refs s s' resumed.Holds does = same s s' does.1
resumes refs s s' (resumed.Unlisted at why) does = same s s' does.2
resumes refs s s' (resumed.Missed at why) does = λ brief.
    chain GivesUnwritten gives_unwritten does.2.1.1.1.0 does.2.0 s' does.2.1.1.1.1 (missed_at (refs_of refs) (slice_get (refs_of refs) at) (take at (refs_of refs)) why s does.2.0 does.2.1.0 brief)

ends_restored : (tok : ℕ) (s s' : CpuSeat) → EndsRestored tok s s' → Keeps s s'
ends_restored tok s s' does brief = gives_back does.0 s' tok Clean does.1.1 (restores_row tok s does.0 does.1.0 brief)

ends_one : (tok : ℕ) (s s' : CpuSeat) (restored : Bool) → EndsOne tok s s' restored → Keeps s s'
ends_one tok s s' false does = gives_one tok s s' does
ends_one tok s s' true does = λ brief. ends_restored tok does.2.0 s' does.2.1.1 (knows s does.2.0 tok _ _ does.2.1.0 (λ here. here) brief)

pub blocks : (s s' : CpuSeat) (first : Option TokId) → BlocksSeat s s' first → Keeps s s'
blocks s s' first does = chain EndsPair (λ x a b ends. ends_one x.0.0 a b x.1 ends) does.2.0 s s' does.2.1

-- a record that is read has at most 64 bytes
pub read_short : (tok : ℕ) (s s' : CpuSeat) (answer : RecordRead) (before now : List ℕ) (before_length now_length number : ℕ) → AreBrief s → ReadsBytes tok s s' answer → PutsRecord answer before now before_length now_length → number ≡ record_read_number answer → number ≡ 0 → now_length ≤ 64
read_short tok s s' (read.Bytes bytes) before now before_length now_length number brief does puts_it is none =
    let short : length bytes ≤ 64 = subst IsShort does.2 (brief tok).0 in
    subst (λ (n : ℕ). n ≤ 64) (sym puts_it.1) short
read_short tok s s' read.NoToken before now before_length now_length number brief does puts_it is none = absurd (omega (arith, is, none))
read_short tok s s' read.NoRecord before now before_length now_length number brief does puts_it is none = absurd (omega (arith, is, none))
read_short tok s s' read.NotHeld before now before_length now_length number brief does puts_it is none = absurd (omega (arith, is, none))
read_short tok s s' read.SharedRecord before now before_length now_length number brief does puts_it is none = absurd (omega (arith, is, none))
