use Rattle.std.proofs.Common.{◌≡◌, ◌≢◌, ⊎_elim, ℕ, ◌<◌, List, [], ◌∷◌, length, map, set, Option, Some, None, refl, ap, sym, ◌∙◌, subst, arith, get_or-set_same, get_or-set_other}
use Rattle.std.specs.Prelude.{slice_index, slice_set, slice_get, IsSomeAnd}
use Rattle.std.proofs.lemmas.Bool.{cases_eq}
use Rattle.std.proofs.lemmas.Option.{slice_get_within, get_or_from_slice_get}
use Rattle.lwkt_base.specs.declared.names.CpuId.{CpuId}
use Rattle.lwkt_base.specs.declared.names.TokId.{TokId}
use Rattle.lwkt_base.specs.TokenWord.{word_of}
use Rattle.lwkt_core.specs.declared.events.Event.{Event}
use Rattle.lwkt_core.specs.declared.events.Event.TheVariants.{Load, Take, Share, Again, Mark, GiveOne, GiveClean, GiveWritten, Read, Write, ReadBlob, WriteBlob, Send, TakeMsg, DropMsg, Reply, Reap, Abort}
use Rattle.lwkt_core.specs.declared.events.Place.{Place}
use Rattle.lwkt_core.specs.declared.events.Place.TheVariants.{AtToken}
use Rattle.lwkt_table.specs.declared.seats.WordStep.{WordStep}
use Rattle.lwkt_table.specs.declared.seats.Deed.{Deed}
use Rattle.lwkt_core.specs.declared.tokens.Token.{Token}
use Rattle.lwkt_core.specs.Events.{place_of}
use Rattle.lwkt_core.specs.Tokens.{TokenNeeds, token_after}
use Rattle.lwkt_core.specs.Picture.{picture_of}
use Rattle.lwkt_core.specs.Machine.{Machine, machine, PlaceNeeds, Happens, after_at}
use Rattle.lwkt_core.specs.Trace.{Run}
use Rattle.lwkt_table.specs.History.{IsStepOver, left_by, word_by, Page, Chronicle}
use Rattle.lwkt_core.proofs.MachineMoves.{changed_at}
use Rattle.lwkt_table.proofs.HistoryLemmas.{Passes-run, events_by-past, steps_by-past}
use Rattle.lwkt_table.proofs.ChronicleLemmas.{Chronicle-same, Chronicle-decides}
use Rattle.lwkt_table.proofs.SeatingLemmas.{set_again, at_map, map-set}
use Rattle.lwkt_table.proofs.ViewLemmas.{Views-between, Views-was_done}
use Rattle.lwkt_table.proofs.GrownMoves.{Views-were_done}
use Rattle.lwkt_bank.specs.declared.views.Plan.{Plan}
use Rattle.lwkt_bank.specs.Views.{named, page_of}
use Rattle.lwkt_bank.specs.Rule.{moved, Bench, Rule, token_word, cell_word, plan_at, token_at, no_token}
use Rattle.lwkt_bank.specs.Ledger.{IsAtCell, IsOperation, word_in, IsStepOf, IsDone, first_machine}
use Rattle.lwkt_bank.specs.Laws.{StatesAreReached, ViewsDecide, OpeningIsDeclared, IsCellMade, IsMade, MadeAsNoted, AllMadeAsNoted, NothingUnnoted}
use Rattle.lwkt_bank.proofs.LedgerMoves.{Ledger-opening, first_opening}

-- a deed leaves one machine
one_event : (e f : Event) → e ∷ [] ≡ f ∷ [] → e ≡ f
one_event e f is = cc

pub done_decides : (m : Machine) (d : Deed) (a b : Machine) → IsDone m d a → IsDone m d b → a ≡ b
done_decides m d a b one two =
    let same : one.event ≡ two.event = one_event one.event two.event (sym one.events ∙ two.events) in
    let F : Event → Type 0 = λ e. Happens m e a in
    let there = subst F same one.happens in
    there.1 ∙ sym two.happens.1

-- a deed that is done is a run of its event
done_runs : (m : Machine) (d : Deed) (n : Machine) → IsDone m d n → Run m d.events n
done_runs m d n done = let F : List Event → Type 0 = λ es. Run m es n in subst F (sym done.events) (n, (done.happens, refl))

pub reached : StatesAreReached
reached plans cpus s ledger =
    let c = ledger.chronicle in
    let first = first_machine plans cpus in (
      c.history,
      (
        ledger.rule.model,
        (
          c.passes,
          Passes-run IsDone (λ m. m) done_runs first c.history ledger.rule.model c.passes,
          ledger.rule.pictures,
          λ j v cpu here kind.
              let past = Views-between IsDone page_of first ledger.rule.model s.views c j v here cpu kind in
              (past, events_by-past c.history cpu.0 v.past past, steps_by-past c.history cpu.0 v.past past),
        ),
      ),
    )

pub decided : ViewsDecide
decided plans cpus s one other =
    let first = first_machine plans cpus in
    let pages = map page_of s.views in (
      Chronicle-same IsDone first one.rule.model other.rule.model pages one.chronicle other.chronicle,
      Chronicle-decides IsDone done_decides first one.rule.model other.rule.model pages one.chronicle other.chronicle,
    )

pub declared : OpeningIsDeclared
declared cpus specs within lawful =
    let x = Ledger-opening cpus specs within lawful in (
      x.0,
      λ ledger.
          let d = decided _ cpus _ ledger x.0 in
          let model = d.1 ∙ x.1 in
          (model, model ∙ sym (first_opening cpus specs within.each_token), d.0 ∙ x.2),
    )

-- what happens at a token of a machine
pub record IsTurn (m : Machine) (e : Event) (n : Machine) (i : ℕ) : Type 0 where
  pub token : Token
  pub here : slice_get m.tokens i ≡ Some token
  pub needs : TokenNeeds token e
  pub next : n ≡ machine m.cpus (set m.tokens i (token_after token e)) m.messages

turn_at : (m : Machine) (e : Event) (n : Machine) (i : ℕ) → place_of e ≡ AtToken i → Happens m e n → IsTurn m e n i
turn_at m e n i at happens =
    let P : Place → Type 0 = λ p. PlaceNeeds m e p in
    go (slice_get m.tokens i) refl (subst P at happens.0.place)
  where
    go : (o : Option Token) → slice_get m.tokens i ≡ o → IsSomeAnd o (λ t. TokenNeeds t e) → IsTurn m e n i
    go None is none = absurd none
    go (Some t) is needs = record { token = t; here = is; needs = needs; next = happens.1 ∙ ap (after_at m e) at ∙ ap (λ (ts : List Token). machine m.cpus ts m.messages) (changed_at (λ k. token_after k e) m.tokens i t is) }

module _ (m : Machine) (e : Event) (n : Machine) (i : ℕ) (turn : IsTurn m e n i) where
  inside : i < length m.tokens
  inside = slice_get_within m.tokens i turn.token turn.here

  token_is : token_at m i ≡ turn.token
  token_is = get_or_from_slice_get m.tokens i turn.token no_token turn.here

  token_here : token_at n i ≡ token_after (token_at m i) e
  token_here =
      ap (λ (k : Machine). token_at k i) turn.next ∙ get_or-set_same m.tokens i (token_after turn.token e) no_token inside ∙ ap (λ (t : Token). token_after t e) (sym token_is)

  token_else : (k : ℕ) → k ≢ i → token_at n k ≡ token_at m k
  token_else k away = ap (λ (x : Machine). token_at x k) turn.next ∙ get_or-set_other m.tokens i k (token_after turn.token e) no_token away

-- an event at a cell is at its token, and leaves the word of it
cell_place : (e : Event) → IsAtCell e → (t : TokId) × (place_of e ≡ AtToken t.0) × ((tok : Token) → picture_of (token_after tok e) ≡ picture_of tok)
cell_place (Read cpu tok cell value) is = (tok, refl, λ t. refl)
cell_place (Write cpu tok cell value) is = (tok, refl, λ t. refl)
cell_place (Load cpu tok) is = absurd is
cell_place (Take cpu tok) is = absurd is
cell_place (Share cpu tok) is = absurd is
cell_place (Again cpu tok) is = absurd is
cell_place (Mark cpu tok) is = absurd is
cell_place (GiveOne cpu tok) is = absurd is
cell_place (GiveClean cpu tok) is = absurd is
cell_place (GiveWritten cpu tok section) is = absurd is
cell_place (ReadBlob cpu tok blob) is = (tok, refl, λ t. refl)
cell_place (WriteBlob cpu tok blob) is = (tok, refl, λ t. refl)
cell_place (Send cpu msg to round) is = absurd is
cell_place (TakeMsg cpu msg round) is = absurd is
cell_place (DropMsg cpu msg) is = absurd is
cell_place (Reply cpu msg) is = absurd is
cell_place (Reap cpu msg) is = absurd is
cell_place (Abort cpu msg) is = absurd is

-- each deed that is done is at a token
done_place : (m : Machine) (d : Deed) (n : Machine) (done : IsDone m d n) → (i : ℕ) × (place_of done.event ≡ AtToken i)
done_place m d n done = ⊎_elim
    (λ cell. let p = cell_place done.event cell.0 in (p.0.0, p.1))
    (λ word. (word.0.at, word.1.1.place))
    done.steps

-- places of one number are one
place_number : (a b : ℕ) → AtToken a ≡ AtToken b → a ≡ b
place_number a b is = cc

-- where a cell of a row differs after an event, the event is the store to it
written_cell : (e : Event) (tok : Token) (i c : ℕ) → place_of e ≡ AtToken i → TokenNeeds tok e → slice_index (token_after tok e).row c ≢ slice_index tok.row c → (cpu : CpuId) × (e ≡ Write cpu (named i) c (slice_index (token_after tok e).row c))
written_cell (Write cpu t cell value) tok i c at needs differs = ⊎_elim
    (λ (same : c ≡ cell).
    let F : ℕ → Type 0 = λ k. Write cpu t cell value ≡ Write cpu (named i) k (slice_index (slice_set tok.row cell value) k) in
    let place : t.0 ≡ i = place_number t.0 i at in
    let named_so : t ≡ named i = (λ k. record { 0 = place k }) in
    (cpu, subst F (sym same) (ap (λ (x : TokId). Write cpu x cell value) named_so ∙ ap (λ (x : ℕ). Write cpu (named i) cell x) (sym (get_or-set_same tok.row cell value 0 needs.1)))))
    (λ away. absurd (differs (get_or-set_other tok.row cell c value 0 away)))
    (cases_eq c cell)
written_cell (Read cpu t cell value) tok i c at needs differs = absurd (differs refl)
written_cell (Load cpu t) tok i c at needs differs = absurd (differs refl)
written_cell (Take cpu t) tok i c at needs differs = absurd (differs refl)
written_cell (Share cpu t) tok i c at needs differs = absurd (differs refl)
written_cell (Again cpu t) tok i c at needs differs = absurd (differs refl)
written_cell (Mark cpu t) tok i c at needs differs = absurd (differs refl)
written_cell (GiveOne cpu t) tok i c at needs differs = absurd (differs refl)
written_cell (GiveClean cpu t) tok i c at needs differs = absurd (differs refl)
written_cell (GiveWritten cpu t section) tok i c at needs differs = absurd (differs refl)
written_cell (ReadBlob cpu t blob) tok i c at needs differs = absurd (differs refl)
written_cell (WriteBlob cpu t blob) tok i c at needs differs = absurd (differs refl)
written_cell (Send cpu msg to round) tok i c at needs differs = absurd needs
written_cell (TakeMsg cpu msg round) tok i c at needs differs = absurd needs
written_cell (DropMsg cpu msg) tok i c at needs differs = absurd needs
written_cell (Reply cpu msg) tok i c at needs differs = absurd needs
written_cell (Reap cpu msg) tok i c at needs differs = absurd needs
written_cell (Abort cpu msg) tok i c at needs differs = absurd needs

-- what is said of a cell is so in the words before and after
made_cell : (e : Event) (i cells : ℕ) (tok : Token) (words words' : List ℕ) → place_of e ≡ AtToken i → TokenNeeds tok e → length tok.row ≡ cells → ((c : ℕ) → c < cells → slice_index words (cell_word i c) ≡ slice_index tok.row c)
    → ((c : ℕ) → c < cells → slice_index words' (cell_word i c) ≡ slice_index (token_after tok e).row c) → IsCellMade words words' e
made_cell (Read cpu t cell value) i cells tok words words' at needs long before after =
    let place = place_number t.0 i at in
    let within = slice_get_within tok.row cell value needs.1 in
    sym (get_or_from_slice_get tok.row cell value 0 needs.1) ∙ sym (before cell (omega arith)) ∙ ap (λ (k : ℕ). slice_index words (cell_word k cell)) (sym place)
made_cell (Write cpu t cell value) i cells tok words words' at needs long before after =
    let place = place_number t.0 i at in
    let within = needs.1 in
    ap (λ (k : ℕ). slice_index words' (cell_word k cell)) place ∙ after cell (omega arith) ∙ get_or-set_same tok.row cell value 0 needs.1
made_cell (Load cpu t) i cells tok words words' at needs long before after = tt
made_cell (Take cpu t) i cells tok words words' at needs long before after = tt
made_cell (Share cpu t) i cells tok words words' at needs long before after = tt
made_cell (Again cpu t) i cells tok words words' at needs long before after = tt
made_cell (Mark cpu t) i cells tok words words' at needs long before after = tt
made_cell (GiveOne cpu t) i cells tok words words' at needs long before after = tt
made_cell (GiveClean cpu t) i cells tok words words' at needs long before after = tt
made_cell (GiveWritten cpu t section) i cells tok words words' at needs long before after = tt
made_cell (ReadBlob cpu t blob) i cells tok words words' at needs long before after = tt
made_cell (WriteBlob cpu t blob) i cells tok words words' at needs long before after = tt
made_cell (Send cpu msg to round) i cells tok words words' at needs long before after = tt
made_cell (TakeMsg cpu msg round) i cells tok words words' at needs long before after = tt
made_cell (DropMsg cpu msg) i cells tok words words' at needs long before after = tt
made_cell (Reply cpu msg) i cells tok words words' at needs long before after = tt
made_cell (Reap cpu msg) i cells tok words words' at needs long before after = tt
made_cell (Abort cpu msg) i cells tok words words' at needs long before after = tt

one_step : (a b : WordStep) → a ∷ [] ≡ b ∷ [] → a ≡ b
one_step a b is = cc

no_step : (a : WordStep) → [] ≡ a ∷ [] → ⊥
no_step a is = cc

-- a deed that is done between the machines that two states show is made of their words
module _ (plans : List Plan) (cpus : ℕ) (s s' : Bench) (r : Rule plans cpus s) (q : Rule plans cpus s') (d : Deed) (done : IsDone r.model d q.model) where
  abbrev m : Machine
  m = r.model

  abbrev k : Machine
  k = q.model

  abbrev e : Event
  e = done.event

  abbrev at : (i : ℕ) × (place_of done.event ≡ AtToken i)
  at = done_place r.model d q.model done

  abbrev i : ℕ
  i = at.0

  turn : IsTurn m e k i
  turn = turn_at m e k i at.1 done.happens

  there : i < length plans
  there = let h = inside m e k i turn in let l = r.pictures.as_many in omega arith

  needs : TokenNeeds (token_at m i) e
  needs = let F : Token → Type 0 = λ t. TokenNeeds t e in subst F (sym (token_is m e k i turn)) turn.needs

  word_before : (tok : ℕ) → tok < length plans → slice_index s.words (token_word tok) ≡ word_in m tok
  word_before tok low = (r.pictures.each_token tok low).count_word

  word_after : (tok : ℕ) → tok < length plans → slice_index s'.words (token_word tok) ≡ word_in k tok
  word_after tok low = (q.pictures.each_token tok low).count_word

  made_step : (step : WordStep) → d.steps ≡ step ∷ [] → (step.at < length plans) × IsOperation e step.operation (slice_index s.words (token_word step.at)) × IsStepOver (slice_index s.words (token_word step.at)) (slice_index s'.words (token_word step.at)) step
  made_step step is = ⊎_elim
      (λ cell. absurd (no_step step (sym cell.1 ∙ is)))
      (λ word.
      let same : word.0 ≡ step = one_step word.0 step (sym word.1.0 ∙ is) in
      let F : WordStep → Type 0 = λ x. IsStepOf m e k x in
      let of = subst F same word.1.1 in
      let low : step.at < length plans = (let h = inside m e k step.at (turn_at m e k step.at of.place done.happens) in let l = r.pictures.as_many in omega arith) in
      let O : ℕ → Type 0 = λ n. IsOperation e step.operation n in (
        low,
        subst O (sym (word_before step.at low)) of.operation,
        record {
          found = of.over.found ∙ ap (word_by step.operation) (sym (word_before step.at low));
          leaves = word_after step.at low ∙ of.over.leaves ∙ ap (left_by step.operation) (sym (word_before step.at low));
        },
      ))
      done.steps

  made_word : (tok : ℕ) → tok < length plans → slice_index s'.words (token_word tok) ≢ slice_index s.words (token_word tok) → (step : WordStep) × ((d.steps ≡ step ∷ []) × (step.at ≡ tok))
  made_word tok low differs = ⊎_elim
      (λ (same : tok ≡ i). ⊎_elim
      (λ cell. absurd (differs (
      let p = cell_place e cell.0 in
      let F : ℕ → Type 0 = λ n. slice_index s'.words (token_word n) ≡ slice_index s.words (token_word n) in
      subst F (sym same) (word_after i there ∙ ap (λ (t : Token). word_of (picture_of t)) (token_here m e k i turn) ∙ ap word_of (p.2 (token_at m i)) ∙ sym (word_before i there)))))
      (λ word. (word.0, (word.1.0, place_number word.0.at i (sym word.1.1.place ∙ at.1) ∙ sym same)))
      done.steps)
      (λ away. absurd (differs (word_after tok low ∙ ap (λ (t : Token). word_of (picture_of t)) (token_else m e k i turn tok away) ∙ sym (word_before tok low))))
      (cases_eq tok i)

  row_before : (tok : ℕ) → tok < length plans → (c : ℕ) → c < (plan_at plans tok).cells → slice_index s.words (cell_word tok c) ≡ slice_index (token_at m tok).row c
  row_before tok low = (r.pictures.each_token tok low).row

  row_after : (tok : ℕ) → tok < length plans → (c : ℕ) → c < (plan_at plans tok).cells → slice_index s'.words (cell_word tok c) ≡ slice_index (token_at k tok).row c
  row_after tok low = (q.pictures.each_token tok low).row

  made_other : (tok cell : ℕ) → tok < length plans → cell < (plan_at plans tok).cells → slice_index s'.words (cell_word tok cell) ≢ slice_index s.words (cell_word tok cell) → (cpu : CpuId) × (e ≡ Write cpu (named tok) cell (slice_index s'.words (cell_word tok cell)))
  made_other tok cell low short differs = ⊎_elim
      (λ (same : tok ≡ i).
      let here = token_here m e k i turn in
      let at_tok : place_of e ≡ AtToken tok = at.1 ∙ ap AtToken (sym same) in
      let after : slice_index s'.words (cell_word tok cell) ≡ slice_index (token_after (token_at m tok) e).row cell
      = row_after tok low cell short ∙ (let F : ℕ → Type 0 = λ j. slice_index (token_at k j).row cell ≡ slice_index (token_after (token_at m j) e).row cell in subst F (sym same) (ap (λ (t : Token). slice_index t.row cell) here)) in
      let N : ℕ → Type 0 = λ j. TokenNeeds (token_at m j) e in
      let w = written_cell e (token_at m tok) tok cell at_tok (subst N (sym same) needs) (λ is. differs (after ∙ is ∙ sym (row_before tok low cell short))) in
      (w.0, w.1 ∙ ap (λ (x : ℕ). Write w.0 (named tok) cell x) (sym after)))
      (λ away. absurd (differs (row_after tok low cell short ∙ ap (λ (t : Token). slice_index t.row cell) (token_else m e k i turn tok away) ∙ sym (row_before tok low cell short))))
      (cases_eq tok i)

  pub is_made : IsMade plans s.words s'.words d
  is_made = record {
    event = e;
    events = done.events;
    step = made_step;
    cell = made_cell e i (plan_at plans i).cells (token_at m i) s.words s'.words at.1 needs (r.pictures.each_token i there).long (row_before i there) (λ c low. row_after i there c low ∙ ap (λ (t : Token). slice_index t.row c) (token_here m e k i turn));
    no_other_word = made_word;
    no_other_cell = made_other;
  }

pub made_as_noted : MadeAsNoted
made_as_noted plans cpus s id i n v w homes cpu between d ledger here kind own others is after =
    let done = Views-was_done IsDone page_of (first_machine plans cpus) ledger.rule.model after.rule.model s.views ledger.chronicle id v w after.chronicle here cpus ledger.rule.seats cpu between d kind own others is done_decides in
    is_made plans cpus s (moved s i n id w homes) ledger.rule after.rule d done

pub all_made_as_noted : AllMadeAsNoted
all_made_as_noted plans cpus s id i n v w homes cpu deeds ledger here kind still grows own after =
    Views-were_done IsDone page_of done_decides (first_machine plans cpus) ledger.rule.model after.rule.model cpus s.views id v w cpu deeds ledger.rule.seats here kind still grows own ledger.chronicle after.chronicle

pub nothing_unnoted : NothingUnnoted
nothing_unnoted plans cpus s id i n v w homes ledger here is after tok low =
    let first = first_machine plans cpus in
    let pages : map page_of (set s.views id w) ≡ map page_of s.views = map-set page_of s.views id w ∙ ap (λ (p : Page). set (map page_of s.views) id p) is ∙ set_again (map page_of s.views) id (page_of v) (at_map page_of s.views id v here) in
    let F : List Page → Type 0 = λ ps. Chronicle IsDone first ps after.rule.model in
    let same : ledger.rule.model ≡ after.rule.model = Chronicle-decides IsDone done_decides first ledger.rule.model after.rule.model (map page_of s.views) ledger.chronicle (subst F pages after.chronicle) in
    let one = ledger.rule.pictures.each_token tok low in
    let two = after.rule.pictures.each_token tok low in (
      two.count_word ∙ ap (λ (x : Machine). word_in x tok) (sym same) ∙ sym one.count_word,
      λ cell short. two.row cell short ∙ ap (λ (x : Machine). slice_index (token_at x tok).row cell) (sym same) ∙ sym (one.row cell short),
    )
