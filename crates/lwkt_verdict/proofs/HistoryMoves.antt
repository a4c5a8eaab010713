use Rattle.std.proofs.Common.{zero, suc, inl, inr, ◌≡◌, ◌⊎◌, ℕ, ◌+◌, ◌-◌, ◌*◌, ◌<◌, List, [], ◌∷◌, ◌++◌, length, take, drop, true, false, refl, sym, ap, ◌∙◌, subst, arith, Option, Some, None, append-nil, append_assoc}
use Rattle.std.specs.Prelude.{slice_get, is_some, map, min, option_to_list, MatchOption, IfSome}
use Rattle.std.proofs.lemmas.Bool.{cases_eq, cases_order, cases_lt, false≢true}
use Rattle.std.proofs.lemmas.List.{length_push, map-append, take_all, take-append-le}
use Rattle.std.proofs.lemmas.Option.{none-some, slice_get_within}
use Rattle.lwkt_base.specs.declared.asks.Ask.{Ask}
use Rattle.lwkt_base.specs.declared.asks.Ask.TheVariants.{Exit, Fail}
use Rattle.lwkt_base.specs.declared.asks.Answer.{Answer}
use Rattle.lwkt_base.specs.declared.asks.Answer.TheVariants.{Begin, Done, Value, Bytes, Dropped, Got, NoMsg, Refused}
use Rattle.lwkt_base.specs.declared.entries.Entry.{Entry}
use Rattle.lwkt_code.specs.Next.{next, asks_by}
use Rattle.lwkt_code.specs.Programs.{Program, start}
use Rattle.lwkt_core.specs.declared.events.Event.{Event}
use Rattle.lwkt_core.specs.Machine.{Machine}
use Rattle.lwkt_script.specs.declared.scripts.ThreadSpec.{ThreadSpec}
use Rattle.lwkt_base.specs.declared.threads.ThreadLine.{ThreadLine}
use Rattle.lwkt_verdict.specs.declared.turns.Poll.{Poll}
use Rattle.lwkt_verdict.specs.declared.turns.Turn.{Turn}
use Rattle.lwkt_verdict.specs.declared.progress.Asked.{Asked}
use Rattle.lwkt_verdict.specs.declared.progress.Piece.{Piece}
use Rattle.lwkt_verdict.specs.Asks.{may_answer, is_end}
use Rattle.lwkt_verdict.specs.TurnParts.{after_all}
use Rattle.lwkt_verdict.specs.Threads.{MayAsk, IsLogged, slot_of, plan_of_thread, program_of, line_of, asked_by, last_of, told, told_by, stands_after, logged_by, entries_of, progress_of, EndsAs, EndsAsShown}
use Rattle.lwkt_verdict.specs.Run.{poll_of, piece, whose, came, came_by, asked_of_poll, PollFits, TurnFits, EndsRun, RunsThrough}
use Rattle.lwkt_verdict.specs.Laws.{pieces_of, asks_of, AsksAreThoseOfTheScript, AllButTheLastAreAnswered, NothingFollowsAnEnd, LogsAreTheFirstEntries}
use Rattle.lwkt_verdict.proofs.ShowMoves.{asked_push, asked_here, asked_there, last_or, last_or_is, asks_push, entries_more}

-- what holds after all turns of a run, with the end of the run
pub record Ended (plans : List ThreadSpec) (lines : List ThreadLine) (Q : List Piece → Type 0) (all : List Piece) : Type 0 where
  pub holds : Q all
  pub end : Machine
  pub stop : List Event
  pub closes : EndsRun plans lines end all stop

module _ (plans : List ThreadSpec) (lines : List ThreadLine) (polls : List Poll) (order : List ℕ) where
  -- what each turn that fits keeps holds after all turns
  pub through : (Q : List Piece → Type 0) → ((m : Machine) (before : List Piece) (poll : Option Poll) (part : List Event) → Q before → TurnFits plans lines (whose order (length before)) m before poll part → Q (before ++ piece poll part ∷ [])) → (m : Machine) (before : List Piece) (turns : List Turn) (events : List Event) → Q before → RunsThrough plans lines polls order m before turns events → Ended plans lines Q (before ++ pieces_of polls turns events)
  through Q step m before [] events q closes =
      subst (λ (all : List Piece). Ended plans lines Q all) (sym (append-nil before)) (record { holds = q; end = m; stop = events; closes = closes })
  through Q step m before (t ∷ ts) events q runs =
      let part : List Event = take t.events events in
      let p : Piece = piece (poll_of polls t) part in
      let rest : List Event = drop t.events events in
      subst (λ (all : List Piece). Ended plans lines Q all) (append_assoc before (p ∷ []) (pieces_of polls ts rest)) (through Q step (after_all m part) (before ++ p ∷ []) ts rest (step m before (poll_of polls t) part q runs.1.0) runs.1.1)

-- what a turn that fits asks of a thread: nothing, or what its poll asks, which fits the thread
pub record Asks (plans : List ThreadSpec) (lines : List ThreadLine) (slot : ℕ) (before : List Piece) (p : Piece) : Type 0 where
  pub q : Poll
  pub cpu : ℕ
  pub here : slot_of q.thread ≡ slot
  pub fits : PollFits plans lines cpu (came plans before cpu q.thread.thread) q
  pub is : asked_by slot (before ++ p ∷ []) ≡ asked_by slot before ++ asked_of_poll q p.blocked ∷ []

pub asks_or_not : (plans : List ThreadSpec) (lines : List ThreadLine) (slot cpu : ℕ) (m : Machine) (before : List Piece) (poll : Option Poll) (part : List Event) → TurnFits plans lines cpu m before poll part → (asked_by slot (before ++ piece poll part ∷ []) ≡ asked_by slot before) ⊎ Asks plans lines slot before (piece poll part)
asks_or_not plans lines slot cpu m before None part fits =
    inl (asked_push slot before (piece None part) ∙ append-nil (asked_by slot before))
asks_or_not plans lines slot cpu m before (Some q) part fits =
    let p : Piece = piece (Some q) part in
    elim (cases_eq (slot_of q.thread) slot) [
      | inl same ↦ inr (record {
        q = q;
        cpu = cpu;
        here = same;
        fits = fits.polls;
        is = asked_push slot before p ∙ ap (λ (xs : List Asked). asked_by slot before ++ xs) (asked_here slot q p.blocked same);
      })
      | inr apart ↦ inl (asked_push slot before p ∙ ap (λ (xs : List Asked). asked_by slot before ++ xs) (asked_there slot q p.blocked apart) ∙ append-nil (asked_by slot before))
    ]

-- an element of a list with one more at its end
get_push : (xs : List Asked) (a : Asked) (k : ℕ) (x : Asked) → slice_get (xs ++ a ∷ []) k ≡ Some x → (slice_get xs k ≡ Some x) ⊎ ((k ≡ length xs) × (x ≡ a))
get_push [] a zero x is = inr (refl, cc)
get_push [] a (suc k) x is = inl is
get_push (y ∷ ys) a zero x is = inl is
get_push (y ∷ ys) a (suc k) x is =
    elim (get_push ys a k x is) [
      | inl there ↦ inl there
      | inr last ↦ inr (ap suc last.0, last.1)
    ]

-- what an option's value has that doesn't depend on the value
match_any : {A : Type 0} (o : Option A) (P : A → Type 0) (C : Type 0) → MatchOption o ⊥ P → ((x : A) → P x → C) → C
match_any None P C there step = absurd there
match_any (Some x) P C there step = step x there

-- what some asks were
abbrev asks_in : List Asked → List Ask
asks_in asked = map (λ (a : Asked). a.ask) asked

-- what a thread asks after some turns is what its program asks, by the answers that it was given
abbrev Follows : Option ThreadSpec → List Asked → Type 0
Follows plan asked = MatchOption plan (asked ≡ []) (λ p. asks_in asked ≡ asks_by p.code.steps (start p.code) (told_by None asked))

-- so after one ask more
follows_more : (o : Option ThreadSpec) (xs : List Asked) (a : Asked) → Follows o xs → MatchOption o ⊥ (λ plan. MayAsk plan.code.steps (progress_of (program_of o) xs) a.ask) → Follows o (xs ++ a ∷ [])
follows_more None xs a follows may = absurd may
follows_more (Some plan) xs a follows may =
    let p : Program = plan.code in
    let next_ask : Option Asked → List Ask = λ o. (next p.steps (stands_after p xs) (told o)).0 ∷ [] in
    let new : a.ask ∷ [] ≡ next_ask (last_or None xs) = ap (λ (x : Ask). x ∷ []) may.0 ∙ ap next_ask (sym (last_or_is xs)) in
    map-append (λ (x : Asked). x.ask) xs (a ∷ []) ∙ ap (λ (ys : List Ask). ys ++ a.ask ∷ []) follows ∙ ap (λ (ys : List Ask). asks_by p.steps (start p) (told_by None xs) ++ ys) new ∙ sym (asks_push p.steps (start p) None xs a)

FollowsPlan : List ThreadSpec → ℕ → ℕ → List Piece → Type 0
FollowsPlan plans cpu n before = Follows (plan_of_thread cpu n plans) (asked_by (16 * cpu + n) before)

follows_step : (plans : List ThreadSpec) (lines : List ThreadLine) (cpu n now : ℕ) → n < 16 → (m : Machine) (before : List Piece) (poll : Option Poll) (part : List Event) → FollowsPlan plans cpu n before → TurnFits plans lines now m before poll part → FollowsPlan plans cpu n (before ++ piece poll part ∷ [])
unfolding FollowsPlan
follows_step plans lines cpu n now small m before poll part follows fits =
    let slot = 16 * cpu + n in
    let xs : List Asked = asked_by slot before in
    let o : Option ThreadSpec = plan_of_thread cpu n plans in
    elim (asks_or_not plans lines slot now m before poll part fits) [
      | inl same ↦ subst (λ (ys : List Asked). Follows o ys) (sym same) follows
      | inr w ↦ (let new : Asked = asked_of_poll w.q (piece poll part).blocked in
          let there = w.fits.here in
          let few = w.fits.numbered in
          let here = w.here in
          let same_cpu : w.cpu ≡ cpu = omega arith in
          let same_n : w.q.thread.thread ≡ n = omega arith in
          let M : ℕ → ℕ → Type 0 = λ c t. MatchOption (plan_of_thread c t plans) ⊥ (λ plan. MayAsk plan.code.steps (came_by (plan_of_thread c t plans) before (16 * c + t)) w.q.ask) in
          let may : M cpu n = subst (λ c. M c n) same_cpu (subst (λ t. M w.cpu t) same_n w.fits.asks) in
          subst (λ (ys : List Asked). Follows o ys) (sym w.is) (follows_more o xs new follows may))
    ]

-- each ask of a thread but its last has its answer
AreAnswered : ℕ → List Piece → Type 0
AreAnswered slot before = (k : ℕ) (a : Asked) → slice_get (asked_by slot before) k ≡ Some a → k + 1 < length (asked_by slot before) → is_some a.answer ≡ true

answered_step : (plans : List ThreadSpec) (lines : List ThreadLine) (slot now : ℕ) (m : Machine) (before : List Piece) (poll : Option Poll) (part : List Event) → AreAnswered slot before → TurnFits plans lines now m before poll part → AreAnswered slot (before ++ piece poll part ∷ [])
unfolding AreAnswered
answered_step plans lines slot now m before poll part answered fits k a is inside =
    let xs : List Asked = asked_by slot before in
    elim (asks_or_not plans lines slot now m before poll part fits) [
      | inl same ↦ answered k a (subst (λ (ys : List Asked). slice_get ys k ≡ Some a) same is) (subst (λ (ys : List Asked). k + 1 < length ys) same inside)
      | inr w ↦ (let new : Asked = asked_of_poll w.q (piece poll part).blocked in
          let more : length (xs ++ new ∷ []) ≡ length xs + 1 = length_push xs new in
          let below : k + 1 < length (xs ++ new ∷ []) = subst (λ (ys : List Asked). k + 1 < length ys) w.is inside in
          let there = w.fits.here in
          let here = w.here in
          let same : 16 * w.cpu + w.q.thread.thread ≡ slot = omega arith in
          let L : ℕ → Type 0 = λ k. MatchOption (last_of (asked_by k before)) (Unit {0}) (λ x. is_some x.answer ≡ true) in
          let last_has : L slot = subst L same (match_any (plan_of_thread w.cpu w.q.thread.thread plans) (λ plan. MayAsk plan.code.steps (came plans before w.cpu w.q.thread.thread) w.q.ask) (L (16 * w.cpu + w.q.thread.thread)) w.fits.asks (λ plan may. may.1)) in
          elim (get_push xs new k a (subst (λ (ys : List Asked). slice_get ys k ≡ Some a) w.is is)) [
            | inl old ↦ elim (cases_order (k + 1) (length xs)) [
              | inl at_last ↦ (let place : length xs - 1 ≡ k = omega arith in
                  let F : Option Asked → Type 0 = λ o. MatchOption o (Unit {0}) (λ x. is_some x.answer ≡ true) in
                  subst F (ap (λ j. slice_get xs j) place ∙ old) last_has)
              | inr differ ↦ elim differ [
                | inl less ↦ answered k a old less
                | inr past ↦ absurd (omega arith)
              ]
            ]
            | inr last ↦ (let at : k ≡ length xs = last.0 in absurd (omega arith))
          ])
    ]

-- a list up to an element and with it
take_get : (log : List Entry) (n : ℕ) (e : Entry) → slice_get log n ≡ Some e → take (suc n) log ≡ take n log ++ e ∷ []
take_get [] n e is = cc
take_get (x ∷ xs) zero e is = ap (λ (o : Entry). o ∷ []) cc
take_get (x ∷ xs) (suc n) e is = ap (λ (ys : List Entry). x ∷ ys) (take_get xs n e is)

-- a log that has the entries so far has the next one too, if there is one and it stands in its place
log_step : (log es : List Entry) (o : Option Entry) → take (min 32 (length es)) log ≡ take 32 es → MatchOption o (Unit {0}) (λ e. min 32 (length es) < 32 → slice_get log (min 32 (length es)) ≡ Some e) → take (min 32 (length (es ++ option_to_list o))) log ≡ take 32 (es ++ option_to_list o)
log_step log es None so_far fits =
    subst (λ (ys : List Entry). take (min 32 (length ys)) log ≡ take 32 ys) (sym (append-nil es)) so_far
log_step log es (Some e) so_far fits =
    let n : ℕ = length es in
    let more : length (es ++ e ∷ []) ≡ n + 1 = length_push es e in
    elim (cases_lt n 32) [
      | inl room ↦ (let same : min 32 n ≡ n = omega arith in
          let here : slice_get log n ≡ Some e = subst (λ j. slice_get log j ≡ Some e) same (fits (omega arith)) in
          let front : take n log ≡ es = ap (λ j. take j log) (sym same) ∙ so_far ∙ take_all 32 es (omega arith) in
          let longer : min 32 (length (es ++ e ∷ [])) ≡ suc n = omega arith in
          ap (λ j. take j log) longer ∙ take_get log n e here ∙ ap (λ (ys : List Entry). ys ++ e ∷ []) front ∙ sym (take_all 32 (es ++ e ∷ []) (omega arith)))
      | inr full ↦ (let same : min 32 (length (es ++ e ∷ [])) ≡ min 32 n = omega arith in
          ap (λ j. take j log) same ∙ so_far ∙ sym (take-append-le 32 es (e ∷ []) full))
    ]

-- a thread's line says that its last ask has no answer, where it asked something at all
ends_open : (t : Option ThreadSpec) (l : Option ThreadLine) (p : List Asked) (k : ℕ) (a : Asked) → slice_get p k ≡ Some a → Follows t p → EndsAsShown t l (progress_of (program_of t) p) → MatchOption (last_of p) (Unit {0}) (λ a. is_some a.answer ≡ false)
ends_open None l p k a is follows ends =
    absurd (none-some a (sym (ap (λ (ys : List Asked). slice_get ys k) follows) ∙ is))
ends_open (Some plan) None p k a is follows ends = absurd ends
ends_open (Some plan) (Some line) p k a is follows ends = ends.0

ends_line : (t : Option ThreadSpec) (line : ThreadLine) (p : List Asked) → EndsAsShown t (Some line) (progress_of (program_of t) p) → EndsAs line (progress_of (program_of t) p)
ends_line None line p ends = absurd ends
ends_line (Some plan) line p ends = ends

none_follow : (o : Option ThreadSpec) → Follows o []
none_follow None = refl
none_follow (Some plan) = refl

pub asks_follow : AsksAreThoseOfTheScript
unfolding FollowsPlan
asks_follow plans pace order opening polls turns trace lines run cpu n here few =
    (through plans lines polls order (FollowsPlan plans cpu n) (λ m before poll part q fits. follows_step plans lines cpu n (whose order (length before)) few m before poll part q fits) opening [] turns trace (none_follow (plan_of_thread cpu n plans)) run.runs).holds

-- after all turns each ask but the last has its answer, and the last has none
pub all_answered : AllButTheLastAreAnswered
unfolding AreAnswered
all_answered plans pace order opening polls turns trace lines run cpu n here few k a is =
    let slot = 16 * cpu + n in
    let xs : List Asked = asks_of polls turns trace cpu n in
    let done = through plans lines polls order (AreAnswered slot) (λ m before poll part q fits. answered_step plans lines slot (whose order (length before)) m before poll part q fits) opening [] turns trace (λ j x none. absurd cc) run.runs in
    let open_end : MatchOption (last_of xs) (Unit {0}) (λ x. is_some x.answer ≡ false) = ends_open (plan_of_thread cpu n plans) (line_of slot lines) xs k a is (asks_follow plans pace order opening polls turns trace lines run cpu n here few) (done.closes.ends cpu n here few) in (
      (λ inside. done.holds k a is inside),
      (λ last. (let place : length xs - 1 ≡ k = omega arith in
          let F : Option Asked → Type 0 = λ o. MatchOption o (Unit {0}) (λ x. is_some x.answer ≡ false) in
          subst F (ap (λ j. slice_get xs j) place ∙ is) open_end)),
    )

-- an ask that ends its thread has no answer
end_unanswered : (ask : Ask) (x : Answer) → is_end ask ≡ true → may_answer ask x ≡ true → ⊥
end_unanswered Exit Begin is may = false≢true may
end_unanswered Exit Done is may = false≢true may
end_unanswered Exit (Value value) is may = false≢true may
end_unanswered Exit (Bytes blob) is may = false≢true may
end_unanswered Exit (Dropped msg rec) is may = false≢true may
end_unanswered Exit (Got item) is may = false≢true may
end_unanswered Exit NoMsg is may = false≢true may
end_unanswered Exit (Refused fault) is may = false≢true may
end_unanswered (Fail number) Begin is may = false≢true may
end_unanswered (Fail number) Done is may = false≢true may
end_unanswered (Fail number) (Value value) is may = false≢true may
end_unanswered (Fail number) (Bytes blob) is may = false≢true may
end_unanswered (Fail number) (Dropped msg rec) is may = false≢true may
end_unanswered (Fail number) (Got item) is may = false≢true may
end_unanswered (Fail number) NoMsg is may = false≢true may
end_unanswered (Fail number) (Refused fault) is may = false≢true may
end_unanswered ask x is may = false≢true is

-- each answer is one that its ask can have, after turns that fit
HaveAnswers : ℕ → List Piece → Type 0
HaveAnswers slot before = (k : ℕ) (a : Asked) → slice_get (asked_by slot before) k ≡ Some a → MatchOption a.answer (Unit {0}) (λ x. may_answer a.ask x ≡ true)

answers_step : (plans : List ThreadSpec) (lines : List ThreadLine) (slot now : ℕ) (m : Machine) (before : List Piece) (poll : Option Poll) (part : List Event) → HaveAnswers slot before → TurnFits plans lines now m before poll part → HaveAnswers slot (before ++ piece poll part ∷ [])
unfolding HaveAnswers
answers_step plans lines slot now m before poll part have fits k a is =
    let xs : List Asked = asked_by slot before in
    elim (asks_or_not plans lines slot now m before poll part fits) [
      | inl same ↦ have k a (subst (λ (ys : List Asked). slice_get ys k ≡ Some a) same is)
      | inr w ↦ (let new : Asked = asked_of_poll w.q (piece poll part).blocked in
          let F : Asked → Type 0 = λ x. MatchOption x.answer (Unit {0}) (λ y. may_answer x.ask y ≡ true) in
          elim (get_push xs new k a (subst (λ (ys : List Asked). slice_get ys k ≡ Some a) w.is is)) [
            | inl old ↦ have k a old
            | inr last ↦ subst F (sym last.1) w.fits.answers
          ])
    ]

-- an answer that an ask which ends its thread has is none
end_open : (a : Asked) (o : Option Answer) → a.answer ≡ o → MatchOption o (Unit {0}) (λ x. may_answer a.ask x ≡ true) → is_end a.ask ≡ true → is_some o ≡ true → ⊥
end_open a None same may is some = false≢true some
end_open a (Some x) same may is some = end_unanswered a.ask x is may

-- after all turns an ask that ends its thread is its last
pub ends_last : NothingFollowsAnEnd
unfolding HaveAnswers
ends_last plans pace order opening polls turns trace lines run cpu n here few k a is end =
    let xs : List Asked = asks_of polls turns trace cpu n in
    let slot = 16 * cpu + n in
    let done = through plans lines polls order (HaveAnswers slot) (λ m before poll part q fits. answers_step plans lines slot (whose order (length before)) m before poll part q fits) opening [] turns trace (λ j x none. absurd cc) run.runs in
    let may = done.holds k a is in
    let answered = all_answered plans pace order opening polls turns trace lines run cpu n here few k a is in
    let inside : k < length xs = slice_get_within xs k a is in
    elim (cases_lt (k + 1) (length xs)) [
      | inl more ↦ absurd (end_open a a.answer refl may end (answered.0 more))
      | inr past ↦ omega (arith, inside, past)
    ]

-- a log has the entries so far
HasLogged : Option ThreadSpec → List Entry → ℕ → List Piece → Type 0
HasLogged plan log slot before = take (min 32 (length (entries_of (program_of plan) (asked_by slot before)))) log ≡ take 32 (entries_of (program_of plan) (asked_by slot before))

logged_step : (plans : List ThreadSpec) (lines : List ThreadLine) (line : ThreadLine) (cpu n now : ℕ) → n < 16 → line_of (16 * cpu + n) lines ≡ Some line → (m : Machine) (before : List Piece) (poll : Option Poll) (part : List Event) → HasLogged (plan_of_thread cpu n plans) line.log (16 * cpu + n) before → TurnFits plans lines now m before poll part → HasLogged (plan_of_thread cpu n plans) line.log (16 * cpu + n) (before ++ piece poll part ∷ [])
unfolding HasLogged
logged_step plans lines line cpu n now small is_line m before poll part so_far fits =
    let slot = 16 * cpu + n in
    let log : List Entry = line.log in
    let xs : List Asked = asked_by slot before in
    let p : Program = program_of (plan_of_thread cpu n plans) in
    let G : List Entry → Type 0 = λ es. take (min 32 (length es)) log ≡ take 32 es in
    elim (asks_or_not plans lines slot now m before poll part fits) [
      | inl same ↦ subst (λ (ys : List Asked). G (entries_of p ys)) (sym same) so_far
      | inr w ↦ (let new : Asked = asked_of_poll w.q (piece poll part).blocked in
          let there = w.fits.here in
          let few = w.fits.numbered in
          let here = w.here in
          let same_cpu : w.cpu ≡ cpu = omega arith in
          let same_n : w.q.thread.thread ≡ n = omega arith in
          let L : ℕ → ℕ → Type 0 = λ c t. MatchOption (line_of (16 * c + t) lines) ⊥ (λ l. IsLogged (program_of (plan_of_thread c t plans)).steps l (came_by (plan_of_thread c t plans) before (16 * c + t)) (asked_of_poll w.q false)) in
          let all : L cpu n = subst (λ c. L c n) same_cpu (subst (λ t. L w.cpu t) same_n w.fits.logs) in
          let O : Option ThreadLine → Type 0 = λ o. MatchOption o ⊥ (λ l. IsLogged p.steps l (came plans before cpu n) (asked_of_poll w.q false)) in
          let stands : IsLogged p.steps line (came plans before cpu n) (asked_of_poll w.q false) = subst O is_line all in
          let entry = logged_by p.steps (next p.steps (stands_after p xs) (told (last_of xs))).1 new in
          let more : G (entries_of p xs ++ option_to_list entry) = log_step log (entries_of p xs) entry so_far stands in
          subst (λ (ys : List Asked). G (entries_of p ys)) (sym w.is) (subst G (sym (entries_more p xs new)) more))
    ]

-- what holds of each value that an option can have
with_value : {A : Type 0} (o : Option A) (R : A → Type 0) → ((x : A) → o ≡ Some x → R x) → IfSome o R
with_value None R each = tt
with_value (Some x) R each = each x refl

pub logs_are_first : LogsAreTheFirstEntries
unfolding HasLogged
logs_are_first plans pace order opening polls turns trace lines run cpu n here few =
    let slot = 16 * cpu + n in
    let plan : Option ThreadSpec = plan_of_thread cpu n plans in
    let p : Program = program_of plan in
    let xs : List Asked = asks_of polls turns trace cpu n in
    with_value (line_of slot lines) (λ line. line.log ≡ take 32 (entries_of p xs)) (λ line is_line. (let log : List Entry = line.log in
    let done = through plans lines polls order (HasLogged plan log slot) (λ m before poll part q fits. logged_step plans lines line cpu n (whose order (length before)) few is_line m before poll part q fits) opening [] turns trace refl run.runs in
    let E : Option ThreadLine → Type 0 = λ o. EndsAsShown plan o (progress_of p xs) in
    let ends = ends_line plan line xs (subst E is_line (done.closes.ends cpu n here few)) in
    let long : length log ≡ min 32 (length (entries_of p xs)) = ends.1 in
    sym (take_all (min 32 (length (entries_of p xs))) log (omega arith)) ∙ done.holds))
