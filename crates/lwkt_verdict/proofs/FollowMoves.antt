use Rattle.std.proofs.Common.{inl, inr, zero, suc, ◌≡◌, ℕ, ◌+◌, ◌*◌, ◌/◌, ◌%◌, ◌<◌, ◌≤◌, List, [], ◌∷◌, ◌++◌, length, get_or, take, drop, refl, sym, ap, ◌∙◌, subst, arith, Option, Some, None}
use Rattle.std.specs.Prelude.{true, false, slice_get, slice_set, if◌then◌else◌, MatchOption, All, is_some, option_map, Result, Ok, Err, IfOk}
use Rattle.std.proofs.lemmas.Bool.{cases_eq, cases_lt, eq-eqb, ne_eqb}
use Rattle.std.proofs.lemmas.List.{take_at}
use Rattle.std.proofs.lemmas.Option.{none-some, slice_get-get_or}
use Rattle.lwkt_base.specs.declared.asks.Ask.{Ask}
use Rattle.lwkt_base.specs.declared.asks.Answer.{Answer}
use Rattle.lwkt_base.specs.declared.names.ThreadId.{ThreadId}
use Rattle.lwkt_core.specs.declared.events.Event.{Event}
use Rattle.lwkt_core.specs.Events.{cpu_of}
use Rattle.lwkt_core.specs.Machine.{Machine}
use Rattle.lwkt_code.specs.Next.{next}
use Rattle.lwkt_script.specs.declared.scripts.ThreadSpec.{ThreadSpec}
use Rattle.lwkt_base.specs.declared.threads.ThreadLine.{ThreadLine}
use Rattle.lwkt_verdict.specs.declared.turns.Poll.{Poll}
use Rattle.lwkt_verdict.specs.declared.progress.Asked.{Asked}
use Rattle.lwkt_verdict.specs.declared.progress.Progress.{Progress}
use Rattle.lwkt_verdict.specs.declared.progress.Piece.{Piece}
use Rattle.lwkt_verdict.specs.Owns.{has_blocked}
use Rattle.lwkt_verdict.specs.Asks.{may_answer}
use Rattle.lwkt_verdict.specs.TurnParts.{after_all, GoesQuietly, IsPartOf}
use Rattle.lwkt_verdict.specs.Threads.{slot_of, plan_of_thread, program_of, line_of, told, progress_after, MayAsk, IsLogged, Rests, EndsAsShown}
use Rattle.lwkt_verdict.specs.Run.{piece, came, came_by, asked_of_poll, PollFits, TurnFits, Idles, AreListed}
use Rattle.lwkt_verdict.specs.Follow.{Awaited, Known, Follow, is_expected, asked_so, steps_of, entry_so, come, Bears, AllBear, Allows, AllAllow, AreShown, AreThreads, answered_at, none_answered, poll_so, GoesOnByPoll, DeclinesPoll, GoesOnUnasked, DeclinesUnasked, EndsHere, DeclinesEnd}
use Rattle.lwkt_verdict.proofs.KnownMoves.{told_is, back_of, unpolled_allows}
use Rattle.lwkt_verdict.specs.Followed.{log_so, unpolled, next_so, IsPolled, MayHear, MayBePolled, IsKept, MayRest, AllowsRest, MayNotRest, IsEnded, MayEnd, AllThreads, AllPairs, KeepsPlans, AreKept, MayAllRest, AllowAllRest, OneMayNotRest}
use Rattle.lwkt_verdict.proofs.EndMoves.{slot_cpu}
use Rattle.lwkt_verdict.proofs.ShowMoves.{came_other, came_next, asked_here, asked_there, get_set, get_set_other}

abbrev follow : List ThreadSpec → List Known → Machine → Follow
follow plans table machine = record { plans = plans; table = table; machine = machine }

-- what holds of what is there
here : {A : Type 0} (P : A → Type 0) (o : Option A) (x : A) → o ≡ Some x → P x → MatchOption o ⊥ P
here {A = A} P o x is p = let F : Option A → Type 0 = λ q. MatchOption q ⊥ P in subst F (sym is) p

there : {A : Type 0} (P : A → Type 0) (o : Option A) (x : A) → o ≡ Some x → MatchOption o ⊥ P → P x
there {A = A} P o x is p = let F : Option A → Type 0 = λ q. MatchOption q ⊥ P in subst F is p

some_at : {A : Type 0} (P : A → Type 0) (o : Option A) → MatchOption o ⊥ P → (x : A) × ((o ≡ Some x) × P x)
some_at P None p = absurd p
some_at P (Some x) p = (x, (refl, p))

not_none : {A : Type 0} (P : A → Type 0) (o : Option A) → MatchOption o ⊥ P → o ≡ None → ⊥
not_none P None p is = p
not_none P (Some x) p is = none-some x (sym is)

mapped : {A : Type 0} (P Q : A → Type 0) (o : Option A) → ((x : A) → P x → Q x) → MatchOption o ⊥ P → MatchOption o ⊥ Q
mapped P Q None f p = p
mapped P Q (Some x) f p = f x p

-- the answers, with one in the place of a thread: of this and of another
heard_here : (slot : ℕ) (heard : Option Answer) (answers : ℕ → Option Answer) → answered_at slot heard answers slot ≡ heard
heard_here slot heard answers = ap (λ b. if b then heard else answers slot) (eq-eqb slot slot refl)

heard_there : (slot k : ℕ) (heard : Option Answer) (answers : ℕ → Option Answer) → (slot ≡ k → ⊥) → answered_at slot heard answers k ≡ answers k
heard_there slot k heard answers apart = ap (λ b. if b then heard else answers k) (ne_eqb k slot (λ is. apart (sym is)))

-- what a thread's line bears, if it has one; else the thread isn't there
abbrev BearsAt : Option ThreadLine → Option Answer → Known → Type 0
BearsAt line answer t = MatchOption line (t.plan ≡ None) (Bears t answer)

-- a thread that is there has its line
lined : (o : Option ThreadLine) (answer : Option Answer) (u : Known) → (u.plan ≡ None → ⊥) → BearsAt o answer u → (line : ThreadLine) × ((o ≡ Some line) × Bears u answer line)
lined None answer u some bears = absurd (some bears)
lined (Some line) answer u some bears = (line, (refl, bears))

-- what was heard is an answer
heard_last : (heard : Answer) (o : Option Awaited) → MatchOption (option_map (λ w. asked_so w (Some heard)) o) (Unit {0}) (λ a. is_some a.answer ≡ true)
heard_last heard None = tt
heard_last heard (Some w) = refl

-- what a line bears of a thread after its poll, it bore before
bears_heard : (m : Machine) (heard : Answer) (asked : Ask) (part : List Event) (t u : Known) (o : Option ThreadLine) (answer : Option Answer) → u.plan ≡ t.plan → IsPolled m heard asked part t u → BearsAt o answer u → BearsAt o (Some heard) t
bears_heard m heard asked part t u None answer same polled bears = sym same ∙ bears
bears_heard m heard asked part t u (Some line) answer same polled bears = polled.bears answer line bears

bear_by : (m : Machine) (heard : Answer) (asked : Ask) (part : List Event) (table : List Known) (slot : ℕ) (t u : Known) → slot < 128 → slot < length table → slice_get table slot ≡ Some t → u.plan ≡ t.plan → IsPolled m heard asked part t u → (answers : ℕ → Option Answer) (lines : List ThreadLine) → AllBear (slice_set table slot u) answers lines → AllBear table (answered_at slot (Some heard) answers) lines
bear_by m heard asked part table slot t u small inside at same polled answers lines bear k below =
    let G : ℕ → Type 0 = λ j. MatchOption (slice_get table j) ⊥ (BearsAt (line_of j lines) (answered_at slot (Some heard) answers j)) in
    elim (cases_eq slot k) [
      | inl is ↦ (let new : BearsAt (line_of slot lines) (answers slot) u = there (BearsAt (line_of slot lines) (answers slot)) (slice_get (slice_set table slot u) slot) u (get_set table slot u inside) (bear slot small) in
          let A : Option Answer → Type 0 = λ a. BearsAt (line_of slot lines) a t in
          let old : A (answered_at slot (Some heard) answers slot) = subst A (sym (heard_here slot (Some heard) answers)) (bears_heard m heard asked part t u (line_of slot lines) (answers slot) same polled new) in
          subst G is (here (BearsAt (line_of slot lines) (answered_at slot (Some heard) answers slot)) (slice_get table slot) t at old))
      | inr apart ↦ (let A : Option Answer → Type 0 = λ a. MatchOption (slice_get table k) ⊥ (BearsAt (line_of k lines) a) in
          let O : Option Known → Type 0 = λ o. MatchOption o ⊥ (BearsAt (line_of k lines) (answers k)) in
          subst A (sym (heard_there slot k (Some heard) answers apart)) (subst O (get_set_other table slot k u apart) (bear k below)))
    ]

-- how far a thread has come that was polled, by what is shown
came_heard : (heard : Answer) (table : List Known) (slot : ℕ) (t : Known) (before : List Piece) (answers : ℕ → Option Answer) → slot < 128 → slice_get table slot ≡ Some t → AreShown before table (answered_at slot (Some heard) answers) → came_by t.plan before slot ≡ come t (Some heard)
came_heard heard table slot t before answers small at shown =
    there (λ x. came_by x.plan before slot ≡ come x (answered_at slot (Some heard) answers slot)) (slice_get table slot) t at (shown slot small) ∙ ap (λ (a : Option Answer). come t a) (heard_here slot (Some heard) answers)

-- the same of the thread of the script
came_at : (heard : Answer) (plans : List ThreadSpec) (cpu : ℕ) (thread : ThreadId) (table : List Known) (t : Known) (before : List Piece) (answers : ℕ → Option Answer) → thread.cpu.0 ≡ cpu → t.plan ≡ plan_of_thread cpu thread.thread plans → slot_of thread < 128 → slice_get table (slot_of thread) ≡ Some t → AreShown before table (answered_at (slot_of thread) (Some heard) answers) → came plans before cpu thread.thread ≡ come t (Some heard)
came_at heard plans cpu thread table t before answers own planned small at shown =
    ap (λ c. came_by (plan_of_thread cpu thread.thread plans) before (16 * c + thread.thread)) (sym own) ∙ ap (λ (o : Option ThreadSpec). came_by o before (slot_of thread)) (sym planned) ∙ came_heard heard table (slot_of thread) t before answers small at shown

shown_by : (m : Machine) (heard : Answer) (part : List Event) (table : List Known) (slot : ℕ) (t u : Known) (q : Poll) → slot_of q.thread ≡ slot → slot < 128 → slot < length table → slice_get table slot ≡ Some t → u.plan ≡ t.plan → IsPolled m heard q.ask part t u → (answers : ℕ → Option Answer) → q.answer ≡ answers slot → (before : List Piece) → AreShown before table (answered_at slot (Some heard) answers) → AreShown (before ++ piece (Some q) part ∷ []) (slice_set table slot u) answers
shown_by m heard part table slot t u q whose small inside at same polled answers answered before shown k below =
    let p : Piece = piece (Some q) part in
    let a : Asked = asked_of_poll q (has_blocked q.ask part) in
    let G : ℕ → Type 0 = λ j. MatchOption (slice_get (slice_set table slot u) j) ⊥ (λ x. came_by x.plan (before ++ p ∷ []) j ≡ come x (answers j)) in
    elim (cases_eq slot k) [
      | inl is ↦ (let from : came_by t.plan (before ++ p ∷ []) slot ≡ progress_after (steps_of t) (came_by t.plan before slot) a = came_next t.plan slot before p a (asked_here slot q (has_blocked q.ask part) whose) in
          let on : progress_after (steps_of t) (came_by t.plan before slot) a ≡ progress_after (steps_of t) (come t (Some heard)) a = ap (λ (x : Progress). progress_after (steps_of t) x a) (came_heard heard table slot t before answers small at shown) in
          let to : come u q.answer ≡ progress_after (steps_of t) (come t (Some heard)) a = polled.came q.answer in
          let now : came_by u.plan (before ++ p ∷ []) slot ≡ come u (answers slot) = ap (λ (o : Option ThreadSpec). came_by o (before ++ p ∷ []) slot) same ∙ from ∙ on ∙ sym to ∙ ap (λ (x : Option Answer). come u x) answered in
          subst G is (here (λ x. came_by x.plan (before ++ p ∷ []) slot ≡ come x (answers slot)) (slice_get (slice_set table slot u) slot) u (get_set table slot u inside) now))
      | inr apart ↦ (let stays : (x : Known) → came_by x.plan (before ++ p ∷ []) k ≡ came_by x.plan before k = λ x. came_other x.plan k before p (asked_there k q (has_blocked q.ask part) (λ is. apart (sym whose ∙ is))) in
          let O : Option Known → Type 0 = λ o. MatchOption o ⊥ (λ x. came_by x.plan (before ++ p ∷ []) k ≡ come x (answers k)) in
          let then_so : (x : Known) → came_by x.plan before k ≡ come x (answered_at slot (Some heard) answers k) → came_by x.plan (before ++ p ∷ []) k ≡ come x (answers k) = λ x e. stays x ∙ e ∙ ap (λ (b : Option Answer). come x b) (heard_there slot k (Some heard) answers apart) in
          subst O (sym (get_set_other table slot k u apart)) (mapped (λ x. came_by x.plan before k ≡ come x (answered_at slot (Some heard) answers k)) (λ x. came_by x.plan (before ++ p ∷ []) k ≡ come x (answers k)) (slice_get table k) then_so (shown k below)))
    ]

-- a thread's next ask, as a run has it and as a check knows it
may_ask : (heard : Answer) (asked : Ask) (t : Known) (o : Option ThreadSpec) → t.plan ≡ o → MatchOption o ⊥ (λ plan. asked ≡ (next_so t heard).0) → MatchOption o ⊥ (λ plan. MayAsk plan.code.steps (come t (Some heard)) asked)
may_ask heard asked t None is asks = absurd asks
may_ask heard asked t (Some plan) is asks = (
  asks ∙ ap (λ (x : Answer). (next (steps_of t) t.local x).0) (sym (told_is heard t)) ∙ ap (λ (o : Option ThreadSpec). (next (program_of o).steps t.local (told (come t (Some heard)).last)).0) is,
  heard_last heard t.last,
)

ask_may : (heard : Answer) (asked : Ask) (t : Known) (o : Option ThreadSpec) → t.plan ≡ o → MatchOption o ⊥ (λ plan. MayAsk plan.code.steps (come t (Some heard)) asked) → MatchOption o ⊥ (λ plan. asked ≡ (next_so t heard).0)
ask_may heard asked t None is may = absurd may
ask_may heard asked t (Some plan) is may =
    may.0 ∙ ap (λ (o : Option ThreadSpec). (next (program_of o).steps t.local (told (come t (Some heard)).last)).0) (sym is) ∙ ap (λ (x : Answer). (next (steps_of t) t.local x).0) (told_is heard t)

-- the poll of a thread fits how far the thread has come
poll_fits : (m : Machine) (heard : Answer) (asked : Ask) (part : List Event) (plans : List ThreadSpec) (lines : List ThreadLine) (cpu : ℕ) (thread : ThreadId) (t u : Known) (line : ThreadLine) (answer : Option Answer) → thread.cpu.0 ≡ cpu → thread.thread < 16 → t.plan ≡ plan_of_thread cpu thread.thread plans → line_of (slot_of thread) lines ≡ Some line → IsPolled m heard asked part t u → Bears u answer line → PollFits plans lines cpu (come t (Some heard)) (record { answer = answer; ask = asked; thread = thread })
poll_fits m heard asked part plans lines cpu thread t u line answer own few planned at polled bears =
    let M : Option ThreadSpec → Type 0 = λ o. MatchOption o ⊥ (λ plan. MayAsk plan.code.steps (come t (Some heard)) asked) in
    let a : Asked = record { ask = asked; answer = answer; blocked = false } in
    let L : ℕ → Option ThreadSpec → Type 0 = λ c o. MatchOption (line_of (16 * c + thread.thread) lines) ⊥ (λ l. IsLogged (program_of o).steps l (come t (Some heard)) a) in
    let logs : L thread.cpu.0 t.plan = here (λ l. IsLogged (steps_of t) l (come t (Some heard)) a) (line_of (slot_of thread) lines) line at (polled.logs answer line bears) in
    record {
      here = own;
      numbered = few;
      asks = subst M planned (may_ask heard asked t t.plan refl polled.asks);
      answers = polled.answers answer line bears;
      logs = subst (λ c. L c (plan_of_thread cpu thread.thread plans)) own (subst (λ (o : Option ThreadSpec). L thread.cpu.0 o) planned logs);
    }

-- what is possible of a thread that was polled, it is after the poll, where that fits
allows_heard : (m : Machine) (heard : Answer) (asked : Ask) (part : List Event) (t u : Known) (o : Option ThreadLine) (answer : Option Answer) → IsPolled m heard asked part t u → Allows t (Some heard) o → MatchOption answer (Unit {0}) (λ a. may_answer asked a ≡ true) → MatchOption o ⊥ (λ line. IsLogged (steps_of t) line (come t (Some heard)) (record { ask = asked; answer = answer; blocked = false })) → IsPartOf m asked answer part → Allows u answer o
allows_heard m heard asked part t u None answer polled allows answers logs makes = absurd logs
allows_heard m heard asked part t u (Some line) answer polled allows answers logs makes = record { bears = polled.allows answer line allows.bears answers logs makes; unblocked = polled.unblocked }

allows_by : (m : Machine) (heard : Answer) (thread : ThreadId) (asked : Ask) (part : List Event) (plans : List ThreadSpec) (cpu : ℕ) (table : List Known) (t u : Known) → t.plan ≡ plan_of_thread cpu thread.thread plans → slot_of thread < 128 → slot_of thread < length table → slice_get table (slot_of thread) ≡ Some t → IsPolled m heard asked part t u → (answers : ℕ → Option Answer) (lines : List ThreadLine) → AllAllow table (answered_at (slot_of thread) (Some heard) answers) lines → (before : List Piece) → AreShown before table (answered_at (slot_of thread) (Some heard) answers) → TurnFits plans lines cpu m before (poll_so thread asked answers) part → AllAllow (slice_set table (slot_of thread) u) answers lines
allows_by m heard thread asked part plans cpu table t u planned small inside at polled answers lines allow before shown fits k below =
    let slot = slot_of thread in
    let a : Asked = record { ask = asked; answer = answers slot; blocked = false } in
    let A : Option Answer → Known → Type 0 = λ answer x. Allows x answer (line_of slot lines) in
    let G : ℕ → Type 0 = λ j. MatchOption (slice_get (slice_set table slot u) j) ⊥ (λ x. Allows x (answers j) (line_of j lines)) in
    elim (cases_eq slot k) [
      | inl is ↦ (let old : A (answered_at slot (Some heard) answers slot) t = there (A (answered_at slot (Some heard) answers slot)) (slice_get table slot) t at (allow slot small) in
          let heard_so : A (Some heard) t = subst (λ (x : Option Answer). A x t) (heard_here slot (Some heard) answers) old in
          let L : ℕ → Option ThreadSpec → Type 0 = λ c o. MatchOption (line_of (16 * c + thread.thread) lines) ⊥ (λ line. IsLogged (program_of o).steps line (came_by o before (16 * c + thread.thread)) a) in
          let logs : L thread.cpu.0 t.plan = subst (λ (o : Option ThreadSpec). L thread.cpu.0 o) (sym planned) (subst (λ c. L c (plan_of_thread cpu thread.thread plans)) (sym fits.polls.here) fits.polls.logs) in
          let P : Progress → Type 0 = λ p. MatchOption (line_of slot lines) ⊥ (λ line. IsLogged (steps_of t) line p a) in
          let logs_so : P (come t (Some heard)) = subst P (came_heard heard table slot t before answers small at shown) logs in
          let new : A (answers slot) u = allows_heard m heard asked part t u (line_of slot lines) (answers slot) polled heard_so fits.polls.answers logs_so fits.makes in
          subst G is (here (A (answers slot)) (slice_get (slice_set table slot u) slot) u (get_set table slot u inside) new))
      | inr apart ↦ (let O : Option Known → Type 0 = λ o. MatchOption o ⊥ (λ x. Allows x (answers k) (line_of k lines)) in
          let B : Option Answer → Type 0 = λ answer. MatchOption (slice_get table k) ⊥ (λ x. Allows x answer (line_of k lines)) in
          subst O (sym (get_set_other table slot k u apart)) (subst B (heard_there slot k (Some heard) answers apart) (allow k below)))
    ]

-- a check goes on by a turn that polled a thread
pub goes_by_poll : (cpu : ℕ) (thread : ThreadId) (heard : Answer) (asked : Ask) (part : List Event) (old new : Follow) (t u : Known) → cpu < 8 → thread.cpu.0 ≡ cpu → thread.thread < 16 → All (λ e. cpu_of e ≡ cpu) part → AreThreads old.plans old.table → slice_get old.table (slot_of thread) ≡ Some t → new ≡ record { plans = old.plans; table = slice_set old.table (slot_of thread) u; machine = after_all old.machine part } → u.plan ≡ t.plan → IsPolled old.machine heard asked part t u → GoesOnByPoll cpu thread heard asked part old new
goes_by_poll cpu thread heard asked part old new t u processor own few events threads at is same polled =
    let slot = slot_of thread in
    let small : slot < 128 = omega (arith, own) in
    let inside : slot < length old.table = omega (arith, small, threads.0) in
    let P : ℕ → Type 0 = λ c. MatchOption (slice_get old.table (16 * c + thread.thread)) ⊥ (λ x. x.plan ≡ plan_of_thread cpu thread.thread old.plans) in
    let planned : t.plan ≡ plan_of_thread cpu thread.thread old.plans = there (λ x. x.plan ≡ plan_of_thread cpu thread.thread old.plans) (slice_get old.table slot) t at (subst P (sym own) (threads.1 cpu thread.thread processor few)) in
    let present : u.plan ≡ None → ⊥ = λ none. not_none (λ plan. asked ≡ (next_so t heard).0) t.plan polled.asks (sym same ∙ none) in
    let N : Follow = record { plans = old.plans; table = slice_set old.table slot u; machine = after_all old.machine part } in
    let F : Follow → Type 0 = λ f. GoesOnByPoll cpu thread heard asked part old f in
    subst F (sym is) (record {
      plans = refl;
      machine = refl;
      bear = bear_by old.machine heard asked part old.table slot t u small inside at same polled;
      fits = λ answers lines bear before shown. (
          let now : BearsAt (line_of slot lines) (answers slot) u = there (BearsAt (line_of slot lines) (answers slot)) (slice_get N.table slot) u (get_set old.table slot u inside) (bear slot small) in
          let line = lined (line_of slot lines) (answers slot) u present now in
          let q : Poll = record { answer = answers slot; ask = asked; thread = thread } in
          let Fits : Progress → Type 0 = λ p. PollFits old.plans lines cpu p q in
          record {
            own = events;
            makes = polled.makes (answers slot) line.0 line.1.1;
            polls = subst Fits (sym (came_at heard old.plans cpu thread old.table t before answers own planned small at shown)) (poll_fits old.machine heard asked part old.plans lines cpu thread t u line.0 (answers slot) own few planned line.1.0 polled line.1.1);
          });
      shown = λ answers before shown. shown_by old.machine heard part old.table slot t u (record { answer = answers slot; ask = asked; thread = thread }) refl small inside at same polled answers refl before shown;
      allows = λ answers lines allow before shown fits. allows_by old.machine heard thread asked part old.plans cpu old.table t u planned small inside at polled answers lines allow before shown fits;
    })

-- what its last ask was answered, where that is possible
hears_by : (heard : Answer) (o : Option Awaited) → MatchOption o (Unit {0}) (λ w. is_expected w.expected (Some heard) ≡ true) → MatchOption o (Unit {0}) (λ w. may_answer w.ask heard ≡ true) → MatchOption o (Unit {0}) (λ w. (is_expected w.expected (Some heard) ≡ true) × (may_answer w.ask heard ≡ true))
hears_by heard None expected answers = tt
hears_by heard (Some w) expected answers = (expected, answers)

may_hear : (heard : Answer) (t : Known) (o : Option ThreadLine) → Allows t (Some heard) o → MayHear heard t
may_hear heard t None allows =
    let F : Option Awaited → Type 0 = λ o. MatchOption o (Unit {0}) (λ w. (is_expected w.expected (Some heard) ≡ true) × (may_answer w.ask heard ≡ true)) in
    subst F (sym allows.bears) tt
may_hear heard t (Some line) allows = hears_by heard t.last allows.bears.expected allows.bears.answers

-- a check doesn't go on by a poll that its thread can't have had
pub declines_at : (cpu : ℕ) (thread : ThreadId) (heard : Answer) (asked : Ask) (part : List Event) (plans : List ThreadSpec) (table : List Known) (m : Machine) (place : ℕ) (t : Known) → cpu < 8 → thread.cpu.0 ≡ cpu → thread.thread < 16 → place ≡ 16 * cpu + thread.thread → AreThreads plans table → t ≡ get_or table place t → ¬ MayBePolled m heard asked part t → DeclinesPoll cpu thread heard asked part (follow plans table m)
declines_at cpu thread heard asked part plans table m place t processor own few is_place threads is unfit lines before allow shown fits =
    let slot = slot_of thread in
    let same : place ≡ slot = is_place ∙ ap (λ k. 16 * k + thread.thread) (sym own) in
    let small : slot < 128 = omega (arith, own) in
    let inside : place < length table = omega (arith, is_place, threads.0) in
    let at_place : slice_get table place ≡ Some t = slice_get-get_or table place t inside ∙ ap (λ (x : Known). Some x) (sym is) in
    let at : slice_get table slot ≡ Some t = ap (λ k. slice_get table k) (sym same) ∙ at_place in
    let A : Option Answer → Type 0 = λ answer. Allows t answer (line_of slot lines) in
    let old : A (answered_at slot (Some heard) none_answered slot) = there (λ x. Allows x (answered_at slot (Some heard) none_answered slot) (line_of slot lines)) (slice_get table slot) t at (allow slot small) in
    let allowed : A (Some heard) = subst A (heard_here slot (Some heard) none_answered) old in
    let P : ℕ → Type 0 = λ c. MatchOption (slice_get table (16 * c + thread.thread)) ⊥ (λ x. x.plan ≡ plan_of_thread cpu thread.thread plans) in
    let planned : t.plan ≡ plan_of_thread cpu thread.thread plans = there (λ x. x.plan ≡ plan_of_thread cpu thread.thread plans) (slice_get table slot) t at (subst P (sym own) (threads.1 cpu thread.thread processor few)) in
    let M : Progress → Type 0 = λ p. MatchOption (plan_of_thread cpu thread.thread plans) ⊥ (λ plan. MayAsk plan.code.steps p asked) in
    let next_ask : M (come t (Some heard)) = subst M (came_at heard plans cpu thread table t before none_answered own planned small at shown) fits.polls.asks in
    let N : Option ThreadSpec → Type 0 = λ o. MatchOption o ⊥ (λ plan. asked ≡ (next_so t heard).0) in
    unfit (record {
      hears = may_hear heard t (line_of slot lines) allowed;
      asks = subst N (sym planned) (ask_may heard asked t (plan_of_thread cpu thread.thread plans) planned next_ask);
      makes = fits.makes;
    })

-- what follows from two facts of what a call returned, if it returned
pub ok_both : {X Y : Type 0} (r : Result X Y) (P Q R : X → Type 0) → ((x : X) → P x → Q x → R x) → IfOk r P → IfOk r Q → IfOk r R
ok_both (Ok x) P Q R f p q = f x p q
ok_both (Err e) P Q R f p q = tt

-- and from one
pub ok_one : {X Y : Type 0} (r : Result X Y) (P R : X → Type 0) → ((x : X) → P x → R x) → IfOk r P → IfOk r R
ok_one (Ok x) P R f p = f x p
ok_one (Err e) P R f p = tt

-- the same, by the place in the table that was written
pub goes_at : (cpu : ℕ) (thread : ThreadId) (heard : Answer) (asked : Ask) (part : List Event) (plans : List ThreadSpec) (table : List Known) (m n : Machine) (place : ℕ) (t u : Known) → cpu < 8 → thread.cpu.0 ≡ cpu → thread.thread < 16 → place ≡ 16 * cpu + thread.thread → All (λ e. cpu_of e ≡ cpu) part → AreThreads plans table → t ≡ get_or table place t → u.plan ≡ t.plan → IsPolled m heard asked part t u → n ≡ after_all m part → GoesOnByPoll cpu thread heard asked part (record { plans = plans; table = table; machine = m }) (record { plans = plans; table = slice_set table place u; machine = n })
goes_at cpu thread heard asked part plans table m n place t u processor own few is_place events threads is same polled moved =
    let old : Follow = record { plans = plans; table = table; machine = m } in
    let slot : place ≡ slot_of thread = is_place ∙ ap (λ k. 16 * k + thread.thread) (sym own) in
    let inside : place < length table = omega (arith, is_place, threads.0) in
    let at : slice_get table place ≡ Some t = slice_get-get_or table place t inside ∙ ap (λ (x : Known). Some x) (sym is) in
    let made : Follow = record { plans = plans; table = slice_set table place u; machine = n } in
    let is : made ≡ record { plans = plans; table = slice_set table (slot_of thread) u; machine = after_all m part } =
    ap (λ k. follow plans (slice_set table k u) n) slot ∙ ap (λ (k : Machine). follow plans (slice_set table (slot_of thread) u) k) moved in
    goes_by_poll cpu thread heard asked part old made t u processor own few events threads (ap (λ k. slice_get table k) (sym slot) ∙ at) is same polled

-- what is known of two threads that are there
pair_at : {A : Type 0} (P : A → A → Type 0) (one other : Option A) (t : A) → one ≡ Some t → MatchOption one ⊥ (λ x. MatchOption other ⊥ (P x)) → (u : A) × ((other ≡ Some u) × P t u)
pair_at P one other t at pair = some_at (P t) other (there (λ x. MatchOption other ⊥ (P x)) one t at pair)

-- what a line bears of a thread that is kept, it bore before
bears_kept : (t u : Known) (o : Option ThreadLine) (answer : Option Answer) → IsKept t u → BearsAt o answer u → BearsAt o answer t
bears_kept t u None answer kept bears = sym kept.plan ∙ bears
bears_kept t u (Some line) answer kept bears = kept.bears answer line bears

bear_kept : (table after : List Known) → AreKept table after → (answers : ℕ → Option Answer) (lines : List ThreadLine) → AllBear after answers lines → AllBear table answers lines
bear_kept table after kept answers lines bear k below =
    let one = some_at (λ t. MatchOption (slice_get after k) ⊥ (IsKept t)) (slice_get table k) (kept k below) in
    let other = some_at (IsKept one.0) (slice_get after k) one.1.1 in
    let P : Known → Type 0 = BearsAt (line_of k lines) (answers k) in
    here P (slice_get table k) one.0 one.1.0 (bears_kept one.0 other.0 (line_of k lines) (answers k) other.1.1 (there P (slice_get after k) other.0 other.1.0 (bear k below)))

-- how far the threads have come that are kept
shown_kept : (table after : List Known) (part : List Event) → AreKept table after → (answers : ℕ → Option Answer) (before : List Piece) → AreShown before table answers → AreShown (before ++ piece None part ∷ []) after answers
shown_kept table after part kept answers before shown k below =
    let one = some_at (λ t. MatchOption (slice_get after k) ⊥ (IsKept t)) (slice_get table k) (kept k below) in
    let other = some_at (IsKept one.0) (slice_get after k) one.1.1 in
    let came_so = there (λ t. came_by t.plan before k ≡ come t (answers k)) (slice_get table k) one.0 one.1.0 (shown k below) in
    let same = ap (λ (o : Option ThreadSpec). came_by o (before ++ piece None part ∷ []) k) other.1.1.plan in
    here (λ u. came_by u.plan (before ++ piece None part ∷ []) k ≡ come u (answers k)) (slice_get after k) other.0 other.1.0 (same ∙ came_other one.0.plan k before (piece None part) refl ∙ came_so ∙ sym (other.1.1.came (answers k)))

-- a thread may rest that is there, whatever its last ask is answered
rests_by : (t u : Known) (plan : Option ThreadSpec) (o : Option ThreadLine) (answer : Option Answer) (p : Progress) → t.plan ≡ plan → IsKept t u → MayRest t u → BearsAt o answer u → p ≡ come t answer → MatchOption plan (Unit {0}) (λ s. Rests p)
rests_by t u None o answer p is kept may bears came_so = tt
rests_by t u (Some s) o answer p is kept may bears came_so =
    let line = lined o answer u (λ none. none-some s (sym none ∙ kept.plan ∙ is)) bears in
    let F : Option ThreadSpec → Type 0 = λ q. MatchOption q (Unit {0}) (λ plan. (a : Option Answer) (l : ThreadLine) → Bears u a l → Rests (come t a)) in
    let rests : F (Some s) = subst F is may in
    subst Rests (sym came_so) (rests answer line.0 line.1.1)

idles_by : (cpu : ℕ) (plans : List ThreadSpec) (table after : List Known) → cpu < 8 → AreThreads plans table → AreKept table after → MayAllRest cpu table after → (answers : ℕ → Option Answer) (lines : List ThreadLine) → AllBear after answers lines → (before : List Piece) → AreShown before table answers → Idles plans cpu (came plans before cpu)
idles_by cpu plans table after processor threads kept rests answers lines bear before shown n few =
    let k = 16 * cpu + n in
    let below : k < 128 = omega arith in
    let one = some_at (λ t. t.plan ≡ plan_of_thread cpu n plans) (slice_get table k) (threads.1 cpu n processor few) in
    let other = pair_at IsKept (slice_get table k) (slice_get after k) one.0 one.1.0 (kept k below) in
    let resting = there (λ u. k / 16 ≡ cpu → MayRest one.0 u) (slice_get after k) other.0 other.1.0 (there (λ t. MatchOption (slice_get after k) ⊥ (λ u. k / 16 ≡ cpu → MayRest t u)) (slice_get table k) one.0 one.1.0 (rests k below)) in
    rests_by one.0 other.0 (plan_of_thread cpu n plans) (line_of k lines) (answers k) (came plans before cpu n) one.1.1 other.1.1 (resting (slot_cpu cpu n few)) (there (BearsAt (line_of k lines) (answers k)) (slice_get after k) other.0 other.1.0 (bear k below)) (ap (λ (o : Option ThreadSpec). came_by o before k) (sym one.1.1) ∙ there (λ t. came_by t.plan before k ≡ come t (answers k)) (slice_get table k) one.0 one.1.0 (shown k below))

-- what is possible of the threads, of which one processor's rest
allows_kept : (cpu : ℕ) (plans : List ThreadSpec) (table after : List Known) → cpu < 8 → AreThreads plans table → AllowAllRest cpu table after → (answers : ℕ → Option Answer) (lines : List ThreadLine) → AllAllow table answers lines → (before : List Piece) → AreShown before table answers → Idles plans cpu (came plans before cpu) → AllAllow after answers lines
allows_kept cpu plans table after processor threads rests answers lines allow before shown idles k below =
    let one = some_at (λ t. Allows t (answers k) (line_of k lines)) (slice_get table k) (allow k below) in
    let t = one.0 in
    let other = pair_at (λ x u. (k / 16 ≡ cpu → AllowsRest x u) × (¬ (k / 16 ≡ cpu) → u ≡ x)) (slice_get table k) (slice_get after k) t one.1.0 (rests k below) in
    let u = other.0 in
    let A : Known → Type 0 = λ x. Allows x (answers k) (line_of k lines) in
    let now : A u = elim (cases_eq (k / 16) cpu) [
      | inl is ↦ (let n = k % 16 in
          let few : n < 16 = omega arith in
          let place : 16 * cpu + n ≡ k = omega (arith, is) in
          let T : ℕ → Type 0 = λ j. MatchOption (slice_get table j) ⊥ (λ x. x.plan ≡ plan_of_thread cpu n plans) in
          let planned : t.plan ≡ plan_of_thread cpu n plans = there (λ x. x.plan ≡ plan_of_thread cpu n plans) (slice_get table k) t one.1.0 (subst T place (threads.1 cpu n processor few)) in
          let came_so : came_by t.plan before k ≡ come t (answers k) = there (λ x. came_by x.plan before k ≡ come x (answers k)) (slice_get table k) t one.1.0 (shown k below) in
          let R : Progress → Option ThreadSpec → Type 0 = λ p o. MatchOption o (Unit {0}) (λ plan. Rests p) in
          let Q : ℕ → Type 0 = λ j. R (came_by (plan_of_thread cpu n plans) before j) (plan_of_thread cpu n plans) in
          let idle : R (came_by (plan_of_thread cpu n plans) before k) (plan_of_thread cpu n plans) = subst Q place (idles n few) in
          let rest : R (come t (answers k)) t.plan = subst (λ (p : Progress). R p t.plan) came_so (subst (λ (o : Option ThreadSpec). R (came_by o before k) o) (sym planned) idle) in
          other.1.1.0 is (answers k) (line_of k lines) one.1.1 rest)
      | inr apart ↦ subst A (sym (other.1.1.1 apart)) one.1.1
    ] in
    here A (slice_get after k) u other.1.0 now

-- a check doesn't go on by a turn that polled no thread, where one can't rest
pub declines_rest : (cpu : ℕ) (part : List Event) (plans : List ThreadSpec) (table : List Known) (m : Machine) → cpu < 8 → AreThreads plans table → OneMayNotRest cpu table → DeclinesUnasked cpu part (follow plans table m)
declines_rest cpu part plans table m processor threads loud lines before allow shown fits =
    let n = loud.0 in
    let few : n < 16 = loud.1.0 in
    let k = 16 * cpu + n in
    let below : k < 128 = omega (arith, few, processor) in
    let one = some_at (λ t. t.plan ≡ plan_of_thread cpu n plans) (slice_get table k) (threads.1 cpu n processor few) in
    let t = one.0 in
    let may_not : MayNotRest t = there MayNotRest (slice_get table k) t one.1.0 loud.1.1 in
    let allows : Allows t None (line_of k lines) = there (λ x. Allows x None (line_of k lines)) (slice_get table k) t one.1.0 (allow k below) in
    let came_so : came_by t.plan before k ≡ come t None = there (λ x. came_by x.plan before k ≡ come x None) (slice_get table k) t one.1.0 (shown k below) in
    let R : Progress → Option ThreadSpec → Type 0 = λ p o. MatchOption o (Unit {0}) (λ plan. Rests p) in
    may_not (line_of k lines) allows (subst (λ (p : Progress). R p t.plan) came_so (subst (λ (o : Option ThreadSpec). R (came_by o before k) o) (sym one.1.1) (fits.polls n few)))

-- a check goes on by a turn that polled no thread
pub goes_unasked : (cpu : ℕ) (part : List Event) (plans : List ThreadSpec) (table after : List Known) (m n : Machine) → cpu < 8 → All (λ e. cpu_of e ≡ cpu) part → AreThreads plans table → GoesQuietly m part → n ≡ after_all m part → AreKept table after → MayAllRest cpu table after → AllowAllRest cpu table after → GoesOnUnasked cpu part (follow plans table m) (follow plans after n)
goes_unasked cpu part plans table after m n processor events threads quiet moved kept rests allow = record {
  plans = refl;
  machine = moved;
  bear = bear_kept table after kept;
  fits = λ answers lines bear before shown. record { own = events; makes = quiet; polls = idles_by cpu plans table after processor threads kept rests answers lines bear before shown };
  shown = λ answers before shown. shown_kept table after part kept answers before shown;
  allows = λ answers lines allows before shown fits. allows_kept cpu plans table after processor threads allow answers lines allows before shown fits.polls;
}

-- the threads stay in their places
pub threads_kept : (plans : List ThreadSpec) (table after : List Known) → AreThreads plans table → KeepsPlans table after → AreThreads plans after
threads_kept plans table after threads keeps = (
  keeps.0 ∙ threads.0,
  λ cpu n processor few. (
      let k = 16 * cpu + n in
      let one = some_at (λ t. t.plan ≡ plan_of_thread cpu n plans) (slice_get table k) (threads.1 cpu n processor few) in
      let other = pair_at (λ t u. u.plan ≡ t.plan) (slice_get table k) (slice_get after k) one.0 one.1.0 (keeps.1 k (omega arith)) in
      here (λ u. u.plan ≡ plan_of_thread cpu n plans) (slice_get after k) other.0 other.1.0 (other.1.1 ∙ one.1.1)),
)

-- a thread that ends as its line says is there exactly if the line is
paired_by : (plan : Option ThreadSpec) (line : Option ThreadLine) (p : Progress) → EndsAsShown plan line p → is_some plan ≡ is_some line
paired_by None None p ends = refl
paired_by None (Some line) p ends = absurd ends
paired_by (Some plan) None p ends = absurd ends
paired_by (Some plan) (Some line) p ends = refl

-- the run ends where each thread ends as its line says
pub ends_here : (plans : List ThreadSpec) (table : List Known) (m : Machine) (lines : List ThreadLine) (stop : List Event) → AreThreads plans table → AreListed m.cpus 0 lines → AllThreads (λ k t. IsEnded t (line_of k lines)) table → GoesQuietly m stop → EndsHere (follow plans table m) lines stop
ends_here plans table m lines stop threads listed ended quiet =
    let ends : (before : List Piece) → AreShown before table none_answered → (cpu n : ℕ) → cpu < 8 → n < 16 → EndsAsShown (plan_of_thread cpu n plans) (line_of (16 * cpu + n) lines) (came plans before cpu n) = λ before shown cpu n processor few. (
    let k = 16 * cpu + n in
    let below : k < 128 = omega arith in
    let one = some_at (λ t. t.plan ≡ plan_of_thread cpu n plans) (slice_get table k) (threads.1 cpu n processor few) in
    let is = there (λ t. IsEnded t (line_of k lines)) (slice_get table k) one.0 one.1.0 (ended k below) in
    let came_so = there (λ t. came_by t.plan before k ≡ come t None) (slice_get table k) one.0 one.1.0 (shown k below) in
    let P : Option ThreadSpec → Type 0 = λ o. EndsAsShown o (line_of k lines) (came_by o before k) in
    let Q : Progress → Type 0 = λ p. EndsAsShown one.0.plan (line_of k lines) p in
    subst P one.1.1 (subst Q (sym came_so) is.ends)) in
    record {
      listed = listed;
      paired = λ cpu n processor few. (
          let k = 16 * cpu + n in
          let one = some_at (λ t. t.plan ≡ plan_of_thread cpu n plans) (slice_get table k) (threads.1 cpu n processor few) in
          let is = there (λ t. IsEnded t (line_of k lines)) (slice_get table k) one.0 one.1.0 (ended k (omega arith)) in
          sym (ap (λ (o : Option ThreadSpec). is_some o) one.1.1) ∙ paired_by one.0.plan (line_of k lines) (come one.0 None) is.ends);
      bear = λ k below. mapped (λ t. IsEnded t (line_of k lines)) (BearsAt (line_of k lines) None) (slice_get table k) (λ t is. is.bears) (ended k below);
      ends = λ before shown. record { quiet = quiet; ends = ends before shown };
    }

-- the run doesn't end where a thread doesn't end as its line says
pub declines_end : (plans : List ThreadSpec) (table : List Known) (m : Machine) (lines : List ThreadLine) (stop : List Event) → AreThreads plans table → ¬ AllThreads (λ k t. MayEnd t (line_of k lines)) table → DeclinesEnd (follow plans table m) lines stop
declines_end plans table m lines stop threads unfit before allow shown listed ends = unfit (λ k below.
    let cpu = k / 16 in
    let n = k % 16 in
    let processor : cpu < 8 = omega (arith, below) in
    let few : n < 16 = omega arith in
    let place : 16 * cpu + n ≡ k = omega arith in
    let T : ℕ → Type 0 = λ j. MatchOption (slice_get table j) ⊥ (λ x. x.plan ≡ plan_of_thread cpu n plans) in
    let one = some_at (λ t. t.plan ≡ plan_of_thread cpu n plans) (slice_get table k) (subst T place (threads.1 cpu n processor few)) in
    let t = one.0 in
    let allows : Allows t None (line_of k lines) = there (λ x. Allows x None (line_of k lines)) (slice_get table k) t one.1.0 (allow k below) in
    let came_so : came_by t.plan before k ≡ come t None = there (λ x. came_by x.plan before k ≡ come x None) (slice_get table k) t one.1.0 (shown k below) in
    let E : ℕ → Type 0 = λ j. EndsAsShown (plan_of_thread cpu n plans) (line_of j lines) (came_by (plan_of_thread cpu n plans) before j) in
    let heard : E k = subst E place (ends.ends cpu n processor few) in
    let F : Option ThreadSpec → Type 0 = λ o. EndsAsShown o (line_of k lines) (came_by o before k) in
    let so : EndsAsShown t.plan (line_of k lines) (come t None) = subst (λ (p : Progress). EndsAsShown t.plan (line_of k lines) p) came_so (subst F (sym one.1.1) heard) in
    here (λ x. MayEnd x (line_of k lines)) (slice_get table k) t one.1.0 (record { ends = so; logs = begun t (line_of k lines) allows }))
  where
    begun : (t : Known) (o : Option ThreadLine) → Allows t None o → MatchOption o (Unit {0}) (λ l. take (length (log_so t)) l.log ≡ log_so t)
    begun t None allows = tt
    begun t (Some line) allows = back_of t.log (entry_so t None) line.log allows.bears.entries allows.bears.entry

-- a number below the one after another, and not that one, is below that
below_but : (k n : ℕ) → (n ≡ k → ⊥) → k < n + 1 → k < n
below_but k n apart below = omega (arith, λ (is : n ≡ k). apart is)

-- one thread more of a processor rests
abbrev pub Rested : ℕ → ℕ → List Known → List Known → Type 0
Rested cpu n old table = AllPairs (λ k t u. 16 * cpu ≤ k → k < 16 * cpu + n → MayRest t u) old table

abbrev pub Left : ℕ → ℕ → List Known → List Known → Type 0
Left cpu n old table = (k : ℕ) → 16 * cpu + n ≤ k → slice_get table k ≡ slice_get old k

written : (P : Known → Known → Type 0) (old table : List Known) (place k : ℕ) (t u : Known) → place < length table → slice_get old place ≡ Some t → P t u → ((place ≡ k → ⊥) → MatchOption (slice_get old k) ⊥ (λ x. MatchOption (slice_get table k) ⊥ (P x))) → MatchOption (slice_get old k) ⊥ (λ x. MatchOption (slice_get (slice_set table place u) k) ⊥ (P x))
written P old table place k t u inside at now others =
    let G : ℕ → Type 0 = λ j. MatchOption (slice_get old j) ⊥ (λ x. MatchOption (slice_get (slice_set table place u) j) ⊥ (P x)) in
    elim (cases_eq place k) [
      | inl is ↦ subst G is (here (λ x. MatchOption (slice_get (slice_set table place u) place) ⊥ (P x)) (slice_get old place) t at (here (P t) (slice_get (slice_set table place u) place) u (get_set table place u inside) now))
      | inr apart ↦ (let O : Option Known → Type 0 = λ o. MatchOption (slice_get old k) ⊥ (λ x. MatchOption o ⊥ (P x)) in
          subst O (sym (get_set_other table place k u apart)) (others apart))
    ]

-- of the threads of a processor so far each can have rested, and no other one changes
abbrev pub Allowed : ℕ → ℕ → List Known → List Known → Type 0
Allowed cpu n old table = AllPairs (λ k t u. (16 * cpu ≤ k → k < 16 * cpu + n → AllowsRest t u) × ((16 * cpu ≤ k → 16 * cpu + n ≤ k) → u ≡ t)) old table

pub rest_allowed : (cpu n : ℕ) (old table : List Known) (t u : Known) → cpu < 8 → n < 16 → length table ≡ 128 → t ≡ get_or table (16 * cpu + n) t → AllowsRest (get_or table (16 * cpu + n) t) u → Allowed cpu n old table → Left cpu n old table → Allowed cpu (n + 1) old (slice_set table (16 * cpu + n) u)
rest_allowed cpu n old table t u processor few room is may so_far left k below =
    let place = 16 * cpu + n in
    let may_so : AllowsRest t u = subst (λ (x : Known). AllowsRest x u) (sym is) may in
    let inside : place < length table = omega (arith, room) in
    let at : slice_get old place ≡ Some t = sym (left place (omega arith)) ∙ slice_get-get_or table place t inside ∙ ap (λ (x : Known). Some x) (sym is) in
    let P : ℕ → ℕ → Known → Known → Type 0 = λ m j x y. (16 * cpu ≤ j → j < 16 * cpu + m → AllowsRest x y) × ((16 * cpu ≤ j → 16 * cpu + m ≤ j) → y ≡ x) in
    let G : ℕ → Type 0 = λ j. MatchOption (slice_get old j) ⊥ (λ x. MatchOption (slice_get (slice_set table place u) j) ⊥ (P (n + 1) j x)) in
    let O : Option Known → Type 0 = λ o. MatchOption (slice_get old k) ⊥ (λ x. MatchOption o ⊥ (P (n + 1) k x)) in
    elim (cases_eq place k) [
      | inl same ↦ subst G same (here (λ x. MatchOption (slice_get (slice_set table place u) place) ⊥ (P (n + 1) place x)) (slice_get old place) t at (here (P (n + 1) place t) (slice_get (slice_set table place u) place) u (get_set table place u inside) ((λ from to. may_so), (λ other. absurd (past (other (omega arith)))))))
      | inr apart ↦ subst O (sym (get_set_other table place k u apart)) (mapped (λ x. MatchOption (slice_get table k) ⊥ (P n k x)) (λ x. MatchOption (slice_get table k) ⊥ (P (n + 1) k x)) (slice_get old k) (λ x p. mapped (P n k x) (P (n + 1) k x) (slice_get table k) (λ y f. ((λ from to. f.0 from (below_but k place apart (omega (arith, to)))), (λ other. f.1 (λ from. less (other from))))) p) (so_far k below))
    ]
  where
    past : 16 * cpu + (n + 1) ≤ 16 * cpu + n → ⊥
    past is = omega (arith, is)

    less : 16 * cpu + (n + 1) ≤ k → 16 * cpu + n ≤ k
    less is = omega (arith, is)

-- all of them
pub all_allowed : (cpu : ℕ) (old table : List Known) → Allowed cpu 16 old table → AllowAllRest cpu old table
all_allowed cpu old table so_far k below = mapped _ _ (slice_get old k) (λ t p. mapped _ _ (slice_get table k) (λ u f. ((λ is. f.0 (omega (arith, is)) (omega (arith, is))), (λ not. f.1 (λ from. above not from)))) p) (so_far k below)
  where
    above : (k / 16 ≡ cpu → ⊥) → 16 * cpu ≤ k → 16 * cpu + 16 ≤ k
    above not from = elim (cases_lt k (16 * cpu + 16)) [
      | inl below ↦ absurd (not (omega (arith, from, below)))
      | inr past ↦ past
    ]

-- a thread is there
some_of : (table : List Known) (k : ℕ) → k < length table → (t : Known) × (slice_get table k ≡ Some t)
some_of [] k inside = absurd (omega arith)
some_of (t ∷ table) zero inside = (t, refl)
some_of (t ∷ table) (suc k) inside = some_of table k (omega arith)

pub none_allowed : (cpu : ℕ) (table : List Known) → length table ≡ 128 → Allowed cpu 0 table table
none_allowed cpu table room k below =
    let one = some_of table k (omega (arith, room, below)) in
    let t = one.0 in
    let P : Known → Known → Type 0 = λ x y. (16 * cpu ≤ k → k < 16 * cpu + 0 → AllowsRest x y) × ((16 * cpu ≤ k → 16 * cpu + 0 ≤ k) → y ≡ x) in
    let both : P t t = ((λ from to. absurd (omega (arith, from, to))), (λ other. refl)) in
    here (λ x. MatchOption (slice_get table k) ⊥ (P x)) (slice_get table k) t one.1 (here (P t) (slice_get table k) t one.1 both)

-- one thread can't rest
pub one_loud : (cpu n : ℕ) (old table : List Known) (t : Known) → cpu < 8 → n < 16 → length table ≡ 128 → t ≡ get_or table (16 * cpu + n) t → MayNotRest (get_or table (16 * cpu + n) t) → Left cpu n old table → OneMayNotRest cpu old
one_loud cpu n old table t processor few room is loud left =
    let place = 16 * cpu + n in
    let inside : place < length table = omega (arith, room) in
    let at : slice_get old place ≡ Some t = sym (left place (omega arith)) ∙ slice_get-get_or table place t inside ∙ ap (λ (x : Known). Some x) (sym is) in
    (n, (few, here MayNotRest (slice_get old place) t at (subst MayNotRest (sym is) loud)))

pub rest_more : (cpu n : ℕ) (old table : List Known) (t u : Known) → cpu < 8 → n < 16 → length table ≡ 128 → t ≡ get_or table (16 * cpu + n) t → IsKept (get_or table (16 * cpu + n) t) u → MayRest (get_or table (16 * cpu + n) t) u → AreKept old table → Rested cpu n old table → Left cpu n old table → AreKept old (slice_set table (16 * cpu + n) u) × (Rested cpu (n + 1) old (slice_set table (16 * cpu + n) u) × Left cpu (n + 1) old (slice_set table (16 * cpu + n) u))
rest_more cpu n old table t u processor few room is is_kept may_rest so_far rested left =
    let place = 16 * cpu + n in
    let kept : IsKept t u = subst (λ (x : Known). IsKept x u) (sym is) is_kept in
    let may : MayRest t u = subst (λ (x : Known). MayRest x u) (sym is) may_rest in
    let inside : place < length table = omega (arith, room) in
    let at : slice_get old place ≡ Some t = sym (left place (omega arith)) ∙ slice_get-get_or table place t inside ∙ ap (λ (x : Known). Some x) (sym is) in (
      (λ k below. written IsKept old table place k t u inside at kept (λ apart. so_far k below)),
      (
        (λ k below. written (λ x y. 16 * cpu ≤ k → k < 16 * cpu + (n + 1) → MayRest x y) old table place k t u inside at (λ from to. may) (λ apart. mapped (λ x. MatchOption (slice_get table k) ⊥ (λ y. 16 * cpu ≤ k → k < 16 * cpu + n → MayRest x y)) (λ x. MatchOption (slice_get table k) ⊥ (λ y. 16 * cpu ≤ k → k < 16 * cpu + (n + 1) → MayRest x y)) (slice_get old k) (λ x p. mapped (λ y. 16 * cpu ≤ k → k < 16 * cpu + n → MayRest x y) (λ y. 16 * cpu ≤ k → k < 16 * cpu + (n + 1) → MayRest x y) (slice_get table k) (λ y f from to. f from (below_but k place apart (omega (arith, to)))) p) (rested k below))),
        (λ k past. get_set_other table place k u (λ same. omega arith) ∙ left k (omega arith)),
      ),
    )

-- a vector that was written whole has what was written
pub filled : (new items : List Known) (n : ℕ) → length new ≡ n → take n (new ++ drop (length new) items) ≡ new
filled new items n is = take_at new (drop (length new) items) n is

-- threads that were never polled
pub begins_shown : (plan : ℕ → Option ThreadSpec) (table : List Known) (answers : ℕ → Option Answer) → AllThreads (λ k t. t ≡ unpolled (plan k)) table → AreShown [] table answers
begins_shown plan table answers all k below = mapped (λ t. t ≡ unpolled (plan k)) (λ t. came_by t.plan [] k ≡ come t (answers k)) (slice_get table k) (λ t is. let F : Known → Type 0 = λ x. came_by x.plan [] k ≡ come x (answers k) in subst F (sym is) refl) (all k below)

pub begins_allows : (plan : ℕ → Option ThreadSpec) (table : List Known) (answers : ℕ → Option Answer) (lines : List ThreadLine) → AllThreads (λ k t. t ≡ unpolled (plan k)) table → AllAllow table answers lines
begins_allows plan table answers lines all k below = mapped (λ t. t ≡ unpolled (plan k)) (λ t. Allows t (answers k) (line_of k lines)) (slice_get table k) (λ t is. subst (λ (x : Known). Allows x (answers k) (line_of k lines)) (sym is) (unpolled_allows (plan k) (answers k) (line_of k lines))) (all k below)

-- a thread that doesn't end as its line says refutes the end of all
pub one_open : (table : List Known) (lines : List ThreadLine) (k : ℕ) (t : Known) (line : Option ThreadLine) → k < 128 → length table ≡ 128 → t ≡ get_or table k t → line ≡ line_of k lines → ¬ MayEnd t line → ¬ AllThreads (λ j x. MayEnd x (line_of j lines)) table
one_open table lines k t line below room is same unfit all =
    let inside : k < length table = omega (arith, room) in
    let at : slice_get table k ≡ Some t = slice_get-get_or table k t inside ∙ ap (λ (x : Known). Some x) (sym is) in
    unfit (subst (MayEnd t) (sym same) (there (λ x. MayEnd x (line_of k lines)) (slice_get table k) t at (all k below)))

-- one thread more ends as its line says
pub ended_more : (table : List Known) (lines : List ThreadLine) (n : ℕ) (t : Known) (line : Option ThreadLine) → n < length table → t ≡ get_or table n t → line ≡ line_of n lines → IsEnded t line → ((k : ℕ) → k < n → MatchOption (slice_get table k) ⊥ (λ x. IsEnded x (line_of k lines))) → (k : ℕ) → k < n + 1 → MatchOption (slice_get table k) ⊥ (λ x. IsEnded x (line_of k lines))
ended_more table lines n t line inside is same ended so_far k below =
    let at : slice_get table n ≡ Some t = slice_get-get_or table n t inside ∙ ap (λ (x : Known). Some x) (sym is) in
    let G : ℕ → Type 0 = λ j. MatchOption (slice_get table j) ⊥ (λ x. IsEnded x (line_of j lines)) in
    elim (cases_eq n k) [
      | inl e ↦ subst G e (here (λ x. IsEnded x (line_of n lines)) (slice_get table n) t at (subst (λ (o : Option ThreadLine). IsEnded t o) same ended))
      | inr apart ↦ so_far k (below_but k n apart below)
    ]
