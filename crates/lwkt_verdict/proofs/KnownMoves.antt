use Rattle.std.proofs.Common.{zero, suc, inl, inr, ◌≡◌, ℕ, ◌+◌, ◌<◌, ◌≤◌, List, [], ◌∷◌, ◌++◌, length, take, refl, sym, ap, ◌∙◌, subst, arith, Option, Some, None}
use Rattle.std.specs.Prelude.{Bool, true, false, not, is_some, option_and_then, option_map, nat_lt, min, slice_get, unwrap_or, if◌then◌else◌, MatchOption}
use Rattle.std.specs.Option.{option_map_or}
use Rattle.std.proofs.lemmas.Bool.{cases_lt, lt-ltb, le-ltb, false≢true, and_parts}
use Rattle.std.proofs.lemmas.List.{take-take, take_at, take_all, length_push}
use Rattle.std.proofs.lemmas.Option.{none-some}
use Rattle.lwkt_base.specs.declared.threads.ThreadLine.{ThreadLine}
use Rattle.lwkt_script.specs.declared.scripts.ThreadSpec.{ThreadSpec}
use Rattle.lwkt_verdict.specs.declared.expected.Expected.{Expected}
use Rattle.lwkt_verdict.specs.declared.expected.Expected.TheVariants.{Any, NoRefusal, Refusal, Value, Bytes}
use Rattle.lwkt_verdict.specs.Asks.{is_refused}
use Rattle.lwkt_base.specs.declared.asks.Ask.{Ask}
use Rattle.lwkt_base.specs.declared.asks.Answer.{Answer}
use Rattle.lwkt_base.specs.declared.asks.Answer.TheVariants.{Begin, Done}
use Rattle.lwkt_base.specs.declared.entries.Entry.{Entry}
use Rattle.lwkt_code.specs.declared.locals.Local.{Local}
use Rattle.lwkt_code.specs.declared.steps.Step.{Step}
use Rattle.lwkt_code.specs.Answers.{last_step, logs}
use Rattle.lwkt_code.specs.Next.{next}
use Rattle.lwkt_script.specs.Logs.{failure_of}
use Rattle.lwkt_core.specs.declared.events.Event.{Event}
use Rattle.lwkt_core.specs.Machine.{Machine}
use Rattle.lwkt_verdict.specs.declared.progress.Asked.{Asked}
use Rattle.lwkt_verdict.specs.declared.progress.Progress.{Progress}
use Rattle.lwkt_verdict.specs.Owns.{has_blocked}
use Rattle.lwkt_verdict.specs.Threads.{told, logged_by, may_end, EndsAs, EndsAsShown}
use Rattle.lwkt_verdict.specs.Follow.{Awaited, Known, is_expected, asked_so, steps_of, entry_so, come, Allows}
use Rattle.lwkt_verdict.specs.Followed.{log_with, log_so, awaited, unpolled, told_so, next_so, Hears, Moves, after_asking, Asks, MayAskNext, MayBePolled, IsPolled, IsKept, AllowsRest, MayNotRest, IsEnded, MayEnd}

-- a test of two numbers in order, and not in order
if_below : {A : Type 0} (m n : ℕ) (x y : A) → m < n → (if nat_lt m n then x else y) ≡ x
if_below m n x y below = ap (λ b. if b then x else y) (lt-ltb m n below)

if_past : {A : Type 0} (m n : ℕ) (x y : A) → n ≤ m → (if nat_lt m n then x else y) ≡ y
if_past m n x y past = ap (λ b. if b then x else y) (le-ltb m n past)

-- how long a log is with an entry more, or none
long_with : (log : List Entry) (o : Option Entry) → length log ≤ 32 → length (log_with log o) ≡ option_map_or (λ (e : Entry). min 32 (length log + 1)) o (length log)
long_with log None few = refl
long_with log (Some e) few = elim (cases_lt (length log) 32) [
  | inl below ↦ (let least : min 32 (length log + 1) ≡ length log + 1 = omega arith in
      ap (λ (es : List Entry). length es) (if_below (length log) 32 (log ++ e ∷ []) log below) ∙ length_push log e ∙ sym least)
  | inr past ↦ (let least : length log ≡ min 32 (length log + 1) = omega arith in
      ap (λ (es : List Entry). length es) (if_past (length log) 32 (log ++ e ∷ []) log past) ∙ least)
]

-- an element of a list's front
get_of_front : (ys : List Entry) (n k : ℕ) → k < n → slice_get (take n ys) k ≡ slice_get ys k
get_of_front ys zero k below = absurd (omega arith)
get_of_front [] (suc n) k below = refl
get_of_front (y ∷ ys) (suc n) zero below = refl
get_of_front (y ∷ ys) (suc n) (suc k) below = get_of_front ys n k (omega arith)

-- the last of a list with one element more
get_last : (xs : List Entry) (e : Entry) → slice_get (xs ++ e ∷ []) (length xs) ≡ Some e
get_last [] e = refl
get_last (x ∷ xs) e = get_last xs e

-- what begins with a list and one element more, begins with that list
begins_before : (xs ys : List Entry) (e : Entry) → take (length (xs ++ e ∷ [])) ys ≡ xs ++ e ∷ [] → (take (length xs) ys ≡ xs) × (slice_get ys (length xs) ≡ Some e)
begins_before xs ys e is =
    let long = length_push xs e in
    let n = length (xs ++ e ∷ []) in
    let fewer : length xs ≤ n = omega (arith, long) in
    let inside : length xs < n = omega (arith, long) in (
      sym (take-take (length xs) n ys fewer) ∙ ap (λ (es : List Entry). take (length xs) es) is ∙ take_at xs (e ∷ []) (length xs) refl,
      sym (get_of_front ys n (length xs) inside) ∙ ap (λ (es : List Entry). slice_get es (length xs)) is ∙ get_last xs e,
    )

-- the front of a list with one item more
take_next : (ys : List Entry) (n : ℕ) (e : Entry) → slice_get ys n ≡ Some e → take (suc n) ys ≡ take n ys ++ e ∷ []
take_next [] n e at = absurd (none-some e at)
take_next (y ∷ ys) zero e at =
    let same : y ≡ e = cc in
    ap (λ x. x ∷ []) same
take_next (y ∷ ys) (suc n) e at = ap (λ es. y ∷ es) (take_next ys n e at)

-- what begins with a log, and has an entry, if there is one, behind it, begins with both
pub back_of : (log : List Entry) (o : Option Entry) (whole : List Entry) → take (length log) whole ≡ log → MatchOption o (Unit {0}) (λ e. length log < 32 → slice_get whole (length log) ≡ Some e) → take (length (log_with log o)) whole ≡ log_with log o
back_of log None whole is at = is
back_of log (Some e) whole is at =
    let F : List Entry → Type 0 = λ es. take (length es) whole ≡ es in
    elim (cases_lt (length log) 32) [
      | inl below ↦ (let long : length (log ++ e ∷ []) ≡ suc (length log) = length_push log e ∙ omega arith in
          let both : F (log ++ e ∷ []) = ap (λ n. take n whole) long ∙ take_next whole (length log) e (at below) ∙ ap (λ es. es ++ e ∷ []) is in
          subst F (sym (if_below (length log) 32 (log ++ e ∷ []) log below)) both)
      | inr past ↦ subst F (sym (if_past (length log) 32 (log ++ e ∷ []) log past)) is
    ]

-- the same of a log with an entry more, or none
pub front_of : (log : List Entry) (o : Option Entry) (whole : List Entry) → take (length (log_with log o)) whole ≡ log_with log o → (take (length log) whole ≡ log) × MatchOption o (Unit {0}) (λ e. length log < 32 → slice_get whole (length log) ≡ Some e)
front_of log None whole is = (is, tt)
front_of log (Some e) whole is =
    let F : List Entry → Type 0 = λ es. take (length es) whole ≡ es in
    elim (cases_lt (length log) 32) [
      | inl below ↦ (let both = begins_before log whole e (subst F (if_below (length log) 32 (log ++ e ∷ []) log below) is) in
          (both.0, λ few. both.1))
      | inr past ↦ (subst F (if_past (length log) 32 (log ++ e ∷ []) log past) is, λ few. absurd (omega arith))
    ]

-- what is told that was heard
pub told_is : (heard : Answer) (t : Known) → told (come t (Some heard)).last ≡ told_so t heard
told_is heard t = go t.last
  where
    go : (o : Option Awaited) → told (option_map (λ w. asked_so w (Some heard)) o) ≡ option_map_or (λ (w : Awaited). heard) o Begin
    go None = refl
    go (Some w) = refl

abbrev gone : Local → Option Asked → Option Entry → ℕ → Progress
gone local last entry n = record { local = local; last = last; logged = option_map_or (λ (e : Entry). min 32 (n + 1)) entry n }

-- what the program of a thread leaves of what is known of it that heard this
abbrev moved_on : Answer → Known → Known
moved_on heard t = record { plan = t.plan; local = (next_so t heard).1; last = t.last; log = t.log }

-- what a thread that heard and asked this leaves of what is known of it
abbrev heard_on : Answer → Known → Awaited → Known
heard_on heard t w = record { plan = t.plan; local = (next_so t heard).1; last = Some w; log = log_with t.log (entry_so t (Some heard)) }

present : (P : Type 0) (o : Option ThreadSpec) → is_some o ≡ true → P → MatchOption o ⊥ (λ plan. P)
present P None some p = absurd (false≢true some)
present P (Some plan) some p = p

-- a thread that heard an answer and asked its next ask
pub is_polled : (m : Machine) (heard : Answer) (asked : Ask) (part : List Event) (old mid gone_on new : Known) → length old.log ≤ 32 → Hears heard old mid → Moves heard asked mid gone_on → Asks m asked part gone_on new → IsPolled m heard asked part old new
is_polled m heard asked part old mid gone_on new few hears moves asks =
    let w : Awaited = record { ask = asked; blocked = has_blocked asked part; expected = asks.expected } in
    let steps : List Step = steps_of old in
    let p : Progress = come old (Some heard) in
    let long = long_with old.log (entry_so old (Some heard)) few in
    let is : new ≡ heard_on heard old w = asks.noted ∙ ap (λ (t : Known). after_asking t w) moves.moved ∙ ap (λ (t : Known). after_asking (moved_on heard t) w) hears.logged in
    let P : Known → Type 0 = λ t. IsPolled m heard asked part old t in
    let Next : Known → Type 0 = λ t. MayAskNext heard asked t in
    let local : Answer → Local = λ x. (next steps old.local x).1 in
    let entry : Option Answer → Answer → Option Entry = λ answer x. logged_by steps (local x) (asked_so w answer) in
    subst P (sym is) (record {
      asks = subst Next hears.logged (present (asked ≡ (next_so mid heard).0) mid.plan moves.plan moves.asks);
      came = λ answer. ap (λ n. gone (local (told_so old heard)) (Some (asked_so w answer)) (entry answer (told_so old heard)) n) long ∙ ap (λ (x : Answer). gone (local x) (Some (asked_so w answer)) (entry answer x) p.logged) (sym (told_is heard old));
      bears = λ answer line b. (let front = front_of old.log (entry_so old (Some heard)) line.log b.entries in
          record { expected = hears.expected; answers = hears.answers; entries = front.0; entry = front.1 });
      answers = λ answer line b. b.answers;
      logs = λ answer line b. (let F : ℕ → Type 0 = λ n. MatchOption (entry answer (told_so old heard)) (Unit {0}) (λ e. n < 32 → slice_get line.log n ≡ Some e) in
          let G : Answer → Type 0 = λ x. MatchOption (entry answer x) (Unit {0}) (λ e. p.logged < 32 → slice_get line.log p.logged ≡ Some e) in
          subst G (sym (told_is heard old)) (subst F long b.entry));
      makes = λ answer line b. asks.makes answer b.expected;
      allows = λ answer line b answers logs makes. (let F : ℕ → Type 0 = λ n. MatchOption (entry answer (told_so old heard)) (Unit {0}) (λ e. n < 32 → slice_get line.log n ≡ Some e) in
          let G : Answer → Type 0 = λ x. MatchOption (entry answer x) (Unit {0}) (λ e. p.logged < 32 → slice_get line.log p.logged ≡ Some e) in
          record { expected = asks.expects answer makes; answers = answers; entries = back_of old.log (entry_so old (Some heard)) line.log b.entries b.entry; entry = subst F (sym long) (subst G (told_is heard old) logs) });
      unblocked = asks.unblocked;
    })

-- a thread that has this ask not next, since it isn't there or has another one, can't be polled so
pub other_asked : (m : Machine) (heard : Answer) (asked : Ask) (part : List Event) (old mid : Known) → Hears heard old mid → (MayAskNext heard asked mid → ⊥) → MayBePolled m heard asked part old → ⊥
other_asked m heard asked part old mid hears apart may =
    let Next : Known → Type 0 = λ t. MayAskNext heard asked t in
    apart (subst Next (sym hears.logged) may.asks)

-- a log that is full gets no entry, and none where none is made
pub full_log : (log : List Entry) (o : Option Entry) → 32 ≤ length log → log ≡ log_with log o
full_log log None full = refl
full_log log (Some e) full = sym (if_past (length log) 32 (log ++ e ∷ []) log full)

pub room_log : (log : List Entry) (e : Entry) → length log < 32 → log_with log (Some e) ≡ log ++ e ∷ []
room_log log e room = if_below (length log) 32 (log ++ e ∷ []) log room

-- what two lists are that are one with an element behind each
pub snoc_same : (xs ys : List Entry) (a b : Entry) → xs ++ a ∷ [] ≡ ys ++ b ∷ [] → (xs ≡ ys) × (a ≡ b)
snoc_same xs ys a b same =
    let long : length (xs ++ a ∷ []) ≡ length (ys ++ b ∷ []) = ap (λ (zs : List Entry). length zs) same in
    let n : length ys ≡ length xs = omega (arith, long, length_push xs a, length_push ys b) in
    let at : Some a ≡ Some b = sym (get_last xs a) ∙ ap (λ (zs : List Entry). slice_get zs (length xs)) same ∙ ap (λ k. slice_get (ys ++ b ∷ []) k) (sym n) ∙ get_last ys b in (
      sym (take_at xs (a ∷ []) (length xs) refl) ∙ ap (λ (zs : List Entry). take (length xs) zs) same ∙ take_at ys (b ∷ []) (length xs) n,
      ap (λ (o : Option Entry). unwrap_or o a) at,
    )

pub snoc_none : (xs : List Entry) (a : Entry) → xs ++ a ∷ [] ≡ [] → ⊥
snoc_none xs a same =
    let long : length (xs ++ a ∷ []) ≡ 0 = ap (λ (zs : List Entry). length zs) same in
    omega (arith, long, length_push xs a)

no_log : (b : Bool) (log : List Entry) → log ≡ log_with log (if b then None else None)
no_log true log = refl
no_log false log = refl

pub nothing_begun : (steps : List Step) (s : Local) (ask : Ask) (answer : Answer) (log : List Entry) → answer ≡ Begin → log ≡ log_with log (logged_by steps s (record { ask = ask; answer = Some answer; blocked = false }))
nothing_begun steps s ask answer log is =
    let F : Answer → Type 0 = λ a. log ≡ log_with log (logged_by steps s (record { ask = ask; answer = Some a; blocked = false })) in
    subst F (sym is) (no_log (logs (last_step steps s) Begin) log)

pub nothing_done : (steps : List Step) (s : Local) (ask : Ask) (answer : Answer) (log : List Entry) → answer ≡ Done → log ≡ log_with log (logged_by steps s (record { ask = ask; answer = Some answer; blocked = false }))
nothing_done steps s ask answer log is =
    let F : Answer → Type 0 = λ a. log ≡ log_with log (logged_by steps s (record { ask = ask; answer = Some a; blocked = false })) in
    subst F (sym is) (no_log (logs (last_step steps s) Done) log)

-- a thread of which nothing more is known
pub same_kept : (t : Known) → IsKept t t
same_kept t = record { plan = refl; came = λ answer. refl; bears = λ answer line b. b }

-- what is known of a thread that was never polled allows any line
pub unpolled_allows : (plan : Option ThreadSpec) (answer : Option Answer) (line : Option ThreadLine) → Allows (unpolled plan) answer line
unpolled_allows plan answer None = record { bears = refl; unblocked = tt }
unpolled_allows plan answer (Some line) = record { bears = record { expected = tt; answers = tt; entries = refl; entry = tt }; unblocked = tt }

-- the same of a thread of which nothing more is known
pub same_allows : (t : Known) → AllowsRest t t
same_allows t answer line allows rests = allows

abbrev known_so : Option ThreadSpec → Local → Ask → Bool → Expected → List Entry → Known
known_so plan local ask blocked expected log = record { plan = plan; local = local; last = Some (record { ask = ask; blocked = blocked; expected = expected }); log = log }

not_so : (b : Bool) → not b ≡ true → b ≡ false
not_so true is = absurd (false≢true is)
not_so false is = refl

-- a thread that rests, which is there, was blocked by what it last asked, and that wasn't refused
pub rest_allows : (plan : ThreadSpec) (local : Local) (ask : Ask) (blocked : Bool) (old new : Expected) (log : List Entry) → ((answer : Option Answer) → is_expected old answer ≡ true → is_refused answer ≡ false → is_expected new answer ≡ true) → ¬ (new ≡ Refusal) → AllowsRest (known_so (Some plan) local ask blocked old log) (known_so (Some plan) local ask blocked new log)
rest_allows plan local ask blocked old new log kept opens answer None allows rests = absurd (none-some (record { ask = ask; blocked = blocked; expected = old }) (sym allows.bears))
rest_allows plan local ask blocked old new log kept opens answer (Some line) allows rests = record {
  bears = record {
    expected = kept answer allows.bears.expected (not_so (is_refused answer) (and_parts (not (is_refused answer)) blocked rests).0);
    answers = allows.bears.answers;
    entries = allows.bears.entries;
    entry = allows.bears.entry;
  };
  unblocked = λ is. absurd (opens is);
}

-- a thread that is there can't rest: it was never polled, or didn't block, or is refused
pub never_rests : (plan : ThreadSpec) (local : Local) (log : List Entry) → MayNotRest (record { plan = Some plan; local = local; last = None; log = log })
never_rests plan local log line allows rests = rests

pub unblocked_rests : (plan : ThreadSpec) (local : Local) (ask : Ask) (blocked : Bool) (expected : Expected) (log : List Entry) → blocked ≡ false → MayNotRest (known_so (Some plan) local ask blocked expected log)
unblocked_rests plan local ask blocked expected log is line allows rests = false≢true (sym is ∙ rests)

pub refused_rests : (plan : ThreadSpec) (local : Local) (ask : Ask) (blocked : Bool) (expected : Expected) (log : List Entry) → expected ≡ Refusal → MayNotRest (known_so (Some plan) local ask blocked expected log)
refused_rests plan local ask blocked expected log is line allows rests = false≢true (sym (allows.unblocked is) ∙ rests)

-- what a thread's last ask puts in the log that has no answer
pub failure_is : (t : Known) (last : Option Ask) (blocked : Bool) (expected : Expected) → t.last ≡ option_map (λ ask. record { ask = ask; blocked = blocked; expected = expected }) last → entry_so t None ≡ option_and_then failure_of last
failure_is t last blocked expected is = ap (λ (o : Option Awaited). option_and_then (λ w. logged_by (steps_of t) t.local (asked_so w None)) o) is ∙ go last
  where
    go : (o : Option Ask) → option_and_then (λ (w : Awaited). failure_of w.ask) (option_map (λ ask. record { ask = ask; blocked = blocked; expected = expected }) o) ≡ option_and_then failure_of o
    go None = refl
    go (Some ask) = refl

-- how many entries a thread has whose last ask has no answer
pub open_logged : (t : Known) → length t.log ≤ 32 → (come t None).logged ≡ length (log_so t)
open_logged t few = sym (long_with t.log (entry_so t None) few)

-- a last ask that has no answer: none is expected, or whichever
none_expected : (expected : Expected) → is_expected expected None ≡ true
none_expected Any = refl
none_expected NoRefusal = refl
none_expected Refusal = refl
none_expected (Value value) = refl
none_expected (Bytes blob) = refl

pub all_expected : (o : Option Awaited) → MatchOption o (Unit {0}) (λ w. is_expected w.expected None ≡ true)
all_expected None = tt
all_expected (Some w) = none_expected w.expected

pub none_answers : (o : Option Awaited) → MatchOption o (Unit {0}) (λ w. Unit {0})
none_answers None = tt
none_answers (Some w) = tt

none_open : (o : Option Awaited) → MatchOption (option_map (λ w. asked_so w None) o) (Unit {0}) (λ a. is_some a.answer ≡ false)
none_open None = tt
none_open (Some w) = refl

-- a thread that is there ends as its line says
shown_so : (o : Option ThreadSpec) (line : ThreadLine) (p : Progress) → is_some o ≡ true → EndsAs line p → EndsAsShown o (Some line) p
shown_so None line p some ends = absurd (false≢true some)
shown_so (Some plan) line p some ends = ends

so_shown : (o : Option ThreadSpec) (line : ThreadLine) (p : Progress) → EndsAsShown o (Some line) p → EndsAs line p
so_shown None line p ends = absurd ends
so_shown (Some plan) line p ends = ends

pub ends_whole : (t : Known) (line : ThreadLine) → is_some t.plan ≡ true → length t.log ≤ 32 → log_so t ≡ line.log → may_end line.state (come t None).last ≡ true → IsEnded t (Some line)
ends_whole t line some few whole state =
    let all : take (length (log_so t)) line.log ≡ log_so t = ap (λ (es : List Entry). take (length (log_so t)) es) (sym whole) ∙ take_all (length (log_so t)) (log_so t) (omega arith) in
    let front = front_of t.log (entry_so t None) line.log all in
    record {
      bears = record { expected = all_expected t.last; answers = none_answers t.last; entries = front.0; entry = front.1 };
      ends = shown_so t.plan line (come t None) some (none_open t.last, sym (open_logged t few ∙ ap (λ (es : List Entry). length es) whole), state);
    }

-- a line that has as many entries as a log, with which it begins, has that log
pub whole_log : (log whole : List Entry) → take (length log) whole ≡ log → length whole ≡ length log → log ≡ whole
whole_log log whole is long =
    let all : length whole ≤ length log = omega (arith, long) in
    sym is ∙ take_all (length log) whole all

-- where a thread ends as its line says, the line's log and its state are those
pub whole_ends : (t : Known) (line : ThreadLine) → length t.log ≤ 32 → MayEnd t (Some line) → (log_so t ≡ line.log) × (may_end line.state (come t None).last ≡ true)
whole_ends t line few may =
    let ends = so_shown t.plan line (come t None) may.ends in
    (whole_log (log_so t) line.log may.logs (ends.1 ∙ open_logged t few), ends.2)

-- the same of what a check keeps of a thread
abbrev pub known_of : Option ThreadSpec → Local → Option Ask → Bool → Expected → List Entry → Known
known_of plan local last blocked expected log = record { plan = plan; local = local; last = awaited last blocked expected; log = log }

abbrev pub open_ask : Option Ask → Bool → Option Asked
open_ask last blocked = option_map (λ ask. record { ask = ask; answer = None; blocked = blocked }) last

open_is : (last : Option Ask) (blocked : Bool) (expected : Expected) → option_map (λ w. asked_so w None) (awaited last blocked expected) ≡ open_ask last blocked
open_is None blocked expected = refl
open_is (Some ask) blocked expected = refl

log_is : (plan : Option ThreadSpec) (local : Local) (last : Option Ask) (blocked : Bool) (expected : Expected) (log : List Entry) → log_so (known_of plan local last blocked expected log) ≡ log_with log (option_and_then failure_of last)
log_is plan local last blocked expected log = ap (λ (o : Option Entry). log_with log o) (failure_is (known_of plan local last blocked expected log) last blocked expected refl)

pub ends_so : (plan : Option ThreadSpec) (local : Local) (last : Option Ask) (blocked : Bool) (expected : Expected) (log : List Entry) (line : ThreadLine) → length log ≤ 32 → log_with log (option_and_then failure_of last) ≡ line.log → may_end line.state (open_ask last blocked) ≡ true → is_some plan ≡ true → IsEnded (known_of plan local last blocked expected log) (Some line)
ends_so plan local last blocked expected log line few whole state some =
    let t : Known = known_of plan local last blocked expected log in
    ends_whole t line some few (log_is plan local last blocked expected log ∙ whole) (ap (λ (o : Option Asked). may_end line.state o) (open_is last blocked expected) ∙ state)

pub so_ends : (plan : Option ThreadSpec) (local : Local) (last : Option Ask) (blocked : Bool) (expected : Expected) (log : List Entry) (line : ThreadLine) → length log ≤ 32 → MayEnd (known_of plan local last blocked expected log) (Some line) → (log_with log (option_and_then failure_of last) ≡ line.log) × (may_end line.state (open_ask last blocked) ≡ true)
so_ends plan local last blocked expected log line few may =
    let t : Known = known_of plan local last blocked expected log in
    let ends = whole_ends t line few may in
    (sym (log_is plan local last blocked expected log) ∙ ends.0, sym (ap (λ (o : Option Asked). may_end line.state o) (open_is last blocked expected)) ∙ ends.1)
