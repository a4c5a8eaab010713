-- Polls of a body, one after another.
use Rattle.std.proofs.Common.{◌≡◌, ℕ, zero, suc, ◌<◌, ◌≤◌, Bool, true, false, List, [], ◌∷◌, ◌++◌, length, take, refl, ap, sym, ◌∙◌, subst, arith, Option, Some, None, append_assoc, length-append}
use Rattle.std.specs.Prelude.{IfSome, IsSome, map, option_map, option_to_list, replicate, slice_get, unwrap_or, nat_lt, if◌then◌else◌}
use Rattle.std.proofs.lemmas.Bool.{ltb-true, ltb-false, le-ltb}
use Rattle.std.proofs.lemmas.List.{length-map}
use Rattle.std.proofs.lemmas.Option.{slice_get_within}
use Rattle.lwkt_base.specs.declared.asks.Ask.{Ask}
use Rattle.lwkt_base.specs.declared.asks.Ask.TheVariants.{Exit}
use Rattle.lwkt_base.specs.declared.asks.Answer.{Answer}
use Rattle.lwkt_base.specs.declared.asks.Answer.TheVariants.{Begin, Done}
use Rattle.lwkt_base.specs.declared.entries.Entry.{Entry}
use Rattle.lwkt_code.specs.declared.locals.Local.{Local}
use Rattle.lwkt_code.specs.declared.steps.Step.{Step}
use Rattle.lwkt_code.specs.Answers.{last_step, logs}
use Rattle.lwkt_code.specs.Next.{asks_by}
use Rattle.lwkt_code.specs.Programs.{Program, listed_program}
use Rattle.lwkt_code.proofs.Lists.{asks_as_listed}
use Rattle.lwkt_script.specs.Logs.{entry_of, failure_of}
use Rattle.lwkt_lane.proofs.PlaceMoves.{refilled_front}
use Rattle.lwkt_machine.specs.Bodies.{Scripted, unpolled, entry_by, entry_heard, entry_kept, logged, next_of, after_hearing, after_ask, after_poll, IsPolled}
use Rattle.lwkt_machine.specs.Laws.{ArePolls, entries_made, AsksAreTheScripts, AsksAreTheLists, LogsAreFirstEntries}

abbrev pub body_so : Program → Local → Option Ask → Option Answer → List Entry → Scripted
body_so program local asked heard log = record { program = program; local = local; asked = asked; heard = heard; log = log }

-- a body that has heard an answer and goes on by it has asked something
pub has_asked : (old mid new : Scripted) (last : Answer) → mid ≡ after_hearing last old → IfSome mid.heard (λ (l : Answer). new ≡ after_ask l mid) → IsSome new.asked
has_asked old mid new last heard goes =
    let is : mid.heard ≡ Some last = ap (λ (m : Scripted). m.heard) heard in
    let goes_so : new ≡ after_ask last mid = subst (λ (o : Option Answer). IfSome o (λ (l : Answer). new ≡ after_ask l mid)) is goes in
    subst (λ (m : Scripted). IsSome m.asked) (sym goes_so) refl

-- a poll: the answer is heard, and then the next ask is made, and given
pub polled_so : (old mid new : Scripted) (last : Answer) (ask : Ask) → mid ≡ after_hearing last old → IfSome mid.heard (λ (l : Answer). new ≡ after_ask l mid) → Some ask ≡ new.asked → IsPolled old last ask new
polled_so old mid new last ask heard goes given =
    let is : mid.heard ≡ Some last = ap (λ (m : Scripted). m.heard) heard in
    let goes_so : new ≡ after_ask last mid = subst (λ (o : Option Answer). IfSome o (λ (l : Answer). new ≡ after_ask l mid)) is goes in
    let asked_so : Some ask ≡ Some (next_of mid last).0 = given ∙ ap (λ (m : Scripted). m.asked) goes_so in
    let ask_so : ask ≡ (next_of mid last).0 = ap (λ (o : Option Ask). unwrap_or o ask) asked_so in
    (ask_so ∙ ap (λ (m : Scripted). (next_of m last).0) heard, goes_so ∙ ap (λ (m : Scripted). after_ask last m) heard)

asks_from : (polls : List (Answer × Ask)) (old b : Scripted) → ArePolls old polls b → map (λ (q : Answer × Ask). q.1) polls ≡ asks_by old.program.steps old.local (map (λ (q : Answer × Ask). q.0) polls)
asks_from [] old b are = refl
asks_from (p ∷ polls) old b are =
    let mid = are.0 in
    let step : mid ≡ after_poll p.0 old = are.1.0.1 in
    let told : List Answer = map (λ (q : Answer × Ask). q.0) polls in
    let asked : List Ask = map (λ (q : Answer × Ask). q.1) polls in
    ap (λ (x : Ask). x ∷ asked) are.1.0.0
    ∙ ap (λ (xs : List Ask). (next_of old p.0).0 ∷ xs) (asks_from polls mid b are.1.1 ∙ ap (λ (m : Scripted). asks_by m.program.steps m.local told) step)

pub asks_are : AsksAreTheScripts
asks_are program polls b are = asks_from polls (unpolled program) b are

map_at : (polls : List (Answer × Ask)) (k : ℕ) → slice_get (map (λ (q : Answer × Ask). q.1) polls) k ≡ option_map (λ (q : Answer × Ask). q.1) (slice_get polls k)
map_at [] k = refl
map_at (p ∷ polls) zero = refl
map_at (p ∷ polls) (suc k) = map_at polls k

pub lists_are : AsksAreTheLists
lists_are asks repeat polls b are k q at =
    let told : List Answer = map (λ (q : Answer × Ask). q.0) polls in
    let here : slice_get (map (λ (q : Answer × Ask). q.1) polls) k ≡ Some q.1 = map_at polls k ∙ ap (λ (o : Option (Answer × Ask)). option_map (λ (q : Answer × Ask). q.1) o) at in
    let long : length told ≡ length polls = length-map polls (λ (q : Answer × Ask). q.0) in
    let inside : k < length told = omega (arith, long, slice_get_within polls k q at) in
    let listed_so = asks_as_listed asks repeat (replicate 8 0) told k inside in
    ap (λ (o : Option Ask). unwrap_or o Exit) (sym here ∙ ap (λ (xs : List Ask). slice_get xs k) (asks_are (listed_program asks repeat) polls b are) ∙ listed_so)

take_all : {A : Type 0} (xs : List A) (n : ℕ) → length xs ≤ n → xs ≡ take n (xs ++ [])
take_all {A = A} [] zero few = refl
take_all {A = A} [] (suc n) few = refl
take_all {A = A} (x ∷ xs) zero few = absurd (omega (arith, few))
take_all {A = A} (x ∷ xs) (suc n) few = ap (λ ys. x ∷ ys) (take_all xs n (omega (arith, few)))

-- nothing is put in the log where nothing was asked before, and where an ask was only done
none_either : (b : Bool) (o : Option Entry) → o ≡ None → (if b then o else None) ≡ None
none_either true o is = is
none_either false o is = refl

pub nothing_begun : (steps : List Step) (s : Local) (asked : Option Ask) → entry_by steps s asked Begin ≡ None
nothing_begun steps s None = refl
nothing_begun steps s (Some ask) = none_either (logs (last_step steps s) Begin) (entry_of ask Begin) refl

pub nothing_done : (steps : List Step) (s : Local) (asked : Option Ask) → entry_by steps s asked Done ≡ None
nothing_done steps s None = refl
nothing_done steps s (Some ask) = none_either (logs (last_step steps s) Done) (entry_of ask Done) refl

-- a full log takes nothing more
full : (log rest more : List Entry) → length log ≡ 32 → take 32 (log ++ rest) ≡ take 32 (log ++ more)
full log rest more long = refilled_front log rest 32 long ∙ sym (refilled_front log more 32 long)

pub full_log : (log : List Entry) (o : Option Entry) → 32 ≤ length log → logged log o ≡ log
full_log log None far = refl
full_log log (Some e) far = ap (λ (b : Bool). if b then log ++ e ∷ [] else log) (le-ltb (length log) 32 far)

-- a body that puts nothing in its log stays as it is
pub kept_same : (b : Scripted) → logged b.log (entry_kept b) ≡ b.log → b ≡ record b { log = logged b.log (entry_kept b) }
kept_same b same = ap (λ (es : List Entry). body_so b.program b.local b.asked b.heard es) (sym same)

logged_one : (fits : Bool) (log rest : List Entry) (e : Entry) → nat_lt (length log) 32 ≡ fits → length log ≤ 32 → (length (logged log (Some e)) ≤ 32) × (take 32 (logged log (Some e) ++ rest) ≡ take 32 (log ++ e ∷ rest))
logged_one true log rest e is few = rw is (let l = length-append log (e ∷ []) in omega (arith, l, ltb-true (length log) 32 is), ap (λ xs. take 32 xs) (append_assoc log (e ∷ []) rest))
logged_one false log rest e is few = rw is (few, full log rest (e ∷ rest) (omega (arith, few, ltb-false (length log) 32 is)))

logged_any : (o : Option Entry) (log rest : List Entry) → length log ≤ 32 → (length (logged log o) ≤ 32) × (take 32 (logged log o ++ rest) ≡ take 32 (log ++ (option_to_list o ++ rest)))
logged_any None log rest few = (few, refl)
logged_any (Some e) log rest few = logged_one (nat_lt (length log) 32) log rest e refl few

-- a log with two entries more, or fewer
logged_both : (one other : Option Entry) (log rest : List Entry) → length log ≤ 32 → (length (logged (logged log one) other) ≤ 32) × (take 32 (logged (logged log one) other ++ rest) ≡ take 32 (log ++ ((option_to_list one ++ option_to_list other) ++ rest)))
logged_both one other log rest few =
    let x : List Entry = option_to_list one in
    let y : List Entry = option_to_list other in
    let first = logged_any one log (y ++ rest) few in
    let second = logged_any other (logged log one) rest first.0 in
    (second.0, second.1 ∙ first.1 ∙ ap (λ es. take 32 (log ++ es)) (sym (append_assoc x y rest)))

logs_from : (polls : List (Answer × Ask)) (old b : Scripted) → length old.log ≤ 32 → ArePolls old polls b → b.log ≡ take 32 (old.log ++ entries_made old.program.steps old.local old.asked polls)
logs_from [] old b few are = ap (λ (x : Scripted). x.log) are ∙ take_all old.log 32 few
logs_from (p ∷ polls) old b few are =
    let mid = are.0 in
    let step : mid ≡ after_poll p.0 old = are.1.0.1 in
    let steps : List Step = old.program.steps in
    let o : Option Entry = entry_heard old p.0 in
    let after : Local = (next_of old p.0).1 in
    let F : Ask → Type 0 = λ ask. mid.log ≡ logged (logged old.log o) (failure_of ask) in
    let log : F p.1 = subst F (sym are.1.0.0) (ap (λ (x : Scripted). x.log) step) in
    let few_so : length mid.log ≤ 32 = subst (λ (es : List Entry). length es ≤ 32) (sym log) (logged_both o (failure_of p.1) old.log [] few).0 in
    let R : Scripted → Type 0 = λ m. b.log ≡ take 32 (m.log ++ entries_made m.program.steps m.local m.asked polls) in
    let Q : Ask → Type 0 = λ ask. b.log ≡ take 32 (logged (logged old.log o) (failure_of ask) ++ entries_made steps after (Some ask) polls) in
    let so : Q p.1 = subst Q (sym are.1.0.0) (subst R step (logs_from polls mid b few_so are.1.1)) in
    so ∙ (logged_both o (failure_of p.1) old.log (entries_made steps after (Some p.1) polls) few).1

pub logs_are : LogsAreFirstEntries
logs_are program polls b are = logs_from polls (unpolled program) b (omega arith) are
