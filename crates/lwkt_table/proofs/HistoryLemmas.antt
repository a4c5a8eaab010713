use Rattle.std.proofs.Common.{◌≡◌, ◌≢◌, ℕ, ◌==◌, Bool, cond, List, [], ◌∷◌, ◌++◌, All, flat_map, refl, ap, sym, ◌∙◌, subst, append_assoc, append-nil, eq-eqb, ne_eqb}
use Rattle.std.proofs.lemmas.List.Elements.{All-nil, All-cons, All-head, All-tail, All-append}
use Rattle.std.proofs.lemmas.List.Concat.{flat_map-append}
use Rattle.lwkt_core.specs.declared.events.Event.{Event}
use Rattle.lwkt_table.specs.declared.seats.Deed.{Deed}
use Rattle.lwkt_core.specs.Machine.{Machine}
use Rattle.lwkt_core.specs.Trace.{Run}
use Rattle.lwkt_table.specs.History.{part_by, steps_by, events_by, events_in, steps_in, Passes, AreOthers, AreOwn, IsPastOf, Grows}

-- a deed is another processor's, or this one's
abbrev is_other : ℕ → Deed → Type 0
is_other cpu d = d.cpu.0 ≢ cpu

abbrev is_own : ℕ → Deed → Type 0
is_own cpu d = d.cpu.0 ≡ cpu

-- deeds of others: none, one more, two lists, and the parts of a list
pub others-nil : (cpu : ℕ) → AreOthers cpu []
others-nil cpu = All-nil (is_other cpu)

pub others-cons : (cpu : ℕ) (d : Deed) (deeds : List Deed) → d.cpu.0 ≢ cpu → AreOthers cpu deeds → AreOthers cpu (d ∷ deeds)
others-cons cpu d deeds other others = All-cons (is_other cpu) d deeds other others

pub others-append : (cpu : ℕ) (xs ys : List Deed) → AreOthers cpu xs → AreOthers cpu ys → AreOthers cpu (xs ++ ys)
others-append cpu xs ys front rest = All-append (is_other cpu) xs ys front rest

pub others-snoc : (cpu : ℕ) (xs : List Deed) (d : Deed) → AreOthers cpu xs → d.cpu.0 ≢ cpu → AreOthers cpu (xs ++ d ∷ [])
others-snoc cpu xs d front other = others-append cpu xs (d ∷ []) front (others-cons cpu d [] other (others-nil cpu))

pub others-left : (cpu : ℕ) (xs ys : List Deed) → AreOthers cpu (xs ++ ys) → AreOthers cpu xs
others-left cpu [] ys all = others-nil cpu
others-left cpu (x ∷ xs) ys all = others-cons cpu x xs (All-head (is_other cpu) x (xs ++ ys) all) (others-left cpu xs ys (All-tail (is_other cpu) x (xs ++ ys) all))

pub others-right : (cpu : ℕ) (xs ys : List Deed) → AreOthers cpu (xs ++ ys) → AreOthers cpu ys
others-right cpu [] ys all = all
others-right cpu (x ∷ xs) ys all = others-right cpu xs ys (All-tail (is_other cpu) x (xs ++ ys) all)

-- deeds of one processor: none, and one more
pub own-nil : (cpu : ℕ) → AreOwn cpu []
own-nil cpu = All-nil (is_own cpu)

pub own-cons : (cpu : ℕ) (d : Deed) (deeds : List Deed) → d.cpu.0 ≡ cpu → AreOwn cpu deeds → AreOwn cpu (d ∷ deeds)
own-cons cpu d deeds own owns = All-cons (is_own cpu) d deeds own owns

pub own-append : (cpu : ℕ) (xs ys : List Deed) → AreOwn cpu xs → AreOwn cpu ys → AreOwn cpu (xs ++ ys)
own-append cpu xs ys front rest = All-append (is_own cpu) xs ys front rest

-- a processor's part: of two lists, of others' deeds, of its own deeds
module _ {A : Type 0} (cpu : ℕ) (f : Deed → List A) where
  abbrev of_one : Deed → List A
  of_one d = cond (d.cpu.0 == cpu) (f d) []

  pub part_by-append : (xs ys : List Deed) → part_by cpu f (xs ++ ys) ≡ part_by cpu f xs ++ part_by cpu f ys
  part_by-append xs ys = flat_map-append of_one xs ys

  pub part_by-others : (deeds : List Deed) → AreOthers cpu deeds → part_by cpu f deeds ≡ []
  part_by-others [] others = refl
  part_by-others (d ∷ deeds) others =
      let other = All-head (is_other cpu) d deeds others in
      ap (λ (b : Bool). cond b (f d) [] ++ part_by cpu f deeds) (ne_eqb d.cpu.0 cpu other) ∙ part_by-others deeds (All-tail (is_other cpu) d deeds others)

  pub part_by-own : (deeds : List Deed) → AreOwn cpu deeds → part_by cpu f deeds ≡ flat_map f deeds
  part_by-own [] owns = refl
  part_by-own (d ∷ deeds) owns =
      let own = All-head (is_own cpu) d deeds owns in
      ap (λ (b : Bool). cond b (f d) [] ++ part_by cpu f deeds) (eq-eqb d.cpu.0 cpu own) ∙ ap (λ rest. f d ++ rest) (part_by-own deeds (All-tail (is_own cpu) d deeds owns))

  -- after a deed of its own, with what others did between
  pub part_by-noted : (past between : List Deed) (d : Deed) → AreOthers cpu between → d.cpu.0 ≡ cpu → part_by cpu f (past ++ (between ++ d ∷ [])) ≡ part_by cpu f past ++ f d
  part_by-noted past between d others own =
      part_by-append past (between ++ d ∷ [])
      ∙ ap (λ l. part_by cpu f past ++ l) (part_by-append between (d ∷ [])
      ∙ ap (λ l. l ++ part_by cpu f (d ∷ [])) (part_by-others between others)
      ∙ part_by-own (d ∷ []) (own-cons cpu d [] own (own-nil cpu))
      ∙ append-nil (f d))

  -- after some deeds of its own
  pub part_by-grows : (past deeds later : List Deed) → Grows cpu past deeds later → AreOwn cpu deeds → part_by cpu f later ≡ part_by cpu f past ++ flat_map f deeds
  part_by-grows past [] later grows owns = ap (part_by cpu f) grows ∙ sym (append-nil (part_by cpu f past))
  part_by-grows past (d ∷ deeds) later grows owns =
      part_by-grows (past ++ (grows.0 ++ d ∷ [])) deeds later grows.1.1 (All-tail (is_own cpu) d deeds owns)
      ∙ ap (λ l. l ++ flat_map f deeds) (part_by-noted past grows.0 d grows.1.0 (All-head (is_own cpu) d deeds owns))
      ∙ append_assoc (part_by cpu f past) (f d) (flat_map f deeds)

  -- what a processor has seen of a history has all of its part
  pub part_by-past : (history past : List Deed) → IsPastOf history cpu past → part_by cpu f history ≡ part_by cpu f past
  part_by-past history past is =
      ap (part_by cpu f) is.1.0 ∙ part_by-append past is.0 ∙ ap (λ l. part_by cpu f past ++ l) (part_by-others is.0 is.1.1) ∙ append-nil (part_by cpu f past)

-- events and steps on words of two histories, one behind the other
pub events_in-append : (xs ys : List Deed) → events_in (xs ++ ys) ≡ events_in xs ++ events_in ys
events_in-append xs ys = flat_map-append (λ (d : Deed). d.events) xs ys

pub steps_in-append : (xs ys : List Deed) → steps_in (xs ++ ys) ≡ steps_in xs ++ steps_in ys
steps_in-append xs ys = flat_map-append (λ (d : Deed). d.steps) xs ys

pub steps_by-grows : (cpu : ℕ) (past deeds later : List Deed) → Grows cpu past deeds later → AreOwn cpu deeds → steps_by cpu later ≡ steps_by cpu past ++ steps_in deeds
steps_by-grows cpu past deeds later grows owns = part_by-grows cpu (λ (d : Deed). d.steps) past deeds later grows owns

pub events_by-grows : (cpu : ℕ) (past deeds later : List Deed) → Grows cpu past deeds later → AreOwn cpu deeds → events_by cpu later ≡ events_by cpu past ++ events_in deeds
events_by-grows cpu past deeds later grows owns = part_by-grows cpu (λ (d : Deed). d.events) past deeds later grows owns

pub steps_by-past : (history : List Deed) (cpu : ℕ) (past : List Deed) → IsPastOf history cpu past → steps_by cpu history ≡ steps_by cpu past
steps_by-past history cpu past is = part_by-past cpu (λ (d : Deed). d.steps) history past is

pub events_by-past : (history : List Deed) (cpu : ℕ) (past : List Deed) → IsPastOf history cpu past → events_by cpu history ≡ events_by cpu past
events_by-past history cpu past is = part_by-past cpu (λ (d : Deed). d.events) history past is

-- what a processor has seen grows by some deeds and then by others
pub Grows-append : (cpu : ℕ) (a xs b ys c : List Deed) → Grows cpu a xs b → Grows cpu b ys c → Grows cpu a (xs ++ ys) c
Grows-append cpu a [] b ys c one two = subst (λ (l : List Deed). Grows cpu l ys c) one two
Grows-append cpu a (x ∷ xs) b ys c one two = (one.0, (one.1.0, Grows-append cpu (a ++ (one.0 ++ x ∷ [])) xs b ys c one.1.1 two))

-- what had been seen stays a front of what is seen
pub Grows-front : (cpu : ℕ) (past deeds later : List Deed) → Grows cpu past deeds later → (more : List Deed) × (later ≡ past ++ more)
Grows-front cpu past [] later grows = ([], grows ∙ sym (append-nil past))
Grows-front cpu past (d ∷ deeds) later grows =
    let front = Grows-front cpu (past ++ (grows.0 ++ d ∷ [])) deeds later grows.1.1 in
    ((grows.0 ++ d ∷ []) ++ front.0, front.1 ∙ append_assoc past (grows.0 ++ d ∷ []) front.0)

-- a run of two lists of events
pub Run-append : (m : Machine) (xs ys : List Event) (k n : Machine) → Run m xs k → Run k ys n → Run m (xs ++ ys) n
Run-append m [] ys k n one two = subst (λ (x : Machine). Run x ys n) one two
Run-append m (x ∷ xs) ys k n one two = (one.0, (one.1.0, Run-append one.0 xs ys k n one.1.1 two))

-- deeds done one after another: one more, two lists, the parts of a list
module _ {S : Type 0} (Done : S → Deed → S → Type 0) where
  pub Passes-snoc : (m : S) (deeds : List Deed) (n : S) (d : Deed) (k : S) → Passes Done m deeds n → Done n d k → Passes Done m (deeds ++ d ∷ []) k
  Passes-snoc m [] n d k passes done = (k, (subst (λ (x : S). Done x d k) passes done, refl))
  Passes-snoc m (x ∷ xs) n d k passes done = (passes.0, (passes.1.0, Passes-snoc passes.0 xs n d k passes.1.1 done))

  pub Passes-append : (m : S) (xs ys : List Deed) (k n : S) → Passes Done m xs k → Passes Done k ys n → Passes Done m (xs ++ ys) n
  Passes-append m [] ys k n one two = subst (λ (x : S). Passes Done x ys n) one two
  Passes-append m (x ∷ xs) ys k n one two = (one.0, (one.1.0, Passes-append one.0 xs ys k n one.1.1 two))

  pub Passes-split : (m : S) (xs ys : List Deed) (n : S) → Passes Done m (xs ++ ys) n → (k : S) × (Passes Done m xs k × Passes Done k ys n)
  Passes-split m [] ys n passes = (m, (refl, passes))
  Passes-split m (x ∷ xs) ys n passes =
      let rest = Passes-split passes.0 xs ys n passes.1.1 in
      (rest.0, ((passes.0, (passes.1.0, rest.1.0)), rest.1.1))

  -- deeds that decide what they leave lead from one state to one state
  pub Passes-same : ((m : S) (d : Deed) (n k : S) → Done m d n → Done m d k → n ≡ k) → (m : S) (deeds : List Deed) (n k : S) → Passes Done m deeds n → Passes Done m deeds k → n ≡ k
  Passes-same decides m [] n k one two = one ∙ sym two
  Passes-same decides m (d ∷ deeds) n k one two =
      let same : one.0 ≡ two.0 = decides m d one.0 two.0 one.1.0 two.1.0 in
      Passes-same decides two.0 deeds n k (subst (λ (x : S). Passes Done x deeds n) same one.1.1) two.1.1

  -- what each deed keeps is kept
  pub Passes-kept : (P : S → Type 0) → ((m : S) (d : Deed) (n : S) → Done m d n → P m → P n) → (m : S) (deeds : List Deed) (n : S) → Passes Done m deeds n → P m → P n
  Passes-kept P keeps m [] n passes p = subst P (sym passes) p
  Passes-kept P keeps m (d ∷ deeds) n passes p = Passes-kept P keeps passes.0 deeds n passes.1.1 (keeps m d passes.0 passes.1.0 p)

  -- what is so of each deed that is done
  pub Passes-each : (P : Deed → Type 0) → ((m : S) (d : Deed) (n : S) → Done m d n → P d) → (m : S) (deeds : List Deed) (n : S) → Passes Done m deeds n → All P deeds
  Passes-each P is m [] n passes = All-nil P
  Passes-each P is m (d ∷ deeds) n passes = All-cons P d deeds (is m d passes.0 passes.1.0) (Passes-each P is passes.0 deeds n passes.1.1)

  -- where each deed is a run of its events, the events of all deeds are one run
  pub Passes-run : (model : S → Machine) → ((m : S) (d : Deed) (n : S) → Done m d n → Run (model m) d.events (model n)) → (m : S) (deeds : List Deed) (n : S) → Passes Done m deeds n → Run (model m) (events_in deeds) (model n)
  Passes-run model runs m [] n passes = ap model passes
  Passes-run model runs m (d ∷ deeds) n passes =
      Run-append (model m) d.events (events_in deeds) (model passes.0) (model n) (runs m d passes.0 passes.1.0) (Passes-run model runs passes.0 deeds n passes.1.1)
