use Rattle.std.proofs.Common.{◌≡◌, ℕ, ◌+◌, ◌-◌, ◌<◌, ◌≤◌, Bool, true, false, cond, eqb, List, [], ◌∷◌, ◌++◌, length, take, get_or, refl, ap, sym, ◌∙◌, subst, arith, inl, inr, append_assoc, Option, Some}
use Rattle.std.specs.Prelude.{IsSomeAnd, slice_get, Vec}
use Rattle.std.specs.declared.alloc.Global.{Global}
use Rattle.std.proofs.lemmas.Bool.{eqb-true, cases_Bool}
use Rattle.std.proofs.lemmas.List.{append-nil, take_all}
use Rattle.std.proofs.lemmas.Grind.{common_steps}
use Rattle.std.proofs.lemmas.Option.{slice_get-get_or}
use Rattle.lwkt_base.specs.declared.names.CpuId.{CpuId}
use Rattle.lwkt_base.specs.declared.names.TokId.{TokId}
use Rattle.lwkt_base.specs.declared.names.Mode.TheVariants.{Exclusive, Shared}
use Rattle.lwkt_base.specs.declared.names.Ref.{Ref}
use Rattle.lwkt_base.specs.declared.holdings.Held.{Held}
use Rattle.lwkt_base.specs.declared.holdings.Held.TheVariants.{Nothing, Holds}
use Rattle.lwkt_base.specs.Holding.{Holding, holding_of}
use Rattle.lwkt_core.specs.declared.events.Event.{Event}
use Rattle.lwkt_core.specs.declared.events.Event.TheVariants.{Again, GiveOne, GiveClean, GiveWritten}
use Rattle.lwkt_bank.specs.declared.seats.CpuSeat.{CpuSeat}
use Rattle.lwkt_bank.specs.Seats.{bank_of, holding}
use Rattle.lwkt_hold.specs.declared.answers.Missed.{Missed}
use Rattle.lwkt_hold.specs.declared.answers.Resumed.{Resumed}
use Rattle.lwkt_hold.specs.declared.answers.Resumed.TheVariants.{All, Passed}
use Rattle.lwkt_base.specs.Refs.{names}
use Rattle.lwkt_core.specs.Takings.{taking, taking_event, takes_all}
use Rattle.lwkt_hold.specs.Rows.{IsUnwritten, section_now, MeetsItsLaw, SameSection, Mends}
use Rattle.lwkt_hold.proofs.GiveMoves.{same_law, section_same, restores_same, restores_before}
use Rattle.lwkt_hold.specs.Givings.{gives, gives_all, GivesBy, RestoresBy, Releases, ReleasesAll}

-- the first few references of a list and the one behind them
pub take_one_more : (refs : List Ref) (i : ℕ) (d : Ref) → i < length refs → take (i + 1) refs ≡ take i refs ++ (get_or refs i d ∷ [])
take_one_more refs i d within = grind (arith, common_steps)

choice_true : (b : Bool) (x y : Event) → b ≡ true → x ≡ cond b x y
choice_true true x y is = refl
choice_true false x y is = cc

choice_false : (b : Bool) (x y : Event) → b ≡ false → y ≡ cond b x y
choice_false true x y is = cc
choice_false false x y is = refl

-- a further reference, and a first one, are taken by their event
pub again_traced : (refs : List Ref) (at : ℕ) (d : Ref) (cpu mine : CpuId) (t u : Vec Event Global) → at < length refs → names (take at refs) (get_or refs at d).tok.0 ≡ true → mine ≡ cpu → u.items ≡ t.items ++ Again mine (get_or refs at d).tok ∷ [] → IsSomeAnd (slice_get refs at) (λ r. u.items ≡ t.items ++ taking_event cpu (take at refs) r ∷ [])
again_traced refs at d cpu mine t u within named same pushed =
    let r = get_or refs at d in
    let F : Option Ref → Type 0 = λ o. IsSomeAnd o (λ x. u.items ≡ t.items ++ taking_event cpu (take at refs) x ∷ []) in
    subst F (sym (slice_get-get_or refs at d within)) (pushed ∙ ap (λ c. t.items ++ Again c r.tok ∷ []) same ∙ ap (λ e. t.items ++ e ∷ []) (choice_true (names (take at refs) r.tok.0) (Again cpu r.tok) (taking cpu r.tok r.mode) named))

pub first_traced : (refs : List Ref) (at : ℕ) (d : Ref) (cpu mine : CpuId) (event : Event) (t u : Vec Event Global) → at < length refs → names (take at refs) (get_or refs at d).tok.0 ≡ false → mine ≡ cpu → event ≡ taking mine (get_or refs at d).tok (get_or refs at d).mode → u.items ≡ t.items ++ event ∷ [] → IsSomeAnd (slice_get refs at) (λ r. u.items ≡ t.items ++ taking_event cpu (take at refs) r ∷ [])
first_traced refs at d cpu mine event t u within free same is pushed =
    let r = get_or refs at d in
    let F : Option Ref → Type 0 = λ o. IsSomeAnd o (λ x. u.items ≡ t.items ++ taking_event cpu (take at refs) x ∷ []) in
    subst F (sym (slice_get-get_or refs at d within)) (pushed ∙ ap (λ e. t.items ++ e ∷ []) (is ∙ ap (λ c. taking c r.tok r.mode) same ∙ choice_false (names (take at refs) r.tok.0) (Again cpu r.tok) (taking cpu r.tok r.mode) free))

-- what the event of a place says, at that place's reference
pub traced_at : (refs : List Ref) (at : ℕ) (d : Ref) (cpu : CpuId) (xs ys : List Event) → at < length refs → IsSomeAnd (slice_get refs at) (λ r. ys ≡ xs ++ taking_event cpu (take at refs) r ∷ []) → ys ≡ xs ++ taking_event cpu (take at refs) (get_or refs at d) ∷ []
traced_at refs at d cpu xs ys within traced =
    let F : Option Ref → Type 0 = λ o. IsSomeAnd o (λ x. ys ≡ xs ++ taking_event cpu (take at refs) x ∷ []) in
    subst F (slice_get-get_or refs at d within) traced

-- one reference more is taken last
takes_snoc : (cpu : CpuId) (front refs : List Ref) (r : Ref) → takes_all cpu front (refs ++ r ∷ []) ≡ takes_all cpu front refs ++ taking_event cpu (front ++ refs) r ∷ []
takes_snoc cpu front [] r = ap (λ (xs : List Ref). taking_event cpu xs r ∷ []) (sym (append-nil front))
takes_snoc cpu front (x ∷ refs) r =
    ap (λ es. taking_event cpu front x ∷ es) (takes_snoc cpu (front ++ x ∷ []) refs r ∙ ap (λ (xs : List Ref). takes_all cpu (front ++ x ∷ []) refs ++ taking_event cpu xs r ∷ []) (append_assoc front (x ∷ []) refs))

-- the events so far, and that of one reference more
pub takes_more : (refs : List Ref) (at : ℕ) (d : Ref) (cpu same : CpuId) (t u v : List Event) → at < length refs → same ≡ cpu → u ≡ t ++ takes_all cpu [] (take at refs) → IsSomeAnd (slice_get refs at) (λ r. v ≡ u ++ taking_event same (take at refs) r ∷ []) → v ≡ t ++ takes_all cpu [] (take (at + 1) refs)
takes_more refs at d cpu same t u v within mine before traced =
    let r = get_or refs at d in
    traced_at refs at d same u v within traced
    ∙ ap (λ c. u ++ taking_event c (take at refs) r ∷ []) mine
    ∙ ap (λ xs. xs ++ taking_event cpu (take at refs) r ∷ []) before
    ∙ append_assoc t (takes_all cpu [] (take at refs)) (taking_event cpu (take at refs) r ∷ [])
    ∙ ap (λ xs. t ++ xs) (sym (takes_snoc cpu [] (take at refs) r))
    ∙ ap (λ xs. t ++ takes_all cpu [] xs) (sym (take_one_more refs at d within))

-- all references were taken
pub taken_all : (refs list : List Ref) (at : ℕ) (cpu : CpuId) (t u : List Event) → refs ≡ list → length refs ≤ at → u ≡ t ++ takes_all cpu [] (take at refs) → ◌≡◌ {A = Resumed} All All → u ≡ t ++ takes_all cpu [] list
taken_all refs list at cpu t u same done traced is = traced ∙ ap (λ xs. t ++ takes_all cpu [] xs) (take_all at refs done ∙ same)

-- so many were taken, and given back
same_place : (p q : ℕ) (why other : Missed) → ◌≡◌ {A = Resumed} (Passed p why) (Passed q other) → p ≡ q
same_place p q why other is = cc

pub passed_as : (refs list : List Ref) (at : ℕ) (why : Missed) (cpu mine : CpuId) (t u v w : List Event) → refs ≡ list → mine ≡ cpu → u ≡ t ++ takes_all cpu [] (take at refs) → v ≡ u → w ≡ v ++ gives_all mine [] (take at refs) → (place : ℕ) (other : Missed) → ◌≡◌ {A = Resumed} (Passed at why) (Passed place other) → w ≡ t ++ (takes_all cpu [] (take place list) ++ gives_all cpu [] (take place list))
passed_as refs list at why cpu mine t u v w same is taken silent given place other answer =
    let F : ℕ → Type 0 = λ n. w ≡ t ++ (takes_all cpu [] (take n list) ++ gives_all cpu [] (take n list)) in
    let G : List Ref → Type 0 = λ xs. w ≡ t ++ (takes_all cpu [] (take at xs) ++ gives_all cpu [] (take at xs)) in
    subst F (same_place at place why other answer)
    (subst G same (
    given
    ∙ ap (λ c. v ++ gives_all c [] (take at refs)) is
    ∙ ap (λ xs. xs ++ gives_all cpu [] (take at refs)) (silent ∙ taken)
    ∙ append_assoc t (takes_all cpu [] (take at refs)) (gives_all cpu [] (take at refs))
    ))

-- one reference more is given back first
gives_snoc : (cpu : CpuId) (front refs : List Ref) (r : Ref) → gives_all cpu front (refs ++ r ∷ []) ≡ gives cpu r.tok (holding_of ((front ++ refs) ++ r ∷ []) r.tok.0) ∷ gives_all cpu front refs
gives_snoc cpu front [] r = ap (λ (xs : List Ref). gives cpu r.tok (holding_of (xs ++ r ∷ []) r.tok.0) ∷ []) (sym (append-nil front))
gives_snoc cpu front (x ∷ refs) r =
    ap (λ es. es ++ gives cpu x.tok (holding_of (front ++ x ∷ []) x.tok.0) ∷ [])
    (gives_snoc cpu (front ++ x ∷ []) refs r ∙ ap (λ (xs : List Ref). gives cpu r.tok (holding_of (xs ++ r ∷ []) r.tok.0) ∷ gives_all cpu (front ++ x ∷ []) refs) (append_assoc front (x ∷ []) refs))

-- the event of giving one back, where row and record are the first ones
one_if : (b : Bool) (cpu : CpuId) (tok : TokId) → (b ≡ true → ⊥) → GiveOne cpu tok ≡ cond b (GiveClean cpu tok) (GiveOne cpu tok)
one_if true cpu tok apart = absurd (apart refl)
one_if false cpu tok apart = refl

gives_one : (cpu : CpuId) (tok : TokId) (held : Held) → (held ≡ Holds Exclusive 0 → ⊥) → GiveOne cpu tok ≡ gives cpu tok held
gives_one cpu tok Nothing apart = refl
gives_one cpu tok (Holds Shared further) apart = refl
gives_one cpu tok (Holds Exclusive further) apart = one_if (eqb further 0) cpu tok (λ is. apart (ap (λ n. Holds Exclusive n) (eqb-true further 0 is)))

pub gives_clean : (s : CpuSeat) (tok : TokId) (event : Event) → IsUnwritten s tok.0 → GivesBy s tok event → event ≡ gives s.cpu tok (holding s tok.0)
gives_clean s tok event same by = elim by [
  | inl one ↦ one.1 ∙ gives_one s.cpu tok (holding s tok.0) one.0
  | inr end ↦ elim end [
    | inl clean ↦ clean.2 ∙ sym (ap (λ held. gives s.cpu tok held) clean.0)
    | inr written ↦ absurd (written.1 same)
  ]
]

-- the events so far, and those to come, where one reference more was given back
pub gives_more : (refs : List Ref) (count given : ℕ) (d : Ref) (cpu same : CpuId) (h : Holding) (event : Event) (t u v : List Event) → given < count → count ≤ length refs → same ≡ cpu → h ≡ holding_of (take (count - given) refs) → event ≡ gives same (get_or refs (count - 1 - given) d).tok (h (get_or refs (count - 1 - given) d).tok.0) → u ++ gives_all cpu [] (take (count - given) refs) ≡ t ++ gives_all cpu [] (take count refs) → v ≡ u ++ event ∷ [] → v ++ gives_all cpu [] (take (count - (given + 1)) refs) ≡ t ++ gives_all cpu [] (take count refs)
gives_more refs count given d cpu same h event t u v more within mine front is before pushed =
    let n = count - 1 - given in
    let r = get_or refs n d in
    let here : count - given ≡ n + 1 = omega arith in
    let next : count - (given + 1) ≡ n = omega arith in
    let inside : n < length refs = omega arith in
    let list : take (count - given) refs ≡ take n refs ++ r ∷ [] = ap (λ k. take k refs) here ∙ take_one_more refs n d inside in
    let rest = gives_all cpu [] (take n refs) in
    let which : event ≡ gives cpu r.tok (holding_of (take n refs ++ r ∷ []) r.tok.0) = is ∙ ap (λ c. gives c r.tok (h r.tok.0)) mine ∙ ap (λ (k : Holding). gives cpu r.tok (k r.tok.0)) (front ∙ ap holding_of list) in
    ap (λ k. v ++ gives_all cpu [] (take k refs)) next
    ∙ ap (λ xs. xs ++ rest) pushed
    ∙ append_assoc u (event ∷ []) rest
    ∙ ap (λ e. u ++ (e ∷ rest)) which
    ∙ ap (λ xs. u ++ xs) (sym (gives_snoc cpu [] (take n refs) r))
    ∙ ap (λ xs. u ++ gives_all cpu [] xs) (sym list)
    ∙ before

-- all references were given back
pub gives_done : (refs : List Ref) (count given : ℕ) (cpu : CpuId) (t u : List Event) → count ≤ given → u ++ gives_all cpu [] (take (count - given) refs) ≡ t ++ gives_all cpu [] (take count refs) → u ≡ t ++ gives_all cpu [] (take count refs)
gives_done refs count given cpu t u done so_far =
    let none : count - given ≡ 0 = omega arith in
    sym (append-nil u) ∙ ap (λ k. u ++ gives_all cpu [] (take k refs)) (sym none) ∙ so_far

-- row and record that are the first ones are so while a section goes on
unwritten_back : (s m : CpuSeat) (tok : ℕ) → SameSection s m tok → IsUnwritten m tok → IsUnwritten s tok
unwritten_back s m tok same is = (sym same.row_is ∙ is.0 ∙ same.first_is, sym same.blob_is ∙ is.1 ∙ same.first_blob_is)

unwritten_on : (s m : CpuSeat) (tok : ℕ) → SameSection s m tok → IsUnwritten s tok → IsUnwritten m tok
unwritten_on s m tok same is = (same.row_is ∙ is.0 ∙ sym same.first_is, same.blob_is ∙ is.1 ∙ sym same.first_blob_is)

-- a reference given back after its section was mended
module _ (s m : CpuSeat) (tok : TokId) (restored : Bool) (t u v : List Event) (event : Event) (kept : holding m ≡ holding s) (bank : bank_of m ≡ bank_of s) (mine : m.cpu ≡ s.cpu) (mends : Mends s m tok.0 restored) (pushed : v ≡ u ++ event ∷ []) (by : GivesBy m tok event) where
  held_same : holding m tok.0 ≡ holding s tok.0
  held_same = ap (λ h. h tok.0) kept

  clean_now : holding s tok.0 ≡ Holds Exclusive 0 → IsUnwritten m tok.0 → event ≡ GiveClean s.cpu tok
  clean_now ends same = elim by [
    | inl one ↦ absurd (one.0 (held_same ∙ ends))
    | inr end ↦ elim end [
      | inl clean ↦ clean.2 ∙ ap (λ c. GiveClean c tok) mine
      | inr written ↦ absurd (written.1 same)
    ]
  ]

  goes_on : restored ≡ false → SameSection s m tok.0
  goes_on is = record { row_is = (mends.no is).0; first_is = mends.first_is; blob_is = mends.no_blob is; first_blob_is = mends.first_blob_is; generation_is = mends.generation_is is; touched_is = mends.touched_is is }

  same_first : restored ≡ false → (IsUnwritten m tok.0 → IsUnwritten s tok.0) × (IsUnwritten s tok.0 → IsUnwritten m tok.0)
  same_first is = (unwritten_back s m tok.0 (goes_on is), unwritten_on s m tok.0 (goes_on is))

  only : restored ≡ false → Releases s (holding s tok.0) tok (event ∷ [])
  only is = elim by [
    | inl one ↦ inl (λ ends. one.0 (held_same ∙ ends), ap (λ e. e ∷ []) (one.1 ∙ ap (λ c. GiveOne c tok) mine))
    | inr end ↦ elim end [
      | inl clean ↦
          let ends : holding s tok.0 ≡ Holds Exclusive 0 = sym held_same ∙ clean.0 in
          inr (inl (ends, (mends.no is).1 ends, (same_first is).0 clean.1, ap (λ e. e ∷ []) (clean.2 ∙ ap (λ c. GiveClean c tok) mine)))
      | inr written ↦
          let ends : holding s tok.0 ≡ Holds Exclusive 0 = sym held_same ∙ written.0 in
          inr (inr (inl (ends, (mends.no is).1 ends, λ e. written.1 ((same_first is).1 e), ap (λ e. e ∷ []) (written.2 ∙ ap (λ c. GiveWritten c tok (section_now m tok)) mine ∙ ap (λ x. GiveWritten s.cpu tok x) (section_same s m tok (goes_on is))))))
    ]
  ]

  unmended : restored ≡ false → u ≡ t → (done : List Event) × ((v ≡ t ++ done) × Releases s (holding s tok.0) tok done)
  unmended is silent = (event ∷ [], (pushed ∙ ap (λ xs. xs ++ event ∷ []) silent, only is))

  mended : restored ≡ true → (stores : List Event) × ((u ≡ t ++ stores) × RestoresBy s tok [] stores) → (done : List Event) × ((v ≡ t ++ done) × Releases s (holding s tok.0) tok done)
  mended is stored =
      let ends = (mends.yes is).1 in
      let last = clean_now ends ((mends.yes is).2 ∙ sym mends.first_is, mends.yes_blob is ∙ sym mends.first_blob_is) in
      let clean = GiveClean s.cpu tok ∷ [] in (
        stored.0 ++ clean,
        (
          pushed ∙ ap (λ e. u ++ e ∷ []) last ∙ ap (λ xs. xs ++ clean) stored.1.0 ∙ append_assoc t stored.0 clean,
          inr (inr (inr (ends, (mends.yes is).0.broken, restores_before s tok clean stored.0 stored.1.1))),
        ),
      )

  pub released : (restored ≡ false → u ≡ t) → (restored ≡ true → (stores : List Event) × ((u ≡ t ++ stores) × RestoresBy s tok [] stores)) → (done : List Event) × ((v ≡ t ++ done) × Releases s (holding s tok.0) tok done)
  released silent stored = elim (cases_Bool restored) [
    | inl is ↦ mended is (stored is)
    | inr is ↦ unmended is (silent is)
  ]

-- the events of giving a reference back are the same for a seat whose row and record of the token are the same
pub released_before : (a s : CpuSeat) (tok : TokId) (held : Held) (done : List Event) → bank_of s ≡ bank_of a → s.cpu ≡ a.cpu → SameSection a s tok.0 → Releases s held tok done → Releases a held tok done
released_before a s tok held done bank mine same r = elim r [
  | inl one ↦ inl (one.0, one.1 ∙ ap (λ c. GiveOne c tok ∷ []) mine)
  | inr end ↦ elim end [
    | inl clean ↦ inr (inl (clean.0, back clean.1, unwritten_back a s tok.0 same clean.2, clean.3 ∙ ap (λ c. GiveClean c tok ∷ []) mine))
    | inr more ↦ elim more [
      | inl wrote ↦ inr (inr (inl (wrote.0, back wrote.1, λ is. wrote.2 (unwritten_on a s tok.0 same is), wrote.3 ∙ ap (λ c. GiveWritten c tok (section_now s tok) ∷ []) mine ∙ ap (λ x. GiveWritten a.cpu tok x ∷ []) (section_same a s tok same))))
      | inr restored ↦ inr (inr (inr (restored.0, λ meets. restored.1 (there meets), stores restored.2)))
    ]
  ]
]
  where
    there : MeetsItsLaw a tok.0 → MeetsItsLaw s tok.0
    there meets = same_law a s tok.0 bank same.row_is same.blob_is meets

    back : MeetsItsLaw s tok.0 → MeetsItsLaw a tok.0
    back meets = same_law s a tok.0 (sym bank) (sym same.row_is) (sym same.blob_is) meets

    clean : CpuId → List Event
    clean cpu = GiveClean cpu tok ∷ []

    stores : RestoresBy s tok (clean s.cpu) done → RestoresBy a tok (clean a.cpu) done
    stores x =
        let F : CpuId → Type 0 = λ c. RestoresBy a tok (clean c) done in
        subst F mine (restores_same a s tok (clean s.cpu) done bank mine same x)

-- one reference more is given back before those in front of it
releases_snoc : (s : CpuSeat) (front refs : List Ref) (r : Ref) (own rest : List Event) → Releases s (holding_of ((front ++ refs) ++ r ∷ []) r.tok.0) r.tok own → ReleasesAll s front refs rest → ReleasesAll s front (refs ++ r ∷ []) (own ++ rest)
releases_snoc s front [] r own rest first none =
    let F : List Ref → Type 0 = λ xs. Releases s (holding_of (xs ++ r ∷ []) r.tok.0) r.tok own in
    ([], (own, (refl, subst F (append-nil front) first, ap (λ es. own ++ es) none ∙ append-nil own)))
releases_snoc s front (x ∷ refs) r own rest first more =
    let F : List Ref → Type 0 = λ xs. Releases s (holding_of (xs ++ r ∷ []) r.tok.0) r.tok own in
    let inner = releases_snoc s (front ++ x ∷ []) refs r own more.0 (subst F (sym (append_assoc front (x ∷ []) refs)) first) more.1.1.0 in
    (own ++ more.0, (more.1.0, (inner, more.1.1.1, ap (λ es. own ++ es) more.1.1.2 ∙ sym (append_assoc own more.0 more.1.0))))

-- what is traced so far of giving a list back, whatever comes
abbrev pub GivesSoFar : CpuSeat → List Ref → ℕ → ℕ → List Event → List Event → Type 0
GivesSoFar a refs count left t u = (done : List Event) × ((u ≡ t ++ done) × ((rest : List Event) → ReleasesAll a [] (take left refs) rest → ReleasesAll a [] (take count refs) (done ++ rest)))

pub traced_none : (a : CpuSeat) (refs : List Ref) (count : ℕ) (t : List Event) → GivesSoFar a refs count count t t
traced_none a refs count t = ([], (sym (append-nil t), λ rest all. all))

pub traced_more : (a : CpuSeat) (refs : List Ref) (count left : ℕ) (d : Ref) (t u v own : List Event) → left < length refs → GivesSoFar a refs count (left + 1) t u → v ≡ u ++ own → Releases a (holding_of (take (left + 1) refs) (get_or refs left d).tok.0) (get_or refs left d).tok own → GivesSoFar a refs count left t v
traced_more a refs count left d t u v own within before pushed first =
    let r = get_or refs left d in
    let list = take_one_more refs left d within in
    let F : List Ref → Type 0 = λ xs. Releases a (holding_of xs r.tok.0) r.tok own in
    let G : List Ref → List Event → Type 0 = λ xs es. ReleasesAll a [] xs es in (
      before.0 ++ own,
      (
        pushed ∙ ap (λ xs. xs ++ own) before.1.0 ∙ append_assoc t before.0 own,
        λ rest all.
            let H : List Event → Type 0 = λ es. ReleasesAll a [] (take count refs) es in
            let K : List Ref → Type 0 = λ xs. G xs (own ++ rest) in
            subst H (sym (append_assoc before.0 own rest)) (before.1.1 (own ++ rest) (subst K (sym list) (releases_snoc a [] (take left refs) r own rest (subst F list first) all))),
      ),
    )

pub traced_done : (a : CpuSeat) (refs : List Ref) (count : ℕ) (t u : List Event) → GivesSoFar a refs count 0 t u → (done : List Event) × ((u ≡ t ++ done) × ReleasesAll a [] (take count refs) done)
traced_done a refs count t u traced =
    let F : List Event → Type 0 = λ es. ReleasesAll a [] (take count refs) es in
    (traced.0, (traced.1.0, subst F (append-nil traced.0) (traced.1.1 [] refl)))
