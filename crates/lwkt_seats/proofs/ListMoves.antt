-- How lists of references are taken, and how references are given back.
use Rattle.std.proofs.Common.{◌≡◌, ◌≢◌, ℕ, zero, suc, ◌+◌, ◌-◌, ◌<◌, ◌≤◌, ⊎_elim, Bool, true, false, cond, eqb, List, [], ◌∷◌, ◌++◌, length, take, get_or, refl, ap, sym, ◌∙◌, subst, arith, inl, inr, eq-eqb}
use Rattle.std.proofs.lemmas.Bool.{eqb-true, eqb-false, cases_Bool, cases_eq, false≢true}
use Rattle.std.specs.Prelude.{All}
use Rattle.std.proofs.lemmas.List.{take_all}
use Rattle.std.proofs.lemmas.List.Elements.{All-get_or}
use Rattle.std.proofs.lemmas.Option.{slice_get-get_or}
use Rattle.std.proofs.lemmas.Grind.{common_steps}
use Rattle.std.proofs.Math.Path.{fun_ext}
use Rattle.lwkt_base.specs.declared.names.Mode.{Mode}
use Rattle.lwkt_base.specs.declared.names.Mode.TheVariants.{Exclusive, Shared}
use Rattle.lwkt_base.specs.declared.names.Ref.{Ref}
use Rattle.lwkt_base.specs.declared.holdings.Held.{Held}
use Rattle.lwkt_base.specs.declared.holdings.Held.TheVariants.{Nothing, Holds}
use Rattle.lwkt_base.specs.Holding.{Holding, is_held, one_more, added, removed, holding_of, holds_nothing, references_in}
use Rattle.lwkt_base.proofs.HoldingLemmas.{holding_of-push, removed-added}
use Rattle.lwkt_table.specs.declared.seats.Deed.{Deed}
use Rattle.lwkt_bank.specs.declared.views.TokenEntry.{TokenEntry}
use Rattle.lwkt_bank.specs.declared.seats.CpuSeat.{CpuSeat}
use Rattle.lwkt_bank.specs.declared.answers.Given.{Given}
use Rattle.lwkt_bank.specs.declared.answers.Given.TheVariants.{One, Clean, Written}
use Rattle.lwkt_bank.specs.Views.{count_from, generation_in, looked, more, taken}
use Rattle.lwkt_bank.specs.Seats.{BankId, bank_of, tokens_of, entry, holding, references, IsCleanIn, Changes, Gave}
use Rattle.lwkt_bank.proofs.HoldMoves.{taking_adds, again_adds, giving_removes, nothing_counts, added_counts}
use Rattle.lwkt_bank.proofs.ChangeMoves.{same_holding}
use Rattle.lwkt_seats.specs.declared.list_answers.Missed.{Missed}
use Rattle.lwkt_seats.specs.declared.list_answers.Missed.TheVariants as missed
use Rattle.lwkt_seats.specs.declared.list_answers.Unlisted.{Unlisted}
use Rattle.lwkt_seats.specs.declared.list_answers.Unlisted.TheVariants as unlisted
use Rattle.lwkt_seats.specs.declared.list_answers.Resumed.{Resumed}
use Rattle.lwkt_seats.specs.declared.list_answers.Resumed.TheVariants as resumed
use Rattle.lwkt_seats.specs.ListNumbers.{unlisted_number, missed_number, resumed_number, NamesNoPlace}
use Rattle.lwkt_seats.specs.Calls.{PutsPlace}
use Rattle.lwkt_seats.specs.Lists.{DoneInTurn, has_only, TakesOne, MissesOne, HoldsClean, GivesUnwritten, TakesAll, TakesUpTo}

-- one thing more is done, and several more
pub chain_more : {A : Type 0} (Does : A → CpuSeat → CpuSeat → Type 0) (xs : List A) (x : A) (a b c : CpuSeat) → DoneInTurn Does xs a b → Does x b c → DoneInTurn Does (xs ++ x ∷ []) a c
chain_more Does [] x a b c chain does = let F : CpuSeat → Type 0 = λ s. Does x s c in (c, (subst F chain does, refl))
chain_more Does (y ∷ ys) x a b c chain does = (chain.0, (chain.1.0, chain_more Does ys x chain.0 b c chain.1.1 does))

pub chain_after : {A : Type 0} (Does : A → CpuSeat → CpuSeat → Type 0) (xs ys : List A) (a b c : CpuSeat) → DoneInTurn Does xs a b → DoneInTurn Does ys b c → DoneInTurn Does (xs ++ ys) a c
chain_after Does [] ys a b c first second = let F : CpuSeat → Type 0 = λ s. DoneInTurn Does ys s c in subst F first second
chain_after Does (x ∷ xs) ys a b c first second = (first.0, (first.1.0, chain_after Does xs ys first.0 b c first.1.1 second))

-- a further reference in any mode
more_in_any_mode : (held : Held) (mode : Mode) → is_held held ≡ true → one_more held Shared ≡ one_more held mode
more_in_any_mode Nothing mode is = cc
more_in_any_mode (Holds first further) mode is = refl

added_if : (b : Bool) (held : Held) (mode : Mode) → (b ≡ true → is_held held ≡ true) → cond b (one_more held Shared) held ≡ cond b (one_more held mode) held
added_if true held mode is = more_in_any_mode held mode (is refl)
added_if false held mode is = refl

added_in_any_mode : (h : Holding) (tok : ℕ) (mode : Mode) → is_held (h tok) ≡ true → added h tok Shared ≡ added h tok mode
added_in_any_mode h tok mode is = fun_ext (λ other. added_if (eqb other tok) (h other) mode (λ here. ap (λ t. is_held (h t)) (eqb-true other tok here) ∙ is))

-- a reference that is taken is one more
pub takes_holding : (refs : List Ref) (r : Ref) (s s' : CpuSeat) → TakesOne refs r s s' → holding s' ≡ added (holding s) r.tok.0 r.mode
takes_holding refs r s s' takes = elim takes [
  | inl further ↦ again_adds s s' r.tok.0 further.1 ∙ added_in_any_mode (holding s) r.tok.0 r.mode further.0
  | inr first ↦ taking_adds s s' r.tok.0 first.1.0 r.mode (has_only refs r.tok.0) first.0 first.1.1
]

pub takes_counted : (refs : List Ref) (r : Ref) (s s' : CpuSeat) → TakesOne refs r s s' → r.tok.0 < tokens_of (bank_of s) → bank_of s' ≡ bank_of s → references s' ≡ references s + 1
takes_counted refs r s s' takes there bank =
    ap (λ (b : BankId). count_from 0 (tokens_of b) (holding s')) bank ∙ ap (λ (h : Holding). count_from 0 (tokens_of (bank_of s)) h) (takes_holding refs r s s' takes) ∙ added_counts (tokens_of (bank_of s)) r.tok.0 (holding s) r.mode there

-- a call that changes one token, whose row and record are the first ones if it is held then
clean_changed : (s s' : CpuSeat) (tok : ℕ) (e : TokenEntry) (deeds : List Deed) → Changes s s' tok e deeds → (is_held e.held ≡ true → IsCleanIn e) → HoldsClean s → HoldsClean s'
clean_changed s s' tok e deeds c here clean other held = elim (cases_Bool (eqb other tok)) [
  | inl is ↦
      let F : ℕ → Type 0 = λ t. is_held (holding s' t) ≡ true → IsCleanIn (entry s' t) in
      let G : TokenEntry → Type 0 = λ d. is_held d.held ≡ true → IsCleanIn d in
      subst F (sym (eqb-true other tok is)) (subst G (sym c.here) here) held
  | inr is ↦
      let G : TokenEntry → Type 0 = λ d. is_held d.held ≡ true → IsCleanIn d in
      subst G (sym (c.else_ other (eqb-false other tok is))) (clean other) held
]

pub takes_clean : (refs : List Ref) (r : Ref) (s s' : CpuSeat) → TakesOne refs r s s' → HoldsClean s → HoldsClean s'
takes_clean refs r s s' takes clean = elim takes [
  | inl further ↦ clean_changed s s' r.tok.0 _ _ further.1.changes (λ held. clean r.tok.0 further.0) clean
  | inr first ↦ clean_changed s s' r.tok.0 _ _ first.1.1.changes (λ held. (refl, refl)) clean
]

-- a look leaves what is held
seen_held : (b : Bool) (e : TokenEntry) (g : ℕ) → (cond b e (record e { generation = g; known = []; known_blob = [] })).held ≡ e.held
seen_held true e g = refl
seen_held false e g = refl

pub looked_held : (e : TokenEntry) (word : ℕ) → (looked e word).held ≡ e.held
looked_held e word = seen_held (eqb e.generation (generation_in word)) e (generation_in word)

-- a missed reference changes nothing that is held
module _ (s s' : CpuSeat) (tok : ℕ) (free : holding s tok ≡ Nothing) where
  free_clean : (e : TokenEntry) (deeds : List Deed) → Changes s s' tok e deeds → e.held ≡ holding s tok → HoldsClean s → HoldsClean s'
  free_clean e deeds c same clean = clean_changed s s' tok e deeds c (λ held. absurd (false≢true (sym (ap is_held (same ∙ free)) ∙ held))) clean

pub misses_holding : (refs : List Ref) (r : Ref) (s s' : CpuSeat) (why : Missed) → MissesOne refs r s s' why → holding s' ≡ holding s
misses_holding refs r s s' missed.Busy misses = same_holding s s' r.tok.0 _ _ misses.1.1.1.changes (looked_held (entry s r.tok.0) misses.1.0)
misses_holding refs r s s' missed.Again misses = same_holding s s' r.tok.0 _ _ misses.1.changes (looked_held (looked (entry s r.tok.0) misses.1.word) misses.1.found ∙ looked_held (entry s r.tok.0) misses.1.word)
misses_holding refs r s s' missed.Worn misses = same_holding s s' r.tok.0 _ _ misses.1.1.1.changes (looked_held (entry s r.tok.0) misses.1.0)

pub misses_clean : (refs : List Ref) (r : Ref) (s s' : CpuSeat) (why : Missed) → MissesOne refs r s s' why → HoldsClean s → HoldsClean s'
misses_clean refs r s s' missed.Busy misses clean = free_clean s s' r.tok.0 misses.0 _ _ misses.1.1.1.changes (looked_held (entry s r.tok.0) misses.1.0) clean
misses_clean refs r s s' missed.Again misses clean =
    free_clean s s' r.tok.0 misses.0 _ _ misses.1.changes (looked_held (looked (entry s r.tok.0) misses.1.word) misses.1.found ∙ looked_held (entry s r.tok.0) misses.1.word) clean
misses_clean refs r s s' missed.Worn misses clean = free_clean s s' r.tok.0 misses.0 _ _ misses.1.1.1.changes (looked_held (entry s r.tok.0) misses.1.0) clean

-- a reference that is given back where nothing was written
pub gave_unwritten : (s s' : CpuSeat) (tok : ℕ) (given : Given) → IsCleanIn (entry s tok) → Gave s s' tok given → GivesUnwritten tok s s'
gave_unwritten s s' tok One clean gave = inl gave
gave_unwritten s s' tok Clean clean gave = inr gave
gave_unwritten s s' tok (Written section) clean gave = absurd (gave.1 clean)

pub gives_holding : (s s' : CpuSeat) (tok : ℕ) → GivesUnwritten tok s s' → holding s' ≡ removed (holding s) tok
gives_holding s s' tok gives = elim gives [ inl one ↦ giving_removes s s' tok One one | inr ended ↦ giving_removes s s' tok Clean ended ]

pub gives_clean : (s s' : CpuSeat) (tok : ℕ) → is_held (holding s tok) ≡ true → GivesUnwritten tok s s' → HoldsClean s → HoldsClean s'
gives_clean s s' tok held gives clean = elim gives [
  | inl one ↦ clean_changed s s' tok _ _ one.1.changes (λ still. clean tok held) clean
  | inr ended ↦ clean_changed s s' tok _ _ ended.2.changes (λ still. clean tok held) clean
]

-- the front of a list with one reference more, and what it holds
pub front_more : (refs : List Ref) (i : ℕ) (d : Ref) → i < length refs → take (i + 1) refs ≡ take i refs ++ (get_or refs i d ∷ [])
front_more refs i d within = grind (arith, common_steps)

pub front_holds : (refs : List Ref) (i : ℕ) (d : Ref) → i < length refs → holding_of (take (i + 1) refs) ≡ added (holding_of (take i refs)) (get_or refs i d).tok.0 (get_or refs i d).mode
front_holds refs i d within = ap holding_of (front_more refs i d within) ∙ holding_of-push (take i refs) (get_or refs i d)

-- what a slice is read with past its end
abbrev pub unused : Ref
unused = record { tok = record { 0 = 0 }; mode = Exclusive }

more_here : (h : Holding) (tok : ℕ) (mode : Mode) → added h tok mode tok ≡ one_more (h tok) mode
more_here h tok mode = ap (λ b. cond b (one_more (h tok) mode) (h tok)) (eq-eqb tok tok refl)

held_more : (held : Held) (mode : Mode) → is_held (one_more held mode) ≡ true
held_more Nothing mode = refl
held_more (Holds first further) mode = refl

-- so many first references are held, of which so many were given back
module _ (s : CpuSeat) (refs : List Ref) (count given : ℕ) (more : given < count) (within : count ≤ length refs) (front : holding s ≡ holding_of (take (count - given) refs)) where
  back_front : holding s ≡ added (holding_of (take (count - 1 - given) refs)) (get_or refs (count - 1 - given) unused).tok.0 (get_or refs (count - 1 - given) unused).mode
  back_front =
      let e : count - given ≡ (count - 1 - given) + 1 = omega arith in
      let inside : count - 1 - given < length refs = omega arith in
      front ∙ ap (λ n. holding_of (take n refs)) e ∙ front_holds refs (count - 1 - given) unused inside

  pub back_held : is_held (holding s (get_or refs (count - 1 - given) unused).tok.0) ≡ true
  back_held =
      let r = get_or refs (count - 1 - given) unused in
      let h = holding_of (take (count - 1 - given) refs) in
      ap (λ x. is_held (x r.tok.0)) back_front ∙ ap is_held (more_here h r.tok.0 r.mode) ∙ held_more (h r.tok.0) r.mode

  pub back_removed : removed (holding s) (get_or refs (count - 1 - given) unused).tok.0 ≡ holding_of (take (count - (given + 1)) refs)
  back_removed =
      let r = get_or refs (count - 1 - given) unused in
      let e : count - 1 - given ≡ count - (given + 1) = omega arith in
      ap (λ x. removed x r.tok.0) back_front ∙ removed-added (holding_of (take (count - 1 - given) refs)) r.tok.0 r.mode ∙ ap (λ n. holding_of (take n refs)) e

-- a seat that holds nothing has no reference, and nothing is written by it
pub idle_counts : (s : CpuSeat) → holding s ≡ holds_nothing → references s ≡ 0
idle_counts s idle = ap (λ (h : Holding). count_from 0 (tokens_of (bank_of s)) h) idle ∙ nothing_counts (tokens_of (bank_of s))

pub idle_clean : (s : CpuSeat) → holding s ≡ holds_nothing → HoldsClean s
idle_clean s idle tok held = absurd (false≢true (sym (ap (λ (h : Holding). is_held (h tok)) idle) ∙ held))

-- one reference more of a list is taken, all of it is, and one of it is missed
pub chain_front : {A : Type 0} (Does : A → CpuSeat → CpuSeat → Type 0) (xs : List A) (i : ℕ) (x : A) (a b c : CpuSeat) → take (i + 1) xs ≡ take i xs ++ (x ∷ []) → DoneInTurn Does (take i xs) a b → Does x b c → DoneInTurn Does (take (i + 1) xs) a c
chain_front {A} Does xs i x a b c is chain does = let F : List A → Type 0 = λ ys. DoneInTurn Does ys a c in subst F (sym is) (chain_more Does (take i xs) x a b c chain does)

pub takes_whole : (refs : List Ref) (at : ℕ) (s s' : CpuSeat) → length refs ≤ at → DoneInTurn (TakesOne refs) (take at refs) s s' → holding s' ≡ holding_of (take at refs) → TakesAll refs s s'
takes_whole refs at s s' end chain front =
    let is : take at refs ≡ refs = take_all at refs end in
    let F : List Ref → Type 0 = λ xs. DoneInTurn (TakesOne refs) xs s s' in
    (subst F is chain, front ∙ ap holding_of is)

pub takes_up_to : (refs : List Ref) (at : ℕ) (why : Missed) (s taken s' : CpuSeat) → at < length refs → DoneInTurn (TakesOne refs) (take at refs) s taken → MissesOne refs (get_or refs at unused) taken s' why → TakesUpTo refs at why s s'
takes_up_to refs at why s taken s' within chain misses = rw (slice_get-get_or refs at unused within) (taken, (chain, misses))

pub token_there : (tokens : ℕ) (refs : List Ref) (at : ℕ) → at < length refs → All (λ r. r.tok.0 < tokens) refs → (get_or refs at unused).tok.0 < tokens
token_there tokens refs at within all = All-get_or (λ (r : Ref). r.tok.0 < tokens) refs at unused within all

no_references : (held : Held) → references_in held ≡ 0 → held ≡ Nothing
no_references Nothing is = refl
no_references (Holds mode further) is = absurd (omega arith)

-- a seat with no reference to a token that is there holds nothing
counts_none : (n k tok : ℕ) (h : Holding) → count_from k n h ≡ 0 → k ≤ tok → tok < k + n → h tok ≡ Nothing
counts_none zero k tok h none low high = absurd (omega arith)
counts_none (suc n) k tok h none low high = ⊎_elim
    (λ (same : k ≡ tok). subst (λ (j : ℕ). h j ≡ Nothing) same (no_references (h k) (omega arith)))
    (λ away. counts_none n (suc k) tok h (omega arith) (omega arith) (omega arith))
    (cases_eq k tok)

pub not_held : (held : Held) → is_held held ≡ false → held ≡ Nothing
not_held Nothing is = refl
not_held (Holds mode further) is = cc

pub counts_idle : (s : CpuSeat) → ((tok : ℕ) → is_held (holding s tok) ≡ true → tok < tokens_of (bank_of s)) → references s ≡ 0 → holding s ≡ holds_nothing
counts_idle s within none = fun_ext (λ tok. elim (cases_Bool (is_held (holding s tok))) [
  | inl held ↦ counts_none (tokens_of (bank_of s)) 0 tok (holding s) none (omega arith) (let there = within tok held in omega arith)
  | inr free ↦ not_held (holding s tok) free
])

-- a number apart from those that name no place
far : (n : ℕ) → 0 < n → n ≢ 30 → n < 50 → NamesNoPlace n → ⊥
far n some apart below names = elim names [
  | inl none ↦ absurd (omega (arith, some, none))
  | inr more ↦ elim more [
    | inl seat ↦ apart seat
    | inr last ↦ elim last [
      | inl used ↦ absurd (omega (arith, below, used))
      | inr further ↦ elim further [ inl held ↦ absurd (omega (arith, below, held)) | inr closed ↦ absurd (omega (arith, below, closed)) ]
    ]
  ]
]

unlisted_far : (why : Unlisted) → NamesNoPlace (unlisted_number why) → ⊥
unlisted_far unlisted.NoToken names = far 16 (omega arith) (omega arith) (omega arith) names
unlisted_far unlisted.NoMode names = far 39 (omega arith) (omega arith) (omega arith) names
unlisted_far unlisted.ListFull names = far 10 (omega arith) (omega arith) (omega arith) names
unlisted_far unlisted.Upgrade names = far 11 (omega arith) (omega arith) (omega arith) names

missed_far : (why : Missed) → NamesNoPlace (missed_number why) → ⊥
missed_far missed.Busy names = far 23 (omega arith) (omega arith) (omega arith) names
missed_far missed.Again names = far 34 (omega arith) (omega arith) (omega arith) names
missed_far missed.Worn names = far 20 (omega arith) (omega arith) (omega arith) names

-- with an answer that names no place the caller's stays as it was
pub no_place : (came : Resumed) (before now answer : ℕ) → answer ≡ resumed_number came → PutsPlace came before now → NamesNoPlace answer → now ≡ before
no_place resumed.All before now answer is agrees names = agrees
no_place resumed.Holds before now answer is agrees names = agrees
no_place (resumed.Unlisted at why) before now answer is agrees names = absurd (unlisted_far why (subst NamesNoPlace is names))
no_place (resumed.Missed at why) before now answer is agrees names = absurd (missed_far why (subst NamesNoPlace is names))
