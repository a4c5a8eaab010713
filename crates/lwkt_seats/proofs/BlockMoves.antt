-- How all that a seat holds is given up.
use Rattle.std.proofs.Common.{◌≡◌, ◌≢◌, ◌⊎◌, ℕ, ◌+◌, ◌-◌, ◌<◌, ◌≤◌, ⊎_elim, Bool, true, false, cond, eqb, eq-eqb, List, [], ◌∷◌, ◌++◌, refl, ap, sym, ◌∙◌, subst, arith, inl, inr}
use Rattle.std.proofs.lemmas.Bool.{eqb-true, eqb-false, cases_Bool, cases_eq, cases_lt, false≢true}
use Rattle.std.proofs.Math.Path.{fun_ext}
use Rattle.std.specs.Prelude.{Option, Some, None}
use Rattle.lwkt_base.specs.declared.names.TokId.{TokId}
use Rattle.lwkt_base.specs.declared.names.Mode.TheVariants.{Exclusive, Shared}
use Rattle.lwkt_base.specs.declared.holdings.Held.{Held}
use Rattle.lwkt_base.specs.declared.holdings.Held.TheVariants.{Nothing, Holds}
use Rattle.lwkt_base.specs.Law.{Obeys}
use Rattle.lwkt_base.specs.Holding.{Holding, is_held, is_exclusive, references_in, one_less, removed, holds_nothing}
use Rattle.lwkt_core.specs.Tokens.{IsNotLastExclusive, length_of}
use Rattle.lwkt_table.specs.declared.seats.Deed.{Deed}
use Rattle.lwkt_bank.specs.declared.views.TokenEntry.{TokenEntry}
use Rattle.lwkt_bank.specs.declared.seats.CpuSeat.{CpuSeat}
use Rattle.lwkt_bank.specs.declared.answers.Given.{Given}
use Rattle.lwkt_bank.specs.declared.answers.Given.TheVariants.{One, Clean, Written}
use Rattle.lwkt_bank.specs.Views.{RecordOf}
use Rattle.lwkt_bank.specs.Seats.{BankId, bank_of, tokens_of, plan_of, entry, holding, IsCleanIn, Knowing, Restored, Gave}
use Rattle.lwkt_bank.proofs.HoldMoves.{giving_removes}
use Rattle.lwkt_bank.proofs.ChangeMoves.{same_holding}
use Rattle.lwkt_seats.specs.Asks.{ObeysItsLaw, GivesReference}
use Rattle.lwkt_seats.specs.Cells.{IsMine}
use Rattle.lwkt_seats.specs.Lists.{EndsOne, EndsPair, EndsEach, BreaksLaw, AreLawfulBelow, IsFirstToBreak, first_restored}
use Rattle.lwkt_seats.proofs.ListMoves.{chain_more, chain_after, not_held}

-- nothing was given back; one reference more is, and several more are
pub ends_none : (s : CpuSeat) → EndsEach s s
ends_none s = ([], refl)

pub ends_more : (a b c : CpuSeat) (tok : TokId) (restored : Bool) → EndsEach a b → EndsOne tok.0 b c restored → EndsEach a c
ends_more a b c tok restored each one = (each.0 ++ (tok, restored) ∷ [], chain_more EndsPair each.0 (tok, restored) a b c each.1 one)

pub ends_after : (a b c : CpuSeat) → EndsEach a b → EndsEach b c → EndsEach a c
ends_after a b c each rest = (each.0 ++ rest.0, chain_after EndsPair each.0 rest.0 a b c each.1 rest.1)

-- a question for the law leaves what is held
pub knowing_holding : (s s' : CpuSeat) (tok : ℕ) (deeds : List Deed) → Knowing s s' tok (entry s tok) deeds → holding s' ≡ holding s
knowing_holding s s' tok deeds k = same_holding s s' tok _ deeds k.changes refl

pub gives_one_holding : (s s' : CpuSeat) (tok : ℕ) → GivesReference tok s s' → holding s' ≡ removed (holding s) tok
gives_one_holding s s' tok gives = elim gives [
  | inl g ↦ giving_removes s s' tok g.1.0 g.1.1
  | inr g ↦
      let asked = g.2.0 in
      giving_removes asked s' tok g.2.1.1.0 g.2.1.1.1 ∙ ap (λ (h : Holding). removed h tok) (knowing_holding s asked tok _ g.2.1.0)
]

-- a reference that is given back leaves what is known of every other token
pub gave_others : (s s' : CpuSeat) (tok : ℕ) (given : Given) → Gave s s' tok given → (other : ℕ) → other ≢ tok → entry s' other ≡ entry s other
gave_others s s' tok One gave = gave.1.changes.else_
gave_others s s' tok Clean gave = gave.2.changes.else_
gave_others s s' tok (Written section) gave = gave.2.changes.else_

pub gives_one_others : (s s' : CpuSeat) (tok : ℕ) → GivesReference tok s s' → (other : ℕ) → other ≢ tok → entry s' other ≡ entry s other
gives_one_others s s' tok gives other away = elim gives [
  | inl g ↦ gave_others s s' tok g.1.0 g.1.1 other away
  | inr g ↦ let asked = g.2.0 in gave_others asked s' tok g.2.1.1.0 g.2.1.1.1 other away ∙ g.2.1.0.changes.else_ other away
]

-- after a restore row and record are the first ones, and the same is held
pub restored_holding : (s s' : CpuSeat) (tok : ℕ) (made : List (Option ℕ)) (bytes : RecordOf) → Restored s s' tok made bytes → holding s' ≡ holding s
restored_holding s s' tok made bytes r = same_holding s s' tok _ _ r.changes refl

pub restored_clean : (s s' : CpuSeat) (tok : ℕ) (made : List (Option ℕ)) (bytes : RecordOf) → Restored s s' tok made bytes → IsCleanIn (entry s' tok)
restored_clean s s' tok made bytes r = subst IsCleanIn (sym r.changes.here) (refl, refl)

-- the end of a section in which row and record are the first ones
pub gave_clean : (s s' : CpuSeat) (tok : ℕ) (given : Given) → holding s tok ≡ Holds Exclusive 0 → IsCleanIn (entry s tok) → Gave s s' tok given → Gave s s' tok Clean
gave_clean s s' tok One last clean gave = let F : Held → Type 0 = λ h. IsNotLastExclusive h in absurd (let few : 0 < 0 = subst F last gave.0 in omega arith)
gave_clean s s' tok Clean last clean gave = gave
gave_clean s s' tok (Written section) last clean gave = absurd (gave.1 clean)

-- one reference less
pub less_counts : (held : Held) → 0 < references_in held → references_in (one_less held) + 1 ≡ references_in held
less_counts Nothing few = absurd (omega arith)
less_counts (Holds mode further) few = go (eqb further 0) refl
  where
    go : (b : Bool) → eqb further 0 ≡ b → references_in (cond b Nothing (Holds mode (further - 1))) + 1 ≡ further + 1
    go true is = let none = eqb-true further 0 is in omega arith
    go false is = let some = eqb-false further 0 is in omega arith

pub held_by_count : (held : Held) → 0 < references_in held → is_held held ≡ true
held_by_count Nothing few = absurd (omega arith)
held_by_count (Holds mode further) few = refl

pub free_by_count : (held : Held) → references_in held ≡ 0 → held ≡ Nothing
free_by_count Nothing none = refl
free_by_count (Holds mode further) none = absurd (omega arith)

pub removed_here : (h : Holding) (tok : ℕ) → removed h tok tok ≡ one_less (h tok)
removed_here h tok = ap (λ b. cond b (one_less (h tok)) (h tok)) (eq-eqb tok tok refl)

-- a holding by its mode
pub mine_held : (held : Held) → is_exclusive held ≡ true → is_held held ≡ true
mine_held Nothing is = cc
mine_held (Holds mode further) is = refl

less_exclusive : (held : Held) → is_held (one_less held) ≡ true → is_exclusive (one_less held) ≡ is_exclusive held
less_exclusive Nothing is = refl
less_exclusive (Holds Exclusive further) is = go (eqb further 0) is
  where
    go : (b : Bool) → is_held (cond b Nothing (Holds Exclusive (further - 1))) ≡ true → is_exclusive (cond b Nothing (Holds Exclusive (further - 1))) ≡ true
    go true is = cc
    go false is = refl
less_exclusive (Holds Shared further) is = go (eqb further 0)
  where
    go : (b : Bool) → is_exclusive (cond b Nothing (Holds Shared (further - 1))) ≡ false
    go true = refl
    go false = refl

last_exclusive : (held : Held) → is_exclusive held ≡ true → is_held (one_less held) ≡ false → held ≡ Holds Exclusive 0
last_exclusive Nothing mine gone = cc
last_exclusive (Holds Shared further) mine gone = cc
last_exclusive (Holds Exclusive further) mine gone = go (eqb further 0) refl gone
  where
    go : (b : Bool) → eqb further 0 ≡ b → is_held (cond b Nothing (Holds Exclusive (further - 1))) ≡ false → Holds Exclusive further ≡ Holds Exclusive 0
    go true is gone = ap (λ (n : ℕ). Holds Exclusive n) (eqb-true further 0 is)
    go false is gone = cc

-- row, record and mode of a token are the same
abbrev pub IsSameSection : CpuSeat → CpuSeat → ℕ → Type 0
IsSameSection s s' tok = ((entry s' tok).row ≡ (entry s tok).row) × ((entry s' tok).blob ≡ (entry s tok).blob) × (is_exclusive (holding s' tok) ≡ is_exclusive (holding s tok))

pub section_then : (a b c : CpuSeat) (tok : ℕ) → IsSameSection a b tok → IsSameSection b c tok → IsSameSection a c tok
section_then a b c tok one more = (more.0 ∙ one.0, more.1 ∙ one.1, more.2 ∙ one.2)

pub section_back : (a b : CpuSeat) (tok : ℕ) → IsSameSection a b tok → IsSameSection b a tok
section_back a b tok same = (sym same.0, sym same.1, sym same.2)

pub section_entry : (a b : CpuSeat) (tok : ℕ) → entry b tok ≡ entry a tok → IsSameSection a b tok
section_entry a b tok same = (ap (λ (e : TokenEntry). e.row) same, ap (λ (e : TokenEntry). e.blob) same, ap (λ (e : TokenEntry). is_exclusive e.held) same)

-- so it obeys its law or breaks it as before
pub section_lawful : (a b : CpuSeat) (tok : ℕ) → bank_of b ≡ bank_of a → IsSameSection a b tok → ObeysItsLaw b tok → ObeysItsLaw a tok
section_lawful a b tok bank same lawful =
    let F : BankId → Type 0 = λ x. Obeys (plan_of x tok).law (plan_of x tok).param (entry b tok).row (length_of (entry b tok).blob) in
    let G : List ℕ → Type 0 = λ row. Obeys (plan_of (bank_of a) tok).law (plan_of (bank_of a) tok).param row (length_of (entry b tok).blob) in
    let H : RecordOf → Type 0 = λ bytes. Obeys (plan_of (bank_of a) tok).law (plan_of (bank_of a) tok).param (entry a tok).row (length_of bytes) in
    subst H same.1 (subst G same.0 (subst F bank lawful))

pub section_broken : (a b : CpuSeat) (tok : ℕ) → bank_of b ≡ bank_of a → IsSameSection a b tok → BreaksLaw b tok → BreaksLaw a tok
section_broken a b tok bank same broken = (sym same.2 ∙ broken.0, λ lawful. broken.1 (section_lawful b a tok (sym bank) (section_back a b tok same) lawful))

-- the last reference of a section leaves nothing
last_gone : (s s' : CpuSeat) (tok : ℕ) → holding s tok ≡ Holds Exclusive 0 → holding s' ≡ removed (holding s) tok → is_held (holding s' tok) ≡ true → ⊥
last_gone s s' tok last given held =
    let here : holding s' tok ≡ one_less (holding s tok) = ap (λ (h : Holding). h tok) given ∙ removed_here (holding s) tok in
    let gone : is_held (holding s' tok) ≡ false = ap is_held here ∙ ap (λ (h : Held). is_held (one_less h)) last in
    false≢true (sym gone ∙ held)

gave_section : (s s' : CpuSeat) (tok : ℕ) (given : Given) → holding s tok ≢ Holds Exclusive 0 → Gave s s' tok given → is_held (holding s' tok) ≡ true → IsSameSection s s' tok
gave_section s s' tok One further gave held =
    let here = gave.1.changes.here in
    let less : holding s' tok ≡ one_less (holding s tok) = ap (λ (e : TokenEntry). e.held) here in
    let still : is_held (one_less (holding s tok)) ≡ true = ap is_held (sym less) ∙ held in
    (ap (λ (e : TokenEntry). e.row) here, ap (λ (e : TokenEntry). e.blob) here, ap is_exclusive less ∙ less_exclusive (holding s tok) still)
gave_section s s' tok Clean further gave held = absurd (further gave.0)
gave_section s s' tok (Written section) further gave held = absurd (further gave.0)

-- a token that is held after a reference was given back
pub ends_section : (s s' : CpuSeat) (tok : ℕ) (restored : Bool) → EndsOne tok s s' restored → holding s' ≡ removed (holding s) tok → is_held (holding s' tok) ≡ true → IsSameSection s s' tok
ends_section s s' tok false ends given held = elim ends [
  | inl g ↦ gave_section s s' tok g.1.0 g.0 g.1.1 held
  | inr g ↦ absurd (last_gone s s' tok g.0 given held)
]
ends_section s s' tok true ends given held = absurd (last_gone s s' tok ends.0 given held)

-- what is said of a section that ends
pub ends_broken : (s s' : CpuSeat) (tok : ℕ) (restored : Bool) → EndsOne tok s s' restored → restored ≡ true → BreaksLaw s tok
ends_broken s s' tok true ends is = (ap is_exclusive ends.0, ends.1)
ends_broken s s' tok false ends is = absurd (false≢true is)

pub ends_lawful : (s s' : CpuSeat) (tok : ℕ) (restored : Bool) → EndsOne tok s s' restored → holding s' ≡ removed (holding s) tok → restored ≡ false → is_held (holding s' tok) ≡ false → IsMine s tok → ObeysItsLaw s tok
ends_lawful s s' tok true ends given is gone mine = absurd (false≢true (sym is))
ends_lawful s s' tok false ends given is gone mine = elim ends [
  | inl g ↦
      let here : holding s' tok ≡ one_less (holding s tok) = ap (λ (h : Holding). h tok) given ∙ removed_here (holding s) tok in
      absurd (g.0 (last_exclusive (holding s tok) mine (ap is_held (sym here) ∙ gone)))
  | inr g ↦ g.1
]

-- the first token that breaks its law, with one token more
pub first_more : (s : CpuSeat) (n : ℕ) (first : Option TokId) (restored : Bool) (tok : TokId) → tok.0 ≡ n → IsFirstToBreak s n first → (restored ≡ true → BreaksLaw s n) → (restored ≡ false → IsMine s n → ObeysItsLaw s n) → IsFirstToBreak s (n + 1) (first_restored first restored tok)
first_more s n (Some f) restored tok is so broken lawful = let below : f.0 < n = so.0 in (omega (arith, below), so.1, so.2)
first_more s n None true tok is so broken lawful =
    let F : ℕ → Type 0 = λ k. BreaksLaw s k × AreLawfulBelow s k in
    let both : BreaksLaw s tok.0 × AreLawfulBelow s tok.0 = subst F (sym is) (broken refl, so) in
    (omega (arith, is), both.0, both.1)
first_more s n None false tok is so broken lawful = λ t below mine. ⊎_elim
    (λ (same : t ≡ n). let F : ℕ → Type 0 = λ k. IsMine s k → ObeysItsLaw s k in subst F (sym same) (lawful refl) mine)
    (λ away. so t (omega (arith, below, away)) mine)
    (cases_eq t n)

-- a token past the last isn't held
pub free_past : (s : CpuSeat) (tok : ℕ) → ((t : ℕ) → is_held (holding s t) ≡ true → t < tokens_of (bank_of s)) → tokens_of (bank_of s) ≤ tok → holding s tok ≡ Nothing
free_past s tok within past = elim (cases_Bool (is_held (holding s tok))) [
  | inl held ↦ absurd (let there = within tok held in omega arith)
  | inr free ↦ not_held (holding s tok) free
]

-- tokens below one, and past the last, aren't held; with one token more
pub free_more : (a b : CpuSeat) (n tok : ℕ) → ((t : ℕ) → (t < tok) ⊎ (n ≤ t) → holding a t ≡ Nothing) → holding b tok ≡ Nothing → ((t : ℕ) → t ≢ tok → holding b t ≡ holding a t) → (t : ℕ) → (t < tok + 1) ⊎ (n ≤ t) → holding b t ≡ Nothing
free_more a b n tok free gone others t is = ⊎_elim
    (λ (same : t ≡ tok). subst (λ (k : ℕ). holding b k ≡ Nothing) (sym same) gone)
    (λ away. others t away ∙ free t (elim is [ inl below ↦ inl (omega (arith, below, away)) | inr past ↦ inr past ]))
    (cases_eq t tok)

pub free_all : (s : CpuSeat) (n tok : ℕ) → n ≤ tok → ((t : ℕ) → (t < tok) ⊎ (n ≤ t) → holding s t ≡ Nothing) → holding s ≡ holds_nothing
free_all s n tok end free = fun_ext (λ t. elim (cases_lt t tok) [ inl below ↦ free t (inl below) | inr past ↦ free t (inr (omega (arith, end, past))) ])
