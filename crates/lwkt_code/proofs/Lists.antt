-- A list of asks is a program, whose asks are made in order.
use Rattle.std.proofs.Common.{◌≡◌, ℕ, zero, suc, ◌+◌, ◌-◌, ◌*◌, ◌/◌, ◌%◌, ◌<◌, ◌≤◌, Bool, true, false, cond, List, [], ◌∷◌, length, Option, Some, None, refl, sym, ap, ◌∙◌, subst, inl, inr, ⊎_elim, arith}
use Rattle.std.specs.Prelude.{slice_get, ◌⊎◌, ◌==◌, option_and_then}
use Rattle.std.proofs.lemmas.Bool.{lt-ltb, le-ltb, cases_lt, ne_eqb}
use Rattle.std.proofs.lemmas.Nat.{div-mul-add, mod-mul-add}
use Rattle.std.proofs.Math.Nat.{le-div_iff_mul-le}
use Rattle.std.proofs.Math.Bool.{or-true}
use Rattle.lwkt_base.specs.declared.asks.Ask.{Ask}
use Rattle.lwkt_base.specs.declared.asks.Ask.TheVariants.{Exit}
use Rattle.lwkt_base.specs.declared.asks.Answer.{Answer}
use Rattle.lwkt_code.specs.declared.steps.Step.{Step}
use Rattle.lwkt_code.specs.declared.steps.Step.TheVariants.{Fixed}
use Rattle.lwkt_code.specs.declared.locals.Local.{Local}
use Rattle.lwkt_code.specs.Flaws.{flaw_of}
use Rattle.lwkt_code.specs.Accepted.{leads_to, IsOneOf}
use Rattle.lwkt_code.specs.Answers.{taken}
use Rattle.lwkt_code.specs.Next.{is_last, ask_at, moved, ask_or, ask_within, ask_from, next, asks_by}
use Rattle.lwkt_code.specs.Programs.{IsSound, listed, listed_ask, start}
use Rattle.lwkt_code.proofs.Walks.{ask_here}

-- a step of a list of asks leads nowhere without an ask, and is right by itself
leads_nowhere : (asks : List Ask) (k at to : ℕ) → IsOneOf to (leads_to (slice_get (listed asks) k) at) → ⊥
leads_nowhere [] k at to h = h
leads_nowhere (ask ∷ asks) zero at to h = h
leads_nowhere (ask ∷ asks) (suc k) at to h = leads_nowhere asks k at to h

flawless : (n : ℕ) (asks : List Ask) (k : ℕ) → option_and_then (flaw_of n) (slice_get (listed asks) k) ≡ None
flawless n [] k = refl
flawless n (ask ∷ asks) zero = refl
flawless n (ask ∷ asks) (suc k) = flawless n asks k

pub lists_are_sound : (asks : List Ask) → IsSound (listed asks)
lists_are_sound asks = record {
  flawless = λ at. flawless (length (listed asks)) asks at;
  accepted = record {
    inside = λ at to h. absurd (leads_nowhere asks at at to h);
    rank = λ at. 0;
    falls = λ at to h. absurd (leads_nowhere asks at at to h);
  };
}

same_length : (asks : List Ask) → length (listed asks) ≡ length asks
same_length [] = refl
same_length (ask ∷ asks) = ap suc (same_length asks)

step_there : (asks : List Ask) (k : ℕ) → k < length asks → (ask : Ask) × (slice_get asks k ≡ Some ask) × (slice_get (listed asks) k ≡ Some (Fixed ask))
step_there [] k w = absurd (omega arith)
step_there (ask ∷ asks) zero w = (ask, refl, refl)
step_there (ask ∷ asks) (suc k) w = step_there asks k (omega arith)

step_past : (asks : List Ask) (k : ℕ) → length asks ≤ k → slice_get (listed asks) k ≡ None
step_past [] k w = refl
step_past (ask ∷ asks) zero w = absurd (omega arith)
step_past (ask ∷ asks) (suc k) w = step_past asks k (omega arith)

-- past the last repetition k divided by the length is no less than the repetitions
past_div : (repeat c k : ℕ) → 0 < c → repeat * c ≤ k → repeat ≤ k / c
past_div repeat c k p l = (le-div_iff_mul-le {k = c} {x = repeat} {y = k} p).1 l

module _ (asks : List Ask) (repeat : ℕ) where
  -- where a thread stands after k asks: within repetition q, having asked in it if it isn't at its beginning, or past the last
  record Within (k : ℕ) (s : Local) : Type 0 where
    pub q : ℕ
    pub counted : k ≡ q * length asks + s.at
    pub left : q + s.left + 1 ≡ repeat
    pub inside : s.at ≤ length asks
    pub some : 0 < length asks
    pub asked : 0 < s.at → s.asked ≡ true

  record Past (k : ℕ) (s : Local) : Type 0 where
    pub ended : slice_get (listed asks) s.at ≡ None
    pub last : is_last s ≡ true
    pub exits : (j : ℕ) → k ≤ j → listed_ask repeat asks j ≡ Exit

  -- a poll, by its outcome
  abbrev Good : ℕ → Ask × Local → Type 0
  Good k r = (r.0 ≡ listed_ask repeat asks k) × (Within (k + 1) r.1 ⊎ Past (k + 1) r.1)

  exits_without : length asks ≡ 0 → (j : ℕ) → listed_ask repeat asks j ≡ Exit
  exits_without e j = rw e refl

  exits_past : 0 < length asks → (j : ℕ) → repeat * length asks ≤ j → listed_ask repeat asks j ≡ Exit
  exits_past p j l = rw (ne_eqb (length asks) 0 (λ z. omega arith), le-ltb (j / length asks) repeat (past_div repeat (length asks) j p l)) refl

  listed_at : (q k a : ℕ) (ask : Ask) → k ≡ q * length asks + a → a < length asks → q < repeat → slice_get asks a ≡ Some ask → listed_ask repeat asks k ≡ ask
  listed_at q k a ask e w r g =
      let d : k / length asks ≡ q = ap (λ n. n / length asks) e ∙ div-mul-add q (length asks) a w in
      let m : k % length asks ≡ a = ap (λ n. n % length asks) e ∙ mod-mul-add q (length asks) a w in
      rw (ne_eqb (length asks) 0 (λ z. omega arith), d, lt-ltb q repeat r, m, g) refl

  -- within the list the step there is asked, however many steps may be made
  asks_step : (n : ℕ) (s : Local) (q k : ℕ) → k ≡ q * length asks + s.at → q + s.left + 1 ≡ repeat → s.at < length asks → Good k (ask_within (suc n) (listed asks) s)
  unfolding ask_within
  asks_step n s q k e f w =
      let p = step_there asks s.at w in
      let a : ask_at (slice_get (listed asks) s.at) s ≡ Some p.0 = ap (λ (o : Option Step). ask_at o s) p.2 in
      let m : moved (slice_get (listed asks) s.at) s ≡ record s { at = s.at + 1; asked = true } = ap (λ (o : Option Step). moved o s) p.2 in
      let r : ask_within (suc n) (listed asks) s ≡ (p.0, record s { at = s.at + 1; asked = true }) = rw (a, m) refl in
      subst (λ (r : Ask × Local). Good k r) (sym r)
      (sym (listed_at q k s.at p.0 e w (omega arith) p.1), inl (record { q = q; counted = omega arith; left = f; inside = omega arith; some = omega arith; asked = λ l. refl }))

  -- past the last repetition Exit is asked, and again and again
  asks_exit : (s : Local) (k : ℕ) → Past k s → Good k (ask_from (listed asks) s)
  asks_exit s k h =
      let a : ask_at (slice_get (listed asks) s.at) s ≡ Some Exit = ap (λ (o : Option Step). ask_at o s) h.ended ∙ ap (λ (b : Bool). cond b (Some Exit) None) h.last in
      let m : moved (slice_get (listed asks) s.at) s ≡ s = ap (λ (o : Option Step). moved o s) h.ended ∙ ap (λ (b : Bool). cond b s (record s { at = 0; left = s.left - 1; asked = false })) h.last in
      subst (λ (r : Ask × Local). Good k r) (sym (ask_here (listed asks) s Exit a ∙ ap (λ (t : Local). (Exit, t)) m))
      (sym (h.exits k (omega arith)), inr (record { ended = h.ended; last = h.last; exits = λ j l. h.exits j (omega arith) }))

  first_later : (q : Option Ask) (t : Local) (r : Ask × Local) → q ≡ None → ask_or q t r ≡ r
  first_later q t r e = rw e refl

  -- at the end of a repetition that isn't the last, the first step is asked
  asks_again : (s : Local) (q k : ℕ) → k ≡ q * length asks + s.at → q + s.left + 1 ≡ repeat → s.at ≡ length asks → 0 < length asks → is_last s ≡ false → 0 < s.left → Good k (ask_from (listed asks) s)
  unfolding ask_within
  asks_again s q k e f w p h l =
      let o : slice_get (listed asks) s.at ≡ None = step_past asks s.at (omega arith) in
      let a : ask_at (slice_get (listed asks) s.at) s ≡ None = ap (λ (o : Option Step). ask_at o s) o ∙ ap (λ (b : Bool). cond b (Some Exit) None) h in
      let u : moved (slice_get (listed asks) s.at) s ≡ record s { at = 0; left = s.left - 1; asked = false } = ap (λ (o : Option Step). moved o s) o ∙ ap (λ (b : Bool). cond b s (record s { at = 0; left = s.left - 1; asked = false })) h in
      let n : 2 * length (listed asks) + 3 ≡ suc (2 * length (listed asks) + 2) = omega arith in
      let r : ask_from (listed asks) s ≡ ask_within (suc (2 * length (listed asks) + 2)) (listed asks) (record s { at = 0; left = s.left - 1; asked = false }) =
      first_later (ask_at (slice_get (listed asks) s.at) s) (moved (slice_get (listed asks) s.at) s) (ask_within (2 * length (listed asks) + 3) (listed asks) (moved (slice_get (listed asks) s.at) s)) a
      ∙ ap (ask_within (2 * length (listed asks) + 3) (listed asks)) u ∙ ap (λ (n : ℕ). ask_within n (listed asks) (record s { at = 0; left = s.left - 1; asked = false })) n in
      subst (λ (r : Ask × Local). Good k r) (sym r) (asks_step (2 * length (listed asks) + 2) (record s { at = 0; left = s.left - 1; asked = false }) (q + 1) k (omega arith) (omega arith) (omega arith))

  ends_here : (c q k : ℕ) → k ≡ q * c + c → (q + 1) * c ≤ k
  ends_here c q k e = omega arith

  -- at the end of the last one the thread is past it
  ends : (s : Local) (k : ℕ) (h : Within k s) → s.at ≡ length asks → is_last s ≡ true → s.left ≡ 0 → Past k s
  ends s k h w l z =
      let e : k ≡ h.q * length asks + length asks = h.counted ∙ ap (λ n. h.q * length asks + n) w in
      let f : h.q + 1 ≡ repeat = omega arith in
      let g = subst (λ (n : ℕ). n * length asks ≤ k) f (ends_here (length asks) h.q k e) in
      record { ended = step_past asks s.at (omega arith); last = l; exits = λ j m. exits_past h.some j (omega arith) }

  poll_within : (s : Local) (k : ℕ) → Within k s → Good k (ask_from (listed asks) s)
  poll_within s k h =
      let f = h.left in
      let e = h.counted in
      let p = h.some in
      let i = h.inside in
      ⊎_elim (λ b. asks_step (2 * length (listed asks) + 3) s h.q k e f b)
      (λ b.
      let a = h.asked (omega arith) in
      ⊎_elim
      (λ z. let t : s.left ≡ 0 = omega arith in asks_exit s k (ends s k h (omega arith) (rw t refl) t))
      (λ z. asks_again s h.q k e f (omega arith) p (rw (ne_eqb s.left 0 (λ y. omega arith), a) refl) (omega arith))
      (cases_lt s.left 1))
      (cases_lt s.at (length asks))

  poll : (s : Local) (answer : Answer) (k : ℕ) → Within k s ⊎ Past k s → Good k (next (listed asks) s answer)
  poll s answer k (inl h) = poll_within (taken (listed asks) s answer) k (record { q = h.q; counted = h.counted; left = h.left; inside = h.inside; some = h.some; asked = h.asked })
  poll s answer k (inr h) = asks_exit (taken (listed asks) s answer) k (record { ended = h.ended; last = h.last; exits = h.exits })

  polls : (answers : List Answer) (s : Local) (k j : ℕ) → Within k s ⊎ Past k s → j < length answers → slice_get (asks_by (listed asks) s answers) j ≡ Some (listed_ask repeat asks (k + j))
  polls [] s k j h w = absurd (omega arith)
  polls (answer ∷ answers) s k zero h w =
      let e : k ≡ k + 0 = omega arith in
      ap Some ((poll s answer k h).0 ∙ ap (listed_ask repeat asks) e)
  polls (answer ∷ answers) s k (suc j) h w =
      let e : k + 1 + j ≡ k + suc j = omega arith in
      polls answers (next (listed asks) s answer).1 (k + 1) j (poll s answer k h).1 (omega arith) ∙ ap (λ n. Some (listed_ask repeat asks n)) e

  -- a thread that has asked nothing yet
  abbrev begun : List ℕ → Local
  begun vars = start (record { steps = listed asks; repeat = repeat; vars = vars })

  begins_past : (vars : List ℕ) → repeat ≡ 0 → 0 < length asks → Past 0 (begun vars)
  begins_past vars e p = record {
    ended = rw e (step_past asks (length (listed asks)) (let l = same_length asks in omega arith));
    last = or-true (repeat - 1 == 0);
    exits = λ j l. exits_past p j (rw e (omega arith));
  }

  begins_without : (vars : List ℕ) → length asks ≡ 0 → Past 0 (begun vars)
  begins_without vars e = record {
    ended = step_past asks (begun vars).at (omega arith);
    last = or-true (repeat - 1 == 0);
    exits = λ j l. exits_without e j;
  }

  begins_within : (vars : List ℕ) → 0 < repeat → 0 < length asks → Within 0 (begun vars)
  begins_within vars r p =
      let e : (begun vars).at ≡ 0 = rw (ne_eqb repeat 0 (λ z. omega arith)) refl in
      record { q = 0; counted = omega arith; left = omega arith; inside = omega arith; some = p; asked = λ l. absurd (omega arith) }

  begins : (vars : List ℕ) → Within 0 (begun vars) ⊎ Past 0 (begun vars)
  begins vars =
      ⊎_elim (λ z. inr (begins_without vars (omega arith)))
      (λ p. ⊎_elim (λ z. inr (begins_past vars (omega arith) p))
      (λ r. inl (begins_within vars (omega arith) p))
      (cases_lt repeat 1))
      (cases_lt (length asks) 1)

pub asks_as_listed : (asks : List Ask) (repeat : ℕ) (vars : List ℕ) (answers : List Answer) (k : ℕ) → k < length answers
    → slice_get (asks_by (listed asks) (start (record { steps = listed asks; repeat = repeat; vars = vars })) answers) k ≡ Some (listed_ask repeat asks k)
asks_as_listed asks repeat vars answers k w =
    let z : 0 + k ≡ k = omega arith in
    polls asks repeat answers (start (record { steps = listed asks; repeat = repeat; vars = vars })) 0 k (begins asks repeat vars) w ∙ ap (λ n. Some (listed_ask repeat asks n)) z
