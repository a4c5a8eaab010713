-- What is found wrong is the first.
use Rattle.std.proofs.Common.{◌≡◌, ◌≢◌, ℕ, zero, suc, ◌<◌, ◌≤◌, Bool, true, false, List, [], ◌∷◌, length, Option, Some, None, refl, sym, ap, ◌∙◌, subst, inl, inr, ⊎_elim, arith}
use Rattle.std.specs.Prelude.{slice_index, nat_lt, ◌==◌, ◌&&◌, ◌||◌, is_some, option_and_then, MatchOption}
use Rattle.std.proofs.lemmas.Bool.{cases_lt, lt-ltb, le-ltb, ne_eqb, eq-eqb}
use Rattle.std.proofs.lemmas.Option.{slice_get_past}
use Rattle.std.proofs.Math.Bool.{or-true}
use Rattle.lwkt_code.specs.declared.steps.Step.{Step}
use Rattle.lwkt_code.specs.declared.checks.Flaw.{Flaw}
use Rattle.lwkt_code.specs.Flaws.{flaw_of}
use Rattle.lwkt_code.specs.Accepted.{leads_from, IsOneOf, IsWay, AreBehind, last_from, IsCircle}
use Rattle.lwkt_code.specs.Marks.{Opens, IsFirstCircle}
use Rattle.lwkt_code.specs.Programs.{flaw_at, IsFirstFlaw, circle_of}
use Rattle.lwkt_code.specs.Firsts.{first_below, some_pass, comes_back, first_flaw, AreClear, IsFirstWrong}

-- the first number that passes
first_none : (n : ℕ) (test : ℕ → Bool) → ((k : ℕ) → k < n → test k ≡ false) → first_below n test ≡ None
first_none zero test h = refl
first_none (suc n) test h = rw (first_none n test (λ k w. h k (omega arith)), h n (omega arith)) refl

first_some : (n : ℕ) (test : ℕ → Bool) (at : ℕ) → at < n → test at ≡ true → ((k : ℕ) → k < at → test k ≡ false) → first_below n test ≡ Some at
first_some zero test at w e h = absurd (omega arith)
first_some (suc n) test at w e h =
    ⊎_elim (λ l. rw (first_some n test at l e h) refl)
    (λ g. let s : at ≡ n = omega arith in
    rw (first_none n test (λ k l. h k (omega arith)), subst (λ m. test m ≡ true) s e) (ap (λ m. Some m) (sym s)))
    (cases_lt at n)

-- one of the places passes, or none
pass_one : (test : ℕ → Bool) (to : ℕ) (targets : List ℕ) → IsOneOf to targets → test to ≡ true → some_pass test targets ≡ true
pass_one test to [] m e = absurd m
pass_one test to (x ∷ targets) (inl i) e = rw (subst (λ n. test n ≡ true) i e) refl
pass_one test to (x ∷ targets) (inr m) e = rw (pass_one test to targets m e) (or-true (test x))

pass_none : (test : ℕ → Bool) (targets : List ℕ) → ((to : ℕ) → IsOneOf to targets → test to ≡ false) → some_pass test targets ≡ false
pass_none test [] h = refl
pass_none test (x ∷ targets) h = rw (h x (inl refl), pass_none test targets (λ to m. h to (inr m))) refl

-- a place that leads on to one from which nothing comes back
step_none : (steps : List Step) (begin to n : ℕ) → to ≢ begin → (begin < to → comes_back n steps begin to ≡ false) → (to == begin || (nat_lt begin to && comes_back n steps begin to)) ≡ false
step_none steps begin to n e h =
    ⊎_elim (λ w. rw (ne_eqb to begin e, lt-ltb begin to w, h w) refl)
    (λ g. rw (ne_eqb to begin e, le-ltb begin to g) refl)
    (cases_lt begin to)

-- where no way leads back, none comes back
module _ (steps : List Step) (begin : ℕ) (o : Opens steps begin) where
  never : (n at : ℕ) → begin ≤ at → (at ≢ begin → slice_index o.0 at ≡ 0) → comes_back n steps begin at ≡ false
  unfolding comes_back
  never zero at l f = refl
  never (suc n) at l f =
      pass_none (λ to. to == begin || (nat_lt begin to && comes_back n steps begin to)) (leads_from steps at)
      (λ to m. let r = o.1 at to l f m in step_none steps begin to n r.0 (λ w. never n to (omega arith) (λ e. r.1 w)))

pub opens_never : (steps : List Step) (begin : ℕ) → Opens steps begin → comes_back 771 steps begin begin ≡ false
opens_never steps begin o = never steps begin o 771 begin (omega arith) (λ e. absurd (e refl))

-- a way that leads back comes back
step_back : (steps : List Step) (begin n : ℕ) → (begin == begin || (nat_lt begin begin && comes_back n steps begin begin)) ≡ true
step_back steps begin n = rw (eq-eqb begin begin refl) refl

step_on : (steps : List Step) (begin to n : ℕ) → begin < to → comes_back n steps begin to ≡ true → (to == begin || (nat_lt begin to && comes_back n steps begin to)) ≡ true
step_on steps begin to n w e = rw (lt-ltb begin to w, e) (or-true (to == begin))

way_back : (steps : List Step) (begin end from n : ℕ) (way : List ℕ) → length way < n → AreBehind begin way → IsWay steps from way → last_from from way ≡ end → IsOneOf begin (leads_from steps end) → comes_back n steps begin from ≡ true
unfolding comes_back
way_back steps begin end from zero way l b g e m = absurd (omega arith)
way_back steps begin end from (suc n) [] l b g e m =
    pass_one (λ to. to == begin || (nat_lt begin to && comes_back n steps begin to)) begin (leads_from steps from)
    (subst (λ k. IsOneOf begin (leads_from steps k)) (sym e) m) (step_back steps begin n)
way_back steps begin end from (suc n) (to ∷ way) l b g e m =
    pass_one (λ t. t == begin || (nat_lt begin t && comes_back n steps begin t)) to (leads_from steps from) g.0
    (step_on steps begin to n b.0 (way_back steps begin end to n way (omega arith) b.1 g.1 e m))

pub circle_back : (steps : List Step) (begin end : ℕ) → IsCircle steps begin end → comes_back 771 steps begin begin ≡ true
circle_back steps begin end c = let s = c.short in way_back steps begin end begin 771 c.way (omega arith) c.behind c.goes c.ends c.back

-- the first step that is wrong by itself
flaw_there : (steps : List Step) (at : ℕ) (flaw : Flaw) → flaw_at steps at ≡ Some flaw → at < length steps
flaw_there steps at flaw e =
    ⊎_elim (λ w. w)
    (λ g. let n : flaw_at steps at ≡ None = ap (λ (o : Option Step). option_and_then (flaw_of (length steps)) o) (slice_get_past steps at g) in
    absurd (let z = sym n ∙ e in cc))
    (cases_lt at (length steps))

some_true : (o : Option Flaw) (flaw : Flaw) → o ≡ Some flaw → is_some o ≡ true
some_true o flaw e = rw e refl

none_false : (o : Option Flaw) → o ≡ None → is_some o ≡ false
none_false o e = rw e refl

pub flaw_first : (steps : List Step) (at : ℕ) (flaw : Flaw) → IsFirstFlaw steps at flaw → first_flaw steps ≡ Some at
flaw_first steps at flaw h =
    first_some (length steps) (λ k. is_some (flaw_at steps k)) at (flaw_there steps at flaw h.0) (some_true (flaw_at steps at) flaw h.0)
    (λ k w. none_false (flaw_at steps k) (h.1 k w))

-- what is found of loops is the first
pub found_first : (steps : List Step) (found : Option (ℕ × ℕ)) → length steps ≤ 768 → ((k : ℕ) → k < length steps → flaw_at steps k ≡ None)
    → MatchOption found ((k : ℕ) → k < length steps → Opens steps k) (λ r. IsFirstCircle steps r.0 r.1) → MatchOption (circle_of found) (AreClear steps) (IsFirstWrong steps)
found_first steps None l f h = record {
  few = l;
  flawless = first_none (length steps) (λ k. is_some (flaw_at steps k)) (λ k w. none_false (flaw_at steps k) (f k w));
  no_circle = first_none (length steps) (λ at. comes_back 771 steps at at) (λ k w. opens_never steps k (h k w));
}
found_first steps (Some r) l f h = (
  l,
  first_none (length steps) (λ k. is_some (flaw_at steps k)) (λ k w. none_false (flaw_at steps k) (f k w)),
  first_some (length steps) (λ at. comes_back 771 steps at at) r.0 h.within (circle_back steps r.0 r.1 h.circle) (λ k w. opens_never steps k (h.before k w)),
)
