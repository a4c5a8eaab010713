-- Lines that show what a check knows of each thread, whose last ask has no answer yet.
use Rattle.std.proofs.Common.{zero, suc, inl, inr, ◌≡◌, ℕ, ◌+◌, ◌-◌, ◌*◌, ◌/◌, ◌%◌, ◌<◌, ◌≤◌, ◌==◌, false, List, [], ◌∷◌, length, take, refl, sym, ap, ◌∙◌, subst, arith, Option, Some, None, eq-eqb, ne_eqb}
use Rattle.std.specs.Prelude.{slice_get, if◌then◌else◌, MatchOption}
use Rattle.std.proofs.lemmas.Bool.{cases_eq}
use Rattle.std.proofs.lemmas.List.{take_all}
use Rattle.std.proofs.lemmas.Option.{none-some}
use Rattle.lwkt_base.specs.declared.threads.ThreadLine.{ThreadLine}
use Rattle.lwkt_base.specs.declared.threads.ThreadState.TheVariants.{Ready}
use Rattle.lwkt_verdict.specs.declared.progress.Piece.{Piece}
use Rattle.lwkt_verdict.specs.Threads.{slot_of, line_of}
use Rattle.lwkt_verdict.specs.Run.{came_by}
use Rattle.lwkt_verdict.specs.Follow.{Known, entry_so, come, Bears, AllBear, AreShown, none_answered}
use Rattle.lwkt_verdict.specs.Followed.{log_so}
use Rattle.lwkt_verdict.proofs.KnownMoves.{front_of, all_expected, none_answers}

-- the line of a thread by its number
abbrev line_for : ℕ → Known → ThreadLine
line_for n t = record { id = record { cpu = record { 0 = n / 16 }; thread = n % 16 }; state = Ready; list = []; log = log_so t; service = false }

-- a line for each thread of a table, from this number on
abbrev pub lines_of : ℕ → List Known → List ThreadLine
lines_of n [] = []
lines_of n (t ∷ table) = line_for n t ∷ lines_of (n + 1) table

slot_for : (n : ℕ) (t : Known) → slot_of (line_for n t).id ≡ n
slot_for n t = omega arith

line_here : (k n : ℕ) (t : Known) (ls : List ThreadLine) → n ≡ k → line_of k (line_for n t ∷ ls) ≡ Some (line_for n t)
line_here k n t ls is = ap (λ b. if b then Some (line_for n t) else line_of k ls) (eq-eqb (slot_of (line_for n t).id) k (slot_for n t ∙ is))

line_there : (k n : ℕ) (t : Known) (ls : List ThreadLine) → (n ≡ k → ⊥) → line_of k (line_for n t ∷ ls) ≡ line_of k ls
line_there k n t ls apart = ap (λ b. if b then Some (line_for n t) else line_of k ls) (ne_eqb (slot_of (line_for n t).id) k (λ is. apart (sym (slot_for n t) ∙ is)))

-- the line of a thread that is there
line_at : (n j : ℕ) (table : List Known) (t : Known) → slice_get table j ≡ Some t → (k : ℕ) → k ≡ n + j → line_of k (lines_of n table) ≡ Some (line_for k t)
line_at n zero [] t at k is = absurd (none-some t at)
line_at n (suc j) [] t at k is = absurd (none-some t at)
line_at n zero (x ∷ table) t at k is =
    let same : n ≡ k = omega (arith, is) in
    let x_is : x ≡ t = cc in
    line_here k n x (lines_of (n + 1) table) same ∙ ap (λ (z : Known). Some (line_for n z)) x_is ∙ ap (λ m. Some (line_for m t)) same
line_at n (suc j) (x ∷ table) t at k is =
    let next : k ≡ n + 1 + j = omega (arith, is) in
    line_there k n x (lines_of (n + 1) table) (λ same. omega (arith, is, same)) ∙ line_at (n + 1) j table t at k next

bears_line : (k : ℕ) (t : Known) → Bears t None (line_for k t)
bears_line k t =
    let all : length (log_so t) ≤ length (log_so t) = omega arith in
    let front = front_of t.log (entry_so t None) (log_so t) (take_all (length (log_so t)) (log_so t) all) in
    record { expected = all_expected t.last; answers = none_answers t.last; entries = front.0; entry = front.1 }

there_is : {A : Type 0} (P : A → Type 0) (o : Option A) → MatchOption o ⊥ P → (x : A) × (o ≡ Some x)
there_is P None p = absurd p
there_is P (Some x) p = (x, refl)

-- these lines bear what is known
pub all_bear : (table : List Known) (before : List Piece) → AreShown before table none_answered → AllBear table none_answered (lines_of 0 table)
all_bear table before shown k below =
    let one = there_is (λ t. came_by t.plan before k ≡ come t None) (slice_get table k) (shown k below) in
    let t = one.0 in
    let line : line_of k (lines_of 0 table) ≡ Some (line_for k t) = line_at 0 k table t one.1 k (omega arith) in
    let L : Option ThreadLine → Type 0 = λ o. MatchOption o (t.plan ≡ None) (Bears t None) in
    let bears : L (line_of k (lines_of 0 table)) = subst L (sym line) (bears_line k t) in
    let F : Option Known → Type 0 = λ o. MatchOption o ⊥ (λ x. MatchOption (line_of k (lines_of 0 table)) (x.plan ≡ None) (Bears x None)) in
    subst F (sym one.1) bears
