-- Turns and rounds, one after another.
use Rattle.std.proofs.Common.{◌≡◌, ◌≢◌, ◌⊎◌, ◌∙◌, ℕ, ◌+◌, ◌<◌, List, [], ◌∷◌, ◌++◌, length, length-append, refl, ap, subst, inl, inr, arith}
use Rattle.std.specs.Prelude.{Bool, true, false, All}
use Rattle.std.proofs.lemmas.List.Elements.{All-push}
use Rattle.lwkt_base.specs.declared.asks.Ask.{Ask}
use Rattle.lwkt_base.specs.declared.asks.Answer.{Answer}
use Rattle.lwkt_cpu.specs.declared.answers.Turned.{Turned}
use Rattle.lwkt_cpu.specs.declared.answers.Turned.TheVariants.{AllExited}
use Rattle.lwkt_machine.specs.Machines.{Rig}
use Rattle.lwkt_machine.specs.Turns.{TurnsKept, TurnsFrom, MakesRound, MakesRounds, IsOver, Runs}
use Rattle.lwkt_machine.proofs.ListMoves.{all_front, all_last}

-- one turn more
pub turns_more : {B : Type 0} (polled : B → Answer → Ask → B → Type 0) (cpu : ℕ) (old mid new : Rig B) (turns : List Turned) (turned : Turned) → TurnsFrom polled cpu old mid turns → TurnsKept polled (cpu + length turns) mid new turned → TurnsFrom polled cpu old new (turns ++ turned ∷ [])
turns_more {B} polled cpu old mid new [] turned made one =
    let F : Rig B → Type 0 = λ xs. TurnsKept polled cpu xs new turned in
    let G : ℕ → Type 0 = λ n. TurnsKept polled n mid new turned in
    let e : cpu + 0 ≡ cpu = omega arith in
    (new, (subst F made (subst G e one), refl))
turns_more {B} polled cpu old mid new (x ∷ turns) turned made one =
    let G : ℕ → Type 0 = λ n. TurnsKept polled n mid new turned in
    let e : cpu + length (x ∷ turns) ≡ cpu + 1 + length turns = omega arith in
    (made.0, (made.1.0, turns_more polled (cpu + 1) made.0 mid new turns turned made.1.1 (subst G e one)))

-- a round so far: so many turns, and whether each said that every thread of its processor has ended
pub record IsTurning {B : Type 0} (polled : B → Answer → Ask → B → Type 0) (old new : Rig B) (count : ℕ) (over : Bool) : Type 0 where
  pub turns : List Turned
  pub long : length turns ≡ count
  pub made : TurnsFrom polled 0 old new turns
  pub yes : over ≡ true → IsOver turns
  pub no : over ≡ false → ¬ IsOver turns
  pub as_many : length new.cpus ≡ length old.cpus

pub turning_more : {B : Type 0} (polled : B → Answer → Ask → B → Type 0) (old mid new : Rig B) (count : ℕ) (over now : Bool) (turned : Turned) → IsTurning polled old mid count over → TurnsKept polled count mid new turned → (now ≡ true → (over ≡ true) × (turned ≡ AllExited)) → (now ≡ false → (over ≡ false) ⊎ (turned ≢ AllExited)) → length new.cpus ≡ length mid.cpus → IsTurning polled old new (count + 1) now
turning_more polled old mid new count over now turned so_far one when unless many =
    let G : ℕ → Type 0 = λ n. TurnsKept polled n mid new turned in
    let e : count ≡ 0 + length so_far.turns = omega (arith, so_far.long) in
    record {
      turns = so_far.turns ++ turned ∷ [];
      long = length-append so_far.turns (turned ∷ []) ∙ ap (λ n. n + 1) so_far.long;
      made = turns_more polled 0 old mid new so_far.turns turned so_far.made (subst G e one);
      yes = λ is. All-push (λ t. t ≡ AllExited) so_far.turns turned (so_far.yes (when is).0) (when is).1;
      no = λ is all. elim (unless is) [
        | inl before ↦ so_far.no before (all_front (λ t. t ≡ AllExited) so_far.turns turned all)
        | inr apart ↦ apart (all_last (λ t. t ≡ AllExited) so_far.turns turned all)
      ];
      as_many = many ∙ so_far.as_many;
    }

-- one round more
pub rounds_more : {B : Type 0} (polled : B → Answer → Ask → B → Type 0) (old mid new : Rig B) (rounds : List (List Turned)) (round : List Turned) → MakesRounds polled old mid rounds → MakesRound polled mid new round → MakesRounds polled old new (rounds ++ round ∷ [])
rounds_more {B} polled old mid new [] round made one =
    let F : Rig B → Type 0 = λ xs. MakesRound polled xs new round in
    (new, (subst F made one, refl))
rounds_more {B} polled old mid new (x ∷ rounds) round made one =
    (made.0, (made.1.0, rounds_more polled made.0 mid new rounds round made.1.1 one))

-- so many rounds so far, none of which was over
pub record IsRunning {B : Type 0} (polled : B → Answer → Ask → B → Type 0) (old new : Rig B) (count : ℕ) : Type 0 where
  pub rounds : List (List Turned)
  pub long : length rounds ≡ count
  pub made : MakesRounds polled old new rounds
  pub going : All (λ round. ¬ IsOver round) rounds
  pub as_many : length new.cpus ≡ length old.cpus

-- what a round of these processors came to
abbrev pub Rounded : {B : Type 0} → (B → Answer → Ask → B → Type 0) → Rig B → Rig B → Bool → Type 0
Rounded polled old new over = (turns : List Turned) × (MakesRound polled old new turns × (over ≡ true → IsOver turns) × (over ≡ false → ¬ IsOver turns))

pub running_more : {B : Type 0} (polled : B → Answer → Ask → B → Type 0) (old mid new : Rig B) (count : ℕ) (over : Bool) → over ≡ false → IsRunning polled old mid count → Rounded polled mid new over → length new.cpus ≡ length mid.cpus → IsRunning polled old new (count + 1)
running_more polled old mid new count over is so_far one many = record {
  rounds = so_far.rounds ++ one.0 ∷ [];
  long = length-append so_far.rounds (one.0 ∷ []) ∙ ap (λ n. n + 1) so_far.long;
  made = rounds_more polled old mid new so_far.rounds one.0 so_far.made one.1.0;
  going = All-push (λ round. ¬ IsOver round) so_far.rounds one.0 so_far.going (one.1.2 is);
  as_many = many ∙ so_far.as_many;
}

pub runs_over : {B : Type 0} (polled : B → Answer → Ask → B → Type 0) (old mid new : Rig B) (count limit : ℕ) (over : Bool) → over ≡ true → count < limit → IsRunning polled old mid count → Rounded polled mid new over → Runs polled limit old new
runs_over polled old mid new count limit over is less so_far one =
    let more = length-append so_far.rounds (one.0 ∷ []) in
    record {
      rounds = so_far.rounds ++ one.0 ∷ [];
      made = rounds_more polled old mid new so_far.rounds one.0 so_far.made one.1.0;
      stops = inr (so_far.rounds, (one.0, (so_far.going, one.1.1 is, refl, omega (arith, more, less, so_far.long))));
    }
