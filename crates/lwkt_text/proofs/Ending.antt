-- The program of a thread's steps.
use Rattle.std.proofs.Common.{◌≡◌, ℕ, ◌<◌, ◌≤◌, List, length, Result, Ok, Err, refl, sym, ap, ◌∙◌, subst, arith}
use Rattle.lwkt_code.specs.Firsts.{AreClear, IsFirstWrong}
use Rattle.lwkt_code.specs.Programs.{Program}
use Rattle.lwkt_code.specs.declared.codes.Wrong.{Wrong as CodeWrong}
use Rattle.lwkt_code.specs.declared.codes.Wrong.TheVariants.{TooMany, Step as StepIsWrong, Circle}
use Rattle.lwkt_code.specs.declared.steps.Step.{Step}
use Rattle.lwkt_text.specs.declared.blocks.Line.{Line}
use Rattle.lwkt_text.specs.declared.wrongs.Wrong.{Wrong}
use Rattle.lwkt_text.specs.Drafting.{told_of, checked_program}

-- steps that are a program
checked_made : (lines : List Line) (steps : List Step) (repeat : ℕ) (vars : List ℕ) (code : Program) → AreClear steps → code ≡ record { steps = steps; repeat = repeat; vars = vars } → checked_program lines steps repeat vars ≡ Ok code
checked_made lines steps repeat vars code clear is = rw (clear.flawless, clear.no_circle) (ap (λ (p : Program). Ok p) (sym is))

pub clear_read : (lines : List Line) (steps made : List Step) (repeat : ℕ) (vars : List ℕ) (code : Program) → made ≡ steps → AreClear made → code ≡ record { steps = made; repeat = repeat; vars = vars } → checked_program lines steps repeat vars ≡ Ok code
clear_read lines steps made repeat vars code same clear is = subst (λ (ss : List Step). checked_program lines ss repeat vars ≡ Ok code) same (checked_made lines made repeat vars code clear is)

-- steps that aren't
checked_wrong : (lines : List Line) (steps : List Step) (repeat : ℕ) (vars : List ℕ) (wrong : CodeWrong) → length steps ≤ 768 → IsFirstWrong steps wrong → checked_program lines steps repeat vars ≡ Err (told_of lines wrong)
checked_wrong lines steps repeat vars TooMany few many = absurd (omega arith)
checked_wrong lines steps repeat vars (StepIsWrong at flaw) few is = rw is.1 refl
checked_wrong lines steps repeat vars (Circle begin end) few is = rw (is.1, is.2) refl

pub wrong_read : (lines : List Line) (steps made : List Step) (repeat : ℕ) (vars : List ℕ) (wrong : CodeWrong) → made ≡ steps → length made ≤ 768 → IsFirstWrong made wrong → checked_program lines steps repeat vars ≡ Err (told_of lines wrong)
wrong_read lines steps made repeat vars wrong same few is = subst (λ (ss : List Step). checked_program lines ss repeat vars ≡ Err (told_of lines wrong)) same (checked_wrong lines made repeat vars wrong few is)
