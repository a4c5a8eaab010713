-- Ways without an ask: those that go on for ever, and those that come back.
use Rattle.std.proofs.Common.{◌≡◌, ℕ, zero, suc, ◌+◌, ◌<◌, ◌≤◌, List, [], ◌∷◌, refl, sym, subst, arith}
use Rattle.lwkt_code.specs.declared.steps.Step.{Step}
use Rattle.lwkt_code.specs.Accepted.{leads_from, IsOneOf, IsRanked, IsAccepted, IsEndless, IsWay, last_from, IsCircle}

falling : (steps : List Step) (rank : ℕ → ℕ) (way : ℕ → ℕ) → IsRanked steps rank → IsEndless steps way → (i : ℕ) → rank (way i) + i ≤ rank (way 0)
falling steps rank way h e zero = omega arith
falling steps rank way h e (suc i) =
    let f : rank (way (suc i)) < rank (way i) = h (way i) (way (suc i)) (e i) in
    let g = falling steps rank way h e i in
    omega arith

pub none_endless : (steps : List Step) (way : ℕ → ℕ) → IsAccepted steps → ¬ (IsEndless steps way)
none_endless steps way a e = let f = falling steps a.rank way a.falls e (suc (a.rank (way 0))) in omega arith

module _ (steps : List Step) (begin end : ℕ) (circle : IsCircle steps begin end) where
  -- where one is on a circle: a place, and what is left of the way from there to its end
  record Stand : Type 0 where
    pub place : ℕ
    pub rest : List ℕ
    pub goes : IsWay steps place rest
    pub ends : last_from place rest ≡ end

  abbrev first : Stand
  first = record { place = begin; rest = circle.way; goes = circle.goes; ends = circle.ends }

  onward : (place : ℕ) (rest : List ℕ) → IsWay steps place rest → last_from place rest ≡ end → (s : Stand) × IsOneOf s.place (leads_from steps place)
  onward place [] goes ends = (first, subst (λ n. IsOneOf begin (leads_from steps n)) (sym ends) circle.back)
  onward place (to ∷ rest) goes ends = (record { place = to; rest = rest; goes = goes.1; ends = ends }, goes.0)

  walk : ℕ → Stand
  walk zero = first
  walk (suc i) = let s = walk i in (onward s.place s.rest s.goes s.ends).0

  round : (way : ℕ → ℕ) × (way 0 ≡ begin) × IsEndless steps way
  unfolding walk
  round = ((λ i. (walk i).place), refl, λ i. let s = walk i in (onward s.place s.rest s.goes s.ends).1)

pub circles_are_endless : (steps : List Step) (begin end : ℕ) → IsCircle steps begin end → (way : ℕ → ℕ) × (way 0 ≡ begin) × IsEndless steps way
circles_are_endless steps begin end circle = round steps begin end circle
