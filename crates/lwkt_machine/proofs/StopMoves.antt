-- Processors stop, one after another.
use Rattle.std.proofs.Common.{◌≡◌, ◌∙◌, ℕ, ◌+◌, ◌<◌, ◌≤◌, List, length, get_or, set, refl, sym, subst, inl, inr, arith, Some, Result, Ok, Err}
use Rattle.std.specs.Prelude.{All, OnErr, OnOk, Vec, slice_get}
use Rattle.std.specs.declared.alloc.Global.{Global}
use Rattle.std.proofs.lemmas.Bool.{cases_eq}
use Rattle.std.proofs.lemmas.List.{length-set}
use Rattle.std.proofs.lemmas.Option.{slice_get_within, slice_get-get_or}
use Rattle.lwkt_lane.proofs.PlaceMoves.{get_set_same, get_set_other, get_there, some_same}
use Rattle.lwkt_drive.specs.declared.driven.Driven.{Driven}
use Rattle.lwkt_core.specs.declared.events.Event.{Event}
use Rattle.lwkt_cpu.specs.Processors.{Processor, AllOver}
use Rattle.lwkt_drive.specs.Appending.{AppendsStop}
use Rattle.lwkt_machine.specs.Machines.{processors}
use Rattle.lwkt_machine.specs.Ended.{AreOver, AreSameCpus, AreStopped, EndsWith, HaveEnded, HaveStopped, IsSameCpu, IsStopped, IsStopRoom}
use Rattle.lwkt_machine.proofs.DrivenMoves.{driven_at, long_processors, processor_at, processors_set}
use Rattle.lwkt_machine.proofs.SameMoves.{same_set, same_self}

-- the next one stops
pub stopped_more : {B : Type 0} (olds mids : List (Driven B)) (at : ℕ) (p q : Driven B) → at < length mids → slice_get mids at ≡ Some p → IsStopped p q → HaveStopped at olds mids → HaveStopped (at + 1) olds (set mids at q)
stopped_more {B} olds mids at p q within here stops so_far = record {
  as_many = length-set mids at q ∙ so_far.as_many;
  below = λ k x y less was is. elim (cases_eq k at) [
    | inl same ↦
        let F : ℕ → Type 0 = λ i. slice_get (set mids at q) i ≡ Some y in
        let G : ℕ → Type 0 = λ i. slice_get olds i ≡ Some x in
        let H : Driven B → Type 0 = λ z. IsStopped z y in
        let K : Driven B → Type 0 = λ z. IsStopped p z in
        let q_y : q ≡ y = some_same q y (Some q) refl (sym (get_set_same mids at q within) ∙ subst F same is) in
        let p_x : p ≡ x = some_same p x (slice_get mids at) here (so_far.above at (omega arith) ∙ subst G same was) in
        subst H p_x (subst K q_y stops)
    | inr apart ↦ so_far.below k x y (omega (arith, less, apart)) was (sym (get_set_other mids at k q apart) ∙ is)
  ];
  above = λ k more. get_set_other mids at k q (λ e. omega (arith, e, more)) ∙ so_far.above k (omega (arith, more));
}

-- none has stopped yet
pub stopped_none : {B : Type 0} (olds : List (Driven B)) → HaveStopped 0 olds olds
stopped_none olds = record {
  as_many = refl;
  below = λ k p q less was is. absurd (omega (arith, less));
  above = λ k more. refl;
}

-- one that stops, or stays as it is, is still the same one
pub stop_same : {B E : Type 0} (r : Result (Unit {0}) E) (old new : Driven B) → OnOk r (AppendsStop old.cpu new.cpu old.trace.items new.trace.items) → OnErr r ((new.cpu ≡ old.cpu) × (new.trace.items ≡ old.trace.items)) → IsSameCpu old.cpu new.cpu
stop_same (Ok done) old new stops stays =
    let d = stops.does in
    record { bank = d.ran.bank; table = d.traced.same.table; number = d.ran.cpu; ports = d.same }
stop_same {B} (Err e) old new stops stays =
    let F : Processor B → Type 0 = λ q. IsSameCpu old.cpu q in
    subst F (sym stays.0) (same_self old.cpu)

-- and so are all of which one is
pub stopped_same : {B : Type 0} (olds mids : List (Driven B)) (at : ℕ) (p q : Driven B) → at < length mids → slice_get mids at ≡ Some p → IsSameCpu p.cpu q.cpu → AreSameCpus (processors olds) (processors mids) → AreSameCpus (processors olds) (processors (set mids at q))
stopped_same {B} olds mids at p q within here same so_far =
    let F : List (Processor B) → Type 0 = λ cpus. AreSameCpus (processors olds) cpus in
    let there : at < length (processors mids) = omega (arith, within, long_processors mids) in
    subst F (sym (processors_set mids at q)) (same_set (processors olds) (processors mids) at p.cpu q.cpu there (processor_at mids at p here) same so_far)

-- all have stopped
pub stopped_all : {B : Type 0} (olds news : List (Driven B)) (count : ℕ) → count ≡ length olds → HaveStopped count olds news → AreStopped olds news
stopped_all {B} olds news count all so_far =
    let F : ℕ → Type 0 = λ n. HaveStopped n olds news in
    subst F all so_far

-- every thread of those that have stopped has ended
pub stopped_over : {B : Type 0} (olds news : List (Driven B)) → AreStopped olds news → AreOver (processors news)
stopped_over {B} olds news stopped k p is =
    let d = driven_at news k p is in
    let within = slice_get_within news k d.0 d.1.0 in
    let less : k < length olds = omega (arith, within, stopped.as_many) in
    let was = get_there olds k less in
    let F : Processor B → Type 0 = λ q. AllOver q.threads in
    subst F d.1.1 (stopped.below k was.0 d.0 less was.1 d.1.0).stops.does.stops.over

-- the next one stops, and its events are in its list
pub ended_more : {B : Type 0} (olds mids : List (Driven B)) (stops : List (Vec Event Global)) (at : ℕ) (p q : Driven B) (stop : Vec Event Global) → at < length mids → at < length stops → slice_get mids at ≡ Some p → EndsWith p q stop → HaveEnded at olds mids stops → HaveEnded (at + 1) olds (set mids at q) (set stops at stop)
ended_more {B} olds mids stops at p q stop within there here ends so_far = record {
  as_many = length-set mids at q ∙ so_far.as_many;
  stops_are = length-set stops at stop ∙ so_far.stops_are;
  below = λ k x y v less was is traced. elim (cases_eq k at) [
    | inl same ↦
        let F : ℕ → Type 0 = λ i. slice_get (set mids at q) i ≡ Some y in
        let G : ℕ → Type 0 = λ i. slice_get olds i ≡ Some x in
        let H : ℕ → Type 0 = λ i. slice_get (set stops at stop) i ≡ Some v in
        let K : Driven B → Type 0 = λ z. EndsWith z y v in
        let L : Driven B → Type 0 = λ z. EndsWith p z v in
        let M : Vec Event Global → Type 0 = λ z. EndsWith p q z in
        let q_y : q ≡ y = some_same q y (Some q) refl (sym (get_set_same mids at q within) ∙ subst F same is) in
        let p_x : p ≡ x = some_same p x (slice_get mids at) here (so_far.above at (omega arith) ∙ subst G same was) in
        let stop_v : stop ≡ v = some_same stop v (Some stop) refl (sym (get_set_same stops at stop there) ∙ subst H same traced) in
        subst K p_x (subst L q_y (subst M stop_v ends))
    | inr apart ↦ so_far.below k x y v (omega (arith, less, apart)) was (sym (get_set_other mids at k q apart) ∙ is) (sym (get_set_other stops at k stop apart) ∙ traced)
  ];
  above = λ k more. get_set_other mids at k q (λ e. omega (arith, e, more)) ∙ so_far.above k (omega (arith, more));
}

-- all have stopped
pub ended_all : {B : Type 0} (olds news : List (Driven B)) (stops : List (Vec Event Global)) (count : ℕ) → count ≡ length olds → HaveEnded count olds news stops → HaveEnded (length olds) olds news stops
ended_all {B} olds news stops count all so_far =
    let F : ℕ → Type 0 = λ n. HaveEnded n olds news stops in
    subst F all so_far

-- none has stopped yet
pub ended_none : {B : Type 0} (olds : List (Driven B)) (stops : List (Vec Event Global)) → length stops ≡ length olds → HaveEnded 0 olds olds stops
ended_none olds stops many = record {
  as_many = refl;
  stops_are = many;
  below = λ k p q stop less was is traced. absurd (omega (arith, less));
  above = λ k more. refl;
}

-- every thread of those that have stopped has ended
pub ended_over : {B : Type 0} (olds news : List (Driven B)) (stops : List (Vec Event Global)) → HaveEnded (length olds) olds news stops → AreOver (processors news)
ended_over {B} olds news stops ended k p is =
    let d = driven_at news k p is in
    let within = slice_get_within news k d.0 d.1.0 in
    let less : k < length olds = omega (arith, within, ended.as_many) in
    let traced : k < length stops = omega (arith, less, ended.stops_are) in
    let was = get_there olds k less in
    let stop = get_there stops k traced in
    let F : Processor B → Type 0 = λ q. AllOver q.threads in
    subst F d.1.1 (ended.below k was.0 d.0 stop.0 less was.1 d.1.0 stop.1).stops.does.stops.over

-- the lists from this number on are empty and have room for the events of a stop
abbrev pub AreRoomsFrom : ℕ → List (Vec Event Global) → Type 0
AreRoomsFrom from stops = (k : ℕ) (v : Vec Event Global) → from ≤ k → slice_get stops k ≡ Some v → IsStopRoom v

pub rooms_first : (stops : List (Vec Event Global)) → All IsStopRoom stops → AreRoomsFrom 0 stops
rooms_first stops all k v from is =
    let within = slice_get_within stops k v is in
    let same : get_or stops k v ≡ v = some_same (get_or stops k v) v (slice_get stops k) (slice_get-get_or stops k v within) is in
    subst IsStopRoom same (all k v within)

pub rooms_more : (stops : List (Vec Event Global)) (at : ℕ) (stop : Vec Event Global) → AreRoomsFrom at stops → AreRoomsFrom (at + 1) (set stops at stop)
rooms_more stops at stop rooms k v from is = rooms k v (omega (arith, from)) (sym (get_set_other stops at k stop (λ same. omega (arith, same, from))) ∙ is)
