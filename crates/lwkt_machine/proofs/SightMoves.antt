-- A processor of a machine sees what was sent to it, and what it has seen is received where mail is taken in.
use Rattle.std.proofs.Common.{◌≡◌, ◌≢◌, ⊎_elim, ℕ, zero, suc, ◌+◌, ◌-◌, ◌<◌, ◌≤◌, inl, inr, List, [], ◌∷◌, ◌++◌, length, map, set, get_or, take, refl, ap, sym, ◌∙◌, subst, arith, append_assoc, get_or-set_same, get_or-set_other, Some}
use Rattle.std.proofs.lemmas.Bool.{cases_lt}
use Rattle.std.proofs.lemmas.List.{get_or_default, take_more, take_more_set}
use Rattle.std.proofs.lemmas.Option.{slice_get_within, get_or_from_slice_get}
use Rattle.std.specs.List.{AllZip}
use Rattle.std.specs.Prelude.{◌⊎◌, All, IsSome, Vec, slice_get, slice_index_or}
use Rattle.std.specs.declared.alloc.Global.{Global}
use mathlib.Core.List.{IsPrefix}
use mathlib.Core.Logic.{dite}
use native.Mathlib.Decide.{ℕ_discrete}
use Rattle.lwkt_core.specs.declared.events.Event.{Event}
use Rattle.lwkt_bank.specs.Seats.{bank_of}
use Rattle.lwkt_hold.proofs.RunMoves.{AllZip-append}
use Rattle.lwkt_lane.specs.declared.notes.Note.{Note}
use Rattle.lwkt_lane.specs.declared.outs.LaneOut.{LaneOut}
use Rattle.lwkt_lane.specs.Lane.{queued, received, seen_notes, out_lane, in_lane}
use Rattle.lwkt_port.specs.declared.lines.Lane.{Lane}
use Rattle.lwkt_port.specs.Intakes.{PostTakesIn}
use Rattle.lwkt_port.specs.Laws.{TakesSeen}
use Rattle.lwkt_port.specs.Posts.{Post, ChangesOne}
use Rattle.lwkt_port.specs.Sights.{SeesAll, SeesOwnLine as LineSeesOwn, IsDelivered}
use Rattle.lwkt_port.proofs.DeliveryMoves.{seen_taken}
use Rattle.lwkt_port.proofs.JoinMoves.{same_many}
use Rattle.lwkt_cpu.specs.Processors.{Processor}
use Rattle.lwkt_cpu.specs.Sights.{AreLinked, SeesLane, SeesOwnLane}
use Rattle.lwkt_lane.proofs.PlaceMoves.{get_there, some_same}
use Rattle.lwkt_cpu.proofs.SightMoves.{IsLooked, looked_none, looked_then, looked_seat, looked_post, beside_looked, sees_looked, sees_own_looked, joined_stay}
use Rattle.lwkt_cpu.proofs.WakeMoves.{post_none}
use Rattle.lwkt_machine.specs.Ended.{AreSameCpus}
use Rattle.lwkt_machine.specs.Machines.{AreAllJoined, AreNumbered}
use Rattle.lwkt_machine.specs.Sights.{SeesEach, IsLookedAt, SeesFrom, SeesSent}
use Rattle.lwkt_machine.proofs.ListMoves.{all_from_get, zip_long, zip_get}

-- the elements of a list by a front of it, the one behind the front, and the others
get_front : {A : Type 0} (xs ys : List A) (k : ℕ) → k < length xs → slice_get (xs ++ ys) k ≡ slice_get xs k
get_front [] ys k less = absurd (omega (arith, less))
get_front (x ∷ xs) ys zero less = refl
get_front (x ∷ xs) ys (suc k) less = get_front xs ys k (omega (arith, less))

get_behind : {A : Type 0} (xs ys : List A) (y : A) → slice_get (xs ++ y ∷ ys) (length xs) ≡ Some y
get_behind [] ys y = refl
get_behind (x ∷ xs) ys y = get_behind xs ys y

get_later : {A : Type 0} (xs ys : List A) (y : A) (j : ℕ) → slice_get (xs ++ y ∷ ys) (suc (length xs + j)) ≡ slice_get ys j
get_later [] ys y j = let none : 0 + j ≡ j = omega arith in ap (λ i. slice_get ys i) none
get_later (x ∷ xs) ys y j =
    let all : List _ = x ∷ xs in
    let one : length all + j ≡ suc (length xs + j) = omega arith in
    ap (λ i. slice_get (xs ++ y ∷ ys) i) one ∙ get_later xs ys y j

module _ {B : Type 0} where
  -- a processor that sees what others have sent is looked at, and so are they
  pub each_looked : (p q : Processor B) (olds news : List (Processor B)) → SeesEach p q olds news → IsLooked p q × AllZip (IsLooked {B = B}) olds news
  each_looked p q [] [] is = (let F : Processor B → Type 0 = λ x. IsLooked p x in subst F (sym is) (looked_none p), tt)
  each_looked p q [] (s ∷ news) is = absurd is
  each_looked p q (s ∷ olds) [] is = absurd is
  each_looked p q (s ∷ olds) (s' ∷ news) is =
      let one = sees_looked s s' p is.0 is.1.0 in
      let rest = each_looked is.0 q olds news is.1.1 in
      (looked_then p is.0 q one.0 rest.0, (one.1, rest.1))

-- two lists that are as long, and fit at each place
zip_from : {A B : Type 0} (R : A → B → Type 0) (xs : List A) (ys : List B) → length ys ≡ length xs → ((k : ℕ) (x : A) (y : B) → slice_get xs k ≡ Some x → slice_get ys k ≡ Some y → R x y) → AllZip R xs ys
zip_from R [] [] many each = tt
zip_from R [] (y ∷ ys) many each = absurd (omega (arith, many))
zip_from R (x ∷ xs) [] many each = absurd (omega (arith, many))
zip_from R (x ∷ xs) (y ∷ ys) many each = (each 0 x y refl refl, zip_from R xs ys (omega (arith, many)) (λ k x y old new. each (suc k) x y old new))

-- what is the same at each place is the same of the list
map_same : {A B : Type 0} (f : A → B) (xs ys : List A) → length ys ≡ length xs → ((k : ℕ) (d : A) → f (get_or ys k d) ≡ f (get_or xs k d)) → map f ys ≡ map f xs
map_same f [] [] many each = refl
map_same f [] (y ∷ ys) many each = absurd (omega (arith, many))
map_same f (x ∷ xs) [] many each = absurd (omega (arith, many))
map_same f (x ∷ xs) (y ∷ ys) many each = ap (λ b. b ∷ map f ys) (each 0 x) ∙ ap (λ bs. f x ∷ bs) (map_same f xs ys (omega (arith, many)) (λ k d. each (suc k) d))

-- a line whose ends are of the same lanes, and into whose queue nothing went
record IsLine (line line' : Lane) : Type 0 where
  out : out_lane line'.out ≡ out_lane line.out
  into : in_lane line'.into ≡ in_lane line.into
  queue : queued line'.out ≡ queued line.out

module _ {B : Type 0} where
  line_kept : (cpu : ℕ) (cpus : List (Processor B)) (p q : Processor B) → SeesFrom cpu cpus p q → (k : ℕ) (d : Lane) → IsLine (get_or p.post.lanes k d) (get_or q.post.lanes k d)
  line_kept cpu cpus p q sees k d = dite (ℕ_discrete k cpu)
      (λ same.
      let F : ℕ → Type 0 = λ i. IsLine (get_or p.post.lanes i d) (get_or q.post.lanes i d) in
      let own = sees.own d in
      let h : IsLine (get_or p.post.lanes cpu d) (get_or q.post.lanes cpu d) = record { out = own.beside.lane_same; into = own.into.lane_same; queue = own.beside.queued_same } in
      subst F (sym same) h)
      (λ apart. ⊎_elim
      (λ (within : k < length cpus).
      let x = get_there cpus k within in
      let one = sees.others k x.0 d d apart x.1 in
      let h : IsLine (get_or p.post.lanes k d) (get_or q.post.lanes k d) = record { out = ap (λ o. out_lane o) one.out_same; into = one.into.lane_same; queue = ap (λ o. queued o) one.out_same } in
      h)
      (λ (beyond : length cpus ≤ k).
      let is = sees.rest k d beyond in
      let h : IsLine (get_or p.post.lanes k d) (get_or q.post.lanes k d) = record { out = ap (λ (l : Lane). out_lane l.out) is; into = ap (λ (l : Lane). in_lane l.into) is; queue = ap (λ (l : Lane). queued l.out) is } in
      h)
      (cases_lt k (length cpus)))

  from_looked : (cpu : ℕ) (cpus : List (Processor B)) (p q : Processor B) → SeesFrom cpu cpus p q → IsLooked p q
  from_looked cpu cpus p q sees = record {
    lanes = record {
      outs = map_same (λ (line : Lane). out_lane line.out) p.post.lanes q.post.lanes sees.as_many (λ k d. (line_kept cpu cpus p q sees k d).out);
      ins = map_same (λ (line : Lane). in_lane line.into) p.post.lanes q.post.lanes sees.as_many (λ k d. (line_kept cpu cpus p q sees k d).into);
    };
    queues = λ k d. (line_kept cpu cpus p q sees k d).queue;
    else_same = sees.else_same;
  }

  -- where a processor sees what was sent to it, all are looked at
  pub sent_looked : (cpu : ℕ) (olds news : List (Processor B)) → SeesSent cpu olds news → AllZip (IsLooked {B = B}) olds news
  sent_looked cpu olds news o = zip_from (IsLooked {B = B}) olds news o.as_many (λ k s s' old new. dite (ℕ_discrete k cpu)
      (λ same. from_looked cpu olds s s' (o.sees s s' (ap (λ i. slice_get olds i) (sym same) ∙ old) (ap (λ i. slice_get news i) (sym same) ∙ new)))
      (λ apart. let one = o.others k s s' apart old new in beside_looked cpu s s' one.line one.else_same))

  -- processors that were looked at are the same ones
  pub looked_same : (olds news : List (Processor B)) → AllZip (IsLooked {B = B}) olds news → AreSameCpus olds news
  looked_same olds news zip = record {
    as_many = zip_long (IsLooked {B = B}) olds news zip;
    each = λ k q at.
        let x = zip_get (IsLooked {B = B}) olds news zip k q at in
        let seat = looked_seat x.0 q x.1.1 in
        let ports = looked_post x.0 q x.1.1 in
        (x.0, (x.1.0, record { bank = ap (λ s. bank_of s) seat; table = ports.seat.table; number = ap (λ s. s.cpu) seat; ports = ports }));
  }

-- one line changed, and no other
change_at : (R : Lane → Lane → Type 0) (i : ℕ) (a b : List Lane) → ChangesOne R i a b → (d : Lane) → R (get_or a i d) (get_or b i d)
change_at R i a b c d =
    let F : Lane × Lane → Type 0 = λ l. R l.0 l.1 in
    let old : get_or a i d ≡ c.old = get_or_default a i d c.old c.there ∙ c.was in
    let new : get_or b i d ≡ c.new = ap (λ l. get_or l i d) c.now ∙ get_or-set_same a i c.new d c.there in
    subst F (λ k. (sym old k, sym new k)) c.does

change_apart : (R : Lane → Lane → Type 0) (i : ℕ) (a b : List Lane) → ChangesOne R i a b → (k : ℕ) (d : Lane) → k ≢ i → get_or b k d ≡ get_or a k d
change_apart R i a b c k d apart = ap (λ l. get_or l k d) c.now ∙ get_or-set_other a i k c.new d apart

module _ {B : Type 0} where
  -- processors have the numbers from this one on
  abbrev AreNumberedFrom : ℕ → List (Processor B) → Type 0
  AreNumberedFrom base cpus = (j : ℕ) (s : Processor B) → slice_get cpus j ≡ Some s → s.seat.cpu.0 ≡ base + j

  numbered_rest : (base : ℕ) (x : Processor B) (cpus : List (Processor B)) → AreNumberedFrom base (x ∷ cpus) → AreNumberedFrom (base + 1) cpus
  numbered_rest base x cpus numbered j s at = let n : s.seat.cpu.0 ≡ base + suc j = numbered (suc j) s at in omega (arith, n)

  -- the line of none of these is as it was
  each_apart : (p q : Processor B) (olds news : List (Processor B)) → SeesEach p q olds news → (k : ℕ) (d : Lane) → ((j : ℕ) (s : Processor B) → slice_get olds j ≡ Some s → k ≢ s.seat.cpu.0) → get_or q.post.lanes k d ≡ get_or p.post.lanes k d
  each_apart p q [] [] is k d apart = ap (λ (x : Processor B). get_or x.post.lanes k d) is
  each_apart p q [] (s ∷ news) is k d apart = absurd is
  each_apart p q (s ∷ olds) [] is k d apart = absurd is
  each_apart p q (s ∷ olds) (s' ∷ news) is k d apart =
      each_apart is.0 q olds news is.1.1 k d (λ j x at. apart (suc j) x at)
      ∙ change_apart _ s.seat.cpu.0 p.post.lanes is.0.post.lanes is.1.0.lanes.sees k d (apart 0 s refl)

  -- a line of the one saw all that the sending end of the other put into the queue between them
  abbrev SeesLine : (to : ℕ) (s p q : Processor B) (from : ℕ) (d e : Lane) → Type 0
  SeesLine to s p q from d e = SeesAll (get_or s.post.lanes to d).out (get_or p.post.lanes from e) (get_or q.post.lanes from e)

  sees_line : (s s' p q : Processor B) → SeesLane s s' p q → (d e : Lane) → SeesLine p.seat.cpu.0 s p q s.seat.cpu.0 d e
  sees_line s s' p q sees d e =
      let b = sees.lanes.beside in
      let out_is : get_or s.post.lanes p.seat.cpu.0 d ≡ b.old = get_or_default s.post.lanes p.seat.cpu.0 d b.old b.there ∙ b.was in
      let F : Lane → Type 0 = λ l. SeesAll l.out (get_or p.post.lanes s.seat.cpu.0 e) (get_or q.post.lanes s.seat.cpu.0 e) in
      subst F (sym out_is) (change_at (SeesAll b.old.out) s.seat.cpu.0 p.post.lanes q.post.lanes sees.lanes.sees e)

  each_sees : (base : ℕ) (p q : Processor B) (olds news : List (Processor B)) → AreNumberedFrom base olds → SeesEach p q olds news → (j : ℕ) (s : Processor B) (d e : Lane) → slice_get olds j ≡ Some s → SeesLine p.seat.cpu.0 s p q s.seat.cpu.0 d e
  each_sees base p q [] [] numbered is j s d e at = absurd (omega (arith, slice_get_within [] j s at))
  each_sees base p q [] (x ∷ news) numbered is j s d e at = absurd is
  each_sees base p q (x ∷ olds) [] numbered is j s d e at = absurd is
  each_sees base p q (x ∷ olds) (x' ∷ news) numbered is zero s d e at =
      let same : x ≡ s = some_same x s (Some x) refl at in
      let n : x.seat.cpu.0 ≡ base + 0 = numbered 0 x refl in
      let F : Processor B → Type 0 = λ y. SeesLine p.seat.cpu.0 y p q y.seat.cpu.0 d e in
      let G : Lane → Type 0 = λ l. SeesAll (get_or x.post.lanes p.seat.cpu.0 d).out (get_or p.post.lanes x.seat.cpu.0 e) l in
      let stays : get_or q.post.lanes x.seat.cpu.0 e ≡ get_or is.0.post.lanes x.seat.cpu.0 e = each_apart is.0 q olds news is.1.1 x.seat.cpu.0 e (λ i y there. let m : y.seat.cpu.0 ≡ base + suc i = numbered (suc i) y there in λ same_cpu. omega (arith, same_cpu, m, n)) in
      subst F same (subst G (sym stays) (sees_line x x' p is.0 is.1.0 d e))
  each_sees base p q (x ∷ olds) (x' ∷ news) numbered is (suc j) s d e at =
      let m : s.seat.cpu.0 ≡ base + suc j = numbered (suc j) s at in
      let n : x.seat.cpu.0 ≡ base + 0 = numbered 0 x refl in
      let seat = looked_seat p is.0 (sees_looked x x' p is.0 is.1.0).0 in
      let was : get_or is.0.post.lanes s.seat.cpu.0 e ≡ get_or p.post.lanes s.seat.cpu.0 e = change_apart _ x.seat.cpu.0 p.post.lanes is.0.post.lanes is.1.0.lanes.sees s.seat.cpu.0 e (λ same_cpu. omega (arith, same_cpu, m, n)) in
      let F : ℕ × Lane → Type 0 = λ k. SeesAll (get_or s.post.lanes k.0 d).out k.1 (get_or q.post.lanes s.seat.cpu.0 e) in
      let cpu_is : is.0.seat.cpu.0 ≡ p.seat.cpu.0 = ap (λ c. c.cpu.0) seat in
      subst F (λ i. (cpu_is i, was i)) (each_sees (base + 1) is.0 q olds news (numbered_rest base x olds numbered) is.1.1 j s d e at)

  -- of each of the others its line to the processor was looked at
  each_beside : (p q : Processor B) (olds news : List (Processor B)) → SeesEach p q olds news → AllZip (IsLookedAt p.seat.cpu.0) olds news
  each_beside p q [] [] is = tt
  each_beside p q [] (s ∷ news) is = absurd is
  each_beside p q (s ∷ olds) [] is = absurd is
  each_beside p q (s ∷ olds) (s' ∷ news) is =
      let cpu_is : is.0.seat.cpu.0 ≡ p.seat.cpu.0 = ap (λ c. c.cpu.0) (looked_seat p is.0 (sees_looked s s' p is.0 is.1.0).0) in
      let F : ℕ → Type 0 = λ k. AllZip (IsLookedAt k) olds news in
      (record { line = is.1.0.lanes.beside; else_same = is.1.0.sender_else }, subst F cpu_is (each_beside is.0 q olds news is.1.1))

zip_at : {A B : Type 0} (R : A → B → Type 0) (xs : List A) (ys : List B) → AllZip R xs ys → (k : ℕ) (x : A) (y : B) → slice_get xs k ≡ Some x → slice_get ys k ≡ Some y → R x y
zip_at R xs ys zip k x y old new =
    let z = zip_get R xs ys zip k y new in
    subst (λ w. R w y) (some_same z.0 x (slice_get xs k) z.1.0 old) z.1.1

-- lists that fit but for one place
zip_around : {A : Type 0} (R : A → A → Type 0) (xs xs' ys ys' : List A) (p q : A) → AllZip R xs xs' → AllZip R ys ys' → (k : ℕ) (x y : A) → k ≢ length xs → slice_get (xs ++ p ∷ ys) k ≡ Some x → slice_get (xs' ++ q ∷ ys') k ≡ Some y → R x y
zip_around R [] [] ys ys' p q one two zero x y apart old new = absurd (apart refl)
zip_around R [] [] ys ys' p q one two (suc k) x y apart old new = zip_at R ys ys' two k x y old new
zip_around R [] (z ∷ xs') ys ys' p q one two k x y apart old new = absurd one
zip_around R (z ∷ xs) [] ys ys' p q one two k x y apart old new = absurd one
zip_around R (z ∷ xs) (w ∷ xs') ys ys' p q one two zero x y apart old new = zip_at R (z ∷ xs) (w ∷ xs') one 0 x y old new
zip_around R (z ∷ xs) (w ∷ xs') ys ys' p q one two (suc k) x y apart old new = zip_around R xs xs' ys ys' p q one.1 two k x y (λ same. apart (ap suc same)) old new

module _ {B : Type 0} where
  -- the steps of the look: a processor sees what it has sent to itself, then what those of lower numbers and those of higher ones have sent
  -- to it
  pub record Looks (cpu : ℕ) (olds news : List (Processor B)) : Type 0 where
    pub lower : List (Processor B)
    pub upper : List (Processor B)
    pub lower' : List (Processor B)
    pub upper' : List (Processor B)
    pub before : Processor B
    pub one : Processor B
    pub two : Processor B
    pub after : Processor B
    pub number : length lower ≡ cpu
    pub were : olds ≡ lower ++ before ∷ upper
    pub are : news ≡ lower' ++ after ∷ upper'
    pub own : SeesOwnLane before one
    pub from_lower : SeesEach one two lower lower'
    pub from_upper : SeesEach two after upper upper'

  -- of processors at their numbers, by the steps: the numbers of all, and of the one at each step
  low_numbered : (cpu : ℕ) (olds news : List (Processor B)) (o : Looks cpu olds news) → AreNumbered olds → AreNumberedFrom 0 o.lower
  low_numbered cpu olds news o numbered j x is =
      let n : x.seat.cpu.0 ≡ j = numbered j x (ap (λ l. slice_get l j) o.were ∙ get_front o.lower (o.before ∷ o.upper) j (slice_get_within o.lower j x is) ∙ is) in
      omega (arith, n)

  up_numbered : (cpu : ℕ) (olds news : List (Processor B)) (o : Looks cpu olds news) → AreNumbered olds → AreNumberedFrom (cpu + 1) o.upper
  up_numbered cpu olds news o numbered j x is =
      let n : x.seat.cpu.0 ≡ suc (length o.lower + j) = numbered (suc (length o.lower + j)) x (ap (λ l. slice_get l (suc (length o.lower + j))) o.were ∙ get_later o.lower o.upper o.before j ∙ is) in
      omega (arith, n, o.number)

  cpu_before : (cpu : ℕ) (olds news : List (Processor B)) (o : Looks cpu olds news) → AreNumbered olds → o.before.seat.cpu.0 ≡ cpu
  cpu_before cpu olds news o numbered = numbered (length o.lower) o.before (ap (λ l. slice_get l (length o.lower)) o.were ∙ get_behind o.lower o.upper o.before) ∙ o.number

  one_looked : (cpu : ℕ) (olds news : List (Processor B)) (o : Looks cpu olds news) → IsLooked o.before o.one
  one_looked cpu olds news o = sees_own_looked o.before o.one o.own

  two_looked : (cpu : ℕ) (olds news : List (Processor B)) (o : Looks cpu olds news) → IsLooked o.before o.two
  two_looked cpu olds news o = looked_then o.before o.one o.two (one_looked cpu olds news o) (each_looked o.one o.two o.lower o.lower' o.from_lower).0

  after_looked : (cpu : ℕ) (olds news : List (Processor B)) (o : Looks cpu olds news) → IsLooked o.before o.after
  after_looked cpu olds news o = looked_then o.before o.two o.after (two_looked cpu olds news o) (each_looked o.two o.after o.upper o.upper' o.from_upper).0

  cpu_same : (p q : Processor B) → IsLooked p q → q.seat.cpu.0 ≡ p.seat.cpu.0
  cpu_same p q looked = ap (λ c. c.cpu.0) (looked_seat p q looked)

  -- of the others, but for the line that was looked at nothing changed
  others_beside : (cpu : ℕ) (olds news : List (Processor B)) (o : Looks cpu olds news) → AreNumbered olds → (k : ℕ) (s s' : Processor B) → k ≢ cpu → slice_get olds k ≡ Some s → slice_get news k ≡ Some s' → IsLookedAt cpu s s'
  others_beside cpu olds news o numbered k s s' apart old new =
      let mine = cpu_before cpu olds news o numbered in
      let F : ℕ → Type 0 = λ i. AllZip (IsLookedAt i) o.lower o.lower' in
      let G : ℕ → Type 0 = λ i. AllZip (IsLookedAt i) o.upper o.upper' in
      let low : AllZip (IsLookedAt cpu) o.lower o.lower' = subst F (cpu_same o.before o.one (one_looked cpu olds news o) ∙ mine) (each_beside o.one o.two o.lower o.lower' o.from_lower) in
      let up : AllZip (IsLookedAt cpu) o.upper o.upper' = subst G (cpu_same o.before o.two (two_looked cpu olds news o) ∙ mine) (each_beside o.two o.after o.upper o.upper' o.from_upper) in
      zip_around (IsLookedAt cpu) o.lower o.lower' o.upper o.upper' o.before o.after low up k s s' (λ same. apart (same ∙ o.number)) (sym (ap (λ l. slice_get l k) o.were) ∙ old) (sym (ap (λ l. slice_get l k) o.are) ∙ new)

  -- the line of a number that none of the lower ones has, or none of the higher ones, is as it was
  low_apart : (cpu : ℕ) (olds news : List (Processor B)) (o : Looks cpu olds news) → AreNumbered olds → (k : ℕ) (d : Lane) → cpu ≤ k → get_or o.two.post.lanes k d ≡ get_or o.one.post.lanes k d
  low_apart cpu olds news o numbered k d less = each_apart o.one o.two o.lower o.lower' o.from_lower k d (λ j x at.
      let n : x.seat.cpu.0 ≡ 0 + j = low_numbered cpu olds news o numbered j x at in
      λ same. omega (arith, same, n, less, o.number, slice_get_within o.lower j x at))

  up_apart : (cpu : ℕ) (olds news : List (Processor B)) (o : Looks cpu olds news) → AreNumbered olds → (k : ℕ) (d : Lane) → (k ≤ cpu) ⊎ (length olds ≤ k) → get_or o.after.post.lanes k d ≡ get_or o.two.post.lanes k d
  up_apart cpu olds news o numbered k d place = each_apart o.two o.after o.upper o.upper' o.from_upper k d (λ j x at.
      let n : x.seat.cpu.0 ≡ cpu + 1 + j = up_numbered cpu olds news o numbered j x at in
      let there : slice_get olds (suc (length o.lower + j)) ≡ Some x = ap (λ l. slice_get l (suc (length o.lower + j))) o.were ∙ get_later o.lower o.upper o.before j ∙ at in
      let within : suc (length o.lower + j) < length olds = slice_get_within olds (suc (length o.lower + j)) x there in
      λ same. ⊎_elim (λ (low : k ≤ cpu). absurd (omega (arith, same, n, low))) (λ (high : length olds ≤ k). absurd (omega (arith, same, n, high, within, o.number))) place)

  own_apart : (cpu : ℕ) (olds news : List (Processor B)) (o : Looks cpu olds news) → AreNumbered olds → (k : ℕ) (d : Lane) → k ≢ cpu → get_or o.one.post.lanes k d ≡ get_or o.before.post.lanes k d
  own_apart cpu olds news o numbered k d apart = change_apart LineSeesOwn o.before.seat.cpu.0 o.before.post.lanes o.one.post.lanes o.own.sees k d (λ same. apart (same ∙ cpu_before cpu olds news o numbered))

  -- what the processor sees of a lower one, and of a higher one
  sees_low : (cpu : ℕ) (olds news : List (Processor B)) (o : Looks cpu olds news) → AreNumbered olds → (k : ℕ) (s : Processor B) (d e : Lane) → k < cpu → slice_get olds k ≡ Some s → SeesLine cpu s o.before o.after k d e
  sees_low cpu olds news o numbered k s d e less at =
      let within : k < length o.lower = omega (arith, less, o.number) in
      let here : slice_get o.lower k ≡ Some s = sym (ap (λ l. slice_get l k) o.were ∙ get_front o.lower (o.before ∷ o.upper) k within) ∙ at in
      let seen : SeesLine o.one.seat.cpu.0 s o.one o.two s.seat.cpu.0 d e = each_sees 0 o.one o.two o.lower o.lower' (low_numbered cpu olds news o numbered) o.from_lower k s d e here in
      let F : ℕ × ℕ → Type 0 = λ i. SeesLine i.0 s o.one o.two i.1 d e in
      let to_is = cpu_same o.before o.one (one_looked cpu olds news o) ∙ cpu_before cpu olds news o numbered in
      let from_is = numbered k s at in
      let G : Lane × Lane → Type 0 = λ l. SeesAll (get_or s.post.lanes cpu d).out l.0 l.1 in
      let was = own_apart cpu olds news o numbered k e (λ same. omega (arith, same, less)) in
      let now = up_apart cpu olds news o numbered k e (inl (omega (arith, less))) in
      subst G (λ i. (was i, sym now i)) (subst F (λ i. (to_is i, from_is i)) seen)

  sees_high : (cpu : ℕ) (olds news : List (Processor B)) (o : Looks cpu olds news) → AreNumbered olds → (k : ℕ) (s : Processor B) (d e : Lane) → cpu < k → slice_get olds k ≡ Some s → SeesLine cpu s o.before o.after k d e
  sees_high cpu olds news o numbered k s d e less at =
      let j : ℕ = k - (cpu + 1) in
      let n : suc (length o.lower + j) ≡ k = omega (arith, less, o.number) in
      let here : slice_get o.upper j ≡ Some s = sym (ap (λ l. slice_get l (suc (length o.lower + j))) o.were ∙ get_later o.lower o.upper o.before j) ∙ ap (λ i. slice_get olds i) n ∙ at in
      let seen : SeesLine o.two.seat.cpu.0 s o.two o.after s.seat.cpu.0 d e = each_sees (cpu + 1) o.two o.after o.upper o.upper' (up_numbered cpu olds news o numbered) o.from_upper j s d e here in
      let F : ℕ × ℕ → Type 0 = λ i. SeesLine i.0 s o.two o.after i.1 d e in
      let to_is = cpu_same o.before o.two (two_looked cpu olds news o) ∙ cpu_before cpu olds news o numbered in
      let from_is = numbered k s at in
      let G : Lane → Type 0 = λ l. SeesAll (get_or s.post.lanes cpu d).out l (get_or o.after.post.lanes k e) in
      let was = low_apart cpu olds news o numbered k e (omega (arith, less)) ∙ own_apart cpu olds news o numbered k e (λ same. omega (arith, same, less)) in
      subst G was (subst F (λ i. (to_is i, from_is i)) seen)

  sees_own : (cpu : ℕ) (olds news : List (Processor B)) (o : Looks cpu olds news) → AreNumbered olds → (d : Lane) → LineSeesOwn (get_or o.before.post.lanes cpu d) (get_or o.after.post.lanes cpu d)
  sees_own cpu olds news o numbered d =
      let same : cpu ≤ cpu = omega arith in
      let F : ℕ → Type 0 = λ i. LineSeesOwn (get_or o.before.post.lanes i d) (get_or o.one.post.lanes i d) in
      let G : Lane → Type 0 = λ l. LineSeesOwn (get_or o.before.post.lanes cpu d) l in
      let now = up_apart cpu olds news o numbered cpu d (inl same) ∙ low_apart cpu olds news o numbered cpu d same in
      subst G (sym now) (subst F (cpu_before cpu olds news o numbered) (change_at LineSeesOwn o.before.seat.cpu.0 o.before.post.lanes o.one.post.lanes o.own.sees d))

  steps_see : (cpu : ℕ) (olds news : List (Processor B)) (o : Looks cpu olds news) → AreNumbered olds → SeesFrom cpu olds o.before o.after
  steps_see cpu olds news o numbered =
      let looked = after_looked cpu olds news o in
      let behind : cpu < length olds = (let at = ap (λ l. slice_get l (length o.lower)) o.were ∙ get_behind o.lower o.upper o.before in omega (arith, o.number, slice_get_within olds (length o.lower) o.before at)) in
      record {
        as_many = same_many o.before.post.lanes o.after.post.lanes looked.lanes;
        others = λ k s d e apart at. ⊎_elim
            (λ (less : k < cpu). sees_low cpu olds news o numbered k s d e less at)
            (λ (more : cpu ≤ k). sees_high cpu olds news o numbered k s d e (omega (arith, more, apart)) at)
            (cases_lt k cpu);
        own = sees_own cpu olds news o numbered;
        rest = λ k d beyond. up_apart cpu olds news o numbered k d (inr beyond) ∙ low_apart cpu olds news o numbered k d (omega (arith, beyond, behind)) ∙ own_apart cpu olds news o numbered k d (λ same. omega (arith, same, beyond, behind));
        else_same = looked.else_same;
      }

  -- in whatever order the steps were made
  pub all_seen : (cpu : ℕ) (olds news : List (Processor B)) → AreNumbered olds → Looks cpu olds news → SeesSent cpu olds news
  all_seen cpu olds news numbered o =
      let low = (each_looked o.one o.two o.lower o.lower' o.from_lower).1 in
      let up = (each_looked o.two o.after o.upper o.upper' o.from_upper).1 in
      let zip : AllZip (IsLooked {B = B}) (o.lower ++ o.before ∷ o.upper) (o.lower' ++ o.after ∷ o.upper') = AllZip-append (IsLooked {B = B}) o.lower o.lower' (o.before ∷ o.upper) (o.after ∷ o.upper') low (after_looked cpu olds news o, up) in
      let many : length o.lower' ≡ cpu = zip_long (IsLooked {B = B}) o.lower o.lower' low ∙ o.number in
      record {
        as_many = ap length o.are ∙ zip_long (IsLooked {B = B}) _ _ zip ∙ sym (ap length o.were);
        others = others_beside cpu olds news o numbered;
        sees = λ p p' old new.
            let was : o.before ≡ p = some_same o.before p (slice_get olds cpu) (ap (λ l. slice_get l cpu) o.were ∙ ap (λ i. slice_get (o.lower ++ o.before ∷ o.upper) i) (sym o.number) ∙ get_behind o.lower o.upper o.before) old in
            let now : o.after ≡ p' = some_same o.after p' (slice_get news cpu) (ap (λ l. slice_get l cpu) o.are ∙ ap (λ i. slice_get (o.lower' ++ o.after ∷ o.upper') i) (sym many) ∙ get_behind o.lower' o.upper' o.after) new in
            let F : Processor B × Processor B → Type 0 = λ x. SeesFrom cpu olds x.0 x.1 in
            subst F (λ i. (was i, now i)) (steps_see cpu olds news o numbered);
      }

front : (a b c : List Note) → IsPrefix a b → IsPrefix (c ++ a) (c ++ b)
front a b c p = (p.0, append_assoc c a p.0 ∙ ap (λ l. c ++ l) p.1)

-- what a line has seen is received, where notes are taken in
pub seen_delivered : (k limit count : ℕ) (out : LaneOut) (q r : Post) (t u : Vec Event Global) (e : Lane) → k < length q.lanes → received (slice_index_or q.lanes k e).into ++ seen_notes (slice_index_or q.lanes k e).into ≡ queued out → PostTakesIn limit q r t u count → IsDelivered limit count out (slice_index_or r.lanes k e)
seen_delivered k limit count out q r t u e there all takes =
    let line : Lane = slice_index_or r.lanes k e in
    let into = (slice_index_or q.lanes k e).into in
    let got : TakesSeen limit count into line = seen_taken limit count _ _ takes.takes k e there in
    let G : List Note → Type 0 = λ l. IsPrefix l (received line.into) in
    let H : List Note → Type 0 = λ l. IsPrefix (received into ++ seen_notes into) l in
    ⊎_elim
    (λ (first : IsPrefix (seen_notes into) got.popped). inl (subst G all (subst H (sym got.received_is) (front (seen_notes into) got.popped (received into) first))))
    (λ (held : IsSome line.kept ⊎ (limit ≤ count)). inr held)
    got.rest

module _ {B : Type 0} where
  -- of the look each line's part: it is there, and saw all that was put into the queue of its lane
  pub sent_seen : (cpu : ℕ) (olds news : List (Processor B)) → SeesSent cpu olds news → AreNumbered olds → AreAllJoined olds → (p : Processor B) → slice_get news cpu ≡ Some p → (k : ℕ) (s : Processor B) (d e : Lane) → slice_get olds k ≡ Some s
      → (k < length p.post.lanes) × (received (get_or p.post.lanes k e).into ++ seen_notes (get_or p.post.lanes k e).into ≡ queued (get_or s.post.lanes cpu d).out)
  sent_seen cpu olds news o numbered joined p here k s d e at =
      let was = get_there olds cpu (omega (arith, o.as_many, slice_get_within news cpu p here)) in
      let sees : SeesFrom cpu olds was.0 p = o.sees was.0 p was.1 here in
      let F : ℕ → Type 0 = λ i. i < length was.0.post.lanes in
      let back : k < length was.0.post.lanes = subst F (numbered k s at) (joined k cpu s was.0 at was.1).back in
      let there : k < length p.post.lanes = omega (arith, back, sees.as_many) in
      dite (ℕ_discrete k cpu)
      (λ same.
      let is : was.0 ≡ s = some_same was.0 s (slice_get olds cpu) was.1 (ap (λ i. slice_get olds i) (sym same) ∙ at) in
      let own_at : (x : Lane) → received (get_or p.post.lanes k x).into ++ seen_notes (get_or p.post.lanes k x).into ≡ queued (get_or was.0.post.lanes cpu x).out = λ x. ap (λ i. received (get_or p.post.lanes i x).into ++ seen_notes (get_or p.post.lanes i x).into) same ∙ (sees.own x).into.all in
      let d_is : get_or was.0.post.lanes cpu d ≡ get_or was.0.post.lanes cpu e = get_or_default was.0.post.lanes cpu d e (let h : cpu < length was.0.post.lanes = omega (arith, back, same) in h) in
      (there, own_at e ∙ ap (λ (l : Lane). queued l.out) (sym d_is) ∙ ap (λ (x : Processor B). queued (get_or x.post.lanes cpu d).out) is))
      (λ apart. (there, (sees.others k s d e apart at).into.all))

  -- one more of the others is seen
  each_more : (p m q s s' : Processor B) (olds news : List (Processor B)) → SeesEach p m olds news → SeesLane s s' m q → SeesEach p q (olds ++ s ∷ []) (news ++ s' ∷ [])
  each_more p m q s s' [] [] is one = let F : Processor B → Type 0 = λ x. SeesLane s s' x q in (q, (subst F is one, refl))
  each_more p m q s s' [] (x ∷ news) is one = absurd is
  each_more p m q s s' (x ∷ olds) [] is one = absurd is
  each_more p m q s s' (x ∷ olds) (y ∷ news) is one = (is.0, (is.1.0, each_more is.0 m q s s' olds news is.1.1 one))

  pub each_next : (p m q s s' : Processor B) (olds mids : List (Processor B)) (n : ℕ) → n < length mids → slice_get olds n ≡ Some s → SeesEach p m (take n olds) (take n mids) → SeesLane s s' m q → SeesEach p q (take (n + 1) olds) (take (n + 1) (set mids n s'))
  each_next p m q s s' olds mids n less at is one =
      let F : List (Processor B) × List (Processor B) → Type 0 = λ l. SeesEach p q l.0 l.1 in
      let there : n < length olds = slice_get_within olds n s at in
      let more : take (n + 1) olds ≡ take n olds ++ s ∷ [] = take_more olds n s there ∙ ap (λ x. take n olds ++ x ∷ []) (get_or_from_slice_get olds n s s at) in
      let set_more : take (n + 1) (set mids n s') ≡ take n mids ++ s' ∷ [] = take_more_set mids n s' less in
      subst F (λ k. (sym more k, sym set_more k)) (each_more p m q s s' (take n olds) (take n mids) is one)

  -- once it looked, a processor is joined to those that it was joined to
  looked_joined : (p q s : Processor B) → IsLooked p q → AreLinked s p → AreLinked s q
  looked_joined p q s looked joined = joined_stay s s p q refl (ap (λ c. c.cpu) (looked_seat p q looked)) (post_none s.post) (looked_post p q looked) joined

  -- those that weren't seen yet are joined to the processor still
  pub still_joined : (p m : Processor B) (olds news all : List (Processor B)) → SeesEach p m olds news → All (λ s. AreLinked s p) all → (n : ℕ) (s : Processor B) → slice_get all n ≡ Some s → AreLinked s m
  still_joined p m olds news all sees joined n s at =
      let F : Processor B → Type 0 = λ x. AreLinked x p in
      looked_joined p m s (each_looked p m olds news sees).0 (subst F (get_or_from_slice_get all n s s at) (joined n s (slice_get_within all n s at)))

  -- of joined processors the one is joined to itself, and, once it looked, to those of lower numbers and to those of higher ones
  pub own_joined : (lower upper all : List (Processor B)) (p : Processor B) → all ≡ lower ++ p ∷ upper → AreAllJoined all → AreLinked p p
  own_joined lower upper all p is joined =
      let here : slice_get all (length lower) ≡ Some p = ap (λ l. slice_get l (length lower)) is ∙ get_behind lower upper p in
      joined (length lower) (length lower) p p here here

  pub lower_joined : (lower upper all : List (Processor B)) (p q : Processor B) → all ≡ lower ++ p ∷ upper → AreAllJoined all → IsLooked p q → All (λ s. AreLinked s q) lower
  lower_joined lower upper all p q is joined looked = all_from_get (λ s. AreLinked s q) lower (λ k s at. looked_joined p q s looked (joined k (length lower) s p (ap (λ l. slice_get l k) is ∙ get_front lower (p ∷ upper) k (slice_get_within lower k s at) ∙ at) (ap (λ l. slice_get l (length lower)) is ∙ get_behind lower upper p)))

  pub upper_joined : (lower upper all : List (Processor B)) (p q : Processor B) → all ≡ lower ++ p ∷ upper → AreAllJoined all → IsLooked p q → All (λ s. AreLinked s q) upper
  upper_joined lower upper all p q is joined looked =
      let here : slice_get all (length lower) ≡ Some p = ap (λ l. slice_get l (length lower)) is ∙ get_behind lower upper p in
      all_from_get (λ s. AreLinked s q) upper (λ k s at. looked_joined p q s looked (joined (suc (length lower + k)) (length lower) s p (ap (λ l. slice_get l (suc (length lower + k))) is ∙ get_later lower upper p k ∙ at) here))

-- a list of one element
pub one_is : {A : Type 0} (xs : List A) (d : A) → length xs ≡ 1 → xs ≡ get_or xs 0 d ∷ []
one_is [] d long = absurd (omega (arith, long))
one_is (x ∷ []) d long = refl
one_is (x ∷ y ∷ xs) d long = absurd (omega (arith, long))

pub one_set : {A : Type 0} (xs : List A) (x : A) → length xs ≡ 1 → set xs 0 x ≡ x ∷ []
one_set [] x long = absurd (omega (arith, long))
one_set (z ∷ []) x long = refl
one_set (z ∷ w ∷ xs) x long = absurd (omega (arith, long))
