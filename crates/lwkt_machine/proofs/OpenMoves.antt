-- Processors of these bodies are made one by one, and are then a machine's.
use Rattle.std.proofs.Common.{◌≡◌, ◌∙◌, ℕ, ◌+◌, ◌<◌, ◌≤◌, List, [], ◌∷◌, ◌++◌, length, map, get_or, ap, sym, subst, arith, Some}
use Rattle.std.specs.Prelude.{All, Vec, slice_get}
use Rattle.std.specs.List.{remove}
use Rattle.std.specs.declared.alloc.Global.{Global}
use Rattle.std.proofs.lemmas.List.{length-map, map-append}
use Rattle.std.proofs.lemmas.List.Elements.{All-head, All-tail}
use Rattle.std.proofs.lemmas.Option.{slice_get_within, slice_get-get_or}
use Rattle.lwkt_bank.specs.Seats.{BankId}
use Rattle.lwkt_msg.specs.Desks.{Shelf}
use Rattle.lwkt_lane.specs.declared.ins.LaneIn.{LaneIn}
use Rattle.lwkt_lane.specs.declared.outs.LaneOut.{LaneOut}
use Rattle.lwkt_lane.specs.Crossed.{IsLeft}
use Rattle.lwkt_lane.proofs.PlaceMoves.{get_there, some_same}
use Rattle.lwkt_port.specs.Sights.{AreEnds}
use Rattle.lwkt_cpu.specs.Processors.{Processor}
use Rattle.lwkt_cpu.specs.Wiring.{AreWired, HasLines, HaveLines}
use Rattle.lwkt_cpu.proofs.WiringMoves.{lines_more}
use Rattle.lwkt_drive.specs.declared.driven.Driven.{Driven}
use Rattle.lwkt_machine.proofs.DrivenMoves.{driven_at, long_processors}
use Rattle.lwkt_machine.proofs.ListMoves.{all_at, all_from_get, each_more}
use Rattle.lwkt_machine.specs.Machines.{AreAllJoined, AreKept, AreNumbered, AreOneMachine, Has, IsOfMachine, processors}
use Rattle.lwkt_machine.specs.Opened.{AreOpenedCpus, IsOpenedCpu, IsOpenedDriven}

-- the bodies of the next processor are few, and so are those behind them
pub first_few : {B : Type 0} (lists : List (Vec B Global)) (v : Vec B Global) → 0 < length lists → v ≡ get_or lists 0 v → All (λ (w : Vec B Global). length w.items ≤ 16) lists → length v.items ≤ 16
first_few {B} [] v some is all = absurd (omega (arith, some))
first_few {B} (w ∷ lists) v some is all =
    let F : Vec B Global → Type 0 = λ x. length x.items ≤ 16 in
    subst F (sym is) (All-head F w lists all)

pub rest_few : {B : Type 0} (xs ys : List (Vec B Global)) → 0 < length xs → ys ≡ remove xs 0 → All (λ (w : Vec B Global). length w.items ≤ 16) xs → All (λ (w : Vec B Global). length w.items ≤ 16) ys
rest_few {B} [] ys some is all = absurd (omega (arith, some))
rest_few {B} (x ∷ xs) ys some is all =
    let F : Vec B Global → Type 0 = λ w. length w.items ≤ 16 in
    let G : List (Vec B Global) → Type 0 = λ zs. All F zs in
    subst G (sym is) (All-tail F x xs all)

-- the lines of one processor more
pub lines_driven : {B : Type 0} (outs : List (Vec LaneOut Global)) (ins : List (Vec LaneIn Global)) (cpus : List (Driven B)) (d : Driven B) → HasLines outs ins (length cpus) d.cpu → HaveLines outs ins (processors cpus) → HaveLines outs ins (processors (cpus ++ d ∷ []))
lines_driven {B} outs ins cpus d new each =
    let f : Driven B → Processor B = λ x. x.cpu in
    let F : ℕ → Type 0 = λ n. HasLines outs ins n d.cpu in
    let G : List (Processor B) → Type 0 = λ xs. HaveLines outs ins xs in
    subst G (sym (map-append f cpus (d ∷ []))) (lines_more outs ins (map f cpus) d.cpu (subst F (sym (length-map cpus f)) new) each)

-- one processor more, of the first list that is left
pub opened_more : {B : Type 0} (bank : BankId) (book : Shelf) (lists left : List (Vec B Global)) (cpus : List (Driven B)) (v : Vec B Global) (d : Driven B) → IsLeft (length cpus) lists left → slice_get left 0 ≡ Some v → IsOpenedDriven bank book (length cpus) v.items d → AreOpenedCpus bank book lists cpus → AreOpenedCpus bank book lists (cpus ++ d ∷ [])
opened_more {B} bank book lists left cpus v d gone first new each = λ k w e of at.
    let P : ℕ → Driven B → Type 0 = λ n x. (u : Vec B Global) → slice_get lists n ≡ Some u → IsOpenedDriven bank book n u.items x in
    let F : Vec B Global → Type 0 = λ u. IsOpenedDriven bank book (length cpus) u.items d in
    let n : length cpus + 0 ≡ length cpus = omega arith in
    let here : P (length cpus) d = λ u is. subst F (some_same v u (slice_get left 0) first (gone 0 ∙ ap (λ i. slice_get lists i) n ∙ is)) new in
    each_more P cpus d here (λ m x there u is. each m u x is there) k e at w of

-- processors that are wired as they are opened are joined
opened_joined : {B : Type 0} (cpus : List (Processor B)) → AreWired cpus → AreNumbered cpus → AreAllJoined cpus
opened_joined cpus wired numbered i j s p at_s at_p =
    let F : ℕ × ℕ → Type 0 = λ n. AreEnds n.0 n.1 s.post.lanes p.post.lanes in
    let there : j < length s.post.lanes = omega (arith, wired.lines_are i s at_s, slice_get_within cpus j p at_p) in
    let back : i < length p.post.lanes = omega (arith, wired.lines_are j p at_p, slice_get_within cpus i s at_s) in
    subst F (λ k. (sym (numbered i s at_s) k, sym (numbered j p at_p) k)) (record {
      there = there;
      back = back;
      one = λ d. (wired.lanes i j s p (get_or s.post.lanes j d) (get_or p.post.lanes i d) at_s at_p (slice_get-get_or s.post.lanes j d there) (slice_get-get_or p.post.lanes i d back)).one;
    })

-- the processor of a number is as it is opened with the bodies of that number
pub opened_at : {B : Type 0} (bank : BankId) (book : Shelf) (lists : List (Vec B Global)) (driven : List (Driven B)) → length driven ≡ length lists → AreOpenedCpus bank book lists driven → (k : ℕ) (p : Processor B) → slice_get (processors driven) k ≡ Some p → (v : Vec B Global) × ((slice_get lists k ≡ Some v) × IsOpenedCpu bank book k v.items p)
opened_at {B} bank book lists driven many each k p at =
    let d = driven_at driven k p at in
    let v = get_there lists k (omega (arith, many, slice_get_within driven k d.0 d.1.0)) in
    let F : Processor B → Type 0 = λ q. IsOpenedCpu bank book k v.0.items q in
    (v.0, (v.1, subst F d.1.1 (each k v.0 d.0 v.1 d.1.0).opened))

-- processors as they are opened make one machine
pub opened_whole : {B : Type 0} (kept : B → Type 0) (seats : ℕ) (bank : BankId) (book : Shelf) (lists : List (Vec B Global)) (driven : List (Driven B)) → seats ≡ length lists → book.cpus ≡ length lists → length driven ≡ length lists → length lists ≤ 8 → AreOpenedCpus bank book lists driven → AreWired (processors driven) → AreKept kept lists → AreOneMachine kept seats bank book (processors driven)
opened_whole {B} kept seats bank book lists driven seats_many mails_many many few each wired before =
    let cpus = processors driven in
    let long : length cpus ≡ length lists = long_processors driven ∙ many in
    let numbered : AreNumbered cpus = λ k p at. (opened_at bank book lists driven many each k p at).1.1.seat.number in
    record {
      seats_are = seats_many ∙ sym long;
      mails_are = mails_many ∙ sym long;
      few = omega (arith, long, few);
      each = all_from_get (IsOfMachine bank book) cpus (λ k p at. (let o = (opened_at bank book lists driven many each k p at).1.1 in record { bank_is = o.seat.bank_is; table_is = o.desk.table }));
      numbered = numbered;
      joined = opened_joined cpus wired numbered;
      lasting = all_from_get (Has kept) cpus (λ k p at.
          let o = opened_at bank book lists driven many each k p at in
          let F : List B → Type 0 = λ bodies. All kept bodies in
          subst F (sym o.1.1.bodies_are) (all_at (λ (w : Vec B Global). All kept w.items) lists k o.0 o.1.0 before));
    }
