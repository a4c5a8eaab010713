use Rattle.std.proofs.Common.{ap, sym, refl, ◌∙◌, ◌+◌, ◌-◌, ℕ, List, length, length-append, subst, arith, ◌∷◌, ◌++◌, ◌≡◌, Some, All, []}
use Rattle.lwkt_bank.specs.declared.kept.Kept.{Kept}
use Rattle.lwkt_bank.specs.Seats.{BankId}
use Rattle.lwkt_bank.specs.Closing.{Gathering, IsReady}
use Rattle.std.proofs.lemmas.List.Elements.{All-pop}
use Rattle.lwkt_bank.specs.declared.seats.CpuSeat.{CpuSeat}
use Rattle.lwkt_bank.proofs.GuardMoves.{no_hands}
use Rattle.lwkt_bank.proofs.KeptMoves.{gathering_more, kept_longer}
use Rattle.lwkt_bank.proofs.gathers.gather.Goals as goal

pub loop-seat-preserved : goal.loop-seat-preserved
loop-seat-preserved c =
    let i = c.loop-seat.invariant in
    let bank : BankId = record { table = c.args.table.now.shared.table_id; plans = c.args.table.now.shared.key.plans.items } in
    let all = c.args.seats.items in
    let rest = c.loop-seat.seats.items in
    let front = c.pop.new.self.items in
    let counted = i.so_far.counted in
    let last = c.in-Some.ensures.items in
    let longer = ap length last in
    let more = length-append front (c.in-Some.seat ∷ []) in
    let F : ℕ → Type 0 = λ b. Gathering bank c.join.new.clerk.me.0 all front c.put_kept.new.list.items b in
    let G : List Kept → Type 0 = λ ks. Gathering bank c.join.new.clerk.me.0 all front ks (length all - length rest + 1) in
    let put = c.put_kept.ensures.items in
    let step = gathering_more bank c.loop-seat.clerk.me.0 c.join.new.clerk.me.0 all rest front c.in-Some.seat c.loop-seat.kept.items put.0 (length all - length rest) i.so_far last (ap (λ m. m.0) c.join.ensures.2) put.1.0 put.1.1 in
    record {
      same = c.join.ensures.0 ∙ i.same;
      id = c.join.ensures.1 ∙ i.id;
      room = (let old = i.room in let wider = c.put_kept.ensures.room in let one = kept_longer c.loop-seat.kept.items c.put_kept.new.list.items put.0 put.1.2 in omega arith);
      so_far = subst F (omega arith) (subst G (sym put.1.2) step);
    }

pub put_kept-requires-clause-room : goal.put_kept-requires-clause-room
put_kept-requires-clause-room c =
    let old = c.loop-seat.invariant.room in
    let longer = ap length c.in-Some.ensures.items in
    let more = length-append c.pop.new.self.items (c.in-Some.seat ∷ []) in
    omega arith

pub join-requires-clause-slots : goal.join-requires-clause-slots
join-requires-clause-slots c =
    let i = c.loop-seat.invariant in
    let bank : BankId = record { table = c.args.table.now.shared.table_id; plans = c.args.table.now.shared.key.plans.items } in
    let s = c.in-Some.seat in
    let P : List CpuSeat → Type 0 = λ xs. All (IsReady bank) xs in
    let ready : IsReady bank s = (All-pop (IsReady bank) (c.pop.new.self.items ++ s ∷ []) c.pop.new.self.items (Some s) refl (subst P c.in-Some.ensures.items i.so_far.ready)).1 in
    let many : length s.seat.me.0.plans ≡ length bank.plans = ap (λ (b : BankId). length b.plans) ready.of in
    no_hands s.seat.me.0 s.seat.me.1 s.hands (λ tok low. ready.empty tok (omega arith))
