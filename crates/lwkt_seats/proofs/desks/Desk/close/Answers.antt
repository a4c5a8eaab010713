use Rattle.std.proofs.Common.{◌≡◌, ap, sym, ◌∙◌, subst, arith}
use Rattle.std.specs.Arc.{arc_value}
use Rattle.lwkt_bank.specs.declared.banks.Bank.{Bank}
use Rattle.lwkt_bank.specs.Seats.{id_of, tokens_of}
use Rattle.lwkt_seats.specs.Desks.{bank_at}
use Rattle.lwkt_seats.specs.Endings.{IsEndingOf}
use Rattle.lwkt_seats.proofs.desks.Desk.close.Goals as goal

pub free_seats-requires-clause-room : goal.free_seats-requires-clause-room
free_seats-requires-clause-room c =
    let desk = c.args.self.now in
    let held = c.deref_mut-held.result.now in
    let whole : IsEndingOf (bank_at desk) held = subst (λ (b : Bank). IsEndingOf b held) desk.one (subst (IsEndingOf (arc_value desk.drawer)) (sym c.deref_mut-held.ensures.value) c.in_ok-ending.ensures.ok) in
    let many = desk.all in
    let room = whole.sitters in
    omega (arith, many, room)

pub returns-then-tokens-room-clause-short : goal.returns-then-tokens-room-clause-short
returns-then-tokens-room-clause-short c = λ same.
    let desk = c.args.self.now in
    let held = c.deref_mut-held.result.now in
    let whole : IsEndingOf (bank_at desk) held = subst (λ (b : Bank). IsEndingOf b held) desk.one (subst (IsEndingOf (arc_value desk.drawer)) (sym c.deref_mut-held.ensures.value) c.in_ok-ending.ensures.ok) in
    let bank : c.deref.result.now ≡ bank_at desk = c.deref.ensures ∙ whole.is_bank in
    let is : c.tokens.result ≡ tokens_of (id_of (bank_at desk)) = c.tokens.ensures.is ∙ ap (λ (b : Bank). tokens_of (id_of b)) bank in
    let wide = c.if-tokens-room.true in
    omega (arith, is, wide)

pub end-requires-clause-ending : goal.end-requires-clause-ending
end-requires-clause-ending c =
    let desk = c.args.self.now in
    let held = c.deref_mut-held.result.now in
    let whole : IsEndingOf (bank_at desk) held = subst (λ (b : Bank). IsEndingOf b held) desk.one (subst (IsEndingOf (arc_value desk.drawer)) (sym c.deref_mut-held.ensures.value) c.in_ok-ending.ensures.ok) in
    let many = desk.all in
    let seats = whole.seats in
    record {
      is_bank = whole.is_bank;
      free = c.in_default.ensures.ok.0;
      all = c.in_default.ensures.ok.1;
      no_seats = whole.no_seats;
      seats = omega (arith, many, seats);
      room = whole.room;
    }
