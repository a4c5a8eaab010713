use Rattle.std.proofs.Common.{ℕ, ap, sym, ◌∙◌}
use Rattle.lwkt_base.specs.declared.names.Mode.TheVariants.{Exclusive}
use Rattle.lwkt_base.specs.Holding.{is_held}
use Rattle.lwkt_bank.specs.Seats.{holding}
use Rattle.lwkt_seats.proofs.SectionMoves.{taken_held, lacked, refused, took_and_loaded, still_there, loads_found, stays_then}
use Rattle.lwkt_seats.proofs.sitters.Sitter.take_load.Goals as goal

pub load_held-requires : goal.load_held-requires
load_held-requires c =
    let old = c.args.self.now.seat in
    let mid = c.ask.new.self.seat in
    let taken = taken_held Exclusive c.args.token old mid c.ask.result c.ask.ensures.does (sym c.number-asked.ensures ∙ c.if-asked-ne0.false) in
    record {
      there = still_there c.args.token c.args.cell c.in-Ok.found.0.0 c.in-Ok.found.1 old mid c.in-Ok.ensures.there c.in-Ok.ensures.named.0 c.in-Ok.ensures.named.1 c.ask.ensures.same.seat.0;
      held = ap (λ (n : ℕ). is_held (holding mid n)) c.in-Ok.ensures.named.0 ∙ taken;
    }

pub returns-in-Err-clause-does : goal.returns-in-Err-clause-does
returns-in-Err-clause-does c = lacked c.args.token c.args.cell c.args.value.now c.args.self.now.seat c.in-Err.lack c.number.result c.number.ensures c.in-Err.ensures.err

pub returns-then-asked-ne0-clause-does : goal.returns-then-asked-ne0-clause-does
returns-then-asked-ne0-clause-does c =
    refused c.args.token c.args.cell c.args.value.now c.args.self.now.seat c.ask.new.self.seat c.ask.result c.number-asked.result c.in-Ok.ensures.there c.number-asked.ensures c.ask.ensures.does c.if-asked-ne0.true

pub returns-clause-does : goal.returns-clause-does
returns-clause-does c =
    let mid = c.ask.new.self.seat in
    let new = c.load_held.new.self.seat in
    took_and_loaded c.args.token c.args.cell c.args.value.now c.load_held.result c.args.self.now.seat mid new c.ask.result c.in-Ok.ensures.there (sym c.if-asked-ne0.false ∙ c.number-asked.ensures) c.ask.ensures.does
    (loads_found c.args.token c.args.cell c.in-Ok.found.0.0 c.in-Ok.found.1 c.load_held.result mid new c.in-Ok.ensures.named.0 c.in-Ok.ensures.named.1 c.load_held.ensures.does)

pub returns-clause-same : goal.returns-clause-same
returns-clause-same c =
    let first = c.ask.ensures.same in
    stays_then c.args.self.now c.ask.new.self c.load_held.new.self (record { bank = first.bank; seat = first.seat }) c.load_held.ensures.same
