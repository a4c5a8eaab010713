use Rattle.std.proofs.Common.{◌≡◌, ◌+◌, ℕ, List, length, min, refl, ap, subst, ◌∙◌, Option}
use Rattle.std.specs.Prelude.{option_map}
use Rattle.lwkt_core.specs.declared.events.Event.{Event}
use Rattle.lwkt_run.specs.declared.polled.Polled.{Polled}
use Rattle.lwkt_run.specs.Driving.{GoesOnBy, DeclinesBy, DriverState, driver_state}
use Rattle.lwkt_run.specs.Keeping.{polled_of, story_after}
use Rattle.lwkt_run.proofs.DriveMoves.{Turns, turn_unfit, turn_fits}
use Rattle.lwkt_run.proofs.PollMoves.{turn_polled}
use Rattle.lwkt_run.proofs.rounds.drive_turn.Goals as goal

pub asks_of-asks-requires-clause-polled : goal.asks_of-asks-requires-clause-polled
asks_of-asks-requires-clause-polled g c = turn_polled c.args.cpu c.args.machine.now c.turn_into.new.self c.clear.new.self c.turn_into.new.trace c.in_ok-turned.turned c.in_ok-turned.ensures.ok

pub returns-then-not-branch-clause-ok : goal.returns-then-not-branch-clause-ok
returns-then-not-branch-clause-ok g c =
    let kept = g.K.Keeper.kept in
    let asks : Option Polled = option_map polled_of c.asks_of-asks.result in
    let s : DriverState = driver_state c.args.machine.now (kept c.args.keeper.now) c.args.events.now c.args.follower.now in
    let t : DriverState = driver_state c.turn_into.new.self (kept c.note.new.self) c.args.events.now c.fits.new.follower in
    let K : List Event → Type 0 = λ es. kept c.note.new.self ≡ option_map (story_after c.args.cpu asks es) (kept c.args.keeper.now) in
    let made : Turns c.args.cpu c.in_ok-turned.turned asks s t = record {
      room = c.clear.new.self;
      part = c.turn_into.new.trace;
      none = c.clear.ensures.items;
      makes = c.in_ok-turned.ensures.ok;
      asked = c.asks_of-asks.ensures.asked;
      kept = subst K c.as_slice-part.ensures.value c.in_ok-note.ensures;
    } in
    let D : List Event → Type 0 = λ es. DeclinesBy c.args.cpu asks es c.args.follower.now in
    turn_unfit c.args.cpu c.in_ok-turned.turned asks s t made refl (subst D c.as_slice-part.ensures.value (c.in_ok-fits.ensures.declines c.if-not-branch.true))

pub returns-clause-ok : goal.returns-clause-ok
returns-clause-ok g c =
    let kept = g.K.Keeper.kept in
    let asks : Option Polled = option_map polled_of c.asks_of-asks.result in
    let s : DriverState = driver_state c.args.machine.now (kept c.args.keeper.now) c.args.events.now c.args.follower.now in
    let t : DriverState = driver_state c.turn_into.new.self (kept c.note.new.self) c.saturating_add.result c.fits.new.follower in
    let K : List Event → Type 0 = λ es. kept c.note.new.self ≡ option_map (story_after c.args.cpu asks es) (kept c.args.keeper.now) in
    let G : List Event → Type 0 = λ es. GoesOnBy c.args.cpu asks es c.args.follower.now c.fits.new.follower in
    let value = c.as_slice-part.ensures.value in
    let made : Turns c.args.cpu c.in_ok-turned.turned asks s t = record {
      room = c.clear.new.self;
      part = c.turn_into.new.trace;
      none = c.clear.ensures.items;
      makes = c.in_ok-turned.ensures.ok;
      asked = c.asks_of-asks.ensures.asked;
      kept = subst K value c.in_ok-note.ensures;
    } in
    let N : ℕ → ℕ = λ n. min (c.args.events.now + n) 18446744073709551615 in
    let counted : c.saturating_add.result ≡ N (length c.turn_into.new.trace.items) = c.saturating_add.ensures ∙ ap N (ap length value) in
    turn_fits c.args.cpu c.in_ok-turned.turned asks c.is_over.result s t made counted (subst G value (c.in_ok-fits.ensures.goes c.if-not-branch.false)) c.is_over.ensures
