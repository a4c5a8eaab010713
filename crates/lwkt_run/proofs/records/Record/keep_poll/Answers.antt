use Rattle.std.proofs.Common.{sym, ◌≡◌, ◌<◌, ◌+◌, ◌*◌, ap, subst, ℕ, List, length, set, arith, Option, Some}
use Rattle.lwkt_verdict.specs.declared.turns.Poll.{Poll}
use Rattle.lwkt_verdict.specs.Threads.{slot_of}
use Rattle.lwkt_run.proofs.KeepMoves.{ArePlaces, answered_long, places_pushed}
use Rattle.lwkt_run.proofs.records.Record.keep_poll.Goals as goal

pub invariant_of-self-2 : goal.invariant_of-self-2
invariant_of-self-2 c =
    let s = c.answer.new.self in
    let old = c.args.self.now.polls in
    let slot : ℕ = 16 * c.from.result + c.from-2.result in
    let is : slot_of c.args.polled.thread ≡ slot = omega (arith, c.from.ensures, c.from-2.ensures) in
    let few : slot < 128 = omega (arith, c.from.ensures, c.from-2.ensures, c.requires) in
    let long : c.len-place.result ≡ length s.polls.items = omega (arith, c.len-place.ensures, old.ok.0, ap length c.answer.ensures.polls, answered_long slot c.args.polled.heard.now old.items) in
    let last : List (Option ℕ) = set s.last slot (Some c.len-place.result) in
    let F : List Poll → Type 0 = λ ps. ArePlaces last ps in
    record { places = subst F (sym c.in_ok-push.ensures.items) (places_pushed s.last s.polls.items slot c.len-place.result _ s.places is few long) }
