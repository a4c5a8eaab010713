use Rattle.std.proofs.Common.{List, subst, sym}
use Rattle.lwkt_verdict.specs.declared.turns.Poll.{Poll}
use Rattle.lwkt_run.proofs.KeepMoves.{ArePlaces, place_kept, places_changed, none_answered}
use Rattle.lwkt_run.proofs.records.Record.answer.Goals as goal

pub invariant_of-self : goal.invariant_of-self
invariant_of-self c =
    let s = c.args.self.now in
    let F : List Poll → Type 0 = λ ps. ArePlaces s.last ps in
    record { places = subst F (sym c.answer_poll.ensures) (places_changed s.last s.polls.items c.in-Some.place c.args.heard.now s.places) }

pub returns-in_default-clause-polls : goal.returns-in_default-clause-polls
returns-in_default-clause-polls c =
    let s = c.args.self.now in
    sym (none_answered c.args.slot c.args.heard.now s.polls.items (place_kept s.last s.polls.items c.args.slot _ s.places c.requires c.in_default.is))
