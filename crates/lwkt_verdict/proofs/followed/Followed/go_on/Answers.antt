use Rattle.std.proofs.Common.{ap, Some}
use Rattle.std.specs.Prelude.{Bool}
use Rattle.std.specs.Option.{option_copied}
use Rattle.lwkt_verdict.specs.Follow.{Known}
use Rattle.lwkt_verdict.proofs.followed.Followed.go_on.Goals as goal

pub returns-clause-asked : goal.returns-clause-asked
returns-clause-asked c =
    let f = c.self.inside in
    let K : Bool → Known = λ b. record { plan = option_copied f.plan; local = f.local; last = Some (record { ask = c.args.ask.now; blocked = b; expected = c.goes_by_ask.new.expected }); log = f.log.items } in
    rw (← c.self.view_is) (λ yes. record {
      expected = c.goes_by_ask.new.expected;
      noted = ap K c.has_blocked-self-inside.ensures;
      makes = c.goes_by_ask.ensures.makes c.if-not-goes_by_ask.false;
      expects = c.goes_by_ask.ensures.expects c.if-not-goes_by_ask.false;
      unblocked = c.goes_by_ask.ensures.unblocked c.if-not-goes_by_ask.false;
    })
