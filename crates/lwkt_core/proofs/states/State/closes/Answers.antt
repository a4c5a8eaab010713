use Rattle.std.proofs.Common.{◌≡◌, subst, sym, map}
use Rattle.std.proofs.lemmas.Bool.{iff_false, false≢true}
use Rattle.lwkt_core.specs.Machine.{Machine}
use Rattle.lwkt_core.specs.Trace.{shown_tallies}
use Rattle.lwkt_core.proofs.states.State.closes.Goals as goal

pub returns-then-not-are_tallies : goal.returns-then-not-are_tallies
returns-then-not-are_tallies c = (
  λ e. absurd (false≢true e),
  λ closes. absurd (iff_false c.are_tallies.ensures c.if-not-are_tallies.true
      (rw (c.deref-6.ensures.value, c.deref-7.ensures.value) (subst (λ (m : Machine). c.args.last.now.tallies.items ≡ map (λ tok. shown_tallies tok.law m.cpus tok.tallies) m.tokens) (sym c.self.view_is) closes.tallies))),
)
