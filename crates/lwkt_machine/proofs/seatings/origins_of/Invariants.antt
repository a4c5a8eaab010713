use Rattle.std.proofs.Common.{◌≡◌, take, map}
use Rattle.lwkt_base.specs.declared.opening_specs.MsgSpec.{MsgSpec}
use Rattle.lwkt_machine.proofs.seatings.origins_of.Given as goal

abbrev pub invariant-loop-spec : goal.invariant-loop-spec
invariant-loop-spec l = l.origins.items ≡ map (λ (spec : MsgSpec). spec.origin) (take l.spec-index l.specs)
