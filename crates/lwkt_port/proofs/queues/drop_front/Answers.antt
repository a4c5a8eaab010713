use Rattle.std.proofs.Common.{◌∙◌, refl, sym}
use Rattle.lwkt_port.specs.declared.queues.Port.{Port}
use Rattle.lwkt_port.proofs.Classing.{urgent_off, ordinary_off}
use Rattle.lwkt_port.proofs.queues.drop_front.Goals as goal

pub returns-then-len-eq0 : goal.returns-then-len-eq0
returns-then-len-eq0 c =
    let port : Port = c.args.port.now in
    ordinary_off port (record port { ordinary = c.drop_first.new.self }) (sym c.len.ensures.count ∙ c.if-len-eq0.true) c.drop_first.ensures refl refl

pub returns-else-len-eq0 : goal.returns-else-len-eq0
returns-else-len-eq0 c =
    let port : Port = c.args.port.now in
    urgent_off port (record port { urgent = c.drop_first-else-len-eq0.new.self }) (λ none. c.if-len-eq0.false (c.len.ensures.count ∙ none)) c.drop_first-else-len-eq0.ensures refl refl
