use Rattle.std.proofs.Common.{◌≡◌, ◌∙◌, length, vec_len, rules}
use Rattle.std.proofs.lemmas.Iterator.{YieldsList-from_zip, YieldsList-from_map}
use Rattle.std.proofs.lemmas.Iterator.Adapters.{YieldsList-from_vec}
use Rattle.std.proofs.lemmas.Iterator.Consumers.{YieldsList-at}
use Rattle.lwkt_port.specs.OpenedPorts.{new_line}
use Rattle.lwkt_port.proofs.Listing.{items_from_whole}
use Rattle.lwkt_port.proofs.opened_ports.pair.Goals as goal

pub returns : goal.returns
returns c =
    let outs = c.args.outs.items in
    let ins = c.args.ins.items in
    let many : vec_len c.args.outs ≡ length outs = search rules in
    let more : vec_len c.args.ins ≡ length ins = search rules in
    let other = c.zip-ends.ensures.second in
    let first = YieldsList-at c.zip-ends.ensures.first (YieldsList-from_vec outs c.into_iter.ensures.rest (c.into_iter.ensures.len ∙ many)) in
    let second = YieldsList-from_vec ins other.0 (other.1 ∙ more) in
    items_from_whole (vec_len c.in_ok-lanes.lanes) c.in_ok-lanes.lanes.items c.in_ok-lanes.ensures.runs
    (YieldsList-from_map _ new_line (YieldsList-at c.map.ensures.source (YieldsList-from_zip first second)) c.map.ensures.closure (λ x r q k. search rules))
