use Rattle.std.proofs.Common.{◌≡◌, List, length, arith, ap, sym, ◌∙◌}
use Rattle.lwkt_search.specs.Links.{Link}
use Rattle.lwkt_search.proofs.LinkLemmas.{links_long}
use Rattle.lwkt_search.proofs.links.Links.len.Goals as goal

pub returns : goal.returns
returns c =
    let parents = c.self.inside.parents.items in
    let read : c.len.result ≡ length parents = omega arith in
    read ∙ (sym (links_long parents c.self.inside.cpus.items c.self.invariant) ∙ ap (λ (ls : List Link). length ls) c.self.view_is)
