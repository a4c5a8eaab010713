use Rattle.std.proofs.Common.{◌≡◌, ◌<◌, List, [], length, arith, ap, subst, slice_index_or}
use Rattle.lwkt_search.specs.Links.{Link, links_behind}
use Rattle.lwkt_search.proofs.LinkLemmas.{links_long, link_cpu}
use Rattle.lwkt_search.proofs.links.Links.cpu.Goals as goal

pub index-requires : goal.index-requires
index-requires c =
    let parents = c.self.inside.parents.items in
    let cpus = c.self.inside.cpus.items in
    let even : length cpus ≡ length parents = c.self.invariant in
    let count : length (links_behind [] parents cpus) ≡ length parents = links_long parents cpus even in
    let view : length (links_behind [] parents cpus) ≡ length c.args.self.now = ap (λ (ls : List Link). length ls) c.self.view_is in
    omega (arith, c.requires)

pub returns : goal.returns
returns c = λ d.
    let parents = c.self.inside.parents.items in
    let cpus = c.self.inside.cpus.items in
    let even : length cpus ≡ length parents = c.self.invariant in
    let count : length (links_behind [] parents cpus) ≡ length parents = links_long parents cpus even in
    let view : length (links_behind [] parents cpus) ≡ length c.args.self.now = ap (λ (ls : List Link). length ls) c.self.view_is in
    let there : c.args.at < length cpus = omega (arith, c.requires) in
    let F : List Link → Type 0 = λ ls. c.index.result.now ≡ (slice_index_or ls c.args.at d).cpu in
    subst F c.self.view_is (link_cpu parents cpus c.args.at c.index.result.now d even there c.index.ensures)
