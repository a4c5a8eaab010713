use Rattle.std.proofs.Common.{◌≡◌, ℕ, ◌<◌, ◌≤◌, length, arith, inl, inr, sym, subst, ◌∙◌, false, true, true≢false, slice_index_or}
use Rattle.std.proofs.lemmas.List.{get_or_read}
use Rattle.lwkt_search.specs.Graphs.{nodes_of, IsNoted}
use Rattle.lwkt_search.proofs.NodeLemmas.{nodes_long}
use Rattle.lwkt_search.proofs.LossLemmas.{again_none, last_stays}
use Rattle.lwkt_search.proofs.losses.leads_on.Goals as goal

pub bounds-onward-at : goal.bounds-onward-at
bounds-onward-at g c =
    let turn = g.M.Machine.turn_of c.args.task.now.machine in
    let ended = g.M.Machine.ended_of c.args.task.now.machine in
    let start = g.M.Machine.start_of c.args.task.now.machine in
    let cpus = c.args.task.now.cpus in
    let kept = g.M.Machine.kept c.args.store.now in
    let links = c.args.links.now in
    let nodes = nodes_of kept links in
    let few : length links ≤ length kept = c.requires.room in
    let count : length nodes ≡ length links = nodes_long kept links few in
    let is_whole = c.args.is_whole in
    omega (arith, c.requires.grown.long, c.requires.there)

pub offset_bounds-onward-at : goal.offset_bounds-onward-at
offset_bounds-onward-at g c =
    let kept = g.M.Machine.kept c.args.store.now in
    let links = c.args.links.now in
    let nodes = nodes_of kept links in
    let few : length links ≤ length kept = c.requires.room in
    let count : length nodes ≡ length links = nodes_long kept links few in
    let low : c.args.at < 4294967295 = omega (arith, c.requires.grown.small, c.requires.there, count) in
    omega (arith, low)

pub returns-then-next-clause-again : goal.returns-then-next-clause-again
returns-then-next-clause-again g c = again_none c.args.links.now c.args.is_whole (g.M.Machine.kept c.args.store.now) c.requires.room c.requires.exact

pub returns-then-next-clause-none : goal.returns-then-next-clause-none
returns-then-next-clause-none g c = λ no whole.
    let turn = g.M.Machine.turn_of c.args.task.now.machine in
    let ended = g.M.Machine.ended_of c.args.task.now.machine in
    let start = g.M.Machine.start_of c.args.task.now.machine in
    let cpus = c.args.task.now.cpus in
    let kept = g.M.Machine.kept c.args.store.now in
    let links = c.args.links.now in
    let nodes = nodes_of kept links in
    let few : length links ≤ length kept = c.requires.room in
    let count : length nodes ≡ length links = nodes_long kept links few in
    let is_whole = c.args.is_whole in
    let onward = c.args.onward.now in
    let reaches = c.args.reaches.now in
    let at = c.args.at in
    let there : at < length links = c.requires.there in
    let here : at < length nodes = omega arith in
    let inside : at < length onward = omega (arith, c.requires.grown.long) in
    let next : ℕ = slice_index_or onward at 0 in
    let noted : IsNoted turn ended start cpus nodes is_whole next at = c.requires.grown.noted at here in
    last_stays turn ended start cpus nodes reaches at c.requires.reaching here c.requires.dark (noted.last c.if-next.true)

pub bounds-reaches-next : goal.bounds-reaches-next
bounds-reaches-next g c =
    let turn = g.M.Machine.turn_of c.args.task.now.machine in
    let ended = g.M.Machine.ended_of c.args.task.now.machine in
    let start = g.M.Machine.start_of c.args.task.now.machine in
    let cpus = c.args.task.now.cpus in
    let kept = g.M.Machine.kept c.args.store.now in
    let links = c.args.links.now in
    let nodes = nodes_of kept links in
    let few : length links ≤ length kept = c.requires.room in
    let count : length nodes ≡ length links = nodes_long kept links few in
    let is_whole = c.args.is_whole in
    let onward = c.args.onward.now in
    let reaches = c.args.reaches.now in
    let at = c.args.at in
    let there : at < length links = c.requires.there in
    let here : at < length nodes = omega arith in
    let inside : at < length onward = omega (arith, c.requires.grown.long) in
    let next : ℕ = slice_index_or onward at 0 in
    let noted : IsNoted turn ended start cpus nodes is_whole next at = c.requires.grown.noted at here in
    let same : length reaches ≡ length links = c.requires.same in
    elim (noted.leads c.if-next.false) [
      | inl own ↦ omega arith
      | inr to ↦ let found : next < length nodes = to.turned.there in omega arith
    ]

pub returns-then-leads-clause-again : goal.returns-then-leads-clause-again
returns-then-leads-clause-again g c = again_none c.args.links.now c.args.is_whole (g.M.Machine.kept c.args.store.now) c.requires.room c.requires.exact

pub returns-then-leads-clause-some : goal.returns-then-leads-clause-some
returns-then-leads-clause-some g c = λ yes.
    let turn = g.M.Machine.turn_of c.args.task.now.machine in
    let ended = g.M.Machine.ended_of c.args.task.now.machine in
    let start = g.M.Machine.start_of c.args.task.now.machine in
    let cpus = c.args.task.now.cpus in
    let kept = g.M.Machine.kept c.args.store.now in
    let links = c.args.links.now in
    let nodes = nodes_of kept links in
    let few : length links ≤ length kept = c.requires.room in
    let count : length nodes ≡ length links = nodes_long kept links few in
    let is_whole = c.args.is_whole in
    let onward = c.args.onward.now in
    let reaches = c.args.reaches.now in
    let at = c.args.at in
    let there : at < length links = c.requires.there in
    let here : at < length nodes = omega arith in
    let inside : at < length onward = omega (arith, c.requires.grown.long) in
    let next : ℕ = slice_index_or onward at 0 in
    let noted : IsNoted turn ended start cpus nodes is_whole next at = c.requires.grown.noted at here in
    let same : length reaches ≡ length links = c.requires.same in
    let F : ℕ → Type 0 = λ n. slice_index_or reaches n false ≡ true in
    let found : next < length reaches = elim (noted.leads c.if-next.false) [
      | inl own ↦ omega arith
      | inr to ↦ let found : next < length nodes = to.turned.there in omega arith
    ]
    in
    let light : F next = c.if-leads.true in
    elim (noted.leads c.if-next.false) [
      | inl own ↦ absurd (true≢false (sym (subst F own light) ∙ c.requires.dark))
      | inr to ↦ record { cpu = to.cpu; below = to.below; next = record { place = next; there = to.turned.there; leads = to.turned.leads; is = light } }
    ]

pub leads_out-requires-clause-tried : goal.leads_out-requires-clause-tried
leads_out-requires-clause-tried g c = c.requires.grown.tried
