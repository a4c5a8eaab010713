use Rattle.std.proofs.Common.{◌≡◌, ◌≤◌, ℕ, List, length, arith, subst, sym, ◌∙◌, Some}
use Rattle.std.specs.List.{slice_get}
use Rattle.lwkt_plain.specs.Stores.{kept}
use Rattle.lwkt_search.specs.declared.searches.Outcome.{Outcome as Last}
use Rattle.lwkt_search.specs.Graphs.{nodes_of}
use Rattle.lwkt_search.proofs.NodeLemmas.{nodes_long}
use Rattle.lwkt_explore.specs.Searches.{IsLostAlong}
use Rattle.lwkt_explore.proofs.ToldLemmas.{none_found, first_lost}
use Rattle.lwkt_explore.proofs.searches.lost_in.Goals as goal

pub lost_states-requires-clause-finished : goal.lost_states-requires-clause-finished
lost_states-requires-clause-finished c =
    let is = c.requires.searched in
    let states = kept c.args.found.growth.store in
    let links = c.args.found.growth.links in
    let same : length links ≡ length states = is.noted in
    let few : length links ≤ length states = omega arith in
    let count : length (nodes_of states links) ≡ length links = nodes_long states links few in
    let all : c.args.found.growth.gone_on ≡ length links = is.each c.requires.all in
    let noted : length links ≡ length states = is.noted in
    record { grown = is.grown; each = omega (arith, all, noted, count) }

pub returns-in-None-clause-none : goal.returns-in-None-clause-none
returns-in-None-clause-none c = λ yes none.
    let task = c.args.task.now in
    let F : List Last → Type 0 = λ xs. slice_get xs 0 ≡ Rattle.std.proofs.Common.None in
    none_found task.machine.script.now task.cpus (kept c.lost_states.new.growth.store) c.in_ok-lost.lost.items (c.in_ok-lost.ensures.complete yes) (subst F c.as_slice.ensures.value (sym c.in-None.ensures.value))

pub returns-clause-some : goal.returns-clause-some
returns-clause-some c = λ yes.
    let task = c.args.task.now in
    let one = c.in-Some.first.now in
    let F : List Last → Type 0 = λ xs. Some one ≡ slice_get xs 0 in
    let G : List ℕ → Type 0 = λ order. IsLostAlong task.machine.script.now task.cpus order in
    let along : G one.order.items = first_lost task.machine.script.now task.cpus (kept c.lost_states.new.growth.store) c.in_ok-lost.lost.items one (subst F c.as_slice.ensures.value c.in-Some.ensures.value) (c.in_ok-lost.ensures.sound yes) in
    subst G (sym (c.in_ok-order-in-Some.ensures.items ∙ c.as_slice-in-Some.ensures.value)) along
