use Rattle.std.proofs.Common.{◌≡◌, ◌+◌, ◌<◌, ◌≤◌, List, [], ◌∷◌, length, arith, ap, ◌∙◌, slice_set, rules}
use Rattle.std.proofs.lemmas.List.{length-append}
use Rattle.std.proofs.lemmas.Bool.{ltb-false}
use Rattle.lwkt_search.specs.Links.{Link, link_by}
use Rattle.lwkt_search.specs.Graphs.{node_at, nodes_of, IsNew}
use Rattle.lwkt_search.proofs.GraphLemmas.{has_states}
use Rattle.lwkt_search.proofs.NodeLemmas.{nodes_long}
use Rattle.lwkt_search.proofs.RowLemmas.{new_row, seen_row, turned_last, turned_low}
use Rattle.lwkt_search.proofs.searches.Task.note.Goals as goal

pub returns-then-place-before-clause-within : goal.returns-then-place-before-clause-within
returns-then-place-before-clause-within g c =
    let turn = g.M.Machine.turn_of c.args.self.now.machine in
    let start = g.M.Machine.start_of c.args.self.now.machine in
    let cpus = c.args.self.now.cpus in
    let old = g.M.Machine.kept c.args.store.now in
    let new = g.M.Machine.kept c.turn.new.store in
    let links = c.args.links.now in
    let row = c.args.row.now.items in
    let at = c.args.at in
    let cpu = c.args.cpu in
    let place = c.in_ok-place.place in
    let set : c.put.new.row.items ≡ slice_set row cpu place = search rules in
    let long : length links ≡ length old = c.requires.long in
    let low : place < length old = omega arith in
    let both = seen_row turn start cpus old new links row c.put.new.row.items at cpu place c.requires.within long c.requires.there c.requires.cpu (turned_low turn old new at cpu place c.in_ok-place.ensures.turned low) set in
    both.0

pub returns-then-place-before-clause-grows : goal.returns-then-place-before-clause-grows
returns-then-place-before-clause-grows g c =
    let turn = g.M.Machine.turn_of c.args.self.now.machine in
    let start = g.M.Machine.start_of c.args.self.now.machine in
    let cpus = c.args.self.now.cpus in
    let old = g.M.Machine.kept c.args.store.now in
    let new = g.M.Machine.kept c.turn.new.store in
    let links = c.args.links.now in
    let row = c.args.row.now.items in
    let at = c.args.at in
    let cpu = c.args.cpu in
    let place = c.in_ok-place.place in
    let set : c.put.new.row.items ≡ slice_set row cpu place = search rules in
    let long : length links ≡ length old = c.requires.long in
    let low : place < length old = omega arith in
    let both = seen_row turn start cpus old new links row c.put.new.row.items at cpu place c.requires.within long c.requires.there c.requires.cpu (turned_low turn old new at cpu place c.in_ok-place.ensures.turned low) set in
    both.1

pub returns-clause-within : goal.returns-clause-within
returns-clause-within g c =
    let turn = g.M.Machine.turn_of c.args.self.now.machine in
    let start = g.M.Machine.start_of c.args.self.now.machine in
    let cpus = c.args.self.now.cpus in
    let old = g.M.Machine.kept c.args.store.now in
    let new = g.M.Machine.kept c.turn.new.store in
    let links = c.args.links.now in
    let row = c.args.row.now.items in
    let at = c.args.at in
    let cpu = c.args.cpu in
    let place = c.in_ok-place.place in
    let set : c.put.new.row.items ≡ slice_set row cpu place = search rules in
    let long : length links ≡ length old = c.requires.long in
    let high : length old ≤ place = omega arith in
    let fresh : IsNew turn old new at cpu place = turned_last turn old new at cpu place c.in_ok-place.ensures.turned high in
    let links' = c.push.new.self in
    let both = new_row turn start cpus old new links links' row c.put.new.row.items at cpu place c.requires.within long c.requires.there c.requires.cpu c.in_ok-place.ensures.few fresh c.in_ok-push.ensures set in
    both.0

pub returns-clause-grows : goal.returns-clause-grows
returns-clause-grows g c =
    let turn = g.M.Machine.turn_of c.args.self.now.machine in
    let start = g.M.Machine.start_of c.args.self.now.machine in
    let cpus = c.args.self.now.cpus in
    let old = g.M.Machine.kept c.args.store.now in
    let new = g.M.Machine.kept c.turn.new.store in
    let links = c.args.links.now in
    let row = c.args.row.now.items in
    let at = c.args.at in
    let cpu = c.args.cpu in
    let place = c.in_ok-place.place in
    let set : c.put.new.row.items ≡ slice_set row cpu place = search rules in
    let long : length links ≡ length old = c.requires.long in
    let high : length old ≤ place = omega arith in
    let fresh : IsNew turn old new at cpu place = turned_last turn old new at cpu place c.in_ok-place.ensures.turned high in
    let links' = c.push.new.self in
    let both = new_row turn start cpus old new links links' row c.put.new.row.items at cpu place c.requires.within long c.requires.there c.requires.cpu c.in_ok-place.ensures.few fresh c.in_ok-push.ensures set in
    both.1

pub returns-clause-long : goal.returns-clause-long
returns-clause-long g c =
    let turn = g.M.Machine.turn_of c.args.self.now.machine in
    let start = g.M.Machine.start_of c.args.self.now.machine in
    let cpus = c.args.self.now.cpus in
    let old = g.M.Machine.kept c.args.store.now in
    let new = g.M.Machine.kept c.turn.new.store in
    let links = c.args.links.now in
    let row = c.args.row.now.items in
    let at = c.args.at in
    let cpu = c.args.cpu in
    let place = c.in_ok-place.place in
    let set : c.put.new.row.items ≡ slice_set row cpu place = search rules in
    let long : length links ≡ length old = c.requires.long in
    let high : length old ≤ place = omega arith in
    let fresh : IsNew turn old new at cpu place = turned_last turn old new at cpu place c.in_ok-place.ensures.turned high in
    let links' = c.push.new.self in
    let both = new_row turn start cpus old new links links' row c.put.new.row.items at cpu place c.requires.within long c.requires.there c.requires.cpu c.in_ok-place.ensures.few fresh c.in_ok-push.ensures set in
    let count : length links' ≡ length links + 1 = ap (λ (ls : List Link). length ls) c.in_ok-push.ensures ∙ length-append links (link_by links at cpu ∷ []) in
    let more : length new ≡ length old + 1 = ap (λ (ss : List g.row.M-State.Denot). length ss) fresh.grown ∙ length-append old (fresh.state ∷ []) in
    let both_long : length links' ≡ length new = omega arith in
    both_long

pub returns-clause-few : goal.returns-clause-few
returns-clause-few g c = λ yes was.
    let turn = g.M.Machine.turn_of c.args.self.now.machine in
    let start = g.M.Machine.start_of c.args.self.now.machine in
    let cpus = c.args.self.now.cpus in
    let old = g.M.Machine.kept c.args.store.now in
    let new = g.M.Machine.kept c.turn.new.store in
    let links = c.args.links.now in
    let row = c.args.row.now.items in
    let at = c.args.at in
    let cpu = c.args.cpu in
    let place = c.in_ok-place.place in
    let set : c.put.new.row.items ≡ slice_set row cpu place = search rules in
    let long : length links ≡ length old = c.requires.long in
    let high : length old ≤ place = omega arith in
    let fresh : IsNew turn old new at cpu place = turned_last turn old new at cpu place c.in_ok-place.ensures.turned high in
    let links' = c.push.new.self in
    let both = new_row turn start cpus old new links links' row c.put.new.row.items at cpu place c.requires.within long c.requires.there c.requires.cpu c.in_ok-place.ensures.few fresh c.in_ok-push.ensures set in
    let count : length links' ≡ length links + 1 = ap (λ (ls : List Link). length ls) c.in_ok-push.ensures ∙ length-append links (link_by links at cpu ∷ []) in
    let more : length new ≡ length old + 1 = ap (λ (ss : List g.row.M-State.Denot). length ss) fresh.grown ∙ length-append old (fresh.state ∷ []) in
    let both_long : length links' ≡ length new = omega arith in
    let low : c.len-before.result < c.args.self.now.bound = search rules in
    omega (arith, low, c.len-before.ensures)

pub returns-clause-full : goal.returns-clause-full
returns-clause-full g c = λ no.
    let turn = g.M.Machine.turn_of c.args.self.now.machine in
    let start = g.M.Machine.start_of c.args.self.now.machine in
    let cpus = c.args.self.now.cpus in
    let old = g.M.Machine.kept c.args.store.now in
    let new = g.M.Machine.kept c.turn.new.store in
    let links = c.args.links.now in
    let row = c.args.row.now.items in
    let at = c.args.at in
    let cpu = c.args.cpu in
    let place = c.in_ok-place.place in
    let set : c.put.new.row.items ≡ slice_set row cpu place = search rules in
    let long : length links ≡ length old = c.requires.long in
    let high : length old ≤ place = omega arith in
    let fresh : IsNew turn old new at cpu place = turned_last turn old new at cpu place c.in_ok-place.ensures.turned high in
    let links' = c.push.new.self in
    let both = new_row turn start cpus old new links links' row c.put.new.row.items at cpu place c.requires.within long c.requires.there c.requires.cpu c.in_ok-place.ensures.few fresh c.in_ok-push.ensures set in
    let count : length links' ≡ length links + 1 = ap (λ (ls : List Link). length ls) c.in_ok-push.ensures ∙ length-append links (link_by links at cpu ∷ []) in
    let more : length new ≡ length old + 1 = ap (λ (ss : List g.row.M-State.Denot). length ss) fresh.grown ∙ length-append old (fresh.state ∷ []) in
    let both_long : length links' ≡ length new = omega arith in
    let few : length links' ≤ length new = omega arith in
    let nodes : length (nodes_of new links') ≡ length links' = nodes_long new links' few in
    let above : c.args.self.now.bound ≤ c.len-before.result = ltb-false c.len-before.result c.args.self.now.bound no in
    let enough : c.args.self.now.bound + 1 ≤ length (nodes_of new links') = omega arith in
    has_states turn start cpus (length (nodes_of new links')) (node_at start (nodes_of new links')) (c.args.self.now.bound + 1) both.0.search.graph enough
