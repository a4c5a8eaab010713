use Rattle.std.proofs.Common.{◌≡◌, ◌≢◌, ℕ, ◌<◌, ◌≤◌, ◌⊎◌, List, length, arith, subst, All, slice_index_or, IsTrue}
use Rattle.lwkt_search.specs.declared.rows.TheConstants.{UNTRIED, LAST}
use Rattle.lwkt_search.specs.Rows.{IsAmong}
use Rattle.lwkt_search.specs.Graphs.{node_at, nodes_of, IsGrown, IsLayer, IsNoted, AreWithin}
use Rattle.lwkt_search.proofs.NodeLemmas.{nodes_long, node_state}
use Rattle.lwkt_search.proofs.RowLemmas.{row_begun, grown_same, grown_on, noted_now, layer_grows, layer_step, within_same, within_more}
use Rattle.lwkt_search.proofs.searches.Task.go_on.Goals as goal

pub sets-choice-requires-clause-there : goal.sets-choice-requires-clause-there
sets-choice-requires-clause-there g c =
    let long : length c.args.growth.now.links ≡ length (g.M.Machine.kept c.args.growth.now.store) = c.requires.growth.long in
    omega (arith, c.requires.there)

pub go_on_by-requires-clause-within : goal.go_on_by-requires-clause-within
go_on_by-requires-clause-within g c =
    let turn = g.M.Machine.turn_of c.args.self.now.machine in
    let ended = g.M.Machine.ended_of c.args.self.now.machine in
    let start = g.M.Machine.start_of c.args.self.now.machine in
    let cpus = c.args.self.now.cpus in
    let turns = c.args.self.now.turns in
    let was = c.requires.growth in
    let kept = g.M.Machine.kept c.args.growth.now.store in
    let links = c.args.growth.now.links in
    let nodes = nodes_of kept links in
    let long : length links ≡ length kept = was.long in
    let few : length links ≤ length kept = omega arith in
    let count : length nodes ≡ length links = nodes_long kept links few in
    let at = c.args.growth.now.gone_on in
    let there : at < length links = c.requires.there in
    let here : at < length nodes = omega arith in
    let depth = c.args.growth.now.layer.depth in
    let end = c.args.growth.now.layer.end in
    row_begun turn start cpus nodes c.begin.new.row.items at was.grown.search was.grown.small c.in_ok-begin.ensures

pub returns-then-not-has_room-clause-growth : goal.returns-then-not-has_room-clause-growth
returns-then-not-has_room-clause-growth g c =
    let turn = g.M.Machine.turn_of c.args.self.now.machine in
    let ended = g.M.Machine.ended_of c.args.self.now.machine in
    let start = g.M.Machine.start_of c.args.self.now.machine in
    let cpus = c.args.self.now.cpus in
    let turns = c.args.self.now.turns in
    let was = c.requires.growth in
    let kept = g.M.Machine.kept c.args.growth.now.store in
    let links = c.args.growth.now.links in
    let nodes = nodes_of kept links in
    let long : length links ≡ length kept = was.long in
    let few : length links ≤ length kept = omega arith in
    let count : length nodes ≡ length links = nodes_long kept links few in
    let at = c.args.growth.now.gone_on in
    let there : at < length links = c.requires.there in
    let here : at < length nodes = omega arith in
    let depth = c.args.growth.now.layer.depth in
    let end = c.args.growth.now.layer.end in
    let kept' = g.M.Machine.kept c.go_on_by.new.store in
    let links' = c.go_on_by.new.links in
    let new = nodes_of kept' links' in
    let long' : length links' ≡ length kept' = c.in_ok-has_room.ensures.long in
    let few' : length links' ≤ length kept' = omega arith in
    let count' : length new ≡ length links' = nodes_long kept' links' few' in
    let from = c.in_ok-has_room.ensures.grows in
    let within = c.in_ok-has_room.ensures.within in
    let longer : length nodes ≤ length new = from.grows.longer in
    let there' : at < length links' = omega arith in
    let here' : at < length new = omega arith in
    let grown : IsGrown turn ended start cpus new c.args.growth.now.onward.items c.args.growth.now.is_whole at = grown_same turn ended start cpus nodes new c.args.growth.now.onward.items c.args.growth.now.is_whole at from.grows within.search within.small was.grown in
    let layer : IsLayer start new depth end at = layer_grows start nodes new depth end at was.layer c.requires.inside from in
    let deep : AreWithin turns start new at = within_same turns start nodes new at from.grows was.grown.search.within was.deep in
    record { long = long'; grown = grown; layer = layer; deep = deep }

pub leads-next-requires : goal.leads-next-requires
leads-next-requires g c =
    let turn = g.M.Machine.turn_of c.args.self.now.machine in
    let ended = g.M.Machine.ended_of c.args.self.now.machine in
    let start = g.M.Machine.start_of c.args.self.now.machine in
    let cpus = c.args.self.now.cpus in
    let turns = c.args.self.now.turns in
    let was = c.requires.growth in
    let kept = g.M.Machine.kept c.args.growth.now.store in
    let links = c.args.growth.now.links in
    let nodes = nodes_of kept links in
    let long : length links ≡ length kept = was.long in
    let few : length links ≤ length kept = omega arith in
    let count : length nodes ≡ length links = nodes_long kept links few in
    let at = c.args.growth.now.gone_on in
    let there : at < length links = c.requires.there in
    let here : at < length nodes = omega arith in
    let depth = c.args.growth.now.layer.depth in
    let end = c.args.growth.now.layer.end in
    let kept' = g.M.Machine.kept c.go_on_by.new.store in
    let links' = c.go_on_by.new.links in
    let new = nodes_of kept' links' in
    let long' : length links' ≡ length kept' = c.in_ok-has_room.ensures.long in
    let few' : length links' ≤ length kept' = omega arith in
    let count' : length new ≡ length links' = nodes_long kept' links' few' in
    let from = c.in_ok-has_room.ensures.grows in
    let within = c.in_ok-has_room.ensures.within in
    let longer : length nodes ≤ length new = from.grows.longer in
    let there' : at < length links' = omega arith in
    let here' : at < length new = omega arith in
    let grown : IsGrown turn ended start cpus new c.args.growth.now.onward.items c.args.growth.now.is_whole at = grown_same turn ended start cpus nodes new c.args.growth.now.onward.items c.args.growth.now.is_whole at from.grows within.search within.small was.grown in
    let layer : IsLayer start new depth end at = layer_grows start nodes new depth end at was.layer c.requires.inside from in
    let deep : AreWithin turns start new at = within_same turns start nodes new at from.grows was.grown.search.within was.deep in
    record { sound = c.in_ok-has_room.ensures.sound; there = omega arith; few = c.requires.few }

pub returns-clause-growth : goal.returns-clause-growth
returns-clause-growth g c =
    let turn = g.M.Machine.turn_of c.args.self.now.machine in
    let ended = g.M.Machine.ended_of c.args.self.now.machine in
    let start = g.M.Machine.start_of c.args.self.now.machine in
    let cpus = c.args.self.now.cpus in
    let turns = c.args.self.now.turns in
    let was = c.requires.growth in
    let kept = g.M.Machine.kept c.args.growth.now.store in
    let links = c.args.growth.now.links in
    let nodes = nodes_of kept links in
    let long : length links ≡ length kept = was.long in
    let few : length links ≤ length kept = omega arith in
    let count : length nodes ≡ length links = nodes_long kept links few in
    let at = c.args.growth.now.gone_on in
    let there : at < length links = c.requires.there in
    let here : at < length nodes = omega arith in
    let depth = c.args.growth.now.layer.depth in
    let end = c.args.growth.now.layer.end in
    let kept' = g.M.Machine.kept c.go_on_by.new.store in
    let links' = c.go_on_by.new.links in
    let new = nodes_of kept' links' in
    let long' : length links' ≡ length kept' = c.in_ok-has_room.ensures.long in
    let few' : length links' ≤ length kept' = omega arith in
    let count' : length new ≡ length links' = nodes_long kept' links' few' in
    let from = c.in_ok-has_room.ensures.grows in
    let within = c.in_ok-has_room.ensures.within in
    let longer : length nodes ≤ length new = from.grows.longer in
    let there' : at < length links' = omega arith in
    let here' : at < length new = omega arith in
    let grown : IsGrown turn ended start cpus new c.args.growth.now.onward.items c.args.growth.now.is_whole at = grown_same turn ended start cpus nodes new c.args.growth.now.onward.items c.args.growth.now.is_whole at from.grows within.search within.small was.grown in
    let layer : IsLayer start new depth end at = layer_grows start nodes new depth end at was.layer c.requires.inside from in
    let deep : AreWithin turns start new at = within_same turns start nodes new at from.grows was.grown.search.within was.deep in
    let row = c.go_on_by.new.row.items in
    let is_whole = c.stays_whole-is_whole.result in
    let next = c.leads-next.result in
    let state = slice_index_or kept' at start in
    let same : (node_at start new at).state ≡ state = node_state start kept' links' at few' there' in
    let slice = c.as_slice-turns.ensures.value in
    let L : List ℕ → Type 0 = λ xs. next ≡ LAST → ended state ⊎ All (λ n. n ≡ at) xs in
    let M : List ℕ → Type 0 = λ xs. next ≢ LAST → All (λ n. n ≡ at) xs → ⊥ in
    let I : List ℕ → Type 0 = λ xs. next ≢ LAST → IsAmong xs at next in
    let T : List ℕ → Type 0 = λ xs. All (λ n. n ≢ UNTRIED) xs in
    let tried : IsTrue is_whole → T row = λ yes. subst T slice (c.stays_whole-is_whole.ensures.tried yes) in
    let noted : IsNoted turn ended start cpus new is_whole next at = noted_now turn ended start cpus new is_whole row at next state within here' same (subst L slice c.leads-next.ensures.last) c.leads-next.ensures.going (subst M slice c.leads-next.ensures.moving) (subst I slice c.leads-next.ensures.among) tried in
    let low : at ≤ at = omega arith in
    let own : (node_at start new at).depth ≡ depth = layer.here at low c.requires.inside in
    let shallow : (node_at start new at).depth ≤ turns = omega (arith, c.requires.deep) in
    record {
      long = long';
      grown = grown_on turn ended start cpus new c.args.growth.now.onward.items c.push.new.list.items c.args.growth.now.is_whole is_whole row at next grown within here' c.in_ok-push.ensures.items c.stays_whole-is_whole.ensures.whole tried noted;
      layer = layer_step start new depth end at layer c.requires.inside;
      deep = within_more turns start new at deep shallow;
    }
