use Rattle.std.proofs.Common.{◌≡◌, ℕ, ◌+◌, ◌<◌, ◌≤◌, List, length, arith, ap, subst, sym, ◌∙◌, IsTrue, Vec, All, slice_index_or}
use Rattle.std.proofs.lemmas.List.{get_or_read}
use Rattle.std.proofs.lemmas.List.Elements.{All-push}
use Rattle.std.specs.declared.alloc.Global.{Global}
use Rattle.lwkt_search.specs.declared.searches.Outcome.{Outcome}
use Rattle.lwkt_search.specs.Runs.{all_told, told_of, IsLast, IsOrder}
use Rattle.lwkt_search.specs.Graphs.{node_at, nodes_of, IsCollected, IsNoted}
use Rattle.lwkt_search.proofs.CountLemmas.{no_more}
use Rattle.lwkt_search.proofs.NodeLemmas.{nodes_long}
use Rattle.lwkt_search.proofs.RowLemmas.{is_full}
use Rattle.lwkt_search.proofs.RunLemmas.{collect_more, collect_less, all_collected, told_push}
use Rattle.lwkt_search.proofs.searches.Task.search.Goals as goal
use Rattle.lwkt_search.proofs.searches.Task.search.Goals.{then-next+in_ok-order+in_ok-push, else-next}

pub loop-at-preserved : goal.loop-at-preserved
loop-at-preserved g c =
    let turn = g.M.Machine.turn_of c.args.self.now.machine in
    let start = g.M.Machine.start_of c.args.self.now.machine in
    let ended = g.M.Machine.ended_of c.args.self.now.machine in
    let cpus = c.args.self.now.cpus in
    let kept = g.M.Machine.kept c.in_ok-growth.growth.store in
    let links = c.in_ok-growth.growth.links in
    let nodes = nodes_of kept links in
    let is_whole = c.in_ok-growth.growth.is_whole in
    let onward = c.in_ok-growth.growth.onward.items in
    let gone_on = c.in_ok-growth.growth.gone_on in
    let grown = c.in_ok-growth.ensures.growth.grown in
    let long : length links ≡ length kept = c.in_ok-growth.ensures.growth.long in
    let fewer : length links ≤ length kept = omega arith in
    let count : length nodes ≡ length links = nodes_long kept links fewer in
    let at = c.loop-at.at in
    let within : gone_on ≤ length nodes = grown.search.within in
    let there : at < length nodes = omega (arith, c.loop-at.invariant.end) in
    let below : at < gone_on = omega (arith, c.loop-at.invariant.end) in
    let noted : IsNoted turn ended start cpus nodes is_whole (slice_index_or onward at 0) at = grown.noted at below in
    let inside : at < length onward = omega (arith, grown.long) in
    let read : c.index-next.result.now ≡ slice_index_or onward at 0 = get_or_read onward at c.index-next.result.now inside c.index-next.ensures 0 in
    let collected : IsCollected turn ended start cpus nodes is_whole (all_told start kept c.if-next.outcomes.items) (at + 1) =
    elim c.if-next.branch [
      | then-next+in_ok-order+in_ok-push w ↦
          let last : Outcome = record { place = at; order = w.in_ok-order.order } in
          let pushed = ap (λ (v : Vec Outcome Global). v.items) w.outcomes-is ∙ w.in_ok-push.ensures.items in
          collect_more turn ended start cpus nodes is_whole (all_told start kept c.loop-at.outcomes.items) (all_told start kept c.if-next.outcomes.items) at (told_of start kept last) c.loop-at.invariant.collected there grown.search.graph
          (λ yes.
          let all : gone_on ≡ length links = c.in_ok-growth.ensures.complete (c.in_ok-growth.ensures.whole yes) in
          let same : gone_on ≡ length nodes = omega arith in
          is_full turn ended start cpus nodes onward is_whole gone_on grown same yes)
          w.in_ok-order.ensures (noted.last (sym read ∙ w.if-next.true)) (told_push start kept c.loop-at.outcomes.items last c.if-next.outcomes.items pushed)
      | else-next w ↦
          let other : IsTrue is_whole → IsLast turn ended cpus (node_at start nodes at).state → ⊥ = λ yes. noted.other (λ so. w.if-next.false (read ∙ so)) yes in
          collect_less turn ended start cpus nodes is_whole (all_told start kept c.loop-at.outcomes.items) (all_told start kept c.if-next.outcomes.items) at c.loop-at.invariant.collected other (ap (λ (v : Vec Outcome Global). all_told start kept v.items) w.outcomes-is)
    ]
    in
    let before : (i : ℕ) → (d : Outcome) → i < length c.loop-at.outcomes.items → (slice_index_or c.loop-at.outcomes.items i d).place < at + 1 = λ i d h. omega (arith, c.loop-at.invariant.places i d h) in
    let B : Outcome → Type 0 = λ o. o.place < at + 1 in
    let places : All B c.if-next.outcomes.items =
    elim c.if-next.branch [
      | then-next+in_ok-order+in_ok-push w ↦
          let last : Outcome = record { place = at; order = w.in_ok-order.order } in
          let pushed = ap (λ (v : Vec Outcome Global). v.items) w.outcomes-is ∙ w.in_ok-push.ensures.items in
          let L : List Outcome → Type 0 = λ xs. All B xs in
          subst L (sym pushed) (All-push B c.loop-at.outcomes.items last before (omega arith))
      | else-next w ↦
          let L : Vec Outcome Global → Type 0 = λ v. All B v.items in
          subst L (sym w.outcomes-is) before
    ]
    in
    let turns : ℕ = c.args.self.now.turns in
    let S : Outcome → Type 0 = λ o. length o.order.items ≤ turns in
    let short : All S c.if-next.outcomes.items =
    elim c.if-next.branch [
      | then-next+in_ok-order+in_ok-push w ↦
          let last : Outcome = record { place = at; order = w.in_ok-order.order } in
          let pushed = ap (λ (v : Vec Outcome Global). v.items) w.outcomes-is ∙ w.in_ok-push.ensures.items in
          let L : List Outcome → Type 0 = λ xs. All S xs in
          let deep : (node_at start nodes at).depth ≤ turns = c.in_ok-growth.ensures.growth.deep at below in
          let size : length w.in_ok-order.order.items ≡ (node_at start nodes at).depth = w.in_ok-order.ensures.long in
          subst L (sym pushed) (All-push S c.loop-at.outcomes.items last c.loop-at.invariant.short (omega (arith, size, deep)))
      | else-next w ↦
          let L : Vec Outcome Global → Type 0 = λ v. All S v.items in
          subst L (sym w.outcomes-is) c.loop-at.invariant.short
    ]
    in
    let O : Outcome → Type 0 = λ o. IsOrder cpus o.order.items in
    let orders : All O c.if-next.outcomes.items =
    elim c.if-next.branch [
      | then-next+in_ok-order+in_ok-push w ↦
          let last : Outcome = record { place = at; order = w.in_ok-order.order } in
          let pushed = ap (λ (v : Vec Outcome Global). v.items) w.outcomes-is ∙ w.in_ok-push.ensures.items in
          let L : List Outcome → Type 0 = λ xs. All O xs in
          subst L (sym pushed) (All-push O c.loop-at.outcomes.items last c.loop-at.invariant.orders w.in_ok-order.ensures.order)
      | else-next w ↦
          let L : Vec Outcome Global → Type 0 = λ v. All O v.items in
          subst L (sym w.outcomes-is) c.loop-at.invariant.orders
    ]
    in
    record { end = c.loop-at.invariant.end; collected = collected; short = short; orders = orders; places = places }

pub returns-clause-complete : goal.returns-clause-complete
returns-clause-complete g c = λ yes order below last.
    let turn = g.M.Machine.turn_of c.args.self.now.machine in
    let start = g.M.Machine.start_of c.args.self.now.machine in
    let ended = g.M.Machine.ended_of c.args.self.now.machine in
    let cpus = c.args.self.now.cpus in
    let kept = g.M.Machine.kept c.in_ok-growth.growth.store in
    let links = c.in_ok-growth.growth.links in
    let nodes = nodes_of kept links in
    let is_whole = c.in_ok-growth.growth.is_whole in
    let onward = c.in_ok-growth.growth.onward.items in
    let gone_on = c.in_ok-growth.growth.gone_on in
    let grown = c.in_ok-growth.ensures.growth.grown in
    let long : length links ≡ length kept = c.in_ok-growth.ensures.growth.long in
    let fewer : length links ≤ length kept = omega arith in
    let count : length nodes ≡ length links = nodes_long kept links fewer in
    let none = c.in_ok-growth.ensures.whole yes in
    let all : gone_on ≡ length links = c.in_ok-growth.ensures.complete none in
    let each : gone_on ≡ length nodes = omega arith in
    let full = is_full turn ended start cpus nodes onward is_whole gone_on grown each yes in
    let end : length nodes ≤ c.loop-at.at = omega (arith, c.loop-at.invariant.end) in
    all_collected turn ended start cpus nodes is_whole (all_told start kept c.loop-at.outcomes.items) c.loop-at.at yes full c.loop-at.invariant.collected end order below last

pub returns-clause-once : goal.returns-clause-once
returns-clause-once g c = c.loop-at.invariant.collected.spread.apart

pub returns-clause-few : goal.returns-clause-few
returns-clause-few g c = λ yes number has.
    let turn = g.M.Machine.turn_of c.args.self.now.machine in
    let start = g.M.Machine.start_of c.args.self.now.machine in
    let ended = g.M.Machine.ended_of c.args.self.now.machine in
    let cpus = c.args.self.now.cpus in
    let kept = g.M.Machine.kept c.in_ok-growth.growth.store in
    let links = c.in_ok-growth.growth.links in
    let nodes = nodes_of kept links in
    let is_whole = c.in_ok-growth.growth.is_whole in
    let onward = c.in_ok-growth.growth.onward.items in
    let gone_on = c.in_ok-growth.growth.gone_on in
    let grown = c.in_ok-growth.ensures.growth.grown in
    let long : length links ≡ length kept = c.in_ok-growth.ensures.growth.long in
    let fewer : length links ≤ length kept = omega arith in
    let count : length nodes ≡ length links = nodes_long kept links fewer in
    let none = c.in_ok-growth.ensures.whole yes in
    let all : gone_on ≡ length links = c.in_ok-growth.ensures.complete none in
    let each : gone_on ≡ length nodes = omega arith in
    let full = is_full turn ended start cpus nodes onward is_whole gone_on grown each yes in
    let few : length links ≤ c.args.self.now.bound = c.in_ok-growth.ensures.few none in
    let most : number ≤ length nodes = no_more turn start cpus (length nodes) (node_at start nodes) number full has in
    omega arith

pub order-requires-clause-there : goal.order-requires-clause-there
order-requires-clause-there g c =
    let kept = g.M.Machine.kept c.in_ok-growth.growth.store in
    let links = c.in_ok-growth.growth.links in
    let long : length links ≡ length kept = c.in_ok-growth.ensures.growth.long in
    let fewer : length links ≤ length kept = omega arith in
    let count : length (nodes_of kept links) ≡ length links = nodes_long kept links fewer in
    let within : c.in_ok-growth.growth.gone_on ≤ length (nodes_of kept links) = c.in_ok-growth.ensures.growth.grown.search.within in
    omega (arith, c.loop-at.invariant.end)

pub returns-clause-places : goal.returns-clause-places
returns-clause-places g c =
    let kept = g.M.Machine.kept c.in_ok-growth.growth.store in
    let links = c.in_ok-growth.growth.links in
    let long : length links ≡ length kept = c.in_ok-growth.ensures.growth.long in
    let fewer : length links ≤ length kept = omega arith in
    let count : length (nodes_of kept links) ≡ length links = nodes_long kept links fewer in
    let within : c.in_ok-growth.growth.gone_on ≤ length (nodes_of kept links) = c.in_ok-growth.ensures.growth.grown.search.within in
    λ i d h. omega (arith, c.loop-at.invariant.places i d h, c.loop-at.invariant.end)

pub returns-clause-short : goal.returns-clause-short
returns-clause-short g c = c.loop-at.invariant.short

pub returns-clause-orders : goal.returns-clause-orders
returns-clause-orders g c = c.loop-at.invariant.orders
