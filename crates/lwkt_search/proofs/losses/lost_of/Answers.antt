use Rattle.std.proofs.Common.{◌≡◌, ◌+◌, ◌<◌, ◌≤◌, List, length, arith, ◌∙◌, ap, subst, sym, All, Vec}
use Rattle.std.proofs.lemmas.List.Elements.{All-push}
use Rattle.std.specs.declared.alloc.Global.{Global}
use Rattle.lwkt_search.specs.declared.searches.Outcome.{Outcome}
use Rattle.lwkt_search.specs.Runs.{all_told, told_of, IsOrder}
use Rattle.lwkt_search.specs.Graphs.{nodes_of}
use Rattle.lwkt_search.specs.Losses.{IsLostList}
use Rattle.lwkt_search.proofs.LossLemmas.{lost_more, lost_less, lost_at, all_lost}
use Rattle.lwkt_search.proofs.NodeLemmas.{nodes_long}
use Rattle.lwkt_search.proofs.RowLemmas.{is_full}
use Rattle.lwkt_search.proofs.RunLemmas.{told_push}
use Rattle.lwkt_search.proofs.losses.lost_of.Goals as goal
use Rattle.lwkt_search.proofs.losses.lost_of.Goals.{then-not-reaches-at+in_ok-order+in_ok-push, else-not-reaches-at}

pub bounds-reaches-at : goal.bounds-reaches-at
bounds-reaches-at g c =
    let kept = g.M.Machine.kept c.args.growth.now.store in
    let links = c.args.growth.now.links in
    let few : length links ≤ length kept = c.requires.room in
    let count : length (nodes_of kept links) ≡ length links = nodes_long kept links few in
    let is_whole = c.args.growth.now.is_whole in
    omega (arith, c.requires.same, c.loop-at.invariant.end)

pub loop-at-preserved : goal.loop-at-preserved
loop-at-preserved g c =
    let turn = g.M.Machine.turn_of c.args.task.now.machine in
    let ended = g.M.Machine.ended_of c.args.task.now.machine in
    let start = g.M.Machine.start_of c.args.task.now.machine in
    let cpus = c.args.task.now.cpus in
    let kept = g.M.Machine.kept c.args.growth.now.store in
    let links = c.args.growth.now.links in
    let few : length links ≤ length kept = c.requires.room in
    let count : length (nodes_of kept links) ≡ length links = nodes_long kept links few in
    let is_whole = c.args.growth.now.is_whole in
    let nodes = nodes_of kept links in
    let at = c.loop-at.at in
    let there : at < length nodes = omega (arith, c.loop-at.invariant.end) in
    let lost : IsLostList turn ended start cpus nodes is_whole (all_told start kept c.if-not-reaches-at.lost.items) (at + 1) =
    elim c.if-not-reaches-at.branch [
      | then-not-reaches-at+in_ok-order+in_ok-push w ↦
          let dark = lost_at turn ended start cpus nodes is_whole c.args.reaches.now at c.requires.reaching c.requires.settled there w.if-not-reaches-at.true in
          let last : Outcome = record { place = at; order = w.in_ok-order.order } in
          let pushed = ap (λ (v : Vec Outcome Global). v.items) w.lost-is ∙ w.in_ok-push.ensures.items in
          lost_more turn ended start cpus nodes is_whole (all_told start kept c.loop-at.lost.items) (all_told start kept c.if-not-reaches-at.lost.items) at (told_of start kept last) c.requires.finished.grown.search.graph there c.loop-at.invariant.lost w.in_ok-order.ensures dark (told_push start kept c.loop-at.lost.items last c.if-not-reaches-at.lost.items pushed)
      | else-not-reaches-at w ↦
          lost_less turn ended start cpus nodes is_whole (all_told start kept c.loop-at.lost.items) (all_told start kept c.if-not-reaches-at.lost.items) at c.loop-at.invariant.lost (c.requires.reaching.sound at there w.if-not-reaches-at.false) (ap (λ (v : Vec Outcome Global). all_told start kept v.items) w.lost-is)
    ]
    in
    let O : Outcome → Type 0 = λ one. IsOrder cpus one.order.items in
    let orders : All O c.if-not-reaches-at.lost.items =
    elim c.if-not-reaches-at.branch [
      | then-not-reaches-at+in_ok-order+in_ok-push w ↦
          let last : Outcome = record { place = at; order = w.in_ok-order.order } in
          let pushed = ap (λ (v : Vec Outcome Global). v.items) w.lost-is ∙ w.in_ok-push.ensures.items in
          let L : List Outcome → Type 0 = λ xs. All O xs in
          subst L (sym pushed) (All-push O c.loop-at.lost.items last c.loop-at.invariant.orders w.in_ok-order.ensures.order)
      | else-not-reaches-at w ↦
          let L : Vec Outcome Global → Type 0 = λ v. All O v.items in
          subst L (sym w.lost-is) c.loop-at.invariant.orders
    ]
    in
    record { end = c.loop-at.invariant.end; lost = lost; orders = orders }

pub returns-clause-sound : goal.returns-clause-sound
returns-clause-sound g c = c.loop-at.invariant.lost.sound

pub returns-clause-complete : goal.returns-clause-complete
returns-clause-complete g c = λ whole.
    let turn = g.M.Machine.turn_of c.args.task.now.machine in
    let ended = g.M.Machine.ended_of c.args.task.now.machine in
    let start = g.M.Machine.start_of c.args.task.now.machine in
    let cpus = c.args.task.now.cpus in
    let kept = g.M.Machine.kept c.args.growth.now.store in
    let links = c.args.growth.now.links in
    let few : length links ≤ length kept = c.requires.room in
    let count : length (nodes_of kept links) ≡ length links = nodes_long kept links few in
    let is_whole = c.args.growth.now.is_whole in
    let nodes = nodes_of kept links in
    let end : length nodes ≤ c.loop-at.at = omega (arith, c.loop-at.invariant.end) in
    all_lost turn ended start cpus nodes is_whole (all_told start kept c.loop-at.lost.items) c.loop-at.at (is_full turn ended start cpus nodes c.args.growth.now.onward.items is_whole c.args.growth.now.gone_on c.requires.finished.grown c.requires.finished.each whole) c.loop-at.invariant.lost end

pub returns-clause-once : goal.returns-clause-once
returns-clause-once g c = c.loop-at.invariant.lost.spread.apart
