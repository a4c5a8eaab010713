use Rattle.std.proofs.Common.{◌≡◌, ℕ, List, length, arith, sym, subst, Bool, IsTrue}
use Rattle.lwkt_search.specs.Graphs.{Node, nodes_of, IsGrown, IsFinished}
use Rattle.lwkt_search.specs.Losses.{IsReaching, IsSettled}
use Rattle.lwkt_search.proofs.losses.lost_states.Goals as goal

pub reaching-requires : goal.reaching-requires
reaching-requires g c =
    let turn = g.M.Machine.turn_of c.args.task.now.machine in
    let ended = g.M.Machine.ended_of c.args.task.now.machine in
    let start = g.M.Machine.start_of c.args.task.now.machine in
    let cpus = c.args.task.now.cpus in
    let kept = g.M.Machine.kept c.args.growth.now.store in
    let links = c.args.growth.now.links in
    let is_whole = c.args.growth.now.is_whole in
    let nodes = nodes_of kept links in
    let long : length links ≡ length kept = c.requires.long in
    let G : ℕ → Type 0 = λ n. IsGrown turn ended start cpus nodes c.args.growth.now.onward.items is_whole n in
    let F : List ℕ → Type 0 = λ xs. IsGrown turn ended start cpus nodes xs is_whole (length nodes) in
    record {
      sound = c.requires.sound;
      room = omega arith;
      exact = λ whole. long;
      grown = subst F (sym c.as_slice.ensures.value) (subst G c.requires.finished.each c.requires.finished.grown);
    }

pub lost_of-requires : goal.lost_of-requires
lost_of-requires g c =
    let turn = g.M.Machine.turn_of c.args.task.now.machine in
    let ended = g.M.Machine.ended_of c.args.task.now.machine in
    let start = g.M.Machine.start_of c.args.task.now.machine in
    let cpus = c.args.task.now.cpus in
    let links = c.args.growth.now.links in
    let is_whole = c.args.growth.now.is_whole in
    let again = c.in_ok-reaches.ensures.again in
    let reaches = c.in_ok-reaches.reaches.items in
    let slice = c.as_slice-2.ensures.value in
    let A : List (Node g.row.M-State.Denot) → Type 0 = λ ns. IsFinished turn ended start cpus ns c.args.growth.now.onward.items is_whole c.args.growth.now.gone_on in
    let R : List (Node g.row.M-State.Denot) → Type 0 = λ ns. IsReaching turn ended start cpus ns reaches in
    let S : List (Node g.row.M-State.Denot) → Type 0 = λ ns. IsTrue is_whole → IsSettled turn start cpus ns reaches in
    let new = nodes_of (g.M.Machine.kept c.reaching.new.store) links in
    let X : List Bool → Type 0 = λ xs. IsReaching turn ended start cpus new xs in
    let Y : List Bool → Type 0 = λ xs. IsTrue is_whole → IsSettled turn start cpus new xs in
    let Z : List Bool → Type 0 = λ xs. length xs ≡ length links in
    record {
      finished = subst A (sym again.same) c.requires.finished;
      room = again.room;
      same = subst Z (sym slice) c.in_ok-reaches.ensures.same;
      reaching = subst X (sym slice) (subst R (sym again.same) c.in_ok-reaches.ensures.reaching);
      settled = subst Y (sym slice) (subst S (sym again.same) c.in_ok-reaches.ensures.settled);
    }
