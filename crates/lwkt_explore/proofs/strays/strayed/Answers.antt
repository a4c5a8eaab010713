use Rattle.std.proofs.Common.{◌≡◌, ℕ, ◌+◌, ◌<◌, ◌≤◌, ◌∙◌, List, [], ◌∷◌, ◌++◌, All, length, length-append, ap, arith, subst, sym}
use Rattle.std.proofs.lemmas.List.Elements.{All-push}
use Rattle.lwkt_plain.specs.Stores.{kept, form_turn}
use Rattle.lwkt_explore.proofs.StrayLemmas.{turned_there}
use Rattle.lwkt_explore.proofs.strays.strayed.Goals as goal

pub loop-turn-preserved : goal.loop-turn-preserved
loop-turn-preserved c =
    let cpus : c.from-cpus.result ≡ c.args.script.now.cpus = c.loop-turn.invariant.cpus in
    let at_least : 0 < c.args.script.now.cpus = c.requires.some in
    let at_most : c.args.script.now.cpus ≤ 8 = c.requires.few in
    let below : c.next.result < c.from-cpus.result = c.next.ensures in
    let number : c.number_in_order-cpu.result ≡ c.next.result = c.number_in_order-cpu.ensures (omega arith) in
    let there : c.number_in_order-cpu.result < c.args.script.now.cpus = omega arith in
    let items : c.push.new.list.items ≡ c.loop-turn.order.items ++ c.number_in_order-cpu.result ∷ [] = c.in_ok-push.ensures.items in
    let P : ℕ → Type 0 = λ cpu. cpu < c.args.script.now.cpus in
    let G : List ℕ → Type 0 = λ order. All P order in
    let more : length c.push.new.list.items ≡ length c.loop-turn.order.items + 1 = ap (λ (xs : List ℕ). length xs) items ∙ length-append c.loop-turn.order.items (c.number_in_order-cpu.result ∷ []) in
    record {
      store = c.in_ok-next.ensures.store;
      there = turned_there (form_turn c.args.script.now) (kept c.rests.new.store) (kept c.turn.new.self) c.loop-turn.at c.number_in_order-cpu.result c.in_ok-next.next c.in_ok-next.ensures.turned;
      cpus = cpus;
      order = subst G (sym items) (All-push P c.loop-turn.order.items c.number_in_order-cpu.result c.loop-turn.invariant.order there);
      short = omega (arith, more, c.loop-turn.invariant.short);
    }
