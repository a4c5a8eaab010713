use Rattle.std.proofs.Common.{ap, sym, ◌∙◌, ◌≡◌, ◌+◌, ◌<◌, ℕ, length, length-append, [], ◌∷◌, subst, arith}
use Rattle.lwkt_bank.specs.declared.views.Plan.{Plan}
use Rattle.lwkt_bank.specs.Rule.{plan_at}
use Rattle.lwkt_bank.specs.Closing.{IsRead, AreRead, kept_by}
use Rattle.lwkt_bank.proofs.KeptMoves.{read_more, read_none}
use Rattle.lwkt_bank.proofs.closings.values.Goals as goal

pub loop-blank-init : goal.loop-blank-init
loop-blank-init c =
    let e = c.requires.room in
    let none = ap length e.no_gens in
    let many = c.requires.blank in
    record {
      read = read_none c.args.plans.now c.args.cpus c.args.words.now c.args.slots.now c.args.kept.now c.args.closed (length c.args.closed.gens.items) e.no_rows e.no_gens e.no_tallies e.no_blobs none;
      left = omega arith;
      room = e.room;
    }

pub close_token-requires-clause-fits : goal.close_token-requires-clause-fits
close_token-requires-clause-fits c = λ tally cpu.
    let w = c.type_inv.words in
    let i = c.loop-blank.invariant in
    let left = i.left in
    let more = ap length c.in-Some.ensures.items in
    let longer = length-append c.pop.new.self.items (c.in-Some.blank ∷ []) in
    let law = ap (λ (p : Plan). p.law) (sym c.plan_in-plan.ensures) ∙ tally in
    let F : ℕ → Type 0 = λ n. kept_by c.args.kept.now n cpu < 18446744073709551616 in
    subst F (c.len.ensures ∙ c.loop-blank.closed.gens.ok.0) (c.requires.fits (λ k. let f = w k in omega arith) c.len.result (let l = c.len.ensures in let o = c.loop-blank.closed.gens.ok.0 in omega arith) law cpu)

pub loop-blank-preserved : goal.loop-blank-preserved
loop-blank-preserved c =
    let plans = c.args.plans.now in
    let i = c.loop-blank.invariant in
    let count = length c.loop-blank.closed.gens.items in
    let x = c.close_token.ensures.read in
    let left = i.left in
    let more = ap length c.in-Some.ensures.items in
    let longer = length-append c.pop.new.self.items (c.in-Some.blank ∷ []) in
    let grown = ap length x.6 in
    let one = length-append c.loop-blank.closed.gens.items (x.1 ∷ []) in
    let next : length c.close_token.new.closed.gens.items ≡ count + 1 = omega arith in
    let F : Plan → Type 0 = λ p. IsRead p c.args.cpus c.args.words.now c.args.slots.now c.args.kept.now count x.0 x.1 x.2 x.3 in
    let G : ℕ → Type 0 = λ n. AreRead plans c.args.cpus c.args.words.now c.args.slots.now c.args.kept.now c.close_token.new.closed n in
    let H : ℕ → Type 0 = λ n. F (plan_at plans n) in
    record {
      read = subst G (sym next) (read_more plans c.args.cpus c.args.words.now c.args.slots.now c.args.kept.now c.loop-blank.closed c.close_token.new.closed count x.0 x.1 x.2 x.3 i.read (subst H (c.len.ensures ∙ c.loop-blank.closed.gens.ok.0) (subst F c.plan_in-plan.ensures x.4)) x.5 x.6 x.7 x.8);
      left = omega arith;
      room = c.close_token.ensures.room (length plans) i.room;
    }
