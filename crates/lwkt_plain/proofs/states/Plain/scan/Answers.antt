use Rattle.std.proofs.Common.{◌≡◌, ◌<◌, ◌≤◌, ◌-◌, ◌+◌, ℕ, suc, length, ap, sym, ◌∙◌, subst, refl, arith, rules, Option, Some, None}
use Rattle.std.specs.List.{range_with_len}
use Rattle.lwkt_base.specs.declared.limits.TheConstants.{CPU_LIMIT}
use Rattle.lwkt_plain.specs.Turns.{Found, found, tries, finds}
use Rattle.lwkt_plain.proofs.Soundness.{few_cpus}
use Rattle.lwkt_plain.proofs.TurnSound.{StaysIdle, stays_here, stays_on, try_comes, scan_hit, scan_miss, scan_end}
use Rattle.lwkt_plain.proofs.states.Plain.scan.Goals as goal

pub loop-k-init : goal.loop-k-init
loop-k-init c = record { goes = refl; stays = stays_here c.args.c c.args.self.now c.requires.sound c.requires.idle }

pub try_list-requires : goal.try_list-requires
try_list-requires c =
    let stays = c.loop-k.invariant.stays in
    let cpus = stays.cpus in
    let here = c.requires.here in
    record { here = omega (arith, cpus, here); sound = stays.sound; idle = stays.idle }

pub returns-then-try_list : goal.returns-then-try_list
returns-then-try_list c =
    let k = c.loop-k.k in
    let n = c.args.to - k in
    let e : n ≡ suc (n - 1) = omega arith in
    let tried : found c.try_list.new.self (Some k) ≡ tries c.args.c k c.loop-k.self = search rules in
    sym (scan_hit c.args.c c.loop-k.self c.try_list.new.self k n (n - 1) e tried) ∙ c.loop-k.invariant.goes

pub loop-k-preserved : goal.loop-k-preserved
loop-k-preserved c =
    let k = c.loop-k.k in
    let n = c.args.to - k in
    let p = c.loop-k.self in
    let q = c.try_list.new.self in
    let e : n ≡ suc (n - 1) = omega arith in
    let f : c.args.to - (k + 1) ≡ n - 1 = omega arith in
    let tried : found q None ≡ tries c.args.c k p = search rules in
    let stays = c.loop-k.invariant.stays in
    let cpus = stays.cpus in
    let here = c.requires.here in
    let inside : c.args.c < length p.cpus = omega (arith, cpus, here) in
    let few = few_cpus p stays.sound in
    let comes = try_comes c.args.c k p inside stays.sound stays.idle (omega (arith, few, inside)) in
    let more : StaysIdle c.args.c p q = subst (StaysIdle c.args.c p) (ap (λ (x : Found). x.plain) (sym tried)) (comes.0 (ap (λ (x : Found). x.place) (sym tried))) in
    record {
      goes = ap (λ (m : ℕ). finds c.args.c q (range_with_len (k + 1) m)) f ∙ sym (scan_miss c.args.c p q k n (n - 1) e tried) ∙ c.loop-k.invariant.goes;
      stays = stays_on c.args.c c.args.self.now p q stays more;
    }

pub returns : goal.returns
returns c =
    let e : c.args.to - c.loop-k.k ≡ 0 = omega arith in
    sym (scan_end c.args.c c.loop-k.self c.loop-k.k (c.args.to - c.loop-k.k) e) ∙ c.loop-k.invariant.goes
