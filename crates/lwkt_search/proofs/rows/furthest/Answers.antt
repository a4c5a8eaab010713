use Rattle.std.proofs.Common.{ℕ, ◌<◌, length, arith, inl, inr, refl, sym, subst, ◌∙◌}
use Rattle.std.proofs.lemmas.List.{get_or_read}
use Rattle.lwkt_search.specs.Rows.{IsAmong}
use Rattle.lwkt_search.proofs.rows.furthest.Goals as goal

pub loop-cpu-init : goal.loop-cpu-init
loop-cpu-init c = record { end = omega arith; few = c.requires; among = inl refl }

pub loop-cpu-preserved : goal.loop-cpu-preserved
loop-cpu-preserved c =
    let row = c.args.row.now in
    let cpu = c.loop-cpu.cpu in
    let inside : cpu < length row = omega (arith, c.loop-cpu.invariant.end) in
    let A : ℕ → Type 0 = λ n. IsAmong row c.args.at n in
    record {
      end = c.loop-cpu.invariant.end;
      few = c.later-far.ensures.few;
      among = elim c.later-far.ensures.one [
        | inl same ↦ subst A (sym same) c.loop-cpu.invariant.among
        | inr is ↦ inr (record { cpu = cpu; below = inside; is = sym is })
      ];
    }
