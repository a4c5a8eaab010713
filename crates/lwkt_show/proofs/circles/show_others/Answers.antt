use Rattle.std.proofs.Common.{◌≡◌, ◌∙◌, ◌++◌, ◌+◌, ◌-◌, ◌<◌, [], ap, length, string_bytes, false, if◌then◌else◌}
use Rattle.std.specs.Prelude.{Bool, Some, None}
use Rattle.std.specs.Option.{option_copied}
use Rattle.lwkt_told.specs.Called.{is_thread}
use Rattle.lwkt_show.specs.Circles.{arrow_text, next_of, others_text}
use Rattle.lwkt_show.proofs.CircleLemmas.{others_end, others_on, written_all, written_on}
use Rattle.lwkt_show.proofs.circles.show_others.Goals as goal

pub returns-in-None : goal.returns-in-None
returns-in-None c =
    let names = option_copied c.args.names in
    let next = next_of c.args.waits.now in
    let n = length c.args.waits.now in
    let k = c.loop-wait._wait in
    let below : k < n = c.loop-wait-test.true in
    let is : next c.loop-wait.now ≡ None = cc in
    record {
      kept = c.loop-wait.invariant.0;
      behind = λ kept. written_all (string_bytes c.loop-wait.out.text) (others_text names next c.args.first (n - k) c.loop-wait.now) (string_bytes c.args.out.now.text ++ others_text names next c.args.first n c.args.first)
          (others_end names next c.args.first c.loop-wait.now k n below is) (c.loop-wait.invariant.1 kept);
    }

pub loop-wait-preserved : goal.loop-wait-preserved
loop-wait-preserved c =
    let names = option_copied c.args.names in
    let next = next_of c.args.waits.now in
    let n = length c.args.waits.now in
    let k = c.loop-wait._wait in
    let to = c.in-Some.to in
    let below : k < n = c.loop-wait-test.true in
    let is : next c.loop-wait.now ≡ Some to = cc in
    let other : is_thread to c.args.first ≡ false = cc in
    let on = others_on names next c.args.first c.loop-wait.now to k n below is ∙ ap (λ (b : Bool). arrow_text names to ++ (if b then [] else others_text names next c.args.first (n - (k + 1)) to)) other in (
      (λ kept. c.loop-wait.invariant.0 (c.show_next.ensures.kept kept)),
      (λ kept. written_on (string_bytes c.loop-wait.out.text) (string_bytes c.show_next.new.out.text) (arrow_text names to) (others_text names next c.args.first (n - (k + 1)) to) (others_text names next c.args.first (n - k) c.loop-wait.now)
          (string_bytes c.args.out.now.text ++ others_text names next c.args.first n c.args.first)
          (c.show_next.ensures.behind kept) on (c.loop-wait.invariant.1 (c.show_next.ensures.kept kept))),
    )
