use Rattle.std.proofs.Common.{◌≡◌, ◌∙◌, ap, subst, ℕ, ◌+◌, ◌<◌, length, List, ◌++◌, slice_set, take, drop, map}
use Rattle.lwkt_plain.specs.declared.states.Processor.{Processor}
use Rattle.lwkt_plain.specs.declared.states.Thread.{Thread}
use Rattle.lwkt_plain.specs.Forms.{kept_word, thread_by}
use Rattle.lwkt_plain.proofs.Changes.{mapped_more}
use Rattle.lwkt_plain.proofs.states.Processor.forget.Goals as goal

pub loop-k-preserved : goal.loop-k-preserved
loop-k-preserved c =
    let f : Thread → Thread = thread_by (kept_word c.args.tokens.now) in
    let before = c.args.self.now in
    let k = c.loop-k.k in
    let next : List Thread = map f (take (k + 1) before.threads) ++ drop (k + 1) before.threads in
    let inside : k < length before.threads = subst (λ n. c.loop-k.k < n) c.len-k-end.ensures c.loop-k-test.true in
    let so_far : c.loop-k.self.threads ≡ map f (take k before.threads) ++ drop k before.threads = ap (λ (cpu : Processor). cpu.threads) c.loop-k.invariant in
    let one : slice_set c.loop-k.self.threads k (f c.at-thread.result.now) ≡ next = mapped_more f before.threads c.loop-k.self.threads k c.at-thread.result.now inside so_far c.at-thread.ensures.value in
    ap (λ (ts : List Thread). record c.loop-k.self { threads = ts }) (ap (slice_set c.loop-k.self.threads k) c.forget.ensures ∙ one)
    ∙ ap (λ (cpu : Processor). record cpu { threads = next }) c.loop-k.invariant
