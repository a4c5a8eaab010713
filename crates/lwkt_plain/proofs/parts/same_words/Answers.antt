use Rattle.std.proofs.Common.{◌≡◌, ◌<◌, length, get_or, ap, sym, ◌∙◌, arith}
use Rattle.lwkt_plain.specs.declared.states.Thread.{Thread}
use Rattle.lwkt_plain.specs.Others.{wordless_thread}
use Rattle.lwkt_plain.proofs.Follows.{thread_at_both}
use Rattle.lwkt_plain.proofs.parts.same_words.Goals as goal

pub same_word_of-requires : goal.same_word_of-requires
same_word_of-requires c =
    let a : Thread = c.index-threads-k.result in
    let b : Thread = c.index-other-k.result in
    let k = c.loop-k.k in
    let threads = c.args.threads.now in
    let there : k < length threads = omega arith in
    let first : get_or threads k a ≡ a = sym c.index-threads-k.is in
    let second : get_or c.args.other.now k b ≡ b = sym c.index-other-k.is in
    ap wordless_thread (sym first) ∙ (thread_at_both threads c.args.other.now k a b c.requires there ∙ ap wordless_thread second)
