use Rattle.std.proofs.Common.{◌≡◌, ◌++◌, take, drop, map}
use Rattle.lwkt_plain.specs.Forms.{kept_word, thread_by}
use Rattle.lwkt_plain.proofs.states.Processor.forget.Given as goal

-- the threads so far have forgotten
abbrev pub invariant-loop-k : goal.invariant-loop-k
invariant-loop-k l = l.self ≡ record l.fn.self { threads = map (thread_by (kept_word l.tokens)) (take l.k l.fn.self.threads) ++ drop l.k l.fn.self.threads }
