use Rattle.std.proofs.Common.{◌≡◌, ◌++◌, take, drop, map}
use Rattle.lwkt_plain.specs.Forms.{kept_word, cpu_by}
use Rattle.lwkt_plain.proofs.states.Plain.become_form.Given as goal

-- the processors so far have forgotten
abbrev pub invariant-loop-c : goal.invariant-loop-c
invariant-loop-c l = l.self ≡ record l.fn.self { cpus = map (cpu_by (kept_word l.fn.self.tokens)) (take l.c l.fn.self.cpus) ++ drop l.c l.fn.self.cpus }
