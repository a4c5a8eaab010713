-- What comes next for a thread whose answer is kept already.
use Rattle.std.proofs.Common.{◌≡◌, refl, ap}
use Rattle.lwkt_base.specs.declared.asks.Answer.{Answer}
use Rattle.lwkt_cpu.specs.declared.nexts.AnswerKept.{AnswerKept}
use Rattle.lwkt_cpu.specs.declared.nexts.Next.{Next}
use Rattle.lwkt_cpu.specs.declared.nexts.Next.TheVariants.{Runs, Readies, AwaitsItem, AwaitsReply, Exits, Faults}
use Rattle.lwkt_cpu.specs.Nexts.{next_with, KeepsAnswer}
use Rattle.lwkt_cpu.specs.declared.threads.Thread.{Thread}
use Rattle.lwkt_cpu.specs.Polling.{became}

pub became_is : (t : Thread) (n : Next AnswerKept) (last : Answer) → KeepsAnswer n t.last last → became (record t { last = last }) (next_with n last) ≡ became t (next_with n last)
became_is t (Runs k) last kept = refl
became_is t (Readies k) last kept = refl
became_is t AwaitsItem last kept = ap (λ l. became (record t { last = l }) (next_with AwaitsItem last)) kept
became_is t (AwaitsReply msg) last kept = ap (λ l. became (record t { last = l }) (next_with (AwaitsReply msg) last)) kept
became_is t Exits last kept = ap (λ l. became (record t { last = l }) (next_with Exits last)) kept
became_is t (Faults fault) last kept = ap (λ l. became (record t { last = l }) (next_with (Faults fault) last)) kept
