use Rattle.std.specs.Prelude.{◌≡◌, ℕ, Bool, false, true, List, [], Result, Ok, Err}
use Rattle.lwkt_base.specs.declared.names.Ref.{Ref}
use Rattle.lwkt_base.specs.declared.faults.Fault.{Fault}
use Rattle.lwkt_base.specs.declared.faults.Fault.TheVariants.{Broken}
use Rattle.lwkt_base.specs.declared.asks.Answer.{Answer}
use Rattle.lwkt_base.specs.declared.asks.Answer.TheVariants.{Done, Value, Bytes, Refused}
use Rattle.lwkt_base.specs.Holding.{Holding, holding_of, holds_nothing}
use Rattle.lwkt_hold.specs.declared.answers.Blocked.{Blocked}
use Rattle.lwkt_hold.specs.declared.answers.Blocked.TheVariants.{Clean, Restored}
use Rattle.lwkt_cpu.specs.declared.nexts.AnswerKept.{AnswerKept}
use Rattle.lwkt_cpu.specs.declared.nexts.Next.{Next}
use Rattle.lwkt_cpu.specs.declared.nexts.Next.TheVariants.{Runs, Readies, AwaitsItem, AwaitsReply, Exits, Faults}

-- the list of a thread after its ask: one that ends has an empty list (own)
abbrev pub kept_list : Next Answer → List Ref → List Ref
kept_list (Runs answer) refs = refs
kept_list (Readies answer) refs = refs
kept_list AwaitsItem refs = refs
kept_list (AwaitsReply msg) refs = refs
kept_list Exits refs = []
kept_list (Faults fault) refs = []

-- what a processor holds after an ask: the list of a thread that goes on running, else nothing (token(9))
abbrev pub HoldsAfter : Next Answer → Holding → List Ref → Type 0
HoldsAfter (Runs answer) holding refs = holding ≡ holding_of refs
HoldsAfter (Readies answer) holding refs = holding ≡ holds_nothing
HoldsAfter AwaitsItem holding refs = holding ≡ holds_nothing
HoldsAfter (AwaitsReply msg) holding refs = holding ≡ holds_nothing
HoldsAfter Exits holding refs = holding ≡ holds_nothing
HoldsAfter (Faults fault) holding refs = holding ≡ holds_nothing

-- the answer for a call that answers nothing, for one that answers a value, and for one that answers a record
abbrev pub done_or : Result (Unit {0}) Fault → Answer
done_or (Ok u) = Done
done_or (Err fault) = Refused fault

abbrev pub value_or : Result ℕ Fault → Answer
value_or (Ok value) = Value value
value_or (Err fault) = Refused fault

abbrev pub bytes_or : Result (List ℕ) Fault → Answer
bytes_or (Ok bytes) = Bytes bytes
bytes_or (Err fault) = Refused fault

-- the answer to a question: 1 for yes, 0 for no
abbrev pub bit_or : Result Bool Fault → Answer
bit_or (Ok true) = Value 1
bit_or (Ok false) = Value 0
bit_or (Err fault) = Refused fault

-- what comes after everything was given up: a thread whose section had broken its law ends (own)
abbrev pub unless_broken : Next Answer → Blocked → Next Answer
unless_broken next Clean = next
unless_broken next (Restored tok) = Faults Broken

-- what comes next, with the answer that is kept for the thread
abbrev pub next_with : Next AnswerKept → Answer → Next Answer
next_with (Runs kept) answer = Runs answer
next_with (Readies kept) answer = Readies answer
next_with AwaitsItem answer = AwaitsItem
next_with (AwaitsReply msg) answer = AwaitsReply msg
next_with Exits answer = Exits
next_with (Faults fault) answer = Faults fault

-- the answer that was kept before stays, where none comes now
abbrev pub KeepsAnswer : Next AnswerKept → Answer → Answer → Type 0
KeepsAnswer (Runs kept) old new = Unit {0}
KeepsAnswer (Readies kept) old new = Unit {0}
KeepsAnswer AwaitsItem old new = new ≡ old
KeepsAnswer (AwaitsReply msg) old new = new ≡ old
KeepsAnswer Exits old new = new ≡ old
KeepsAnswer (Faults fault) old new = new ≡ old
