-- What an answer leaves in the thread that it is given to (own, version 3).
use Rattle.std.specs.Prelude.{ℕ, ◌-◌, ◌==◌, ◌||◌, Bool, true, false, not, List, Option, Some, None, is_some, slice_get, slice_set, if◌then◌else◌}
use Rattle.lwkt_base.specs.declared.asks.Answer.{Answer}
use Rattle.lwkt_base.specs.declared.asks.Answer.TheVariants.{Done, Value, Got, NoMsg, Refused}
use Rattle.lwkt_base.specs.declared.asks.Item.{Item}
use Rattle.lwkt_base.specs.declared.asks.Item.TheVariants.{Request, Answered}
use Rattle.lwkt_base.specs.declared.faults.Fault.TheVariants.{Busy}
use Rattle.lwkt_base.specs.Fault.{number_of}
use Rattle.lwkt_base.specs.declared.steps.Verb.{Verb}
use Rattle.lwkt_base.specs.declared.steps.Verb.TheVariants as verbs
use Rattle.lwkt_code.specs.declared.answers.Held.{Held}
use Rattle.lwkt_code.specs.declared.locals.Local.{Local}
use Rattle.lwkt_code.specs.declared.steps.Places.{Places}
use Rattle.lwkt_code.specs.declared.steps.Places.TheVariants.{Nowhere, One, Two, Three}
use Rattle.lwkt_code.specs.declared.steps.Step.{Step}
use Rattle.lwkt_code.specs.declared.steps.Step.TheVariants.{Make}

-- numbers for the first place of an ask, the second and the third
abbrev pub nothing : Held
nothing = record { first = None; second = None; third = None }

abbrev pub one : ℕ → Held
one a = record { first = Some a; second = None; third = None }

abbrev pub two : ℕ → ℕ → Held
two a b = record { first = Some a; second = Some b; third = None }

abbrev pub three : ℕ → ℕ → ℕ → Held
three a b c = record { first = Some a; second = Some b; third = Some c }

-- what an item of a port holds: of a request its message, op and argument, of a reply its message, error and result
abbrev pub held_by_item : Item → Held
held_by_item (Request msg call) = three msg.0 call.op call.arg
held_by_item (Answered msg error outcome) = three msg.0 error outcome

-- what the answer to a read holds: the value
abbrev pub held_by_value : Answer → Held
held_by_value (Value n) = one n
held_by_value _ = nothing

-- what the answer to a try holds: 1 if the token was taken, 0 if it is held or marked, and else nothing
abbrev pub held_by_try : Answer → Held
held_by_try Done = one 1
held_by_try (Refused Busy) = one 0
held_by_try _ = nothing

-- what the answer to a message that was waited for holds: the result of its reply, and the error
abbrev pub held_by_reply : Answer → Held
held_by_reply (Got (Answered msg error outcome)) = two outcome error
held_by_reply _ = nothing

-- what the answer of a port holds: its item, or a number that no message has
abbrev pub held_by_port : Answer → Held
held_by_port (Got item) = held_by_item item
held_by_port NoMsg = one 18446744073709551615
held_by_port _ = nothing

-- what an answer to an ask of a kind holds
abbrev pub held_by : Verb → Answer → Held
held_by verbs.Read answer = held_by_value answer
held_by verbs.IsAborted answer = held_by_value answer
held_by verbs.TryGet answer = held_by_try answer
held_by verbs.Do answer = held_by_reply answer
held_by verbs.WaitPort answer = held_by_port answer
held_by verbs.GetPort answer = held_by_port answer
held_by _ answer = nothing

-- a number put into a variable
abbrev pub put_in : ℕ → Option ℕ → List ℕ → List ℕ
put_in v None vars = vars
put_in v (Some n) vars = slice_set vars v n

-- numbers put into places, one after another
abbrev pub stored : Places → Held → List ℕ → List ℕ
stored Nowhere h vars = vars
stored (One u) h vars = put_in u h.first vars
stored (Two u v) h vars = put_in v h.second (put_in u h.first vars)
stored (Three u v w) h vars = put_in w h.third (put_in v h.second (put_in u h.first vars))

-- the variables after the answer to a step's ask
abbrev pub given : Option Step → Answer → List ℕ → List ℕ
given (Some (Make wish places)) answer vars = stored places (held_by wish.verb answer) vars
given _ answer vars = vars

-- the number of the refusal that an answer is, 0 if it is none
abbrev pub refusal_of : Answer → ℕ
refusal_of (Refused fault) = number_of fault
refusal_of _ = 0

-- the step that made a thread's last ask: the one before its next
abbrev pub last_step : List Step → Local → Option Step
last_step steps s = if s.at == 0 then None else slice_get steps (s.at - 1)

-- a thread that was given the answer to its last ask
abbrev pub taken : List Step → Local → Answer → Local
taken steps s answer = record s { vars = given (last_step steps s) answer s.vars; refused = refusal_of answer }

-- whether a step puts its answer nowhere
abbrev pub is_nowhere : Places → Bool
is_nowhere Nowhere = true
is_nowhere _ = false

-- whether the answer to a step's ask may make an entry in the log: one that goes into variables makes none
abbrev pub logs : Option Step → Answer → Bool
logs (Some (Make wish places)) answer = is_nowhere places || not (is_some (held_by wish.verb answer).first)
logs _ answer = true
