-- A whole trace is read as it is written.
use Rattle.std.proofs.Common.{ℕ, suc, List, [], ◌∷◌, All, refl, arith, le-leb}
use Rattle.lwkt_base.specs.declared.opening_specs.MsgSpec.{MsgSpec}
use Rattle.lwkt_script.specs.Limits.{IsMessage}
use Rattle.lwkt_trace.specs.Format.{cpus_in, trace_of_parts, trace}
use Rattle.lwkt_trace.specs.Readback.{AreMessages}
use Rattle.lwkt_trace.specs.Values.{TraceIsReadBack}
use Rattle.lwkt_trace.proofs.EventLists.{lists_read_back}
use Rattle.lwkt_trace.proofs.MessageLists.{messages_read_back}
use Rattle.lwkt_trace.proofs.TokenLists.{tokens_read_back}
use Rattle.lwkt_trace.proofs.ClosingValues.{closing_read_back}

messages_are : (cpus : ℕ) (ms : List MsgSpec) → All (IsMessage cpus) ms → AreMessages cpus ms
messages_are cpus [] all = tt
messages_are cpus (m ∷ ms) all = (all 0 m (omega arith), messages_are cpus ms (λ k d l. all (suc k) d (omega (arith, l))))

pub trace_read_back : TraceIsReadBack
unfolding trace cpus_in trace_of_parts
trace_read_back script events c is =
    rw (
      le-leb 1 script.cpus is.limits.some_cpus,
      le-leb script.cpus 8 is.limits.few_cpus,
      tokens_read_back script.tokens is.limits.tokens is.typed is.limits.few_tokens,
      messages_read_back script.cpus script.messages (messages_are script.cpus script.messages is.limits.messages) is.limits.few_messages,
      lists_read_back events is.writable is.few_events,
      closing_read_back c is.closed,
    ) refl
