use Rattle.std.proofs.Common.{rules}
use Rattle.lwkt_script.proofs.readers.script.Goals as goal

pub returns-clause-limits : goal.returns-clause-limits
returns-clause-limits c = record {
  some_turns = search rules;
  few_turns = search rules;
  some_idle = search rules;
  few_idle = search rules;
  some_cpus = search rules;
  few_cpus = search rules;
  few_tokens = search rules;
  tokens = search rules;
  few_messages = search rules;
  messages = search rules;
  threads = search rules;
  few_threads = rw c.from_vec-3.ensures c.in_ok-threads.ensures.within.1;
}
