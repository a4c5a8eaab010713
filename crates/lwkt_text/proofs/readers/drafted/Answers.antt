use Rattle.lwkt_text.proofs.readers.drafted.Goals as goal

pub returns-clause-limits : goal.returns-clause-limits
returns-clause-limits c = λ i some few. record {
  some_turns = i.some_turns;
  few_turns = i.few_turns;
  some_idle = i.some_idle;
  few_idle = i.few_idle;
  some_cpus = some;
  few_cpus = few;
  few_tokens = rw (c.from_vec.ensures, c.into_vec.ensures) i.few_tokens;
  tokens = rw (c.from_vec.ensures, c.into_vec.ensures) i.tokens;
  few_messages = rw (c.from_vec-2.ensures, c.into_vec-2.ensures) i.few_messages;
  messages = rw (c.from_vec-2.ensures, c.into_vec-2.ensures) i.messages;
  threads = rw (c.from_vec-3.ensures, c.into_vec-3.ensures) i.threads;
  few_threads = rw (c.from_vec-3.ensures, c.into_vec-3.ensures) i.few_threads;
}
