-- An opened script is sound.
use Rattle.std.proofs.Common.{◌≡◌, ◌≢◌, ◌+◌, ◌<◌, ◌≤◌, ℕ, zero, suc, List, [], ◌∷◌, length, get_or, map, refl, ap, ◌∙◌, subst, sym, arith, Option, Some, None, true}
use Rattle.std.specs.Prelude.{slice_get, All, filter, ◌==◌}
use Rattle.std.specs.List.{range_with_len}
use Rattle.std.specs.Option.{option_map_or, is_some}
use Rattle.std.proofs.lemmas.List.{length-map}
use Rattle.std.proofs.lemmas.List.Elements.{All-map}
use Rattle.std.proofs.lemmas.List.FromFn.{length-range_with_len, get_or-range_with_len}
use Rattle.std.proofs.lemmas.List.Sums.{length-filter}
use Rattle.lwkt_base.specs.declared.holdings.Held.TheVariants.{Nothing}
use Rattle.lwkt_base.specs.declared.limits.TheConstants.{CPU_LIMIT, LAST_ROUND, MESSAGE_LIMIT, THREAD_LIMIT}
use Rattle.lwkt_base.specs.declared.names.Ref.{Ref}
use Rattle.lwkt_base.specs.declared.opening_specs.MsgSpec.{MsgSpec}
use Rattle.lwkt_base.specs.declared.opening_specs.TokSpec.{TokSpec}
use Rattle.lwkt_core.specs.declared.tokens.Token.{Token}
use Rattle.lwkt_core.specs.Machine.{machine, IsSafe}
use Rattle.lwkt_core.specs.Opening.{opened_token, IsTokenWithin, IsMessageWithin, AreWithin, AllOpenLawfully}
use Rattle.lwkt_core.specs.Tokens.{held_by, IsShort}
use Rattle.lwkt_core.proofs.OpeningLemmas.{IsSafe-opening, held_opened}
use Rattle.lwkt_script.specs.Format.{threads_on}
use Rattle.lwkt_script.specs.Limits.{IsToken, IsMessage, IsWithinLimits}
use Rattle.lwkt_script.specs.declared.scripts.Script.{Script}
use Rattle.lwkt_script.specs.declared.scripts.ThreadSpec.{ThreadSpec}
use Rattle.lwkt_plain.specs.declared.letters.Letter.{Letter}
use Rattle.lwkt_plain.specs.declared.states.Processor.{Processor}
use Rattle.lwkt_plain.specs.declared.states.Thread.{Thread}
use Rattle.lwkt_plain.specs.Intakes.{below}
use Rattle.lwkt_plain.specs.Letters.{opened_letter}
use Rattle.lwkt_plain.specs.Openings.{opened_thread, threads_of, opened_cpu, opened, IsOpenable, OpenedScriptsAreSound}
use Rattle.lwkt_plain.specs.Sound.{AreSoundTokens, AreHeld, Lists, lists_of, round_of, frame, no_lists, running_refs, IsSoundList, AreSoundLists, IsSound}

within : (script : Script) → IsOpenable script → AreWithin CPU_LIMIT script.tokens []
within script is = record {
  some_processor = omega arith;
  processors = omega arith;
  token_limit = is.within.token_limit;
  each_token = is.within.each_token;
  message_limit = omega arith;
  each_message = λ i d inside. absurd (omega arith);
}

tokens_sound : (script : Script) → IsOpenable script → AreSoundTokens (map opened_token script.tokens)
tokens_sound script is = record {
  safe = IsSafe-opening CPU_LIMIT script.tokens [] (within script is) is.lawful;
  short = All-map (λ (tok : Token). IsShort tok.first_blob) opened_token script.tokens (λ i d inside. (is.within.each_token i d inside).3.short);
}

-- no thread has a reference, and none runs
empty_list : (n : ℕ) → IsSoundList n []
empty_list n = (omega arith, λ i d inside. absurd (omega arith))

few_lists : (script : Script) (c : ℕ) → c < script.cpus → IsOpenable script → length (lists_of (opened_cpu script c)).lists ≤ THREAD_LIMIT
few_lists script c there is =
    let lists = length-map (map opened_thread (threads_of script c)) (λ (t : Thread). t.list) in
    let threads = length-map (threads_of script c) opened_thread in
    let counted : length (threads_of script c) ≡ threads_on c script.threads = length-filter (λ (spec : ThreadSpec). spec.cpu.0 == c) script.threads in
    let few = is.few c there in
    omega (arith, lists, threads, counted, few)

lists_opened : (script : Script) (n c : ℕ) → c < script.cpus → IsOpenable script → AreSoundLists n (lists_of (opened_cpu script c))
lists_opened script n c there is = record {
  few = few_lists script c there is;
  each =
      All-map (IsSoundList n) (λ (t : Thread). t.list) (map opened_thread (threads_of script c))
      (All-map (λ (t : Thread). IsSoundList n t.list) opened_thread (threads_of script c) (λ i d inside. empty_list n));
  running = tt;
}

idle : (script : Script) (cs : List ℕ) (c : ℕ) → running_refs (get_or (map lists_of (map (opened_cpu script) cs)) c no_lists) ≡ []
idle script [] c = refl
idle script (x ∷ xs) zero = refl
idle script (x ∷ xs) (suc c) = idle script xs c

nothing_held : (specs : List TokSpec) (c : ℕ) → AreHeld c [] (map opened_token specs)
nothing_held [] c t = refl
nothing_held (spec ∷ specs) c zero = held_opened spec c
nothing_held (spec ∷ specs) c (suc t) = nothing_held specs c t

few_opened : (script : Script) → IsOpenable script → length (map lists_of (map (opened_cpu script) (below script.cpus))) ≤ CPU_LIMIT
unfolding below
few_opened script is =
    let lists = length-map (map (opened_cpu script) (below script.cpus)) lists_of in
    let cpus = length-map (below script.cpus) (opened_cpu script) in
    let numbers = length-range_with_len 0 script.cpus in
    let few = is.within.processors in
    omega (arith, lists, cpus, numbers, few)

all_below : (n : ℕ) → All (λ c. c < n) (below n)
unfolding below
all_below n = λ i d inside.
    let long : length (range_with_len 0 n) ≡ n = length-range_with_len 0 n in
    let here : i < n = omega (arith, long) in
    let is : get_or (range_with_len 0 n) i d ≡ 0 + i = get_or-range_with_len 0 n i d here in
    omega arith

pub opened_sound : OpenedScriptsAreSound
opened_sound script is = record {
  tokens = tokens_sound script is;
  messages =
      (let rounds = length-map (map opened_letter script.messages) round_of in
      let letters = length-map script.messages opened_letter in
      let few = is.within.message_limit in
      omega (arith, rounds, letters, few));
  rounds =
      All-map (λ (round : ℕ). round ≤ LAST_ROUND) round_of (map opened_letter script.messages)
      (All-map (λ (l : Letter). round_of l ≤ LAST_ROUND) opened_letter script.messages (λ i d inside. (is.within.each_message i d inside).2));
  processors = few_opened script is;
  each =
      All-map (AreSoundLists (length (map opened_token script.tokens))) lists_of (map (opened_cpu script) (below script.cpus))
      (All-map (λ (cpu : Processor). AreSoundLists (length (map opened_token script.tokens)) (lists_of cpu)) (opened_cpu script) (below script.cpus)
      (λ i d inside. lists_opened script (length (map opened_token script.tokens)) (get_or (below script.cpus) i d) (all_below script.cpus i d inside) is));
  held = λ c here. subst (λ (refs : List Ref). AreHeld c refs (map opened_token script.tokens)) (sym (idle script (below script.cpus) c)) (nothing_held script.tokens c);
}

-- a script that was read, and whose rows obey their laws, is opened
guarded : (o : Option (List ℕ)) → o ≢ None → is_some o ≡ true
guarded None some = absurd (some refl)
guarded (Some bytes) some = refl

token_within : (t : TokSpec) → IsToken t → IsTokenWithin t
token_within t is = (is.few_cells, is.one_cell, is.generation, record { short = is.short; of_len = λ len. (is.some_cell len, guarded t.blob (is.guarded len)); of_tally = is.unguarded })

message_within : (cpus : ℕ) (m : MsgSpec) → IsMessage cpus m → IsMessageWithin cpus m
message_within cpus m is = (is.origin.cpu, (let low = is.origin.thread in omega arith), is.round)

pub openable : (script : Script) → IsWithinLimits script → AllOpenLawfully script.tokens → IsOpenable script
openable script limits lawful = record {
  within = record {
    some_processor = omega (arith, limits.some_cpus);
    processors = limits.few_cpus;
    token_limit = limits.few_tokens;
    each_token = λ i d inside. token_within (get_or script.tokens i d) (limits.tokens i d inside);
    message_limit = limits.few_messages;
    each_message = λ i d inside. message_within script.cpus (get_or script.messages i d) (limits.messages i d inside);
  };
  few = λ cpu here. limits.few_threads cpu;
  lawful = lawful;
}
