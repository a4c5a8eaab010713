use Rattle.std.proofs.Common.{zero, suc, ◌≡◌, ◌+◌, ℕ, true, false, Option, List, [], ◌∷◌, get_or, refl, ap, sym, ◌∙◌, subst, arith, sum, replicate}
use Rattle.std.specs.Prelude.{map}
use Rattle.std.proofs.lemmas.List.{length-replicate, length-map}
use Rattle.std.proofs.lemmas.List.Sums.{sum_by-cons}
use Rattle.std.proofs.lemmas.List.Elements.{All-map}
use Rattle.lwkt_base.specs.declared.laws.Law.{Law}
use Rattle.lwkt_base.specs.declared.laws.Law.TheVariants.{Any, Sum, Order, Cap, Tally, Len}
use Rattle.lwkt_base.specs.declared.holdings.Held.{Held}
use Rattle.lwkt_base.specs.declared.holdings.Held.TheVariants.{Nothing}
use Rattle.lwkt_base.specs.declared.opening_specs.TokSpec.{TokSpec}
use Rattle.lwkt_base.specs.declared.opening_specs.MsgSpec.{MsgSpec}
use Rattle.lwkt_base.specs.Holding.{references_in, is_exclusive}
use Rattle.lwkt_base.specs.Law.{Obeys, OpensLawfully, IsTallied}
use Rattle.lwkt_core.specs.declared.tokens.Token.{Token}
use Rattle.lwkt_base.specs.declared.limits.TheConstants.{CPU_LIMIT}
use Rattle.lwkt_core.specs.declared.messages.Message.{Message}
use Rattle.lwkt_core.specs.Tokens.{held_by, length_of, IsSafeToken, IsExclusiveHolder}
use Rattle.lwkt_core.specs.Messages.{IsSafeMessage}
use Rattle.lwkt_core.specs.Machine.{machine, IsSafe, references_of}
use Rattle.lwkt_core.specs.Opening.{opened_token, opened_message, opening, IsTokenWithin, AreWithin, AllOpenLawfully}
use Rattle.lwkt_core.proofs.MessageMoves.{IsSafeMessage-opened}

-- each element of a list of copies, and what is read past its end
get_or_replicated : {A : Type 0} (n i : ℕ) (a : A) → get_or (replicate n a) i a ≡ a
get_or_replicated zero i a = refl
get_or_replicated (suc n) zero a = refl
get_or_replicated (suc n) (suc i) a = get_or_replicated n i a

-- a law of openings is the law of sections, and the tallies begin with nothing
meets_from_opens : (law : Law) (param : ℕ) (cells : List ℕ) (len : Option ℕ) → OpensLawfully law param cells len → Obeys law param cells len
meets_from_opens Any param cells len opens = opens
meets_from_opens Sum param cells len opens = opens
meets_from_opens Order param cells len opens = opens
meets_from_opens Cap param cells len opens = opens
meets_from_opens Tally param cells len opens = tt
meets_from_opens Len param cells len opens = opens

tallied_from_opens : (law : Law) (param : ℕ) (cells : List ℕ) (len : Option ℕ) (tallies : List ℕ) → sum tallies ≡ 0 → OpensLawfully law param cells len → IsTallied law param cells tallies
tallied_from_opens Any param cells len tallies none opens = tt
tallied_from_opens Sum param cells len tallies none opens = tt
tallied_from_opens Order param cells len tallies none opens = tt
tallied_from_opens Cap param cells len tallies none opens = tt
tallied_from_opens Len param cells len tallies none opens = tt
tallied_from_opens Tally param cells len tallies none opens = opens ∙ ap (λ c. c ∷ []) (let e : param ≡ param + sum tallies = omega arith in e)

-- nobody holds a token at the opening
pub held_opened : (spec : TokSpec) (cpu : ℕ) → held_by (opened_token spec) cpu ≡ Nothing
held_opened spec cpu = get_or_replicated CPU_LIMIT cpu Nothing

IsSafeToken-opened : (cpus : ℕ) (spec : TokSpec) → IsTokenWithin spec → OpensLawfully spec.law spec.param spec.cells (length_of spec.blob) → IsSafeToken cpus (opened_token spec)
IsSafeToken-opened cpus spec within opens = record {
  eight_holders = length-replicate {A = Held} CPU_LIMIT Nothing;
  eight_tallies = length-replicate {A = ℕ} CPU_LIMIT 0;
  absent = λ cpu far. (held_opened spec cpu, get_or_replicated CPU_LIMIT cpu 0);
  few_cells = within.0;
  same_cells = refl;
  compatible = λ cpu other exclusive differ. held_opened spec other;
  settled = λ opened. refl;
  settled_blob = λ opened. refl;
  short = within.3.short;
  same_guard = refl;
  lawful = meets_from_opens spec.law spec.param spec.cells (length_of spec.blob) opens;
  tallied = tallied_from_opens spec.law spec.param spec.cells (length_of spec.blob) (replicate CPU_LIMIT 0) refl opens;
  in_range = within.2;
  not_worn = λ cpu exclusive. absurd (nobody cpu exclusive);
}
  where
    nobody : (cpu : ℕ) → IsExclusiveHolder (opened_token spec) cpu → ⊥
    nobody cpu exclusive = let e : false ≡ true = sym (ap is_exclusive (held_opened spec cpu)) ∙ exclusive in cc

-- nobody has a reference at the opening
references_opened : (specs : List TokSpec) (cpu : ℕ) → references_of (map opened_token specs) cpu ≡ 0
references_opened [] cpu = refl
references_opened (spec ∷ specs) cpu =
    let f : Token → ℕ = λ tok. references_in (held_by tok cpu) in
    let one : references_in (held_by (opened_token spec) cpu) ≡ 0 = ap references_in (held_opened spec cpu) in
    let rest = references_opened specs cpu in
    sum_by-cons f (opened_token spec) (map opened_token specs) ∙ omega (arith, one, rest)

-- an opening within its limits and laws is safe
pub IsSafe-opening : (cpus : ℕ) (tokens : List TokSpec) (messages : List MsgSpec) → AreWithin cpus tokens messages → AllOpenLawfully tokens → IsSafe (opening cpus tokens messages)
IsSafe-opening cpus tokens messages within lawful = record {
  processors = within.processors;
  token_limit = (let l = length-map tokens opened_token in let k = within.token_limit in omega arith);
  each_token = All-map (IsSafeToken cpus) opened_token tokens (λ i d inside. IsSafeToken-opened cpus (get_or tokens i d) (within.each_token i d inside) (lawful i d inside));
  few = λ cpu. (let e = references_opened tokens cpu in omega arith);
  message_limit = (let l = length-map messages opened_message in let k = within.message_limit in omega arith);
  each_message = All-map (IsSafeMessage cpus) opened_message messages (λ i d inside. IsSafeMessage-opened cpus (get_or messages i d) (within.each_message i d inside));
}

-- the same, of lists that are the opened ones
pub IsSafe_opened : (cpus : ℕ) (tokens : List TokSpec) (messages : List MsgSpec) (ts : List Token) (ms : List Message) → ts ≡ map opened_token tokens → ms ≡ map opened_message messages → AreWithin cpus tokens messages → AllOpenLawfully tokens → IsSafe (machine cpus ts ms)
IsSafe_opened cpus tokens messages ts ms are_tokens are_messages within lawful =
    subst (λ t. IsSafe (machine cpus t ms)) (sym are_tokens) (subst (λ m. IsSafe (machine cpus (map opened_token tokens) m)) (sym are_messages) (IsSafe-opening cpus tokens messages within lawful))
