-- What is so of each token that C declares is so of what is declared of it, and the other way round.
use Rattle.std.proofs.Common.{rules, ℕ, ◌<◌, ◌≤◌, List, [], length, map, All, subst, sym}
use Rattle.std.proofs.lemmas.List.{get_or-map, length-map}
use Rattle.std.proofs.lemmas.List.Elements.{All-map}
use Rattle.lwkt_base.specs.Law.{OpensLawfully}
use Rattle.lwkt_core.specs.Tokens.{length_of}
use Rattle.lwkt_core.specs.Opening.{AreWithin, AllOpenLawfully, IsTokenWithin}
use Rattle.lwkt_seats.specs.declared.tokens.LwktToken.{LwktToken}
use Rattle.lwkt_seats.specs.BankOpens.{spec_of, specs_of}

of_map : {X Y : Type 0} (P : X → Type 0) (f : Y → X) (ys : List Y) → All P (map f ys) → All (λ y. P (f y)) ys
of_map P f ys all = λ k d below. subst P (get_or-map f ys k d (f d) below) (all k (f d) (subst (λ n. k < n) (sym (length-map ys f)) below))

pub within_of_each : (seats : ℕ) (tokens : List LwktToken) → (0 < seats) × (seats ≤ 8) × (length tokens ≤ 64) → All (λ token. IsTokenWithin (spec_of token)) tokens → AreWithin seats (specs_of tokens) []
within_of_each seats tokens few each = record {
  some_processor = few.0;
  processors = few.1;
  token_limit = subst (λ n. n ≤ 64) (sym (length-map tokens spec_of)) few.2;
  each_token = All-map IsTokenWithin spec_of tokens each;
  message_limit = search rules;
  each_message = search rules;
}

pub few_of_within : (seats : ℕ) (tokens : List LwktToken) → AreWithin seats (specs_of tokens) [] → (0 < seats) × (seats ≤ 8) × (length tokens ≤ 64)
few_of_within seats tokens within = (within.some_processor, within.processors, subst (λ n. n ≤ 64) (length-map tokens spec_of) within.token_limit)

pub each_of_within : (seats : ℕ) (tokens : List LwktToken) → AreWithin seats (specs_of tokens) [] → All (λ token. IsTokenWithin (spec_of token)) tokens
each_of_within seats tokens within = of_map IsTokenWithin spec_of tokens within.each_token

pub lawful_of_each : (tokens : List LwktToken) → All (λ token. OpensLawfully (spec_of token).law (spec_of token).param (spec_of token).cells (length_of (spec_of token).blob)) tokens → AllOpenLawfully (specs_of tokens)
lawful_of_each tokens each = All-map (λ spec. OpensLawfully spec.law spec.param spec.cells (length_of spec.blob)) spec_of tokens each

pub each_of_lawful : (tokens : List LwktToken) → AllOpenLawfully (specs_of tokens) → All (λ token. OpensLawfully (spec_of token).law (spec_of token).param (spec_of token).cells (length_of (spec_of token).blob)) tokens
each_of_lawful tokens all = of_map (λ spec. OpensLawfully spec.law spec.param spec.cells (length_of spec.blob)) spec_of tokens all
