-- The written sections of a run are chains to the values that its report shows.
use Rattle.std.proofs.Common.{◌≡◌, ℕ, zero, suc, List, [], ◌∷◌, map, All, refl, ap, sym, subst, ◌∙◌, get_or, replicate, arith}
use Rattle.std.specs.Prelude.{zip, Vec}
use Rattle.std.specs.declared.alloc.Global.{Global}
use Rattle.std.proofs.lemmas.List.Elements.{All-nil, All-map, All-weaker}
use Rattle.lwkt_base.specs.declared.holdings.Held.{Held}
use Rattle.lwkt_base.specs.declared.holdings.Held.TheVariants.{Nothing}
use Rattle.lwkt_base.specs.declared.opening_specs.TokSpec.{TokSpec}
use Rattle.lwkt_base.specs.declared.opening_specs.MsgSpec.{MsgSpec}
use Rattle.lwkt_base.specs.Holding.{is_exclusive}
use Rattle.lwkt_core.specs.declared.events.Event.{Event}
use Rattle.lwkt_core.specs.declared.finals.Final.{Final}
use Rattle.lwkt_core.specs.declared.tokens.Token.{Token}
use Rattle.lwkt_base.specs.declared.limits.TheConstants.{CPU_LIMIT}
use Rattle.lwkt_core.specs.Tokens.{IsFree, IsOpen}
use Rattle.lwkt_core.specs.Machine.{Machine}
use Rattle.lwkt_core.specs.Trace.{Run, IsLawfulTrace}
use Rattle.lwkt_core.specs.Opening.{opening, opened_token, IsMessageWithin, AreWithin, AllOpenLawfully}
use Rattle.lwkt_core.specs.SectionChain.{RowsAt, AreSectionChains}
use Rattle.lwkt_core.specs.RunSections.{sections_in, values_of, rows_of}
use Rattle.lwkt_core.proofs.OpeningLemmas.{IsSafe-opening}
use Rattle.lwkt_core.proofs.RunChainLemmas.{write_chains, write_traces}
use Rattle.lwkt_bank.specs.declared.closed.Closed.{Closed}
use Rattle.lwkt_bank.specs.Gathered.{Ends}
use Rattle.lwkt_run.specs.Chains.{WritesChains}

-- nobody holds a token at the opening
none_held : (n cpu : ℕ) → get_or (replicate n Nothing) cpu Nothing ≡ Nothing
none_held zero cpu = refl
none_held (suc n) zero = refl
none_held (suc n) (suc cpu) = none_held n cpu

pub opens_open : (specs : List TokSpec) → All IsOpen (map opened_token specs)
opens_open specs = All-map IsOpen opened_token specs (λ i d inside cpu. ap (λ (held : Held). is_exclusive held) (none_held CPU_LIMIT cpu))

-- a token that nobody holds is held exclusively by nobody
pub free_open : (tok : Token) → IsFree tok → IsOpen tok
free_open tok free cpu = ap (λ (held : Held). is_exclusive held) (free cpu)

-- an opening without its messages
pub without_messages : (cpus : ℕ) (tokens : List TokSpec) (messages : List MsgSpec) → AreWithin cpus tokens messages → AreWithin cpus tokens []
without_messages cpus tokens messages within = record {
  some_processor = within.some_processor;
  processors = within.processors;
  token_limit = within.token_limit;
  each_token = within.each_token;
  message_limit = omega arith;
  each_message = All-nil (IsMessageWithin cpus);
}

-- rows and generations, put together again
zipped : (tokens : List Token) → zip (map (λ (tok : Token). tok.row) tokens) (map (λ (tok : Token). tok.generation) tokens) ≡ map values_of tokens
zipped [] = refl
zipped (x ∷ tokens) = ap (λ (rows : RowsAt). values_of x ∷ rows) (zipped tokens)

-- of a run of the tokens alone
pub tokens_chain : (cpus : ℕ) (tokens : List TokSpec) (messages : List MsgSpec) (from : Machine) (events : List Event) (n : Machine) (closed : Closed) (last : Final) → AreWithin cpus tokens messages → AllOpenLawfully tokens → from ≡ opening cpus tokens [] → Run from events n → Ends n closed → last.rows ≡ closed.rows → last.gens ≡ closed.gens
    → WritesChains (opening cpus tokens []) events last
tokens_chain cpus tokens messages from events n closed last within lawful is_from run ends rows gens =
    let m : Machine = opening cpus tokens [] in
    let safe = IsSafe-opening cpus tokens [] (without_messages cpus tokens messages within) lawful in
    let good = write_chains m events n safe (subst (λ (x : Machine). Run x events n) is_from run) (opens_open tokens) (All-weaker IsFree IsOpen free_open n.tokens ends.free) in
    let are_rows = ap (λ (v : Vec (List ℕ) Global). v.items) rows ∙ ends.rows in
    let are_gens = ap (λ (v : Vec ℕ Global). v.items) gens ∙ ends.gens in
    let same : rows_of n ≡ zip last.rows.items last.gens.items =
    sym (ap (λ (rs : List (List ℕ)). zip rs last.gens.items) are_rows ∙ ap (λ (gs : List ℕ). zip (map (λ (tok : Token). tok.row) n.tokens) gs) are_gens ∙ zipped n.tokens) in
    (good.0, subst (λ (rs : RowsAt). AreSectionChains (rows_of m) rs (sections_in m events)) same good.1)

-- of a lawful trace of the whole machine
pub trace_chains : (cpus : ℕ) (tokens : List TokSpec) (messages : List MsgSpec) (trace : List Event) (last : Final) → AreWithin cpus tokens messages → AllOpenLawfully tokens → IsLawfulTrace (opening cpus tokens messages) trace last → WritesChains (opening cpus tokens messages) trace last
trace_chains cpus tokens messages trace last within lawful is =
    write_traces (opening cpus tokens messages) trace last (IsSafe-opening cpus tokens messages within lawful) (opens_open tokens) is
