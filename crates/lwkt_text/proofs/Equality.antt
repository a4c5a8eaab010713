-- Records with the same fields are the same.
use Rattle.std.proofs.Common.{◌≡◌, ℕ, List, Option, Bool}
use Rattle.lwkt_base.specs.declared.laws.Law.{Law}
use Rattle.lwkt_base.specs.declared.names.CpuId.{CpuId}
use Rattle.lwkt_base.specs.declared.opening_specs.MsgSpec.{MsgSpec}
use Rattle.lwkt_base.specs.declared.opening_specs.TokSpec.{TokSpec}
use Rattle.lwkt_base.specs.declared.steps.Verb.{Verb}
use Rattle.lwkt_code.specs.declared.steps.Operand.{Operand}
use Rattle.lwkt_code.specs.declared.steps.Step.{Step}
use Rattle.lwkt_code.specs.declared.steps.Wish.{Wish}
use Rattle.lwkt_code.specs.Programs.{Program}
use Rattle.lwkt_script.specs.declared.scripts.Script.{Script}
use Rattle.lwkt_script.specs.declared.scripts.ThreadSpec.{ThreadSpec}

tok : List ℕ → Law → ℕ → ℕ → Option (List ℕ) → TokSpec
tok cells law param generation blob = record { cells = cells; law = law; param = param; generation = generation; blob = blob }

tok_same : (a b : List ℕ) (c d : Law) (e f g h : ℕ) (i j : Option (List ℕ)) → a ≡ b → c ≡ d → e ≡ f → g ≡ h → i ≡ j → tok a c e g i ≡ tok b d f h j
tok_same a b c d e f g h i j p q r s t = cc

pub token_same : (s t : TokSpec) → s.cells ≡ t.cells → s.law ≡ t.law → s.param ≡ t.param → s.generation ≡ t.generation → s.blob ≡ t.blob → s ≡ t
unfolding tok
token_same s t cells law param generation blob =
    tok_same s.cells t.cells s.law t.law s.param t.param s.generation t.generation s.blob t.blob cells law param generation blob

program : List Step → ℕ → List ℕ → Program
program steps repeat vars = record { steps = steps; repeat = repeat; vars = vars }

program_same : (a b : List Step) (c d : ℕ) (e f : List ℕ) → a ≡ b → c ≡ d → e ≡ f → program a c e ≡ program b d f
program_same a b c d e f p q r = cc

pub code_same : (s t : Program) → s.steps ≡ t.steps → s.repeat ≡ t.repeat → s.vars ≡ t.vars → s ≡ t
unfolding program
code_same s t steps repeat vars = program_same s.steps t.steps s.repeat t.repeat s.vars t.vars steps repeat vars

plan : CpuId → Bool → Program → ThreadSpec
plan cpu service code = record { cpu = cpu; service = service; code = code }

plan_same : (a b : CpuId) (c d : Bool) (e f : Program) → a ≡ b → c ≡ d → e ≡ f → plan a c e ≡ plan b d f
plan_same a b c d e f p q r = cc

pub thread_same : (s t : ThreadSpec) → s.cpu ≡ t.cpu → s.service ≡ t.service → s.code ≡ t.code → s ≡ t
unfolding plan
thread_same s t cpu service code = plan_same s.cpu t.cpu s.service t.service s.code t.code cpu service code

asking : Verb → List Operand → Wish
asking verb operands = record { verb = verb; operands = operands }

asking_same : (a b : Verb) (c d : List Operand) → a ≡ b → c ≡ d → asking a c ≡ asking b d
asking_same a b c d p q = cc

pub wish_same : (s t : Wish) → s.verb ≡ t.verb → s.operands ≡ t.operands → s ≡ t
unfolding asking
wish_same s t verb operands = asking_same s.verb t.verb s.operands t.operands verb operands

whole : ℕ → ℕ → ℕ → List TokSpec → List MsgSpec → List ThreadSpec → Script
whole turns idle cpus tokens messages threads = record { turns = turns; idle = idle; cpus = cpus; tokens = tokens; messages = messages; threads = threads }

whole_same : (a b c d e f : ℕ) (g h : List TokSpec) (i j : List MsgSpec) (k l : List ThreadSpec) → a ≡ b → c ≡ d → e ≡ f → g ≡ h → i ≡ j → k ≡ l → whole a c e g i k ≡ whole b d f h j l
whole_same a b c d e f g h i j k l p q r s t u = cc

pub script_same : (s t : Script) → s.turns ≡ t.turns → s.idle ≡ t.idle → s.cpus ≡ t.cpus → s.tokens ≡ t.tokens → s.messages ≡ t.messages → s.threads ≡ t.threads → s ≡ t
unfolding whole
script_same s t turns idle cpus tokens messages threads =
    whole_same s.turns t.turns s.idle t.idle s.cpus t.cpus s.tokens t.tokens s.messages t.messages s.threads t.threads turns idle cpus tokens messages threads
