-- What a script's machine is opened with.
use Rattle.std.proofs.Common.{◌≡◌, ◌∙◌, ℕ, ◌+◌, ◌<◌, ◌≤◌, ◌==◌, List, [], ◌∷◌, ◌++◌, length, ap, sym, subst, inl, inr, arith, Some}
use Rattle.std.specs.Prelude.{All, Vec, filter, slice_get}
use Rattle.std.specs.declared.alloc.Global.{Global}
use Rattle.std.proofs.lemmas.Bool.{cases_eq}
use Rattle.std.proofs.lemmas.Grind.{common_steps}
use Rattle.std.proofs.lemmas.List.{length-map}
use Rattle.std.proofs.lemmas.List.Sums.{length-filter}
use Rattle.std.proofs.lemmas.Option.{slice_get_within}
use Rattle.lwkt_base.specs.declared.faults.Fault.{Fault}
use Rattle.lwkt_base.specs.declared.faults.Fault.TheVariants.{Memory, Limits, LawBroken}
use Rattle.lwkt_core.specs.Opening.{AreWithin}
use Rattle.lwkt_cpu.specs.Processors.{Processor}
use Rattle.lwkt_script.specs.declared.scripts.Script.{Script}
use Rattle.lwkt_script.specs.declared.scripts.ThreadSpec.{ThreadSpec}
use Rattle.lwkt_script.specs.Format.{threads_on}
use Rattle.lwkt_lane.proofs.PlaceMoves.{get_there}
use Rattle.lwkt_machine.specs.Bodies.{Scripted}
use Rattle.lwkt_machine.specs.Machines.{Rig}
use Rattle.lwkt_machine.specs.Opened.{Declines, DeclinesTables, IsOpenedCpu, IsOpenedMachine, IsWithin}
use Rattle.lwkt_machine.specs.Scripts.{body_of, bodies_on, AreBodiesOf, AreFew, DeclinesScript, IsOpenedScript, IsScriptWithin}
use Rattle.lwkt_machine.proofs.DrivenMoves.{long_processors}
use Rattle.lwkt_machine.proofs.ListMoves.{all_at, all_from_get, each_more}
use Rattle.lwkt_machine.proofs.OpenMoves.{opened_at}

-- a processor has a body for each of its threads
pub length_bodies : (cpu : ℕ) (threads : List ThreadSpec) → length (bodies_on cpu threads) ≡ threads_on cpu threads
length_bodies cpu threads = length-map (filter (λ (t : ThreadSpec). t.cpu.0 == cpu) threads) body_of ∙ length-filter (λ (t : ThreadSpec). t.cpu.0 == cpu) threads

-- one processor more has few threads
pub few_more : (cpus : ℕ) (threads : List ThreadSpec) → threads_on cpus threads ≤ 16 → AreFew cpus threads → AreFew (cpus + 1) threads
few_more cpus threads here few = λ cpu less. elim (cases_eq cpu cpus) [
  | inl same ↦
      let F : ℕ → Type 0 = λ n. threads_on n threads ≤ 16 in
      subst F (sym same) here
  | inr apart ↦ few cpu (omega (arith, less, apart))
]

-- the bodies of one processor more
pub bodies_more : (threads : List ThreadSpec) (lists : List (Vec Scripted Global)) (v : Vec Scripted Global) (n : ℕ) → length lists ≡ n → v.items ≡ bodies_on n threads → AreBodiesOf threads lists → AreBodiesOf threads (lists ++ v ∷ [])
bodies_more threads lists v n many is each =
    let F : ℕ → Type 0 = λ k. v.items ≡ bodies_on k threads in
    each_more (λ (k : ℕ) (w : Vec Scripted Global). w.items ≡ bodies_on k threads) lists v (subst F (sym many) is) each

-- the limits of a script's opening are those of the opening with its bodies
within_lists : (script : Script) (lists : List (Vec Scripted Global)) → length lists ≡ script.cpus → AreBodiesOf script.threads lists → IsScriptWithin script → IsWithin script.tokens script.messages lists
within_lists script lists many are within =
    let T : ℕ → Type 0 = λ n. AreWithin n script.tokens script.messages in
    record {
      tables = subst T (sym many) within.tables;
      few = all_from_get (λ (v : Vec Scripted Global). length v.items ≤ 16) lists (λ k v at.
          let one = ap length (are k v at) ∙ length_bodies k script.threads in
          let less : k < script.cpus = omega (arith, many, slice_get_within lists k v at) in
          omega (arith, one, within.few k less));
    }

pub within_script : (script : Script) (lists : List (Vec Scripted Global)) → length lists ≡ script.cpus → AreBodiesOf script.threads lists → IsWithin script.tokens script.messages lists → IsScriptWithin script
within_script script lists many are within =
    let T : ℕ → Type 0 = λ n. AreWithin n script.tokens script.messages in
    record {
      tables = subst T many within.tables;
      few = λ cpu less.
          let v = get_there lists cpu (omega (arith, many, less)) in
          let here : length v.0.items ≤ 16 = all_at (λ (w : Vec Scripted Global). length w.items ≤ 16) lists cpu v.0 v.1 within.few in
          let one = ap length (are cpu v.0 v.1) ∙ length_bodies cpu script.threads in
          omega (arith, one, here);
    }

-- why it isn't opened with them is why no machine of the script is
pub declines_script : (script : Script) (lists : List (Vec Scripted Global)) (fault : Fault) → length lists ≡ script.cpus → AreBodiesOf script.threads lists → Declines script.tokens script.messages lists fault → DeclinesScript script fault
declines_script script lists (Memory refused) many are why = cc
declines_script script lists Limits many are why = λ within. why (within_lists script lists many are within)
declines_script script lists LawBroken many are why = (within_script script lists many are why.0, why.1)
declines_script script lists fault many are why = grind (arith, common_steps)

-- why no tables are opened is why no machine is, where no processor has too many threads
pub declines_more : (script : Script) (fault : Fault) → AreFew script.cpus script.threads → DeclinesTables script.cpus script.tokens script.messages fault → DeclinesScript script fault
declines_more script (Memory refused) few why = cc
declines_more script Limits few why = λ within. why within.tables
declines_more script LawBroken few why = (record { tables = why.0; few = few }, why.1)
declines_more script fault few why = grind (arith, common_steps)

-- the machine that is opened with the bodies of a script is the script's
pub opened_script : (script : Script) (lists : List (Vec Scripted Global)) (m : Rig Scripted) → length lists ≡ script.cpus → AreBodiesOf script.threads lists → IsOpenedMachine script.tokens script.messages lists m → IsOpenedScript script m
opened_script script lists m many are opened =
    let long : length m.driven ≡ length lists = sym (long_processors m.driven) ∙ sym (ap length opened.cpus) ∙ opened.as_many in
    record {
      plans = opened.plans;
      specs = opened.specs;
      as_many = opened.as_many ∙ many;
      desks_are = opened.desks_are ∙ many;
      each = λ k p at.
          let F : List (Processor Scripted) → Type 0 = λ cpus. slice_get cpus k ≡ Some p in
          let o = opened_at m.bank m.book lists m.driven long opened.each k p (subst F opened.cpus at) in
          let G : List Scripted → Type 0 = λ bodies. IsOpenedCpu m.bank m.book k bodies p in
          subst G (are k o.0 o.1.0) o.1.1;
      fresh = λ k d at.
          let v = get_there lists k (omega (arith, long, slice_get_within m.driven k d at)) in
          (opened.each k v.0 d v.1 at).fresh;
      cpus = opened.cpus;
      wired = opened.wired;
    }

-- a script's bodies keep nothing in particular
pub nothing_kept : (lists : List (Vec Scripted Global)) → All (λ (v : Vec Scripted Global). All (λ (b : Scripted). Unit {0}) v.items) lists
nothing_kept lists = all_from_get (λ (v : Vec Scripted Global). All (λ (b : Scripted). Unit {0}) v.items) lists (λ k v at. all_from_get (λ (b : Scripted). Unit {0}) v.items (λ j b here. tt))
