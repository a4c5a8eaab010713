-- What each poll of a body keeps is kept by turns, and by drives.
use Rattle.std.proofs.Common.{◌<◌, ℕ, List, [], ◌∷◌, length, sym, subst}
use Rattle.std.specs.Prelude.{Bool, Vec, All, Option, Some, None}
use Rattle.std.specs.List.{AllZip}
use Rattle.std.specs.declared.alloc.Global.{Global}
use Rattle.std.proofs.lemmas.List.Elements.{All-cons, All-head, All-tail, All-get_or, All-set}
use Rattle.std.proofs.lemmas.Option.{slice_get_within, get_or_from_slice_get}
use Rattle.lwkt_base.specs.declared.names.CpuId.{CpuId}
use Rattle.lwkt_base.specs.declared.asks.Ask.{Ask}
use Rattle.lwkt_base.specs.declared.asks.Answer.{Answer}
use Rattle.lwkt_core.specs.declared.events.Event.{Event}
use Rattle.lwkt_bank.specs.Seats.{BankId}
use Rattle.lwkt_cpu.specs.declared.answers.Turned.{Turned}
use Rattle.lwkt_cpu.specs.declared.answers.Turned.TheVariants.{Ran, Idle, AllExited}
use Rattle.lwkt_cpu.specs.Processors.{Processor}
use Rattle.lwkt_cpu.specs.Turning.{Chooses, RunsOne, Turns, MakesTurn}
use Rattle.lwkt_drive.specs.Appending.{AppendsTurns}
use Rattle.lwkt_drive.specs.declared.driven.Driven.{Driven}
use Rattle.lwkt_drive.specs.declared.driven.Limits.{Limits}
use Rattle.lwkt_drive.specs.Course.{IsDriven}
use Rattle.lwkt_machine.specs.Machines.{Has, Lasts}

-- a poll keeps something
abbrev pub Keeps : {B : Type 0} → (B → Answer → Ask → B → Type 0) → (B → Type 0) → Type 0
Keeps {B} polled kept = (b : B) (last : Answer) (ask : Ask) (d : B) → polled b last ask d → kept b → kept d

kept_chosen : {B : Type 0} (kept : B → Type 0) (old new : Processor B) (t u : Vec Event Global) (running found : Option ℕ) → Chooses old new t u running found → Has kept old → Has kept new
kept_chosen {B} kept old new t u (Some place) found ch before =
    let F : Processor B → Type 0 = λ p. Has kept p in
    subst F (sym ch.1) before
kept_chosen {B} kept old new t u None found ch before =
    let F : List B → Type 0 = λ bodies. All kept bodies in
    subst F (sym ch.2) before

kept_one : {B : Type 0} (polled : B → Answer → Ask → B → Type 0) (kept : B → Type 0) → Keeps polled kept → (bank : BankId) (old new : Processor B) (t u : Vec Event Global) (place : ℕ) → RunsOne polled bank old new t u place → Has kept old → Has kept new
kept_one {B} polled kept keeps bank old new t u place one before =
    let F : List B → Type 0 = λ bodies. All kept bodies in
    let G : B → Type 0 = λ b. kept b in
    let low : place < length old.bodies = slice_get_within old.bodies place one.body one.at_body in
    let was : kept one.body = subst G (get_or_from_slice_get old.bodies place one.body one.body one.at_body) (All-get_or kept old.bodies place one.body low before) in
    let is : kept one.next_body = keeps one.body one.before.last one.polls.ask one.next_body one.polls.polled_once was in
    subst F (sym one.bodies) (All-set kept old.bodies place one.next_body is before)

kept_turns : {B : Type 0} (polled : B → Answer → Ask → B → Type 0) (kept : B → Type 0) → Keeps polled kept → (bank : BankId) (old new : Processor B) (t u : Vec Event Global) (turned : Turned) → Turns polled bank old new t u turned → Has kept old → Has kept new
kept_turns polled kept keeps bank old new t u (Ran place) turns before =
    kept_one polled kept keeps bank turns.0 new turns.1.0 u place turns.1.1.1 (kept_chosen kept old turns.0 t turns.1.0 old.running (Some place) turns.1.1.0 before)
kept_turns polled kept keeps bank old new t u Idle turns before = kept_chosen kept old new t u old.running None turns.0 before
kept_turns polled kept keeps bank old new t u AllExited turns before = kept_chosen kept old new t u old.running None turns.0 before

-- a turn keeps it
pub kept_turn : {B : Type 0} (polled : B → Answer → Ask → B → Type 0) (kept : B → Type 0) → Keeps polled kept → (bank : BankId) (old new : Processor B) (t u : Vec Event Global) (turned : Turned) → MakesTurn polled bank old new t u turned → Has kept old → Has kept new
kept_turn {B} polled kept keeps bank old new t u turned turn before =
    let F : List B → Type 0 = λ bodies. All kept bodies in
    kept_turns polled kept keeps bank turn.mid new turn.v u turned turn.turns (subst F (sym turn.mail.bodies) before)

-- so do turns one after the other
pub kept_made : {B : Type 0} (polled : B → Answer → Ask → B → Type 0) (kept : B → Type 0) → Keeps polled kept → (bank : BankId) (old new : Processor B) (t u : List Event) (turns : List Turned) → AppendsTurns polled bank old new t u turns → Has kept old → Has kept new
kept_made {B} polled kept keeps bank old new t u [] made before =
    let F : Processor B → Type 0 = λ p. Has kept p in
    subst F (sym made.0) before
kept_made polled kept keeps bank old new t u (turned ∷ turns) made before =
    let k = made.1.1.0 in
    kept_made polled kept keeps bank made.0 new made.1.0 u turns made.1.1.1 (kept_turn polled kept keeps bank old made.0 k.room k.part turned k.does before)

-- one processor of a list was driven
abbrev pub WasDriven : {B : Type 0} → (B → Answer → Ask → B → Type 0) → (CpuId → ℕ → Bool → Type 0) → BankId → Limits → Driven B → Driven B → Type 0
WasDriven polled answers bank limits old new = IsDriven polled answers bank limits old new new.ending

-- and so do drives of processors
pub kept_driven : {B : Type 0} (polled : B → Answer → Ask → B → Type 0) (kept : B → Type 0) → Keeps polled kept → (answers : CpuId → ℕ → Bool → Type 0) (bank : BankId) (limits : Limits) (olds news : List (Driven B)) → AllZip (WasDriven polled answers bank limits) olds news → All (Lasts kept) olds → All (Lasts kept) news
kept_driven polled kept keeps answers bank limits [] [] zip before = before
kept_driven polled kept keeps answers bank limits [] (y ∷ ys) zip before = absurd zip
kept_driven polled kept keeps answers bank limits (x ∷ xs) [] zip before = absurd zip
kept_driven polled kept keeps answers bank limits (x ∷ xs) (y ∷ ys) zip before =
    All-cons (Lasts kept) y ys (kept_made polled kept keeps bank x.cpu y.cpu x.trace.items y.trace.items zip.0.turns zip.0.made (All-head (Lasts kept) x xs before)) (kept_driven polled kept keeps answers bank limits xs ys zip.1 (All-tail (Lasts kept) x xs before))
