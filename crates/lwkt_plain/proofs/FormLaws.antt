-- Forms of states: they are their own, and opened states are.
use Rattle.std.proofs.Common.{◌≡◌, ℕ, List, [], ◌∷◌, map, refl, ap, ◌∙◌, Option, Some, None, Bool, true, false}
use Rattle.std.specs.Prelude.{if◌then◌else◌, option_and_then}
use Rattle.lwkt_base.specs.declared.names.Ref.{Ref}
use Rattle.lwkt_core.specs.declared.tokens.Token.{Token}
use Rattle.lwkt_core.specs.Opening.{opened_token}
use Rattle.lwkt_script.specs.declared.scripts.Script.{Script}
use Rattle.lwkt_script.specs.declared.scripts.ThreadSpec.{ThreadSpec}
use Rattle.lwkt_plain.specs.declared.states.BusyAt.{BusyAt}
use Rattle.lwkt_plain.specs.declared.states.Plain.{Plain}
use Rattle.lwkt_plain.specs.declared.states.Processor.{Processor}
use Rattle.lwkt_plain.specs.declared.states.Thread.{Thread}
use Rattle.lwkt_plain.specs.Forms.{can_match, kept_word, thread_by, cpu_by, plain_by, form, FormsAreTheirOwn, OpenedStatesAreForms}
use Rattle.lwkt_plain.specs.Intakes.{below}
use Rattle.lwkt_plain.specs.Letters.{opened_letter}
use Rattle.lwkt_plain.specs.Openings.{opened_thread, threads_of, opened_cpu, opened}

-- a map that does nothing more
map_again : {A : Type 0} (f : A → A) → ((x : A) → f (f x) ≡ f x) → (xs : List A) → map f (map f xs) ≡ map f xs
map_again f again [] = refl
map_again f again (x ∷ xs) = ap (λ y. y ∷ map f (map f xs)) (again x) ∙ ap (λ ys. f x ∷ ys) (map_again f again xs)

-- a word that is kept is kept again
kept_if : (tokens : List Token) (refs : List Ref) (b : BusyAt) (can : Bool) → can_match tokens refs b ≡ can → kept_word tokens refs (if can then Some b else None) ≡ (if can then Some b else None)
kept_if tokens refs b true is = ap (λ (x : Bool). if x then Some b else None) is
kept_if tokens refs b false is = refl

kept_again : (tokens : List Token) (refs : List Ref) (busy : Option BusyAt) → kept_word tokens refs (kept_word tokens refs busy) ≡ kept_word tokens refs busy
kept_again tokens refs None = refl
kept_again tokens refs (Some b) = kept_if tokens refs b (can_match tokens refs b) refl

thread_again : (tokens : List Token) (t : Thread) → thread_by (kept_word tokens) (thread_by (kept_word tokens) t) ≡ thread_by (kept_word tokens) t
thread_again tokens t = ap (λ (busy : Option BusyAt). record t { busy = busy }) (kept_again tokens t.list t.busy)

cpu_again : (tokens : List Token) (cpu : Processor) → cpu_by (kept_word tokens) (cpu_by (kept_word tokens) cpu) ≡ cpu_by (kept_word tokens) cpu
cpu_again tokens cpu = ap (λ (threads : List Thread). record cpu { threads = threads }) (map_again (thread_by (kept_word tokens)) (thread_again tokens) cpu.threads)

pub own_form : FormsAreTheirOwn
own_form p = ap (λ (cpus : List Processor). record p { cpus = cpus }) (map_again (cpu_by (kept_word p.tokens)) (cpu_again p.tokens) p.cpus)

-- no thread of an opened state was refused
threads_opened : (g : List Ref → Option BusyAt → Option BusyAt) → ((refs : List Ref) → g refs None ≡ None) → (specs : List ThreadSpec) → map (thread_by g) (map opened_thread specs) ≡ map opened_thread specs
threads_opened g none [] = refl
threads_opened g none (spec ∷ specs) =
    ap (λ t. t ∷ map (thread_by g) (map opened_thread specs)) (ap (λ (busy : Option BusyAt). record (opened_thread spec) { busy = busy }) (none []))
    ∙ ap (λ ts. opened_thread spec ∷ ts) (threads_opened g none specs)

cpus_opened : (g : List Ref → Option BusyAt → Option BusyAt) → ((refs : List Ref) → g refs None ≡ None) → (script : Script) (cs : List ℕ) → map (cpu_by g) (map (opened_cpu script) cs) ≡ map (opened_cpu script) cs
cpus_opened g none script [] = refl
cpus_opened g none script (c ∷ cs) =
    let one : cpu_by g (opened_cpu script c) ≡ opened_cpu script c =
    ap (λ (threads : List Thread). record (opened_cpu script c) { threads = threads }) (threads_opened g none (threads_of script c)) in
    ap (λ cpu. cpu ∷ map (cpu_by g) (map (opened_cpu script) cs)) one ∙ ap (λ cpus. opened_cpu script c ∷ cpus) (cpus_opened g none script cs)

pub opened_by : (g : List Ref → Option BusyAt → Option BusyAt) → ((refs : List Ref) → g refs None ≡ None) → (script : Script) → plain_by g (opened script) ≡ opened script
opened_by g none script = ap (λ (cpus : List Processor). record (opened script) { cpus = cpus }) (cpus_opened g none script (below script.cpus))

pub opened_form : OpenedStatesAreForms
opened_form script = opened_by (kept_word (map opened_token script.tokens)) (λ refs. refl) script
