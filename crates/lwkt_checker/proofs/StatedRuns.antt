-- The events that are stated, one after another.
use Rattle.std.proofs.Common.{suc, ◌≡◌, List, [], ◌∷◌, length, take, take_all, refl, ap, sym, ◌∙◌, subst, arith, Option, Some, None}
use Rattle.std.specs.Prelude.{slice_get, IsSomeAnd}
use Rattle.std.specs.Option.{option_map_or}
use Rattle.lwkt_base.specs.declared.names.CpuId.{CpuId}
use Rattle.lwkt_base.specs.declared.names.TokId.{TokId}
use Rattle.lwkt_base.specs.declared.sections.Section.{Section}
use Rattle.lwkt_core.specs.declared.tokens.Token.{Token}
use Rattle.lwkt_core.specs.declared.events.Event.{Event}
use Rattle.lwkt_core.specs.declared.events.Event.TheVariants.{GiveWritten}
use Rattle.lwkt_core.specs.Tokens.{section_at, TokenNeeds}
use Rattle.lwkt_core.specs.Machine.{Machine, Needs, after}
use Rattle.lwkt_core.specs.Trace.{Run}
use Rattle.lwkt_trace.specs.declared.traces.Stated.{Stated}
use Rattle.lwkt_trace.specs.declared.traces.Stated.TheVariants.{Whole, Given}
use Rattle.lwkt_checker.specs.Stated.{no_section, event_stated, events_stated, IsStated, StatedIsOnly}

-- as many events as are stated
pub length-events_stated : (m : Machine) (stated : List Stated) → length (events_stated m stated) ≡ length stated
length-events_stated m [] = refl
length-events_stated m (x ∷ xs) = ap suc (length-events_stated (after m (event_stated m x)) xs)

-- the section of a written give that can happen is the token's own
own_section : (o : Option Token) (cpu : CpuId) (t : TokId) (section : Section) → IsSomeAnd o (λ tok. TokenNeeds tok (GiveWritten cpu t section)) → section ≡ option_map_or (section_at t) o (no_section t)
own_section None cpu t section needs = absurd needs
own_section (Some tok) cpu t section needs = needs.3

only_event : (m : Machine) (x : Stated) (e : Event) → IsStated x e → Needs m e → e ≡ event_stated m x
only_event m (Whole y) e is needs = is
only_event m (Given cpu t) e is needs =
    let given : Needs m (GiveWritten cpu t is.0) = subst (λ (k : Event). Needs m k) is.1 needs in
    is.1 ∙ ap (λ (s : Section). GiveWritten cpu t s) (own_section (slice_get m.tokens t.0) cpu t is.0 given.place)

pub only_stated : StatedIsOnly
only_stated m n [] [] are run = refl
only_stated m n [] (e ∷ es) are run = absurd are
only_stated m n (x ∷ xs) [] are run = absurd are
only_stated m n (x ∷ xs) (e ∷ es) are run =
    let same : e ≡ event_stated m x = only_event m x e are.0 run.1.0.0 in
    let rest : es ≡ events_stated (after m e) xs = only_stated (after m e) n xs es are.1 (subst (λ (k : Machine). Run k es n) run.1.0.1 run.1.1) in
    ap (λ (fs : List Event). e ∷ fs) rest ∙ ap (λ (f : Event). f ∷ events_stated (after m f) xs) same

-- of all events the first are all of them
pub ran_whole : (m : Machine) (stated : List Stated) (mid : Machine) → Run m (events_stated m stated) mid → Run m (take (length stated) (events_stated m stated)) mid
ran_whole m stated mid run =
    let long = length-events_stated m stated in
    subst (λ (es : List Event). Run m es mid) (sym (take_all (length stated) (events_stated m stated) (omega arith))) run
