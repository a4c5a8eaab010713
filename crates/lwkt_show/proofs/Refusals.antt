-- Why a run isn't shown.
use Rattle.std.proofs.Common.{◌≡◌, inl, inr, ℕ, List, Option, None, Some, sym, subst}
use Rattle.lwkt_base.specs.declared.faults.Fault.{Fault}
use Rattle.lwkt_base.specs.Fault.{no_memory}
use Rattle.lwkt_run.specs.declared.runs.TurnsRun.{TurnsRun}
use Rattle.lwkt_show.specs.Shown.{MayBeRefused}
use Rattle.lwkt_script.specs.declared.scripts.Script.{Script}
use Rattle.lwkt_show.specs.Showing.{DeclinesShow, IsRunOf}

no_memory_declines : (script : Script) (order : Option (List ℕ)) (fault : Fault) → fault ≡ no_memory → DeclinesShow script order fault
no_memory_declines script None fault is = subst (λ f. DeclinesShow script None f) (sym is) tt
no_memory_declines script (Some order) fault is = subst (λ f. DeclinesShow script (Some order) f) (sym is) tt

-- where a run of a script was made, its opening isn't refused
pub show_refused : (script : Script) (order : Option (List ℕ)) (run : TurnsRun) (fault : Fault) → IsRunOf script order run → MayBeRefused script fault → DeclinesShow script order fault
show_refused script None run fault is why =
    elim why [
      | inl memory ↦ no_memory_declines script None fault memory
      | inr broken ↦ elim broken [ inl limits ↦ absurd (limits.1 is.closes.within) | inr law ↦ absurd (law.1.1 is.closes.lawful_opening) ]
    ]
show_refused script (Some order) run fault is why =
    elim why [
      | inl memory ↦ no_memory_declines script (Some order) fault memory
      | inr broken ↦ elim broken [ inl limits ↦ absurd (limits.1 is.closes.within) | inr law ↦ absurd (law.1.1 is.closes.lawful_opening) ]
    ]
