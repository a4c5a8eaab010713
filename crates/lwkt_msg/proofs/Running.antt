use Rattle.std.proofs.Common.{◌≡◌, ⊎_elim, ℕ, zero, suc, List, [], ◌∷◌, map, set, refl, ap, sym, ◌∙◌, subst}
use Rattle.lwkt_core.specs.declared.events.Event.{Event}
use Rattle.lwkt_core.specs.declared.messages.Message.{Message}
use Rattle.lwkt_table.specs.declared.seats.Deed.{Deed}
use Rattle.lwkt_core.specs.Machine.{Machine}
use Rattle.lwkt_core.specs.Trace.{Run}
use Rattle.lwkt_table.proofs.SeatingLemmas.{map-set}
use Rattle.lwkt_msg.specs.Book.{Mail, mail_at}
use Rattle.lwkt_msg.specs.Steps.{machine_of}
use Rattle.lwkt_msg.specs.Ledger.{IsHandedOut, IsLook, IsEvent, IsDone}

-- the same machine is shown where a message of the model stays as it is
pub same_machine : (cpus : ℕ) (mails : List Mail) (m : ℕ) (mail' : Mail) → mail'.msg ≡ (mail_at mails m).msg → machine_of cpus (set mails m mail') ≡ machine_of cpus mails
same_machine cpus mails m mail' same =
    let messages : List Message = map (λ (x : Mail). x.msg) mails in
    let e : map (λ (x : Mail). x.msg) (set mails m mail') ≡ messages
    = map-set (λ (x : Mail). x.msg) mails m mail' ∙ (ap (λ (x : Message). set messages m x) same ∙ again mails m) in
    ap (λ (x : List Message). let z : Machine = record { cpus = cpus; tokens = []; messages = x } in z) e
  where
    again : (xs : List Mail) (i : ℕ) → set (map (λ (x : Mail). x.msg) xs) i (mail_at xs i).msg ≡ map (λ (x : Mail). x.msg) xs
    again [] i = refl
    again (x ∷ xs) zero = refl
    again (x ∷ xs) (suc i) = ap (λ (l : List Message). x.msg ∷ l) (again xs i)

-- the events of a deed lead from the one machine to the other
pub done_runs : (cpus : ℕ) (mails : List Mail) (d : Deed) (others : List Mail) → IsDone cpus mails d others → Run (machine_of cpus mails) d.events (machine_of cpus others)
done_runs cpus mails d others done =
    let F : List Mail → Type 0 = λ xs. Run (machine_of cpus mails) d.events (machine_of cpus xs) in
    subst F (sym done.leaves) (⊎_elim
    (λ (look : IsLook (mail_at mails done.step.at) d done.step done.after).
    let G : List Event → Type 0 = λ es. Run (machine_of cpus mails) es (machine_of cpus (set mails done.step.at done.after)) in
    let same : done.after.msg ≡ (mail_at mails done.step.at).msg = ⊎_elim
    (λ (is : (d.records ≡ []) × (done.after ≡ mail_at mails done.step.at)). ap (λ (x : Mail). x.msg) is.1)
    (λ (handed : IsHandedOut (mail_at mails done.step.at) d done.after). ap (λ (x : Mail). x.msg) handed.leaves)
    look.leaves in
    subst G (sym look.events) (same_machine cpus mails done.step.at done.after same))
    (λ (event : IsEvent cpus mails done.step.at d done.step done.after).
    let G : List Event → Type 0 = λ es. Run (machine_of cpus mails) es (machine_of cpus (set mails done.step.at done.after)) in
    subst G (sym event.events) (machine_of cpus (set mails done.step.at done.after), (event.happens, refl)))
    done.what)
