use Rattle.std.proofs.Common.{◌≡◌, ℕ, ◌+◌, ◌<◌, Bool, List, length, count_by, refl, ap, arith}
use lib.ListN.{length-map}
use Rattle.lwkt_base.specs.declared.opening_specs.MsgSpec.{MsgSpec}
use Rattle.lwkt_core.specs.declared.events.Event.{Event}
use Rattle.lwkt_core.specs.declared.messages.Message.{Message}
use Rattle.lwkt_table.specs.declared.seats.Deed.{Deed}
use Rattle.lwkt_core.specs.Headline as kind
use Rattle.lwkt_table.specs.History.{Passes, events_in}
use Rattle.lwkt_core.specs.Opening.{opened_message}
use Rattle.lwkt_table.proofs.HistoryLemmas.{Passes-run}
use Rattle.lwkt_core.proofs.RunLemmas.{are_events}
use Rattle.lwkt_msg.specs.Views.{spec_at}
use Rattle.lwkt_msg.specs.Book.{Mail, mail_at, opened_mail}
use Rattle.lwkt_msg.specs.Steps.{machine_of}
use Rattle.lwkt_msg.specs.Ledger.{IsDone, first_mails, AreCounted}
use Rattle.lwkt_msg.proofs.Running.{done_runs}
use Rattle.lwkt_msg.proofs.Leading.{shown_at}
use Rattle.lwkt_msg.proofs.Splitting.{opened_at}

-- how often each thing was done with a message by the end of a history is how many of its events did it
pub counted_by : (cpus : ℕ) (specs : List MsgSpec) (history : List Deed) (mails : List Mail) → Passes (IsDone cpus) (first_mails specs) history mails → length mails ≡ length specs → (m : ℕ) → m < length specs → AreCounted (mail_at mails m).msg m (λ which. count_by which (events_in history))
counted_by cpus specs history mails passes as_many m within =
    let run = Passes-run (IsDone cpus) (λ (ms : List Mail). machine_of cpus ms) (done_runs cpus) (first_mails specs) history mails passes in
    let long = length-map specs opened_mail in
    let grows = are_events (machine_of cpus (first_mails specs)) (events_in history) (machine_of cpus mails) m first.msg (mail_at mails m).msg run (shown_at (first_mails specs) m (omega arith)) (shown_at mails m (omega arith)) in
    record {
      sends = from_none (λ x. x.sends) (kind.sends_message m) refl grows.0;
      takes = from_none (λ x. x.takes) (kind.takes_message m) refl grows.1;
      drops = from_none (λ x. x.drops) (kind.drops_message m) refl grows.2;
      replies = from_none (λ x. x.replies) (kind.replies_to_message m) refl grows.3;
      reaps = from_none (λ x. x.reaps) (kind.reaps_message m) refl grows.4;
    }
  where
    first : Mail
    first = mail_at (first_mails specs) m

    from_none : (f : Message → ℕ) (which : Event → Bool) → f (opened_message (spec_at specs m)) ≡ 0 → f (mail_at mails m).msg ≡ f first.msg + count_by which (events_in history) → f (mail_at mails m).msg ≡ count_by which (events_in history)
    from_none f which none grown =
        let a : f first.msg ≡ f (opened_message (spec_at specs m)) = ap (λ (x : Mail). f x.msg) (opened_at specs m within) in
        omega arith
