-- A machine whose processors were driven is still one.
use Rattle.std.proofs.Common.{◌∙◌, ℕ, List, sym, subst}
use Rattle.std.specs.Prelude.{All, Bool}
use Rattle.std.specs.List.{AllZip}
use Rattle.lwkt_base.specs.declared.names.CpuId.{CpuId}
use Rattle.lwkt_base.specs.declared.asks.Ask.{Ask}
use Rattle.lwkt_base.specs.declared.asks.Answer.{Answer}
use Rattle.lwkt_bank.specs.Seats.{BankId}
use Rattle.lwkt_msg.specs.Desks.{Shelf}
use Rattle.lwkt_cpu.specs.Processors.{Processor}
use Rattle.lwkt_drive.specs.declared.driven.Driven.{Driven}
use Rattle.lwkt_drive.specs.declared.driven.Limits.{Limits}
use Rattle.lwkt_drive.specs.Course.{IsAtTables}
use Rattle.lwkt_drive.proofs.TracedMoves.{kept_ports}
use Rattle.lwkt_machine.specs.Ended.{AreSameCpus, IsSameCpu}
use Rattle.lwkt_machine.specs.Machines.{AreOneMachine, Has, Lasts, processors}
use Rattle.lwkt_machine.proofs.DrivenMoves.{at_tables, driven_at, each_driven, each_processor, long_processors, processor_at}
use Rattle.lwkt_machine.proofs.KeptMoves.{Keeps, WasDriven, kept_driven}
use Rattle.lwkt_machine.proofs.ListMoves.{all_at, zip_get, zip_long}
use Rattle.lwkt_machine.proofs.SameMoves.{parts_same}

module _ {B : Type 0} where
  -- processors that were driven are still the same ones
  driven_same : (polled : B → Answer → Ask → B → Type 0) (answers : CpuId → ℕ → Bool → Type 0) (bank : BankId) (book : Shelf) (limits : Limits) (olds news : List (Driven B)) → AllZip (WasDriven polled answers bank limits) olds news → All (IsAtTables bank book.table) olds → All (IsAtTables bank book.table) news → AreSameCpus (processors olds) (processors news)
  driven_same polled answers bank book limits olds news zip at_olds at_news = record {
    as_many = long_processors news ∙ zip_long (WasDriven polled answers bank limits) olds news zip ∙ sym (long_processors olds);
    each = λ k q at.
        let e = driven_at news k q at in
        let d = zip_get (WasDriven polled answers bank limits) olds news zip k e.0 e.1.0 in
        let was = all_at (IsAtTables bank book.table) olds k d.0 d.1.0 at_olds in
        let is = all_at (IsAtTables bank book.table) news k e.0 e.1.0 at_news in
        let F : Processor B → Type 0 = λ p. IsSameCpu d.0.cpu p in (
          d.0.cpu,
          (
            processor_at olds k d.0 d.1.0,
            subst F e.1.1 (record {
              bank = is.bank_is ∙ sym was.bank_is;
              table = is.book_is ∙ sym was.book_is;
              number = d.1.1.seat;
              ports = kept_ports polled bank d.0.cpu e.0.cpu d.0.trace.items e.0.trace.items d.1.1.turns d.1.1.made;
            }),
          ),
        );
  }

  -- and one machine
  pub driven_whole : (polled : B → Answer → Ask → B → Type 0) (kept : B → Type 0) → Keeps polled kept → (answers : CpuId → ℕ → Bool → Type 0) (seats : ℕ) (bank : BankId) (book : Shelf) (limits : Limits) (olds news : List (Driven B)) → AllZip (WasDriven polled answers bank limits) olds news → All (IsAtTables bank book.table) news → AreOneMachine kept seats bank book (processors olds) → AreOneMachine kept seats bank book (processors news)
  driven_whole polled kept keeps answers seats bank book limits olds news zip at_news parts =
      let before : All (Lasts kept) olds = each_driven (Has kept) olds parts.lasting in
      let lasting = each_processor (Has kept) news (kept_driven polled kept keeps answers bank limits olds news zip before) in
      parts_same kept seats bank book (processors olds) (processors news) (driven_same polled answers bank book limits olds news zip (at_tables bank book olds parts.each) at_news) lasting parts
