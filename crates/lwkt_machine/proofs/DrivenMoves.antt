-- The processors of those that are driven.
use Rattle.std.proofs.Common.{◌≡◌, ◌∙◌, ℕ, ◌<◌, List, [], ◌∷◌, ◌++◌, length, set, refl, ap, subst, Some}
use Rattle.std.specs.Prelude.{All, option_map, slice_get}
use Rattle.std.specs.List.{AllZip}
use Rattle.std.proofs.lemmas.List.{length-map, map-append, map-set}
use Rattle.std.proofs.lemmas.Option.{slice_get_within, slice_get-map}
use Rattle.lwkt_bank.specs.Seats.{BankId}
use Rattle.lwkt_msg.specs.Desks.{Shelf}
use Rattle.lwkt_hold.proofs.RunMoves.{AllZip-append}
use Rattle.lwkt_cpu.specs.Processors.{Processor}
use Rattle.lwkt_lane.proofs.PlaceMoves.{get_there, some_same}
use Rattle.lwkt_drive.specs.declared.driven.Driven.{Driven}
use Rattle.lwkt_drive.specs.Course.{IsAtTables}
use Rattle.lwkt_machine.specs.Machines.{IsOfMachine, processors}
use Rattle.lwkt_machine.specs.Sights.{KeepsLog}
use Rattle.lwkt_machine.proofs.ListMoves.{all_at, all_from_get, set_same, zip_set}

module _ {B : Type 0} where
  abbrev cpu_of : Driven B → Processor B
  cpu_of d = d.cpu

  pub long_processors : (driven : List (Driven B)) → length (processors driven) ≡ length driven
  long_processors driven = length-map driven cpu_of

  pub processor_at : (driven : List (Driven B)) (k : ℕ) (d : Driven B) → slice_get driven k ≡ Some d → slice_get (processors driven) k ≡ Some d.cpu
  processor_at driven k d at = slice_get-map cpu_of driven k ∙ ap (option_map cpu_of) at

  pub driven_at : (driven : List (Driven B)) (k : ℕ) (p : Processor B) → slice_get (processors driven) k ≡ Some p → (d : Driven B) × ((slice_get driven k ≡ Some d) × (d.cpu ≡ p))
  driven_at driven k p at =
      let F : ℕ → Type 0 = λ n. k < n in
      let d = get_there driven k (subst F (long_processors driven) (slice_get_within (processors driven) k p at)) in
      (d.0, (d.1, some_same d.0.cpu p (slice_get (processors driven) k) (processor_at driven k d.0 d.1) at))

  -- one of them is another
  pub processors_set : (driven : List (Driven B)) (k : ℕ) (d : Driven B) → processors (set driven k d) ≡ set (processors driven) k d.cpu
  processors_set driven k d = map-set cpu_of driven k d

  pub processors_put : (driven : List (Driven B)) (k : ℕ) (d e : Driven B) → slice_get driven k ≡ Some d → e.cpu ≡ d.cpu → processors (set driven k e) ≡ processors driven
  processors_put driven k d e at same = processors_set driven k e ∙ set_same (processors driven) k d.cpu e.cpu (processor_at driven k d at) same

  -- one of them, with those before it and those behind it
  pub processors_around : (lower upper : List (Driven B)) (d : Driven B) → processors (lower ++ d ∷ upper) ≡ processors lower ++ d.cpu ∷ processors upper
  processors_around lower upper d = map-append cpu_of lower (d ∷ upper)

  -- nothing changed of any of them
  pub logs_none : (driven : List (Driven B)) → AllZip KeepsLog driven driven
  logs_none [] = tt
  logs_none (d ∷ driven) = (refl, logs_none driven)

  pub logs_around : (lower lowers upper uppers : List (Driven B)) (d e : Driven B) → AllZip KeepsLog lower lowers → KeepsLog d e → AllZip KeepsLog upper uppers → AllZip KeepsLog (lower ++ d ∷ upper) (lowers ++ e ∷ uppers)
  logs_around lower lowers upper uppers d e low here up = AllZip-append KeepsLog lower lowers (d ∷ upper) (e ∷ uppers) low (here, up)

  -- of one of them nothing more changed but its processor
  pub logs_set : (olds mids : List (Driven B)) (k : ℕ) (m : Driven B) (p : Processor B) → slice_get mids k ≡ Some m → AllZip KeepsLog olds mids → ((d : Driven B) → slice_get olds k ≡ Some d → KeepsLog d m) → AllZip KeepsLog olds (set mids k (record m { cpu = p }))
  logs_set olds mids k m p at logs kept = zip_set KeepsLog olds mids k (record m { cpu = p }) logs (λ d was. ap (λ (e : Driven B). record e { cpu = p }) (kept d was))

  -- they are at the tables of their machine
  pub at_tables : (bank : BankId) (book : Shelf) (driven : List (Driven B)) → All (IsOfMachine bank book) (processors driven) → All (IsAtTables bank book.table) driven
  at_tables bank book driven of = all_from_get (IsAtTables bank book.table) driven (λ k d at.
      let o = all_at (IsOfMachine bank book) (processors driven) k d.cpu (processor_at driven k d at) of in
      record { bank_is = o.bank_is; book_is = o.table_is })

  pub of_tables : (bank : BankId) (book : Shelf) (driven : List (Driven B)) → All (IsAtTables bank book.table) driven → All (IsOfMachine bank book) (processors driven)
  of_tables bank book driven at = all_from_get (IsOfMachine bank book) (processors driven) (λ k p is.
      let d = driven_at driven k p is in
      let a = all_at (IsAtTables bank book.table) driven k d.0 d.1.0 at in
      let F : Processor B → Type 0 = λ q. IsOfMachine bank book q in
      subst F d.1.1 (record { bank_is = a.bank_is; table_is = a.book_is }))

  -- what holds of each processor
  pub each_processor : (P : Processor B → Type 0) (driven : List (Driven B)) → All (λ (d : Driven B). P d.cpu) driven → All P (processors driven)
  each_processor P driven all = all_from_get P (processors driven) (λ k p is.
      let d = driven_at driven k p is in
      subst P d.1.1 (all_at (λ (e : Driven B). P e.cpu) driven k d.0 d.1.0 all))

  pub each_driven : (P : Processor B → Type 0) (driven : List (Driven B)) → All P (processors driven) → All (λ (d : Driven B). P d.cpu) driven
  each_driven P driven all = all_from_get (λ (d : Driven B). P d.cpu) driven (λ k d at. all_at P (processors driven) k d.cpu (processor_at driven k d at) all)
