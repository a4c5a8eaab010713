use Rattle.std.proofs.Common.{inl, inr, ◌≡◌, ◌⊎◌, List, ℕ, subst, sym, string_bytes}
use Rattle.std.specs.Option.{option_copied}
use Rattle.lwkt_base.specs.Fault.{no_memory}
use Rattle.lwkt_report.specs.declared.streams.RunFault.TheVariants.{Fault as FaultOfRun}
use Rattle.lwkt_text.specs.Inputs.{input_of}
use Rattle.lwkt.specs.Failing.{IsFailureOf}
use Rattle.lwkt.specs.Making.{IsMadeOf}
use Rattle.lwkt.specs.Performing.{Writes}
use Rattle.lwkt.proofs.Reporting.{keeps_itself, some_read, fails_so, writes_so}
use Rattle.lwkt.proofs.performing.answered.Goals as goal

pub returns-in-Err-Fault-clause-answers : goal.returns-in-Err-Fault-clause-answers
returns-in-Err-Fault-clause-answers g c =
    let read = some_read (g.S.Source.left c.args.source.now) in
    let is : c.in-Err-Fault.field-0 ≡ FaultOfRun no_memory = elim c.in-Err-Fault.ensures.only [ inl other ↦ let never : ⊥ = cc in absurd never | inr other ↦ cc ] in
    (read.0, (read.1, (keeps_itself (g.K.Sink.contents c.args.sink.now), rw is (inl tt))))

pub returns-in-Err-Stream-clause-answers : goal.returns-in-Err-Stream-clause-answers
returns-in-Err-Stream-clause-answers g c =
    let read = some_read (g.S.Source.left c.args.source.now) in
    (read.0, (read.1, inl (keeps_itself (g.K.Sink.contents c.args.sink.now))))

pub returns-in-Err-clause-answers : goal.returns-in-Err-clause-answers
returns-in-Err-clause-answers g c =
    let Fails : List ℕ → Type 0 = λ b. IsFailureOf c.args.origin.task (option_copied c.args.order) (input_of (option_copied c.args.origin.path) b) c.in-Err.failure in
    (c.in-Ok.bytes.items, (c.in-Ok.ensures.bytes, fails_so c.args.origin.task (option_copied c.args.order) (input_of (option_copied c.args.origin.path) c.in-Ok.bytes.items) (g.K.Sink.contents c.args.sink.now) c.in-Err.failure (subst Fails c.as_slice.ensures.value c.in-Err.ensures.failed)))

pub returns-clause-answers : goal.returns-clause-answers
returns-clause-answers g c =
    let made = c.in-Ok-made_of_bytes.made in
    let Made : List ℕ → Type 0 = λ b. IsMadeOf c.args.origin.task (option_copied c.args.order) (input_of (option_copied c.args.origin.path) b) (string_bytes made.text) made.status in
    let Wrote : List ℕ → Type 0 = λ text. Writes text made.status (g.K.Sink.has_failed c.written-answer.new.sink) (g.K.Sink.contents c.args.sink.now) (g.K.Sink.contents c.written-answer.new.sink) c.written-answer.result in (
      c.in-Ok.bytes.items,
      (
        c.in-Ok.ensures.bytes,
        writes_so c.args.origin.task (option_copied c.args.order) (input_of (option_copied c.args.origin.path) c.in-Ok.bytes.items) (string_bytes made.text) made.status (g.K.Sink.has_failed c.written-answer.new.sink) (g.K.Sink.contents c.args.sink.now) (g.K.Sink.contents c.written-answer.new.sink) c.written-answer.result
            (subst Made c.as_slice.ensures.value c.in-Ok-made_of_bytes.ensures.made) (subst Wrote c.as_str.ensures.value c.written-answer.ensures.writes),
      ),
    )
