use Rattle.std.proofs.Common.{List, refl, ap, arith, length, length-append, append_assoc, ◌+◌, ◌≤◌, ◌∙◌, ◌++◌, sym}
use Rattle.std.specs.Prelude.{◌≡◌, vec_len}
use Rattle.std.proofs.lemmas.List.{append-nil}
use Rattle.lwkt_base.specs.declared.names.CpuId.{CpuId}
use Rattle.lwkt_core.specs.declared.events.Event.{Event}
use Rattle.lwkt_bank.specs.Seats.{holding}
use Rattle.lwkt_hold.proofs.GiveMoves.{stores, not_tally, same_else, stored_ran, stored_kept, stores_first}
use Rattle.lwkt_hold.specs.Rows.{write_events, record_write_events}
use Rattle.lwkt_hold.proofs.gives.restore.Goals as goal

pub returns-clause-ran : goal.returns-clause-ran
returns-clause-ran c =
    let r = c.restore-stored.ensures.restored (not_tally c.args.seat.now c.args.tok.0 c.requires.broken.broken) in
    let stored = c.restore-stored.result in
    let first = write_events c.args.cpu c.args.tok 0 stored.cells in
    let last = record_write_events c.args.cpu c.args.tok stored.blob in
    let both : length (first ++ last) ≡ length first + length last = length-append first last in
    let one = c.note_cells.ensures.longer in
    let two = c.note_record.ensures.longer in
    let few : length first ≤ 4 = c.note_cells.ensures.few in
    let more : length last ≤ 1 = c.note_record.ensures.few in
    let pushed = c.note_record.ensures.items ∙ ap (λ (xs : List Event). xs ++ last) c.note_cells.ensures.items ∙ append_assoc c.args.trace.now.items first last in
    let longer : vec_len c.note_record.new.trace ≡ vec_len c.args.trace.now + length (first ++ last) = omega arith in
    stored_ran (λ h. h ≡ holding c.args.seat.now) c.args.seat.now c.restore-stored.new.self c.args.tok c.args.cpu stored.cells stored.blob c.args.trace.now c.note_record.new.trace r refl c.requires.mine pushed longer (omega arith)
    (let x = c.note_cells.ensures.room in let y = c.note_record.ensures.room in omega arith)

pub returns-clause-kept : goal.returns-clause-kept
returns-clause-kept c = stored_kept c.args.seat.now c.restore-stored.new.self c.args.tok.0 c.restore-stored.result.cells c.restore-stored.result.blob (c.restore-stored.ensures.restored (not_tally c.args.seat.now c.args.tok.0 c.requires.broken.broken))

pub returns-clause-stored : goal.returns-clause-stored
returns-clause-stored c =
    let r = c.restore-stored.ensures.restored (not_tally c.args.seat.now c.args.tok.0 c.requires.broken.broken) in
    let s = c.args.seat.now in
    let stored = c.restore-stored.result in
    let first = write_events c.args.cpu c.args.tok 0 stored.cells in
    let last = record_write_events c.args.cpu c.args.tok stored.blob in (
      stores s.cpu c.args.tok stored.cells stored.blob,
      (
        c.note_record.ensures.items ∙ ap (λ (xs : List Event). xs ++ last) c.note_cells.ensures.items ∙ append_assoc c.args.trace.now.items first last
            ∙ ap (λ (cpu : CpuId). c.args.trace.now.items ++ stores cpu c.args.tok stored.cells stored.blob) c.requires.mine,
        (
          stored.cells,
          (
            stored.blob,
            (
              stores_first s c.restore-stored.new.self c.args.tok.0 stored.cells stored.blob r,
              r.puts,
              ap (λ (xs : List Event). write_events s.cpu c.args.tok 0 stored.cells ++ xs) (sym (append-nil (record_write_events s.cpu c.args.tok stored.blob))),
            ),
          ),
        ),
      ),
    )

pub returns-clause-others : goal.returns-clause-others
returns-clause-others c =
    let r = c.restore-stored.ensures.restored (not_tally c.args.seat.now c.args.tok.0 c.requires.broken.broken) in
    same_else c.args.seat.now c.restore-stored.new.self c.args.tok.0 _ _ r.changes
