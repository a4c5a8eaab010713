use Rattle.std.proofs.Common.{◌≡◌, ◌∙◌, refl, ap}
use Rattle.lwkt_base.specs.declared.sections.Section.{Section}
use Rattle.lwkt_bank.specs.declared.views.TokenEntry.{TokenEntry}
use Rattle.lwkt_bank.specs.Seats.{entry}
use Rattle.lwkt_bank.proofs.CellMoves.{section_by_parts, section_ended}
use Rattle.lwkt_bank.proofs.seats.CpuSeat.end_whole.Goals as goal

pub returns : goal.returns
returns c =
    let s = c.args.self.now in
    let t = c.args.tok.0 in
    let r = c.both_rows-before in
    let generation : c.end_written-generation.result ≡ (entry s t).generation = c.end_written-generation.ensures.generation ∙ ap (λ (e : TokenEntry). e.generation) r.ensures.knowing.changes.here in
    let section : Section = record { before = r.result.0; after = r.result.1; generation = c.end_written-generation.result; tok = c.args.tok } in
    section_ended s r.new.self c.end_written-generation.new.self t section (section_by_parts t (entry s t) section r.ensures.first r.ensures.row generation refl) r.ensures.knowing c.end_written-generation.ensures.stepped
