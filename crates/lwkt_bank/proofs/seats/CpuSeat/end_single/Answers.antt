use Rattle.std.proofs.Common.{◌≡◌, ◌∙◌, ◌∷◌, [], ℕ, List, length, refl, ap, sym, subst, arith}
use Rattle.std.specs.Prelude.{slice_index}
use Rattle.lwkt_base.specs.Holding.{is_held}
use Rattle.lwkt_base.specs.declared.sections.Section.{Section}
use Rattle.lwkt_bank.specs.declared.views.TokenEntry.{TokenEntry}
use Rattle.lwkt_bank.specs.Seats.{entry, Knowing, last_loads}
use Rattle.lwkt_bank.proofs.CellMoves.{section_by_parts, section_ended}
use Rattle.lwkt_bank.proofs.seats.CpuSeat.end_single.Goals as goal

-- a row of one cell is that cell
single_row : (row : List ℕ) (value : ℕ) → length row ≡ 1 → value ≡ slice_index row 0 → value ∷ [] ≡ row
single_row [] value short is = absurd (omega arith)
single_row (x ∷ []) value short is = ap (λ (v : ℕ). v ∷ []) is
single_row (x ∷ y ∷ row) value short is = absurd (omega arith)

pub returns : goal.returns
returns c =
    let s = c.args.self.now in
    let t = c.args.tok.0 in
    let change = c.change_of-first in
    let long = (s.kept.each t c.requires.there).long (ap is_held c.requires.last) in
    let before : c.of.result ≡ (entry s t).first = c.of.ensures ∙ single_row (entry s t).first change.result.first (long.0 ∙ c.requires.single) change.ensures.first in
    let after : c.of-2.result ≡ (entry s t).row = c.of-2.ensures ∙ single_row (entry s t).row change.result.last (long.1 ∙ c.requires.single) change.ensures.last in
    let generation : c.end_written-generation.result ≡ (entry s t).generation = c.end_written-generation.ensures.generation ∙ ap (λ (e : TokenEntry). e.generation) change.ensures.knowing.changes.here in
    let F : ℕ → Type 0 = λ cells. Knowing s change.new.self t (entry s t) (last_loads s.cpu t (entry s t) cells) in
    let loaded = subst F (sym c.requires.single) change.ensures.knowing in
    let section : Section = record { before = c.of.result; after = c.of-2.result; generation = c.end_written-generation.result; tok = c.args.tok } in
    section_ended s change.new.self c.end_written-generation.new.self t section (section_by_parts t (entry s t) section before after generation refl) loaded c.end_written-generation.ensures.stepped
