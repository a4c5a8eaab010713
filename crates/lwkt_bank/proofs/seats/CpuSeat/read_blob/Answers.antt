use Rattle.std.proofs.Common.{◌≡◌, ℕ, List, refl, sym, ◌∙◌, subst}
use Rattle.lwkt_bank.specs.Views.{noted, who}
use Rattle.lwkt_bank.specs.Deeds.{reads_blob}
use Rattle.lwkt_bank.specs.Seats.{entry}
use Rattle.lwkt_bank.proofs.ChangeMoves.{changed, keeps_kept, entry_tok, guard_held, bytes_same}
use Rattle.lwkt_bank.proofs.seats.CpuSeat.read_blob.Goals as goal

pub read_record-requires-clause-held : goal.read_record-requires-clause-held
read_record-requires-clause-held c = guard_held c.args.self.now c.args.tok.0 c.requires.there c.requires.held c.requires.guarded

pub invariant_of-self : goal.invariant_of-self
invariant_of-self c =
    let s = c.args.self.now in
    let t = c.args.tok.0 in
    let x = c.read_record.ensures.reads in
    record {
      kept = keeps_kept s c.read_record.new.seat.me.0 t (entry s t) x.0 _ x.1.1.1.1 c.requires.there (entry_tok s t) (s.kept.each t c.requires.there);
      hands = c.read_record.ensures.hands;
      sized = s.sized;
    }

pub returns-clause-changes : goal.returns-clause-changes
returns-clause-changes c =
    let s = c.args.self.now in
    let t = c.args.tok.0 in
    let x = c.read_record.ensures.reads in
    let same : x.1.1.0 ≡ c.read_record.result = bytes_same x.1.1.0 c.read_record.result (sym x.1.1.1.0 ∙ c.read_record.ensures.value) in
    let F : List ℕ → Type 0 = λ b. c.read_record.new.seat.me.0 ≡ noted x.0 s.seat.me.0 (entry s t) (reads_blob (who s.seat.me.0) t b) in
    changed s _ t (entry s t) x.0 (λ cpu. reads_blob cpu t c.read_record.result) c.read_record.ensures.table refl refl x.1.0 (subst F same x.1.1.1.1) (entry_tok s t)
