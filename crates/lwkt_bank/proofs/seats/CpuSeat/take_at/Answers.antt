use Rattle.lwkt_base.specs.Holding.{is_exclusive}
use Rattle.std.proofs.Common.{refl, length-set, ◌∙◌, ap}
use Rattle.lwkt_bank.specs.Views.{generation_in, looked, taken}
use Rattle.lwkt_bank.specs.Deeds.{loses, takes}
use Rattle.lwkt_bank.specs.Seats.{entry}
use Rattle.lwkt_bank.specs.Notes.{note_at, begun}
use Rattle.lwkt_bank.proofs.ChangeMoves.{changed, keeps_missed, keeps_changed, hit_of, still_hands, miss_hands, hit_hands, entry_tok, room_of}
use Rattle.lwkt_bank.proofs.NoteMoves.{IsNoted-taken}
use Rattle.lwkt_bank.proofs.TurnMoves.{seen-keeps}
use Rattle.lwkt_bank.proofs.seats.CpuSeat.take_at.Goals as goal

pub invariant_of-self : goal.invariant_of-self
invariant_of-self c =
    let s = c.args.self.now in
    let t = c.args.tok.0 in
    let miss = c.swing-found.ensures.exchanges.1.1.1 c.if-found-word.true in
    record {
      kept = keeps_missed s c.swing-found.new.seat.me.0 t (generation_in c.swing-found.result) c.swing-found.ensures.exchanges.0 _ c.args.mode _ c.take.new.self c.end.new.self (room_of c.args.bank.now s t c.requires.of c.requires.there) miss.1 c.requires.there c.requires.free c.take.ensures c.end.ensures;
      hands = still_hands s c.swing-found.new.seat t (looked (entry s t) c.swing-found.result) c.swing-found.ensures.exchanges.0 _ (miss_hands s c.swing-found.new.seat t c.args.word c.swing-found.result c.args.mode c.swing-found.ensures.hands c.if-found-word.true) miss.1 ((seen-keeps (entry s t) (generation_in c.swing-found.result)).0 ∙ entry_tok s t) (ap is_exclusive (seen-keeps (entry s t) (generation_in c.swing-found.result)).1) (seen-keeps (entry s t) (generation_in c.swing-found.result)).9;
      sized = length-set s.notes t _ ∙ s.sized;
    }

pub returns-then-found-word-clause-miss : goal.returns-then-found-word-clause-miss
returns-then-found-word-clause-miss c = λ no'. let s = c.args.self.now in let miss = c.swing-found.ensures.exchanges.1.1.1 c.if-found-word.true in record {
  found = c.swing-found.result;
  other = c.if-found-word.true;
  rises = miss.0;
  changes = changed s _ c.args.tok.0 (looked (entry s c.args.tok.0) c.swing-found.result) c.swing-found.ensures.exchanges.0 (λ cpu. loses cpu c.args.tok.0 c.args.word c.args.next c.swing-found.result) c.swing-found.ensures.table refl refl c.swing-found.ensures.exchanges.1.0 miss.1 ((seen-keeps (entry s c.args.tok.0) (generation_in c.swing-found.result)).0 ∙ entry_tok s c.args.tok.0);
}

pub invariant_of-self-else-found-word : goal.invariant_of-self-else-found-word
invariant_of-self-else-found-word c =
    let s = c.args.self.now in
    let t = c.args.tok.0 in
    let hit = c.swing-found.ensures.exchanges.1.1.0 c.if-found-word.false in
    let noted' = IsNoted-taken _ s.cpu.0 (entry s t) c.swing-found.result c.args.mode hit.0 hit.1.0 (note_at s.notes t) hit.1.1.0.long hit.1.1.0.guard hit.1.1.0.short (s.kept.each t c.requires.there) in
    record {
      kept = keeps_changed s c.swing-found.new.seat.me.0 t (taken (entry s t) c.swing-found.result c.args.mode hit.0 hit.1.0) c.swing-found.ensures.exchanges.0 _ (λ m. begun m c.args.mode) _ c.take.new.self (room_of c.args.bank.now s t c.requires.of c.requires.there) hit.1.1.1 c.requires.there ((seen-keeps (entry s t) (generation_in c.swing-found.result)).0 ∙ entry_tok s t) c.take.ensures noted';
      hands = hit_hands s c.swing-found.new.seat t c.swing-found.result c.args.word c.swing-found.result c.args.mode hit.0 hit.1.0 c.swing-found.ensures.exchanges.0 _ c.swing-found.ensures.hands c.if-found-word.false hit.1.1.1 c.requires.there c.requires.free;
      sized = length-set s.notes t _ ∙ s.sized;
    }

pub returns-clause-hit : goal.returns-clause-hit
returns-clause-hit c = λ yes'.
    let s = c.args.self.now in
    let t = c.args.tok.0 in
    let hit = c.swing-found.ensures.exchanges.1.1.0 c.if-found-word.false in
    hit_of s _ t c.args.mode c.args.word c.args.next c.swing-found.result hit.0 hit.1.0 c.if-found-word.false hit.1.1.0
    (changed s _ t (taken (entry s t) c.swing-found.result c.args.mode hit.0 hit.1.0) c.swing-found.ensures.exchanges.0 (λ cpu. takes cpu t c.args.mode c.args.word c.args.next c.swing-found.result) c.swing-found.ensures.table refl refl c.swing-found.ensures.exchanges.1.0 hit.1.1.1 ((seen-keeps (entry s t) (generation_in c.swing-found.result)).0 ∙ entry_tok s t))
