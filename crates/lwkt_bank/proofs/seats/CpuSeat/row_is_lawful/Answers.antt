use Rattle.std.proofs.Common.{ap, sym, ◌∙◌, ◌≡◌, ◌↔◌, List, ℕ, take, subst, arith}
use Rattle.std.specs.Prelude.{IsTrue}
use Rattle.lwkt_base.specs.Law.{Obeys}
use Rattle.lwkt_base.specs.declared.laws.Law.{Law}
use Rattle.lwkt_base.specs.declared.laws.Law.TheVariants.{Len}
use Rattle.lwkt_base.specs.declared.names.CpuId.{CpuId}
use Rattle.lwkt_core.specs.Tokens.{length_of}
use Rattle.lwkt_bank.specs.declared.views.TokenEntry.{TokenEntry}
use Rattle.lwkt_bank.specs.Deeds.{reads_all}
use Rattle.lwkt_bank.proofs.RowMoves.{obeys_len}
use Rattle.lwkt_bank.specs.declared.views.Plan.{Plan}
use Rattle.lwkt_bank.specs.Rule.{plan_at}
use Rattle.lwkt_bank.specs.Seats.{BankId, bank_of, plan_of, entry, Knowing, asked_record}
use Rattle.lwkt_bank.proofs.TurnMoves.{exclusive_held}
use Rattle.lwkt_bank.proofs.ChangeMoves.{plan_is, short_row, row_read, knowing_both}
use Rattle.lwkt_bank.proofs.seats.CpuSeat.row_is_lawful.Goals as goal

pub returns-clause-lawful : goal.returns-clause-lawful
returns-clause-lawful c =
    let s = c.args.self.now in
    let t = c.args.tok.0 in
    let p = c.plan-plan.result in
    let v = c.row-values.result in
    let plan : p ≡ plan_at s.seat.me.0.plans t = c.plan-plan.ensures ∙ sym (plan_is c.args.bank.now s t c.requires.of) in
    let cells : p.cells ≡ (plan_at s.seat.me.0.plans t).cells = ap (λ (q : Plan). q.cells) plan in
    let short = short_row c.args.bank.now s t c.requires.of in
    let row : take p.cells v ≡ (entry s t).row = row_read s t v p.cells c.requires.there (exclusive_held (entry s t).held c.requires.held) cells (omega arith) c.row-values.ensures.four (λ cell low. c.row-values.ensures.row cell (omega arith)) in
    let k = c.row-values.ensures.knowing.changes in
    let len = c.asked_length-len.result in
    let len_is : p.law ≡ Len → len ≡ length_of (entry s t).blob
    = λ is. c.asked_length-len.ensures.length (ap (λ (b : BankId). (plan_of b t).law) k.bank ∙ ap (λ (q : Plan). q.law) (sym plan) ∙ is) ∙ ap (λ (d : TokenEntry). length_of d.blob) k.here in
    let F : List ℕ → Type 0 = λ r. (IsTrue c.holds_of_section.result ↔ Obeys p.law p.param r len) in
    let G : Plan → Type 0 = λ q. (IsTrue c.holds_of_section.result ↔ Obeys q.law q.param (entry s t).row (length_of (entry s t).blob)) in
    let one = subst F row c.holds_of_section.ensures in
    subst G plan ((λ holds. obeys_len p.law p.param (entry s t).row len (length_of (entry s t).blob) len_is (one.0 holds)), (λ obeys. one.1 (obeys_len p.law p.param (entry s t).row (length_of (entry s t).blob) len (λ is. sym (len_is is)) obeys)))

pub returns-clause-knowing : goal.returns-clause-knowing
returns-clause-knowing c =
    let s = c.args.self.now in
    let t = c.args.tok.0 in
    let mid = c.row-values.new.self in
    let k = c.row-values.ensures.knowing.changes in
    let F : Law → CpuId → TokenEntry → Type 0 = λ l n d. Knowing mid c.asked_length-len.new.self t (entry mid t) (asked_record l n t d.blob) in
    let second = subst (λ (d : TokenEntry). F (plan_of (bank_of s) t).law s.cpu d) k.here (subst (λ (n : CpuId). F (plan_of (bank_of s) t).law n (entry mid t)) k.cpu (subst (λ (b : BankId). F (plan_of b t).law mid.cpu (entry mid t)) k.bank c.asked_length-len.ensures.knowing)) in
    knowing_both s mid c.asked_length-len.new.self t (reads_all s.cpu t 0 (entry s t).row) (asked_record (plan_of (bank_of s) t).law s.cpu t (entry s t).blob) c.row-values.ensures.knowing second
