use Rattle.std.proofs.Common.{◌≡◌, List, [], ◌∷◌, None, ap, sym, ◌∙◌, subst}
use Rattle.std.specs.Prelude.{is_some}
use Rattle.lwkt_base.specs.declared.laws.Law.{Law}
use Rattle.lwkt_base.specs.declared.laws.Law.TheVariants.{Len}
use Rattle.lwkt_table.specs.declared.seats.Deed.{Deed}
use Rattle.lwkt_bank.specs.declared.views.Plan.{Plan}
use Rattle.lwkt_bank.specs.Views.{RecordOf}
use Rattle.lwkt_bank.specs.Deeds.{reads_blob}
use Rattle.lwkt_bank.specs.Seats.{BankId, bank_of, plan_of, entry, Knowing, asked_record}
use Rattle.lwkt_bank.proofs.RowMoves.{asked_none, none_of}
use Rattle.lwkt_bank.proofs.TurnMoves.{exclusive_held}
use Rattle.lwkt_bank.proofs.ChangeMoves.{knowing_none, knowing_same}
use Rattle.lwkt_bank.proofs.seats.CpuSeat.asked_length.Goals as goal

pub returns-then-not-asks_length-clause-knowing : goal.returns-then-not-asks_length-clause-knowing
returns-then-not-asks_length-clause-knowing c =
    let s = c.args.self.now in
    let t = c.args.tok.0 in
    let law_is : (plan_of (bank_of s) t).law ≡ c.plan.result.law = ap (λ (b : BankId). (plan_of b t).law) c.requires.of ∙ sym (ap (λ (p : Plan). p.law) c.plan.ensures) in
    let none : asked_record (plan_of (bank_of s) t).law s.cpu t (entry s t).blob ≡ [] = asked_none (plan_of (bank_of s) t).law s.cpu t (entry s t).blob (λ is. absurd (c.asks_length.ensures.no c.if-not-asks_length.true (sym law_is ∙ is))) in
    let F : List Deed → Type 0 = λ deeds. Knowing s s t (entry s t) deeds in
    subst F (sym none) (knowing_none s t)

pub returns-then-not-guards-clause-knowing : goal.returns-then-not-guards-clause-knowing
returns-then-not-guards-clause-knowing c =
    let s = c.args.self.now in
    let t = c.args.tok.0 in
    let blob_is : (entry s t).blob ≡ None = none_of (entry s t).blob (((s.kept.each t c.requires.there).guarded (exclusive_held (entry s t).held c.requires.held)).0 ∙ ap (λ (b : BankId). is_some (plan_of b t).blob) c.requires.of ∙ sym c.guards.ensures ∙ c.if-not-guards.true) in
    let none : asked_record (plan_of (bank_of s) t).law s.cpu t (entry s t).blob ≡ [] = asked_none (plan_of (bank_of s) t).law s.cpu t (entry s t).blob (λ is. blob_is) in
    let F : List Deed → Type 0 = λ deeds. Knowing s s t (entry s t) deeds in
    subst F (sym none) (knowing_none s t)

pub returns-clause-knowing : goal.returns-clause-knowing
returns-clause-knowing c =
    let s = c.args.self.now in
    let t = c.args.tok.0 in
    let law_is : (plan_of (bank_of s) t).law ≡ Len = ap (λ (b : BankId). (plan_of b t).law) c.requires.of ∙ sym (ap (λ (p : Plan). p.law) c.plan.ensures) ∙ c.asks_length.ensures.yes c.if-not-asks_length.false in
    let F : Law → RecordOf → Type 0 = λ l b. Knowing s c.read_blob.new.self t (entry s t) (asked_record l s.cpu t b) in
    subst (λ (l : Law). F l (entry s t).blob) (sym law_is) (subst (λ (b : RecordOf). F Len b) (sym c.read_blob.ensures.value) (knowing_same s c.read_blob.new.self t (entry s t) (reads_blob s.cpu t c.read_blob.result ∷ []) c.read_blob.ensures.changes))
