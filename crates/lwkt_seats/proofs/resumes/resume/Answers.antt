use Rattle.std.proofs.Common.{◌<◌, List, sym, ◌∙◌, subst}
use Rattle.std.specs.Prelude.{All}
use Rattle.std.proofs.lemmas.List.Elements.{All-map}
use Rattle.lwkt_base.specs.declared.names.Ref.{Ref}
use Rattle.lwkt_bank.specs.Seats.{BankId, bank_of, tokens_of}
use Rattle.lwkt_seats.specs.declared.references.LwktReference.{LwktReference}
use Rattle.lwkt_seats.specs.Lists.{ref_of, refs_of, IsReference, IsList, TakesNone}
use Rattle.lwkt_seats.proofs.resumes.resume.Goals as goal

-- the tokens of references are there
refs_there : (bank : BankId) (refs : List LwktReference) → All (IsReference bank) refs → All (λ r. r.tok.0 < tokens_of bank) (refs_of refs)
refs_there bank refs all = All-map (λ (r : Ref). r.tok.0 < tokens_of bank) ref_of refs (λ k d within. (all k d within).0)

pub take_all-requires-clause-there : goal.take_all-requires-clause-there
take_all-requires-clause-there c =
    let listed = c.in-Ok.ensures.ok in
    let F : List Ref → Type 0 = λ xs. All (λ r. r.tok.0 < tokens_of (bank_of c.args.seat.now)) xs in
    let G : BankId → Type 0 = λ b. All (IsReference b) c.args.refs.now in
    subst F (sym (c.refs.ensures.value ∙ listed.0)) (refs_there (bank_of c.args.seat.now) c.args.refs.now (subst G (sym c.requires.of) listed.1.0))

pub returns-in-Err-take_all-clause-does : goal.returns-in-Err-take_all-clause-does
returns-in-Err-take_all-clause-does c =
    let listed = c.in-Ok.ensures.ok in
    let G : BankId → Type 0 = λ b. IsList b c.args.refs.now in
    let F : List Ref → Type 0 = λ xs. TakesNone xs c.in-Err-take_all.at c.in-Err-take_all.why c.args.seat.now c.take_all.new.seat in
    (c.is_idle.ensures.yes c.if-not-is_idle.false, subst G (sym c.requires.of) listed.1, subst F (c.refs.ensures.value ∙ listed.0) c.in-Err-take_all.ensures.none)
