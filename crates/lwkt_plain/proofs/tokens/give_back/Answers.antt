use Rattle.std.proofs.Common.{◌≡◌, ◌<◌, ℕ, List, get_or, ap, sym, ◌∙◌, subst, true, false}
use Rattle.std.proofs.lemmas.Bool.{false≢true}
use Rattle.lwkt_base.specs.declared.holdings.Held.{Held}
use Rattle.lwkt_base.specs.declared.holdings.Held.TheVariants.{Nothing}
use Rattle.lwkt_base.specs.declared.limits.TheConstants.{CPU_LIMIT}
use Rattle.lwkt_base.specs.Holding.{is_held}
use Rattle.lwkt_core.specs.declared.tokens.Token.{Token}
use Rattle.lwkt_core.specs.Events.{cpu_of, adds_reference}
use Rattle.lwkt_core.specs.Tokens.{held_by, IsSafeToken, IsLawful, TokenNeeds}
use Rattle.lwkt_plain.specs.Tokens.{ends_section, mended}
use Rattle.lwkt_plain.proofs.Givings.{mended_so, giving_needs, giving_cpu, giving_adds}
use Rattle.lwkt_plain.proofs.tokens.give_back.Goals as goal

pub apply-requires-clause-exists : goal.apply-requires-clause-exists
apply-requires-clause-exists c =
    subst (λ (n : ℕ). n < CPU_LIMIT) (sym (ap cpu_of c.giving_event-event.ensures ∙ giving_cpu c.args.cpu c.args.tok c.mend.new.token)) c.requires.here

pub apply-requires-clause-allowed : goal.apply-requires-clause-allowed
apply-requires-clause-allowed c =
    let cpu = c.args.cpu in
    let tok = c.args.token.now in
    let m = c.mend.new.token in
    let is = mended_so cpu tok c.requires.short c.requires.safe in
    let same : held_by m cpu.0 ≡ held_by tok cpu.0 =
    ap (λ (x : Token). held_by x cpu.0) c.mend.ensures ∙ ap (λ (holders : List Held). get_or holders cpu.0 Nothing) is.same in
    subst (TokenNeeds m) (sym c.giving_event-event.ensures)
    (giving_needs cpu c.args.tok m (ap is_held same ∙ c.requires.holds)
    (λ ends. subst IsLawful (sym c.mend.ensures) (is.lawful (ap ends_section (sym same) ∙ ends))))

pub apply-requires-clause-safe : goal.apply-requires-clause-safe
apply-requires-clause-safe c =
    (CPU_LIMIT, subst (IsSafeToken CPU_LIMIT) (sym c.mend.ensures) (mended_so c.args.cpu c.args.token.now c.requires.short c.requires.safe).safe)

pub apply-requires-clause-few : goal.apply-requires-clause-few
apply-requires-clause-few c =
    λ adds. absurd (false≢true (sym (ap adds_reference c.giving_event-event.ensures ∙ giving_adds c.args.cpu c.args.tok c.mend.new.token) ∙ adds))
