use Rattle.std.proofs.Common.{◌≡◌, ◌∙◌, List, ap, sym}
use Rattle.std.specs.Prelude.{option_and_then}
use Rattle.std.specs.Option.{option_copied}
use Rattle.lwkt_base.specs.declared.entries.Entry.{Entry}
use Rattle.lwkt_script.specs.Logs.{failure_of}
use Rattle.lwkt_verdict.specs.Followed.{log_with}
use Rattle.lwkt_verdict.proofs.KnownMoves.{ends_so}
use Rattle.lwkt_verdict.proofs.followed.Followed.has_line.Goals as goal

pub returns-clause-ends : goal.returns-clause-ends
returns-clause-ends c =
    let f = c.self.inside in
    let line = c.args.line.now in
    let said = c.is_whole.ensures.0 c.if-not-is_whole.false in
    let whole : log_with f.log.items (option_and_then failure_of f.last) ≡ line.log = sym (ap (λ (es : List Entry). log_with es (option_and_then failure_of f.last)) c.as_slice.ensures.value) ∙ said ∙ c.as_slice-2.ensures in
    rw (← c.self.view_is) (λ yes some. ends_so (option_copied f.plan) f.local f.last f.blocked f.expected f.log.items line c.self.invariant whole (sym c.may_end.ensures ∙ yes) some)
