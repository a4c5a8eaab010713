use Rattle.serde_json.specs.View.{items_view}
use Rattle.lwkt_script.proofs.Sayings.{program_said}
use Rattle.lwkt_script.proofs.sentences.program_of.Goals as goal

pub returns-in-Ok-clause-said : goal.returns-in-Ok-clause-said
returns-in-Ok-clause-said c =
    let read = rw (c.outermost.ensures, c.new.ensures) at c.in_ok-draft.ensures.exact in
    let made = rw c.into_vec.ensures at c.in-Ok.ensures.made in
    program_said c.args.n c.args.repeat c.args.vars (items_view c.args.items.now) c.in_ok-draft.draft c.in-Ok.code read made
