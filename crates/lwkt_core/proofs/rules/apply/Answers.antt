use Rattle.std.proofs.Common.{arith, sym}
use Rattle.lwkt_core.specs.Machine.{machine}
use Rattle.lwkt_core.proofs.MachineMoves.{needs_of_token, needs_of_message, after_token, after_message, IsSafe_left}
use Rattle.lwkt_core.proofs.rules.apply.Goals as goal

pub apply_at_token-requires : goal.apply_at_token-requires
apply_at_token-requires c = record {
  allowed = needs_of_token (machine c.args.cpus c.args.tokens.now.items c.args.messages.now.items) c.args.event.now c.in-AtToken.place (sym c.in-AtToken.ensures) c.requires.needs;
  exists = (let p = c.requires.needs.processor in let q = c.requires.safe.processors in omega arith);
  safe = (c.args.cpus, c.requires.safe.each_token);
  few = c.requires.safe.few _;
}

pub apply_at_message-requires : goal.apply_at_message-requires
apply_at_message-requires c = record {
  allowed = (c.args.cpus, needs_of_message (machine c.args.cpus c.args.tokens.now.items c.args.messages.now.items) c.args.event.now c.in-AtMessage.place (sym c.in-AtMessage.ensures) c.requires.needs);
  safe = (c.args.cpus, c.requires.safe.each_message);
}

pub returns-in-AtToken-clause-safe : goal.returns-in-AtToken-clause-safe
returns-in-AtToken-clause-safe c =
    let m = machine c.args.cpus c.args.tokens.now.items c.args.messages.now.items in
    let new = c.apply_at_token.new.tokens.items in
    IsSafe_left m (machine m.cpus new m.messages) c.args.event.now c.requires.safe c.requires.needs (after_token m c.args.event.now c.in-AtToken.place new (sym c.in-AtToken.ensures) c.apply_at_token.ensures)

pub returns-in-AtMessage-clause-safe : goal.returns-in-AtMessage-clause-safe
returns-in-AtMessage-clause-safe c =
    let m = machine c.args.cpus c.args.tokens.now.items c.args.messages.now.items in
    let new = c.apply_at_message.new.messages.items in
    IsSafe_left m (machine m.cpus m.tokens new) c.args.event.now c.requires.safe c.requires.needs (after_message m c.args.event.now c.in-AtMessage.place new (sym c.in-AtMessage.ensures) c.apply_at_message.ensures)
