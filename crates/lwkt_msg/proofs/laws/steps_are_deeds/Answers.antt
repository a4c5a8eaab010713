use Rattle.lwkt_msg.proofs.Picturing.{load_is_look, lost_exchange_is_look, handing_out_is_look, store_is_send, exchange_is_take, add_is_reply, store_is_reap, exchange_is_drop, or_is_abort, seating_is_no_deed}
use Rattle.lwkt_msg.proofs.laws.steps_are_deeds.Goals as goal

pub returns-clause-loads : goal.returns-clause-loads
returns-clause-loads c = load_is_look

pub returns-clause-lost : goal.returns-clause-lost
returns-clause-lost c = lost_exchange_is_look

pub returns-clause-handing_out : goal.returns-clause-handing_out
returns-clause-handing_out c = handing_out_is_look

pub returns-clause-sends : goal.returns-clause-sends
returns-clause-sends c = store_is_send

pub returns-clause-takes : goal.returns-clause-takes
returns-clause-takes c = exchange_is_take

pub returns-clause-replies : goal.returns-clause-replies
returns-clause-replies c = add_is_reply

pub returns-clause-reaps : goal.returns-clause-reaps
returns-clause-reaps c = store_is_reap

pub returns-clause-drops : goal.returns-clause-drops
returns-clause-drops c = exchange_is_drop

pub returns-clause-requests : goal.returns-clause-requests
returns-clause-requests c = or_is_abort

pub returns-clause-seating : goal.returns-clause-seating
returns-clause-seating c = seating_is_no_deed
