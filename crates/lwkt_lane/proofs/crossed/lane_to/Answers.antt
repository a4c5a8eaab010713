use Rattle.std.proofs.Common.{◌≡◌, ◌∷◌, [], ◌++◌, arith}
use Rattle.std.proofs.lemmas.Grind.{common_steps}
use Rattle.lwkt_lane.proofs.crossed.lane_to.Goals as goal

pub returns : goal.returns
returns c =
    let made = c.in_ok-out in
    let grown : c.push.new.list.items ≡ c.args.ends.now.items ++ made.into ∷ [] = grind (arith, common_steps) in
    record {
      into = made.into;
      grown = grown;
      lane = record {
        one = made.ensures.ends;
        notes = made.ensures.capacity;
        unsent = made.ensures.sent.0;
        none_in_hand = made.ensures.sent.1;
        unreceived = made.ensures.received;
      };
    }
