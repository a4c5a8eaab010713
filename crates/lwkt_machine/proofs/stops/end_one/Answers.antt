use Rattle.std.proofs.Common.{refl}
use Rattle.lwkt_machine.proofs.stops.end_one.Goals as goal

pub returns-clause-ends : goal.returns-clause-ends
returns-clause-ends g c =
    let s = c.stop_in_room.ensures in
    record {
      stops = record {
        room = c.args.stop.now;
        part = c.stop_in_room.new.trace;
        none = c.requires.room.0;
        does = record { stops = s.stops; ran = s.ran; traced = s.traced; same = s.same };
        grown = refl;
      };
      rest = refl;
    }
