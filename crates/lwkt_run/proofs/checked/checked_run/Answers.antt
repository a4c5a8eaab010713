use Rattle.std.proofs.Common.{◌∙◌, List, ap, refl}
use Rattle.lwkt_bank.specs.Seats.{BankId}
use Rattle.lwkt_core.specs.declared.events.Event.{Event}
use Rattle.lwkt_run.specs.Checked.{EndsSo, DeclinesSo}
use Rattle.lwkt_run.specs.Driving.{DriverState, driver_state}
use Rattle.lwkt_run.proofs.CheckedMoves.{Closes, KeepsAll, keeps_all, leaves_checked, saying}
use Rattle.lwkt_run.proofs.IdMoves.{opened_has}
use Rattle.lwkt_run.proofs.RoomMoves.{room_stays, as_many}
use Rattle.lwkt_run.proofs.checked.checked_run.Goals as goal

pub left_by-requires-clause-bank : goal.left_by-requires-clause-bank
left_by-requires-clause-bank g c =
    let f = c.in_ok-followed.followed in
    let did = c.in_ok-followed.ensures.follows in
    let n = c.follow.new in
    let s : DriverState = driver_state c.in_ok-machine.machine (g.K.Keeper.kept c.args.keeper) 0 did.0 in
    let t : DriverState = driver_state n.machine (g.K.Keeper.kept n.keeper) f.events f.follower in
    let k : KeepsAll c.args.script.now s t = keeps_all c.args.script.now c.args.course f.fits s t c.in_ok-machine.ensures.ok c.requires.fresh refl did.1.driven in
    ap (λ (bank : BankId). bank.plans) k.bank ∙ c.in_ok-machine.ensures.ok.plans

pub left_by-requires-clause-threads : goal.left_by-requires-clause-threads
left_by-requires-clause-threads g c =
    let f = c.in_ok-followed.followed in
    let did = c.in_ok-followed.ensures.follows in
    let n = c.follow.new in
    let s : DriverState = driver_state c.in_ok-machine.machine (g.K.Keeper.kept c.args.keeper) 0 did.0 in
    let t : DriverState = driver_state n.machine (g.K.Keeper.kept n.keeper) f.events f.follower in
    let k : KeepsAll c.args.script.now s t = keeps_all c.args.script.now c.args.course f.fits s t c.in_ok-machine.ensures.ok c.requires.fresh refl did.1.driven in
    k.has

pub left_by-requires-clause-room : goal.left_by-requires-clause-room
left_by-requires-clause-room g c =
    let script = c.args.script.now in
    let m = c.in_ok-machine.machine in
    let f = c.in_ok-followed.followed in
    let did = c.in_ok-followed.ensures.follows in
    let n = c.follow.new in
    let s : DriverState = driver_state m (g.K.Keeper.kept c.args.keeper) 0 did.0 in
    let t : DriverState = driver_state n.machine (g.K.Keeper.kept n.keeper) f.events f.follower in
    let k : KeepsAll script s t = keeps_all script c.args.course f.fits s t c.in_ok-machine.ensures.ok c.requires.fresh refl did.1.driven in
    room_stays m n.machine f.close_room k.bank k.book (as_many script.cpus script.threads m.cpus n.machine.cpus (opened_has script m c.in_ok-machine.ensures.ok) k.has) did.1.room_enough

pub returns-clause-leaves : goal.returns-clause-leaves
returns-clause-leaves g c =
    let script = c.args.script.now in
    let opened = c.in_ok-machine in
    let f = c.in_ok-followed.followed in
    let did = c.in_ok-followed.ensures.follows in
    let left_so = c.in_ok-left in
    let left = left_so.field-0.left in
    let stops = left_so.field-0.stops.items in
    let n = c.follow.new in
    let s : DriverState = driver_state opened.machine (g.K.Keeper.kept c.args.keeper) 0 did.0 in
    let t : DriverState = driver_state n.machine (g.K.Keeper.kept n.keeper) f.events f.follower in
    let closes : Closes script s t left stops = record {
      opens = opened.ensures.ok;
      within = opened.ensures.within;
      lawful = opened.ensures.lawful;
      values = left_so.ensures.values;
      ids = left_so.ensures.threads;
      shown = left_so.ensures.shown;
      leaves = left_so.ensures.leaves.0;
      begins = did.1.begins;
      fresh = c.requires.fresh;
      uncounted = refl;
    } in
    let E : List Event → Type 0 = λ es. EndsSo f.follower left es in
    let D : List Event → Type 0 = λ es. DeclinesSo f.follower left es in
    let said = saying c.verdict_of-verdict.result c.is_followed-follows.result f.events E D c.as_slice.result.now stops c.as_slice.ensures.value c.verdict_of-verdict.ensures in
    leaves_checked script c.args.course f.fits c.is_followed-follows.result s t left stops c.verdict_of-verdict.result c.requires.course closes did.1.driven c.is_followed-follows.ensures said
