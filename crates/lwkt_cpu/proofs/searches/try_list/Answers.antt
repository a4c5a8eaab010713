use Rattle.std.proofs.Common.{refl}
use Rattle.lwkt_hold.specs.declared.answers.Resumed.TheVariants.{All, Passed}
use Rattle.lwkt_cpu.proofs.TurnTraceMoves.{resumed_quiet}
use Rattle.lwkt_cpu.proofs.SearchMoves.{tries_by}
use Rattle.lwkt_cpu.proofs.searches.try_list.Goals as goal

pub returns-in-All-clause-quiet : goal.returns-in-All-clause-quiet
returns-in-All-clause-quiet c = resumed_quiet c.args.hold.now.seat.cpu c.args.thread.now.list c.args.trace.now.items c.resume.new.trace.items c.resume.result c.resume.ensures.all c.resume.ensures.passed

pub returns-in-Passed-clause-quiet : goal.returns-in-Passed-clause-quiet
returns-in-Passed-clause-quiet c = resumed_quiet c.args.hold.now.seat.cpu c.args.thread.now.list c.args.trace.now.items c.resume.new.trace.items c.resume.result c.resume.ensures.all c.resume.ensures.passed

pub returns-in-All-clause-yes : goal.returns-in-All-clause-yes
returns-in-All-clause-yes c =
    let e = c.resume.ensures in
    λ on. (refl, tries_by c.args.hold.now.seat c.resume.new.self.seat c.args.trace.now c.resume.new.trace c.args.thread.now.list c.resume.result e.ran e.resumes e.all e.passed e.clean All c.in-All.is)

pub returns-in-Passed-clause-no : goal.returns-in-Passed-clause-no
returns-in-Passed-clause-no c =
    let e = c.resume.ensures in
    let p = c.in-Passed in
    λ off. (p.at, (p.why, (tries_by c.args.hold.now.seat c.resume.new.self.seat c.args.trace.now c.resume.new.trace c.args.thread.now.list c.resume.result e.ran e.resumes e.all e.passed e.clean (Passed p.at p.why) p.is, c.miss.ensures)))
