use Rattle.std.proofs.Common.{◌≡◌, ◌∷◌, [], List, sym, subst}
use Rattle.std.specs.Prelude.{All}
use Rattle.std.proofs.lemmas.List.Elements.{All-append, All-cons, All-nil}
use Rattle.lwkt_machine.specs.declared.statuses.ThreadStatus.{ThreadStatus}
use Rattle.lwkt_base.specs.declared.threads.ThreadLine.{ThreadLine}
use Rattle.lwkt_run.specs.Running.{IsLogOf, is_service}
use Rattle.lwkt_run.proofs.IdMoves.{shown_more}
use Rattle.lwkt_run.proofs.endings.thread_lines.Goals as goal

pub loop-status-preserved : goal.loop-status-preserved
loop-status-preserved c =
    let l = c.loop-status in
    let line = c.in_ok-thread_line.field-0 in
    let status = c.in-Some.status in
    let e = c.in_ok-thread_line.ensures in
    let P : ThreadLine → Type 0 = IsLogOf c.args.machine.now in
    let F : List ThreadLine → Type 0 = λ lines. All P lines in
    let S : ThreadLine → Type 0 = λ line. line.service ≡ is_service c.args.script.now.threads line.id in
    let G : List ThreadLine → Type 0 = λ lines. All S lines in
    record {
      ids = shown_more (λ (x : ThreadLine). x.id) (λ (s : ThreadStatus). s.id) l.lines.items c.push.new.list.items l.yielded line status c.in_ok-push.ensures.items l.invariant.ids e.id;
      states = shown_more (λ (x : ThreadLine). x.state) (λ (s : ThreadStatus). s.state) l.lines.items c.push.new.list.items l.yielded line status c.in_ok-push.ensures.items l.invariant.states e.state;
      lists = shown_more (λ (x : ThreadLine). x.list) (λ (s : ThreadStatus). s.list) l.lines.items c.push.new.list.items l.yielded line status c.in_ok-push.ensures.items l.invariant.lists e.list;
      logs = subst F (sym c.in_ok-push.ensures.items) (All-append P l.lines.items (line ∷ []) l.invariant.logs (All-cons P line [] e.log (All-nil P)));
      services = subst G (sym c.in_ok-push.ensures.items) (All-append S l.lines.items (line ∷ []) l.invariant.services (All-cons S line [] e.service (All-nil S)));
    }
