use Rattle.std.proofs.Common.{◌≡◌, ℕ, List, ◌++◌, length, take, drop, Option, refl, sym, ◌∙◌, subst}
use Rattle.lwkt_hold.proofs.ReadMoves.{ran_still}
use Rattle.lwkt_cpu.specs.declared.threads.Thread.{Thread}
use Rattle.lwkt_cpu.specs.Processors.{Processor, IsAtRest, AreThere, AllKeepBusyWords, processor_of}
use Rattle.lwkt_cpu.specs.Searches.{point, FindsThread, IsOfOne}
use Rattle.lwkt_cpu.specs.Ending.{is_worn, ClosesPorts}
use Rattle.lwkt_cpu.specs.Turning.{Chooses}
use Rattle.lwkt_cpu.proofs.RestMoves.{refilled, rest_found}
use Rattle.lwkt_cpu.proofs.SearchMoves.{finds_long}
use Rattle.lwkt_cpu.proofs.ShutMoves.{rest_posted}
use Rattle.lwkt_cpu.proofs.WakeMoves.{post_none}
use Rattle.lwkt_cpu.proofs.cpus.Cpu.choose.Goals as goal

pub returns-in-Some-clause-ran : goal.returns-in-Some-clause-ran
returns-in-Some-clause-ran g c = ran_still (IsOfOne c.args.self.now.threads) 1024 c.args.self.now.seat c.args.trace.now

pub find-found-requires-clause-there : goal.find-found-requires-clause-there
find-found-requires-clause-there g c =
    let F : List Thread → Type 0 = λ xs. AreThere c.self.inside.hold.seat xs in
    subst F (sym c.deref_mut.ensures.value) (λ k t at. (c.self.invariant.settled k t at).there)

pub find-found-requires-clause-busy : goal.find-found-requires-clause-busy
find-found-requires-clause-busy g c =
    let F : List Thread → Type 0 = λ xs. AllKeepBusyWords xs in
    subst F (sym c.deref_mut.ensures.value) (λ k t at. (c.self.invariant.settled k t at).busy)

pub invariant_of-self : goal.invariant_of-self
invariant_of-self g c =
    let i = c.self.inside in
    let f = c.find-found in
    let q = c.close_all.new.ports in
    let F : List Thread → Type 0 = λ xs. IsAtRest {B = g.row.B.Denot} (processor_of f.new.hold.seat q i.bodies.items xs f.result c.past-self-inside.result) in
    let G : List Thread → Type 0 = λ xs. FindsThread i.cursor (point i.hold.seat xs c.args.trace.now) (point f.new.hold.seat f.new.threads f.new.trace) f.result in
    let long : length f.new.threads ≡ i.threads.len = finds_long i.cursor (point i.hold.seat c.deref_mut.result.now c.args.trace.now) (point f.new.hold.seat f.new.threads f.new.trace) f.result f.ensures.finds ∙ c.deref_mut.ensures.len in
    subst F (sym (refilled f.new.threads i.threads.items i.threads.len long))
    (rest_posted {B = g.row.B.Denot} f.new.hold.seat i.ports q i.bodies.items f.new.threads f.result c.past-self-inside.result c.close_all.ensures.same
    (rest_found {B = g.row.B.Denot} i.hold.seat f.new.hold.seat i.ports i.bodies.items i.threads.items f.new.threads c.args.trace.now f.new.trace i.running i.cursor c.past-self-inside.result f.result c.self.invariant f.ensures.ran.bank f.ensures.ran.cpu (subst G c.deref_mut.ensures.value f.ensures.finds) c.past-self-inside.ensures))

pub returns-in-None-clause-chooses : goal.returns-in-None-clause-chooses
returns-in-None-clause-chooses g c =
    let i = c.self.inside in
    let f = c.find-found in
    let q = c.close_all.new.ports in
    let t = c.args.trace.now in
    let u = f.new.trace in
    let start = processor_of {B = g.row.B.Denot} i.hold.seat i.ports i.bodies.items i.threads.items i.running i.cursor in
    let end : List Thread → Processor g.row.B.Denot = λ xs. processor_of f.new.hold.seat q i.bodies.items xs f.result c.past-self-inside.result in
    let F : List Thread → Type 0 = λ xs. FindsThread i.cursor (point i.hold.seat xs t) (point f.new.hold.seat f.new.threads u) f.result in
    let found = subst F c.deref_mut.ensures.value f.ensures.finds in
    let long : length f.new.threads ≡ i.threads.len = finds_long i.cursor (point i.hold.seat c.deref_mut.result.now t) (point f.new.hold.seat f.new.threads u) f.result f.ensures.finds ∙ c.deref_mut.ensures.len in
    let back = refilled f.new.threads i.threads.items i.threads.len long in
    let G : List Thread → Type 0 = λ xs. ClosesPorts is_worn xs i.ports q in
    let closed = subst G (c.deref.ensures.value ∙ back) c.close_all.ensures.closes in
    let H : Option ℕ → Type 0 = λ o. Chooses {B = g.row.B.Denot} start (end f.new.threads) t u o f.result in
    let K : List Thread → Type 0 = λ xs. Chooses {B = g.row.B.Denot} start (end xs) t u i.running f.result in
    let L : Processor g.row.B.Denot → Type 0 = λ p. Chooses {B = g.row.B.Denot} p (end (take i.threads.len (f.new.threads ++ drop (length f.new.threads) i.threads.items))) t u p.running f.result in
    subst L c.self.view_is (subst K (sym back) (subst H (sym c.in-None.is) (found, closed, refl, refl, c.past-self-inside.ensures)))

pub returns-in-Some-clause-same : goal.returns-in-Some-clause-same
returns-in-Some-clause-same g c = post_none c.args.self.now.post
