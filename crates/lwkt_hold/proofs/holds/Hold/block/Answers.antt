use Rattle.std.proofs.Common.{refl, ℕ, List, [], Option, ◌≡◌, ◌⊎◌, ◌+◌, ◌-◌, ◌*◌, ◌<◌, ◌≤◌, ◌∙◌, ap, sym, subst, inl, inr, take, length, get_or, arith}
use Rattle.lwkt_base.specs.Holding.{Holding, removed, holding_of}
use Rattle.lwkt_base.specs.declared.names.Ref.{Ref}
use Rattle.lwkt_bank.specs.Seats.{holding}
use Rattle.lwkt_hold.specs.Fronts.{IsFront}
use Rattle.lwkt_hold.proofs.RunMoves.{ran_none, ran_then, ran_weaker}
use Rattle.lwkt_hold.proofs.TakeMoves.{unused}
use Rattle.lwkt_hold.proofs.ReadMoves.{front_within}
use Rattle.lwkt_hold.proofs.ListMoves.{back_front, back_held, back_removed}
use Rattle.lwkt_hold.proofs.EventMoves.{GivesSoFar, traced_none, traced_more, traced_done, released_before}
use Rattle.lwkt_hold.specs.Givings.{Releases, ReleasesAll}
use Rattle.lwkt_base.specs.declared.holdings.Held.{Held}
use Rattle.lwkt_hold.proofs.BlockMoves.{given_none, given_more, first_none, first_more, token_at, all_given, none_broken}
use Rattle.lwkt_base.specs.declared.names.TokId.{TokId}
use Rattle.lwkt_hold.specs.Rows.{IsFirstSoFar}
use Rattle.lwkt_hold.proofs.holds.Hold.block.Goals as goal

pub loop-given-init : goal.loop-given-init
loop-given-init c =
    let e : c.args.held ≡ c.args.held - 0 = omega arith in
    record {
      ran = ran_none (IsFront (take c.args.held c.refs-refs.result.now)) c.args.self.now.seat c.args.trace.now;
      front = c.requires.held ∙ ap (λ xs. holding_of (take c.args.held xs)) (sym c.refs-refs.ensures.value) ∙ ap (λ n. holding_of (take n c.refs-refs.result.now)) e;
      rows = given_none c.args.self.now.seat;
      traced = let F : ℕ → Type 0 = λ n. GivesSoFar c.args.self.now.seat c.refs-refs.result.now c.args.held n c.args.trace.now.items c.args.trace.now.items in subst F e (traced_none c.args.self.now.seat c.refs-refs.result.now c.args.held c.args.trace.now.items);
      first = first_none c.args.self.now.seat c.refs-refs.result.now;
    }

pub loop-given-preserved : goal.loop-given-preserved
loop-given-preserved c =
    let l = c.loop-given in
    let a = c.args.self.now.seat in
    let refs = c.refs-refs.result.now in
    let held = c.args.held in
    let place = held - 1 - l.given in
    let last = get_or refs place unused in
    let g = c.give_last-restored in
    let same : length refs ≡ length c.args.list.now = ap length c.refs-refs.ensures.value in
    let wide : held ≤ length c.args.list.now = c.requires.within in
    let within : held ≤ length refs = omega arith in
    let more : l.given < held = c.loop-given-test.true in
    let inside : place < length refs = omega arith in
    let next : place ≡ held - (l.given + 1) = omega arith in
    let was = back_front l.self.seat refs held l.given more within l.invariant.front in
    let P : Holding → Type 0 = λ h. (h ≡ holding l.self.seat) ⊎ (h ≡ removed (holding l.self.seat) last.tok.0) in
    let left : removed (holding l.self.seat) last.tok.0 ≡ holding_of (take place refs) = back_removed l.self.seat refs held l.given more within l.invariant.front ∙ ap (λ n. holding_of (take n refs)) (sym next) in
    let given = g.ensures.given ∙ left in
    let front = take held refs in
    let all = ran_then (IsFront front) (6 * l.given) 6 a l.self.seat g.new.seat c.args.trace.now l.trace g.new.trace l.invariant.ran
    (ran_weaker P (IsFront front) 6 6 l.self.seat g.new.seat l.trace g.new.trace (λ h p. elim p [ inl is ↦ front_within refs (held - l.given) held h (omega arith) (is ∙ l.invariant.front) | inr is ↦ front_within refs place held h (omega arith) (is ∙ left) ]) (omega arith) g.ensures.ran) in
    let F : Option TokId → Type 0 = λ o. IsFirstSoFar a refs g.new.seat o in
    record {
      ran = ran_weaker (IsFront front) (IsFront front) (6 * l.given + 6) (6 * (l.given + 1)) a g.new.seat c.args.trace.now g.new.trace (λ h p. p) (omega arith) all;
      front = given ∙ ap (λ n. holding_of (take n refs)) next;
      rows = given_more a l.self.seat g.new.seat (holding_of (take place refs)) last.tok last.mode g.result l.invariant.ran.bank was given l.invariant.rows g.ensures.rows;
      traced =
          let own = g.ensures.events in
          let up : held - l.given ≡ place + 1 = omega arith in
          let back = back_held l.self.seat refs held l.given more within l.invariant.front in
          let T : ℕ → Type 0 = λ n. GivesSoFar a refs held n c.args.trace.now.items l.trace.items in
          let U : ℕ → Type 0 = λ n. GivesSoFar a refs held n c.args.trace.now.items g.new.trace.items in
          let H : Held → Type 0 = λ x. Releases a x last.tok own.0 in
          subst U next (traced_more a refs held place unused c.args.trace.now.items l.trace.items g.new.trace.items own.0 inside (subst T up l.invariant.traced) own.1.0
          (subst H (ap (λ h. h last.tok.0) (l.invariant.front ∙ ap (λ n. holding_of (take n refs)) up)) (released_before a l.self.seat last.tok (holding l.self.seat last.tok.0) own.0 l.invariant.ran.bank l.invariant.ran.cpu (l.invariant.rows.same last.tok.0 back).0 own.1.1)));
      first = subst F (sym c.first_restored-first.ensures) (first_more a l.self.seat g.new.seat (holding_of (take place refs)) last.tok last.mode g.result l.invariant.ran.bank was given l.invariant.rows g.ensures.rows refs place (token_at refs place unused inside) refl l.first l.invariant.first);
    }

pub returns-in-None-clause-blocks : goal.returns-in-None-clause-blocks
returns-in-None-clause-blocks c =
    let l = c.loop-given in
    none_broken c.args.self.now.seat l.self.seat c.refs-refs.result.now l.first (all_given l.self.seat c.refs-refs.result.now c.args.held l.given c.loop-given-test.false l.invariant.front) c.in-None.is l.invariant.first

pub returns-in-None-clause-events : goal.returns-in-None-clause-events
returns-in-None-clause-events c =
    let l = c.loop-given in
    let a = c.args.self.now.seat in
    let none : c.args.held - l.given ≡ 0 = omega (arith, c.loop-given-test.false) in
    let F : ℕ → Type 0 = λ n. GivesSoFar a c.refs-refs.result.now c.args.held n c.args.trace.now.items l.trace.items in
    let traced = traced_done a c.refs-refs.result.now c.args.held c.args.trace.now.items l.trace.items (subst F none l.invariant.traced) in
    let G : List Ref → Type 0 = λ refs. ReleasesAll a [] (take c.args.held refs) traced.0 in
    (traced.0, (traced.1.0, subst G c.refs-refs.ensures.value traced.1.1))

pub returns-in-Some-clause-events : goal.returns-in-Some-clause-events
returns-in-Some-clause-events c =
    let l = c.loop-given in
    let a = c.args.self.now.seat in
    let none : c.args.held - l.given ≡ 0 = omega (arith, c.loop-given-test.false) in
    let F : ℕ → Type 0 = λ n. GivesSoFar a c.refs-refs.result.now c.args.held n c.args.trace.now.items l.trace.items in
    let traced = traced_done a c.refs-refs.result.now c.args.held c.args.trace.now.items l.trace.items (subst F none l.invariant.traced) in
    let G : List Ref → Type 0 = λ refs. ReleasesAll a [] (take c.args.held refs) traced.0 in
    (traced.0, (traced.1.0, subst G c.refs-refs.ensures.value traced.1.1))

pub give_last-restored-requires-clause-held : goal.give_last-restored-requires-clause-held
give_last-restored-requires-clause-held c =
    let l = c.loop-given in
    let refs = c.refs-refs.result.now in
    let same : length refs ≡ length c.args.list.now = ap length c.refs-refs.ensures.value in
    let wide : c.args.held ≤ length c.args.list.now = c.requires.within in
    let within : c.args.held ≤ length refs = omega arith in
    back_held l.self.seat refs c.args.held l.given c.loop-given-test.true within l.invariant.front
