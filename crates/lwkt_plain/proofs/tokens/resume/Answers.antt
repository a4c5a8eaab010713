use Rattle.std.proofs.Common.{◌≡◌, ◌<◌, ◌≤◌, ℕ, ◌+◌, List, [], ◌∷◌, ◌++◌, length, get_or, take, drop, ap, sym, ◌∙◌, subst, arith, Option, Some, None}
use Rattle.lwkt_base.specs.declared.names.Mode.TheVariants.{Exclusive}
use Rattle.lwkt_base.specs.declared.names.Ref.{Ref}
use Rattle.lwkt_base.specs.Refs.{is_alone}
use Rattle.lwkt_core.specs.declared.tokens.Token.{Token}
use Rattle.lwkt_core.specs.Takings.{taking_event}
use Rattle.lwkt_plain.specs.Sound.{IsSoundList, AreHeld, KeepsTokens}
use Rattle.lwkt_plain.specs.Tokens.{Gave, Tried, tried, takes, stepped, miss_of}
use Rattle.lwkt_plain.proofs.TokenSteps.{take_keeps, keeps_both}
use Rattle.lwkt_plain.proofs.Takings.{split_at, fits_at, resume_step, resume_stop, resume_end}
use Rattle.lwkt_plain.proofs.tokens.resume.Goals as goal

pub returns-in-Some : goal.returns-in-Some
returns-in-Some c =
    let d : Ref = record { tok = record { 0 = 0 }; mode = Exclusive } in
    let refs = c.args.refs.now in
    let at = c.loop-at.at in
    let now = c.loop-at.tokens in
    let why = c.in-Some.why in
    let missed : miss_of now refs (take at refs) (get_or refs at d) ≡ Some why = sym (c.miss.ensures refs (sym c.are_alone.ensures)) ∙ c.in-Some.is in
    let tokens = ap (λ (g : Gave). tried g.tokens (Some (record { at = at; why = why }))) c.give_all.ensures in
    tokens ∙ sym (resume_stop c.args.cpu refs now at d why (omega arith) missed) ∙ c.loop-at.invariant.goes

pub loop-at-preserved : goal.loop-at-preserved
loop-at-preserved c =
    let d : Ref = record { tok = record { 0 = 0 }; mode = Exclusive } in
    let refs = c.args.refs.now in
    let at = c.loop-at.at in
    let now = c.loop-at.tokens in
    let r = get_or refs at d in
    let inside : at < length refs = omega arith in
    let none : miss_of now refs (take at refs) r ≡ None = sym (c.miss.ensures refs (sym c.are_alone.ensures)) ∙ c.in_default.is in
    let keeps = c.loop-at.invariant.keeps in
    let fits = subst (λ (n : ℕ). IsSoundList n (take at refs ++ r ∷ [])) (sym keeps.same) (fits_at (length c.args.tokens.now) refs at d inside c.requires.fits) in
    let one = take_keeps now c.args.cpu refs (take at refs) r c.requires.here keeps.sound c.loop-at.invariant.held fits none in
    let next = stepped now (taking_event c.args.cpu (take at refs) r) in
    let is : c.take.new.tokens ≡ next = c.take.ensures in
    record {
      goes = ap (λ (ts : List Token). takes c.args.cpu refs ts (take (at + 1) refs) (drop (at + 1) refs)) is ∙ sym (resume_step c.args.cpu refs now at d inside none) ∙ c.loop-at.invariant.goes;
      keeps = subst (λ (ts : List Token). KeepsTokens c.args.cpu.0 c.args.tokens.now ts) (sym is) (keeps_both c.args.cpu.0 c.args.tokens.now now next keeps one.0);
      held = subst (λ (ts : List Token). AreHeld c.args.cpu.0 (take (at + 1) refs) ts) (sym is) (subst (λ (all : List Ref). AreHeld c.args.cpu.0 all next) (sym (split_at refs at d inside).1) one.1);
    }

pub returns : goal.returns
returns c =
    let refs = c.args.refs.now in
    sym (resume_end c.args.cpu refs c.loop-at.tokens c.loop-at.at (omega arith)) ∙ c.loop-at.invariant.goes
