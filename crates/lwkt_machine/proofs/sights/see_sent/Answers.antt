use Rattle.std.proofs.Common.{◌≡◌, ◌∷◌, ◌++◌, List, get_or, set, refl, ap, sym, ◌∙◌, subst}
use Rattle.std.specs.List.{AllZip}
use Rattle.lwkt_cpu.proofs.SightMoves.{looked_then, sees_own_looked}
use Rattle.lwkt_drive.specs.declared.driven.Driven.{Driven}
use Rattle.lwkt_machine.specs.Machines.{processors}
use Rattle.lwkt_machine.specs.Sights.{KeepsLog}
use Rattle.lwkt_machine.proofs.DrivenMoves.{logs_around, long_processors, processors_around}
use Rattle.lwkt_machine.proofs.SightMoves.{own_joined, lower_joined, upper_joined, each_looked, all_seen, one_is, one_set}
use Rattle.lwkt_machine.proofs.sights.see_sent.Goals as goal

pub see_own-requires : goal.see_own-requires
see_own-requires g c =
    let Body = g.row.B.Denot in
    let cut = c.split_at_mut-lower in
    let lower : List (Driven Body) = cut.result.0.now in
    let one : List (Driven Body) = c.split_at_mut-one.result.0.now in
    let upper : List (Driven Body) = c.split_at_mut-one.result.1.now in
    let d = c.index-one-0.result in
    let p : Driven Body = get_or one 0 d in
    let whole : c.args.cpus.now ≡ lower ++ p ∷ upper = cut.ensures.value ∙ ap (λ xs. lower ++ xs) (c.split_at_mut-one.ensures.value ∙ ap (λ xs. xs ++ upper) (one_is one d c.split_at_mut-one.ensures.front_len)) in
    let is : processors c.args.cpus.now ≡ processors lower ++ p.cpu ∷ processors upper = ap (λ (xs : List (Driven Body)). processors xs) whole ∙ processors_around lower upper p in
    own_joined (processors lower) (processors upper) (processors c.args.cpus.now) p.cpu is c.requires.joined

pub see_each-requires : goal.see_each-requires
see_each-requires g c =
    let Body = g.row.B.Denot in
    let cut = c.split_at_mut-lower in
    let lower : List (Driven Body) = cut.result.0.now in
    let one : List (Driven Body) = c.split_at_mut-one.result.0.now in
    let upper : List (Driven Body) = c.split_at_mut-one.result.1.now in
    let d = c.index-one-0.result in
    let p : Driven Body = get_or one 0 d in
    let whole : c.args.cpus.now ≡ lower ++ p ∷ upper = cut.ensures.value ∙ ap (λ xs. lower ++ xs) (c.split_at_mut-one.ensures.value ∙ ap (λ xs. xs ++ upper) (one_is one d c.split_at_mut-one.ensures.front_len)) in
    let is : processors c.args.cpus.now ≡ processors lower ++ p.cpu ∷ processors upper = ap (λ (xs : List (Driven Body)). processors xs) whole ∙ processors_around lower upper p in
    lower_joined (processors lower) (processors upper) (processors c.args.cpus.now) p.cpu c.see_own.new.self is c.requires.joined (sees_own_looked p.cpu c.see_own.new.self c.see_own.ensures.sees)

pub see_each-requires-2 : goal.see_each-requires-2
see_each-requires-2 g c =
    let Body = g.row.B.Denot in
    let cut = c.split_at_mut-lower in
    let lower : List (Driven Body) = cut.result.0.now in
    let one : List (Driven Body) = c.split_at_mut-one.result.0.now in
    let upper : List (Driven Body) = c.split_at_mut-one.result.1.now in
    let d = c.index-one-0.result in
    let p : Driven Body = get_or one 0 d in
    let whole : c.args.cpus.now ≡ lower ++ p ∷ upper = cut.ensures.value ∙ ap (λ xs. lower ++ xs) (c.split_at_mut-one.ensures.value ∙ ap (λ xs. xs ++ upper) (one_is one d c.split_at_mut-one.ensures.front_len)) in
    let is : processors c.args.cpus.now ≡ processors lower ++ p.cpu ∷ processors upper = ap (λ (xs : List (Driven Body)). processors xs) whole ∙ processors_around lower upper p in
    let own = c.see_own.new.self in
    let q = c.see_each.new.cpu in
    upper_joined (processors lower) (processors upper) (processors c.args.cpus.now) p.cpu q is c.requires.joined (looked_then p.cpu own q (sees_own_looked p.cpu own c.see_own.ensures.sees) (each_looked own q (processors lower) (processors c.see_each.new.others) c.see_each.ensures.sees).0)

pub returns-clause-sees : goal.returns-clause-sees
returns-clause-sees g c =
    let Body = g.row.B.Denot in
    let cut = c.split_at_mut-lower in
    let lower : List (Driven Body) = cut.result.0.now in
    let one : List (Driven Body) = c.split_at_mut-one.result.0.now in
    let upper : List (Driven Body) = c.split_at_mut-one.result.1.now in
    let d = c.index-one-0.result in
    let p : Driven Body = get_or one 0 d in
    let whole : c.args.cpus.now ≡ lower ++ p ∷ upper = cut.ensures.value ∙ ap (λ xs. lower ++ xs) (c.split_at_mut-one.ensures.value ∙ ap (λ xs. xs ++ upper) (one_is one d c.split_at_mut-one.ensures.front_len)) in
    let is : processors c.args.cpus.now ≡ processors lower ++ p.cpu ∷ processors upper = ap (λ (xs : List (Driven Body)). processors xs) whole ∙ processors_around lower upper p in
    let r = c.see_each-2.new.cpu in
    let e : Driven Body = record p { cpu = r } in
    let lowers : List (Driven Body) = c.see_each.new.others in
    let uppers : List (Driven Body) = c.see_each-2.new.others in
    let news : List (Driven Body) = lowers ++ (set one 0 e ++ uppers) in
    all_seen c.args.cpu (processors c.args.cpus.now) (processors news) c.requires.numbered (record {
      lower = processors lower;
      upper = processors upper;
      lower' = processors lowers;
      upper' = processors uppers;
      before = p.cpu;
      one = c.see_own.new.self;
      two = c.see_each.new.cpu;
      after = r;
      number = long_processors lower ∙ cut.ensures.front_len;
      were = is;
      are = ap (λ (xs : List (Driven Body)). processors (lowers ++ (xs ++ uppers))) (one_set one e c.split_at_mut-one.ensures.front_len) ∙ processors_around lowers uppers e;
      own = c.see_own.ensures.sees;
      from_lower = c.see_each.ensures.sees;
      from_upper = c.see_each-2.ensures.sees;
    })

pub returns-clause-logs : goal.returns-clause-logs
returns-clause-logs g c =
    let Body = g.row.B.Denot in
    let cut = c.split_at_mut-lower in
    let lower : List (Driven Body) = cut.result.0.now in
    let one : List (Driven Body) = c.split_at_mut-one.result.0.now in
    let upper : List (Driven Body) = c.split_at_mut-one.result.1.now in
    let d = c.index-one-0.result in
    let p : Driven Body = get_or one 0 d in
    let whole : c.args.cpus.now ≡ lower ++ p ∷ upper = cut.ensures.value ∙ ap (λ xs. lower ++ xs) (c.split_at_mut-one.ensures.value ∙ ap (λ xs. xs ++ upper) (one_is one d c.split_at_mut-one.ensures.front_len)) in
    let unused : processors c.args.cpus.now ≡ processors lower ++ p.cpu ∷ processors upper = ap (λ (xs : List (Driven Body)). processors xs) whole ∙ processors_around lower upper p in
    let r = c.see_each-2.new.cpu in
    let e : Driven Body = record p { cpu = r } in
    let lowers : List (Driven Body) = c.see_each.new.others in
    let uppers : List (Driven Body) = c.see_each-2.new.others in
    let news : lowers ++ (set one 0 e ++ uppers) ≡ lowers ++ e ∷ uppers = ap (λ (xs : List (Driven Body)). lowers ++ (xs ++ uppers)) (one_set one e c.split_at_mut-one.ensures.front_len) in
    let F : List (Driven Body) × List (Driven Body) → Type 0 = λ x. AllZip KeepsLog x.0 x.1 in
    subst F (λ i. (sym whole i, sym news i)) (logs_around lower lowers upper uppers p e c.see_each.ensures.logs refl c.see_each-2.ensures.logs)
