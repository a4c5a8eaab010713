use Rattle.std.proofs.Common.{◌≡◌, List, ◌∷◌, ◌++◌, [], refl, ap, sym, subst}
use Rattle.std.specs.Prelude.{filter}
use Rattle.std.specs.List.{AllZip}
use Rattle.lwkt_base.specs.declared.names.CpuId.{CpuId}
use Rattle.lwkt_base.specs.declared.holdings.Held.{Held}
use Rattle.lwkt_base.specs.Holding.{one_less, removed}
use Rattle.lwkt_core.specs.declared.events.Event.TheVariants.{GiveOne, GiveClean, GiveWritten}
use Rattle.lwkt_bank.specs.Views.{less, ended}
use Rattle.lwkt_bank.specs.Deeds.{gives_one, gives_clean, gives_written}
use Rattle.lwkt_table.specs.declared.seats.WordStep.{WordStep}
use Rattle.lwkt_bank.specs.Seats.{bank_of, plan_of, entry, holding, last_loads}
use Rattle.lwkt_hold.specs.Steps.{is_counted, is_on_word, ShowsEvent}
use Rattle.lwkt_hold.proofs.GiveMoves.{traced_behind, steps_behind, last_untraced}
use Rattle.lwkt_hold.proofs.RunMoves.{traced_one, ran_step, holding_changed}
use Rattle.lwkt_hold.proofs.gives.give_traced.Goals as goal

pub returns-in-One-clause-ran : goal.returns-in-One-clause-ran
returns-in-One-clause-ran c =
    let s = c.args.seat.now in
    let tok = c.args.tok in
    let g = c.in-One.ensures.1 in
    let given = holding_changed s c.give.new.self tok.0 (less (entry s tok.0)) _ (λ (x : Held). one_less x) g.changes refl in
    ran_step (λ h. h ≡ removed (holding s) tok.0) s c.give.new.self tok.0 (less (entry s tok.0)) (gives_one s.cpu tok.0 g.found ∷ []) (GiveOne c.args.cpu tok) c.args.trace.now c.note_one.new.trace g.changes c.note_one.ensures.items c.note_one.ensures.longer c.note_one.ensures.room
    (ap (λ (x : CpuId). x.0) c.requires.mine) (traced_one (GiveOne s.cpu tok) (GiveOne c.args.cpu tok) refl (ap (λ (x : CpuId). GiveOne x tok) c.requires.mine)) ((refl, refl), tt) given given

pub returns-in-Clean-clause-ran : goal.returns-in-Clean-clause-ran
returns-in-Clean-clause-ran c =
    let s = c.args.seat.now in
    let tok = c.args.tok in
    let g = c.in-Clean.ensures.2 in
    let given = holding_changed s c.give.new.self tok.0 (less (entry s tok.0)) _ (λ (x : Held). one_less x) g.changes refl in
    ran_step (λ h. h ≡ removed (holding s) tok.0) s c.give.new.self tok.0 (less (entry s tok.0)) (gives_clean s.cpu tok.0 g.found ∷ []) (GiveClean c.args.cpu tok) c.args.trace.now c.note_clean.new.trace g.changes c.note_clean.ensures.items c.note_clean.ensures.longer c.note_clean.ensures.room
    (ap (λ (x : CpuId). x.0) c.requires.mine) (traced_one (GiveClean s.cpu tok) (GiveClean c.args.cpu tok) refl (ap (λ (x : CpuId). GiveClean x tok) c.requires.mine)) ((refl, refl), tt) given given

pub returns-in-Written-clause-ran : goal.returns-in-Written-clause-ran
returns-in-Written-clause-ran c =
    let s = c.args.seat.now in
    let tok = c.args.tok in
    let g = c.in-Written.ensures.2 in
    let given = holding_changed s c.give.new.self tok.0 (ended (entry s tok.0)) _ (λ (x : Held). one_less x) g.changes (ap one_less (sym c.in-Written.ensures.0)) in
    let cells = (plan_of (bank_of s) tok.0).cells in
    let loads = last_loads s.cpu tok.0 (entry s tok.0) cells in
    let untraced = last_untraced s tok.0 cells in
    let section = c.in-Written.section in
    let step = gives_written section s.cpu tok.0 g.found ∷ [] in
    let event = GiveWritten c.args.cpu tok section in
    let traced = traced_one (GiveWritten s.cpu tok section) event refl (ap (λ (x : CpuId). GiveWritten x tok section) c.requires.mine) in
    let F : List WordStep → Type 0 = λ xs. AllZip ShowsEvent (filter is_counted xs) (filter is_on_word (event ∷ [])) in
    ran_step (λ h. h ≡ removed (holding s) tok.0) s c.give.new.self tok.0 (ended (entry s tok.0)) (loads ++ step) event c.args.trace.now c.note_written.new.trace g.changes c.note_written.ensures.items c.note_written.ensures.longer c.note_written.ensures.room
    (ap (λ (x : CpuId). x.0) c.requires.mine) (traced_behind loads step (event ∷ []) untraced traced) (subst F (sym (steps_behind loads step untraced)) ((refl, refl), tt)) given given

pub returns-in-One-clause-given : goal.returns-in-One-clause-given
returns-in-One-clause-given c =
    let s = c.args.seat.now in
    let t = c.args.tok.0 in
    holding_changed s c.give.new.self t (less (entry s t)) _ (λ (x : Held). one_less x) c.in-One.ensures.1.changes refl

pub returns-in-Clean-clause-given : goal.returns-in-Clean-clause-given
returns-in-Clean-clause-given c =
    let s = c.args.seat.now in
    let t = c.args.tok.0 in
    holding_changed s c.give.new.self t (less (entry s t)) _ (λ (x : Held). one_less x) c.in-Clean.ensures.2.changes refl

pub returns-in-Written-clause-given : goal.returns-in-Written-clause-given
returns-in-Written-clause-given c =
    let s = c.args.seat.now in
    let t = c.args.tok.0 in
    holding_changed s c.give.new.self t (ended (entry s t)) _ (λ (x : Held). one_less x) c.in-Written.ensures.2.changes (ap one_less (sym c.in-Written.ensures.0))
