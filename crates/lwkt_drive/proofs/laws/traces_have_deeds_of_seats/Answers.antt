use Rattle.lwkt_cpu.specs.Turning.{IsMailed, IsOfThread}
use Rattle.lwkt_drive.proofs.TracedMoves.{traced_new, traced_ran, traced_kept, traced_made}
use Rattle.lwkt_drive.proofs.laws.traces_have_deeds_of_seats.Goals as goal

pub returns-clause-new : goal.returns-clause-new
returns-clause-new g c = traced_new

pub returns-clause-turns : goal.returns-clause-turns
returns-clause-turns g c = λ bank old new t u turned k traced. traced_kept (IsOfThread old.threads new.threads) 4096 old.seat new.seat k.room k.part k.none k.does.ran t u k.grown traced

pub returns-clause-stops : goal.returns-clause-stops
returns-clause-stops g c = λ old new t u k traced. traced_kept (IsMailed old.threads) 258 old.seat new.seat k.room k.part k.none k.does.ran t u k.grown traced

pub returns-clause-vector_turns : goal.returns-clause-vector_turns
returns-clause-vector_turns g c = λ bank old new t u turned made traced. traced_ran (IsOfThread old.threads new.threads) 4096 old.seat new.seat t u made.ran traced

pub returns-clause-vector_stops : goal.returns-clause-vector_stops
returns-clause-vector_stops g c = λ threads most a b t u ran traced. traced_ran (IsMailed threads) most a b t u ran traced

pub returns-clause-drives : goal.returns-clause-drives
returns-clause-drives g c = λ gate bank limits old new ending d traced.
    traced_made {B = g.row.B.Denot} g.B.Body.polled bank old.cpu new.cpu old.trace.items new.trace.items d.turns d.made traced
