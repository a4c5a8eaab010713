use Rattle.lwkt_drive.proofs.TracedMoves.{mail_new, mail_stays, mail_kept, mail_made}
use Rattle.lwkt_drive.proofs.laws.traces_have_deeds_of_desks.Goals as goal

pub returns-clause-new : goal.returns-clause-new
returns-clause-new g c = mail_new

pub returns-clause-turns : goal.returns-clause-turns
returns-clause-turns g c = λ bank old new t u turned k traced. mail_kept old.post.seat new.post.seat k.room k.part k.none k.does.traced t u k.grown traced

pub returns-clause-stops : goal.returns-clause-stops
returns-clause-stops g c = λ old new t u k traced. mail_kept old.post.seat new.post.seat k.room k.part k.none k.does.traced t u k.grown traced

pub returns-clause-stays : goal.returns-clause-stays
returns-clause-stays g c = mail_stays

pub returns-clause-drives : goal.returns-clause-drives
returns-clause-drives g c = λ gate bank limits old new ending d traced.
    mail_made {B = g.row.B.Denot} g.B.Body.polled bank old.cpu new.cpu old.trace.items new.trace.items d.turns d.made traced
