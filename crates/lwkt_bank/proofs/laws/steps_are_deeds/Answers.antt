use Rattle.lwkt_bank.proofs.DeedMoves.{look_deeds, take_deeds, share_deeds, again_deeds, mark_deeds, give_one_deeds, give_clean_deeds, give_written_deeds, read_deeds, store_deeds, raise_deeds, read_blob_deeds, write_blob_deeds}
use Rattle.lwkt_bank.proofs.LedgerMoves.{Ledger-split, Ledger-join}
use Rattle.lwkt_bank.proofs.laws.steps_are_deeds.Goals as goal

pub returns-clause-look : goal.returns-clause-look
returns-clause-look c = λ plans cpus id v tok kind there. look_deeds plans cpus id v kind tok there

pub returns-clause-take : goal.returns-clause-take
returns-clause-take c = λ plans cpus id v tok kind there old new alone few decides. take_deeds plans cpus id v kind tok there old new alone few decides

pub returns-clause-share : goal.returns-clause-share
returns-clause-share c = λ plans cpus id v tok kind there old new alone few decides free. share_deeds plans cpus id v kind tok there old new alone few decides free

pub returns-clause-again : goal.returns-clause-again
returns-clause-again c = λ plans cpus id v tok kind there held few. again_deeds plans cpus id v kind tok there held few

pub returns-clause-mark : goal.returns-clause-mark
returns-clause-mark c = λ plans cpus id v tok kind there. mark_deeds plans cpus id v kind tok there

pub returns-clause-give_one : goal.returns-clause-give_one
returns-clause-give_one c = λ plans cpus id v tok kind there may held. give_one_deeds plans cpus id v kind tok there may held

pub returns-clause-give_clean : goal.returns-clause-give_clean
returns-clause-give_clean c = λ plans cpus id v tok kind there last clean. give_clean_deeds plans cpus id v kind tok there last clean

pub returns-clause-give_written : goal.returns-clause-give_written
returns-clause-give_written c = λ plans cpus id v tok kind there last written lawful. give_written_deeds plans cpus id v kind tok there last written lawful

pub returns-clause-read : goal.returns-clause-read
returns-clause-read c = λ plans cpus id v tok kind there held cell inside. read_deeds plans cpus id v kind tok there held cell inside

pub returns-clause-store : goal.returns-clause-store
returns-clause-store c = λ plans cpus id v tok kind there held untallied cell value inside. store_deeds plans cpus id v kind tok there held untallied cell value inside

pub returns-clause-raise : goal.returns-clause-raise
returns-clause-raise c = λ plans cpus id v tok kind there held tally k. raise_deeds plans cpus id v kind tok there held tally k

pub returns-clause-split : goal.returns-clause-split
returns-clause-split c = Ledger-split

pub returns-clause-join : goal.returns-clause-join
returns-clause-join c = Ledger-join

pub returns-clause-read_blob : goal.returns-clause-read_blob
returns-clause-read_blob c = λ plans cpus id v tok kind there bytes held is. read_blob_deeds plans cpus id v kind tok there bytes held is

pub returns-clause-write_blob : goal.returns-clause-write_blob
returns-clause-write_blob c = λ plans cpus id v tok kind there bytes held short. write_blob_deeds plans cpus id v kind tok there bytes held short
