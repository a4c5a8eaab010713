use Rattle.lwkt_tie.proofs.looks.word_beside.Given as goal

abbrev pub ghosts-word_found_beside : goal.ghosts-word_found_beside
ghosts-word_found_beside a = record { cpus = a.table.now.key.cpus }
