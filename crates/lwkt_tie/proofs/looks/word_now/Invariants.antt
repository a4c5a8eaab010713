use Rattle.lwkt_tie.proofs.looks.word_now.Given as goal

abbrev pub ghosts-word_found : goal.ghosts-word_found
ghosts-word_found a = record { cpus = a.table.now.key.cpus }
