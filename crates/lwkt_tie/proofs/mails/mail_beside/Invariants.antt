use Rattle.lwkt_tie.proofs.mails.mail_beside.Given as goal

abbrev pub ghosts-mail_found_beside : goal.ghosts-mail_found_beside
ghosts-mail_found_beside a = record { specs = a.table.now.key.specs.items; cpus = a.table.now.key.cpus }
