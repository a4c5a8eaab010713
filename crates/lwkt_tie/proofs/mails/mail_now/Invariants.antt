use Rattle.lwkt_tie.proofs.mails.mail_now.Given as goal

abbrev pub ghosts-mail_found : goal.ghosts-mail_found
ghosts-mail_found a = record { specs = a.table.now.key.specs.items; cpus = a.table.now.key.cpus }
