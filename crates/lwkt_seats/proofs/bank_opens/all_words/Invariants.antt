use Rattle.std.proofs.Common.{◌≡◌, take}
use Rattle.lwkt_seats.specs.FirstPlaces.{words_of_places}
use Rattle.lwkt_seats.proofs.bank_opens.all_words.Given as goal

abbrev pub invariant-loop-slot : goal.invariant-loop-slot
invariant-loop-slot l = l.words.items ≡ words_of_places (take l.slot-index l.slots)
