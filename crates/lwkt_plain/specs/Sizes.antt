-- How many bytes kept states take, by how many there are, and how many lists and parts of each kind they have (own).
use Rattle.std.specs.Prelude.{ℕ, ◌+◌, ◌*◌, ◌/◌, length, max, min}
use Rattle.lwkt_script.specs.declared.scripts.Script.{Script}
use Rattle.lwkt_plain.specs.declared.shelves.Shelf.{Shelf}
use Rattle.lwkt_plain.specs.declared.sizes.TheConstants.{LANE, LETTER, PORTS_AND_MAIL, PROCESSOR, THREAD, TOKEN}
use Rattle.lwkt_plain.specs.declared.stores.Store.{Store}

-- a sum and a product, as far as 64 bits go
abbrev pub plus : ℕ → ℕ → ℕ
plus a b = min 18446744073709551615 (a + b)

abbrev pub times : ℕ → ℕ → ℕ
times a b = min 18446744073709551615 (a * b)

-- so many codes of this length: four bytes for each of their numbers, and for three numbers more of an index
abbrev pub coded : ℕ → ℕ → ℕ
coded count length = times count (times (plus length 3) 4)

-- the mail of a processor: its ports, and a lane from each processor
abbrev pub mail_bytes : Script → ℕ
mail_bytes script = plus PORTS_AND_MAIL (times LANE script.cpus)

-- a processor with a thread more than there are on average
abbrev pub processor_bytes : Script → ℕ
processor_bytes script = plus PROCESSOR (times THREAD (length script.threads / max script.cpus 1 + 1))

-- the lists of a kind, and its parts, each with twelve bytes of an index
abbrev pub shelf_bytes : {P : Type 0} → Shelf P → ℕ → ℕ
shelf_bytes s part = plus (coded (length s.codes.index.links.items) (length s.numbers.items)) (times (length s.table.parts.items) (plus part 12))

-- states, each a code of the numbers of its four lists, with these lists and their parts
abbrev pub bytes_of : Script → Store → ℕ
bytes_of script s =
    plus (plus (plus (plus (coded (length s.codes.index.links.items) 4) (shelf_bytes s.tokens TOKEN)) (shelf_bytes s.letters LETTER)) (shelf_bytes s.mails (mail_bytes script))) (shelf_bytes s.cpus (processor_bytes script))
