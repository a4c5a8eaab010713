-- What a text is: a script, its names and what is said of its outcomes, or all that is wrong with it (own).
use Rattle.std.specs.Prelude.{◌≡◌, ℕ, ◌==◌, List, [], length, if◌then◌else◌, Result, Ok, Err}
use Rattle.std.specs.List.{filter_map}
use Rattle.lwkt_script.specs.declared.scripts.Script.{Script}
use Rattle.lwkt_text.specs.declared.drafts.Draft.{Draft}
use Rattle.lwkt_text.specs.declared.expansions.Spread.{Spread}
use Rattle.lwkt_text.specs.declared.listings.Listing.{Listing}
use Rattle.lwkt_text.specs.declared.readers.Reading.{Reading}
use Rattle.lwkt_text.specs.declared.tables.Names.{Names}
use Rattle.lwkt_text.specs.declared.words.Sentence.{Sentence}
use Rattle.lwkt_text.specs.declared.wrongs.Wrong.{Wrong}
use Rattle.lwkt_text.specs.Absence.{absence}
use Rattle.lwkt_text.specs.Drafting.{no_draft, closed, all_added}
use Rattle.lwkt_text.specs.Expanding.{spread_of}
use Rattle.lwkt_text.specs.Listing.{no_listing, all_listed}
use Rattle.lwkt_text.specs.Scanning.{sentences_of}

-- all that was said
abbrev pub drafted : Names → Draft → Reading
drafted names d = record { script = record { turns = d.turns; idle = d.idle; cpus = names.cpus; tokens = d.tokens; messages = d.messages; threads = d.threads }; names = names; expectations = d.expectations }

-- claims are wrong that name what isn't there
abbrev pub claims_checked : Reading → Result Reading (List Wrong)
claims_checked r = let wrongs = filter_map (absence r.script) r.expectations in if length wrongs == 0 then Ok r else Err wrongs

-- what was said, if nothing of it is wrong; only where nothing else is wrong, it is known what there is
abbrev pub sealed : Names → Draft → Result Reading (List Wrong)
sealed names d = if length d.faults == 0 then claims_checked (drafted names d) else Err d.faults

-- names first, so that they stand for parts that are said later, and then what the sentences say
abbrev pub reading_with : List Sentence → Listing → Result Reading (List Wrong)
reading_with sentences l = sealed l.names (closed (all_added l.names sentences (no_draft l.faults)))

-- constants and sentences that stand for others first
abbrev pub reading_spread : Spread → Result Reading (List Wrong)
reading_spread s = reading_with s.sentences (all_listed s.sentences (record no_listing { faults = s.faults }))

abbrev pub reading_of_sentences : List Sentence → Result Reading (List Wrong)
reading_of_sentences sentences = reading_spread (spread_of sentences)

-- what the bytes are
unfoldable pub reading_of : List ℕ → Result Reading (List Wrong)
reading_of bytes = reading_of_sentences (sentences_of bytes)

-- a text that is a script, and expects nothing
abbrev pub HasScript : Script → Result Reading (List Wrong) → Type 0
HasScript s (Ok reading) = (reading.script ≡ s) × (reading.expectations ≡ [])
HasScript s (Err wrongs) = ⊥

abbrev pub IsTextOf : Script → List ℕ → Type 0
IsTextOf s bytes = HasScript s (reading_of bytes)
