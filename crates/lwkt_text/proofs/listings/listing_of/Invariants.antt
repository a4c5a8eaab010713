use Rattle.std.proofs.Common.{◌≡◌, drop}
use Rattle.lwkt_text.specs.Listing.{all_listed, no_listing, HasCpus}
use Rattle.lwkt_text.proofs.listings.listing_of.Given as goal

abbrev pub invariant-loop-sentence : goal.invariant-loop-sentence
invariant-loop-sentence l = (all_listed (drop l.sentence-index l.sentences) l.listing ≡ all_listed l.sentences (record no_listing { faults = l.fn.faults })) × HasCpus l.listing
