-- The index and the listing that the definitions speak of, as they are lent.
use Rattle.rules.specs.declared.Index as declared_index
use Rattle.rules.specs.declared.Listing as declared_listing
use Rattle.rules.specs.Listing.{Listing, listing}
use Rattle.rules.specs.Index.{Index, index}

abbrev pub lent_index : declared_index.Index → Index
lent_index x = index x.head x.tracks.now x.words.now x.directory.now

abbrev pub lent_listing : declared_listing.Listing → Listing
lent_listing c = listing c.n c.k c.tracks.now c.needs.now
