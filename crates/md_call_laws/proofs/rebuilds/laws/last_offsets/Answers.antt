use Rattle.md_call_laws.proofs.RebuildLemmas.LastOffsets.{offset_stands, offset_stands_within, openings_find, crashes_copying_find, crashes_listing_find, crashes_storing_find, crashes_unlisted_find}
use Rattle.md_call_laws.proofs.rebuilds.laws.last_offsets.Goals as goal

pub returns : goal.returns
returns c = record { stands = offset_stands; within = offset_stands_within; copying = crashes_copying_find; storing = crashes_storing_find; listing = crashes_listing_find; unlisted = crashes_unlisted_find; opened = openings_find }
