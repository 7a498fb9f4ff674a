-- The places of images in memory as contracts see them.
use Rattle.std.specs.Prelude.{List, map}
use Rattle.std.specs.String.{string_bytes}
use Rattle.md_images.specs.declared.memory_images.Place.{Place}
use Rattle.md_images.specs.MemImages.{Named}

abbrev pub named : {D : Type 0} → Place D → Named D
named place = record { name = string_bytes place.name; device = place.device; changeable = place.changeable; asked = place.asked }

abbrev pub named_places : {D : Type 0} → List (Place D) → List (Named D)
named_places = map named
