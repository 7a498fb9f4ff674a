-- A list of addresses that only grows: who may add to it, and who knows how it begins.
use Rattle.std.specs.Prelude.{ℕ, List}
use base.Fraction.{full_share}
use base.Fml.{Fml, fsep}
use base.Growing.{Order, prefixes, latest, at_least}
use denote.RawPtr.{Ptr, coded_ptr}

-- one list comes later than another where it begins with it
abbrev pub longer : Order (List Ptr)
longer = prefixes coded_ptr

-- the list of this name begins with these
unfoldable pub page_owns : ℕ → List Ptr → Fml
page_owns name addresses = at_least longer name addresses

-- The addresses of a list are exactly these, and whoever owns this may add to them.
unfoldable pub book_owns : ℕ → List Ptr → Fml
book_owns name addresses = fsep (page_owns name addresses) (latest longer full_share name addresses)
