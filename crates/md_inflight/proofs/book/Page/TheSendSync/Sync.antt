use denote.Param.Send.{IsSync, sendable}
use Rattle.md_inflight.specs.contracts.book.Page.{the_row}
use Rattle.md_inflight.proofs.Books.{PgFields, keyless_page}

pub sync : IsSync the_row
sync = let fields : IsSync PgFields = search sendable depth 20 in record { shared = λ d b o κ. (fields.shared (tt, tt) b o κ, keyless_page d.name d.addresses) }
