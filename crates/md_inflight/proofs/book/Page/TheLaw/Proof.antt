-- A `&` to a page shows what the page knows. Assumes `Logic`.
use denote.Builtin.{unit}
use denote.Param.Shared.{copy_shared}
use denote.Struct.Laws.{field_copy}
use denote.Struct.Lending.{of_Lends}
use Rattle.std.specs.contracts.marker.PhantomData as marker
use Rattle.md_inflight.specs.contracts.book.Page as type
use Rattle.md_inflight.proofs.Books.{shares_page, lends_page}
use Rattle.md_inflight.proofs.book.Page.TheLaw.Statement.{statement}

pub shares : statement
shares = of_Lends type.struct (type.the_codes (marker.the_row unit).coded) type.the_heap type.the_lent (λ d p. shares_page d.name d.addresses)
    (copy_shared (marker.the_field unit) (field_copy (marker.the_type unit) tt), tt) (λ M 𝓤 𝓛 d p. lends_page 𝓛 d.name d.addresses type.the_row.lives)
