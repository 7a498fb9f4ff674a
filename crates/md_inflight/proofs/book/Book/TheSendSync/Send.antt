use denote.Param.Send.{IsSend}
use Rattle.md_inflight.specs.contracts.book.Book.{the_row}
use Rattle.md_inflight.proofs.Books.{keyless_book}

pub send : IsSend the_row
send = record { owned = λ d vs. ((λ vss. (tt, ((λ uss. (tt, tt)), tt))), keyless_book d.name d.addresses); leaving = λ k f vs. tt }
