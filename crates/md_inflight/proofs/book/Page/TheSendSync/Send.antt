use denote.Param.Send.{IsSend}
use Rattle.md_inflight.specs.contracts.book.Page.{the_row}
use Rattle.md_inflight.proofs.Books.{keyless_page}

pub send : IsSend the_row
send = record { owned = λ d vs. ((λ vss. (tt, ((λ uss. (tt, tt)), tt))), keyless_page d.name d.addresses); leaving = λ k f vs. tt }
