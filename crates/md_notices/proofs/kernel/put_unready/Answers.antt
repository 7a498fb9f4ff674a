use Rattle.std.proofs.Common.{◌∙◌, ◌++◌, codes, List, ℕ, subst}
use Rattle.md_streams.specs.Sink.{Puts}
use Rattle.md_streams.proofs.Puts.{puts_then}
use Rattle.md_notices.proofs.kernel.put_unready.Goals as goal

pub returns : goal.returns
returns g c =
    subst (λ (words : List ℕ). Puts {S = g.row.S.Denot} g.S.Sink.contents g.S.Sink.failed c.args.out.now c.put-2.new.self (codes "mdcli: not ready for a kernel: " ++ words))
    (c.as_bytes.ensures.value ∙ c.words.ensures)
    (puts_then g.S.Sink.contents g.S.Sink.failed c.in_ok-put.ensures c.in_ok-put-2.ensures)
