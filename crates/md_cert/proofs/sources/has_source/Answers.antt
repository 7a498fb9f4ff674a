use Rattle.std.proofs.Common.{◌∙◌, ap, sym, eqb, ◌&&◌, Bool}
use Rattle.std.specs.Int.{bit_at}
use Rattle.std.proofs.lemmas.Bool.{lt-ltb, le-ltb}
use Rattle.std.proofs.lemmas.Nat.Bits.{shr_and_one}
use Rattle.md_cert.specs.Sources.{has}
use Rattle.md_cert.proofs.sources.has_source.Goals as goal

pub returns-then-source-lt32 : goal.returns-then-source-lt32
unfolding has
returns-then-source-lt32 c =
    ap (λ n. eqb n 1) (shr_and_one c.args.mask c.args.source)
    ∙ sym (ap (λ (b : Bool). b && eqb (bit_at c.args.mask c.args.source) 1) (lt-ltb c.args.source 32 c.if-source-lt32.true))

pub returns-else-source-lt32 : goal.returns-else-source-lt32
unfolding has
returns-else-source-lt32 c =
    let out = le-ltb c.args.source 32 c.if-source-lt32.false in
    out ∙ sym (ap (λ (b : Bool). b && eqb (bit_at c.args.mask c.args.source) 1) out)
