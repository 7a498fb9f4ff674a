use Rattle.std.proofs.Common.{◌≡◌, ◌+◌, ◌-◌, ℕ, take, drop, arith, ap}
use Rattle.md_format.specs.Fields.{bytes_at}
use Rattle.md_format.proofs.fields_at.array_at.Goals as goal

pub returns : goal.returns
unfolding bytes_at
returns g c =
    let e : c.args.at + g.row.N - c.args.at ≡ g.row.N = omega arith in
    rw c.copy_from_slice.ensures.after (ap (λ (n : ℕ). take n (drop c.args.at c.args.bytes.now)) e)
