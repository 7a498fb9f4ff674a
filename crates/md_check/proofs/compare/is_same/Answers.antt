use Rattle.std.proofs.Common.{◌≡◌, ◌+◌, ◌-◌, take, drop, arith}
use Rattle.std.proofs.lemmas.Slice.Eq.{bytes_eq-Decides}
use Rattle.md_device.specs.Splice.{part}
use Rattle.md_check.specs.Readers.{shown_of}
use Rattle.md_check.proofs.compare.is_same.Goals as goal

pub returns : goal.returns
unfolding part
returns g c =
    let n : c.args.at + 512 - c.args.at ≡ 512 = omega arith in
    rw (c.eq.ensures, n, c.shown_bytes.ensures, c.shown_bytes-2.ensures)
    (bytes_eq-Decides (take 512 (drop c.args.at (shown_of c.args.lead.now c.args.one.now))) (take 512 (drop c.args.at (shown_of c.args.lead.now c.args.other.now))))
