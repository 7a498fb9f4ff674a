use Rattle.std.proofs.Common.{◌≡◌, ◌*◌, ◌/◌, length, arith, rules, inl, inr}
use Rattle.md_laws.proofs.Runs.Rests.{rests_same}
use Rattle.md_read.proofs.InRoles.{failed_alone, failed_of}
use Rattle.md_read.proofs.RunsRead.{held_earlier}
use Rattle.md_read.proofs.sources.read_source.Goals as goal

pub returns-then-sectors-eq1 : goal.returns-then-sectors-eq1
returns-then-sectors-eq1 g c =
    let fails = c.in-Err.ensures.gives in
    let one : length c.args.buf.now / 512 ≡ 1 = search rules in
    let all : length c.args.buf.now ≡ 512 * 1 = let whole = c.requires.whole in omega (arith, one, whole) in (
      fails.rests,
      one,
      c.in-Member.ensures,
      failed_of c.in-Member.k c.args.sector (length c.args.buf.now) 1 c.args.mirror.now c.read_data.new.self fails all,
      failed_alone c.in-Member.k c.args.sector (length c.args.buf.now) 1 c.args.mirror.now c.read_data.new.self fails all,
    )

-- several were asked for at once
pub returns-else-sectors-eq1 : goal.returns-else-sectors-eq1
returns-else-sectors-eq1 g c =
    let fails = c.in-Err.ensures.gives in
    let old = c.args.mirror.now in
    let some = c.requires.some in
    let other = c.if-sectors-eq1.false in (
      fails.rests,
      omega arith,
      inr (c.in-Member.k, c.in-Member.ensures, failed_alone c.in-Member.k c.args.sector (length c.args.buf.now) (length c.args.buf.now / 512) old c.read_data.new.self fails (let whole = c.requires.whole in omega (arith, whole))),
    )

pub returns-in-Several : goal.returns-in-Several
returns-in-Several g c = (rests_same c.args.mirror.now, c.in-Several.ensures.0, inl c.in-Several.ensures.1)

pub returns-in-Ok : goal.returns-in-Ok
returns-in-Ok g c =
    let reads = c.in-Ok.ensures.gives in
    (reads.rests, (c.in-Member.k, c.in-Member.ensures, held_earlier c.args.mirror.now c.read_data.new.self reads.rests c.in-Member.k c.args.sector c.read_data.new.buf reads.holds))
