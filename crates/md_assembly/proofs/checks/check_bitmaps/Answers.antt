use Rattle.std.proofs.Common.{◌<◌, length, below_more, arith}
use Rattle.md_assembly.specs.Faults.{LacksBitmap}
use Rattle.md_assembly.specs.Listed.{MemberAt}
use Rattle.md_assembly.proofs.Order.{bitmaps_pass}
use Rattle.md_assembly.proofs.Places.{at_within, least_by, none_by, not_at, read_at, some_by}
use Rattle.md_assembly.proofs.checks.check_bitmaps.Goals as goal

pub returns-then-is_none : goal.returns-then-is_none
returns-then-is_none c =
    let members = c.args.members.now in
    let there = read_at members c.loop-i.i c.index-members-i.result (omega arith) c.index-members-i.is in
    let lacks : LacksBitmap c.index-members-i.result = none_by _ c.if-is_none.ensures in
    record {
      stands = least_by (MemberAt LacksBitmap members) c.loop-i.i (record { member = _; listed = there; holds = lacks }) c.loop-i.invariant;
      first = c.requires;
    }

pub loop-i-preserved : goal.loop-i-preserved
loop-i-preserved c =
    let members = c.args.members.now in
    let there = read_at members c.loop-i.i c.index-members-i.result (omega arith) c.index-members-i.is in
    below_more _ _ c.loop-i.invariant (not_at LacksBitmap members c.loop-i.i _ there (λ lacks. some_by _ c.if-is_none.ensures lacks))

pub returns : goal.returns
returns c =
    let members = c.args.members.now in
    bitmaps_pass members c.requires (λ i p. let within : i < length members = at_within LacksBitmap members i p in c.loop-i.invariant i (omega arith) p)
