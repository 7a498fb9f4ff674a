use Rattle.std.proofs.Common.{◌<◌, ◌≤◌, ap, arith}
use Rattle.md_members.specs.declared.info.MemberInfo.{MemberInfo}
use Rattle.md_assembly.proofs.Freshness.{better, freshest_of_all, no_better, none_seen}
use Rattle.md_assembly.proofs.Places.{read_at}
use Rattle.md_assembly.proofs.freshest.first_with_most.Goals as goal
use Rattle.md_assembly.proofs.freshest.first_with_most.Goals.{then-member-members, else-member-members}

pub loop-i-init : goal.loop-i-init
loop-i-init c = record { within = c.requires.some; best = none_seen c.args.members.now c.requires.some }

pub loop-i-preserved : goal.loop-i-preserved
loop-i-preserved c =
    let members = c.args.members.now in
    let best = read_at members c.loop-i.freshest c.index-members-freshest.result c.loop-i.invariant.within c.index-members-freshest.is in
    let there = read_at members c.loop-i.i c.index-members-i.result (omega arith) c.index-members-i.is in
    let same = ap (λ (m : MemberInfo). m.superblock.events) c.index-members-freshest.is in
    elim c.if-member-members.branch [
      | then-member-members w ↦
          let more : c.index-members-freshest.result.superblock.events < c.index-members-i.result.superblock.events = omega arith in
          rw w.freshest-is (record { within = omega arith; best = better members c.loop-i.i c.loop-i.freshest _ _ c.loop-i.invariant.best best there more })
      | else-member-members w ↦
          let no_more : c.index-members-i.result.superblock.events ≤ c.index-members-freshest.result.superblock.events = omega arith in
          rw w.freshest-is (record { within = c.loop-i.invariant.within; best = no_better members c.loop-i.i c.loop-i.freshest _ _ c.loop-i.invariant.best best there no_more })
    ]

pub returns-clause-freshest : goal.returns-clause-freshest
returns-clause-freshest c = freshest_of_all c.args.members.now c.loop-i.i c.loop-i.freshest (omega arith) c.loop-i.invariant.best
