use Rattle.std.proofs.Common.{◌≡◌, ◌<◌, ◌≤◌, length, ap, refl, arith}
use Rattle.std.proofs.lemmas.List.{length-map}
use Rattle.std.proofs.lemmas.Option.{slice_get_read}
use Rattle.md_kept_members.specs.Spares.{superblocks_kept}
use Rattle.md_kept_members.specs.View.{MemberView}
use Rattle.md_kept_members.proofs.Members.Freshest.{better, block_of, freshest_of_all, no_better, none_seen}
use Rattle.md_assembly.proofs.Indices.{got_within}
use Rattle.md_kept_members.proofs.freshest.freshest_of.Goals as goal
use Rattle.md_kept_members.proofs.freshest.freshest_of.Goals.{then-member-best, else-member-best}

pub loop-i-init : goal.loop-i-init
loop-i-init c =
    let members = c.args.members.now in
    let there = got_within members 0 c.requires.some in
    record { within = c.requires.some; best = none_seen (superblocks_kept members) there.0.superblock (block_of members 0 there.0 there.1) }

pub loop-i-preserved : goal.loop-i-preserved
loop-i-preserved c =
    let members = c.args.members.now in
    let m = c.index-members-i.result in
    let best = c.index-members-freshest.result in
    let here = block_of members c.loop-i.i m (slice_get_read members (length members) c.loop-i.i m refl c.loop-i-test.true c.index-members-i.is) in
    let there = block_of members c.loop-i.freshest best (slice_get_read members (length members) c.loop-i.freshest best refl c.loop-i.invariant.within c.index-members-freshest.is) in
    let events : c.member.inside.superblock.events ≡ m.superblock.events = ap (λ (x : MemberView). x.superblock.events) c.member.view_is in
    let best_events : c.best.inside.superblock.events ≡ best.superblock.events = ap (λ (x : MemberView). x.superblock.events) c.best.view_is in
    elim c.if-member-best.branch [
      | then-member-best w ↦
          let more : best.superblock.events < m.superblock.events = omega arith in
          rw w.freshest-is (record { within = omega arith; best = better (superblocks_kept members) c.loop-i.i c.loop-i.freshest best.superblock m.superblock c.loop-i.invariant.best there here more })
      | else-member-best w ↦
          let no_more : m.superblock.events ≤ best.superblock.events = omega arith in
          rw w.freshest-is (record { within = c.loop-i.invariant.within; best = no_better (superblocks_kept members) c.loop-i.i c.loop-i.freshest best.superblock m.superblock c.loop-i.invariant.best there here no_more })
    ]

pub returns-clause-freshest : goal.returns-clause-freshest
returns-clause-freshest c =
    let members = c.args.members.now in
    let count = length-map members (λ (x : MemberView). x.superblock) in
    freshest_of_all (superblocks_kept members) c.loop-i.i c.loop-i.freshest (omega arith) c.loop-i.invariant.best
