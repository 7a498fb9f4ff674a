use Rattle.md_array.specs.InTurn.{HasSector}
use Rattle.md_metadata.specs.Storing.{IsMarking}
use Rattle.md_metadata.proofs.StoredMembers.{nothing_at}
use Rattle.md_metadata.proofs.StoredSectors.{sector_or_stops, unlike_due, unlike_in_sync}
use Rattle.md_metadata.proofs.all_marks.store_unlike.Goals as goal
use Rattle.md_metadata.proofs.all_marks.store_unlike.Goals.{then-not-is_in_sync-via-then-not-is_in_sync, then-not-is_in_sync-via-else-not-is_in_sync+then-has_sector}
use Rattle.md_state.proofs.Members.At.{told}

pub returns-then-not-is_in_sync-clause-gives : goal.returns-then-not-is_in_sync-clause-gives
returns-then-not-is_in_sync-clause-gives g c =
    let a = c.args.mirror.now.array in
    nothing_at IsMarking (HasSector a c.args.block) c.args.k c.args.mirror.now c.requires.sound
    (λ n in_sync.
    let state = told (λ m. m.state) a c.args.k n c.state.result c.state.ensures in_sync.member in
    let yes = in_sync.in_sync in
    let answer = c.is_in_sync.ensures in
    elim c.then-not-is_in_sync.branch [
      | then-not-is_in_sync-via-then-not-is_in_sync w ↦ let out = w.if-not-is_in_sync.true in absurd cc
      | then-not-is_in_sync-via-else-not-is_in_sync+then-has_sector w ↦ (w.has_sector.ensures n in_sync.member).0 w.if-has_sector.true
    ])

pub returns-clause-gives : goal.returns-clause-gives
returns-clause-gives g c =
    let old = c.args.mirror.now in
    sector_or_stops c.args.k c.args.block old c.store_sector.new.mirror c.requires.sound
    (unlike_due old.array c.args.k c.args.block c.has_sector.result c.if-has_sector.false c.has_sector.ensures) c.store_sector.result c.store_sector.ensures

pub returns-clause-in_sync : goal.returns-clause-in_sync
returns-clause-in_sync g c =
    unlike_in_sync c.args.k c.args.block c.args.mirror.now c.store_sector.new.mirror
    (λ m at.
    let state = told (λ x. x.state) c.args.mirror.now.array c.args.k m c.state.result c.state.ensures at in
    let answer = c.is_in_sync.ensures in
    let yes = c.if-not-is_in_sync.false in
    cc)
    c.store_sector.result c.store_sector.ensures
