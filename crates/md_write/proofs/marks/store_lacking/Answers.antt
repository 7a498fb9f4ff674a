use Rattle.md_write.specs.Progress.{HasMarksIn, IsMarkingOf}
use Rattle.md_metadata.proofs.StoredMembers.{nothing_at}
use Rattle.md_write.proofs.StoredMarks.{sector_lacks, stored_or_stops}
use Rattle.md_write.proofs.marks.store_lacking.Goals as goal
use Rattle.md_state.proofs.Members.At.{told}

pub returns-then-not-is_in_sync : goal.returns-then-not-is_in_sync
returns-then-not-is_in_sync g c =
    nothing_at (IsMarkingOf c.args.first c.args.end) (HasMarksIn c.args.block c.args.first c.args.end) c.args.k c.args.mirror.now c.requires.sound
    (λ n in_sync.
    let state = told (λ m. m.state) c.args.mirror.now.array c.args.k n c.state.result c.state.ensures in_sync.member in
    let yes = in_sync.in_sync in
    let answer = c.is_in_sync.ensures in
    let out = c.if-not-is_in_sync.true in
    absurd cc)

pub returns-then-has_marks : goal.returns-then-has_marks
returns-then-has_marks g c =
    nothing_at (IsMarkingOf c.args.first c.args.end) (HasMarksIn c.args.block c.args.first c.args.end) c.args.k c.args.mirror.now c.requires.sound
    (λ n in_sync x low high here.
    let has = (c.has_marks.ensures n in_sync.member).0 c.if-has_marks.true in
    let these = (c.chunks_in-from.ensures.chunks x).1 (low, high, here) in
    has x these.0 these.1)

pub store_sector-requires-clause-in_sync : goal.store_sector-requires-clause-in_sync
store_sector-requires-clause-in_sync g c m at =
    let state = told (λ x. x.state) c.args.mirror.now.array c.args.k m c.state.result c.state.ensures at in
    let answer = c.is_in_sync.ensures in
    let yes = c.if-not-is_in_sync.false in
    cc

pub store_sector-requires-clause-due : goal.store_sector-requires-clause-due
store_sector-requires-clause-due g c =
    sector_lacks c.args.mirror.now.array c.args.k c.args.block c.args.first c.args.end c.chunks_in-from.result.0 c.chunks_in-from.result.1 c.has_marks.result c.requires.marked
    c.chunks_in-from.ensures.chunks c.if-has_marks.false c.has_marks.ensures

pub returns : goal.returns
returns g c =
    let due = sector_lacks c.args.mirror.now.array c.args.k c.args.block c.args.first c.args.end c.chunks_in-from.result.0 c.chunks_in-from.result.1 c.has_marks.result c.requires.marked
    c.chunks_in-from.ensures.chunks c.if-has_marks.false c.has_marks.ensures in
    stored_or_stops c.args.k c.args.block c.args.first c.args.end c.args.mirror.now c.store_sector.new.mirror c.requires.marked c.requires.bits c.requires.sound due c.store_sector.result c.store_sector.ensures
