use Rattle.std.proofs.Common.{ℕ, Bool, List, subst}
use Rattle.md_members.specs.Reading.{CallFails}
use Rattle.md_raw_reports.specs.RawMembers.Raw.{HasCounts}
use Rattle.md_raw_reports.proofs.RawMemberLemmas.Later.{fails_behind, marks_later}
use Rattle.md_raw_reports.proofs.raw_members.read_parts.read_bitmap_at.Goals as goal

pub returns-in-Ok-clause-reads : goal.returns-in-Ok-clause-reads
returns-in-Ok-clause-reads g c =
    let d = g.D.Device in
    let old = c.args.device.now in
    let mid = c.read_sectors.new.device in
    let new = c.count_marks-marks.new.device in
    let sector = c.read_sectors.new.buf in
    let marks = c.count_marks-marks.result in
    let counted = c.in-Ok.ensures.counted in
    let later = CallFails d mid new in (
      c.in-Ok.ensures.ok,
      marks_later (d.content old) (d.honest old) later (CallFails d old new) (λ P. fails_behind d old mid new P counted c.in-Ok.ensures.faults) c.args.start sector marks
          (subst (λ (b : List ℕ). HasCounts b (d.honest old) later c.args.start sector marks) c.in-Ok.ensures.kept
          (subst (λ (h : Bool). HasCounts (d.content mid) h later c.args.start sector marks) c.in-Ok.ensures.honest c.count_marks-marks.ensures.marks)),
    )
