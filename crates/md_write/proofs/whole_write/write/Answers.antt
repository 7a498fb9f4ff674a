use Rattle.std.proofs.Common.{◌≡◌, ◌∙◌, ◌/◌, ◌+◌, ◌-◌, refl, ap, subst, inr, length}
use Rattle.md_inflight.specs.Requests.Pending.{PendingView}
use Rattle.md_bitmap.specs.declared.chunks.Chunks.{Chunks}
use Rattle.md_write.specs.Progress.{Part, WritingFails}
use Rattle.md_write.proofs.Advancing.{advances_on, halts_later, ready_on, stays}
use Rattle.md_write.proofs.Whole.{chunks_begun, halts_write, running_begun, writes}
use Rattle.md_write.proofs.WrittenData.{chunks_later}
use Rattle.md_write.proofs.whole_write.write.Goals as goal

pub loop-pending-init : goal.loop-pending-init
loop-pending-init g c =
    let e = c.in_ok-pending.ensures in
    let begun = c.begin.new.self in
    let p = c.in_ok-pending.pending in
    let width : c.chunks.result.sectors ≡ begun.array.chunks.sectors = ap (λ (x : Chunks). x.sectors) c.chunks.ensures in
    let sectors : c.sectors-sectors.result ≡ length c.args.bytes.now / 512 = c.sectors-sectors.ensures ∙ ap (λ (x : PendingView). length x.bytes / 512) e.gives.pending in
    record {
      advances = stays Part.Marks p p begun e.sound refl;
      still = e.begun;
      running = running_begun c.args.sector c.args.bytes.now c.args.mirror.now begun p e.gives c.requires.sound e.sound;
      around = chunks_begun c.args.sector c.args.bytes.now c.args.mirror.now begun p e.gives c.requires.sound e.sound
          c.chunks_of-first.result.0 c.chunks_of-first.result.1
          (c.chunks_of-first.ensures.first ∙ ap (λ w. c.args.sector / w) width)
          (c.chunks_of-first.ensures.end ∙ ap (λ w. ((c.args.sector + c.sectors-sectors.result) - 1) / w + 1) width
          ∙ ap (λ m. ((c.args.sector + m) - 1) / begun.array.chunks.sectors + 1) sectors);
    }

pub returns-in-Err-Halted-clause-gives : goal.returns-in-Err-Halted-clause-gives
returns-in-Err-Halted-clause-gives g c =
    let e = c.in_ok-pending.ensures in
    let begun = c.begin.new.self in
    let p = c.in_ok-pending.pending in
    let q = c.loop-pending.pending in
    let r = c.write_once.new.pending in
    let new = c.write_once.new.mirror in
    let lost = subst (WritingFails Part.Marks q r c.loop-pending.mirror new) c.in-Err-Halted.field-0-is c.in-Err-Halted.ensures in
    inr (halts_write c.args.sector c.args.bytes.now c.args.mirror.now begun p e.gives c.requires.sound e.sound e.event r new
    (halts_later p q r begun c.loop-pending.mirror new Part.Marks Part.Marks c.loop-pending.invariant.advances lost))

pub returns-in-Err-Halted-clause-sound : goal.returns-in-Err-Halted-clause-sound
returns-in-Err-Halted-clause-sound g c =
    let lost = subst (WritingFails Part.Marks c.loop-pending.pending c.write_once.new.pending c.loop-pending.mirror c.write_once.new.mirror) c.in-Err-Halted.field-0-is c.in-Err-Halted.ensures in
    lost.halts.sound

pub returns-in-Err-Halted-clause-pending : goal.returns-in-Err-Halted-clause-pending
returns-in-Err-Halted-clause-pending g c o is =
    let lost = subst (WritingFails Part.Marks c.loop-pending.pending c.write_once.new.pending c.loop-pending.mirror c.write_once.new.mirror) c.in-Err-Halted.field-0-is c.in-Err-Halted.ensures in
    lost.halts.pending o (c.loop-pending.invariant.advances.goes.pending o (c.in_ok-pending.ensures.pending o is))

pub loop-pending-preserved : goal.loop-pending-preserved
loop-pending-preserved g c =
    let q = c.loop-pending.pending in
    let r = c.write_once.new.pending in
    let mid = c.loop-pending.mirror in
    let new = c.write_once.new.mirror in
    let lost = subst (WritingFails Part.Marks q r mid new) c.in-Err-MemberFailed.field-0-is c.in-Err-MemberFailed.ensures in
    record {
      advances = advances_on c.in_ok-pending.pending q r c.begin.new.self mid new Part.Marks Part.Marks c.loop-pending.invariant.advances Part.Marks lost.advances;
      still = lost.still;
      running = lost.halted ∙ c.loop-pending.invariant.running;
      around = chunks_later mid.array new.array q r _ _ lost.advances.goes.array lost.advances.later c.loop-pending.invariant.around;
    }

pub loop-pending-smaller : goal.loop-pending-smaller
loop-pending-smaller g c =
    let lost = subst (WritingFails Part.Marks c.loop-pending.pending c.write_once.new.pending c.loop-pending.mirror c.write_once.new.mirror) c.in-Err-MemberFailed.field-0-is c.in-Err-MemberFailed.ensures in
    lost.lost

pub returns-clause-gives : goal.returns-clause-gives
returns-clause-gives g c =
    let e = c.in_ok-pending.ensures in
    let begun = c.begin.new.self in
    let p = c.in_ok-pending.pending in
    let r = c.write_once.new.pending in
    let mid = c.write_once.new.mirror in
    let f = c.in-Ok-finish.ensures in
    let ready = ready_on p c.loop-pending.pending r begun c.loop-pending.mirror mid c.loop-pending.invariant.advances c.in-Ok.ensures in
    writes c.args.sector c.args.bytes.now c.args.mirror.now begun p e.gives c.requires.sound e.sound
    e.event r mid c.finish.new.self ready f.gives f.event
